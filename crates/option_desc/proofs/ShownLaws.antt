-- What is shown of a value that fits reads as that value.
use Rattle.std.proofs.Common.{◌≡◌, ◌<◌, ◌≤◌, ◌+◌, ◌^◌, ◌/◌, ◌⊎◌, ℕ, ℤ, pos, negsuc, suc, Bool, true, false, List, [], ◌∷◌, ◌++◌, length, take, map, get_or, inl, inr, arith, refl, sym, ap, ◌∙◌, subst, FitsSigned, w32}
use Rattle.std.specs.Prelude.{Result, Ok, Err, IfOk, OnOk, Some, All, codes, if◌then◌else◌, unsigned_abs, nat_lt, nat_le}
use Rattle.std.specs.Fmt.{decimal, signed_decimal}
use Rattle.std.specs.List.{join_with_byte}
use Rattle.std.proofs.lemmas.Int.{ints}
use Rattle.std.proofs.lemmas.Bool.Decides.{nat_tests}
use Rattle.std.proofs.lemmas.Fmt.{decimal_is_IsNumeral, length-decimal-le}
use Rattle.std.proofs.lemmas.List.{take_more, take_all, append_assoc, length-take}
use Rattle.std.proofs.lemmas.List.Elements.{All-nil, All-push}
use Rattle.sane_fixed.specs.declared.kind.Kind.{Kind}
use Rattle.sane_fixed.specs.declared.kind.Kind.TheVariants as kind
use Rattle.sane_fixed.specs.Text.{IsText}
use Rattle.sane_fixed.specs.Decimal.{sign_text, word_of}
use Rattle.sane_fixed.specs.ExactDecimal.{exact_decimal}
use Rattle.sane_fixed.proofs.TextLaws.{IsText-none, IsText-cons, IsText-append, IsText-digits}
use Rattle.sane_fixed.proofs.ExactDecimalLaws.{IsExactDecimal-exact_decimal, SpellsFixed-exact}
use Rattle.option_desc.specs.declared.descriptor.Descriptor.{Descriptor}
use Rattle.option_desc.specs.declared.value.Value.{Value}
use Rattle.option_desc.specs.declared.value.Value.TheVariants.{Flag, Int, Fixed, Words, Text}
use Rattle.option_desc.specs.Fits.{Fits}
use Rattle.option_desc.specs.Representable.{IsRepresentable}
use Rattle.option_desc.specs.Reads.{SpellsInteger, SpellsWord, SpellsEach, SpellsWords, ReadsAsValue, read_value}
use Rattle.option_desc.proofs.ReadLaws.{read-Reads}
use Rattle.option_desc.specs.ShownText.{word_text, shown_text}

-- ---- integers

word_below : (n : ℕ) → n < 2 ^ 31 → word_of false n ≡ Some (pos n)
word_below n h = let e : nat_lt n 2147483648 ≡ true = grind (arith, nat_tests) in rw e refl

word_above : (n : ℕ) → n < 2 ^ 31 → word_of true (suc n) ≡ Some (negsuc n)
word_above n h = let e : nat_le (suc n) 2147483648 ≡ true = grind (arith, nat_tests) in rw e refl

digits_of : (n : ℕ) (negative : Bool) (word : ℤ) → n ≤ 2 ^ 31 → word_of negative n ≡ Some word → SpellsInteger (sign_text negative ++ decimal n) word
digits_of n negative word small is =
    let wide : n < 2 ^ 64 = omega arith in
    let ten : n < 10 ^ 10 = omega arith in
    let numeral = decimal_is_IsNumeral n wide in
    record {
      negative = negative;
      digits = decimal n;
      text_is = refl;
      all_digits = numeral.0.1;
      some = numeral.0.0;
      most = length-decimal-le 10 n (omega arith) ten wide;
      word_is = ap (word_of negative) numeral.1 ∙ is;
    }

pub SpellsInteger-signed_decimal : (word : ℤ) → FitsSigned w32 word → SpellsInteger (signed_decimal word) word
SpellsInteger-signed_decimal (pos n) fits = let h : n < 2 ^ 31 = omega (arith, ints) in digits_of n false (pos n) (omega arith) (word_below n h)
SpellsInteger-signed_decimal (negsuc n) fits = let h : n < 2 ^ 31 = omega (arith, ints) in digits_of (suc n) true (negsuc n) (omega arith) (word_above n h)

pub abs_fits : (word : ℤ) → FitsSigned w32 word → unsigned_abs word ≤ 2 ^ 31
abs_fits (pos n) fits = let h : n < 2 ^ 31 = omega (arith, ints) in omega arith
abs_fits (negsuc n) fits = let h : n < 2 ^ 31 = omega (arith, ints) in omega arith

SpellsFixed-shown : (word : ℤ) → FitsSigned w32 word → SpellsWord kind.Fixed (exact_decimal word) word
SpellsFixed-shown word fits = SpellsFixed-exact (exact_decimal word) word fits (IsExactDecimal-exact_decimal word (abs_fits word fits))

-- ---- words

first_holds : (word : ℤ) (words : List ℤ) → All (FitsSigned w32) (word ∷ words) → FitsSigned w32 word
first_holds word words all = all 0 word (omega arith)

rest_hold : (word : ℤ) (words : List ℤ) → All (FitsSigned w32) (word ∷ words) → All (FitsSigned w32) words
rest_hold word words all = λ k d h. all (suc k) d (omega arith)

each_int : (words : List ℤ) → All (FitsSigned w32) words → SpellsEach kind.Int (map (word_text kind.Int) words) words
each_int [] all = tt
each_int (word ∷ words) all = (SpellsInteger-signed_decimal word (first_holds word words all), each_int words (rest_hold word words all))

each_fixed : (words : List ℤ) → All (FitsSigned w32) words → SpellsEach kind.Fixed (map (word_text kind.Fixed) words) words
each_fixed [] all = tt
each_fixed (word ∷ words) all = (SpellsFixed-shown word (first_holds word words all), each_fixed words (rest_hold word words all))

length-texts : (k : Kind) (words : List ℤ) → length (map (word_text k) words) ≡ length words
length-texts k [] = refl
length-texts k (word ∷ words) = ap suc (length-texts k words)

spells_all : (k : Kind) (words : List ℤ) → 1 ≤ length words → SpellsEach k (map (word_text k) words) words → SpellsWords k (join_with_byte 44 (map (word_text k) words)) words
spells_all k words some each = record { pieces = map (word_text k) words; text_is = refl; some = omega (arith, length-texts k words); each = each }

words_read : (k : Kind) (words : List ℤ) → ((k ≡ kind.Int) ⊎ (k ≡ kind.Fixed)) → 1 ≤ length words → All (FitsSigned w32) words → SpellsWords k (join_with_byte 44 (map (word_text k) words)) words
words_read k words one some all = elim one [
  | inl e ↦ subst (λ j. SpellsWords j (join_with_byte 44 (map (word_text j) words)) words) (sym e) (spells_all kind.Int words some (each_int words all))
  | inr e ↦ subst (λ j. SpellsWords j (join_with_byte 44 (map (word_text j) words)) words) (sym e) (spells_all kind.Fixed words some (each_fixed words all))
]

some_words : (size n : ℕ) → 4 < size → n ≡ size / 4 → 1 ≤ n
some_words size n more is = omega arith

pub Reads-shown : (desc : Descriptor) (value : Value) → Fits desc value → IsRepresentable value → ReadsAsValue desc (shown_text desc value) value
Reads-shown desc (Flag true) fits held = (fits.0, refl)
Reads-shown desc (Flag false) fits held = (fits.0, refl)
Reads-shown desc (Int word) fits held = (fits.0, fits.1, SpellsInteger-signed_decimal word held)
Reads-shown desc (Fixed fixed) fits held = (fits.0, fits.1, SpellsFixed-shown fixed.0 held)
Reads-shown desc (Words words) fits held = (fits.1, words_read desc.kind words fits.0 (some_words desc.size (length words) fits.1 fits.2) held)
Reads-shown desc (Text text) fits held = (fits.0, refl, held)

-- ---- no NUL

pub IsText-signed_decimal : (word : ℤ) → FitsSigned w32 word → IsText (signed_decimal word)
IsText-signed_decimal (pos n) fits = let h : n < 2 ^ 64 = omega (arith, ints) in IsText-digits (decimal n) (decimal_is_IsNumeral n h).0.1
IsText-signed_decimal (negsuc n) fits = let h : suc n < 2 ^ 64 = omega (arith, ints) in IsText-cons 45 (decimal (suc n)) (omega arith) (IsText-digits (decimal (suc n)) (decimal_is_IsNumeral (suc n) h).0.1)

-- ---- joined word by word

-- the words before place i are shown, and have 32 bits
pub record ShownBelow (k : Kind) (words : List ℤ) (i : ℕ) (text : List ℕ) : Type 0 where
  pub joined : text ≡ join_with_byte 44 (map (word_text k) (take i words))
  pub held : All (FitsSigned w32) (take i words)
  pub clean : IsText text

pub ShownBelow-none : (k : Kind) (words : List ℤ) → ShownBelow k words 0 []
ShownBelow-none k words = record { joined = refl; held = All-nil (FitsSigned w32); clean = IsText-none }

join-more : (c : ℕ) (y : List ℕ) (ys : List (List ℕ)) (x : List ℕ) → join_with_byte c ((y ∷ ys) ++ x ∷ []) ≡ join_with_byte c (y ∷ ys) ++ c ∷ x
join-more c y [] x = refl
join-more c y (z ∷ ys) x = ap (λ l. y ++ (c ∷ l)) (join-more c z ys x) ∙ sym (append_assoc y (c ∷ join_with_byte c (z ∷ ys)) (c ∷ x))

map-push : (k : Kind) (words : List ℤ) (word : ℤ) → map (word_text k) (words ++ word ∷ []) ≡ map (word_text k) words ++ word_text k word ∷ []
map-push k [] word = refl
map-push k (w ∷ words) word = ap (λ l. word_text k w ∷ l) (map-push k words word)

join-first : (k : Kind) (words : List ℤ) (word : ℤ) → length words ≡ 0 → join_with_byte 44 (map (word_text k) (words ++ word ∷ [])) ≡ word_text k word
join-first k [] word none = refl
join-first k (w ∷ words) word none = absurd (let h : suc (length words) ≡ 0 = none in omega arith)

join-next : (k : Kind) (words : List ℤ) (word : ℤ) → 0 < length words → join_with_byte 44 (map (word_text k) (words ++ word ∷ [])) ≡ join_with_byte 44 (map (word_text k) words) ++ 44 ∷ word_text k word
join-next k [] word some = absurd (let h : 0 < 0 = some in omega arith)
join-next k (w ∷ words) word some = ap (join_with_byte 44) (map-push k (w ∷ words) word) ∙ join-more 44 (word_text k w) (map (word_text k) words) (word_text k word)

front_length : (words : List ℤ) (i : ℕ) → i < length words → length (take i words) ≡ i
front_length words i within = omega (arith, length-take i words)

pub ShownBelow-first : (k : Kind) (words : List ℤ) (i : ℕ) (word : ℤ) (old new shown_text : List ℕ) → i < length words → word ≡ get_or words i word → FitsSigned w32 word → i ≡ 0 → ShownBelow k words i old → shown_text ≡ word_text k word → IsText shown_text → new ≡ old ++ shown_text → ShownBelow k words (i + 1) new
ShownBelow-first k words i word old new shown_text within at fits first below is clean made =
    let more : take (i + 1) words ≡ take i words ++ word ∷ [] = take_more words i word within ∙ ap (λ w. take i words ++ w ∷ []) (sym at) in
    let none : length (take i words) ≡ 0 = front_length words i within ∙ first in
    let empty : old ≡ [] = below.joined ∙ ap (λ n. join_with_byte 44 (map (word_text k) (take n words))) first in
    record {
      joined = made ∙ ap (λ l. l ++ shown_text) empty ∙ is ∙ sym (ap (λ ws. join_with_byte 44 (map (word_text k) ws)) more ∙ join-first k (take i words) word none);
      held = subst (All (FitsSigned w32)) (sym more) (All-push (FitsSigned w32) (take i words) word below.held fits);
      clean = subst IsText (sym made) (IsText-append old shown_text below.clean clean);
    }

pub ShownBelow-next : (k : Kind) (words : List ℤ) (i : ℕ) (word : ℤ) (old mid new shown_text : List ℕ) → i < length words → word ≡ get_or words i word → FitsSigned w32 word → 0 < i → ShownBelow k words i old → shown_text ≡ word_text k word → IsText shown_text → mid ≡ old ++ 44 ∷ [] → new ≡ mid ++ shown_text → ShownBelow k words (i + 1) new
ShownBelow-next k words i word old mid new shown_text within at fits later below is clean comma made =
    let more : take (i + 1) words ≡ take i words ++ word ∷ [] = take_more words i word within ∙ ap (λ w. take i words ++ w ∷ []) (sym at) in
    let some : 0 < length (take i words) = omega (arith, front_length words i within) in
    let whole : new ≡ old ++ 44 ∷ shown_text = made ∙ ap (λ l. l ++ shown_text) comma ∙ append_assoc old (44 ∷ []) shown_text in
    record {
      joined = whole ∙ ap (λ l. l ++ 44 ∷ shown_text) below.joined ∙ ap (λ s. join_with_byte 44 (map (word_text k) (take i words)) ++ 44 ∷ s) is ∙ sym (ap (λ ws. join_with_byte 44 (map (word_text k) ws)) more ∙ join-next k (take i words) word some);
      held = subst (All (FitsSigned w32)) (sym more) (All-push (FitsSigned w32) (take i words) word below.held fits);
      clean = subst IsText (sym whole) (IsText-append old (44 ∷ shown_text) below.clean (IsText-cons 44 shown_text (omega arith) clean));
    }

-- ---- what is shown of a value in memory

pub shown_reads : {E : Type 0} (desc : Descriptor) (value own : Value) (r : Result (List ℕ) E) → value ≡ own → IfOk r (λ text. text ≡ shown_text desc own) → OnOk r (IsRepresentable own) → Fits desc value → IfOk r (λ text. read_value desc text ≡ Some value)
shown_reads desc value own (Ok text) same is held fits =
    subst (λ v. read_value desc text ≡ Some v) (sym same)
    (ap (read_value desc) is ∙ read-Reads desc (shown_text desc own) own (Reads-shown desc own (subst (Fits desc) same fits) held))
shown_reads desc value own (Err e) same is held fits = tt

pub always_held : {E A : Type 0} (r : Result A E) (P : Type 0) → P → OnOk r P
always_held (Ok a) P p = p
always_held (Err e) P p = tt

pub ShownBelow-all : (k : Kind) (words : List ℤ) (i : ℕ) (text : List ℕ) → length words ≤ i → ShownBelow k words i text → (text ≡ join_with_byte 44 (map (word_text k) words)) × All (FitsSigned w32) words
ShownBelow-all k words i text all s =
    let whole = take_all i words all in
    (s.joined ∙ ap (λ ws. join_with_byte 44 (map (word_text k) ws)) whole, subst (All (FitsSigned w32)) whole s.held)

pub flag_held : {E : Type 0} (r : Result (List ℕ) E) (desc : Descriptor) (flag : Bool) → IfOk r (λ text. text ≡ (if flag then codes "yes" else codes "no")) → IfOk r (λ text. text ≡ shown_text desc (Flag flag))
flag_held (Ok text) desc true is = is
flag_held (Ok text) desc false is = is
flag_held (Err e) desc flag is = tt
