-- What is computed of a text is what it reads as.
use Rattle.std.proofs.Common.{◌≡◌, ◌<◌, ◌≤◌, ◌==◌, ◌&&◌, ℕ, ℤ, Bool, true, false, cond, List, [], ◌∷◌, ◌++◌, length, arith, refl, sym, ap, ◌∙◌, subst}
use Rattle.std.specs.Prelude.{Option, Some, None, option_map, nat_le, All}
use Rattle.std.specs.Char.{digit_value}
use Rattle.std.specs.List.{join_with_byte}
use Rattle.std.specs.Str.Parse.{AllDigits, digits_value}
use Rattle.std.proofs.lemmas.Bool.{and_parts}
use Rattle.std.proofs.lemmas.Bool.Decides.{nat_tests}
use Rattle.std.proofs.lemmas.Option.{option_and_then_some}
use Rattle.std.proofs.lemmas.List.Elements.{All-nil, All-cons, All-append}
use Rattle.std.proofs.lemmas.List.Splits.{slice_split_none, slice_split_at, join_with_byte-slice_split, length-slice_split}
use Rattle.sane_fixed.specs.declared.kind.Kind.{Kind}
use Rattle.sane_fixed.specs.declared.kind.Kind.TheVariants as kind
use Rattle.sane_fixed.specs.Digits.{digit_count}
use Rattle.sane_fixed.specs.Decimal.{sign_text, fraction_text, word_of}
use Rattle.sane_fixed.specs.DecimalReading.{sign_at}
use Rattle.sane_fixed.proofs.DigitLemmas.{AllDigits-whole, digit_count-whole}
use Rattle.sane_fixed.proofs.DecimalLaws.{spells_from_fixed_of, fixed_of-spells}
use Rattle.option_desc.specs.Reads.{SpellsInteger, SpellsWord, SpellsEach, SpellsWords, integer_of, word_in, words_in, pieces_of}

pub some_is : {X : Type 0} (a b : X) → ◌≡◌ {A = Option X} (Some a) (Some b) → a ≡ b
some_is a b e = (cc)

pub no_some : {X : Type 0} (a : X) → ◌≡◌ {A = Option X} None (Some a) → ⊥
no_some a e = (cc)

-- ---- integers

is_minus : (b : ℕ) → (b == 45) ≡ true → b ≡ 45
is_minus b h = grind (arith, nat_tests)

digit_is_no_minus : (b : ℕ) → digit_value b < 10 → (b == 45) ≡ false
digit_is_no_minus b h = grind (arith, nat_tests)

sign_found : (text : List ℕ) → text ≡ sign_text (sign_at text).0 ++ (sign_at text).1
sign_found [] = refl
sign_found (b ∷ bytes) =
    let P : Bool → Type 0 = λ t. (b == 45) ≡ t → b ∷ bytes ≡ sign_text (cond {A = Bool × List ℕ} t (true, bytes) (false, b ∷ bytes)).0 ++ (cond {A = Bool × List ℕ} t (true, bytes) (false, b ∷ bytes)).1 in
    elim (b == 45) as P [ true ↦ λ e. ap (λ n. n ∷ bytes) (is_minus b e) | false ↦ λ e. refl ] refl

sign_at-text : (negative : Bool) (digits : List ℕ) → AllDigits 10 digits → 1 ≤ length digits → sign_at (sign_text negative ++ digits) ≡ (negative, digits)
sign_at-text true digits all some = refl
sign_at-text false [] all some = absurd (let h : 1 ≤ 0 = some in omega arith)
sign_at-text false (d ∷ ds) all some = rw (digit_is_no_minus d all.0) refl

abbrev is_digits : List ℕ → Bool
is_digits digits = (digit_count digits == length digits) && (nat_le 1 (length digits) && nat_le (length digits) 10)

record TenDigits (digits : List ℕ) : Type 0 where
  pub all_digits : AllDigits 10 digits
  pub some : 1 ≤ length digits
  pub most : length digits ≤ 10

ten_digits : (digits : List ℕ) → is_digits digits ≡ true → TenDigits digits
ten_digits digits e =
    let outer = and_parts (digit_count digits == length digits) (nat_le 1 (length digits) && nat_le (length digits) 10) e in
    let inner = and_parts (nat_le 1 (length digits)) (nat_le (length digits) 10) outer.1 in
    let all : digit_count digits ≡ length digits = grind (arith, nat_tests) in
    record { all_digits = AllDigits-whole digits all; some = grind (arith, nat_tests); most = grind (arith, nat_tests) }

digits_ten : (digits : List ℕ) → AllDigits 10 digits → 1 ≤ length digits → length digits ≤ 10 → is_digits digits ≡ true
digits_ten digits all some most =
    let count = digit_count-whole digits all in
    let same : (digit_count digits == length digits) ≡ true = grind (arith, nat_tests) in
    let low : nat_le 1 (length digits) ≡ true = grind (arith, nat_tests) in
    let high : nat_le (length digits) 10 ≡ true = grind (arith, nat_tests) in
    rw (same, low, high) refl

pub cond_option : {X : Type 0} (t : Bool) (o : Option X) (x : X) → cond t o None ≡ Some x → (t ≡ true) × (o ≡ Some x)
cond_option true o x e = (refl, e)
cond_option false o x e = absurd (no_some x e)

pub integer_found : (text : List ℕ) (word : ℤ) → integer_of text ≡ Some word → SpellsInteger text word
unfolding integer_of
integer_found text word e =
    let both = cond_option (is_digits (sign_at text).1) (word_of (sign_at text).0 (digits_value 10 (sign_at text).1)) word e in
    let ten = ten_digits (sign_at text).1 both.0 in
    record {
      negative = (sign_at text).0;
      digits = (sign_at text).1;
      text_is = sign_found text;
      all_digits = ten.all_digits;
      some = ten.some;
      most = ten.most;
      word_is = both.1;
    }

pub integer_is : (text : List ℕ) (word : ℤ) → SpellsInteger text word → integer_of text ≡ Some word
unfolding integer_of
integer_is text word s =
    let sign : sign_at text ≡ (s.negative, s.digits) = ap sign_at s.text_is ∙ sign_at-text s.negative s.digits s.all_digits s.some in
    rw (sign, digits_ten s.digits s.all_digits s.some s.most) s.word_is

-- ---- words

pub word_found : (k : Kind) (text : List ℕ) (word : ℤ) → word_in k text ≡ Some word → SpellsWord k text word
word_found kind.Bool text word e = absurd (no_some word e)
word_found kind.Int text word e = integer_found text word e
word_found kind.Fixed text word e = spells_from_fixed_of text word e
word_found kind.String text word e = absurd (no_some word e)
word_found kind.Button text word e = absurd (no_some word e)
word_found kind.Group text word e = absurd (no_some word e)

pub word_is : (k : Kind) (text : List ℕ) (word : ℤ) → SpellsWord k text word → word_in k text ≡ Some word
word_is kind.Bool text word s = absurd s
word_is kind.Int text word s = integer_is text word s
word_is kind.Fixed text word s = fixed_of-spells text word s
word_is kind.String text word s = absurd s
word_is kind.Button text word s = absurd s
word_is kind.Group text word s = absurd s

words_at : (k : Kind) (piece : List ℕ) (pieces : List (List ℕ)) (word : ℤ) (words : List ℤ) (o : Option (List ℤ)) → SpellsWord k piece word → words_in k pieces ≡ o → ((ws : List ℤ) → o ≡ Some ws → SpellsEach k pieces ws) → option_map (λ ws. word ∷ ws) o ≡ Some words → SpellsEach k (piece ∷ pieces) words
words_at k piece pieces word words None s e more f = absurd (no_some words f)
words_at k piece pieces word words (Some ws) s e more f = subst (SpellsEach k (piece ∷ pieces)) (some_is (word ∷ ws) words f) (s, more ws refl)

pub words_found : (k : Kind) (pieces : List (List ℕ)) (words : List ℤ) → words_in k pieces ≡ Some words → SpellsEach k pieces words
words_found k [] words e = subst (SpellsEach k []) (some_is [] words e) tt
words_found k (piece ∷ pieces) words e =
    option_and_then_some (λ word. option_map (λ ws. word ∷ ws) (words_in k pieces)) (word_in k piece) words e (λ word at rest.
    words_at k piece pieces word words (words_in k pieces) (word_found k piece word at) refl (λ ws f. words_found k pieces ws f) rest)

pub words_are : (k : Kind) (pieces : List (List ℕ)) (words : List ℤ) → SpellsEach k pieces words → words_in k pieces ≡ Some words
words_are k [] [] s = refl
words_are k [] (word ∷ words) s = absurd s
words_are k (piece ∷ pieces) [] s = absurd s
words_are k (piece ∷ pieces) (word ∷ words) s = rw (word_is k piece word s.0, words_are k pieces words s.1) refl

-- ---- between commas

abbrev NoComma : List ℕ → Type 0
NoComma text = All (λ b. (b == 44) ≡ false) text

abbrev pub is_comma : ℕ → Bool
is_comma b = b == 44

digit_is_no_comma : (b : ℕ) → digit_value b < 10 → (b == 44) ≡ false
digit_is_no_comma b h = grind (arith, nat_tests)

digits_no_comma : (digits : List ℕ) → AllDigits 10 digits → NoComma digits
digits_no_comma [] all = All-nil (λ b. (b == 44) ≡ false)
digits_no_comma (d ∷ ds) all = All-cons (λ b. (b == 44) ≡ false) d ds (digit_is_no_comma d all.0) (digits_no_comma ds all.1)

sign_no_comma : (negative : Bool) → NoComma (sign_text negative)
sign_no_comma true = All-cons (λ b. (b == 44) ≡ false) 45 [] refl (All-nil (λ b. (b == 44) ≡ false))
sign_no_comma false = All-nil (λ b. (b == 44) ≡ false)

fraction_no_comma : (digits : List ℕ) → AllDigits 10 digits → NoComma (fraction_text digits)
fraction_no_comma [] all = All-nil (λ b. (b == 44) ≡ false)
fraction_no_comma (d ∷ ds) all = All-cons (λ b. (b == 44) ≡ false) 46 (d ∷ ds) refl (digits_no_comma (d ∷ ds) all)

joined_no_comma : (xs ys : List ℕ) → NoComma xs → NoComma ys → NoComma (xs ++ ys)
joined_no_comma xs ys x y = All-append (λ b. (b == 44) ≡ false) xs ys x y

word_no_comma : (k : Kind) (text : List ℕ) (word : ℤ) → SpellsWord k text word → NoComma text
word_no_comma kind.Bool text word s = absurd s
word_no_comma kind.Int text word s = subst NoComma (sym s.text_is) (joined_no_comma (sign_text s.negative) s.digits (sign_no_comma s.negative) (digits_no_comma s.digits s.all_digits))
word_no_comma kind.Fixed text word s =
    let d = s.is_decimal in
    subst NoComma (sym d.text_is) (joined_no_comma (sign_text s.negative) (s.whole ++ fraction_text s.fraction) (sign_no_comma s.negative) (joined_no_comma s.whole (fraction_text s.fraction) (digits_no_comma s.whole d.whole_digits) (fraction_no_comma s.fraction d.fraction_digits)))
word_no_comma kind.String text word s = absurd s
word_no_comma kind.Button text word s = absurd s
word_no_comma kind.Group text word s = absurd s

split-joined : (k : Kind) (pieces : List (List ℕ)) (words : List ℤ) → 1 ≤ length pieces → SpellsEach k pieces words → pieces_of (join_with_byte 44 pieces) ≡ pieces
split-joined k [] words some each = absurd (let h : 1 ≤ 0 = some in omega arith)
split-joined k (piece ∷ pieces) [] some each = absurd each
split-joined k (piece ∷ []) (word ∷ words) some each = slice_split_none is_comma piece (word_no_comma k piece word each.0)
split-joined k (piece ∷ next ∷ pieces) (word ∷ words) some each =
    slice_split_at is_comma piece 44 (join_with_byte 44 (next ∷ pieces)) (word_no_comma k piece word each.0) refl
    ∙ ap (λ l. piece ∷ l) (split-joined k (next ∷ pieces) words (omega arith) each.1)

pub spells_found : (k : Kind) (text : List ℕ) (words : List ℤ) → words_in k (pieces_of text) ≡ Some words → SpellsWords k text words
spells_found k text words e = record {
  pieces = pieces_of text;
  text_is = sym (join_with_byte-slice_split 44 text);
  some = omega (arith, length-slice_split is_comma text);
  each = words_found k (pieces_of text) words e;
}

pub spells_is : (k : Kind) (text : List ℕ) (words : List ℤ) → SpellsWords k text words → words_in k (pieces_of text) ≡ Some words
spells_is k text words s =
    ap (λ t. words_in k (pieces_of t)) s.text_is ∙ ap (words_in k) (split-joined k s.pieces words s.some s.each) ∙ words_are k s.pieces words s.each
