-- What is written of constraints is a spelling of them, and what is refused has none.
use Rattle.std.proofs.Common.{◌≡◌, ℕ, zero, suc, ◌-◌, ◌≤◌, ◌<◌, ◌^◌, Bool, true, false, cond, eqb, ◌||◌, List, [], ◌∷◌, ◌++◌, length, Option, Some, None, Ok, Err, refl, sym, ap, subst, ◌∙◌, arith, append_assoc, ◌⊎◌, inl, inr, ℤ, pos, negsuc, int_lt, FitsSigned, ◌≤ℤ◌}
use Rattle.std.specs.Prelude.{nat_lt}
use Rattle.std.specs.Int.{w32, to_be_bytes, cast_signed, cast_unsigned}
use Rattle.std.proofs.lemmas.Bool.{cases_lt, lt-ltb, le-ltb, ltb-false}
use Rattle.std.proofs.lemmas.Bool.Decides.{nat_tests}
use Rattle.std.proofs.lemmas.Int.{ints, to_z-of_z, of_z-to_z}
use Rattle.std.proofs.lemmas.List.{append-nil}
use Rattle.wire_format.specs.declared.fault.Fault.TheVariants.{BadValue, TooLong}
use Rattle.wire_format.specs.Format.{after, places}
use Rattle.wire_format.specs.WordKinds.{word_of_kind, between}
use Rattle.wire_format.specs.Writer.{WritesFormat, append_text, IsFirstPart, write_places}
use Rattle.wire_format.proofs.Writers.{after-writes}
use Rattle.constraint.specs.Admitted.{Bounds, IsRange}
use Rattle.option_desc.specs.declared.descriptor.Constraint.{Constraint}
use Rattle.option_desc.specs.declared.descriptor.Constraint.TheVariants as constraints
use Rattle.wire_message.specs.Kinds.{length_from, place, at_least}
use Rattle.wire_message.specs.Message.{from_to, up_to, word, signed_word, range, word_list, text_format_of, entry, last_entry_of, last_entry, only_entry, no_entry, Last, Entry, Null, Either, last_in, last_of, string_list, constraint_of, constraint}
use Rattle.wire_writing.specs.RequestWriting.{code_text, write_up_to, write_text_of, write_string}
use Rattle.wire_writing.specs.ReplyWriting.{signed_text, write_signed, bounds_text, range_text, is_no_list, word_list_text, string_list_text, constraint_long, constraint_text}
use Rattle.wire_writing.proofs.Spelled.{exact, text-writes, text_length}
use Rattle.wire_writing.proofs.AtValue.{At, same_at, there, nowhere, joined_front, joined_assoc, behind_front, behind_only, made_at, word_spelled, code_at_most, word_fits, if_few, AllSpelled, places_all, all_append, counted_at, ended_at}

-- ---- signed words

pub signed_there : (z : ℤ) → FitsSigned w32 z → signed_text z ≡ code_text (cast_unsigned w32 z)
unfolding signed_text
signed_there (pos n) f = let t : nat_lt 2147483647 n ≡ false = le-ltb 2147483647 n (omega (arith, f.sfits)) in rw t refl
signed_there (negsuc n) f = let t : nat_lt 2147483647 n ≡ false = le-ltb 2147483647 n (omega (arith, f.sfits)) in rw t refl

-- what is written of a number, which 32 bits then hold
signed_some : (z : ℤ) (text : List ℕ) → signed_text z ≡ Some text → FitsSigned w32 z × (text ≡ to_be_bytes w32 (cast_unsigned w32 z))
unfolding signed_text
signed_some (pos n) text e =
    elim (cases_lt 2147483647 n) [
      | inl h ↦ let t : nat_lt 2147483647 n ≡ true = lt-ltb 2147483647 n h in let no = rw t at e in absurd (cc no)
      | inr le ↦ let t : nat_lt 2147483647 n ≡ false = le-ltb 2147483647 n le in let is = rw t at e in (record { sfits = omega (arith, le) }, cc is)
    ]
signed_some (negsuc n) text e =
    elim (cases_lt 2147483647 n) [
      | inl h ↦ let t : nat_lt 2147483647 n ≡ true = lt-ltb 2147483647 n h in let no = rw t at e in absurd (cc no)
      | inr le ↦ let t : nat_lt 2147483647 n ≡ false = le-ltb 2147483647 n le in let is = rw t at e in (record { sfits = omega (arith, le) }, cc is)
    ]

unsigned_fits : (z : ℤ) → FitsSigned w32 z → cast_unsigned w32 z < 2 ^ 32
unsigned_fits (pos n) f = omega (arith, f.sfits)
unsigned_fits (negsuc n) f = omega (arith, f.sfits)

signed_fits : (n : ℕ) → n < 2 ^ 32 → FitsSigned w32 (cast_signed w32 n)
signed_fits n fits =
    elim (cases_lt n 2147483648) [
      | inl h ↦ let t : nat_lt n 2147483648 ≡ true = lt-ltb n 2147483648 h in rw t (record { sfits = omega (arith, h) })
      | inr le ↦ let t : nat_lt n 2147483648 ≡ false = le-ltb n 2147483648 le in rw t (record { sfits = omega (arith, le) })
    ]

signed_of : (n : ℕ) → n < 2 ^ 32 → signed_text (cast_signed w32 n) ≡ code_text n
signed_of n fits = signed_there (cast_signed w32 n) (signed_fits n fits) ∙ ap code_text (of_z-to_z w32 n fits)

unsigned_word : (z : ℤ) → FitsSigned w32 z → word.spells (to_be_bytes w32 (cast_unsigned w32 z)) (cast_unsigned w32 z)
unsigned_word z f = let fits = unsigned_fits z f in word_spelled 0 4294967295 (cast_unsigned w32 z) (omega arith) (omega (arith, fits)) fits

pub signed-writes : (z : ℤ) → WritesFormat signed_word write_signed z
signed-writes z = record {
  spelled = λ text e.
      let s = signed_some z text e in
      record { first = cast_unsigned w32 z; front = text; back = []; whole = sym (append-nil text); in_front = subst (λ (t : List ℕ). word.spells t (cast_unsigned w32 z)) (sym s.1) (unsigned_word z s.0); behind = (refl, sym (to_z-of_z w32 z s.0)) };
  past = λ e. absurd cc;
  none = λ short e text s.
      let some : signed_text z ≡ code_text s.first = ap signed_text s.behind.1 ∙ signed_of s.first (word_fits s.front s.first s.in_front) in
      let no = sym e ∙ some in
      absurd (cc no);
}

-- ---- ranges

pub not_below : (a b : ℤ) → a ≤ℤ b → int_lt b a ≡ false
not_below (pos m) (pos n) h = le-ltb n m (omega (arith, ints, h))
not_below (pos m) (negsuc n) h = absurd (omega (arith, ints, h))
not_below (negsuc m) (pos n) h = refl
not_below (negsuc m) (negsuc n) h = le-ltb m n (omega (arith, ints, h))

pub range_text_is : (r : Bounds) → IsRange r → range_text r ≡ bounds_text r
range_text_is r keeps = rw (not_below r.min r.max keeps.ordered, not_below (pos 0) r.quant keeps.no_step_back) refl

place_up : (a b : ℤ) → FitsSigned w32 a → FitsSigned w32 b → int_lt b a ≡ false → place (cast_unsigned w32 a) ≤ place (cast_unsigned w32 b)
place_up (pos m) (pos n) f g h = let le = ltb-false n m h in grind (arith, nat_tests, f.sfits, g.sfits)
place_up (pos m) (negsuc n) f g h = absurd (cc h)
place_up (negsuc m) (pos n) f g h = grind (arith, nat_tests, f.sfits, g.sfits)
place_up (negsuc m) (negsuc n) f g h = let le = ltb-false m n h in grind (arith, nat_tests, f.sfits, g.sfits)

place_down : (a b : ℕ) → a < 2 ^ 32 → b < 2 ^ 32 → place a ≤ place b → int_lt (cast_signed w32 b) (cast_signed w32 a) ≡ false
place_down a b f g h =
    elim (cases_lt a 2147483648) [
      | inl p ↦ elim (cases_lt b 2147483648) [
        | inl q ↦ let t : nat_lt a 2147483648 ≡ true = lt-ltb a 2147483648 p in let u : nat_lt b 2147483648 ≡ true = lt-ltb b 2147483648 q in let le = rw (t, u) at h in rw (t, u) (le-ltb b a (omega (arith, le)))
        | inr q ↦ let t : nat_lt a 2147483648 ≡ true = lt-ltb a 2147483648 p in let u : nat_lt b 2147483648 ≡ false = le-ltb b 2147483648 q in let le = rw (t, u) at h in absurd (omega (arith, le, p, q, g))
      ]
      | inr p ↦ elim (cases_lt b 2147483648) [
        | inl q ↦ let t : nat_lt a 2147483648 ≡ false = le-ltb a 2147483648 p in let u : nat_lt b 2147483648 ≡ true = lt-ltb b 2147483648 q in rw (t, u) refl
        | inr q ↦
            let t : nat_lt a 2147483648 ≡ false = le-ltb a 2147483648 p in
            let u : nat_lt b 2147483648 ≡ false = le-ltb b 2147483648 q in
            let le = rw (t, u) at h in
            rw (t, u) (le-ltb (4294967296 - suc a) (4294967296 - suc b) (omega (arith, le, f, g, p, q)))
      ]
    ]

place_judge : (low n : ℕ) → place low ≤ place n → (at_least low).judge n ≡ Ok n
place_judge low n le = rw (le-ltb (place n) (place low) le) refl

judge_place : (low n x : ℕ) → (at_least low).judge n ≡ Ok x → (place low ≤ place n) × (n ≡ x)
judge_place low n x e =
    elim (cases_lt (place n) (place low)) [
      | inl h ↦ let t = lt-ltb (place n) (place low) h in let no = rw t at e in absurd (cc no)
      | inr le ↦ let t = le-ltb (place n) (place low) le in let is = rw t at e in (le, cc is)
    ]

small_quant : (z : ℤ) → FitsSigned w32 z → int_lt z (pos 0) ≡ false → cast_unsigned w32 z ≤ 2147483647
small_quant (pos n) f h = omega (arith, f.sfits)
small_quant (negsuc n) f h = absurd (cc h)

no_step_back : (q : ℕ) → q ≤ 2147483647 → int_lt (cast_signed w32 q) (pos 0) ≡ false
no_step_back q le = let t : nat_lt q 2147483648 ≡ true = lt-ltb q 2147483648 (omega (arith, le)) in rw t (le-ltb q 0 (omega arith))

range_spelled : (r : Bounds) → int_lt r.max r.min ≡ false → int_lt r.quant (pos 0) ≡ false → FitsSigned w32 r.min → FitsSigned w32 r.max → FitsSigned w32 r.quant
    → range.spells (to_be_bytes w32 0 ++ (to_be_bytes w32 (cast_unsigned w32 r.min) ++ (to_be_bytes w32 (cast_unsigned w32 r.max) ++ to_be_bytes w32 (cast_unsigned w32 r.quant)))) r
unfolding range
range_spelled r up back f g h = record {
  first = 0;
  front = to_be_bytes w32 0;
  back = to_be_bytes w32 (cast_unsigned w32 r.min) ++ (to_be_bytes w32 (cast_unsigned w32 r.max) ++ to_be_bytes w32 (cast_unsigned w32 r.quant));
  whole = refl;
  in_front = word_spelled 0 0 0 (omega arith) (omega arith) (omega arith);
  behind = record {
    first = cast_unsigned w32 r.min;
    front = to_be_bytes w32 (cast_unsigned w32 r.min);
    back = to_be_bytes w32 (cast_unsigned w32 r.max) ++ to_be_bytes w32 (cast_unsigned w32 r.quant);
    whole = refl;
    in_front = unsigned_word r.min f;
    behind = record {
      first = cast_unsigned w32 r.max;
      front = to_be_bytes w32 (cast_unsigned w32 r.max);
      back = to_be_bytes w32 (cast_unsigned w32 r.quant);
      whole = refl;
      in_front = record { n = cast_unsigned w32 r.max; text_is = refl; fits = unsigned_fits r.max g; is = place_judge (cast_unsigned w32 r.min) (cast_unsigned w32 r.max) (place_up r.min r.max f g up) };
      behind = record {
        first = cast_unsigned w32 r.quant;
        front = to_be_bytes w32 (cast_unsigned w32 r.quant);
        back = [];
        whole = sym (append-nil (to_be_bytes w32 (cast_unsigned w32 r.quant)));
        in_front = word_spelled 0 2147483647 (cast_unsigned w32 r.quant) (omega arith) (small_quant r.quant h back) (unsigned_fits r.quant h);
        behind = (refl, sym (λ i. record { min = to_z-of_z w32 r.min f i; max = to_z-of_z w32 r.max g i; quant = to_z-of_z w32 r.quant h i }));
      };
    };
  };
}

-- what is written of three words
words_there : (a b q : ℕ) → a < 2 ^ 32 → b < 2 ^ 32 → q ≤ 2147483647 → place a ≤ place b
    → (text : List ℕ) × (range_text (record { min = cast_signed w32 a; max = cast_signed w32 b; quant = cast_signed w32 q }) ≡ Some text)
words_there a b q f g h up =
    let min_is : signed_text (cast_signed w32 a) ≡ code_text a = signed_of a f in
    let max_is : signed_text (cast_signed w32 b) ≡ code_text b = signed_of b g in
    let quant_is : signed_text (cast_signed w32 q) ≡ code_text q = signed_of q (omega (arith, h)) in
    let ordered : int_lt (cast_signed w32 b) (cast_signed w32 a) ≡ false = place_down a b f g up in
    let forward : int_lt (cast_signed w32 q) (pos 0) ≡ false = no_step_back q h in (
      to_be_bytes w32 0 ++ (to_be_bytes w32 a ++ (to_be_bytes w32 b ++ to_be_bytes w32 q)),
      range_there (cast_signed w32 a) (cast_signed w32 b) (cast_signed w32 q) _ _ _ ordered forward min_is max_is quant_is,
    )
  where
    range_there : (min max quant : ℤ) (s t u : List ℕ) → int_lt max min ≡ false → int_lt quant (pos 0) ≡ false → signed_text min ≡ Some s → signed_text max ≡ Some t → signed_text quant ≡ Some u
        → range_text (record { min = min; max = max; quant = quant }) ≡ Some (to_be_bytes w32 0 ++ (s ++ (t ++ u)))
    range_there min max quant s t u p q e f g = rw (p, q, e, f, g) refl

range_some : (text : List ℕ) (r : Bounds) → range.spells text r → (own : List ℕ) × (range_text r ≡ Some own)
unfolding range
range_some text r s =
    let min = s.behind in
    let max = min.behind in
    let quant = max.behind in
    let up = judge_place min.first max.in_front.n max.first max.in_front.is in
    let there = words_there min.first max.first quant.first (word_fits min.front min.first min.in_front) (subst (λ (n : ℕ). n < 2 ^ 32) up.1 max.in_front.fits)
    (code_at_most 0 2147483647 quant.front quant.first quant.in_front) (subst (λ (n : ℕ). place min.first ≤ place n) up.1 up.0) in
    (there.0, ap range_text quant.behind.1 ∙ there.1)

-- the parts of what is written
two_some : (s t : Option (List ℕ)) (text : List ℕ) → append_text s t ≡ Some text → (u : List ℕ) × (v : List ℕ) × (s ≡ Some u) × (t ≡ Some v) × (text ≡ u ++ v)
two_some None t text e = absurd cc
two_some (Some u) None text e = absurd cc
two_some (Some u) (Some v) text e = (u, v, refl, refl, sym cc)

unless_some : (a b : Bool) (own : Option (List ℕ)) (text : List ℕ) → cond (a || b) None own ≡ Some text → (a ≡ false) × (b ≡ false) × (own ≡ Some text)
unless_some true b own text e = absurd cc
unless_some false true own text e = absurd cc
unless_some false false own text e = (refl, refl, e)

pub range_at : (r : Bounds) → At range false (range_text r) r
range_at r = record {
  spelled = λ text e.
      let tests = unless_some (int_lt r.max r.min) (int_lt r.quant (pos 0)) (bounds_text r) text e in
      let a = joined_front (to_be_bytes w32 0) (append_text (signed_text r.min) (append_text (signed_text r.max) (signed_text r.quant))) text tests.2 in
      let b = two_some (signed_text r.min) (append_text (signed_text r.max) (signed_text r.quant)) a.0 a.1 in
      let d = two_some (signed_text r.max) (signed_text r.quant) b.1 b.3 in
      let min = signed_some r.min b.0 b.2 in
      let max = signed_some r.max d.0 d.2 in
      let quant = signed_some r.quant d.1 d.3 in
      rw (a.2, b.4, d.4, min.1, max.1, quant.1) (range_spelled r tests.0 tests.1 min.0 max.0 quant.0);
  past = λ e. absurd cc;
  none = λ short e text s. let some = range_some text r s in let no = sym e ∙ some.1 in absurd (cc no);
}

-- ---- lists of words

list_length : (low n : ℕ) → low ≤ n → n ≤ 1024 → (word_of_kind (length_from low)).spells (to_be_bytes w32 n) n
list_length low n from to = record { n = n; text_is = refl; fits = omega (arith, to); is = judge }
  where
    judge : (length_from low).judge n ≡ Ok n
    judge = rw (le-ltb 1024 n to, le-ltb n low from) refl

least_length : (low n x : ℕ) → (length_from low).judge n ≡ Ok x → low ≤ x
least_length low n x e = grind (arith, nat_tests)

same_word : (low n x : ℕ) → (between low low BadValue).judge n ≡ Ok x → x ≡ low
same_word low n x e = grind (arith, nat_tests)

words_spelled : (all : List ℤ) → 1 ≤ length all → length all ≤ 1023 → (text : List ℕ) → (places (length all) signed_word).spells text all
    → word_list.spells ((to_be_bytes w32 (suc (length all)) ++ to_be_bytes w32 (length all)) ++ text) all
unfolding word_list
words_spelled all some most text s = record {
  first = suc (length all);
  front = to_be_bytes w32 (suc (length all));
  back = to_be_bytes w32 (length all) ++ text;
  whole = append_assoc (to_be_bytes w32 (suc (length all))) (to_be_bytes w32 (length all)) text;
  in_front = list_length 2 (suc (length all)) (omega (arith, some)) (omega (arith, most));
  behind = record {
    first = length all;
    front = to_be_bytes w32 (length all);
    back = text;
    whole = refl;
    in_front = exact (suc (length all) - 1) (length all) (omega (arith, most)) (omega arith);
    behind = s;
  };
}

words_each : (text : List ℕ) (all : List ℤ) → word_list.spells text all → AllSpelled signed_word all
unfolding word_list
words_each text all s = places_all s.behind.first signed_word s.behind.back all s.behind.behind

no_words : (text : List ℕ) → word_list.spells text [] → ⊥
unfolding word_list places
no_words text s =
    let count = same_word (s.first - 1) s.behind.in_front.n s.behind.first s.behind.in_front.is in
    let two = least_length 2 s.in_front.n s.first s.in_front.is in
    none s.behind.first s.behind.back s.behind.behind (omega (arith, count, two))
  where
    none : (n : ℕ) (back : List ℕ) → (places n signed_word).spells back [] → 1 ≤ n → ⊥
    none zero back t le = absurd (omega (arith, le))
    none (suc n) back t le = let e = t.behind.behind.1 in absurd (cc e)

all_short : (n : ℕ) (all : List ℤ) → (write_places n write_signed).long all ≡ false
unfolding write_places
all_short zero all = refl
all_short (suc n) [] = refl
all_short (suc n) (b ∷ all) = all_short n all

or_no : (t : Bool) → (t || false) ≡ t
or_no true = refl
or_no false = refl

some_list : (n : ℕ) (own : Option (List ℕ)) → 1 ≤ n → cond (nat_lt 1023 n) None own ≡ cond (is_no_list n) None own
some_list n own some = let t : nat_lt n 1 ≡ false = le-ltb n 1 some in rw t refl

pub word_list_at : (all : List ℤ) → At word_list (nat_lt 1023 (length all)) (word_list_text all) all
word_list_at [] = nowhere word_list false [] no_words
word_list_at (a ∷ others) =
    let short : (write_places (length (a ∷ others)) write_signed).long (a ∷ others) ≡ false = all_short (length (a ∷ others)) (a ∷ others) in
    same_at word_list (nat_lt 1023 (length (a ∷ others)) || false) (nat_lt 1023 (length (a ∷ others))) _ (word_list_text (a ∷ others)) (a ∷ others)
    (if_few word_list 1023 (length (a ∷ others)) false _ (a ∷ others) (λ le.
    same_at word_list ((write_places (length (a ∷ others)) write_signed).long (a ∷ others)) false _ _ (a ∷ others)
    (counted_at word_list signed_word write_signed (a ∷ others) (to_be_bytes w32 (suc (length (a ∷ others))) ++ to_be_bytes w32 (length (a ∷ others))) signed-writes
    (words_spelled (a ∷ others) (omega arith) le) (λ text s. words_each text (a ∷ others) s))
    short (joined_assoc (to_be_bytes w32 (suc (length (a ∷ others)))) (to_be_bytes w32 (length (a ∷ others))) _)))
    (or_no (nat_lt 1023 (length (a ∷ others)))) (some_list (length (a ∷ others)) _ (omega arith))

-- ---- lists of strings

length-from-writes : (n : ℕ) → WritesFormat (word_of_kind (length_from 1)) (write_up_to 1024) (suc n)
length-from-writes n = by (cases_lt 1024 (suc n))
  where
    by : (1024 < suc n) ⊎ (suc n ≤ 1024) → WritesFormat (word_of_kind (length_from 1)) (write_up_to 1024) (suc n)
    by (inl h) =
        let t : nat_lt 1024 (suc n) ≡ true = lt-ltb 1024 (suc n) h in
        let low : nat_lt (suc n) 0 ≡ false = le-ltb (suc n) 0 (omega arith) in
        let judge : (between 0 1024 TooLong).judge (suc n) ≡ Err TooLong = rw (low, t) refl in
        record { spelled = λ text e. let no = rw judge at e in absurd (cc no); past = λ e. rw judge refl; none = λ short e text s. let no = rw judge at short in absurd (cc no) }
    by (inr le) =
        let t : nat_lt 1024 (suc n) ≡ false = le-ltb 1024 (suc n) le in
        let low : nat_lt (suc n) 0 ≡ false = le-ltb (suc n) 0 (omega arith) in
        let judge : (between 0 1024 TooLong).judge (suc n) ≡ Ok (suc n) = rw (low, t) refl in
        record {
          spelled = λ text e. let is = rw judge at e in let same : to_be_bytes w32 (suc n) ≡ text = cc is in subst (λ (u : List ℕ). (word_of_kind (length_from 1)).spells u (suc n)) same (list_length 1 (suc n) (omega arith) le);
          past = λ e. let no = rw judge at e in absurd (cc no);
          none = λ short e text s. let no = rw judge at e in absurd (cc no);
        }

entry_part : (text : List ℕ) → IsFirstPart (λ (t : List ℕ). suc (length t)) (word_of_kind (length_from 1)) text_format_of text
entry_part text zero front back s t = let low = least_length 1 s.n 0 s.is in absurd (omega (arith, low))
entry_part text (suc n) front back s t =
    let long : suc n ≡ suc (length text) = ap suc (sym (text_length n back text t)) in
    ((front, subst (λ (m : ℕ). (word_of_kind (length_from 1)).spells front m) long s), (back, subst (λ (m : ℕ). (text_format_of m).spells back text) long t))

entry-writes : (text : List ℕ) → WritesFormat entry write_string text
unfolding entry write_string
entry-writes text = after-writes (λ (t : List ℕ). suc (length t)) (word_of_kind (length_from 1)) text_format_of (write_up_to 1024) write_text_of text (length-from-writes (length text)) (text-writes (length text) text) (entry_part text)

null_of : (last : Last) → (last ≡ Entry → ⊥) → (last_of last).spells (to_be_bytes w32 0) []
unfolding no_entry last_entry
null_of Entry other = absurd (other refl)
null_of Null other = record { first = 0; front = to_be_bytes w32 0; back = []; whole = sym (append-nil (to_be_bytes w32 0)); in_front = word_spelled 0 0 0 (omega arith) (omega arith) (omega arith); behind = (refl, refl) }
null_of Either other = record { first = 0; front = to_be_bytes w32 0; back = []; whole = sym (append-nil (to_be_bytes w32 0)); in_front = record { n = 0; text_is = refl; fits = omega arith; is = refl }; behind = (refl, refl) }

not_only : (n : ℕ) → 2 ≤ n → last_in n ≡ Entry → ⊥
not_only n two e = let t : eqb n 1 ≡ false = other in let is = rw t at e in no (eqb n 1024) is
  where
    other : eqb n 1 ≡ false
    other = grind (arith, nat_tests)

    no : (t : Bool) → cond t Null Either ≡ Entry → ⊥
    no true h = absurd (cc h)
    no false h = absurd (cc h)

strings_spelled : (all : List (List ℕ)) → 1 ≤ length all → length all ≤ 1023 → (text : List ℕ) → (places (length all) entry).spells text all
    → string_list.spells (to_be_bytes w32 (suc (length all)) ++ (text ++ to_be_bytes w32 0)) all
unfolding string_list
strings_spelled all some most text s = record {
  first = suc (length all);
  front = to_be_bytes w32 (suc (length all));
  back = text ++ to_be_bytes w32 0;
  whole = refl;
  in_front = list_length 1 (suc (length all)) (omega arith) (omega (arith, most));
  behind = record {
    first = all;
    front = text;
    back = to_be_bytes w32 0;
    whole = refl;
    in_front = let before : length all ≡ suc (length all) - 1 = omega arith in subst (λ (n : ℕ). (places n entry).spells text all) before s;
    behind = record {
      first = [];
      front = to_be_bytes w32 0;
      back = [];
      whole = sym (append-nil (to_be_bytes w32 0));
      in_front = null_of (last_in (suc (length all))) (not_only (suc (length all)) (omega (arith, some)));
      behind = (refl, sym (append-nil all));
    };
  };
}

as_entry : (n : ℕ) (f k text : List ℕ) → (up_to 1024).spells f (suc n) → (text_format_of (suc n)).spells k text → entry.spells (f ++ k) text
unfolding entry
as_entry n f k text s t = record { first = suc n; front = f; back = k; whole = refl; in_front = record { n = s.n; text_is = s.text_is; fits = s.fits; is = judge s.n s.is }; behind = t }
  where
    judge : (m : ℕ) → (between 0 1024 TooLong).judge m ≡ Ok (suc n) → (length_from 1).judge m ≡ Ok (suc n)
    judge m e = grind (arith, nat_tests)

last_each : (n : ℕ) (f k : List ℕ) (last : List (List ℕ)) → (up_to 1024).spells f n → (last_entry_of n).spells k last → AllSpelled entry last
last_each zero f k last s t = subst (AllSpelled entry) (sym t.1) tt
last_each (suc n) f k last s t = subst (AllSpelled entry) (sym t.behind.1) ((f ++ t.front, as_entry n f t.front t.first s t.in_front), tt)

end_each : (last : Last) (text : List ℕ) (end : List (List ℕ)) → (last_of last).spells text end → AllSpelled entry end
unfolding only_entry no_entry last_entry
end_each Entry text end s = subst (AllSpelled entry) (sym s.behind.1) ((s.front, s.in_front), tt)
end_each Null text end s = subst (AllSpelled entry) (sym s.behind.1) tt
end_each Either text end s = last_each s.first s.front s.back end s.in_front s.behind

strings_each : (text : List ℕ) (all : List (List ℕ)) → string_list.spells text all → AllSpelled entry all
unfolding string_list
strings_each text all s =
    let made_part = s.behind.behind in
    subst (AllSpelled entry) (sym made_part.behind.1)
    (all_append entry s.behind.first made_part.first (places_all (s.first - 1) entry s.behind.front s.behind.first s.behind.in_front) (end_each (last_in s.first) made_part.front made_part.first made_part.in_front))

no_strings : (text : List ℕ) → string_list.spells text [] → ⊥
unfolding string_list places only_entry
no_strings text s =
    let made_part = s.behind.behind in
    none s.first s.behind.first made_part.first s.behind.front made_part.front (least_length 1 s.in_front.n s.first s.in_front.is) s.behind.in_front made_part.in_front made_part.behind.1
  where
    one_less : (m : ℕ) → suc (suc m) - 1 ≡ suc m
    one_less m = omega arith

    only : (l : Last) (k : List ℕ) → l ≡ Entry → (last_of l).spells k [] → ⊥
    only Entry k e t = let no = t.behind.1 in absurd (cc no)
    only Null k e t = absurd (cc e)
    only Either k e t = absurd (cc e)

    none : (n : ℕ) (front last : List (List ℕ)) (f k : List ℕ) → 1 ≤ n → (places (n - 1) entry).spells f front → (last_of (last_in n)).spells k last → [] ≡ front ++ last → ⊥
    none zero front last f k le s t e = absurd (omega (arith, le))
    none (suc zero) [] [] f k le s t e = only Entry k refl t
    none (suc zero) [] (b ∷ last) f k le s t e = absurd cc
    none (suc zero) (b ∷ front) last f k le s t e = absurd cc
    none (suc (suc n)) [] last f k le s t e = let no = subst (λ (m : ℕ). (places m entry).spells f []) (one_less n) s in let is = no.behind.behind.1 in absurd (cc is)
    none (suc (suc n)) (b ∷ front) last f k le s t e = absurd (cc e)

pub string_list_at : (all : List (List ℕ)) → At string_list (nat_lt 1023 (length all) || (write_places (length all) write_string).long all) (string_list_text all) all
unfolding write_places
string_list_at [] = nowhere string_list false [] no_strings
string_list_at (a ∷ others) =
    same_at string_list (nat_lt 1023 (length (a ∷ others)) || (write_places (length (a ∷ others)) write_string).long (a ∷ others)) (nat_lt 1023 (length (a ∷ others)) || (write_places (length (a ∷ others)) write_string).long (a ∷ others)) _ (string_list_text (a ∷ others)) (a ∷ others)
    (if_few string_list 1023 (length (a ∷ others)) ((write_places (length (a ∷ others)) write_string).long (a ∷ others)) _ (a ∷ others) (λ le.
    ended_at string_list entry write_string (a ∷ others) (to_be_bytes w32 (suc (length (a ∷ others)))) (to_be_bytes w32 0) entry-writes (strings_spelled (a ∷ others) (omega arith) le) (λ text s. strings_each text (a ∷ others) s)))
    refl (some_list (length (a ∷ others)) _ (omega arith))

-- ---- constraints

pub constraint_at : (c : Constraint) → At constraint (constraint_long c) (constraint_text c) c
unfolding constraint
constraint_at constraints.Free = there (after (from_to 0 3) constraint_of) (to_be_bytes w32 0) constraints.Free
    (record { first = 0; front = to_be_bytes w32 0; back = []; whole = sym (append-nil (to_be_bytes w32 0)); in_front = word_spelled 0 3 0 (omega arith) (omega arith) (omega arith); behind = (refl, refl) })
constraint_at (constraints.Span r) =
    behind_only (from_to 0 3) constraint_of (to_be_bytes w32 1) 1 (constraints.Span r) false (range_text r) (word_spelled 0 3 1 (omega arith) (omega arith) (omega arith))
    (made_at (λ b. constraints.Span b) range r false (range_text r) (range_at r) (λ x e. cc)) which
  where
    which : (x : ℕ) (k : List ℕ) → (constraint_of x).spells k (constraints.Span r) → x ≡ 1
    which zero k t = let e = t.1 in absurd (cc e)
    which (suc zero) k t = refl
    which (suc (suc zero)) k t = let e = t.behind.1 in absurd (cc e)
    which (suc (suc (suc n))) k t = let e = t.behind.1 in absurd (cc e)
constraint_at (constraints.Words all) =
    behind_only (from_to 0 3) constraint_of (to_be_bytes w32 2) 2 (constraints.Words all) (nat_lt 1023 (length all)) (word_list_text all) (word_spelled 0 3 2 (omega arith) (omega arith) (omega arith))
    (made_at (λ b. constraints.Words b) word_list all (nat_lt 1023 (length all)) (word_list_text all) (word_list_at all) (λ x e. cc)) which
  where
    which : (x : ℕ) (k : List ℕ) → (constraint_of x).spells k (constraints.Words all) → x ≡ 2
    which zero k t = let e = t.1 in absurd (cc e)
    which (suc zero) k t = let e = t.behind.1 in absurd (cc e)
    which (suc (suc zero)) k t = refl
    which (suc (suc (suc n))) k t = let e = t.behind.1 in absurd (cc e)
constraint_at (constraints.Strings all) =
    behind_front (from_to 0 3) constraint_of (to_be_bytes w32 3) 3 (constraints.Strings all) (nat_lt 1023 (length all) || (write_places (length all) write_string).long all) (string_list_text all) (word_spelled 0 3 3 (omega arith) (omega arith) (omega arith))
    (made_at (λ b. constraints.Strings b) string_list all (nat_lt 1023 (length all) || (write_places (length all) write_string).long all) (string_list_text all) (string_list_at all) (λ x e. cc)) which
  where
    which : (x : ℕ) (f k : List ℕ) → (from_to 0 3).spells f x → (constraint_of x).spells k (constraints.Strings all) → (own : List ℕ) × (constraint_of 3).spells own (constraints.Strings all)
    which zero f k s t = let e = t.1 in absurd (cc e)
    which (suc zero) f k s t = let e = t.behind.1 in absurd (cc e)
    which (suc (suc zero)) f k s t = let e = t.behind.1 in absurd (cc e)
    which (suc (suc (suc n))) f k s t = (k, t)
