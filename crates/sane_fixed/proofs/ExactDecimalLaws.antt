-- What is shown of a fixed number is its exact decimal, and reads as the same number.
use Rattle.std.proofs.Common.{◌≡◌, ◌≢◌, ℕ, zero, suc, ◌<◌, ◌≤◌, ◌+◌, ◌-◌, ◌*◌, ◌/◌, ◌%◌, ◌^◌, ◌==◌, Bool, true, false, List, [], ◌∷◌, ◌++◌, length, get_or, arith, cond, refl, sym, ap, ◌∙◌, subst, pow-suc, append_assoc}
use Rattle.std.specs.Prelude.{Some, None, ℤ, pos, negsuc, unsigned_abs, nat_le, nat_lt}
use Rattle.std.specs.Fmt.{decimal}
use Rattle.std.specs.Char.{digit_value}
use Rattle.std.specs.Str.Parse.{digits_value, digits_value_after, AllDigits}
use Rattle.std.proofs.lemmas.Bool.Decides.{nat_tests}
use Rattle.std.proofs.lemmas.Fmt.{decimal_is_IsNumeral, length-decimal-le, first_decimal, decimal_digit}
use Rattle.std.proofs.lemmas.List.{append-nil}
use Rattle.std.proofs.Math.Nat.{pow-le-pow_right}
use Rattle.std.proofs.lemmas.Nat.{div-mul-add}
use Rattle.std.specs.Int.{w32}
use Rattle.std.specs.Prelude.{FitsSigned}
use Rattle.sane_fixed.specs.Decimal.{sign_text, fraction_text, rounded_quotient, magnitude_of, word_of, SpellsFixed}
use Rattle.sane_fixed.specs.DecimalReading.{fixed_of}
use Rattle.sane_fixed.specs.ExactDecimal.{is_below_zero, IsExactDecimal, fraction_digits, exact_decimal}
use Rattle.sane_fixed.specs.Text.{IsText}
use Rattle.sane_fixed.proofs.DecimalLaws.{fixed_of-spells}
use Rattle.sane_fixed.proofs.TextLaws.{IsText-decimal}

-- ---- the value of digits, from the left

moved : (n v q x a b p : ℕ) → p ≡ q * 10 → a ≡ (n * 10 + v) * q + x → b ≡ (0 * 10 + v) * q + x → a ≡ n * p + b
moved n v q x a b p ep ea eb = rw (ep, ea, eb) (omega arith)

digits_value_after-weight : (n : ℕ) (ds : List ℕ) → digits_value_after 10 n ds ≡ n * 10 ^ length ds + digits_value_after 10 0 ds
digits_value_after-weight n [] = omega arith
digits_value_after-weight n (d ∷ ds) =
    moved n (digit_value d) (10 ^ length ds) (digits_value_after 10 0 ds) _ _ _ (pow-suc 10 (length ds))
    (digits_value_after-weight (n * 10 + digit_value d) ds) (digits_value_after-weight (0 * 10 + digit_value d) ds)

digit_value-glyph : (d : ℕ) → d < 10 → digit_value (48 + d) ≡ d
digit_value-glyph d h = grind (arith, nat_tests)

digits_value-cons : (d : ℕ) (ds : List ℕ) → d < 10 → digits_value 10 ((48 + d) ∷ ds) ≡ d * 10 ^ length ds + digits_value 10 ds
digits_value-cons d ds h =
    digits_value_after-weight (0 * 10 + digit_value (48 + d)) ds ∙ ap (λ v. (0 * 10 + v) * 10 ^ length ds + digits_value 10 ds) (digit_value-glyph d h) ∙ omega arith

-- ---- the digits after the point

pub fraction_digits-AllDigits : (places rest : ℕ) → rest < 65536 → AllDigits 10 (fraction_digits places rest)
unfolding fraction_digits
fraction_digits-AllDigits zero rest h = tt
fraction_digits-AllDigits (suc places) rest h =
    let P : Bool → Type 0 = λ t. AllDigits 10 (cond t [] ((48 + rest * 10 / 65536) ∷ fraction_digits places (rest * 10 % 65536))) in
    let small : rest * 10 / 65536 < 10 = omega arith in
    let digit : digit_value (48 + rest * 10 / 65536) < 10 = omega (arith, digit_value-glyph (rest * 10 / 65536) small) in
    elim (rest == 0) as P [ true ↦ tt | false ↦ (digit, fraction_digits-AllDigits places (rest * 10 % 65536) (omega arith)) ]

pub length-fraction_digits-le : (places rest : ℕ) → length (fraction_digits places rest) ≤ places
unfolding fraction_digits
length-fraction_digits-le zero rest = omega arith
length-fraction_digits-le (suc places) rest =
    let P : Bool → Type 0 = λ t. length (cond t [] ((48 + rest * 10 / 65536) ∷ fraction_digits places (rest * 10 % 65536))) ≤ suc places in
    elim (rest == 0) as P [ true ↦ omega arith | false ↦ omega (arith, length-fraction_digits-le places (rest * 10 % 65536)) ]

pub fraction_digits-none : (places : ℕ) → fraction_digits places 0 ≡ []
unfolding fraction_digits
fraction_digits-none zero = refl
fraction_digits-none (suc places) = refl

pub fraction_digits-more : (places rest : ℕ) → rest ≢ 0 → fraction_digits (suc places) rest ≡ (48 + rest * 10 / 65536) ∷ fraction_digits places (rest * 10 % 65536)
unfolding fraction_digits
fraction_digits-more places rest some = let e : (rest == 0) ≡ false = grind (arith, nat_tests) in rw e refl

-- the fraction ends within that many places: 2 ^ places times it is whole
record Ends (places rest : ℕ) : Type 0 where
  pub k : ℕ
  pub is : rest * 2 ^ places ≡ k * 65536

-- products, with q * 65536 + r for ten times the rest
ends_below : (rest k q r p s : ℕ) → s ≡ p * 2 → rest * s ≡ k * 65536 → rest * 10 ≡ q * 65536 + r → r * p + q * p * 65536 ≡ 5 * k * 65536
ends_below rest k q r p s es e d =
    let e2 : rest * (p * 2) ≡ k * 65536 = rw (sym es) e in
    let e3 : rest * 10 * p ≡ (q * 65536 + r) * p = ap (λ x. x * p) d in
    omega (arith, e2, e3)

taken : (a b c : ℕ) → a + b * 65536 ≡ c * 65536 → a ≡ (c - b) * 65536
taken a b c e = omega arith

ends_next : (places rest : ℕ) → Ends (suc places) rest → Ends places (rest * 10 % 65536)
ends_next places rest e =
    let d : rest * 10 ≡ rest * 10 / 65536 * 65536 + rest * 10 % 65536 = omega arith in
    record {
      k = 5 * e.k - rest * 10 / 65536 * 2 ^ places;
      is = taken _ _ _ (ends_below rest e.k (rest * 10 / 65536) (rest * 10 % 65536) (2 ^ places) (2 ^ suc places) (pow-suc 2 places) e.is d);
    }

ends_at_none : (rest : ℕ) → rest < 65536 → Ends 0 rest → rest ≡ 0
ends_at_none rest h e = let g : rest * 1 ≡ e.k * 65536 = e.is in omega arith

ends_in_sixteen : (rest : ℕ) → Ends 16 rest
ends_in_sixteen rest = record { k = rest; is = refl }

valued : (rest q r v p s a : ℕ) → rest * 10 ≡ q * 65536 + r → v * 65536 ≡ r * p → s ≡ p * 10 → a ≡ q * p + v → a * 65536 ≡ rest * s
valued rest q r v p s a d e es ea =
    let d2 : rest * 10 * p ≡ (q * 65536 + r) * p = ap (λ x. x * p) d in
    rw (ea, es) (omega (arith, d2, e))

-- the digits are the fraction rest / 65536
fraction_digits-value : (places rest : ℕ) → rest < 65536 → Ends places rest → digits_value 10 (fraction_digits places rest) * 65536 ≡ rest * 10 ^ length (fraction_digits places rest)
unfolding fraction_digits
fraction_digits-value zero rest h e = rw (ends_at_none rest h e) refl
fraction_digits-value (suc places) rest h e =
    let ds : List ℕ = fraction_digits places (rest * 10 % 65536) in
    let P : Bool → Type 0 = λ t. (rest == 0) ≡ t → digits_value 10 (cond t [] ((48 + rest * 10 / 65536) ∷ ds)) * 65536 ≡ rest * 10 ^ length (cond t [] ((48 + rest * 10 / 65536) ∷ ds)) in
    let small : rest * 10 / 65536 < 10 = omega arith in
    let below : rest * 10 % 65536 < 65536 = omega arith in
    let d : rest * 10 ≡ rest * 10 / 65536 * 65536 + rest * 10 % 65536 = omega arith in
    elim (rest == 0) as P [
      | true ↦ λ t. let z : rest ≡ 0 = grind (arith, nat_tests) in rw z refl
      | false ↦ λ t. valued rest (rest * 10 / 65536) (rest * 10 % 65536) (digits_value 10 ds) (10 ^ length ds) _ _ d (fraction_digits-value places (rest * 10 % 65536) below (ends_next places rest e)) (pow-suc 10 (length ds)) (digits_value-cons (rest * 10 / 65536) ds small)
    ] refl

-- no digits stand for nothing alone
fraction_digits-some : (places rest : ℕ) → rest < 65536 → Ends places rest → fraction_digits places rest ≡ [] → rest ≡ 0
unfolding fraction_digits
fraction_digits-some places rest h e none =
    let v : 0 * 65536 ≡ rest * 1 = subst (λ ds. digits_value 10 ds * 65536 ≡ rest * 10 ^ length ds) none (fraction_digits-value places rest h e) in
    omega arith

first_of_cons : (a b : ℕ) (xs ys : List ℕ) → a ∷ xs ≡ b ∷ ys → a ≡ b
first_of_cons a b xs ys e = (cc)

rest_of_cons : (a b : ℕ) (xs ys : List ℕ) → a ∷ xs ≡ b ∷ ys → xs ≡ ys
rest_of_cons a b xs ys e = (cc)

no_cons : (a : ℕ) (xs : List ℕ) → [] ≡ a ∷ xs → ⊥
no_cons a xs e = (cc)

no_push : (front : List ℕ) (b : ℕ) → [] ≢ front ++ b ∷ []
no_push [] b = λ e. no_cons b [] e
no_push (x ∷ front) b = λ e. no_cons x (front ++ b ∷ []) e

last_kept : (d : ℕ) (ds front : List ℕ) → (ds ≡ [] → 0 < d) → ((fs : List ℕ) → ds ≢ fs ++ 48 ∷ []) → (48 + d) ∷ ds ≢ front ++ 48 ∷ []
last_kept d ds [] some more = λ e. let p : 0 < d = some (rest_of_cons (48 + d) 48 ds [] e) in let q : 48 + d ≡ 48 = first_of_cons (48 + d) 48 ds [] e in omega arith
last_kept d ds (f ∷ fs) some more = λ e. more fs (rest_of_cons (48 + d) f ds (fs ++ 48 ∷ []) e)

fraction_digits-last : (places rest : ℕ) → rest < 65536 → Ends places rest → (front : List ℕ) → fraction_digits places rest ≢ front ++ 48 ∷ []
unfolding fraction_digits
fraction_digits-last zero rest h e front = no_push front 48
fraction_digits-last (suc places) rest h e front =
    let ds : List ℕ = fraction_digits places (rest * 10 % 65536) in
    let P : Bool → Type 0 = λ t. (rest == 0) ≡ t → cond t [] ((48 + rest * 10 / 65536) ∷ ds) ≢ front ++ 48 ∷ [] in
    let below : rest * 10 % 65536 < 65536 = omega arith in
    elim (rest == 0) as P [
      | true ↦ λ t. no_push front 48
      | false ↦ λ t. let some : rest ≢ 0 = grind (arith, nat_tests) in
          last_kept (rest * 10 / 65536) ds front
          (λ none. let r : rest * 10 % 65536 ≡ 0 = fraction_digits-some places (rest * 10 % 65536) below (ends_next places rest e) none in omega arith)
          (λ fs. fraction_digits-last places (rest * 10 % 65536) below (ends_next places rest e) fs)
    ] refl

-- ---- the digits before the point

record IsWhole (n : ℕ) (ds : List ℕ) : Type 0 where
  pub digits : AllDigits 10 ds
  pub value : digits_value 10 ds ≡ n
  pub some : 1 ≤ length ds
  pub most : length ds ≤ 9
  pub front : get_or ds 0 0 ≡ 48 → length ds ≡ 1

front_of : (n : ℕ) → n < 2 ^ 64 → get_or (decimal n) 0 0 ≡ 48 → length (decimal n) ≡ 1
front_of zero wide e = ap length (decimal_digit 0 (omega arith))
front_of (suc n) wide e = absurd (omega (arith, first_decimal (suc n) (omega arith) wide))

IsWhole-decimal : (n : ℕ) → n ≤ 32768 → IsWhole n (decimal n)
IsWhole-decimal n small =
    let wide : n < 2 ^ 64 = omega arith in
    let five : n < 10 ^ 9 = omega arith in
    let is = decimal_is_IsNumeral n wide in
    record {
      digits = is.0.1;
      value = is.1;
      some = is.0.0;
      most = length-decimal-le 9 n (omega arith) five wide;
      front = λ e. front_of n wide e;
    }

-- ---- the whole text

exact_of : (w f p m : ℕ) → w ≡ m / 65536 → f * 65536 ≡ m % 65536 * p → (w * p + f) * 65536 ≡ m * p
exact_of w f p m ew ef =
    let d : (m / 65536 * 65536 + m % 65536) * p ≡ m * p = ap (λ x. x * p) (let e : m / 65536 * 65536 + m % 65536 ≡ m = omega arith in e) in
    rw ew (omega (arith, d, ef))

pub IsExactDecimal-exact_decimal : (word : ℤ) → unsigned_abs word ≤ 2 ^ 31 → IsExactDecimal (exact_decimal word) word
unfolding exact_decimal
IsExactDecimal-exact_decimal word fits =
    let m : ℕ = unsigned_abs word in
    let below : m % 65536 < 65536 = omega arith in
    let whole = IsWhole-decimal (m / 65536) (omega arith) in
    let ends : Ends 16 (m % 65536) = ends_in_sixteen (m % 65536) in
    record {
      whole = decimal (m / 65536);
      fraction = fraction_digits 16 (m % 65536);
      is_decimal = record {
        text_is = refl;
        whole_digits = whole.digits;
        whole_some = whole.some;
        whole_most = whole.most;
        fraction_digits = fraction_digits-AllDigits 16 (m % 65536) below;
        fraction_most = length-fraction_digits-le 16 (m % 65536);
      };
      exact = exact_of _ _ (10 ^ length (fraction_digits 16 (m % 65536))) m whole.value (fraction_digits-value 16 (m % 65536) below ends);
      no_zero_in_front = whole.front;
      no_zero_at_the_end = fraction_digits-last 16 (m % 65536) below ends;
      no_point_where_whole = λ e. ap (fraction_digits 16) e ∙ fraction_digits-none 16;
    }

-- ---- read again

rounded-whole : (m u : ℕ) → 0 < u → rounded_quotient (m * u) u ≡ m
rounded-whole m u some =
    let e : 2 * (m * u) + u ≡ m * (2 * u) + u = omega arith in
    let h : u < 2 * u = omega arith in
    ap (λ x. x / (2 * u)) e ∙ div-mul-add m (2 * u) u h

ten_some : (n : ℕ) → 0 < 10 ^ n
ten_some n = let h : 10 ^ 0 ≤ 10 ^ n = pow-le-pow_right {n = 10} (omega arith) {i = 0} {j = n} (omega arith) in omega arith

magnitude-exact : (w f : List ℕ) (m : ℕ) → (digits_value 10 w * 10 ^ length f + digits_value 10 f) * 65536 ≡ m * 10 ^ length f → magnitude_of w f ≡ m
magnitude-exact w f m e = ap (λ x. rounded_quotient x (10 ^ length f)) e ∙ rounded-whole m (10 ^ length f) (ten_some (length f))

word_of-least : (n : ℕ) → nat_le (suc n) (2 ^ 31) ≡ true → word_of true (suc n) ≡ Some (negsuc n)
word_of-least n e = ap (λ t. cond t (Some (negsuc n)) None) e

word_of-below : (n : ℕ) → nat_lt n (2 ^ 31) ≡ true → word_of false n ≡ Some (pos n)
word_of-below n e = ap (λ t. cond t (Some (pos n)) None) e

word_of-own : (word : ℤ) → FitsSigned w32 word → word_of (is_below_zero word) (unsigned_abs word) ≡ Some word
word_of-own (pos n) fits = word_of-below n (grind (arith, nat_tests))
word_of-own (negsuc n) fits = word_of-least n (grind (arith, nat_tests))

pub SpellsFixed-exact : (text : List ℕ) (word : ℤ) → FitsSigned w32 word → IsExactDecimal text word → SpellsFixed text word
SpellsFixed-exact text word fits x = record {
  negative = is_below_zero word;
  whole = x.whole;
  fraction = x.fraction;
  is_decimal = x.is_decimal;
  word_is = ap (word_of (is_below_zero word)) (magnitude-exact x.whole x.fraction (unsigned_abs word) x.exact) ∙ word_of-own word fits;
}

pub fixed_of-exact : (text : List ℕ) (word : ℤ) → FitsSigned w32 word → IsExactDecimal text word → fixed_of text ≡ Some word
fixed_of-exact text word fits x = fixed_of-spells text word (SpellsFixed-exact text word fits x)

-- ---- as it is written, digit by digit

pub fraction_text-digits : (places rest : ℕ) → rest ≢ 0 → fraction_text (fraction_digits (suc places) rest) ≡ 46 ∷ fraction_digits (suc places) rest
fraction_text-digits places rest some =
    ap fraction_text (fraction_digits-more places rest some) ∙ sym (ap (λ ds. 46 ∷ ds) (fraction_digits-more places rest some))

pub fraction_digits-step : (i rest : ℕ) → i < 16 → rest ≢ 0 → fraction_digits (16 - i) rest ≡ (48 + rest * 10 / 65536) ∷ fraction_digits (16 - (i + 1)) (rest * 10 % 65536)
fraction_digits-step i rest more some =
    let e : 16 - i ≡ suc (16 - (i + 1)) = omega arith in
    ap (λ n. fraction_digits n rest) e ∙ fraction_digits-more (16 - (i + 1)) rest some

pub written : (old new all rest more : List ℕ) (d : ℕ) → old ++ rest ≡ all → rest ≡ d ∷ more → new ≡ old ++ d ∷ [] → new ++ more ≡ all
written old new all rest more d e f g = rw g (append_assoc old (d ∷ []) more ∙ subst (λ r. old ++ r ≡ all) f e)

pub fraction_text-none : (places rest : ℕ) → rest ≡ 0 → fraction_text (fraction_digits places rest) ≡ []
fraction_text-none places rest z = ap (λ r. fraction_text (fraction_digits places r)) z ∙ ap fraction_text (fraction_digits-none places)

pub pointed : (old mid new ds all : List ℕ) → mid ≡ old ++ 46 ∷ [] → all ≡ 46 ∷ ds → new ≡ mid ++ ds → new ≡ old ++ all
pointed old mid new ds all m a n = rw (n, m, a) (append_assoc old (46 ∷ []) ds)

-- what is written is text
pub IsText-exact_decimal : (word : ℤ) → unsigned_abs word ≤ 2 ^ 31 → IsText (exact_decimal word)
IsText-exact_decimal word fits = let x = IsExactDecimal-exact_decimal word fits in IsText-decimal (exact_decimal word) (is_below_zero word) x.whole x.fraction x.is_decimal

pub all_written : (text all : List ℕ) (places rest : ℕ) → rest ≡ 0 → text ++ fraction_digits places rest ≡ all → text ≡ all
all_written text all places rest z e =
    sym (append-nil text) ∙ ap (λ ds. text ++ ds) (sym (fraction_digits-none places) ∙ ap (fraction_digits places) (sym z)) ∙ e

pub all_places : (text all : List ℕ) (places rest : ℕ) → places ≡ 0 → text ++ fraction_digits places rest ≡ all → text ≡ all
unfolding fraction_digits
all_places text all places rest z e = sym (append-nil text) ∙ ap (λ n. text ++ fraction_digits n rest) (sym z) ∙ e

pub exact_decimal-joined : (word : ℤ) (sign front text : List ℕ) (magnitude : ℕ) → magnitude ≡ unsigned_abs word → sign ≡ sign_text (is_below_zero word) → front ≡ sign ++ decimal (magnitude / 65536) → text ≡ front ++ fraction_text (fraction_digits 16 (magnitude % 65536)) → text ≡ exact_decimal word
unfolding exact_decimal
exact_decimal-joined word sign front text magnitude m s f t =
    t
    ∙ ap (λ l. l ++ fraction_text (fraction_digits 16 (magnitude % 65536))) (f ∙ ap (λ l. l ++ decimal (magnitude / 65536)) s)
    ∙ append_assoc (sign_text (is_below_zero word)) (decimal (magnitude / 65536)) (fraction_text (fraction_digits 16 (magnitude % 65536)))
    ∙ ap (λ n. sign_text (is_below_zero word) ++ (decimal (n / 65536) ++ fraction_text (fraction_digits 16 (n % 65536)))) m
