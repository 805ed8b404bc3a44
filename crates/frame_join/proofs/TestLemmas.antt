-- What tests on numbers and their combinations say.
use Rattle.std.proofs.Common.{◌≡◌, ℕ, ◌<◌, ◌≤◌, ◌⊎◌, inl, inr, Bool, true, false, not, arith, refl, sym, ◌∙◌}
use Rattle.std.specs.Prelude.{nat_le, nat_lt, ◌==◌, ◌&&◌, ◌||◌}
use Rattle.std.proofs.lemmas.Bool.Decides.{nat_tests}

pub lt_true : (a b : ℕ) → a < b → nat_lt a b ≡ true
lt_true a b h = grind (arith, nat_tests)

pub lt_false : (a b : ℕ) → b ≤ a → nat_lt a b ≡ false
lt_false a b h = grind (arith, nat_tests)

pub lt_from : (a b : ℕ) → nat_lt a b ≡ true → a < b
lt_from a b e = grind (arith, nat_tests)

pub not_lt_from : (a b : ℕ) → nat_lt a b ≡ false → b ≤ a
not_lt_from a b e = grind (arith, nat_tests)

pub le_true : (a b : ℕ) → a ≤ b → nat_le a b ≡ true
le_true a b h = grind (arith, nat_tests)

pub le_from : (a b : ℕ) → nat_le a b ≡ true → a ≤ b
le_from a b e = grind (arith, nat_tests)

pub eq_true : (a b : ℕ) → a ≡ b → (a == b) ≡ true
eq_true a b h = grind (arith, nat_tests)

pub eq_from : (a b : ℕ) → (a == b) ≡ true → a ≡ b
eq_from a b e = grind (arith, nat_tests)

pub eq_false : (a b : ℕ) → (a ≡ b → ⊥) → (a == b) ≡ false
eq_false a b differ = elim (a == b) as (λ t. (a == b) ≡ t → t ≡ false) [ true ↦ λ q. absurd (differ (eq_from a b q)) | false ↦ λ q. refl ] refl

pub not_eq_from : (a b : ℕ) → (a == b) ≡ false → a ≡ b → ⊥
not_eq_from a b e h = let clash : true ≡ false = sym (eq_true a b h) ∙ e in cc

pub same_test : (a b c d : ℕ) → (a ≡ b → c ≡ d) → (c ≡ d → a ≡ b) → (a == b) ≡ (c == d)
same_test a b c d there back =
    let P : Bool → Type 0 = λ t. (c == d) ≡ t → (a == b) ≡ t in
    elim (c == d) as P [
      | true ↦ λ q. eq_true a b (back (eq_from c d q))
      | false ↦ λ q. eq_false a b (λ e. not_eq_from c d q (there e))
    ] refl

pub or_cases : (a b : Bool) → (a || b) ≡ true → (a ≡ true) ⊎ (b ≡ true)
or_cases true b h = inl refl
or_cases false b h = inr h

pub or_right : (a b : Bool) → b ≡ true → (a || b) ≡ true
or_right true b h = refl
or_right false b h = h

pub or_left : (a b : Bool) → a ≡ true → (a || b) ≡ true
or_left true b h = refl
or_left false b h = absurd (cc)

pub or_false : (a b : Bool) → (a || b) ≡ false → (a ≡ false) × (b ≡ false)
or_false true b e = absurd (cc)
or_false false b e = (refl, e)

-- of two the other one
pub or_other : (a b : Bool) → (a || b) ≡ true → a ≡ false → b ≡ true
or_other true b h e = absurd (cc)
or_other false b h e = h

pub and_true : (a b : Bool) → a ≡ true → b ≡ true → (a && b) ≡ true
and_true true b x y = y
and_true false b x y = absurd (cc)

pub not_true : (a : Bool) → not a ≡ true → a ≡ false
not_true true h = absurd (cc)
not_true false h = refl

pub not_false : (a : Bool) → a ≡ false → not a ≡ true
not_false true h = absurd (cc)
not_false false h = refl
