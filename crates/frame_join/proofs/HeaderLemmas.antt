-- The digits of a number, the last one last.
use Rattle.std.proofs.Common.{◌≡◌, ℕ, ◌<◌, ◌≤◌, ◌+◌, ◌/◌, ◌%◌, ◌^◌, List, [], ◌∷◌, ◌++◌, length, arith, ap, ◌∙◌, length-append}
use Rattle.std.specs.Prelude.{decimal, codes}
use Rattle.std.proofs.lemmas.List.{append_assoc}
use Rattle.std.proofs.lemmas.Fmt.{decimal_digit, decimal_step, length-decimal-le}

pub one_digit : (n : ℕ) → n < 10 → decimal n ≡ (48 + n) ∷ []
one_digit n h = decimal_digit n h

pub more_digits : (n : ℕ) → 10 ≤ n → n < 2 ^ 32 → decimal n ≡ decimal (n / 10) ++ ((48 + n % 10) ∷ [])
more_digits n some small = decimal_step n some (omega arith)

pub one_length : (n : ℕ) → n < 10 → length (decimal n) ≡ 1
one_length n h = ap (λ (l : List ℕ). length l) (one_digit n h)

pub more_length : (n : ℕ) → 10 ≤ n → n < 2 ^ 32 → length (decimal n) ≡ length (decimal (n / 10)) + 1
more_length n some small =
    ap (λ (l : List ℕ). length l) (more_digits n some small) ∙ length-append (decimal (n / 10)) ((48 + n % 10) ∷ [])

pub few_digits : (n : ℕ) → n < 2 ^ 32 → length (decimal n) ≤ 10
few_digits n small = length-decimal-le 10 n (omega arith) (omega (arith, small)) (omega (arith, small))

pub last_pieces : (old n : List ℕ) → (old ++ n) ++ 10 ∷ [] ≡ old ++ (n ++ 10 ∷ [])
last_pieces old n = append_assoc old n (10 ∷ [])

pub header_pieces : (old m w h t : List ℕ) → ((((((old ++ m) ++ (10 ∷ codes "# SANE data follows" ++ 10 ∷ [])) ++ w) ++ 32 ∷ []) ++ h) ++ 10 ∷ []) ++ t ≡ old ++ (m ++ (10 ∷ codes "# SANE data follows" ++ (10 ∷ w ++ (32 ∷ h ++ (10 ∷ t)))))
header_pieces old m w h t = simp append_assoc
