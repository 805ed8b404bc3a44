-- Every third number of a row: the bytes of three sixteens that stand at these places.
use Rattle.std.proofs.Common.{◌≡◌, ℕ, zero, suc, ◌+◌, ◌-◌, ◌*◌, ◌/◌, ◌%◌, ◌<◌, ◌≤◌, List, [], ◌∷◌, ◌++◌, inl, inr, length, arith, ap, sym, ◌∙◌}
use Rattle.std.specs.Prelude.{slice_index, nat_lt, if◌then◌else◌, false}
use Rattle.std.proofs.lemmas.Bool.Decides.{nat_tests}
use Rattle.page_sources.specs.Inside.{third_byte}
use Rattle.std.proofs.lemmas.Bool.{cases_lt}
use Rattle.std.proofs.lemmas.List.{get_or_append_left, get_or-append_right}

-- a byte of two sixteens
pub of_two : (a b : List ℕ) (f : ℕ → ℕ) → length a ≡ 16 → ((i : ℕ) → i < 16 → slice_index a i ≡ f i) → ((i : ℕ) → i < 16 → slice_index b i ≡ f (16 + i)) → (j : ℕ) → j < 32 → slice_index (a ++ b) j ≡ f j
of_two a b f long first second j less =
    elim (cases_lt j 16) as (λ _. slice_index (a ++ b) j ≡ f j) [
      | inl low ↦ get_or_append_left a b 0 j (omega (arith, long, low)) ∙ first j low
      | inr high ↦
          let place : 16 + (j - 16) ≡ j = omega (arith, high) in
          get_or-append_right a b 16 j 0 long high ∙ (second (j - 16) (omega (arith, less, high)) ∙ ap f place)
    ]

-- bytes 0, 3 and so on of 48
pub thirds : (both third : List ℕ) (f : ℕ → ℕ) → ((j : ℕ) → j < 32 → slice_index both j ≡ f j) → ((i : ℕ) → i < 16 → slice_index third i ≡ f (32 + i)) → (i : ℕ) → i < 16
    → slice_index (slice_index both 0 ∷ slice_index both 3 ∷ slice_index both 6 ∷ slice_index both 9 ∷ slice_index both 12 ∷ slice_index both 15 ∷ slice_index both 18 ∷ slice_index both 21 ∷ slice_index both 24 ∷ slice_index both 27 ∷ slice_index both 30 ∷ slice_index third 1 ∷ slice_index third 4 ∷ slice_index third 7 ∷ slice_index third 10 ∷ slice_index third 13 ∷ []) i ≡ f (3 * i)
thirds both third f front back zero less = front 0 (omega arith)
thirds both third f front back (suc zero) less = front 3 (omega arith)
thirds both third f front back (suc (suc zero)) less = front 6 (omega arith)
thirds both third f front back (suc (suc (suc zero))) less = front 9 (omega arith)
thirds both third f front back (suc (suc (suc (suc zero)))) less = front 12 (omega arith)
thirds both third f front back (suc (suc (suc (suc (suc zero))))) less = front 15 (omega arith)
thirds both third f front back (suc (suc (suc (suc (suc (suc zero)))))) less = front 18 (omega arith)
thirds both third f front back (suc (suc (suc (suc (suc (suc (suc zero))))))) less = front 21 (omega arith)
thirds both third f front back (suc (suc (suc (suc (suc (suc (suc (suc zero)))))))) less = front 24 (omega arith)
thirds both third f front back (suc (suc (suc (suc (suc (suc (suc (suc (suc zero))))))))) less = front 27 (omega arith)
thirds both third f front back (suc (suc (suc (suc (suc (suc (suc (suc (suc (suc zero)))))))))) less = front 30 (omega arith)
thirds both third f front back (suc (suc (suc (suc (suc (suc (suc (suc (suc (suc (suc zero))))))))))) less = back 1 (omega arith)
thirds both third f front back (suc (suc (suc (suc (suc (suc (suc (suc (suc (suc (suc (suc zero)))))))))))) less = back 4 (omega arith)
thirds both third f front back (suc (suc (suc (suc (suc (suc (suc (suc (suc (suc (suc (suc (suc zero))))))))))))) less = back 7 (omega arith)
thirds both third f front back (suc (suc (suc (suc (suc (suc (suc (suc (suc (suc (suc (suc (suc (suc zero)))))))))))))) less = back 10 (omega arith)
thirds both third f front back (suc (suc (suc (suc (suc (suc (suc (suc (suc (suc (suc (suc (suc (suc (suc zero))))))))))))))) less = back 13 (omega arith)
thirds both third f front back (suc (suc (suc (suc (suc (suc (suc (suc (suc (suc (suc (suc (suc (suc (suc (suc n)))))))))))))))) less = absurd (omega arith)

-- the first bytes of numbers 0, 3 and so on of 24
pub third_firsts : (both third : List ℕ) (f : ℕ → ℕ) → ((j : ℕ) → j < 32 → slice_index both j ≡ f j) → ((i : ℕ) → i < 16 → slice_index third i ≡ f (32 + i)) → (i : ℕ) → i < 8
    → slice_index (slice_index both 0 ∷ slice_index both 1 ∷ slice_index both 6 ∷ slice_index both 7 ∷ slice_index both 12 ∷ slice_index both 13 ∷ slice_index both 18 ∷ slice_index both 19 ∷ slice_index both 24 ∷ slice_index both 25 ∷ slice_index both 30 ∷ slice_index both 31 ∷ slice_index third 4 ∷ slice_index third 5 ∷ slice_index third 10 ∷ slice_index third 11 ∷ []) (2 * i) ≡ f (6 * i)
third_firsts both third f front back zero less = front 0 (omega arith)
third_firsts both third f front back (suc zero) less = front 6 (omega arith)
third_firsts both third f front back (suc (suc zero)) less = front 12 (omega arith)
third_firsts both third f front back (suc (suc (suc zero))) less = front 18 (omega arith)
third_firsts both third f front back (suc (suc (suc (suc zero)))) less = front 24 (omega arith)
third_firsts both third f front back (suc (suc (suc (suc (suc zero))))) less = front 30 (omega arith)
third_firsts both third f front back (suc (suc (suc (suc (suc (suc zero)))))) less = back 4 (omega arith)
third_firsts both third f front back (suc (suc (suc (suc (suc (suc (suc zero))))))) less = back 10 (omega arith)
third_firsts both third f front back (suc (suc (suc (suc (suc (suc (suc (suc n)))))))) less = absurd (omega arith)

-- their second bytes
pub third_seconds : (both third : List ℕ) (f : ℕ → ℕ) → ((j : ℕ) → j < 32 → slice_index both j ≡ f j) → ((i : ℕ) → i < 16 → slice_index third i ≡ f (32 + i)) → (i : ℕ) → i < 8
    → slice_index (slice_index both 0 ∷ slice_index both 1 ∷ slice_index both 6 ∷ slice_index both 7 ∷ slice_index both 12 ∷ slice_index both 13 ∷ slice_index both 18 ∷ slice_index both 19 ∷ slice_index both 24 ∷ slice_index both 25 ∷ slice_index both 30 ∷ slice_index both 31 ∷ slice_index third 4 ∷ slice_index third 5 ∷ slice_index third 10 ∷ slice_index third 11 ∷ []) (2 * i + 1) ≡ f (6 * i + 1)
third_seconds both third f front back zero less = front 1 (omega arith)
third_seconds both third f front back (suc zero) less = front 7 (omega arith)
third_seconds both third f front back (suc (suc zero)) less = front 13 (omega arith)
third_seconds both third f front back (suc (suc (suc zero))) less = front 19 (omega arith)
third_seconds both third f front back (suc (suc (suc (suc zero)))) less = front 25 (omega arith)
third_seconds both third f front back (suc (suc (suc (suc (suc zero))))) less = front 31 (omega arith)
third_seconds both third f front back (suc (suc (suc (suc (suc (suc zero)))))) less = back 5 (omega arith)
third_seconds both third f front back (suc (suc (suc (suc (suc (suc (suc zero))))))) less = back 11 (omega arith)
third_seconds both third f front back (suc (suc (suc (suc (suc (suc (suc (suc n)))))))) less = absurd (omega arith)

-- the bytes of every third number of two bytes, from both bytes of each
pub third_words_are : (maxval at : ℕ) (bytes part : List ℕ) → 256 ≤ maxval → ((x : ℕ) → 2 * x < length part → slice_index part (2 * x) ≡ slice_index bytes (2 * at + 6 * x)) → ((x : ℕ) → 2 * x < length part → slice_index part (2 * x + 1) ≡ slice_index bytes (2 * at + 6 * x + 1))
    → (j : ℕ) → j < length part → slice_index part j ≡ third_byte maxval bytes at j
third_words_are maxval at bytes part wide first second j less =
    let x = j / 2 in
    let begins : 2 * x < length part = omega (arith, less) in
    let two : nat_lt maxval 256 ≡ false = grind (arith, nat_tests, wide) in
    let is : slice_index part j ≡ slice_index bytes (2 * at + 6 * (j / 2) + j % 2) =
    elim (cases_lt (j % 2) 1) as (λ _. slice_index part j ≡ slice_index bytes (2 * at + 6 * (j / 2) + j % 2)) [
      | inl low ↦
          let place : j ≡ 2 * x = omega (arith, low) in
          let from : 2 * at + 6 * x ≡ 2 * at + 6 * (j / 2) + j % 2 = omega (arith, low) in
          ap (slice_index part) place ∙ (first x begins ∙ ap (slice_index bytes) from)
      | inr high ↦
          let place : j ≡ 2 * x + 1 = omega (arith, high) in
          let from : 2 * at + 6 * x + 1 ≡ 2 * at + 6 * (j / 2) + j % 2 = omega (arith, high) in
          ap (slice_index part) place ∙ (second x begins ∙ ap (slice_index bytes) from)
    ] in
    is ∙ ap (λ t. if t then slice_index bytes (at + 3 * j) else slice_index bytes (2 * at + 6 * (j / 2) + j % 2)) (sym two)
