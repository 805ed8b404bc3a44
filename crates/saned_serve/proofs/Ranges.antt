-- Parts of lists.
use Rattle.std.proofs.Common.{◌≡◌, ◌≤◌, ℕ, ◌+◌, ◌-◌, List, length, take, drop, slice_range, arith, sym, ◌∙◌, ap}
use Rattle.std.proofs.lemmas.List.{drop-take, drop-drop, length-take}

pub range_on : (xs : List ℕ) (i j n : ℕ) → i + n ≤ j → slice_range xs (i + n) j ≡ drop n (slice_range xs i j)
range_on xs i j n h =
    let e : j - i ≡ n + (j - (i + n)) = omega arith in
    sym (ap (λ k. drop n (take k (drop i xs))) e ∙ drop-take n (j - (i + n)) (drop i xs) ∙ ap (take (j - (i + n))) (drop-drop n i xs))

pub fits_range : (xs : List ℕ) (i j n : ℕ) → i ≤ j → n ≤ length (slice_range xs i j) → i + n ≤ j
fits_range xs i j n o h = omega (arith, length-take (j - i) (drop i xs), h, o)
