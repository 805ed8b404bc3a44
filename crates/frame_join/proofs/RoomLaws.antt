-- What is held once what has gone is let go.
use Rattle.std.proofs.Common.{◌≡◌, ℕ, ◌+◌, ◌-◌, ◌≤◌, List, length, take, drop, arith, ap, ◌∙◌}
use Rattle.std.specs.List.{copy_within}
use Rattle.std.proofs.lemmas.List.{take_all, length-drop}
use Rattle.std.proofs.lemmas.List.Edits.{take-paste}

-- the bytes from a place on, copied to the front
pub rest_copied : (xs : List ℕ) (start : ℕ) → start ≤ length xs → take (length xs - start) (copy_within xs start (length xs) 0) ≡ drop start xs
rest_copied xs start inside =
    let n = length xs - start in
    ap (λ (k : ℕ). take k (copy_within xs start (length xs) 0)) (let e : n ≡ 0 + n = omega arith in e)
    ∙ (take-paste xs 0 (drop start xs) n (omega arith) (omega (arith, length-drop start xs))
    ∙ take_all n (drop start xs) (omega (arith, length-drop start xs)))
