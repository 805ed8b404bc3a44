-- What is found in a list, element by element.
use Rattle.std.proofs.Common.{◌≡◌, ◌∙◌, ◌<◌, ◌+◌, ℕ, suc, add-one, Bool, false, cond, List, ◌∷◌, Option, Some, drop, length, get_or, sym, ap}
use Rattle.std.specs.Prelude.{find}
use Rattle.std.proofs.Math.Seq.{drop-cons}

-- an element that is not looked for
pub find_more : {X : Type 0} (p : X → Bool) (xs : List X) (i : ℕ) (x : X) (w : Option X) → i < length xs → p (get_or xs i x) ≡ false → find p (drop i xs) ≡ w → find p (drop (i + 1) xs) ≡ w
find_more p xs i x w within not before =
    let cut : drop i xs ≡ get_or xs i x ∷ drop (suc i) xs = drop-cons xs i x within in
    let step : find p (drop i xs) ≡ find p (drop (suc i) xs) = ap (find p) cut ∙ ap (λ (b : Bool). cond b (Some (get_or xs i x)) (find p (drop (suc i) xs))) not in
    rw add-one (sym step ∙ before)
