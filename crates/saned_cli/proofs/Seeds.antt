-- The seed that an option's text says.
use Rattle.std.proofs.Common.{◌≡◌, List, ℕ, Option, Some, None, Result, Ok, Err, IfSome, MatchResult, subst, sym, refl}

abbrev Gives : {E : Type 0} → Result (List ℕ) E → Option (List ℕ) → Type 0
Gives decoded found = IfSome found (λ seed. decoded ≡ Ok seed)

pub seed_read : {E : Type 0} (decoded : Result (List ℕ) E) (found : Option (List ℕ)) → MatchResult decoded (λ bytes. found ≡ Some bytes) (λ _. found ≡ None) → IfSome found (λ seed. decoded ≡ Ok seed)
seed_read {E = E} (Ok bytes) found is = subst (Gives {E = E} (Ok bytes)) (sym is) refl
seed_read {E = E} (Err fault) found is = subst (Gives {E = E} (Err fault)) (sym is) tt
