-- What a reader with a limit gives.
use Rattle.std.proofs.Common.{◌≡◌, ℕ, List, [], ◌++◌, Option, Some, None, take, subst}
use Rattle.std.specs.Prelude.{IfSome, option_map}
use Rattle.std.specs.Io.Take.{take_inner, take_limit, take_remaining}
use Rattle.std.specs.declared.io.traits.Take.{Take}

by_known : (n : ℕ) (new : List ℕ) (known : Option (List ℕ)) → IfSome (option_map (take n) known) (λ xs. new ≡ [] ++ xs) → IfSome known (λ all. new ≡ take n all)
by_known n new None is = is
by_known n new (Some all) is = is

pub front_read : {R : Type 0} (remaining : R → Option (List ℕ)) (t : Take R) (reader : R) (n : ℕ) (old new : List ℕ) → take_limit t ≡ n → take_inner t ≡ reader → old ≡ []
    → IfSome (take_remaining remaining t) (λ xs. new ≡ old ++ xs) → IfSome (remaining reader) (λ all. new ≡ take n all)
front_read remaining t reader n old new limit inner none is =
    let known : IfSome (option_map (take (take_limit t)) (remaining (take_inner t))) (λ xs. new ≡ [] ++ xs) = subst (λ (l : List ℕ). IfSome (take_remaining remaining t) (λ xs. new ≡ l ++ xs)) none is in
    let counted : IfSome (option_map (take n) (remaining (take_inner t))) (λ xs. new ≡ [] ++ xs) = subst (λ (k : ℕ). IfSome (option_map (take k) (remaining (take_inner t))) (λ xs. new ≡ [] ++ xs)) limit known in
    by_known n new (remaining reader) (subst (λ r. IfSome (option_map (take n) (remaining r)) (λ xs. new ≡ [] ++ xs)) inner counted)
