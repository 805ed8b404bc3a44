-- What a pass over a list has found so far of the entries that begin with a text.
use Rattle.std.specs.Prelude.{ℕ, Option, Some, None, List, [], ◌∷◌}
use Rattle.constraint.specs.declared.string_list.Beginning.{Beginning}
use Rattle.constraint.specs.declared.string_list.Beginning.TheVariants.{Nowhere, At, Several}

abbrev pub beginning_of : List ℕ → Beginning
beginning_of [] = Nowhere
beginning_of (place ∷ []) = At place
beginning_of (place ∷ next ∷ places) = Several

abbrev pub with_place : Beginning → ℕ → Beginning
with_place Nowhere place = At place
with_place (At _) place = Several
with_place Several place = Several
