-- Words of a command line, as bytes.
use Rattle.std.specs.Prelude.{ℕ, ◌==◌, Bool, true, false, List, [], ◌∷◌}

-- a sign of equality
abbrev pub is_equals : ℕ → Bool
is_equals b = b == 61

abbrev pub is_empty : List ℕ → Bool
is_empty [] = true
is_empty (_ ∷ _) = false
