-- What every text of SANE's strings keeps.
use Rattle.std.specs.Prelude.{ℕ, List, Contains}

-- **text (`IsText`)**: bytes none of which is NUL (SANE Standard 1.06, "Text").
abbrev pub IsText : List ℕ → Type 0
IsText bytes = ¬ Contains bytes 0
