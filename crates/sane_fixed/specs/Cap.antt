-- Capabilities of options.

use Rattle.std.specs.Prelude.{ℕ, ◌/◌, ◌%◌, ◌==◌, Bool}

-- the bit stands in the sum
abbrev pub has_cap : ℕ → ℕ → Bool
has_cap caps bit = caps / bit % 2 == 1
