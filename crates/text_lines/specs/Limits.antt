-- The limits that the lines of a text keep. A line's length is counted without what ends it.
use Rattle.std.specs.Prelude.{ℕ, ◌≤◌, ◌<◌, List, length}
use Rattle.text_lines.specs.declared.limits.Limits.{Limits}
use Rattle.text_lines.specs.declared.limits.LimitFault.{LimitFault}
use Rattle.text_lines.specs.declared.limits.LimitFault.TheVariants.{TooMany, TooLong}

-- **limits of lines**: a line keeps them where its number, from 1, and its length, without what ends it, are at most
-- the limits.
pub record IsWithin (limits : Limits) (number : ℕ) (line : List ℕ) : Type 0 where
  pub count : number ≤ limits.lines
  pub size : length line ≤ limits.bytes

-- the limit that it breaks first
abbrev pub BreaksLimit : LimitFault → Limits → ℕ → List ℕ → Type 0
BreaksLimit TooMany limits number line = limits.lines < number
BreaksLimit TooLong limits number line = (number ≤ limits.lines) × (limits.bytes < length line)
