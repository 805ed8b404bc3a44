use Rattle.std.proofs.Common.{◌≡◌, ◌<◌, ◌-◌, ◌++◌}
use Rattle.sane_fixed.specs.ExactDecimal.{fraction_digits}
use Rattle.sane_fixed.proofs.fixed.push_digits.Given as goal

-- what is written, and the digits of what is left, are all the digits
abbrev pub invariant-loop-place : goal.invariant-loop-place
invariant-loop-place l = (l.text.items ++ fraction_digits (16 - l._place) l.rest ≡ l.initial.text.items ++ fraction_digits 16 l.initial.rest) × (l.rest < 65536)
