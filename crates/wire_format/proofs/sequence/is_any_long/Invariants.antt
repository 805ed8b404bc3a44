use Rattle.std.proofs.Common.{◌≡◌, drop}
use Rattle.wire_format.proofs.Loops.{any_long}
use Rattle.wire_format.proofs.sequence.is_any_long.Given as goal

abbrev pub invariant-loop-value : goal.invariant-loop-value
invariant-loop-value g l = any_long g.E.Encoder.writer (drop l.value-index l.values) ≡ any_long g.E.Encoder.writer l.values
