use Rattle.std.proofs.Common.{◌≡◌, drop}
use Rattle.wire_format.specs.Writer.{behind}
use Rattle.wire_format.proofs.Loops.{texts}
use Rattle.wire_format.proofs.sequence.put_all.Given as goal

abbrev pub invariant-loop-value : goal.invariant-loop-value
invariant-loop-value g l = behind l.out.items (texts g.E.Encoder.writer (drop l.value-index l.values)) ≡ behind l.fn.out.items (texts g.E.Encoder.writer l.values)
