use Rattle.std.proofs.Common.{◌≡◌, ◌-◌}
use Rattle.wire_format.specs.Format.{places}
use Rattle.wire_format.proofs.Loops.{with_front}
use Rattle.wire_format.proofs.sequence.places.Given as goal

abbrev pub invariant-loop : goal.invariant-loop
invariant-loop g l = with_front l.values.items ((places (l.count - l.counter) g.R.Reader.format).read l.rest) ≡ (places l.count g.R.Reader.format).read l.bytes
