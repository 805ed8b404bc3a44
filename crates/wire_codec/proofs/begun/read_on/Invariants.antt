use Rattle.std.proofs.Common.{◌≡◌, ◌+◌}
use Rattle.wire_codec.specs.Arrays.{ReadsElements}
use Rattle.wire_codec.proofs.begun.read_on.Given as goal

abbrev pub invariant-loop : goal.invariant-loop
invariant-loop g l = ReadsElements g.E.Element.format l.bytes l.fn.elements l.elements × (l.elements.left + l.counter ≡ l.count)
