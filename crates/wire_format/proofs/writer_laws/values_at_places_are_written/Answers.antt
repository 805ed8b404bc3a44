use Rattle.wire_format.proofs.Writers.{places-writes}
use Rattle.wire_format.proofs.writer_laws.values_at_places_are_written.Goals as goal

pub returns : goal.returns
returns g c = places-writes c.args.count g.A.HasWriting.format g.A.HasWriting.writer g.A.HasWriting.exact
