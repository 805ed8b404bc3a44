use Rattle.wire_format.proofs.Combining.{places-laws}
use Rattle.wire_format.proofs.laws.values_at_places_are_lawful.Goals as goal

pub returns : goal.returns
returns g c = places-laws c.args.count g.A.HasSpelling.format g.A.HasSpelling.lawful
