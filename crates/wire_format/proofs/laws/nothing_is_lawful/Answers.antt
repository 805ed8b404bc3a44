use Rattle.wire_format.proofs.Combining.{done-laws}
use Rattle.wire_format.proofs.laws.nothing_is_lawful.Goals as goal

pub returns : goal.returns
returns g c = done-laws
