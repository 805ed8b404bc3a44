use Rattle.wire_format.proofs.Combining.{after-laws}
use Rattle.wire_format.proofs.laws.one_after_another_is_lawful.Goals as goal

pub returns : goal.returns
returns g c = after-laws g.A.HasSpelling.format g.B.HasSpellingBehind.formats g.A.HasSpelling.lawful g.B.HasSpellingBehind.lawful
