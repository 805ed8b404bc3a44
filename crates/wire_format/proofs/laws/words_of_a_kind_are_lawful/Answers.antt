use Rattle.wire_format.proofs.Words.{kind-laws}
use Rattle.wire_format.proofs.laws.words_of_a_kind_are_lawful.Goals as goal

pub returns : goal.returns
returns g c = kind-laws g.A.KindOfWord.kind g.A.KindOfWord.lawful
