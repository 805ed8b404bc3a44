use Rattle.worked_strangers.proofs.Lie.{no_strangers}
use Rattle.worked_strangers.proofs.laws.a_picture_is_no_strangers.Goals as goal

pub returns : goal.returns
returns c = no_strangers c.one_picture.ensures
