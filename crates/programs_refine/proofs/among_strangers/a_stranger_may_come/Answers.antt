use Rattle.programs_refine.proofs.StrangerComes.{stranger_comes}
use Rattle.programs_refine.proofs.among_strangers.a_stranger_may_come.Goals as goal

pub returns : goal.returns
returns c = stranger_comes
