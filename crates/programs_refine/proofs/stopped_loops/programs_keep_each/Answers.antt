use Rattle.programs_refine.proofs.StoppedLoops.{keeps_each}
use Rattle.programs_refine.proofs.stopped_loops.programs_keep_each.Goals as goal

pub returns : goal.returns
returns c = keeps_each c.programs_keep_all.ensures
