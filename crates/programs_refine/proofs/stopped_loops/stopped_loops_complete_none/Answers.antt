use Rattle.programs_refine.proofs.StoppedLoops.{stopped_complete_none}
use Rattle.programs_refine.proofs.stopped_loops.stopped_loops_complete_none.Goals as goal

pub returns : goal.returns
returns c = stopped_complete_none
