use Rattle.programs_refine.proofs.StoppedLoops.{no_other_whole}
use Rattle.programs_refine.proofs.stopped_loops.no_other_is_told_whole.Goals as goal

pub returns : goal.returns
returns c = no_other_whole
