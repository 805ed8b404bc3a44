use Rattle.programs_refine.proofs.StoppedLoops.{keeps_each_among}
use Rattle.programs_refine.proofs.stopped_loops.programs_keep_each_among_strangers.Goals as goal

pub returns : goal.returns
returns c = keeps_each_among c.programs_keep_among_strangers.ensures
