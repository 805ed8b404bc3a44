use Rattle.programs_refine.proofs.StoppedLoops.{tells_each_among}
use Rattle.programs_refine.proofs.stopped_loops.programs_tell_each_among_strangers.Goals as goal

pub returns : goal.returns
returns c = tells_each_among c.programs_keep_all_among_strangers.ensures
