use Rattle.programs_refine.proofs.AnyLoops.{tells_each_beside}
use Rattle.programs_refine.proofs.stopped_loops.programs_tell_each_beside_any.Goals as goal

pub returns : goal.returns
returns c = tells_each_beside c.programs_keep_all_among_strangers.ensures
