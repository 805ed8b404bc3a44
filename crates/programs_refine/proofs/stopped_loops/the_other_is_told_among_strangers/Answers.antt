use Rattle.programs_refine.proofs.KilledAmong.{killed_told}
use Rattle.programs_refine.proofs.stopped_loops.the_other_is_told_among_strangers.Goals as goal

pub returns : goal.returns
returns c = killed_told c.programs_tell_each_among_strangers.ensures
