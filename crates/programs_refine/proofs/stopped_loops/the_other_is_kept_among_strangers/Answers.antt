use Rattle.programs_refine.proofs.KilledAmong.{killed_kept}
use Rattle.programs_refine.proofs.stopped_loops.the_other_is_kept_among_strangers.Goals as goal

pub returns : goal.returns
returns c = killed_kept c.programs_keep_each_among_strangers.ensures
