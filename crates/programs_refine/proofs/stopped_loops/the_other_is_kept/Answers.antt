use Rattle.programs_refine.proofs.KilledBeside.{killed_alone_kept}
use Rattle.programs_refine.proofs.stopped_loops.the_other_is_kept.Goals as goal

pub returns : goal.returns
returns c = killed_alone_kept c.programs_keep_each.ensures
