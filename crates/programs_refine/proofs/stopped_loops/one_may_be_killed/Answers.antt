use Rattle.programs_refine.proofs.KilledBeside.{killed_beside}
use Rattle.programs_refine.proofs.stopped_loops.one_may_be_killed.Goals as goal

pub returns : goal.returns
returns c = killed_beside
