use Rattle.programs_refine.proofs.KilledAmong.{killed_run}
use Rattle.programs_refine.proofs.stopped_loops.one_may_be_killed_among_strangers.Goals as goal

pub returns : goal.returns
returns c = killed_run
