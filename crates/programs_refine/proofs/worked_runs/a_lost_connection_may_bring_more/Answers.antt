use Rattle.programs_refine.proofs.WorkedRuns.{lost_brings}
use Rattle.programs_refine.proofs.worked_runs.a_lost_connection_may_bring_more.Goals as goal

pub returns : goal.returns
returns c = lost_brings
