use Rattle.programs_refine.proofs.WorkedRuns.{kept}
use Rattle.programs_refine.proofs.worked_runs.a_run_is_kept.Goals as goal

pub returns : goal.returns
returns c = kept c.programs_keep_all.ensures
