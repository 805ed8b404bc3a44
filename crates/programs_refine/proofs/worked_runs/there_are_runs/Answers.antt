use Rattle.programs_refine.proofs.WorkedRuns.{lost_at_once, new_is_fit, starved_at_once}
use Rattle.programs_refine.proofs.worked_runs.there_are_runs.Goals as goal

pub returns-clause-lost : goal.returns-clause-lost
returns-clause-lost c = lost_at_once

pub returns-clause-starved : goal.returns-clause-starved
returns-clause-starved c = starved_at_once

pub returns-clause-fit : goal.returns-clause-fit
returns-clause-fit c = new_is_fit
