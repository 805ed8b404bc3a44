use Rattle.system_model.proofs.RunsOut.{runs_bounded, runs_end, runs_go_on}
use Rattle.system_model.proofs.the_round_robin_ends.Goals as goal

pub returns-clause-bounded : goal.returns-clause-bounded
returns-clause-bounded c = runs_bounded

pub returns-clause-goes_on : goal.returns-clause-goes_on
returns-clause-goes_on c = runs_go_on

pub returns-clause-ends : goal.returns-clause-ends
returns-clause-ends c = runs_end
