use Rattle.strangers.proofs.Going.{jobs_go, keeps_worlds}
use Rattle.strangers.proofs.Together.{all_go_on}
use Rattle.strangers.proofs.jobs_go_on_among_strangers.Goals as goal

pub returns-clause-jobs : goal.returns-clause-jobs
returns-clause-jobs c = jobs_go

pub returns-clause-strangers : goal.returns-clause-strangers
returns-clause-strangers c = keeps_worlds

pub returns-clause-all : goal.returns-clause-all
returns-clause-all c = all_go_on
