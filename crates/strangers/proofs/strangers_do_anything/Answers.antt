use Rattle.strangers.proofs.Acting.{do_all, do_anything}
use Rattle.strangers.proofs.strangers_do_anything.Goals as goal

pub returns-clause-one : goal.returns-clause-one
returns-clause-one c = do_anything

pub returns-clause-all : goal.returns-clause-all
returns-clause-all c = do_all
