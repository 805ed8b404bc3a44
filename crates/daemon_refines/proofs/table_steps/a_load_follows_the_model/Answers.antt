use Rattle.daemon_refines.proofs.TableRefinement.{loads_agree, pages_agree, refusals_agree}
use Rattle.daemon_refines.proofs.table_steps.a_load_follows_the_model.Goals as goal

pub returns-clause-taken : goal.returns-clause-taken
returns-clause-taken c = pages_agree

pub returns-clause-refused : goal.returns-clause-refused
returns-clause-refused c = refusals_agree

pub returns-clause-in_its_place : goal.returns-clause-in_its_place
returns-clause-in_its_place c = loads_agree
