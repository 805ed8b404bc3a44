use Rattle.daemon_refines.proofs.TableRefinement.{unplugs_agree}
use Rattle.daemon_refines.proofs.table_steps.an_unplug_follows_the_model.Goals as goal

pub returns : goal.returns
returns c = unplugs_agree
