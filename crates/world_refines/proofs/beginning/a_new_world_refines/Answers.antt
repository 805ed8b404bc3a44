use Rattle.world_refines.proofs.job_events.Beginnings.{new_worlds_alone, new_worlds_stand}
use Rattle.world_refines.proofs.moves.Budgets.{new_worlds_pay}
use Rattle.world_refines.proofs.beginning.a_new_world_refines.Goals as goal

pub returns : goal.returns
returns c = record { stands = new_worlds_stand; alone = new_worlds_alone; pays = new_worlds_pay }
