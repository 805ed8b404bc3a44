use Rattle.event_world.proofs.Events.{stands_new, stands_run}
use Rattle.event_world.proofs.laws.files_are_represented.Goals as goal

pub returns : goal.returns
returns c = record { new = stands_new; run = stands_run }
