use Rattle.world_refines.proofs.job_events.Unplugging.{unplugs_follow}
use Rattle.world_refines.proofs.device_events.an_unplug_refines.Goals as goal

pub returns : goal.returns
returns c = unplugs_follow
