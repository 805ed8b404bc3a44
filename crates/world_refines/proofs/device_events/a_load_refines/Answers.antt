use Rattle.world_refines.proofs.job_events.Loading.{loads_follow}
use Rattle.world_refines.proofs.device_events.a_load_refines.Goals as goal

pub returns : goal.returns
returns c = loads_follow
