use Rattle.world_refines.proofs.job_events.Followed.{events_follow}
use Rattle.world_refines.proofs.histories.a_run_refines.Goals as goal

pub returns : goal.returns
returns c = events_follow
