use Rattle.world_refines.proofs.job_events.Followed.{all_kept}
use Rattle.world_refines.proofs.histories.all_is_kept.Goals as goal

pub returns : goal.returns
returns c = all_kept
