use Rattle.frame_join.proofs.EndSteps.{holds_no_file}
use Rattle.frame_join.proofs.laws.not_whole_before.Goals as goal

pub returns : goal.returns
returns c = holds_no_file
