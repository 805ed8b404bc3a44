use Rattle.scan_world.proofs.Calls.{all_follow}
use Rattle.scan_world.proofs.laws.all_is_right.Goals as goal

pub returns : goal.returns
returns c = all_follow c.what_stands_below.ensures
