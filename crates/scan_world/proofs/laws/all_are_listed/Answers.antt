use Rattle.scan_world.proofs.Listing.{all_are_listed}
use Rattle.scan_world.proofs.laws.all_are_listed.Goals as goal

pub returns : goal.returns
returns c = all_are_listed c.what_stands_below.ensures
