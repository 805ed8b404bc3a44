use Rattle.scan_world.proofs.Calls.{all_follow}
use Rattle.scan_world.proofs.Clear.{clears_by}
use Rattle.scan_world.proofs.Listing.{all_are_listed}
use Rattle.scan_world.proofs.TrayPages.{trays_are_taken}
use Rattle.scan_world.proofs.laws.all_follow.Goals as goal

pub returns : goal.returns
returns c = record { right = all_follow; listed = all_are_listed; taken = trays_are_taken; clear = clears_by }
