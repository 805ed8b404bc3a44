use Rattle.scan_world.proofs.TrayPages.{trays_are_taken}
use Rattle.scan_world.proofs.laws.trays_are_taken.Goals as goal

pub returns : goal.returns
returns c = trays_are_taken c.what_stands_below.ensures
