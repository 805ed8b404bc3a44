use Rattle.scan_world.proofs.Refused.{allowed, counted, few, hidden, listed, never_had, nowhere, rounded, shown, silent}
use Rattle.scan_world.proofs.lies.a_report_is_no_lie.Goals as goal

pub returns : goal.returns
returns c = record { listed = listed; shown = shown; counted = counted; few = few; nowhere = nowhere; hidden = hidden; allowed = allowed; never_had = never_had; silent = silent; rounded = rounded }
