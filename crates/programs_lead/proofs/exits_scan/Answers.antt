use Rattle.programs_lead.proofs.Scans.{scan}
use Rattle.programs_lead.proofs.exits_scan.Goals as goal

pub returns : goal.returns
returns c = scan c.exits_lead.ensures
