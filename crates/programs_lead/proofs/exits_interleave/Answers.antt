use Rattle.programs_lead.proofs.Exits.{interleave}
use Rattle.programs_lead.proofs.exits_interleave.Goals as goal

pub returns : goal.returns
returns c = interleave
