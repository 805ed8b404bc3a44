use Rattle.programs_lead.proofs.Exits.{at_hosts}
use Rattle.programs_lead.proofs.exits_at_hosts.Goals as goal

pub returns : goal.returns
returns c = at_hosts
