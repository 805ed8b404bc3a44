use Rattle.programs_lead.proofs.Exits.{lead}
use Rattle.programs_lead.proofs.exits_lead.Goals as goal

pub returns : goal.returns
returns c = lead c.exits_interleave.ensures c.runs_are_among_strangers.ensures.led c.programs_keep_all_among_strangers.ensures
