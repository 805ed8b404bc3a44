use Rattle.programs_lead.proofs.Lines.{lines}
use Rattle.programs_lead.proofs.lines_are_pages.Goals as goal

pub returns : goal.returns
returns c = lines
