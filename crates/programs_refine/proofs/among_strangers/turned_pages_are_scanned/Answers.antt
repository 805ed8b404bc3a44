use Rattle.programs_refine.proofs.KeepingAmong.{turned_scanned}
use Rattle.programs_refine.proofs.among_strangers.turned_pages_are_scanned.Goals as goal

pub returns : goal.returns
returns c = turned_scanned
