use Rattle.programs_refine.proofs.KeepingAmong.{no_lie}
use Rattle.programs_refine.proofs.among_strangers.strangers_complete_no_loop.Goals as goal

pub returns : goal.returns
returns c = no_lie
