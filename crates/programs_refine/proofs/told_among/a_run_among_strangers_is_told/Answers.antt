use Rattle.programs_refine.proofs.ToldAmong.{stranger_told}
use Rattle.programs_refine.proofs.told_among.a_run_among_strangers_is_told.Goals as goal

pub returns : goal.returns
returns c = stranger_told c.programs_keep_all_among_strangers.ensures
