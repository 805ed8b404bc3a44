use Rattle.programs_refine.proofs.StrangerComes.{stranger_kept}
use Rattle.programs_refine.proofs.among_strangers.a_run_among_strangers_is_kept.Goals as goal

pub returns : goal.returns
returns c = stranger_kept c.programs_keep_among_strangers.ensures
