use Rattle.programs_refine.proofs.KeepingAmong.{keep_turn}
use Rattle.programs_refine.proofs.among_strangers.worlds_keep_turn_among_strangers.Goals as goal

pub returns : goal.returns
returns c = keep_turn c.all_is_kept_among_strangers.ensures
