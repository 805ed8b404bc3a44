use Rattle.programs_refine.proofs.KeepingAmong.{keep_among}
use Rattle.programs_refine.proofs.among_strangers.programs_keep_among_strangers.Goals as goal

pub returns : goal.returns
returns c = keep_among c.all_is_kept_among_strangers.ensures
