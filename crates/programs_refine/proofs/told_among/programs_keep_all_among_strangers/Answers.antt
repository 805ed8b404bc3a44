use Rattle.programs_refine.proofs.ToldAmong.{all_told}
use Rattle.programs_refine.proofs.told_among.programs_keep_all_among_strangers.Goals as goal

pub returns : goal.returns
returns c = all_told c.all_is_kept_among_strangers.ensures c.all_is_right.ensures
