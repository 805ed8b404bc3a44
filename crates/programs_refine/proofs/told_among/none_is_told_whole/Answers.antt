use Rattle.programs_refine.proofs.ToldAmong.{none_whole}
use Rattle.programs_refine.proofs.told_among.none_is_told_whole.Goals as goal

pub returns : goal.returns
returns c = none_whole
