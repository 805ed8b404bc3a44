use Rattle.programs_refine.proofs.ToldAmong.{all_known}
use Rattle.programs_refine.proofs.told_among.devices_are_known.Goals as goal

pub returns : goal.returns
returns c = all_known
