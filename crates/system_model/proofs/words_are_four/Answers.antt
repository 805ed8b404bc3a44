use Rattle.system_model.proofs.FourWords.{words_four}
use Rattle.system_model.proofs.words_are_four.Goals as goal

pub returns : goal.returns
returns c = words_four
