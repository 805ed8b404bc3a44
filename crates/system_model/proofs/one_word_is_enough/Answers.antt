use Rattle.system_model.proofs.OneWord.{one_word_enough}
use Rattle.system_model.proofs.one_word_is_enough.Goals as goal

pub returns : goal.returns
returns c = one_word_enough
