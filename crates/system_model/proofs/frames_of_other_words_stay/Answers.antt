use Rattle.system_model.proofs.OthersFrames.{others_frames}
use Rattle.system_model.proofs.frames_of_other_words_stay.Goals as goal

pub returns : goal.returns
returns c = others_frames
