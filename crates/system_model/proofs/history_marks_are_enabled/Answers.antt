use Rattle.system_model.proofs.RunMarks.{histories_legal}
use Rattle.system_model.proofs.history_marks_are_enabled.Goals as goal

pub returns : goal.returns
returns c = histories_legal
