use Rattle.system_model.proofs.EnabledMarks.{marks_legal}
use Rattle.system_model.proofs.marks_are_enabled.Goals as goal

pub returns : goal.returns
returns c = marks_legal
