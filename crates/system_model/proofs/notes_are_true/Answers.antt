use Rattle.system_model.proofs.Noted.{notes_true}
use Rattle.system_model.proofs.notes_are_true.Goals as goal

pub returns : goal.returns
returns c = notes_true
