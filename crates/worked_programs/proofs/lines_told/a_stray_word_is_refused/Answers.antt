use Rattle.worked_programs.proofs.Stray.{stray_never, stray_refused}
use Rattle.worked_programs.proofs.lines_told.a_stray_word_is_refused.Goals as goal

pub returns : goal.returns
returns c = record { never = stray_never; told = stray_refused }
