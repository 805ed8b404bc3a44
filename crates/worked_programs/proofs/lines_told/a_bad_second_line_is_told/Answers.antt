use Rattle.worked_programs.proofs.BadLines.{bad_line_is_told, never_done}
use Rattle.worked_programs.proofs.lines_told.a_bad_second_line_is_told.Goals as goal

pub returns : goal.returns
returns c = record { never = never_done; told = bad_line_is_told }
