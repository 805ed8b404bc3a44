use Rattle.worked_programs.proofs.Missing.{missing_is_told, missing_never}
use Rattle.worked_programs.proofs.lines_told.a_missing_device_is_told.Goals as goal

pub returns : goal.returns
returns c = record { never = missing_never; told = missing_is_told }
