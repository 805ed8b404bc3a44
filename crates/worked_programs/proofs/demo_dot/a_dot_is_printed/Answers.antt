use Rattle.worked_programs.proofs.DotMissed.{dot_missed}
use Rattle.worked_programs.proofs.DotPrinted.{dot_printed}
use Rattle.worked_programs.proofs.DotWritten.{dot_written}
use Rattle.worked_programs.proofs.demo_dot.a_dot_is_printed.Goals as goal

pub returns : goal.returns
returns c = record { well = dot_printed; otherwise = dot_missed; written = dot_written }
