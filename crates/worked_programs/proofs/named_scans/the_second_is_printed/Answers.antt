use Rattle.worked_programs.proofs.Second.{second_missed, second_printed}
use Rattle.worked_programs.proofs.named_scans.the_second_is_printed.Goals as goal

pub returns : goal.returns
returns c = record { well = second_printed; otherwise = second_missed }
