use Rattle.worked_programs.proofs.Rounded.{rounded_is_told, rounded_missed}
use Rattle.worked_programs.proofs.lines_told.a_rounded_setting_is_told.Goals as goal

pub returns : goal.returns
returns c = record { well = rounded_is_told; otherwise = rounded_missed }
