use Rattle.worked_programs.proofs.Filed.{dot_filed, dot_unfiled}
use Rattle.worked_programs.proofs.named_scans.a_dot_is_filed.Goals as goal

pub returns : goal.returns
returns c = record { well = dot_filed; otherwise = dot_unfiled }
