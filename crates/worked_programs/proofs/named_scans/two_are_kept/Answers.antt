use Rattle.worked_programs.proofs.Kept.{two_kept}
use Rattle.worked_programs.proofs.named_scans.two_are_kept.Goals as goal

pub returns : goal.returns
returns c = two_kept
