use Rattle.scan_frames.proofs.Zeros.{ends_in_zeros}
use Rattle.scan_frames.proofs.laws.lines_end_in_zeros.Goals as goal

pub returns : goal.returns
returns c = ends_in_zeros
