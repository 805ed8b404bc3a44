use Rattle.std.proofs.Common.{arith}
use Rattle.scan_frames.proofs.laws.gamma_entries_are_bytes.Goals as goal

pub returns : goal.returns
returns c = λ i. omega (arith, c.type_inv.table i)
