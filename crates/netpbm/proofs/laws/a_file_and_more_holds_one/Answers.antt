use Rattle.std.proofs.Common.{length, sym, subst}
use Rattle.std.proofs.Math.Seq.{take-append_seam}
use Rattle.netpbm.specs.Pnm.{IsWhole}
use Rattle.netpbm.proofs.laws.a_file_and_more_holds_one.Goals as goal

pub returns : goal.returns
returns c = λ text more whole holds. holds (length text) (subst IsWhole (sym (take-append_seam text more)) whole)
