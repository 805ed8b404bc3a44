use Rattle.std.proofs.Common.{ℕ, ◌<◌, ◌*◌}
use Rattle.scan_frames.specs.Inside.{IsGrayDot}
use Rattle.scan_frames.proofs.gray_rows.is_gray.Given as goal

abbrev pub invariant-loop-n : goal.invariant-loop-n
invariant-loop-n l = (p : ℕ) → p < 8 * l.n → IsGrayDot l.fn.row p

abbrev pub invariant-loop-p : goal.invariant-loop-p
invariant-loop-p l = (p : ℕ) → p < l.p → IsGrayDot l.fn.row p
