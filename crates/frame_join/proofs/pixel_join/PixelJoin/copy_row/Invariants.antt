use Rattle.std.proofs.Common.{◌≡◌, ◌-◌, take, drop, length}
use Rattle.frame_join.specs.FrameHistory.{JoinHistory, after_pull}
use Rattle.frame_join.specs.PixelJoinStates.{PixelRepresents}
use Rattle.frame_join.specs.Inside.{after_samples}
use Rattle.frame_join.proofs.pixel_join.PixelJoin.copy_row.Given as goal

abbrev pub invariant-loop-i : goal.invariant-loop-i
invariant-loop-i l = record {
  size : length l.buf ≡ length l.fn.buf;
  rest : drop l.i l.buf ≡ drop l.i l.fn.buf;
  carried : (past : JoinHistory) → PixelRepresents (after_pull (take l.fn.at l.fn.buf) past) l.fn.self → PixelRepresents (after_pull (take l.i l.buf) past) (after_samples (l.i - l.fn.at) l.fn.self);
}
