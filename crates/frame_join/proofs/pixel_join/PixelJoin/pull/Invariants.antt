use Rattle.std.proofs.Common.{◌≡◌, ◌≤◌, ◌<◌, ◌-◌, take, drop, length, true}
use Rattle.frame_join.specs.FrameHistory.{JoinHistory, after_pull}
use Rattle.frame_join.specs.PixelJoinStates.{PixelRepresents}
use Rattle.frame_join.specs.Inside.{may_go}
use Rattle.frame_join.proofs.pixel_join.PixelJoin.pull.Given as goal

abbrev pub invariant-loop-at : goal.invariant-loop-at
invariant-loop-at l = record {
  within : l.at ≤ length l.buf;
  size : length l.buf ≡ length l.fn.buf;
  carried : (past : JoinHistory) → PixelRepresents past l.fn.self → PixelRepresents (after_pull (take l.at l.buf) past) l.self;
  rest : drop l.at l.buf ≡ drop l.at l.fn.buf;
  first : l.at ≡ 0 → l.self ≡ l.fn.self;
  went : 0 < l.at → may_go l.fn.self ≡ true;
}

abbrev pub decreases-loop-at : goal.decreases-loop-at
decreases-loop-at l = length l.buf - l.at
