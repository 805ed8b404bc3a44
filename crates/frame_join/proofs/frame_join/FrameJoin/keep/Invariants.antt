use Rattle.std.proofs.Common.{◌≡◌, ◌≤◌, ◌-◌, length, take}
use Rattle.frame_join.specs.FrameHistory.{JoinHistory, after_feed}
use Rattle.frame_join.specs.PixelJoinStates.{PixelRepresents, is_pixel_out_of_memory}
use Rattle.frame_join.specs.Pixels.{pixel_history}
use Rattle.frame_join.specs.JoinStates.{Represents}
use Rattle.frame_join.proofs.PixelKeeping.{IsIn, MayCome, pieces}
use Rattle.frame_join.proofs.frame_join.FrameJoin.keep.Given as goal

abbrev pub invariant-loop-at : goal.invariant-loop-at
invariant-loop-at l = record {
  within : l.at ≤ length l.fn.bytes;
  line : l.self-inside.line ≡ l.fn.self.line;
  came : l.self-inside.came ≡ l.fn.self.came;
  carried : (past : JoinHistory) (i : IsIn past l.fn.self) → Represents past l.fn.self → MayCome i.frame l.fn.bytes → PixelRepresents (after_feed (pieces i.frame (take l.at l.fn.bytes)) (is_pixel_out_of_memory l.self-inside.pixels) (pixel_history past)) l.self-inside.pixels;
  first : l.at ≡ 0 → l.self-inside.pixels ≡ l.fn.self.pixels;
}

abbrev pub decreases-loop-at : goal.decreases-loop-at
decreases-loop-at l = length l.bytes - l.at
