use Rattle.std.proofs.Common.{◌≡◌, ℕ, List, Option, length}
use Rattle.std.specs.Io.KnownBytes.{Appends}
use Rattle.frame_join.specs.FrameHistory.{JoinHistory}
use Rattle.frame_join.specs.JoinStates.{Represents}
use Rattle.local_job.proofs.Drains.{IsUnderway}
use Rattle.local_job.proofs.drain.drain.Given as goal

abbrev pub invariant-loop-i : goal.invariant-loop-i
invariant-loop-i g l = record {
  room : length l.room ≡ length l.initial.room;
  becomes : (first : _) → g.W.Outlet.Becomes first l.initial.out → g.W.Outlet.Becomes first l.out;
  bytes : (first : Option (List ℕ)) (past : JoinHistory) → Represents past l.initial.join → Appends first (g.W.Outlet.contents l.initial.out) past.given
      → IsUnderway past first l._i l.join (g.W.Outlet.contents l.out);
}
