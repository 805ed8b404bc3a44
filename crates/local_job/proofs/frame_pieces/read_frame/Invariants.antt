use Rattle.std.proofs.Common.{◌≡◌, ◌<◌, ℕ, List, [], Option, length}
use Rattle.std.specs.Prelude.{◌≢◌, Some}
use Rattle.sane_fixed.specs.declared.status.Status.TheVariants.{NoDocs}
use Rattle.page_picture.specs.Shows.{Frame}
use Rattle.device_api.specs.State.{DeviceState, Reading, with_phase}
use Rattle.frame_join.specs.FrameHistory.{JoinHistory}
use Rattle.local_job.specs.FrameReading.{KeepsDevice}
use Rattle.local_job.specs.Inside.{JoinIsInside, IsReadTo}
use Rattle.local_job.proofs.FrameReads.{left_in}
use Rattle.local_job.proofs.frame_pieces.read_frame.Given as goal

abbrev pub invariant-loop-n : goal.invariant-loop-n
invariant-loop-n g l =
    let now : DeviceState = (goal.Device-dyn g l.device.now).state l.device.now.1 in
    let old : DeviceState = (goal.Device-dyn g l.initial.device.now).state l.initial.device.now.1 in
    record {
      piece : 0 < length l.piece;
      room : length l.room ≡ length l.initial.room;
      same : KeepsDevice old now;
      read : (pass : ℕ) → old.phase ≡ Reading pass 0 → (given : ℕ) × (now ≡ with_phase old (Reading pass given))
          × ((past : JoinHistory) (frame : Frame) (first : Option (List ℕ)) → JoinIsInside past frame first l.initial.join (g.W.Outlet.contents l.initial.out) → frame.payload ≡ []
          → IsReadTo old pass given (record { past = past; frame = frame; first = first }) (record { join = l.join; contents = g.W.Outlet.contents l.out }))
          × (0 < given → old.setup.told ≢ Some NoDocs);
      becomes : (first : _) → g.W.Outlet.Becomes first l.initial.out → g.W.Outlet.Becomes first l.out;
    }

abbrev pub decreases-loop-n : goal.decreases-loop-n
decreases-loop-n g l = left_in ((goal.Device-dyn g l.device.now).state l.device.now.1)
