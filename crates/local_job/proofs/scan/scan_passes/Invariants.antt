use Rattle.std.proofs.Common.{◌≡◌, ◌<◌, length}
use Rattle.device_api.specs.State.{DeviceState}
use Rattle.local_job.proofs.JoinedScans.{HasGone}
use Rattle.local_job.proofs.scan.scan_passes.Given as goal

abbrev pub invariant-loop-pass : goal.invariant-loop-pass
invariant-loop-pass g l =
    let now : DeviceState = (goal.Device-dyn g l.device.now).state l.device.now.1 in
    let old : DeviceState = (goal.Device-dyn g l.initial.device.now).state l.initial.device.now.1 in
    record {
      piece : 0 < length l.piece;
      room : 0 < length l.room;
      pieces : length l.piece ≡ length l.initial.piece;
      rooms : length l.room ≡ length l.initial.room;
      becomes : (first : _) → g.W.Outlet.Becomes first l.initial.out → g.W.Outlet.Becomes first l.out;
      fresh : l._pass ≡ 0 → l.out ≡ l.initial.out;
      gone : HasGone old now l._pass (g.W.Outlet.contents l.initial.out) l.join (g.W.Outlet.contents l.out);
    }
