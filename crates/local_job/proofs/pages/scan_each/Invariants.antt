use Rattle.std.proofs.Common.{◌<◌, length}
use Rattle.device_api.specs.State.{DeviceState}
use Rattle.local_job.proofs.Batches.{HasRun}
use Rattle.local_job.proofs.pages.scan_each.Given as goal

abbrev pub invariant-loop-behind : goal.invariant-loop-behind
invariant-loop-behind g l =
    let now : DeviceState = (goal.Device-dyn g l.device.now).state l.device.now.1 in
    let old : DeviceState = (goal.Device-dyn g l.initial.device.now).state l.initial.device.now.1 in
    record {
      piece : 0 < length l.piece;
      room : 0 < length l.room;
      run : HasRun old now l.behind (g.S.Shelf.stock l.initial.shelf) (g.S.Shelf.stock l.shelf);
    }
