use Rattle.std.proofs.Common.{rules, arith}
use Rattle.std.proofs.lemmas.Result.{err_from_is_err_and}
use Rattle.device_api.specs.State.{DeviceState}
use Rattle.local_job.proofs.Batches.{all_scanned, no_memory_first, none_run}
use Rattle.local_job.proofs.pages.scan_pages.Goals as goal

pub returns-in_err-piece-clause-stop : goal.returns-in_err-piece-clause-stop
returns-in_err-piece-clause-stop g c =
    let old : DeviceState = (goal.Device-dyn g c.args.device.now).state c.args.device.now.1 in
    let p = err_from_is_err_and c.from_residual.result c.from_residual.ensures.1 in
    rw p.1 (no_memory_first old c.args.count (g.S.Shelf.stock c.args.shelf.now) _ (omega arith) p.2)

pub returns-in_err-room-clause-stop : goal.returns-in_err-room-clause-stop
returns-in_err-room-clause-stop g c =
    let old : DeviceState = (goal.Device-dyn g c.args.device.now).state c.args.device.now.1 in
    let p = err_from_is_err_and c.from_residual-in_err-room.result c.from_residual-in_err-room.ensures.1 in
    rw p.1 (no_memory_first old c.args.count (g.S.Shelf.stock c.args.shelf.now) _ (omega arith) p.2)
