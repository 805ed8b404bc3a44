use Rattle.std.proofs.Common.{rules, refl}
use Rattle.std.proofs.lemmas.Result.{err_from_is_err_and}
use Rattle.config_pages.proofs.NoScanners.{no_memory}
use Rattle.config_pages.proofs.devices.feeder.Goals as goal

pub returns-in_err-name-clause-fault : goal.returns-in_err-name-clause-fault
returns-in_err-name-clause-fault g c =
    let p = err_from_is_err_and c.from_residual-in_err-name.result c.from_residual-in_err-name.ensures.1 in
    rw (p.1, p.2) (no_memory _ _ _ _ (search rules) c.in_err-name.ensures.memory)

pub returns-clause-fault : goal.returns-clause-fault
returns-clause-fault g c = no_memory _ _ _ _ (search rules) refl

pub returns-then-len-gt-TRAY_ROOM-clause-fault : goal.returns-then-len-gt-TRAY_ROOM-clause-fault
returns-then-len-gt-TRAY_ROOM-clause-fault g c = no_memory _ _ _ _ (search rules) refl
