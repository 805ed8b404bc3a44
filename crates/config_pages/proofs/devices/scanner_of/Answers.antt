use Rattle.std.proofs.Common.{rules, refl}
use Rattle.config_pages.proofs.NoScanners.{no_memory}
use Rattle.config_pages.proofs.devices.scanner_of.Goals as goal

pub returns-in-Err-clause-fault : goal.returns-in-Err-clause-fault
returns-in-Err-clause-fault g c = no_memory _ _ _ _ (search rules) refl
