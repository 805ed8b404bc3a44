-- What ends a local job before it is done.
use Rattle.sane_fixed.specs.declared.status.Status.{Status}
use Rattle.sane_fixed.specs.declared.status.Status.TheVariants.{Inval, NoMem}
use Rattle.scan_job.specs.declared.outcome.Why.{Why}
use Rattle.scan_job.specs.declared.outcome.Why.TheVariants.{Answer, Setting, Memory}
use Rattle.scan_job.specs.declared.stop.Stop.{Stop}

abbrev pub bad_setting : Stop
bad_setting = record { status = Inval; why = Setting }

abbrev pub why_answered : Status → Why
why_answered NoMem = Memory
why_answered _ = Answer

-- out of memory in the device is out of memory
abbrev pub stop_by_status : Status → Stop
stop_by_status status = record { status = status; why = why_answered status }
