-- How a job ends before it is done.
use Rattle.sane_fixed.specs.declared.status.Status.TheVariants.{NoMem, IoError}
use Rattle.scan_job.specs.declared.outcome.Why.TheVariants.{Memory, Sink}
use Rattle.scan_job.specs.declared.stop.Stop.{Stop}

-- for lack of memory
abbrev pub no_memory : Stop
no_memory = record { status = NoMem; why = Memory }

-- since the output failed, or took nothing
abbrev pub failed_output : Stop
failed_output = record { status = IoError; why = Sink }
