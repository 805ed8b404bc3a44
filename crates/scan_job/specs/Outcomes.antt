-- What may be said of an outcome, by its case.
use Rattle.std.specs.Prelude.{Result, Ok, Err}
use Rattle.sane_fixed.specs.declared.status.Status.{Status}
use Rattle.scan_job.specs.declared.outcome.Outcome.{Outcome}
use Rattle.scan_job.specs.declared.outcome.Outcome.TheVariants.{Running, Done, Ended}
use Rattle.scan_job.specs.declared.outcome.Why.{Why}
use Rattle.scan_job.specs.declared.report.Reports.{Reports}
use Rattle.scan_job.specs.declared.stop.Stop.{Stop}

-- where the job is done, this holds of its reports
abbrev pub IfDone : Outcome → (Reports → Type 0) → Type 0
IfDone Running Holds = Unit {0}
IfDone (Done reports) Holds = Holds reports
IfDone (Ended _ _) Holds = Unit {0}

-- where it ended otherwise, this holds of the status and why
abbrev pub IfEnded : Outcome → (Status → Why → Type 0) → Type 0
IfEnded Running Holds = Unit {0}
IfEnded (Done _) Holds = Unit {0}
IfEnded (Ended status why) Holds = Holds status why

-- the job is over
abbrev pub IsOver : Outcome → Type 0
IsOver Running = ⊥
IsOver (Done _) = Unit {0}
IsOver (Ended _ _) = Unit {0}

-- how a job is over that gave its reports, with what was made of them, or stopped
abbrev pub over_as : {T : Type 0} → Result (Reports × T) Stop → Outcome
over_as (Ok done) = Done done.0
over_as (Err stop) = Ended stop.status stop.why
