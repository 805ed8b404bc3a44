-- Histories of one flatbed, one job and the strangers who come, from a new world to the job's end.
use Rattle.std.specs.Prelude.{ℕ, ◌≡◌, false, Some, List, [], ◌∷◌}
use Rattle.md5_auth.specs.declared.users.Entry.{Entry}
use Rattle.netpbm.specs.NoFile.{HoldsNoFile}
use Rattle.page_picture.specs.Page.{PageView}
use Rattle.page_sources.specs.SourceView.{source_state}
use Rattle.sane_fixed.specs.declared.status.Status.TheVariants.{DeviceBusy}
use Rattle.device_api.specs.State.{DeviceState}
use Rattle.saned_requests.specs.declared.session.Session.{Session}
use Rattle.saned_core.specs.DaemonStates.{session_of}
use Rattle.scan_job.specs.declared.job.Job.{Job}
use Rattle.scan_job.specs.declared.outcome.Outcome.{Outcome}
use Rattle.scan_job.specs.declared.outcome.Outcome.TheVariants.{Done, Ended}
use Rattle.scan_job.specs.declared.outcome.Why.TheVariants.{Answer}
use Rattle.scan_job.specs.declared.report.Reports.{Reports}
use Rattle.event_world.specs.JobEvents.{is_done}
use Rattle.event_world.specs.Rounds.{RoundsRunOut, all_made}
use Rattle.event_world.specs.Worlds.{AreNew, WorldCore}
use Rattle.world_refines.specs.NewWorlds.{IsNewDaemon}
use Rattle.world_refines.specs.WorldRefinement.{IsNobodys}
use Rattle.scan_world.specs.Calls.{file_answered, outcome_at}
use Rattle.strangers.specs.Together.{Leases, RunsAmong}
use Rattle.worked_worlds.specs.Worked.{flatbed_with}
use Rattle.scan_world.specs.Histories.{of_jobs}
use Rattle.worked_strangers.specs.Visits.{HasVisits, of_strangers, until_gone}

-- **a job among strangers (`VisitedWorld`, `IsJobAmong`, `ScannedAmong`, `UnscannedAmong`, `BusyAmong`)**: a new world
-- of this flatbed, these users and this job, in which strangers came until one had the flatbed. In one history he was
-- then lost, and a third one came and stood to the end, while the job made its next moves until it had none. There the
-- job is done with this file, or it is not done and has no whole file. In the other he had the flatbed to the end, the
-- job made its next moves until it had none and was answered DEVICE_BUSY, and no file is whole.
pub record VisitedWorld (name : List ℕ) (page : PageView) (users : List Entry) (job : Job) : Type 0 where
  pub first : WorldCore
  pub jobs : AreNew (job ∷ []) first.endpoints
  pub devices : IsNewDaemon (flatbed_with name page ∷ []) first.daemon
  pub users_are : first.daemon.users ≡ users
  pub taken : WorldCore
  pub visits : HasVisits name first taken

-- a session of that number stands, and no job has it
pub record StandsApart (w : WorldCore) (n : ℕ) : Type 0 where
  pub nobodys : IsNobodys w n
  pub session : Session DeviceState
  pub stands : session_of w.daemon n ≡ Some session

pub record IsJobAmong (name : List ℕ) (page : PageView) (users : List Entry) (job : Job)
    (last : WorldCore) : Type 0 where
  pub visited : VisitedWorld name page users job
  pub left : WorldCore
  pub goes : RunsAmong source_state (of_strangers (until_gone visited.visits.greeting)) visited.taken left
  pub moves : RoundsRunOut source_state left last
  pub runs : RunsAmong source_state (of_jobs (all_made moves.rounds)) left last
  pub third : StandsApart last 2

-- no front of the file under way of the world's first job is whole
abbrev pub HasNoWholeFile : WorldCore → Type 0
HasNoWholeFile w = (file : List ℕ) → file_answered w 0 ≡ Some file → HoldsNoFile file

-- nor is that job done
abbrev pub IsNotDone : WorldCore → Type 0
IsNotDone w = (outcome : Outcome) → outcome_at w 0 ≡ Some outcome → is_done outcome ≡ false

-- it is done there, with this file
pub record ScannedAmong (name : List ℕ) (page : PageView) (users : List Entry) (job : Job)
    (file : List ℕ) : Type 0 where
  pub last : WorldCore
  pub history : IsJobAmong name page users job last
  pub reports : Reports
  pub done : outcome_at last 0 ≡ Some (Done reports)
  pub file_is : file_answered last 0 ≡ Some file

-- it is not done there
pub record UnscannedAmong (name : List ℕ) (page : PageView) (users : List Entry) (job : Job) : Type 0 where
  pub last : WorldCore
  pub history : IsJobAmong name page users job last
  pub not_done : IsNotDone last
  pub short : HasNoWholeFile last

-- a stranger has the flatbed as it asks
pub record BusyAmong (name : List ℕ) (page : PageView) (users : List Entry) (job : Job) : Type 0 where
  pub visited : VisitedWorld name page users job
  pub last : WorldCore
  pub moves : RoundsRunOut source_state visited.taken last
  pub runs : RunsAmong source_state (of_jobs (all_made moves.rounds)) visited.taken last
  pub has : Leases last 1 0
  pub busy : outcome_at last 0 ≡ Some (Ended DeviceBusy Answer)
  pub short : HasNoWholeFile last
