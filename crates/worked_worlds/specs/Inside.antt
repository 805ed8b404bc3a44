-- What private functions alone promise.
use Rattle.std.specs.Prelude.{ℕ, ◌≡◌, ◌≢◌, ◌⊎◌, false, Some, List, [], ◌∷◌, codes, map}
use Rattle.sane_fixed.specs.declared.status.Status.TheVariants.{NoMem}
use Rattle.scan_job.specs.declared.outcome.Outcome.{Outcome}
use Rattle.scan_job.specs.declared.outcome.Outcome.TheVariants.{Done, Ended}
use Rattle.scan_job.specs.declared.outcome.Why.TheVariants.{Memory}
use Rattle.scan_job.specs.declared.report.Reports.{Reports}
use Rattle.event_world.specs.Worlds.{WorldCore}
use Rattle.scan_job.specs.declared.job.Job.{Job}
use Rattle.scan_job.specs.declared.job.Task.TheVariants as tasks
use Rattle.device_api.specs.Options.{options_of}
use Rattle.scan_world.specs.Calls.{ForEach, KeepsPage, KeepsScanFile, outcome_at, starved_at}
use Rattle.scan_world.specs.Page.{Settled}
use Rattle.scan_world.specs.Reports.{told_option}
use Rattle.scan_world.specs.Trays.{BatchIsCounted, KeepsTray}
use Rattle.worked_worlds.specs.DotFiles.{IsDotJob}
use Rattle.worked_worlds.specs.HandTable.{shown_by_name}
use Rattle.worked_worlds.specs.declared.hand_shows.ShownOption.{ShownOption}
use Rattle.worked_worlds.specs.declared.surely.NoFile.{NoFile}
use Rattle.worked_worlds.specs.declared.surely.NoFile.TheVariants as faults

-- **a page that is kept (`IsKeptPage`)**: that a file is kept as that of page k of a world's first job, and as that of
-- the k-th page of its tray.
abbrev pub IsKeptPage : WorldCore → ℕ → List ℕ → Type 0
IsKeptPage w k file = KeepsPage w 0 k (Some file) × KeepsTray w 0 k file

-- job i is not told as out of memory, and has not ended so, nor is it done
abbrev pub IsOtherEnd : WorldCore → ℕ → Type 0
IsOtherEnd w i = (starved_at w i ≡ false) × ((o : Outcome) → outcome_at w i ≡ Some o
    → ((reports : Reports) → o ≢ Done reports) × (o ≢ Ended NoMem Memory))

-- job i is done, and of that its file is this
pub record HasDoneFile (w : WorldCore) (i : ℕ) (file : List ℕ) : Type 0 where
  pub reports : Reports
  pub is : outcome_at w i ≡ Some (Done reports)
  pub kept : KeepsScanFile w i (Some file)

-- there was no memory for the file of job i, or it came to another end than that, or than to be done
abbrev pub HasNoFile : WorldCore → ℕ → NoFile → Type 0
HasNoFile w i why = (why ≡ faults.NoMem) ⊎ ((why ≡ faults.BrokenOff) × IsOtherEnd w i)

-- jobs that scan a dot, each on a flatbed of its own
pub record AreDotJobs (jobs : List Job) : Type 0 where
  pub first : Job
  pub second : Job
  pub are : jobs ≡ first ∷ second ∷ []
  pub first_is : IsDotJob (codes "flatbed:0") tasks.Scan first
  pub second_is : IsDotJob (codes "flatbed:1") tasks.Scan second

-- these are the options that the first job, a show, tells, as its settings put them in force on a device of its name
abbrev pub TellsTable : WorldCore → List ShownOption → Type 0
TellsTable w table =
    ForEach w 0 (λ h job. job.task ≡ tasks.Show → (s : Settled h job)
    × (table ≡ map shown_by_name (map (told_option s.setup) (options_of s.setup.scene.kind))))

-- the first job is done with two pages, whose files these are
pub record HasTwoFiles (w : WorldCore) (first second : List ℕ) : Type 0 where
  pub first_kept : IsKeptPage w 1 first
  pub second_kept : IsKeptPage w 2 second

-- there was no memory for them, or it came to another end, or is done with another number of pages
abbrev pub HasNotTwo : WorldCore → NoFile → Type 0
HasNotTwo w why =
    HasNoFile w 0 why
    ⊎ ((reports : Reports) × (outcome_at w 0 ≡ Some (Done reports)) × (finished : ℕ) × (finished ≢ 2)
    × ForEach w 0 (λ h job. BatchIsCounted h w 0 job finished))
