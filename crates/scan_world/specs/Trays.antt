-- THE TRAY OF A FEEDER that one job alone names: the job takes its pages, one after another, from the first on.
use Rattle.std.specs.Prelude.{ℕ, ◌≡◌, ◌≤◌, ◌-◌, true, false, Some, List, Contains, drop, length, map, min, slice_get}
use Rattle.page_picture.specs.Page.{PageView}
use Rattle.page_sources.specs.declared.kinds.Source.{Source}
use Rattle.device_api.specs.State.{DeviceState, HeldPage, after_reset, feeds, is_at_rest}
use Rattle.scan_job.specs.declared.job.Job.{Job}
use Rattle.scan_job.specs.declared.job.Task.TheVariants as tasks
use Rattle.scan_job.specs.declared.outcome.Outcome.TheVariants.{Done}
use Rattle.scan_job.specs.declared.report.Reports.{Reports}
use Rattle.event_world.specs.declared.event.Event.TheVariants.{Load}
use Rattle.event_world.specs.Worlds.{WorldCore}
use Rattle.scan_world.specs.Calls.{ForEach, IsJobAt, outcome_at}
use Rattle.scan_world.specs.Histories.{HasEvent, HasNoActs, History}
use Rattle.scan_world.specs.Page.{IsScan, IsSteady}
use Rattle.scan_world.specs.Sessions.{Asked, AtJob, Has, IsAtStart}

-- **tray (`pages_in`, `first_tray`, `OwnTray`, `TraysAreTaken`)**: the pages that lie in a device, and those that lay
-- in it as the world was made, in which each device was reset. `OwnTray`: only this job names the feeder, no event
-- brought a page for it, and no stranger did anything. `TraysAreTaken`: as its job asks for a start while so many of
-- its pages are finished, the device, at rest, has the pages of its first tray without that many.
abbrev pub pages_in : DeviceState → List PageView
pages_in d = map (λ (held : HeldPage). held.page) d.pages

abbrev pub first_tray : DeviceState → List PageView
first_tray device = pages_in (after_reset device)

-- a feeder of its own, into which no event laid a page
pub record OwnTray (h : History) (i : ℕ) (job : Job) : Type 0 where
  pub device : DeviceState
  pub is_there : Contains h.devices device
  pub named : device.info.name ≡ job.device
  pub feeder : feeds device ≡ true
  pub alone : (j : ℕ) (other : Job) → slice_get h.jobs j ≡ Some other → other.device ≡ job.device → j ≡ i
  pub unladen : (source : Source) → HasEvent h (Load job.device source) → ⊥
  -- a stranger's start would take one
  pub undisturbed : HasNoActs h

-- of the pages of its tray those are left that it has not finished, as it asks for a start
abbrev pub TraysAreTaken : Type 0
TraysAreTaken =
    (h : History) (w : WorldCore) (i n : ℕ) (job : Job) → IsJobAt h w i job → (tray : OwnTray h i job)
    → (asked : Asked h w i IsAtStart) → AtJob asked.at.before i (λ p. p.finished ≡ n)
    → (d : DeviceState) → Has asked.at.before i job.device d → is_at_rest d.phase ≡ true
    → (pages_in d ≡ drop n (first_tray tray.device)) × (n ≤ length (first_tray tray.device))

-- **of a tray (`IsOfTray`, `KeepsTray`, `CountsPages`)**: the file of page k is the scan of the k-th page of the tray.
-- A batch that is done has as many pages as it wanted, and on a feeder of its own at most as many as were in the tray.
abbrev pub IsOfTray : (h : History) → WorldCore → (i : ℕ) (job : Job) → OwnTray h i job → ℕ → List ℕ → Type 0
IsOfTray h w i job tray k file =
    (scan : IsScan h w i job (k - 1) file) × (slice_get (first_tray tray.device) (k - 1) ≡ Some scan.held.page)

-- so is the file of page k, where the pages are steady, for whatever history led to the world
abbrev pub KeepsTray : WorldCore → ℕ → ℕ → List ℕ → Type 0
KeepsTray w i k file =
    ForEach w i (λ h job. (tray : OwnTray h i job) → IsSteady h w i job.device → IsOfTray h w i job tray k file)

-- the number of finished pages of a batch that is done
pub record CountsPages (h : History) (w : WorldCore) (i : ℕ) (job : Job) (finished count : ℕ) : Type 0 where
  -- a device that is no feeder has a page for each
  pub plain : (device : DeviceState) → Contains h.devices device → device.info.name ≡ job.device
      → feeds device ≡ false → finished ≡ count
  -- a feeder of its own those of its tray
  pub fed : (tray : OwnTray h i job) → finished ≡ min count (length (first_tray tray.device))

-- a batch that is done
abbrev pub BatchIsCounted : History → WorldCore → ℕ → Job → ℕ → Type 0
BatchIsCounted h w i job finished =
    (count : ℕ) (reports : Reports) → job.task ≡ tasks.Batch count → outcome_at w i ≡ Some (Done reports)
    → CountsPages h w i job finished count
