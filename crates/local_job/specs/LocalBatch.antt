-- What a job on a scanner of this machine leaves on a shelf: a batch, and any other job.
use Rattle.std.specs.Prelude.{ℕ, ◌≡◌, ◌⊎◌, true, Option, Some, None, List, []}
use Rattle.scan_frames.specs.declared.setup.Setup.{Setup}
use Rattle.device_api.specs.State.{DeviceState, after_reset, is_at_rest, with_setup}
use Rattle.device_api.specs.InForce.{Placement, in_force}
use Rattle.device_api.specs.Values.{defaults}
use Rattle.scan_job.specs.JobSize.{HasJobFault}
use Rattle.scan_job.specs.Shelves.{Stock}
use Rattle.scan_job.specs.declared.job.Job.{Job}
use Rattle.scan_job.specs.declared.job.Task.{Task}
use Rattle.scan_job.specs.declared.job.Task.TheVariants.{List as ListTask, Show, SetOnly, Scan, Batch}
use Rattle.scan_job.specs.declared.report.Reports.{Reports}
use Rattle.scan_job.specs.declared.stop.Stop.{Stop}
use Rattle.local_job.specs.LocalStops.{bad_setting}
use Rattle.scan_job.specs.Stops.{no_memory}
use Rattle.local_job.specs.SettingReports.{SettingsAreReported, FailsAt}
use Rattle.local_job.specs.LocalRun.{devices_reported, options_reported, settings_put}
use Rattle.local_job.specs.LocalPages.{AreScanned, DeviceAndShelf, StopsAt}
use Rattle.scan_job.specs.FileOutputs.{TakesBack}

-- how many pages a task scans at most: one that is no batch one, or none
abbrev pub pages_of_task : Task → ℕ
pages_of_task ListTask = 0
pages_of_task Show = 0
pages_of_task SetOnly = 0
pages_of_task Scan = 1
pages_of_task (Batch count) = count

-- The job has a size and a count that are taken, and its settings are in force on this scanner: the options that they
-- leave, and what each was given.
pub record IsBatchPut (s : DeviceState) (job : Job) (forced : Setup × List Placement) : Type 0 where
  pub taken : HasJobFault job None
  pub put : in_force s.setup.scene.kind s.setup.order (settings_put job.task job.settings.items) ≡ Some forced

-- **done (`IsBatchDone`)**: settings are in force and reported, and the task's devices and options were told. As many
-- pages were scanned as were asked for, or fewer, at least one, if none is left. The shelf kept the output of each.
pub record IsBatchDone (job : Job) (was now : DeviceAndShelf) (reports : Reports) : Type 0 where
  pub setup : Setup
  pub placed : List Placement
  pub put : IsBatchPut was.device job (setup, placed)
  pub told : SettingsAreReported (defaults was.device.setup.scene.kind was.device.setup.order)
      (settings_put job.task job.settings.items) placed reports.settings
  pub devices : reports.devices ≡ devices_reported job.task was.device.info
  pub options : reports.options ≡ options_reported job.task setup
  pub scanned
      : AreScanned (pages_of_task job.task) (record was { device = with_setup (after_reset was.device) setup }) now

-- no page was scanned: the shelf was asked for nothing, and the scanner is at rest with all pages that the reset left
pub record ScansNothing (old : DeviceState) (before after : Option Stock) (new : DeviceState) : Type 0 where
  pub outputs : TakesBack before [] after
  pub info : new.info ≡ old.info
  pub pages : new.pages ≡ (after_reset old).pages
  pub rest : is_at_rest new.phase ≡ true

-- **ended (`IsBatchEndedBy`, `StopsAt`, `EndsBehind`, `RefusesLast`)**: the size or the count; the setting that is not
-- put; out of memory before the first page; what ends a scan, behind the finished pages, where at most one output more
-- was asked for, which took no whole file; or a shelf that refuses the last page's output.
pub record IsBatchEndedBy (job : Job) (was now : DeviceAndShelf) (stop : Stop) : Type 0 where
  pub size : (HasJobFault job None → ⊥) → stop ≡ bad_setting
  pub setting : HasJobFault job None → (why : Stop)
      → FailsAt (defaults was.device.setup.scene.kind was.device.setup.order) (settings_put job.task job.settings.items)
      why → (stop ≡ no_memory) ⊎ (stop ≡ why)
  pub none : ((forced : Setup × List Placement) → IsBatchPut was.device job forced → ⊥)
      → ScansNothing was.device was.stock now.stock now.device
  pub put : (forced : Setup × List Placement) → IsBatchPut was.device job forced →
      ((stop ≡ no_memory) × ScansNothing was.device was.stock now.stock now.device)
      ⊎ StopsAt (pages_of_task job.task) (record was { device = with_setup (after_reset was.device) forced.0 }) now stop
