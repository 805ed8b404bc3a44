-- What a job on a scanner of this machine leaves.
use Rattle.std.specs.Prelude.{ℕ, ◌≡◌, ◌≢◌, ◌⊎◌, Option, Some, List, [], ◌∷◌, true, false}
use Rattle.std.specs.Io.KnownBytes.{Appends}
use Rattle.sane_fixed.specs.declared.status.Status.TheVariants.{Inval, NoDocs}
use Rattle.scan_frames.specs.declared.setup.Setup.{Setup}
use Rattle.scan_frames.specs.Frames.{has_picture}
use Rattle.option_desc.specs.declared.descriptor.Descriptor.{Descriptor}
use Rattle.option_desc.specs.declared.value.Value.{Value}
use Rattle.sane_fixed.specs.declared.device_info.DeviceInfo.{DeviceInfo}
use Rattle.device_api.specs.State.{DeviceState, after_reset, feeds, left_behind, state_at_rest, with_setup, page_of}
use Rattle.device_api.specs.InForce.{Placement, in_force}
use Rattle.device_api.specs.Values.{defaults}
use Rattle.scan_job.specs.JobSize.{HasJobSize, IsBatch}
use Rattle.scan_job.specs.declared.job.Job.{Job}
use Rattle.scan_job.specs.declared.job.Task.{Task}
use Rattle.scan_job.specs.declared.job.Task.TheVariants.{List as ListTask, Show, SetOnly, Scan, Batch}
use Rattle.scan_job.specs.declared.report.Reports.{Reports}
use Rattle.scan_laws.specs.Stays.{AreSamePages}
use Rattle.scan_job.specs.declared.stop.Stop.{Stop}
use Rattle.local_job.specs.LocalStops.{bad_setting, stop_by_status}
use Rattle.scan_job.specs.Stops.{no_memory}
use Rattle.local_job.specs.SettingReports.{SettingsAreReported, FailsAt}
use Rattle.local_job.specs.ScanCauses.{ScanHasCause}
use Rattle.local_job.specs.Showing.{options_with_values}
use Rattle.scan_job.specs.FileOutputs.{StopsShort}
use Rattle.local_job.specs.FrameReading.{IsScanned}

-- the settings that a task puts: one that lists devices ignores them
abbrev pub settings_put : Task → List (List ℕ × List ℕ) → List (List ℕ × List ℕ)
settings_put ListTask settings = []
settings_put Show settings = settings
settings_put SetOnly settings = settings
settings_put Scan settings = settings
settings_put (Batch count) settings = settings

-- the devices that a task reports: one that lists them this one
abbrev pub devices_reported : Task → DeviceInfo → List DeviceInfo
devices_reported ListTask info = info ∷ []
devices_reported Show info = []
devices_reported SetOnly info = []
devices_reported Scan info = []
devices_reported (Batch count) info = []

-- the options that a task reports: one that shows them all
abbrev pub options_reported : Task → Setup → List (Descriptor × Option Value)
options_reported ListTask setup = []
options_reported Show setup = options_with_values setup
options_reported SetOnly setup = []
options_reported Scan setup = []
options_reported (Batch count) setup = []

-- a job of a size that is taken, with one file at most: a batch has an output for each file
pub record IsTakenJob (job : Job) : Type 0 where
  pub size : HasJobSize job
  pub one_file : IsBatch job.task → ⊥

-- A scan wrote the file of the picture that the settings in force mean, and other tasks wrote nothing. `before` and
-- `after` are what the output holds.
abbrev pub Writes : Task → DeviceState → Option (List ℕ) → Option (List ℕ) → Type 0
Writes ListTask s before after = after ≡ before
Writes Show s before after = after ≡ before
Writes SetOnly s before after = after ≡ before
Writes Scan s before after = (first : Option (List ℕ)) → Appends first before [] → IsScanned s first after
Writes (Batch count) s before after = after ≡ before

-- The job has a size that is taken, and its settings are in force on this scanner: the options that they leave, and
-- what each was given.
pub record IsPut (s : DeviceState) (job : Job) (forced : Setup × List Placement) : Type 0 where
  pub taken : IsTakenJob job
  pub put : in_force s.setup.scene.kind s.setup.order (settings_put job.task job.settings.items) ≡ Some forced

-- what a task that was done leaves of a scanner at rest: a scan is over, and a feeder let go of its page
abbrev pub left_by : Task → DeviceState → DeviceState
left_by ListTask s = s
left_by Show s = s
left_by SetOnly s = s
left_by Scan s = state_at_rest s false
left_by (Batch count) s = s

-- a scanner, and what the output of a job holds
pub record DeviceAndOutput : Type 0 where
  pub device : DeviceState
  pub output : Option (List ℕ)

abbrev pub with_file : DeviceState → Option (List ℕ) → DeviceAndOutput
with_file device output = record { device = device; output = output }

-- **done (`IsDone`), ended by (`IsEndedBy`), leaves no file (`LeavesNoFile`)**: the settings that the task puts are in
-- force and reported, the task told and wrote what it should, and the scanner is left as after a reset, at rest and not
-- cancelled, with the options of the settings. A job ends by its size, a task that wants more than one file, the
-- setting that fails, a picture that is none, no page, out of memory, or the cause that ends a scan. Then the output
-- took no whole file.
pub record IsDone (job : Job) (was now : DeviceAndOutput) (reports : Reports) : Type 0 where
  pub setup : Setup
  pub placed : List Placement
  pub put : IsPut was.device job (setup, placed)
  pub told : SettingsAreReported (defaults was.device.setup.scene.kind was.device.setup.order)
      (settings_put job.task job.settings.items) placed reports.settings
  pub devices : reports.devices ≡ devices_reported job.task was.device.info
  pub options : reports.options ≡ options_reported job.task setup
  pub output : Writes job.task (with_setup (after_reset was.device) setup) was.output now.output
  pub left : now.device ≡ left_by job.task (with_setup (after_reset was.device) setup)

-- What ends a job that is not done: its size, or more than one file; the setting that is not put; a feeder without a
-- page; settings that mean no picture on the page; what ends a scan of a picture; out of memory. The page is that of
-- the scanner after its reset.
pub record IsEndedBy (old : DeviceState) (job : Job) (new : DeviceState) (stop : Stop) : Type 0 where
  pub size : (IsTakenJob job → ⊥) → stop ≡ bad_setting
  pub setting : IsTakenJob job → (why : Stop)
      → FailsAt (defaults old.setup.scene.kind old.setup.order) (settings_put job.task job.settings.items) why
      → (stop ≡ no_memory) ⊎ (stop ≡ why)
  pub put : (forced : Setup × List Placement) → IsPut old job forced → job.task ≢ Scan → stop ≡ no_memory
  pub no_page : (forced : Setup × List Placement) → IsPut old job forced → job.task ≡ Scan
      → (after_reset old).pages ≡ [] → (stop ≡ no_memory) ⊎ (stop ≡ stop_by_status NoDocs)
  pub no_picture : (forced : Setup × List Placement) → IsPut old job forced → job.task ≡ Scan
      → (after_reset old).pages ≢ [] → has_picture forced.0 (page_of (after_reset old)) ≡ false
      → (stop ≡ no_memory) ⊎ (stop ≡ stop_by_status Inval)
  pub scan : (forced : Setup × List Placement) → IsPut old job forced → job.task ≡ Scan → (after_reset old).pages ≢ []
      → has_picture forced.0 (page_of (after_reset old)) ≡ true
      → ScanHasCause stop (with_setup (after_reset old) forced.0) new

-- the output took bytes of which no front is a whole file
abbrev pub LeavesNoFile : Option (List ℕ) → Option (List ℕ) → Type 0
LeavesNoFile before after = (first : Option (List ℕ)) → Appends first before [] → StopsShort first after

-- Of a device only its options, its phase and its count of failures changed. A feeder let go of the page that was
-- scanned, and the reset before let go of a page under way.
pub record ChangesDevice (old new : DeviceState) : Type 0 where
  pub info : new.info ≡ old.info
  pub pages : AreSamePages (after_reset old).pages new.pages
      ⊎ (new.pages ≡ left_behind (feeds new) (after_reset old).pages)
