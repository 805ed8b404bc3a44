-- What the worked worlds come to: each of one device and one job, and a definition of the promise that is met there.
use Rattle.std.specs.Prelude.{ℕ, ◌≡◌, ◌≢◌, true, false, Some, None, List, [], ◌∷◌, map}
use Rattle.sane_fixed.specs.declared.byte_order.ByteOrder.TheVariants.{Little}
use Rattle.sane_fixed.specs.declared.status.Status.{Status}
use Rattle.md5_auth.specs.declared.users.Entry.{Entry}
use Rattle.netpbm.specs.Picture.{Picture}
use Rattle.netpbm.specs.Pnm.{Denotes}
use Rattle.page_picture.specs.Meaning.{meaning_of}
use Rattle.page_picture.specs.Page.{PageView}
use Rattle.page_picture.specs.Source.{SourceState}
use Rattle.page_picture.specs.declared.scene.DeviceKind.TheVariants.{Flatbed, Feeder}
use Rattle.scan_frames.specs.declared.setup.Setup.{Setup}
use Rattle.device_api.specs.InForce.{Placement}
use Rattle.device_api.specs.State.{DeviceState}
use Rattle.device_api.specs.Values.{defaults}
use Rattle.dispatch.specs.Table.{find_name}
use Rattle.virtual_scanner.specs.New.{new_device, new_scanner}
use Rattle.scan_job.specs.declared.job.Job.{Job}
use Rattle.scan_job.specs.declared.job.Task.TheVariants as tasks
use Rattle.scan_job.specs.declared.outcome.Outcome.TheVariants.{Done}
use Rattle.scan_job.specs.declared.outcome.Why.TheVariants.{Answer}
use Rattle.scan_job.specs.declared.report.Reports.{Reports}
use Rattle.event_world.specs.Worlds.{IsFitJob, WorldCore}
use Rattle.world_refines.specs.GhostStates.{backend_of, is_allowed, is_guarded}
use Rattle.scan_world.specs.Calls.{IsJobAt, outcome_at, starved_at}
use Rattle.scan_world.specs.Histories.{History, LedTo}
use Rattle.scan_world.specs.Clear.{BrokeOff, IsAllowedAlways}
use Rattle.scan_world.specs.Endings.{HasPassed, IsEndingExplained}
use Rattle.scan_world.specs.Page.{IsScan}
use Rattle.scan_world.specs.Promise.{JobIsDone}
use Rattle.scan_world.specs.Reports.{AreOptionsShown}
use Rattle.scan_world.specs.Sessions.{Asked, IsAtOpen}
use Rattle.scan_world.specs.Settings.{AreSettingsPut, PutsInForce}
use Rattle.frame_join.specs.PictureText.{picture_text}

-- ---- the devices

-- **worked worlds (`memory_source`, `flatbed_with`, `feeder_with`, `LedFrom`, `DoneFrom`, `SaysDone`, `SaysAnswered`,
-- `ListsAll`, `ShowsOptions`, `WasPassed`, `IsUnlisted`, `WasUnlisted`, `IsDisallowed`, `IsPlainScan`, `HasBrokenOff`,
-- `AreScans`)**: a flatbed with a page in memory, and a feeder with some; a history of these devices, users and one
-- job, and a world to which it led; that the job is done there, and right; a list of all devices; a show of a flatbed's
-- options; that the password was allowed for a challenge; a device that was not listed, a password that is not
-- allowed; a scan in whose way nothing stands, and one that broke off; the files of a batch's first two pages.
--
-- a page in memory: at each pass the same, and it cannot fail
abbrev pub memory_source : PageView → SourceState
memory_source page = record { page = page; given = 0; steady = true; infallible = true; failures = 0 }

abbrev pub flatbed_with : List ℕ → PageView → DeviceState
flatbed_with name page = new_scanner Flatbed name (memory_source page) Little

abbrev pub feeder_with : List ℕ → List PageView → DeviceState
feeder_with name pages = new_device Feeder name (map memory_source pages) Little

-- ---- the worlds

-- a history of these devices and users and of one job, and a world to which it led
pub record LedFrom (devices : List DeviceState) (users : List Entry) (job : Job) : Type 0 where
  pub history : History
  pub devices_are : history.devices ≡ devices
  pub users_are : history.users ≡ users
  pub jobs_are : history.jobs ≡ job ∷ []
  pub world : WorldCore
  pub led : LedTo history world

-- the job is done there, and it is right
pub record DoneFrom (devices : List DeviceState) (users : List Entry) (job : Job) : Type 0 where
  pub from : LedFrom devices users job
  pub reports : Reports
  pub is : outcome_at from.world 0 ≡ Some (Done reports)
  pub right : JobIsDone from.history from.world 0 job reports

-- ---- what is met there

-- of whatever history led to the world, and has this job alone: that it is done, and right; and what explains its
-- answer
abbrev pub SaysDone : WorldCore → Type 0
SaysDone w =
    (h : History) (job : Job) → IsJobAt h w 0 job
    → (reports : Reports) × (outcome_at w 0 ≡ Some (Done reports)) × JobIsDone h w 0 job reports

abbrev pub SaysAnswered : WorldCore → Status → Type 0
SaysAnswered w status = (h : History) (job : Job) → IsJobAt h w 0 job
    → IsEndingExplained h w 0 job (starved_at w 0) status Answer

-- it lists all devices, once, in their order
abbrev pub ListsAll : List DeviceState → List Entry → Job → Type 0
ListsAll devices users job =
    (done : DoneFrom devices users job) × (done.reports.devices ≡ map (λ (d : DeviceState). d.info) devices)

-- it shows the options of a flatbed, as its settings put them in force from the defaults on
abbrev pub ShowsOptions : List DeviceState → List Entry → Job → Type 0
ShowsOptions devices users job =
    (done : DoneFrom devices users job) × (setup : Setup) × (placed : List Placement)
    × AreSettingsPut (defaults Flatbed Little) job.settings.items placed setup
    × AreOptionsShown setup done.reports.options

-- its user and password are allowed for a challenge, or no line of the users names its backend
abbrev pub WasPassed : List DeviceState → List Entry → Job → Type 0
WasPassed devices users job =
    DoneFrom devices users job
    × (is_guarded users (backend_of job.device) ≡ true
    → (challenge : List ℕ) × (is_allowed users job.user job.password (backend_of job.device) challenge ≡ true))

-- as it asked for its device, none of the name was listed
abbrev pub IsUnlisted : History → WorldCore → ℕ → Job → Type 0
IsUnlisted h w i job = (asked : Asked h w i IsAtOpen) × (find_name job.device asked.at.before.daemon.registry ≡ None)

-- a history of these devices and users and of one job led to a world in which that is so
abbrev pub WasUnlisted : List DeviceState → List Entry → Job → Type 0
WasUnlisted devices users job = (from : LedFrom devices users job) × IsUnlisted from.history from.world 0 job

-- its user and password were not allowed for the challenge that was sent
abbrev pub IsDisallowed : History → WorldCore → ℕ → Job → Type 0
IsDisallowed h w i job = (asked : Asked h w i IsAtOpen) × HasPassed h asked.at.before i job false

-- it scans on this flatbed, its settings can be in force there and mean a picture on the page, and its password is
-- right, if a line of the users names its backend
pub record IsPlainScan (name : List ℕ) (page : PageView) (users : List Entry) (job : Job) : Type 0 where
  pub named : job.device ≡ name
  pub scan : job.task ≡ tasks.Scan
  pub setup : Setup
  pub puts : PutsInForce Flatbed job.settings.items setup
  pub meant : meaning_of page setup.scene ≢ None
  pub allowed : IsAllowedAlways users job
  pub fit : IsFitJob job

-- its next move was the loss of its connection, for want of memory or at a reply that cannot be said
abbrev pub HasBrokenOff : List DeviceState → List Entry → Job → Type 0
HasBrokenOff devices users job = (from : LedFrom devices users job) × BrokeOff from.history from.world 0 job

-- the files of its first two pages are scans of that job, the second one as one page was finished
abbrev pub AreScans : List DeviceState → List Entry → Job → List ℕ → List ℕ → Type 0
AreScans devices users job first second =
    (from : LedFrom devices users job)
    × IsScan from.history from.world 0 job 0 first × IsScan from.history from.world 0 job 1 second

-- ---- a batch that surely comes through

-- **both pages (`feeder_of_two`, `IsFedScanOf`, `IsPlainBatch`)**: a feeder with two pages, alone; a file of exactly
-- the picture that a job's settings mean on one page, put on a feeder at its defaults; a batch of two pages in whose
-- way nothing stands.
--
-- a feeder with these two pages, alone
abbrev pub feeder_of_two : List ℕ → PageView → PageView → List DeviceState
feeder_of_two name first second = feeder_with name (first ∷ second ∷ []) ∷ []

-- a file of the picture that the job's settings mean on this page
pub record IsFedScanOf (page : PageView) (job : Job) (bytes : List ℕ) : Type 0 where
  pub setup : Setup
  pub placed : List Placement
  pub in_force : AreSettingsPut (defaults Feeder Little) job.settings.items placed setup
  pub picture : Picture
  pub meant : meaning_of page setup.scene ≡ Some picture
  pub denotes : Denotes bytes picture
  pub own : bytes ≡ picture_text picture

-- it wants two pages on the feeder that has these two, its settings can be in force there and mean a picture on each,
-- and its password is right, if a line of the users names its backend
pub record IsPlainBatch (name : List ℕ) (first second : PageView) (users : List Entry) (job : Job) : Type 0 where
  pub named : job.device ≡ name
  pub batch : job.task ≡ tasks.Batch 2
  pub setup : Setup
  pub puts : PutsInForce Feeder job.settings.items setup
  pub first_meant : meaning_of first setup.scene ≢ None
  pub second_meant : meaning_of second setup.scene ≢ None
  pub allowed : IsAllowedAlways users job
  pub fit : IsFitJob job
