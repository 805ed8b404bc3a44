-- What scans of one gray dot give, byte by byte.
use Rattle.std.specs.Prelude.{ℕ, ◌≡◌, ◌⊎◌, ◌<◌, ◌*◌, ◌++◌, List, [], ◌∷◌, codes}
use Rattle.page_picture.specs.Page.{PageView}
use Rattle.page_picture.specs.declared.scene.DeviceKind.{DeviceKind}
use Rattle.sane_fixed.specs.declared.byte_order.ByteOrder.TheVariants.{Little}
use Rattle.scan_frames.specs.declared.setup.Setup.{Setup}
use Rattle.device_api.specs.State.{DeviceState}
use Rattle.device_api.specs.Values.{defaults, mm}
use Rattle.scan_job.specs.declared.job.Job.{Job}
use Rattle.scan_job.specs.declared.job.Task.{Task}
use Rattle.event_world.specs.Worlds.{WorldCore}
use Rattle.scan_world.specs.Calls.{IsJobAt}
use Rattle.scan_world.specs.Clear.{BrokeOff}
use Rattle.scan_world.specs.Examples.{IsScanOf}
use Rattle.scan_world.specs.Histories.{History}
use Rattle.worked_worlds.specs.declared.surely.NoFile.{NoFile}
use Rattle.worked_worlds.specs.declared.surely.NoFile.TheVariants.{NoMem, BrokenOff}
use Rattle.worked_worlds.specs.Worked.{IsFedScanOf, feeder_with, flatbed_with}

-- **one dot (`one_dot`, `dot_settings`, `dot_file`, `both_dots`, `feeder_of_three`, `IsDotJob`, `CameOff`,
-- `SomeBrokeOff`, `DotIsOneByte`, `FedDotIsOneByte`)**: a page of one place that is gray, at 26 dots per inch; the
-- settings for a window of 1 by 1 mm at 26 dots per inch; the bytes of a file: `P5`, a line feed, the comment `# SANE
-- data follows`, a line feed, `1 1`, a line feed, `255`, a line feed, and the gray; two flatbeds with such pages, and a
-- feeder with three; a job of these settings, of a user and a password without bytes; no file for want of memory, or
-- since the session of a job broke off; and that a scan of that page by these settings is that file.
abbrev pub one_dot : ℕ → PageView
one_dot gray = record { width = 1; height = 1; dpi = 26; samples = gray * 257 ∷ gray * 257 ∷ gray * 257 ∷ [] }

abbrev pub dot_settings : List (List ℕ × List ℕ)
dot_settings = (codes "resolution", codes "26") ∷ (codes "br-x", codes "1") ∷ (codes "br-y", codes "1") ∷ []

abbrev pub dot_file : ℕ → List ℕ
dot_file gray = codes "P5\n# SANE data follows\n1 1\n255\n" ++ gray ∷ []

-- the options that they put in force on a scanner of that kind
abbrev pub dot_setup : DeviceKind → Setup
dot_setup k =
    record (defaults k Little) {
      scene = record (defaults k Little).scene { resolution = 26; br_x = mm 1; br_y = mm 1 };
    }

-- a job of these settings, for a device of that name
pub record IsDotJob (name : List ℕ) (task : Task) (job : Job) : Type 0 where
  pub user_is : job.user ≡ []
  pub password_is : job.password ≡ []
  pub named : job.device ≡ name
  pub settings_are : job.settings.items ≡ dot_settings
  pub does : job.task ≡ task

-- two flatbeds, each with a page of one dot
abbrev pub both_dots : ℕ → ℕ → List DeviceState
both_dots first second =
    flatbed_with (codes "flatbed:0") (one_dot first) ∷ flatbed_with (codes "flatbed:1") (one_dot second) ∷ []

-- a feeder with three pages of one dot
abbrev pub feeder_of_three : ℕ → ℕ → ℕ → DeviceState
feeder_of_three first second third =
    feeder_with (codes "feeder:0") (one_dot first ∷ one_dot second ∷ one_dot third ∷ [])

-- a history of these devices and of no users led to a world in which the session of a job had broken off
pub record SomeBrokeOff (devices : List DeviceState) : Type 0 where
  pub history : History
  pub devices_are : history.devices ≡ devices
  pub users_are : history.users ≡ []
  pub world : WorldCore
  pub place : ℕ
  pub job : Job
  pub at : IsJobAt history world place job
  pub broke : BrokeOff history world place job

-- there was no memory for it, or a session broke off
abbrev pub CameOff : List DeviceState → NoFile → Type 0
CameOff devices why = (why ≡ NoMem) ⊎ ((why ≡ BrokenOff) × SomeBrokeOff devices)

abbrev pub DotIsOneByte : Type 0
DotIsOneByte =
    (gray : ℕ) (job : Job) (bytes : List ℕ) → gray < 256 → job.settings.items ≡ dot_settings
    → IsScanOf (one_dot gray) job bytes → bytes ≡ dot_file gray

abbrev pub FedDotIsOneByte : Type 0
FedDotIsOneByte =
    (gray : ℕ) (job : Job) (bytes : List ℕ) → gray < 256 → job.settings.items ≡ dot_settings
    → IsFedScanOf (one_dot gray) job bytes → bytes ≡ dot_file gray
