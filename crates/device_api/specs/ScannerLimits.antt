-- What the options of every scanner say, at any time.
use Rattle.std.specs.Prelude.{◌≡◌, ◌≢◌, ◌≤◌, ◌<◌, ◌*◌, ◌^◌, slice_index, [], ℕ, ℤ, pos, Bool, true, false, Some}
use Rattle.std.specs.Prelude.{slice_index_or, All, length}
use Rattle.sane_fixed.specs.declared.fixed.Fixed.{Fixed as Length}
use Rattle.sane_fixed.specs.declared.status.Status.TheVariants.{Good}
use Rattle.page_picture.specs.Page.{IsShaped, IsPageView}
use Rattle.scan_frames.specs.Frames.{IsSetup}
use Rattle.scan_frames.specs.declared.setup.Setup.{Setup}
use Rattle.device_api.specs.Kinds.{greatest_resolution}
use Rattle.device_api.specs.State.{DeviceState, HeldPage, feeds, tray_room}

-- a whole number in these bounds
pub record IsBetween (low high : ℕ) (word : ℤ) : Type 0 where
  pub number : ℕ
  pub is : word ≡ pos number
  pub low_is : low ≤ number
  pub high_is : number ≤ high

-- 0 to 200 mm
abbrev pub IsOnBed : Length → Type 0
IsOnBed length = IsBetween 0 (200 * 65536) length.0

-- **limits of a scanner (`IsAllowed`, `HasLimits`)**: its options keep within their constraints. Each of its pages is a
-- page, and the samples of one with a steady source have 16 bits. A feeder has at most 16 pages, any other scanner one.
pub record IsAllowed (s : Setup) : Type 0 where
  pub limits : IsSetup s
  pub resolution : s.scene.resolution ≤ greatest_resolution s.scene.kind
  pub tl_x : IsOnBed s.scene.tl_x
  pub tl_y : IsOnBed s.scene.tl_y
  pub br_x : IsOnBed s.scene.br_x
  pub br_y : IsOnBed s.scene.br_y
  pub gamma : (i : ℕ) → slice_index s.scene.gamma i < 2 ^ 8
  pub channel_gamma : (k i : ℕ) → slice_index (slice_index_or s.scene.channel_gamma k []) i < 2 ^ 8
  pub told : s.told ≢ Some Good

-- a page in a device: its limits, and samples of 16 bits where its source gives its rows
pub record IsHeldPage (held : HeldPage) : Type 0 where
  pub shape : IsShaped held.page
  pub view : held.steady ≡ true → IsPageView held.page

-- how many pages there may be: at most 16 in a feeder, in another scanner one
abbrev pub IsPageCount : Bool → ℕ → Type 0
IsPageCount true n = n ≤ tray_room
IsPageCount false n = n ≡ 1

-- the limits of a scanner: its setup's and its pages'
pub record HasLimits (s : DeviceState) : Type 0 where
  pub setup : IsAllowed s.setup
  pub pages : All IsHeldPage s.pages
  pub count : IsPageCount (feeds s) (length s.pages)
