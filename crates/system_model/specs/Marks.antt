-- What a user can see happen to a device, and when it may.
use Rattle.std.specs.Prelude.{ℕ, ◌≡◌, List, [], ◌∷◌, Bool, true, false, Option, Some, None, if◌then◌else◌}
use Rattle.device_api.specs.Kinds.{Model, Page, laid_in, has_room, is_feeder}
use Rattle.system_model.specs.Devices.{Make}
use Rattle.system_model.specs.AbstractDevices.{AbstractDevice, ScanPhase, Resting, Between, Reading, Begin}
use Rattle.system_model.specs.AbstractDevices.{without_first}

-- **marks (`Mark`, `MayMark`, `MarksLead`)**: what a user can see happen to a device: handed out, a page started, at
-- rest again, given back, a page laid in, listed no more. Each mark may come only to a device that stands so: it is
-- handed out only while listed and held by nobody, a start takes the next page, no page is laid in within a scan.
pub data Mark : Type 0 where
  -- client i is handed device d; it starts this page of it; the device is at rest again; it is given back
  Took : (i d : ℕ) → Mark
  Started : (i d : ℕ) → (begin : Begin) → Mark
  Rested : (i d : ℕ) → Mark
  Returned : (i d : ℕ) → Mark
  -- a page is laid into device d; it is listed no more
  Loaded : (d : ℕ) → (page : Page) → Mark
  Removed : (d : ℕ) → Mark

-- what stands of a device for its users
pub record DeviceView : Type 0 where
  pub model : Model
  pub listed : Bool
  pub holder : Option ℕ
  pub tray : List Page
  pub busy : Bool

abbrev pub is_busy : ScanPhase → Bool
is_busy Resting = false
is_busy (Between last more) = true
is_busy (Reading f rest more) = true

abbrev pub device_view : Make → AbstractDevice → DeviceView
device_view k dev =
    record { model = k.model; listed = dev.listed; holder = dev.holder; tray = dev.tray; busy = is_busy dev.phase }

-- two clients never hold one device, a start takes the page that is next, and no page is laid in within a scan
abbrev pub MayMark : DeviceView → Mark → Type 0
MayMark s (Took i d) = (s.listed ≡ true) × (s.holder ≡ None) × (s.busy ≡ false)
MayMark s (Started i d begin) = (s.holder ≡ Some i) × (s.busy ≡ false)
    × ((later : List Page) × (s.tray ≡ begin.page ∷ later))
MayMark s (Rested i d) = (s.holder ≡ Some i) × (s.busy ≡ true)
MayMark s (Returned i d) = (s.holder ≡ Some i) × (s.busy ≡ false)
MayMark s (Loaded d page) = (s.listed ≡ true) × (s.busy ≡ false) × (has_room s.model s.tray ≡ true)
MayMark s (Removed d) = (s.listed ≡ true) × (s.holder ≡ None)

abbrev pub view_after_mark : DeviceView → Mark → DeviceView
view_after_mark s (Took i d) = record s { holder = Some i }
view_after_mark s (Started i d begin) =
    record s { busy = true; tray = if is_feeder s.model then without_first s.tray else s.tray }
view_after_mark s (Rested i d) = record s { busy = false }
view_after_mark s (Returned i d) = record s { holder = None }
view_after_mark s (Loaded d page) = record s { tray = laid_in s.model page s.tray }
view_after_mark s (Removed d) = record s { listed = false }

-- these marks may come at a slot that stands so, and lead to that one
abbrev pub MarksLead : DeviceView → List Mark → DeviceView → Type 0
MarksLead s [] t = s ≡ t
MarksLead s (m ∷ ms) t = MayMark s m × MarksLead (view_after_mark s m) ms t

-- the starts among these marks
abbrev pub starts_in : List Mark → List Begin
starts_in [] = []
starts_in (Started i d begin ∷ ms) = begin ∷ starts_in ms
starts_in (m ∷ ms) = starts_in ms

-- this is a mark of client i's, at device d
abbrev pub IsMarkOf : ℕ → ℕ → Mark → Type 0
IsMarkOf i d (Took j e) = (j ≡ i) × (e ≡ d)
IsMarkOf i d (Started j e begin) = (j ≡ i) × (e ≡ d)
IsMarkOf i d (Rested j e) = (j ≡ i) × (e ≡ d)
IsMarkOf i d (Returned j e) = (j ≡ i) × (e ≡ d)
IsMarkOf i d (Loaded e page) = ⊥
IsMarkOf i d (Removed e) = ⊥
