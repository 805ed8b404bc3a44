-- A device among its users: who holds it, the pages in it, and what it does.
use Rattle.std.specs.Prelude.{ℕ, ◌≡◌, List, [], ◌∷◌, Bool, true, false, Option, Some, None, if◌then◌else◌, ◌==◌}
use Rattle.page_picture.specs.Shows.{Frame}
use Rattle.device_api.specs.Kinds.{Page, IsStocked}
use Rattle.system_model.specs.Devices.{Make, OptionsInForce, AreOptionsAllowed, IsPageShaped}

-- what a device does: the passes still to come are part of it
pub data ScanPhase : Type 0 where
  Resting : ScanPhase
  -- that frame ended, and these are still to be started
  Between : (last : Frame) → (more : List Frame) → ScanPhase
  -- of this frame so much is still to be read, and then these are to be started
  Reading : (frame : Frame) → (rest : List ℕ) → (more : List Frame) → ScanPhase

-- **device among its users (`AbstractDevice`, `ScanPhase`, `DeviceInvariant`)**: whether it is listed, who holds it,
-- its options, the pages that starts at rest take (a feeder's start takes one out), and where a scan is: at rest; the
-- frame that ended last and the frames to be started; the frame that is read, what is left of it, and those after it.
-- It is fit if it is at rest while nobody holds it, within its limits, and has one page, or at most 16 in a feeder.
pub record AbstractDevice : Type 0 where
  pub listed : Bool
  -- the client that holds it: there are never two
  pub holder : Option ℕ
  pub options : OptionsInForce
  -- the pages that starts at rest take, the next one first: one page that stays, or a feeder's tray
  pub tray : List Page
  pub phase : ScanPhase

-- the page and the options at a start
pub record Begin : Type 0 where
  pub page : Page
  pub options : OptionsInForce

abbrev pub is_resting : ScanPhase → Bool
is_resting Resting = true
is_resting (Between last more) = false
is_resting (Reading frame rest more) = false

-- the phase behind a frame's end
abbrev pub phase_after_frame : Frame → List Frame → ScanPhase
phase_after_frame last [] = Resting
phase_after_frame last (f ∷ more) = Between last (f ∷ more)

abbrev pub AreShaped : List Page → Type 0
AreShaped [] = Unit {0}
AreShaped (page ∷ tray) = IsPageShaped page × AreShaped tray

-- a device is fit: it is at rest where nobody holds it, its options and pages are within their limits, and its tray is
-- stocked
pub record DeviceInvariant (make : Make) (dev : AbstractDevice) : Type 0 where
  pub laid_down : dev.holder ≡ None → dev.phase ≡ Resting
  pub allowed : AreOptionsAllowed make dev.options
  pub stocked : IsStocked make.model dev.tray
  pub shaped : AreShaped dev.tray

abbrev pub is_held_by : ℕ → Option ℕ → Bool
is_held_by i None = false
is_held_by i (Some j) = j == i

-- cancelled
abbrev pub put_down : AbstractDevice → AbstractDevice
put_down dev = record dev { phase = Resting }

-- cancelled and given back
abbrev pub put_back : AbstractDevice → AbstractDevice
put_back dev = record dev { holder = None; phase = Resting }

-- the device of client i's session that is over
abbrev pub device_let_go : ℕ → AbstractDevice → AbstractDevice
device_let_go i dev = if is_held_by i dev.holder then put_back dev else dev

-- what is left of a frame where these bytes are taken
abbrev pub without_first : {X : Type 0} → List X → List X
without_first [] = []
without_first (x ∷ xs) = xs

abbrev pub without_prefix : {X : Type 0} → List X → List X → List X
without_prefix [] all = all
without_prefix (x ∷ xs) all = without_prefix xs (without_first all)

abbrev pub read_on : ScanPhase → List ℕ → ScanPhase
read_on (Reading f rest more) bytes = Reading f (without_prefix bytes rest) more
read_on phase bytes = phase

abbrev pub ended_phase : ScanPhase → ScanPhase
ended_phase (Reading f rest more) = phase_after_frame f more
ended_phase phase = phase
