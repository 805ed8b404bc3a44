-- What a cause means where the daemon answers a request.
use Rattle.std.specs.Prelude.{ℕ, ◌≡◌, ◌≢◌, List, [], ◌∷◌, true, false, Option, Some}
use Rattle.system_model.specs.AbstractMessages.{Challenge}
use Rattle.device_api.specs.Kinds.{Page}
use Rattle.system_model.specs.Devices.{Make, picture_frames}
use Rattle.system_model.specs.Causes.{Cause, SourceFailed, WasUnlisted, HadNoPicture, WasHeld, Disallowed, TrayWasEmpty}
use Rattle.system_model.specs.Causes.{TrayRanOut}
use Rattle.system_model.specs.AbstractDevices.{AbstractDevice, Resting}
use Rattle.system_model.specs.Daemon.{Environment, FailureCounts}

abbrev pub HasGround : ℕ → Make → AbstractDevice → Option Challenge → Environment → Cause → Type 0
HasGround i k dev awaited x WasUnlisted = dev.listed ≡ false
HasGround i k dev awaited x WasHeld = (j : ℕ) × (dev.holder ≡ Some j) × (j ≢ i)
HasGround i k dev awaited x Disallowed = (c : Challenge) × (awaited ≡ Some c) × (x.allows c ≡ false)
HasGround i k dev awaited x HadNoPicture = (page : Page) × (tray : List Page) × (dev.phase ≡ Resting)
    × (dev.tray ≡ page ∷ tray) × (picture_frames k dev.options page ≡ [])
HasGround i k dev awaited x TrayWasEmpty = (dev.tray ≡ []) × (x.again ≡ false)
HasGround i k dev awaited x TrayRanOut = (dev.tray ≡ []) × (x.again ≡ true)
HasGround i k dev awaited x SourceFailed = (f : FailureCounts) × (x.fault ≡ Some f)
HasGround i k dev awaited x _ = ⊥

abbrev pub HaveGrounds : ℕ → Make → AbstractDevice → Option Challenge → Environment → List Cause → Type 0
HaveGrounds i k dev awaited x [] = Unit {0}
HaveGrounds i k dev awaited x (c ∷ causes) = HasGround i k dev awaited x c × HaveGrounds i k dev awaited x causes
