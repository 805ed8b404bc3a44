-- A virtual scanner from inside.
use Rattle.std.specs.Prelude.{◌≡◌, ◌≤◌, List, map, true, vec_capacity}
use Rattle.page_sources.specs.SourceView.{source_state}
use Rattle.page_picture.specs.Source.{SourceState}
use Rattle.scan_frames.specs.PassReading.{IsFrame}
use Rattle.scan_frames.specs.declared.setup.Setup.{Setup}
use Rattle.device_api.specs.ScannerLimits.{HasLimits}
use Rattle.device_api.specs.State.{DeviceState, Phase, feeds, held_from, tray_room}
use Rattle.sane_fixed.specs.declared.device_info.DeviceInfo.{DeviceInfo}
use Rattle.virtual_scanner.specs.First.{OfFirst}
use Rattle.virtual_scanner.specs.declared.at.At.{At}
use Rattle.virtual_scanner.specs.declared.at.At.TheVariants.{Rest, Between as IsBetween, Reading as IsReading}
use Rattle.virtual_scanner.specs.Phases.{phase_of}
use Rattle.virtual_scanner.specs.declared.scanner.VirtualScanner.TheInside.{Inside}

-- a scanner with the pages of these sources
abbrev pub device_on : DeviceInfo → Setup → List SourceState → Phase → DeviceState
device_on info setup sources phase = record { info = info; setup = setup; pages = map held_from sources; phase = phase }

abbrev pub view_of : Inside → DeviceState
view_of d = device_on d.info d.setup (map source_state d.tray.items) (phase_of d.at)

-- a frame that is read is one of the setup and the first page
abbrev pub HasFrameOfFirst : At → Setup → List SourceState → Type 0
HasFrameOfFirst (Rest _) setup sources = Unit {0}
HasFrameOfFirst (IsBetween _) setup sources = Unit {0}
HasFrameOfFirst (IsReading frame) setup sources = OfFirst (λ source. IsFrame source setup frame) sources

pub record ScannerInvariant (d : Inside) : Type 0 where
  pub limits : HasLimits (view_of d)
  pub room : feeds (view_of d) ≡ true → tray_room ≤ vec_capacity d.tray
  pub frame : HasFrameOfFirst d.at d.setup (map source_state d.tray.items)
