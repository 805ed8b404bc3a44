-- Where a scan is.
use Rattle.std.specs.Prelude.{ℕ, Option, Some, None}
use Rattle.scan_frames.specs.PassReading.{given_in}
use Rattle.device_api.specs.State.{Phase}
use Rattle.device_api.specs.State.Phase.{AtRest, Between, Reading}
use Rattle.virtual_scanner.specs.declared.at.At.{At}
use Rattle.virtual_scanner.specs.declared.at.At.TheVariants.{Rest, Between as IsBetween, Reading as IsReading}

abbrev pub phase_of : At → Phase
phase_of (Rest cancelled) = AtRest cancelled
phase_of (IsBetween ended) = Between ended
phase_of (IsReading frame) = Reading frame.pass (given_in frame)

-- no frame is read
abbrev pub IsStill : At → Type 0
IsStill (Rest _) = Unit {0}
IsStill (IsBetween _) = Unit {0}
IsStill (IsReading _) = ⊥

-- the pass that a start begins; none while a frame is read
abbrev pub pass_to_start : Phase → Option ℕ
pass_to_start (AtRest _) = Some 0
pass_to_start (Between ended) = Some ended
pass_to_start (Reading _ _) = None
