-- What the bits of an answer tell, and which statuses answer.
use Rattle.std.specs.Prelude.{◌≡◌, ◌≢◌, ◌⊎◌, ◌↔◌, ◌/◌, ◌%◌, ◌==◌, ℕ, Bool, true}
use Rattle.sane_fixed.specs.declared.info.Info.{Info}
use Rattle.sane_fixed.specs.declared.status.Status.{Status}
use Rattle.sane_fixed.specs.declared.status.Status.TheVariants.{DeviceBusy, Inval, IoError, NoDocs, NoMem}
use Rattle.option_desc.specs.declared.value.Value.{Value}
use Rattle.scan_frames.specs.declared.setup.Setup.{Setup}
use Rattle.device_api.specs.Options.{descriptors_of}
use Rattle.device_api.specs.Values.{setup_after}

-- the bit stands in the info
abbrev pub has_bit : Info → ℕ → Bool
has_bit info bit = info.0 / bit % 2 == 1

-- **what a set tells (`TellsOfSet`), what is nearest (`GivesNearest`, `PutAllNearest`)**: INEXACT stands just where the
-- value given differs, RELOAD_OPTIONS just where the descriptors changed. An option that may be set got the admitted
-- value nearest to the one asked for. So did each setting of a job, from the options that those before it left.
pub record TellsOfSet (s : Setup) (n : ℕ) (asked given : Value) (info : Info) : Type 0 where
  pub inexact : (has_bit info 1 ≡ true) ↔ (given ≢ asked)
  pub options : (has_bit info 2 ≡ true) ↔ (descriptors_of (setup_after s n given) ≢ descriptors_of s)

-- what may refuse a start
abbrev pub MayRefuseStart : Status → Type 0
MayRefuseStart status = (status ≡ DeviceBusy)
    ⊎ ((status ≡ NoDocs) ⊎ ((status ≡ Inval) ⊎ ((status ≡ IoError) ⊎ (status ≡ NoMem))))
