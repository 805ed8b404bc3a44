-- FACTS OF THE OPTION TABLE: the form of each option, its constraint, and what may be done with it. What stands above this crate goes
-- by these facts and has no case for an option.
use Rattle.std.proofs.Common.{◌≡◌, ◌+◌, ◌&&◌, ◌∙◌, ◌≤◌, ap, refl, ℕ, Bool, true, false, not, arith}
use Rattle.std.specs.Prelude.{if◌then◌else◌}
use Rattle.sane_fixed.specs.Cap.{has_cap}
use Rattle.sane_fixed.specs.declared.kind.Kind.{Kind}
use Rattle.sane_fixed.specs.declared.kind.Kind.TheVariants as kinds
use Rattle.constraint.specs.Admitted.{HasRoom}
use Rattle.option_desc.specs.WellFormed.{IsWellFormed}
use Rattle.page_picture.specs.declared.scene.DeviceKind.{DeviceKind}
use Rattle.page_picture.specs.declared.scene.DeviceKind.TheVariants.{Hand, ThreePass}
use Rattle.scan_frames.specs.declared.setup.Setup.{Setup}
use Rattle.device_api.specs.declared.scan_option.ScanOption.{ScanOption}
use Rattle.device_api.specs.declared.scan_option.ScanOption.TheVariants.{NumOptions, Mode, Depth, Resolution, TlX, TlY, BrX, BrY, GammaTable, RedGammaTable, GreenGammaTable, BlueGammaTable, ThreePassOrder, PplLoss, ReadLimitSize, ReadReturnValue, HandScanner}
use Rattle.device_api.specs.InForce.{may_be_set}
use Rattle.device_api.specs.Options.{caps_of, descriptor_of, is_active, option_caps, option_constraint, option_kind, option_size}

-- ---- the form of an option

-- one word, a flag, a text, or a table of 256 words
pub data OptionForm (kind : Kind) (size : ℕ) : Type 0 where
  OneInt : kind ≡ kinds.Int → size ≡ 4 → OptionForm kind size
  OneFixed : kind ≡ kinds.Fixed → size ≡ 4 → OptionForm kind size
  OneFlag : kind ≡ kinds.Bool → size ≡ 4 → OptionForm kind size
  OneText : kind ≡ kinds.String → OptionForm kind size
  Table : kind ≡ kinds.Int → size ≡ 1024 → OptionForm kind size

pub form_of : (o : ScanOption) → OptionForm (option_kind o) (option_size o)
form_of NumOptions = OneInt refl refl
form_of Mode = OneText refl
form_of Depth = OneInt refl refl
form_of Resolution = OneInt refl refl
form_of TlX = OneFixed refl refl
form_of TlY = OneFixed refl refl
form_of BrX = OneFixed refl refl
form_of BrY = OneFixed refl refl
form_of GammaTable = Table refl refl
form_of RedGammaTable = Table refl refl
form_of GreenGammaTable = Table refl refl
form_of BlueGammaTable = Table refl refl
form_of ThreePassOrder = OneText refl
form_of PplLoss = OneInt refl refl
form_of ReadLimitSize = OneInt refl refl
form_of ReadReturnValue = OneText refl
form_of HandScanner = OneFlag refl refl

-- ---- the constraints of the tables are well-formed

room : (n : ℕ) → 1 ≤ n → n ≤ 1023 → HasRoom n
room n a b = record { some = a; most = b }

well_formed : (k : DeviceKind) (o : ScanOption) → IsWellFormed (option_constraint k o)
well_formed k NumOptions = tt
well_formed k Mode = room 2 (omega arith) (omega arith)
well_formed Hand Depth = room 2 (omega arith) (omega arith)
well_formed ThreePass Depth = room 2 (omega arith) (omega arith)
well_formed _ Depth = room 3 (omega arith) (omega arith)
well_formed Hand Resolution = room 4 (omega arith) (omega arith)
well_formed _ Resolution = record { ordered = omega arith; no_step_back = omega arith }
well_formed k TlX = record { ordered = omega arith; no_step_back = omega arith }
well_formed k TlY = record { ordered = omega arith; no_step_back = omega arith }
well_formed k BrX = record { ordered = omega arith; no_step_back = omega arith }
well_formed k BrY = record { ordered = omega arith; no_step_back = omega arith }
well_formed k GammaTable = record { ordered = omega arith; no_step_back = omega arith }
well_formed k RedGammaTable = record { ordered = omega arith; no_step_back = omega arith }
well_formed k GreenGammaTable = record { ordered = omega arith; no_step_back = omega arith }
well_formed k BlueGammaTable = record { ordered = omega arith; no_step_back = omega arith }
well_formed k ThreePassOrder = room 6 (omega arith) (omega arith)
well_formed k PplLoss = record { ordered = omega arith; no_step_back = omega arith }
well_formed k ReadLimitSize = record { ordered = omega arith; no_step_back = omega arith }
well_formed k ReadReturnValue = room 12 (omega arith) (omega arith)
well_formed k HandScanner = tt

pub is_well_formed : (s : Setup) (o : ScanOption) → IsWellFormed (descriptor_of s o).constraint
unfolding descriptor_of
is_well_formed s o = well_formed s.scene.kind o

-- ---- what may be done with an option, by its descriptor and by the option

select_is : (o : ScanOption) (a : Bool) → has_cap (option_caps o + (if a then 0 else 32)) 1 ≡ has_cap (option_caps o) 1
select_is NumOptions true = refl
select_is NumOptions false = refl
select_is HandScanner true = refl
select_is HandScanner false = refl
select_is _ true = refl
select_is _ false = refl

inactive_is : (o : ScanOption) (a : Bool) → not (has_cap (option_caps o + (if a then 0 else 32)) 32) ≡ a
inactive_is NumOptions true = refl
inactive_is NumOptions false = refl
inactive_is HandScanner true = refl
inactive_is HandScanner false = refl
inactive_is _ true = refl
inactive_is _ false = refl

and_swap : (a b : Bool) → (a && b) ≡ (b && a)
and_swap true true = refl
and_swap true false = refl
and_swap false true = refl
and_swap false false = refl

pub may_be_set_is : (s : Setup) (o : ScanOption) → may_be_set (descriptor_of s o) ≡ (is_active s o && has_cap (option_caps o) 1)
unfolding descriptor_of
may_be_set_is s o =
    ap (λ b. b && not (has_cap (caps_of s o) 32)) (select_is o (is_active s o))
    ∙ ap (λ b. has_cap (option_caps o) 1 && b) (inactive_is o (is_active s o))
    ∙ and_swap (has_cap (option_caps o) 1) (is_active s o)

-- every option may be read
pub all_readable : (o : ScanOption) → has_cap (option_caps o) 4 ≡ true
all_readable NumOptions = refl
all_readable HandScanner = refl
all_readable _ = refl

-- an option is active just where its descriptor does not say INACTIVE
pub active_is : (s : Setup) (o : ScanOption) → not (has_cap (descriptor_of s o).caps.0 32) ≡ is_active s o
unfolding descriptor_of
active_is s o = inactive_is o (is_active s o)

-- an active option may be read
pub active_is_read : (s : Setup) (o : ScanOption) → is_active s o ≡ true → (is_active s o && has_cap (option_caps o) 4) ≡ true
active_is_read s o e = ap (λ (b : Bool). b && has_cap (option_caps o) 4) e ∙ all_readable o
