-- What the values that an option admits have in common.
use Rattle.std.specs.Prelude.{◌≡◌, ◌==◌, ◌⊎◌, Bool, true, false, ℕ, ℤ, pos, is_some, List, length, map, All}
use Rattle.constraint.specs.NearestComputed.{nearest_entry}
use Rattle.option_desc.specs.declared.value.Value.{Value}
use Rattle.option_desc.specs.declared.value.Value.TheVariants.{Flag, Int, Fixed, Words, Text}
use Rattle.page_picture.specs.declared.scene.DeviceKind.{DeviceKind}
use Rattle.device_api.specs.Options.{choice_text, choices_of}
use Rattle.device_api.specs.Kinds.{greatest_resolution}
use Rattle.device_api.specs.ScannerLimits.{IsBetween, IsOnBed}
use Rattle.device_api.specs.declared.scan_option.ScanOption.{ScanOption}
use Rattle.device_api.specs.declared.scan_option.ScanOption.TheVariants.{NumOptions, Depth, Resolution, TlX, TlY, BrX}
use Rattle.device_api.specs.declared.scan_option.ScanOption.TheVariants.{BrY, GammaTable, RedGammaTable}
use Rattle.device_api.specs.declared.scan_option.ScanOption.TheVariants.{GreenGammaTable, BlueGammaTable, PplLoss}
use Rattle.device_api.specs.declared.scan_option.ScanOption.TheVariants.{ReadLimitSize, HandScanner}

abbrev pub IsByte : ℤ → Type 0
IsByte word = IsBetween 0 255 word

abbrev pub IsAdmittedNumber : DeviceKind → ScanOption → ℤ → Type 0
IsAdmittedNumber k Depth word = (word ≡ pos 1) ⊎ ((word ≡ pos 8) ⊎ (word ≡ pos 16))
IsAdmittedNumber k Resolution word = IsBetween 1 (greatest_resolution k) word
IsAdmittedNumber k PplLoss word = IsBetween 0 64 word
IsAdmittedNumber k ReadLimitSize word = IsBetween 1 65536 word
IsAdmittedNumber k _ word = Unit {0}

abbrev pub IsAdmittedTable : ScanOption → List ℤ → Type 0
IsAdmittedTable GammaTable words = (length words ≡ 256) × All IsByte words
IsAdmittedTable RedGammaTable words = (length words ≡ 256) × All IsByte words
IsAdmittedTable GreenGammaTable words = (length words ≡ 256) × All IsByte words
IsAdmittedTable BlueGammaTable words = (length words ≡ 256) × All IsByte words
IsAdmittedTable _ words = Unit {0}

abbrev pub IsAdmitted : DeviceKind → ScanOption → Value → Type 0
IsAdmitted k o (Flag _) = Unit {0}
IsAdmitted k o (Int word) = IsAdmittedNumber k o word
IsAdmitted k TlX (Fixed length) = IsOnBed length
IsAdmitted k TlY (Fixed length) = IsOnBed length
IsAdmitted k BrX (Fixed length) = IsOnBed length
IsAdmitted k BrY (Fixed length) = IsOnBed length
IsAdmitted k _ (Fixed length) = Unit {0}
IsAdmitted k o (Words words) = IsAdmittedTable o words
IsAdmitted k o (Text _) = Unit {0}

-- which values have a nearest one that the option admits, as a computation
abbrev pub takes_flag : ScanOption → Bool
takes_flag HandScanner = true
takes_flag _ = false

abbrev pub takes_number : ScanOption → Bool
takes_number NumOptions = true
takes_number Depth = true
takes_number Resolution = true
takes_number PplLoss = true
takes_number ReadLimitSize = true
takes_number _ = false

abbrev pub takes_length : ScanOption → Bool
takes_length TlX = true
takes_length TlY = true
takes_length BrX = true
takes_length BrY = true
takes_length _ = false

abbrev pub takes_words : ScanOption → ℕ → Bool
takes_words GammaTable count = count == 256
takes_words RedGammaTable count = count == 256
takes_words GreenGammaTable count = count == 256
takes_words BlueGammaTable count = count == 256
takes_words _ count = false

abbrev pub takes : ScanOption → Value → Bool
takes o (Flag _) = takes_flag o
takes o (Int _) = takes_number o
takes o (Fixed _) = takes_length o
takes o (Words words) = takes_words o (length words)
takes o (Text text) = is_some (nearest_entry (map choice_text (choices_of o)) text)
