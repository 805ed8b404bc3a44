-- The options of the virtual scanners: which there are, and their descriptors (SANE Standard 1.06, "Option
-- Descriptors"; the options are those of sane-test(5)).
use Rattle.std.specs.Prelude.{ℕ, ◌+◌, ◌*◌, ◌/◌, ◌%◌, ◌==◌, ℤ, pos, ◌&&◌, Bool, true, false, not, if◌then◌else◌, Option}
use Rattle.std.specs.Prelude.{Some, None, List, [], ◌∷◌, map, slice_get, codes}
use Rattle.sane_fixed.specs.declared.kind.Kind.{Kind}
use Rattle.sane_fixed.specs.declared.kind.Kind.TheVariants as kind
use Rattle.sane_fixed.specs.declared.unit.Unit.{Unit as Measure}
use Rattle.sane_fixed.specs.declared.unit.Unit.TheVariants as measure
use Rattle.sane_fixed.specs.declared.status.Status.{Status}
use Rattle.sane_fixed.specs.declared.status.Status.TheVariants as status
use Rattle.sane_fixed.specs.Status.{status_name}
use Rattle.option_desc.specs.declared.descriptor.Constraint.{Constraint}
use Rattle.option_desc.specs.declared.descriptor.Constraint.TheVariants.{Free, Span, Words, Strings}
use Rattle.option_desc.specs.declared.descriptor.Descriptor.{Descriptor}
use Rattle.page_picture.specs.declared.scene.DeviceKind.{DeviceKind}
use Rattle.page_picture.specs.declared.scene.DeviceKind.TheVariants.{Flatbed, Hand, ThreePass, Feeder}
use Rattle.page_picture.specs.declared.scene.Mode.{Mode}
use Rattle.page_picture.specs.declared.scene.Mode.TheVariants.{Gray, Color}
use Rattle.scan_frames.specs.declared.setup.PassOrder.{PassOrder}
use Rattle.scan_frames.specs.declared.setup.PassOrder.TheVariants.{Rgb, Rbg, Gbr, Grb, Brg, Bgr}
use Rattle.scan_frames.specs.declared.setup.Setup.{Setup}
use Rattle.device_api.specs.declared.choice.Choice.{Choice}
use Rattle.device_api.specs.declared.choice.Choice.TheVariants as choice
use Rattle.device_api.specs.declared.scan_option.ScanOption.{ScanOption}
use Rattle.device_api.specs.declared.scan_option.ScanOption.TheVariants.{NumOptions, Mode as ModeOption, Depth}
use Rattle.device_api.specs.declared.scan_option.ScanOption.TheVariants.{Resolution, TlX, TlY, BrX, BrY, GammaTable}
use Rattle.device_api.specs.declared.scan_option.ScanOption.TheVariants.{RedGammaTable, GreenGammaTable, BlueGammaTable}
use Rattle.device_api.specs.declared.scan_option.ScanOption.TheVariants.{ThreePassOrder, PplLoss, ReadLimitSize}
use Rattle.device_api.specs.declared.scan_option.ScanOption.TheVariants.{ReadReturnValue, HandScanner}

abbrev pub flatbed_options : List ScanOption
flatbed_options =
    NumOptions ∷ ModeOption ∷ Depth ∷ Resolution ∷ TlX ∷ TlY ∷ BrX ∷ BrY ∷ GammaTable ∷ PplLoss ∷ ReadLimitSize
    ∷ ReadReturnValue ∷ RedGammaTable ∷ GreenGammaTable ∷ BlueGammaTable ∷ []

-- **option tables (`options_of`, `descriptor_of`, `is_active`)**: by kind of scanner, in the order of their numbers:
-- name, title, kind, unit, size, capabilities, constraint. No gamma table at depth 16, tables of channels in color at
-- depth 8 alone, no order of passes in gray; an inactive option keeps its value.
abbrev pub options_of : DeviceKind → List ScanOption
options_of Flatbed = flatbed_options
options_of Feeder = flatbed_options
options_of Hand = NumOptions ∷ ModeOption ∷ Depth ∷ Resolution ∷ HandScanner ∷ []
options_of ThreePass =
    NumOptions ∷ ModeOption ∷ Depth ∷ Resolution ∷ TlX ∷ TlY ∷ BrX ∷ BrY ∷ ThreePassOrder ∷ GammaTable
    ∷ RedGammaTable ∷ GreenGammaTable ∷ BlueGammaTable ∷ []

-- the option of a number, if there is one
unfoldable pub option_at : DeviceKind → ℕ → Option ScanOption
option_at k n = slice_get (options_of k) n

abbrev pub option_name : ScanOption → List ℕ
option_name NumOptions = []
option_name ModeOption = codes "mode"
option_name Depth = codes "depth"
option_name Resolution = codes "resolution"
option_name TlX = codes "tl-x"
option_name TlY = codes "tl-y"
option_name BrX = codes "br-x"
option_name BrY = codes "br-y"
option_name GammaTable = codes "gamma-table"
option_name RedGammaTable = codes "red-gamma-table"
option_name GreenGammaTable = codes "green-gamma-table"
option_name BlueGammaTable = codes "blue-gamma-table"
option_name ThreePassOrder = codes "three-pass-order"
option_name PplLoss = codes "ppl-loss"
option_name ReadLimitSize = codes "read-limit-size"
option_name ReadReturnValue = codes "read-return-value"
option_name HandScanner = codes "hand-scanner"

abbrev pub option_title : ScanOption → List ℕ
option_title NumOptions = codes "Number of options"
option_title ModeOption = codes "Scan mode"
option_title Depth = codes "Bit depth"
option_title Resolution = codes "Scan resolution"
option_title TlX = codes "Top-left x"
option_title TlY = codes "Top-left y"
option_title BrX = codes "Bottom-right x"
option_title BrY = codes "Bottom-right y"
option_title GammaTable = codes "Gamma table"
option_title RedGammaTable = codes "Red gamma table"
option_title GreenGammaTable = codes "Green gamma table"
option_title BlueGammaTable = codes "Blue gamma table"
option_title ThreePassOrder = codes "Three-pass order"
option_title PplLoss = codes "Lost pixels per line"
option_title ReadLimitSize = codes "Read limit"
option_title ReadReturnValue = codes "Read return value"
option_title HandScanner = codes "Hand scanner"

abbrev pub option_kind : ScanOption → Kind
option_kind NumOptions = kind.Int
option_kind ModeOption = kind.String
option_kind Depth = kind.Int
option_kind Resolution = kind.Int
option_kind TlX = kind.Fixed
option_kind TlY = kind.Fixed
option_kind BrX = kind.Fixed
option_kind BrY = kind.Fixed
option_kind GammaTable = kind.Int
option_kind RedGammaTable = kind.Int
option_kind GreenGammaTable = kind.Int
option_kind BlueGammaTable = kind.Int
option_kind ThreePassOrder = kind.String
option_kind PplLoss = kind.Int
option_kind ReadLimitSize = kind.Int
option_kind ReadReturnValue = kind.String
option_kind HandScanner = kind.Bool

abbrev pub option_unit : ScanOption → Measure
option_unit Depth = measure.Bit
option_unit Resolution = measure.Dpi
option_unit TlX = measure.Mm
option_unit TlY = measure.Mm
option_unit BrX = measure.Mm
option_unit BrY = measure.Mm
option_unit PplLoss = measure.Pixel
option_unit _ = measure.None

-- in bytes: 4 for each word, and for a text the longest one and its NUL
abbrev pub option_size : ScanOption → ℕ
option_size ModeOption = 6
option_size GammaTable = 1024
option_size RedGammaTable = 1024
option_size GreenGammaTable = 1024
option_size BlueGammaTable = 1024
option_size ThreePassOrder = 4
option_size ReadReturnValue = 26
option_size _ = 4

-- the texts that a text option may have, each by what it means
abbrev pub choices_of : ScanOption → List Choice
choices_of ModeOption = choice.Mode Gray ∷ choice.Mode Color ∷ []
choices_of ThreePassOrder =
    choice.Passes Rgb ∷ choice.Passes Rbg ∷ choice.Passes Gbr ∷ choice.Passes Grb ∷ choice.Passes Brg
    ∷ choice.Passes Bgr ∷ []
choices_of ReadReturnValue =
    choice.ReadStatus None ∷ choice.ReadStatus (Some status.Unsupported) ∷ choice.ReadStatus (Some status.Cancelled)
    ∷ choice.ReadStatus (Some status.DeviceBusy) ∷ choice.ReadStatus (Some status.Inval)
    ∷ choice.ReadStatus (Some status.Eof) ∷ choice.ReadStatus (Some status.Jammed)
    ∷ choice.ReadStatus (Some status.NoDocs) ∷ choice.ReadStatus (Some status.CoverOpen)
    ∷ choice.ReadStatus (Some status.IoError) ∷ choice.ReadStatus (Some status.NoMem)
    ∷ choice.ReadStatus (Some status.AccessDenied) ∷ []
choices_of _ = []

abbrev pub mode_text : Mode → List ℕ
mode_text Gray = codes "Gray"
mode_text Color = codes "Color"

abbrev pub passes_text : PassOrder → List ℕ
passes_text Rgb = codes "RGB"
passes_text Rbg = codes "RBG"
passes_text Gbr = codes "GBR"
passes_text Grb = codes "GRB"
passes_text Brg = codes "BRG"
passes_text Bgr = codes "BGR"

abbrev pub read_status_text : Option Status → List ℕ
read_status_text None = codes "Default"
read_status_text (Some s) = status_name s

abbrev pub choice_text : Choice → List ℕ
choice_text (choice.Mode m) = mode_text m
choice_text (choice.Passes p) = passes_text p
choice_text (choice.ReadStatus t) = read_status_text t

-- bits a sample
abbrev pub depths_of : DeviceKind → List ℤ
depths_of Flatbed = pos 1 ∷ pos 8 ∷ pos 16 ∷ []
depths_of Hand = pos 1 ∷ pos 8 ∷ []
depths_of ThreePass = pos 8 ∷ pos 16 ∷ []
depths_of Feeder = pos 1 ∷ pos 8 ∷ pos 16 ∷ []

-- dots per inch
abbrev pub resolutions_of : DeviceKind → Constraint
resolutions_of Flatbed = Span (record { min = pos 1; max = pos 1200; quant = pos 1 })
resolutions_of Hand = Words (pos 75 ∷ pos 100 ∷ pos 150 ∷ pos 300 ∷ [])
resolutions_of ThreePass = Span (record { min = pos 1; max = pos 1200; quant = pos 1 })
resolutions_of Feeder = Span (record { min = pos 1; max = pos 1200; quant = pos 1 })

-- whole mm from 0 to 200
abbrev pub lengths : Constraint
lengths = Span (record { min = pos 0; max = pos (200 * 65536); quant = pos 65536 })

-- an upper byte
abbrev pub tones : Constraint
tones = Span (record { min = pos 0; max = pos 255; quant = pos 1 })

abbrev pub option_constraint : DeviceKind → ScanOption → Constraint
option_constraint k NumOptions = Free
option_constraint k ModeOption = Strings (map choice_text (choices_of ModeOption))
option_constraint k Depth = Words (depths_of k)
option_constraint k Resolution = resolutions_of k
option_constraint k TlX = lengths
option_constraint k TlY = lengths
option_constraint k BrX = lengths
option_constraint k BrY = lengths
option_constraint k GammaTable = tones
option_constraint k RedGammaTable = tones
option_constraint k GreenGammaTable = tones
option_constraint k BlueGammaTable = tones
option_constraint k ThreePassOrder = Strings (map choice_text (choices_of ThreePassOrder))
option_constraint k PplLoss = Span (record { min = pos 0; max = pos 64; quant = pos 1 })
option_constraint k ReadLimitSize = Span (record { min = pos 1; max = pos 65536; quant = pos 1 })
option_constraint k ReadReturnValue = Strings (map choice_text (choices_of ReadReturnValue))
option_constraint k HandScanner = Free

abbrev pub is_color : Mode → Bool
is_color Gray = false
is_color Color = true

-- the channels have tables of their own
abbrev pub has_channels : Setup → Bool
has_channels s = is_color s.scene.mode && (s.scene.depth == 8)

-- no gamma table at depth 16, one of a channel only in color at depth 8, and no order of passes in gray
abbrev pub is_active : Setup → ScanOption → Bool
is_active s GammaTable = not (s.scene.depth == 16)
is_active s RedGammaTable = has_channels s
is_active s GreenGammaTable = has_channels s
is_active s BlueGammaTable = has_channels s
is_active s ThreePassOrder = is_color s.scene.mode
is_active s _ = true

-- SOFT_DETECT, and SOFT_SELECT but for the number of options and the kind of scanner
abbrev pub option_caps : ScanOption → ℕ
option_caps NumOptions = 4
option_caps HandScanner = 4
option_caps _ = 5

-- an inactive option has the bit INACTIVE, 32
abbrev pub caps_of : Setup → ScanOption → ℕ
caps_of s o = option_caps o + (if is_active s o then 0 else 32)

unfoldable pub descriptor_of : Setup → ScanOption → Descriptor
descriptor_of s o = record {
  name = option_name o;
  title = option_title o;
  about = option_title o;
  kind = option_kind o;
  unit = option_unit o;
  size = option_size o;
  caps = record { 0 = caps_of s o };
  constraint = option_constraint s.scene.kind o;
}

abbrev pub descriptors_of : Setup → List Descriptor
descriptors_of s = map (descriptor_of s) (options_of s.scene.kind)
