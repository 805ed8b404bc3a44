-- The values of options: what is read, what is set, and what a set tells (SANE Standard 1.06, "Option Control").
use Rattle.std.specs.Prelude.{ℕ, ◌+◌, ◌*◌, ◌&&◌, pos, unsigned_abs, Bool, true, false, not, if◌then◌else◌, Option, Some}
use Rattle.std.specs.Prelude.{slice_index_or, None, Result, Ok, Err, List, [], ◌∷◌, length, map}
use Rattle.std.specs.List.{list_any, range_with_len}
use Rattle.std.specs.Str.{bytes_eq}
use Rattle.std.specs.Ordering.{int_eq}
use Rattle.std.specs.Cmp.Lexicographic.{pointwise}
use Rattle.sane_fixed.specs.declared.byte_order.ByteOrder.{ByteOrder}
use Rattle.sane_fixed.specs.declared.fixed.Fixed.{Fixed as Length}
use Rattle.sane_fixed.specs.declared.info.Info.{Info}
use Rattle.sane_fixed.specs.declared.status.Status.{Status}
use Rattle.sane_fixed.specs.declared.status.Status.TheVariants.{Inval}
use Rattle.option_desc.specs.declared.value.Value.{Value}
use Rattle.option_desc.specs.declared.value.Value.TheVariants.{Flag, Int, Fixed, Words, Text}
use Rattle.option_desc.specs.Put.{resolve}
use Rattle.page_picture.specs.declared.scene.DeviceKind.{DeviceKind}
use Rattle.page_picture.specs.declared.scene.DeviceKind.TheVariants.{Flatbed, Hand, ThreePass, Feeder}
use Rattle.page_picture.specs.declared.scene.Mode.TheVariants.{Gray}
use Rattle.scan_frames.specs.declared.setup.PassOrder.TheVariants.{Rgb}
use Rattle.scan_frames.specs.declared.setup.Setup.{Setup}
use Rattle.device_api.specs.declared.choice.Choice.{Choice}
use Rattle.device_api.specs.declared.choice.Choice.TheVariants as choice
use Rattle.device_api.specs.declared.scan_option.ScanOption.{ScanOption}
use Rattle.device_api.specs.declared.scan_option.ScanOption.TheVariants.{NumOptions, Mode, Depth, Resolution, TlX, TlY}
use Rattle.device_api.specs.declared.scan_option.ScanOption.TheVariants.{BrX, BrY, GammaTable, RedGammaTable}
use Rattle.device_api.specs.declared.scan_option.ScanOption.TheVariants.{GreenGammaTable, BlueGammaTable}
use Rattle.device_api.specs.declared.scan_option.ScanOption.TheVariants.{ThreePassOrder, PplLoss, ReadLimitSize}
use Rattle.device_api.specs.declared.scan_option.ScanOption.TheVariants.{ReadReturnValue, HandScanner}
use Rattle.device_api.specs.Options.{options_of, option_at, choices_of, choice_text, is_active, option_caps}
use Rattle.device_api.specs.Options.{descriptor_of}
use Rattle.sane_fixed.specs.Cap.{has_cap}

-- the table that gives each upper byte itself: 0 to 255
unfoldable pub identity : List ℕ
identity = range_with_len 0 256

-- what the options of a new scanner say: gray, 8 bits, a window of 80 by 100 mm
abbrev pub default_resolution : DeviceKind → ℕ
default_resolution Flatbed = 50
default_resolution Hand = 75
default_resolution ThreePass = 50
default_resolution Feeder = 50

abbrev pub mm : ℕ → Length
mm n = record { 0 = pos (n * 65536) }

unfoldable pub defaults : DeviceKind → ByteOrder → Setup
defaults k order = record {
  scene = record {
    kind = k;
    mode = Gray;
    depth = 8;
    resolution = default_resolution k;
    tl_x = mm 0;
    tl_y = mm 0;
    br_x = mm 80;
    br_y = mm 100;
    gamma = identity;
    channel_gamma = identity ∷ identity ∷ identity ∷ [];
  };
  order = order;
  passes = Rgb;
  loss = 0;
  limit = 65536;
  told = None;
}

-- the table of a channel of color
abbrev pub channel_table : Setup → ℕ → List ℕ
channel_table s k = slice_index_or s.scene.channel_gamma k []

-- the value of an option
unfoldable pub option_value : Setup → ScanOption → Value
option_value s NumOptions = Int (pos (length (options_of s.scene.kind)))
option_value s Mode = Text (choice_text (choice.Mode s.scene.mode))
option_value s Depth = Int (pos s.scene.depth)
option_value s Resolution = Int (pos s.scene.resolution)
option_value s TlX = Fixed s.scene.tl_x
option_value s TlY = Fixed s.scene.tl_y
option_value s BrX = Fixed s.scene.br_x
option_value s BrY = Fixed s.scene.br_y
option_value s GammaTable = Words (map (λ b. pos b) s.scene.gamma)
option_value s RedGammaTable = Words (map (λ b. pos b) (channel_table s 0))
option_value s GreenGammaTable = Words (map (λ b. pos b) (channel_table s 1))
option_value s BlueGammaTable = Words (map (λ b. pos b) (channel_table s 2))
option_value s ThreePassOrder = Text (choice_text (choice.Passes s.passes))
option_value s PplLoss = Int (pos s.loss)
option_value s ReadLimitSize = Int (pos s.limit)
option_value s ReadReturnValue = Text (choice_text (choice.ReadStatus s.told))
option_value s HandScanner = Flag true

-- the setup with a value that an option admits
abbrev pub with_number : Setup → ScanOption → ℕ → Setup
with_number s Depth n = record s { scene = record s.scene { depth = n } }
with_number s Resolution n = record s { scene = record s.scene { resolution = n } }
with_number s PplLoss n = record s { loss = n }
with_number s ReadLimitSize n = record s { limit = n }
with_number s _ n = s

abbrev pub with_length : Setup → ScanOption → Length → Setup
with_length s TlX length = record s { scene = record s.scene { tl_x = length } }
with_length s TlY length = record s { scene = record s.scene { tl_y = length } }
with_length s BrX length = record s { scene = record s.scene { br_x = length } }
with_length s BrY length = record s { scene = record s.scene { br_y = length } }
with_length s _ length = s

abbrev pub with_channels : Setup → List ℕ → List ℕ → List ℕ → Setup
with_channels s red green blue = record s { scene = record s.scene { channel_gamma = red ∷ green ∷ blue ∷ [] } }

abbrev pub with_table : Setup → ScanOption → List ℕ → Setup
with_table s GammaTable table = record s { scene = record s.scene { gamma = table } }
with_table s RedGammaTable table = with_channels s table (channel_table s 1) (channel_table s 2)
with_table s GreenGammaTable table = with_channels s (channel_table s 0) table (channel_table s 2)
with_table s BlueGammaTable table = with_channels s (channel_table s 0) (channel_table s 1) table
with_table s _ table = s

abbrev pub with_choice : Setup → Choice → Setup
with_choice s (choice.Mode m) = record s { scene = record s.scene { mode = m } }
with_choice s (choice.Passes p) = record s { passes = p }
with_choice s (choice.ReadStatus t) = record s { told = t }

-- the first of some choices that has the text
abbrev pub choice_of : List Choice → List ℕ → Option Choice
choice_of [] text = None
choice_of (c ∷ cs) text = if bytes_eq (choice_text c) text then Some c else choice_of cs text

abbrev pub with_chosen : Setup → Option Choice → Setup
with_chosen s None = s
with_chosen s (Some c) = with_choice s c

unfoldable pub with_value : Setup → ScanOption → Value → Setup
with_value s o (Flag _) = s
with_value s o (Int word) = with_number s o (unsigned_abs word)
with_value s o (Fixed length) = with_length s o length
with_value s o (Words words) = with_table s o (map (λ word. unsigned_abs word) words)
with_value s o (Text text) = with_chosen s (choice_of (choices_of o) text)

-- an option that passes a test
abbrev pub option_passing : (ScanOption → Bool) → Option ScanOption → Option ScanOption
option_passing test None = None
option_passing test (Some o) = if test o then Some o else None

-- the option of a number, where it may be read, and where it may be set: it is active, and has SOFT_DETECT or
-- SOFT_SELECT
abbrev pub option_to_get : Setup → ℕ → Option ScanOption
option_to_get s n = option_passing (λ o. is_active s o && has_cap (option_caps o) 4) (option_at s.scene.kind n)

abbrev pub option_to_set : Setup → ℕ → Option ScanOption
option_to_set s n = option_passing (λ o. is_active s o && has_cap (option_caps o) 1) (option_at s.scene.kind n)

-- what a get answers, out of memory aside
abbrev pub get_result : Setup → Option ScanOption → Result Value Status
get_result s None = Err Inval
get_result s (Some o) = Ok (option_value s o)

-- **what a get and a set answer (`option_got`, `option_set`, `setup_after`, `device_info_of`)**: a get answers the
-- value of an option that is active and may be read. A set answers the nearest admitted value of one that is active and
-- may be set, with INEXACT, RELOAD_OPTIONS and RELOAD_PARAMS.
unfoldable pub option_got : Setup → ℕ → Result Value Status
option_got s n = get_result s (option_to_get s n)

-- whether two values are equal
abbrev pub same_value : Value → Value → Bool
same_value (Flag a) (Flag b) = if a then b else not b
same_value (Int a) (Int b) = int_eq a b
same_value (Fixed a) (Fixed b) = int_eq a.0 b.0
same_value (Words a) (Words b) = pointwise int_eq a b
same_value (Text a) (Text b) = bytes_eq a b
same_value _ _ = false

-- Of an option's descriptor only the bit INACTIVE ever changes.
abbrev pub differ : Bool → Bool → Bool
differ a b = if a then not b else b

abbrev pub reloads : Setup → Setup → Bool
reloads s t = list_any (λ o. differ (is_active s o) (is_active t o)) (options_of s.scene.kind)

-- the options on which the parameters of a scan depend
abbrev pub bears_on_params : ScanOption → Bool
bears_on_params NumOptions = false
bears_on_params GammaTable = false
bears_on_params RedGammaTable = false
bears_on_params GreenGammaTable = false
bears_on_params BlueGammaTable = false
bears_on_params ReadLimitSize = false
bears_on_params ReadReturnValue = false
bears_on_params HandScanner = false
bears_on_params _ = true

-- INEXACT, RELOAD_OPTIONS and RELOAD_PARAMS
abbrev pub info_bits : Bool → Bool → Bool → Info
info_bits inexact options params =
    record { 0 = (if inexact then 1 else 0) + ((if options then 2 else 0) + (if params then 4 else 0)) }

abbrev pub info_of : Setup → ScanOption → Value → Value → Info
info_of s o asked given =
    info_bits (not (same_value asked given)) (reloads s (with_value s o given)) (bears_on_params o)

-- what a set answers, out of memory aside: the nearest admitted value, and its info
abbrev pub put_answer : Setup → ScanOption → Value → Option Value → Result (Value × Info) Status
put_answer s o asked None = Err Inval
put_answer s o asked (Some given) = Ok (given, info_of s o asked given)

abbrev pub set_to : Setup → Option ScanOption → Value → Result (Value × Info) Status
set_to s None asked = Err Inval
set_to s (Some o) asked = put_answer s o asked (resolve (descriptor_of s o) asked)

unfoldable pub option_set : Setup → ℕ → Value → Result (Value × Info) Status
option_set s n asked = set_to s (option_to_set s n) asked

-- the setup that a set leaves which gave a value
abbrev pub with_given : Setup → Option ScanOption → Value → Setup
with_given s None given = s
with_given s (Some o) given = with_value s o given

unfoldable pub setup_after : Setup → ℕ → Value → Setup
setup_after s n given = with_given s (option_to_set s n) given
