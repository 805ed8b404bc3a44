-- THE LAYERS BELOW: devices and the join of frames, as the model sees them. Each definition is opaque: what is proved
-- above rests on the laws of proofs/Laws alone.
use Rattle.std.specs.Prelude.{ℕ, ◌+◌, ◌==◌, ◌&&◌, Bool, true, false, not, if◌then◌else◌, Option, Some, option_map}
use Rattle.std.specs.Prelude.{Result, Ok, Err, List, [], ◌∷◌, slice_get}
use Rattle.sane_fixed.specs.DecimalReading.{◌>>=◌}
use Rattle.sane_fixed.specs.declared.byte_order.ByteOrder.{ByteOrder as Order}
use Rattle.sane_fixed.specs.declared.info.Info.{Info as Bits}
use Rattle.sane_fixed.specs.declared.kind.Kind.{Kind}
use Rattle.sane_fixed.specs.declared.kind.Kind.TheVariants as kind
use Rattle.sane_fixed.specs.declared.params.Params.{Params}
use Rattle.sane_fixed.specs.declared.status.Status.{Status}
use Rattle.option_desc.specs.declared.descriptor.Descriptor.{Descriptor}
use Rattle.option_desc.specs.declared.value.Value.{Value}
use Rattle.option_desc.specs.declared.value.Value.TheVariants as value
use Rattle.option_desc.specs.Reads.{read_value}
use Rattle.page_picture.specs.Page as page
use Rattle.page_picture.specs.Shows.{Frame}
use Rattle.scan_frames.specs.Frames.{params_at, params_without}
use Rattle.scan_frames.specs.declared.setup.Setup.{Setup}
use Rattle.device_api.specs.ScannerLimits as limits
use Rattle.device_api.specs.InForce.{number_named}
use Rattle.sane_fixed.specs.Cap.{has_cap}
use Rattle.device_api.specs.Options as table
use Rattle.device_api.specs.Values.{option_got}
use Rattle.device_api.specs.Values as values
use Rattle.device_api.specs.Kinds.{Model, Page}
use Rattle.frame_join.specs.FrameHistory.{is_accepted}
use Rattle.scan_laws.specs.NearestSet.{GivesNearest}
use Rattle.scan_laws.specs.SetAndJoin as rules
use Rattle.scan_laws.specs.SetInfo.{has_bit}
use Rattle.system_model.specs.AbstractMessages.{RequestedSetting, AbstractInfo}

-- what never changes of a device
pub record Make : Type 0 where
  pub model : Model
  pub order : Order
  -- whether a page source that is ever in it can fail
  pub fallible : Bool
  -- whether each of them gives its page's rows at each pass
  pub steady : Bool

-- the values in force
abbrev pub OptionsInForce : Type 0
OptionsInForce = Setup

-- the limits of options
unfoldable pub AreOptionsAllowed : Make → OptionsInForce → Type 0
AreOptionsAllowed make options = limits.IsAllowed options

-- the limits of a page
unfoldable pub IsPageShaped : Page → Type 0
IsPageShaped page_view = page.IsShaped page_view

-- an accepted setting
pub record AbstractAcceptedSet : Type 0 where
  pub given : Value
  pub info : AbstractInfo
  pub options : OptionsInForce

unfoldable pub default_options : Make → OptionsInForce
default_options make = values.defaults make.model make.order

-- the descriptors in force
unfoldable pub descriptors_in_force : Make → OptionsInForce → List Descriptor
descriptors_in_force make options = table.descriptors_of options

-- the option of a setting and the value that its text reads as, by the descriptors
unfoldable pub resolve_setting : List Descriptor → RequestedSetting → Option (ℕ × Value)
resolve_setting descriptors requested = do
  n ← number_named requested.name descriptors
  desc ← slice_get descriptors n
  asked ← read_value desc requested.text
  Some (n, asked)

abbrev pub abstract_info : Bits → AbstractInfo
abstract_info bits =
    record { inexact = has_bit bits 1; reload_options = has_bit bits 2; reload_params = has_bit bits 4 }

abbrev pub abstract_accepted_set : rules.AcceptedSet → AbstractAcceptedSet
abstract_accepted_set put = record { given = put.given; info = abstract_info put.info; options = put.setup }

-- **devices below (`defaults`, `descriptors_of`, `accept_value`, `picture_frames`, `accepts` ..)**: each word that the
-- model uses of devices and joins, by the definitions of their crates.
--
-- a value put in: None where the option or the value is refused
unfoldable pub accept_value : Make → OptionsInForce → ℕ → Value → Option AbstractAcceptedSet
accept_value make o n asked = option_map abstract_accepted_set (rules.accept_set o n asked)

-- of the values that an option admits, this one is nearest to the one asked for
unfoldable pub IsNearest : Make → OptionsInForce → ℕ → Value → Value → Type 0
IsNearest make o n asked given = GivesNearest o n asked given

-- one word, or a text
abbrev pub is_single : Kind → ℕ → Bool
is_single kind.Bool size = true
is_single kind.Int size = size == 4
is_single kind.Fixed size = size == 4
is_single kind.String size = true
is_single kind.Button size = false
is_single kind.Group size = false

-- active, detectable, of one value, and no group or button
abbrev pub is_readable : Descriptor → Bool
is_readable desc = has_cap desc.caps.0 4 && (not (has_cap desc.caps.0 32) && is_single desc.kind desc.size)

abbrev pub readable_from : ℕ → List Descriptor → List ℕ
readable_from n [] = []
readable_from n (d ∷ ds) = if is_readable d then n ∷ readable_from (n + 1) ds else readable_from (n + 1) ds

-- the options that a client asks the values of
unfoldable pub readable_options : List Descriptor → List ℕ
readable_options descriptors = readable_from 0 descriptors

abbrev pub is_answered_value : Result Value Status → Bool
is_answered_value (Ok _) = true
is_answered_value (Err _) = false

abbrev pub value_or_false : Result Value Status → Value
value_or_false (Ok v) = v
value_or_false (Err _) = value.Flag false

-- whether the value of an option is told, and which it is
unfoldable pub has_readable_value : Make → OptionsInForce → ℕ → Bool
has_readable_value make o n = is_answered_value (option_got o n)

unfoldable pub readable_value : Make → OptionsInForce → ℕ → Value
readable_value make o n = value_or_false (option_got o n)

-- the byte order of the samples
unfoldable pub order_of : Make → OptionsInForce → Order
order_of make o = o.order

-- the frames of the picture that the page and the options mean, in the order of the passes; none where there is no
-- picture
unfoldable pub picture_frames : Make → OptionsInForce → Page → List Frame
picture_frames make options page_view = rules.frames_given options page_view

-- the status that the first read of a frame answers in place of bytes
unfoldable pub read_status_of : Make → OptionsInForce → Option Status
read_status_of make options = options.told

abbrev pub params_of_tray : OptionsInForce → List Page → Params
params_of_tray options [] = params_without options 0
params_of_tray options (page_view ∷ tray) = params_at options page_view 0

-- what is told at rest of the frame that a start would give
unfoldable pub params_at_rest : Make → OptionsInForce → List Page → Params
params_at_rest make options tray = params_of_tray options tray

-- THE JOIN OF FRAMES
-- a further frame of this shape and order may begin
unfoldable pub accepts : List Frame → Params → Order → Bool
accepts frames params order = is_accepted frames params order

-- these bytes are more than the frame has
unfoldable pub frame_overflows : Params → List ℕ → Bool
frame_overflows params bytes = rules.overflows params bytes

-- these bytes are a whole frame
unfoldable pub frame_fills : Params → List ℕ → Bool
frame_fills params bytes = rules.fills params bytes
