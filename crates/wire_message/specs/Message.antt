-- The messages of the control connection, as they are spelled.
use Rattle.std.specs.Prelude.{ℕ, zero, suc, ◌-◌, ◌/◌, ◌==◌, ℤ, Bool, true, false, List, [], ◌∷◌, ◌++◌, Option, Some}
use Rattle.std.specs.Prelude.{None, if◌then◌else◌}
use Rattle.std.specs.Int.{w32, cast_signed}
use Rattle.wire_format.specs.declared.fault.Fault.TheVariants.{BadCode, BadValue, TooLong}
use Rattle.wire_format.specs.Format.{Format, pure_format, fail_format, after, map_format, places, byte_between, run}
use Rattle.wire_format.specs.WordKinds.{word_of_kind, between}
use Rattle.sane_fixed.specs.declared.status.Status.{Status}
use Rattle.sane_fixed.specs.Status.{status_at}
use Rattle.sane_fixed.specs.declared.kind.Kind.{Kind}
use Rattle.sane_fixed.specs.declared.kind.Kind.TheVariants as kinds
use Rattle.sane_fixed.specs.declared.unit.Unit.{Unit as Measure}
use Rattle.sane_fixed.specs.declared.unit.Unit.TheVariants as units
use Rattle.sane_fixed.specs.declared.frame_format.FrameFormat.{FrameFormat}
use Rattle.sane_fixed.specs.declared.frame_format.FrameFormat.TheVariants as frames
use Rattle.sane_fixed.specs.declared.params.Params.{Params}
use Rattle.constraint.specs.Admitted.{Bounds}
use Rattle.option_desc.specs.declared.descriptor.Constraint.{Constraint}
use Rattle.option_desc.specs.declared.descriptor.Constraint.TheVariants as constraints
use Rattle.option_desc.specs.declared.descriptor.Descriptor.{Descriptor}
use Rattle.wire_message.specs.Kinds.{length_from, words_size, at_least, order}
use Rattle.sane_fixed.specs.declared.device_info.DeviceInfo.{DeviceInfo}
use Rattle.wire_message.specs.declared.message.Procedure.{Procedure}
use Rattle.wire_message.specs.declared.message.Procedure.TheVariants as procedures
use Rattle.wire_message.specs.declared.message.ControlAction.{ControlAction}
use Rattle.wire_message.specs.declared.message.ControlAction.TheVariants as actions
use Rattle.wire_message.specs.declared.message.WireValue.{WireValue}
use Rattle.wire_message.specs.declared.message.WireValue.TheVariants as values
use Rattle.wire_message.specs.declared.message.Request.{Request}
use Rattle.wire_message.specs.declared.message.Request.TheVariants as requests
use Rattle.wire_message.specs.declared.message.Reply.{Reply}
use Rattle.wire_message.specs.declared.message.Reply.TheVariants as replies

-- the longest message, in bytes
abbrev pub message_limit : ℕ
message_limit = 1048576

-- ---- words

abbrev pub from_to : ℕ → ℕ → Format ℕ
from_to low high = word_of_kind (between low high BadValue)

abbrev pub word : Format ℕ
word = from_to 0 4294967295

-- a length or a size of at most so much
abbrev pub up_to : ℕ → Format ℕ
up_to high = word_of_kind (between 0 high TooLong)

abbrev pub signed_word : Format ℤ
signed_word = map_format (cast_signed w32) word

abbrev pub is_set : ℕ → Bool
is_set zero = false
is_set (suc n) = true

abbrev pub flag : Format Bool
flag = map_format is_set word

abbrev pub status : Format Status
status = map_format status_at (from_to 0 11)

abbrev pub kind_at : ℕ → Kind
kind_at n =
    if n == 0 then kinds.Bool
    else if n == 1 then kinds.Int
    else if n == 2 then kinds.Fixed
    else if n == 3 then kinds.String
    else if n == 4 then kinds.Button
    else kinds.Group

abbrev pub unit_at : ℕ → Measure
unit_at n =
    if n == 0 then units.None
    else if n == 1 then units.Pixel
    else if n == 2 then units.Bit
    else if n == 3 then units.Mm
    else if n == 4 then units.Dpi
    else if n == 5 then units.Percent
    else units.Microsecond

abbrev pub frame_at : ℕ → FrameFormat
frame_at n =
    if n == 0 then frames.Gray
    else if n == 1 then frames.Rgb
    else if n == 2 then frames.Red
    else if n == 3 then frames.Green
    else frames.Blue

abbrev pub action_at : ℕ → ControlAction
action_at n =
    if n == 0 then actions.GetValue
    else actions.SetValue

-- all lines but FFFFFFFF are a number of lines
abbrev pub lines_at : ℕ → Option ℕ
lines_at n = if n == 4294967295 then None else Some n

-- an element, or none
abbrev pub option_list : {A : Type 0} → Option A → List A
option_list None = []
option_list (Some a) = a ∷ []

-- ---- strings

-- so many bytes: none of them NUL but the last; no bytes are the empty text
unfoldable pub text_format_of : ℕ → Format (List ℕ)
text_format_of zero = pure_format []
text_format_of (suc n) = after (run 1 n) (λ text. map_format (λ nul. text) (byte_between 0 0))

unfoldable pub string : Format (List ℕ)
string = after (up_to 1024) text_format_of

-- ---- devices

unfoldable pub device : Format DeviceInfo
device = after string (λ name.
    after string (λ vendor.
    after string (λ model.
    map_format (λ class. record { name = name; vendor = vendor; model = model; class = class }) string)))

-- a pointer that is not NULL, and its device
unfoldable pub next_device : Format DeviceInfo
next_device = after (from_to 0 0) (λ pointer. device)

-- the last pointer may be NULL
abbrev pub last_device_of : ℕ → Format (List DeviceInfo)
last_device_of zero = map_format (λ last. last ∷ []) device
last_device_of (suc pointer) = pure_format []

unfoldable pub last_device : Format (List DeviceInfo)
last_device = after word last_device_of

unfoldable pub devices_of : ℕ → Format (List DeviceInfo)
devices_of zero = pure_format []
devices_of (suc n) = after (places n next_device) (λ front. map_format (λ last. front ++ last) last_device)

unfoldable pub devices : Format (List DeviceInfo)
devices = after (up_to 1024) devices_of

-- ---- constraints

-- a pointer that is not NULL, and min, max and quant: max is at least min, and quant is 0 or more
unfoldable pub range : Format Bounds
range = after (from_to 0 0) (λ pointer. after word (λ min. after (word_of_kind (at_least min)) (λ max.
    map_format (λ quant.
    record { min = cast_signed w32 min; max = cast_signed w32 max; quant = cast_signed w32 quant })
    (from_to 0 2147483647))))

-- an array of words, the first of which is how many stand behind it, at least one
unfoldable pub word_list : Format (List ℤ)
word_list =
    after (word_of_kind (length_from 2)) (λ n. after (from_to (n - 1) (n - 1)) (λ count. places count signed_word))

-- a string of a list, which is not the NULL string
unfoldable pub entry : Format (List ℕ)
entry = after (word_of_kind (length_from 1)) text_format_of

-- the same, of which nothing is kept
abbrev pub passed_entry : Format ℕ
passed_entry = map_format (λ text. 0) entry

abbrev pub last_entry_of : ℕ → Format (List (List ℕ))
last_entry_of zero = pure_format []
last_entry_of (suc n) = map_format (λ last. last ∷ []) (text_format_of (suc n))

-- the last of the array's strings, where it may be the NULL string, that of an array of one, and that of the longest
unfoldable pub last_entry : Format (List (List ℕ))
last_entry = after (up_to 1024) last_entry_of

unfoldable pub only_entry : Format (List (List ℕ))
only_entry = map_format (λ only. only ∷ []) entry

unfoldable pub no_entry : Format (List (List ℕ))
no_entry = map_format (λ null. []) (from_to 0 0)

pub data Last : Type 0 where
  Entry : Last
  Null : Last
  Either : Last

abbrev pub last_in : ℕ → Last
last_in n = if n == 1 then Entry else if n == 1024 then Null else Either

abbrev pub last_of : Last → Format (List (List ℕ))
last_of Entry = only_entry
last_of Null = no_entry
last_of Either = last_entry

-- an array of strings, at least one of them not NULL, and at most 1,023
unfoldable pub string_list : Format (List (List ℕ))
string_list =
    after (word_of_kind (length_from 1)) (λ n.
    after (places (n - 1) entry) (λ front. map_format (λ last. front ++ last) (last_of (last_in n))))

abbrev pub constraint_of : ℕ → Format Constraint
constraint_of zero = pure_format constraints.Free
constraint_of (suc zero) = map_format (λ bounds. constraints.Span bounds) range
constraint_of (suc (suc zero)) = map_format (λ words. constraints.Words words) word_list
constraint_of (suc (suc (suc n))) = map_format (λ entries. constraints.Strings entries) string_list

unfoldable pub constraint : Format Constraint
constraint = after (from_to 0 3) constraint_of

-- ---- descriptors

unfoldable pub descriptor : Format Descriptor
descriptor =
    after string (λ name.
    after string (λ title.
    after string (λ about. after (from_to 0 5) (λ k. after (from_to 0 6) (λ u. after word (λ size. after word (λ caps.
    map_format (λ c.
    record {
      name = name;
      title = title;
      about = about;
      kind = kind_at k;
      unit = unit_at u;
      size = size;
      caps =
          record { 0 = caps };
      constraint = c;
    }) constraint)))))))

unfoldable pub next_descriptor : Format Descriptor
next_descriptor = after (from_to 0 0) (λ pointer. descriptor)

unfoldable pub descriptors : Format (List Descriptor)
descriptors = after (up_to 1024) (λ n. places n next_descriptor)

-- ---- values

-- an array of words whose length times 4 is the size
unfoldable pub words_value : Format WireValue
words_value =
    after (word_of_kind words_size) (λ size.
    after (from_to (size / 4) (size / 4)) (λ count. map_format (λ words. values.Words words) (places count word)))

-- an array of bytes whose length is the size
unfoldable pub bytes_value : Format WireValue
bytes_value =
    after (up_to 1024) (λ size.
    after (from_to size size) (λ count. map_format (λ bytes. values.Bytes bytes) (run 0 count)))

abbrev pub value_of : Kind → Format WireValue
value_of kinds.Bool = words_value
value_of kinds.Int = words_value
value_of kinds.Fixed = words_value
value_of kinds.String = bytes_value
value_of kinds.Button = fail_format BadValue
value_of kinds.Group = fail_format BadValue

-- ---- requests

abbrev pub procedure_at : ℕ → Procedure
procedure_at n =
    if n == 0 then procedures.Init
    else if n == 1 then procedures.GetDevices
    else if n == 2 then procedures.Open
    else if n == 3 then procedures.Close
    else if n == 4 then procedures.GetOptionDescriptors
    else if n == 5 then procedures.ControlOption
    else if n == 6 then procedures.GetParameters
    else if n == 7 then procedures.Start
    else if n == 8 then procedures.Cancel
    else if n == 9 then procedures.Authorize
    else procedures.Exit

-- what stands behind the code
abbrev pub arguments : Procedure → Format Request
arguments procedures.Init = after word (λ version. map_format (λ user. requests.Init version user) string)
arguments procedures.GetDevices = pure_format requests.GetDevices
arguments procedures.Open = map_format (λ name. requests.Open name) string
arguments procedures.Close = map_format (λ device. requests.Close device) word
arguments procedures.GetOptionDescriptors = map_format (λ device. requests.GetOptionDescriptors device) word
arguments procedures.ControlOption =
    after word (λ device. after word (λ option. after (from_to 0 1) (λ action. after (from_to 0 3) (λ kind.
    map_format (λ value.
    requests.ControlOption device option (action_at action) (kind_at kind) value) (value_of (kind_at kind))))))
arguments procedures.GetParameters = map_format (λ device. requests.GetParameters device) word
arguments procedures.Start = map_format (λ device. requests.Start device) word
arguments procedures.Cancel = map_format (λ device. requests.Cancel device) word
arguments procedures.Authorize =
    after string (λ resource.
    after string (λ user. map_format (λ password. requests.Authorize resource user password) string))
arguments procedures.Exit = pure_format requests.Exit

-- **spelling of a message (`request`, `reply`)**: the formats of each request and each reply to a procedure.
unfoldable pub request : Format Request
request = after (word_of_kind (between 0 10 BadCode)) (λ code. arguments (procedure_at code))

-- ---- replies

unfoldable pub params : Format Params
params = after (from_to 0 4) (λ format.
    after word (λ last. after word (λ bytes. after word (λ pixels. after word (λ lines.
    map_format (λ depth.
    record {
      format = frame_at format;
      last_frame = is_set last;
      bytes_per_line = bytes;
      pixels_per_line =
          pixels;
      lines = lines_at lines;
      depth = depth;
    }) word)))))

unfoldable pub reply : Procedure → Format Reply
reply procedures.Init = after status (λ s. map_format (λ version. replies.Init s version) word)
reply procedures.GetDevices = after status (λ s. map_format (λ all. replies.GetDevices s all) devices)
reply procedures.Open =
    after status (λ s. after word (λ device. map_format (λ resource. replies.Open s device resource) string))
reply procedures.Close = map_format (λ ignored. replies.Close) word
reply procedures.GetOptionDescriptors = map_format (λ all. replies.GetOptionDescriptors all) descriptors
reply procedures.ControlOption =
    after status (λ s. after word (λ info. after (from_to 0 3) (λ kind. after (value_of (kind_at kind)) (λ value.
    map_format (λ resource. replies.ControlOption s (record { 0 = info }) (kind_at kind) value resource) string))))
reply procedures.GetParameters = after status (λ s. map_format (λ p. replies.GetParameters s p) params)
reply procedures.Start =
    after status (λ s.
    after (from_to 0 65535) (λ port.
    after (word_of_kind order) (λ o. map_format (λ resource. replies.Start s port o resource) string)))
reply procedures.Cancel = map_format (λ ignored. replies.Cancel) word
reply procedures.Authorize = map_format (λ ignored. replies.Authorize) word
reply procedures.Exit = fail_format BadCode
