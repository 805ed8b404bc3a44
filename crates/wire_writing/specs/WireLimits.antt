-- The limits of the wire: a string has 1,024 bytes with its NUL, an array 1,024 elements, a message 1,048,576 bytes.
use Rattle.std.specs.Prelude.{ℕ, ◌<◌, ◌≡◌, ◌⊎◌, ◌||◌, nat_lt, Bool, true, false, List, [], ◌∷◌, length, Option, Some}
use Rattle.option_desc.specs.declared.descriptor.Constraint.{Constraint}
use Rattle.option_desc.specs.declared.descriptor.Constraint.TheVariants as constraints
use Rattle.option_desc.specs.declared.descriptor.Descriptor.{Descriptor}
use Rattle.sane_fixed.specs.declared.device_info.DeviceInfo.{DeviceInfo}
use Rattle.wire_message.specs.Message.{request as request_format, reply as reply_format}
use Rattle.wire_message.specs.declared.message_fault.WireFault.{WireFault}
use Rattle.wire_message.specs.declared.message_fault.WireFault.TheVariants.{BadValue}
use Rattle.wire_message.specs.declared.message.WireValue.{WireValue}
use Rattle.wire_message.specs.declared.message.WireValue.TheVariants as values
use Rattle.wire_message.specs.declared.message.Request.{Request}
use Rattle.wire_message.specs.declared.message.Request.TheVariants as requests
use Rattle.wire_message.specs.declared.message.Reply.{Reply}
use Rattle.wire_message.specs.declared.message.Reply.TheVariants as replies
use Rattle.wire_writing.specs.RequestWriting.{write_request}
use Rattle.wire_writing.specs.ReplyWriting.{replied_procedure, write_reply}

-- a text that is too long for a string with its NUL
abbrev pub is_long_text : List ℕ → Bool
is_long_text text = nat_lt 1023 (length text)

-- more elements than an array has; and more than one with a further element at its end, or its front, has
abbrev pub is_long_array : ℕ → Bool
is_long_array elements = nat_lt 1024 elements

abbrev pub is_long_list : ℕ → Bool
is_long_list entries = nat_lt 1023 entries

-- one of them passes a limit
abbrev pub any_passes : {A : Type 0} → (A → Bool) → List A → Bool
any_passes passes [] = false
any_passes passes (x ∷ xs) = passes x || any_passes passes xs

abbrev pub value_passes : WireValue → Bool
value_passes (values.Words words) = is_long_array (length words)
value_passes (values.Bytes bytes) = is_long_array (length bytes)

abbrev pub device_passes : DeviceInfo → Bool
device_passes d = is_long_text d.name || is_long_text d.vendor || is_long_text d.model || is_long_text d.class

abbrev pub constraint_passes : Constraint → Bool
constraint_passes constraints.Free = false
constraint_passes (constraints.Span range) = false
constraint_passes (constraints.Words words) = is_long_list (length words)
constraint_passes (constraints.Strings entries) = is_long_list (length entries) || any_passes is_long_text entries

abbrev pub descriptor_passes : Descriptor → Bool
descriptor_passes d =
    is_long_text d.name || is_long_text d.title || is_long_text d.about || constraint_passes d.constraint

-- a string or an array of the message passes its limit
abbrev pub request_passes : Request → Bool
request_passes (requests.Init version user) = is_long_text user
request_passes requests.GetDevices = false
request_passes (requests.Open name) = is_long_text name
request_passes (requests.Close device) = false
request_passes (requests.GetOptionDescriptors device) = false
request_passes (requests.ControlOption device option action kind value) = value_passes value
request_passes (requests.GetParameters device) = false
request_passes (requests.Start device) = false
request_passes (requests.Cancel device) = false
request_passes (requests.Authorize resource user password) =
    is_long_text resource || is_long_text user || is_long_text password
request_passes requests.Exit = false

abbrev pub reply_passes : Reply → Bool
reply_passes (replies.Init status version) = false
reply_passes (replies.GetDevices status devices) = is_long_list (length devices) || any_passes device_passes devices
reply_passes (replies.Open status device resource) = is_long_text resource
reply_passes replies.Close = false
reply_passes (replies.GetOptionDescriptors descriptors) =
    is_long_array (length descriptors) || any_passes descriptor_passes descriptors
reply_passes (replies.ControlOption status info kind value resource) = value_passes value || is_long_text resource
reply_passes (replies.GetParameters status params) = false
reply_passes (replies.Start status port order resource) = is_long_text resource
reply_passes replies.Cancel = false
reply_passes replies.Authorize = false
reply_passes replies.Exit = false

-- **passes a limit (`PassesLimit`, `request_passes`, `reply_passes`)**: a string of the message has more than 1,023
-- bytes beside its NUL, or an array more than 1,024 elements with its end, or the whole text that is written has more
-- than 1,048,576 bytes.
abbrev pub PassesLimit : Bool → Option (List ℕ) → Type 0
PassesLimit part text = (part ≡ true) ⊎ ((whole : List ℕ) × (text ≡ Some whole) × (1048576 < length whole))

-- **bad (`IsBadRequest`, `IsBadReply`)**: a message that passes no limit, and that nothing spells; the fault is then
-- `BadValue`.
abbrev pub IsBadRequest : Request → WireFault → Type 0
IsBadRequest r fault = (fault ≡ BadValue) × (¬ PassesLimit (request_passes r) (write_request.text r))
    × ((text : List ℕ) → request_format.spells text r → ⊥)

abbrev pub IsBadReply : Reply → WireFault → Type 0
IsBadReply r fault = (fault ≡ BadValue) × (¬ PassesLimit (reply_passes r) (write_reply.text r))
    × ((text : List ℕ) → (reply_format (replied_procedure r)).spells text r → ⊥)
