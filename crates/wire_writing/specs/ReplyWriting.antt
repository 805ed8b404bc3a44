-- The one way of writing each reply.
use Rattle.std.specs.Prelude.{ℕ, suc, ◌||◌, nat_lt, Bool, true, false, List, length, Option, Some, None, ℤ, pos, neg_ℤ}
use Rattle.std.specs.Prelude.{int_lt, if◌then◌else◌}
use Rattle.std.specs.Int.{w32, cast_unsigned}
use Rattle.wire_format.specs.Writer.{Writer, append_text, write_places}
use Rattle.sane_fixed.specs.Kind.{kind_code}
use Rattle.sane_fixed.specs.Status.{status_code}
use Rattle.sane_fixed.specs.Unit.{unit_code}
use Rattle.sane_fixed.specs.FrameFormat.{frame_format_code}
use Rattle.sane_fixed.specs.declared.params.Params.{Params}
use Rattle.sane_fixed.specs.declared.byte_order.ByteOrder.{ByteOrder}
use Rattle.sane_fixed.specs.declared.byte_order.ByteOrder.TheVariants.{Little, Big}
use Rattle.constraint.specs.Admitted.{Bounds}
use Rattle.option_desc.specs.declared.descriptor.Constraint.{Constraint}
use Rattle.option_desc.specs.declared.descriptor.Constraint.TheVariants as constraints
use Rattle.option_desc.specs.declared.descriptor.Descriptor.{Descriptor}
use Rattle.sane_fixed.specs.declared.device_info.DeviceInfo.{DeviceInfo}
use Rattle.wire_message.specs.declared.message.Procedure.{Procedure}
use Rattle.wire_message.specs.declared.message.Procedure.TheVariants as procedures
use Rattle.wire_message.specs.declared.message.Reply.{Reply}
use Rattle.wire_message.specs.declared.message.Reply.TheVariants as replies
use Rattle.wire_writing.specs.RequestWriting.{write_any, write_from_to, write_string, write_resource, value_long}
use Rattle.wire_writing.specs.RequestWriting.{value_text, code_text}

-- ---- devices

abbrev pub device_text : DeviceInfo → Option (List ℕ)
device_text d =
    append_text (write_string.text d.name)
    (append_text (write_string.text d.vendor) (append_text (write_string.text d.model) (write_string.text d.class)))

-- a pointer that is not NULL, and its device
abbrev pub write_device : Writer DeviceInfo
write_device = record {
  long = λ d. write_string.long d.name || write_string.long d.vendor || write_string.long d.model
      || write_string.long d.class;
  text = λ d. append_text (code_text 0) (device_text d);
}

-- the array, whose last element is the NULL pointer
abbrev pub write_devices : Writer (List DeviceInfo)
write_devices = record {
  long = λ all. nat_lt 1023 (length all) || (write_places (length all) write_device).long all;
  text = λ all. if nat_lt 1023 (length all) then None else
      append_text (code_text (suc (length all)))
      (append_text ((write_places (length all) write_device).text all) (code_text 1));
}

-- ---- constraints

-- a signed number's two's complement, where 32 bits hold it
unfoldable pub signed_text : ℤ → Option (List ℕ)
signed_text z =
    if int_lt z (neg_ℤ (pos 2147483648)) || int_lt (pos 2147483647) z then None else code_text (cast_unsigned w32 z)

abbrev pub write_signed : Writer ℤ
write_signed = record { long = λ z. false; text = signed_text }

-- a pointer that is not NULL, and the three words
abbrev pub bounds_text : Bounds → Option (List ℕ)
bounds_text r =
    append_text (code_text 0) (append_text (signed_text r.min) (append_text (signed_text r.max) (signed_text r.quant)))

abbrev pub range_text : Bounds → Option (List ℕ)
range_text r = if int_lt r.max r.min || int_lt r.quant (pos 0) then None else bounds_text r

-- a list has 1 to 1,023 entries
abbrev pub is_no_list : ℕ → Bool
is_no_list entries = nat_lt entries 1 || nat_lt 1023 entries

-- the array, whose first word is how many stand behind it
abbrev pub word_list_text : List ℤ → Option (List ℕ)
word_list_text words = if is_no_list (length words) then None else
    append_text (code_text (suc (length words)))
    (append_text (code_text (length words)) ((write_places (length words) write_signed).text words))

-- the array, whose last string is the NULL string
abbrev pub string_list_text : List (List ℕ) → Option (List ℕ)
string_list_text entries = if is_no_list (length entries) then None else
    append_text (code_text (suc (length entries)))
    (append_text ((write_places (length entries) write_string).text entries) (code_text 0))

abbrev pub constraint_long : Constraint → Bool
constraint_long constraints.Free = false
constraint_long (constraints.Span range) = false
constraint_long (constraints.Words words) = nat_lt 1023 (length words)
constraint_long (constraints.Strings entries) =
    nat_lt 1023 (length entries) || (write_places (length entries) write_string).long entries

abbrev pub constraint_text : Constraint → Option (List ℕ)
constraint_text constraints.Free = code_text 0
constraint_text (constraints.Span range) = append_text (code_text 1) (range_text range)
constraint_text (constraints.Words words) = append_text (code_text 2) (word_list_text words)
constraint_text (constraints.Strings entries) = append_text (code_text 3) (string_list_text entries)

-- ---- descriptors

-- what stands behind a descriptor's unit, and what behind its three strings
abbrev pub size_text : Descriptor → Option (List ℕ)
size_text d = append_text (write_any.text d.size) (append_text (write_any.text d.caps.0) (constraint_text d.constraint))

abbrev pub kind_text : Descriptor → Option (List ℕ)
kind_text d = append_text (code_text (kind_code d.kind)) (append_text (code_text (unit_code d.unit)) (size_text d))

-- a pointer that is not NULL, and its descriptor
abbrev pub write_descriptor : Writer Descriptor
write_descriptor = record {
  long = λ d. write_string.long d.name || write_string.long d.title || write_string.long d.about
      || constraint_long d.constraint;
  text = λ d.
      append_text (code_text 0)
      (append_text (write_string.text d.name)
      (append_text (write_string.text d.title) (append_text (write_string.text d.about) (kind_text d))));
}

abbrev pub write_descriptors : Writer (List Descriptor)
write_descriptors = record {
  long = λ all. nat_lt 1024 (length all) || (write_places (length all) write_descriptor).long all;
  text = λ all. if nat_lt 1024 (length all) then None
      else append_text (code_text (length all)) ((write_places (length all) write_descriptor).text all);
}

-- ---- parameters

abbrev pub flag_code : Bool → ℕ
flag_code false = 0
flag_code true = 1

-- lines that are not known are FFFFFFFF, which is no number of lines
abbrev pub lines_text : Option ℕ → Option (List ℕ)
lines_text None = code_text 4294967295
lines_text (Some lines) = (write_from_to 0 4294967294).text lines

abbrev pub params_text : Params → Option (List ℕ)
params_text p = append_text (code_text (frame_format_code p.format)) (append_text (code_text (flag_code p.last_frame))
    (append_text (write_any.text p.bytes_per_line)
    (append_text (write_any.text p.pixels_per_line) (append_text (lines_text p.lines) (write_any.text p.depth)))))

abbrev pub order_code : ByteOrder → ℕ
order_code Little = 4660
order_code Big = 17185

-- ---- replies

-- the procedure that is answered
abbrev pub replied_procedure : Reply → Procedure
replied_procedure (replies.Init status version) = procedures.Init
replied_procedure (replies.GetDevices status devices) = procedures.GetDevices
replied_procedure (replies.Open status device resource) = procedures.Open
replied_procedure replies.Close = procedures.Close
replied_procedure (replies.GetOptionDescriptors descriptors) = procedures.GetOptionDescriptors
replied_procedure (replies.ControlOption status info kind value resource) = procedures.ControlOption
replied_procedure (replies.GetParameters status params) = procedures.GetParameters
replied_procedure (replies.Start status port order resource) = procedures.Start
replied_procedure replies.Cancel = procedures.Cancel
replied_procedure replies.Authorize = procedures.Authorize
replied_procedure replies.Exit = procedures.Exit

abbrev pub reply_long : Reply → Bool
reply_long (replies.Init status version) = false
reply_long (replies.GetDevices status devices) = write_devices.long devices
reply_long (replies.Open status device resource) = write_resource.long resource
reply_long replies.Close = false
reply_long (replies.GetOptionDescriptors descriptors) = write_descriptors.long descriptors
reply_long (replies.ControlOption status info kind value resource) = value_long value || write_resource.long resource
reply_long (replies.GetParameters status params) = false
reply_long (replies.Start status port order resource) = write_resource.long resource
reply_long replies.Cancel = false
reply_long replies.Authorize = false
reply_long replies.Exit = false

-- an ignored word is 0; nothing is replied to EXIT
abbrev pub reply_text : Reply → Option (List ℕ)
reply_text (replies.Init status version) = append_text (code_text (status_code status)) (write_any.text version)
reply_text (replies.GetDevices status devices) =
    append_text (code_text (status_code status)) (write_devices.text devices)
reply_text (replies.Open status device resource) =
    append_text (code_text (status_code status)) (append_text (write_any.text device) (write_resource.text resource))
reply_text replies.Close = code_text 0
reply_text (replies.GetOptionDescriptors descriptors) = write_descriptors.text descriptors
reply_text (replies.ControlOption status info kind value resource) =
    append_text (code_text (status_code status))
    (append_text (write_any.text info.0)
    (append_text (code_text (kind_code kind)) (append_text (value_text kind value) (write_resource.text resource))))
reply_text (replies.GetParameters status params) = append_text (code_text (status_code status)) (params_text params)
reply_text (replies.Start status port order resource) =
    append_text (code_text (status_code status))
    (append_text ((write_from_to 0 65535).text port)
    (append_text (code_text (order_code order)) (write_resource.text resource)))
reply_text replies.Cancel = code_text 0
reply_text replies.Authorize = code_text 0
reply_text replies.Exit = None

abbrev pub write_reply : Writer Reply
write_reply = record { long = reply_long; text = reply_text }
