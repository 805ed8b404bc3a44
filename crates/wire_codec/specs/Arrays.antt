-- Arrays of a reply that came in part.
use Rattle.std.specs.Prelude.{◌≡◌, ℕ, zero, suc, ◌+◌, ◌≤◌, List, [], ◌++◌, length, take, drop, IfSome}
use Rattle.wire_format.specs.Format.{Format, pure_format, after, map_format, places}
use Rattle.sane_fixed.specs.declared.status.Status.{Status}
use Rattle.option_desc.specs.declared.descriptor.Descriptor.{Descriptor}
use Rattle.sane_fixed.specs.declared.device_info.DeviceInfo.{DeviceInfo}
use Rattle.wire_codec.specs.declared.begun.Elements.{Elements}
use Rattle.wire_codec.specs.declared.begun.Devices.{Devices}
use Rattle.wire_codec.specs.declared.begun.ArraysSoFar.{ArraysSoFar}
use Rattle.wire_message.specs.declared.message.Procedure.TheVariants as procedures
use Rattle.wire_message.specs.declared.message.Reply.{Reply}
use Rattle.wire_message.specs.declared.message.Reply.TheVariants as replies
use Rattle.wire_message.specs.Message.{message_limit, next_device, last_device, next_descriptor, reply}

-- the elements that are left, behind those that were read, and then the end of the reply
abbrev pub rest_of_array : {A : Type 0} → Format A → (List A → Format Reply) → List A → ℕ → Format Reply
rest_of_array E T front left = after (places left E) (λ more. T (front ++ more))

-- an array of devices ends in one that may be NULL; one without elements has no end
abbrev pub array_end : ℕ → Format (List DeviceInfo)
array_end zero = pure_format []
array_end (suc n) = last_device

-- the reply that lists devices
abbrev pub devices_format : Format Reply
devices_format = reply procedures.GetDevices

abbrev pub devices_end : Status → ℕ → List DeviceInfo → Format Reply
devices_end status count all = map_format (λ last. replies.GetDevices status (all ++ last)) (array_end count)

abbrev pub options_end : List Descriptor → Format Reply
options_end all = pure_format (replies.GetOptionDescriptors all)

-- **what a decoder keeps of a long reply (`IsReadSoFar`, `rest_of_array`)**: so many bytes were read as elements.
-- Reading goes on from there: the elements left, behind those read, then the end of the reply.
pub record IsReadSoFar (F G : Format Reply) (used : ℕ) (bytes : List ℕ) : Type 0 where
  pub within : used ≤ length bytes
  pub short : used ≤ message_limit
  pub goes : (back : List ℕ) → F.read (take used bytes ++ back) ≡ G.read back

abbrev pub DevicesBegun : List ℕ → Devices → Type 0
DevicesBegun bytes d =
    IsReadSoFar devices_format
    (rest_of_array next_device (devices_end d.status d.count) d.elements.front.items d.elements.left) d.elements.used
    bytes

abbrev pub OptionsBegun : List ℕ → Elements Descriptor → Type 0
OptionsBegun bytes e =
    IsReadSoFar (reply procedures.GetOptionDescriptors) (rest_of_array next_descriptor options_end e.front.items e.left)
    e.used bytes

abbrev pub ArraysAreReadSoFar : List ℕ → ArraysSoFar → Type 0
ArraysAreReadSoFar bytes b = IfSome b.devices (DevicesBegun bytes) × IfSome b.options (OptionsBegun bytes)

-- more elements of the bytes were read
pub record ReadsElements {A : Type 0} (E : Format A) (bytes : List ℕ) (old new : Elements A) : Type 0 where
  pub text : List ℕ
  pub some : List A
  pub bytes_are : drop old.used bytes ≡ text ++ drop new.used bytes
  pub used_is : new.used ≡ old.used + length text
  pub within : new.used ≤ length bytes
  pub left_is : old.left ≡ length some + new.left
  pub front_is : new.front.items ≡ old.front.items ++ some
  pub spelled : (places (length some) E).spells text some
