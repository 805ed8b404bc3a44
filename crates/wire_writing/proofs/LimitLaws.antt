-- What a writer finds too long is what passes a limit of the wire.
use Rattle.std.proofs.Common.{◌≡◌, ◌∙◌, ◌<◌, inl, inr, refl, sym, ap, subst, ℕ, Bool, true, false, List, [], ◌∷◌, length, Option, Some, None, arith}
use Rattle.std.specs.Prelude.{◌↔◌, ◌||◌, nat_lt}
use Rattle.std.proofs.lemmas.Bool.Decides.{nat_tests}
use Rattle.option_desc.specs.declared.descriptor.Constraint.{Constraint}
use Rattle.option_desc.specs.declared.descriptor.Constraint.TheVariants as constraints
use Rattle.option_desc.specs.declared.descriptor.Descriptor.{Descriptor}
use Rattle.sane_fixed.specs.declared.device_info.DeviceInfo.{DeviceInfo}
use Rattle.wire_format.specs.Writer.{Writer, IsLong, exceeds, write_places}
use Rattle.wire_message.specs.Message.{message_limit}
use Rattle.wire_message.specs.declared.message.WireValue.{WireValue}
use Rattle.wire_message.specs.declared.message.WireValue.TheVariants as values
use Rattle.wire_message.specs.declared.message.Request.{Request}
use Rattle.wire_message.specs.declared.message.Request.TheVariants as requests
use Rattle.wire_message.specs.declared.message.Reply.{Reply}
use Rattle.wire_message.specs.declared.message.Reply.TheVariants as replies
use Rattle.wire_writing.specs.WireLimits.{PassesLimit, any_passes, constraint_passes, descriptor_passes, device_passes, is_long_text, reply_passes, request_passes, value_passes}
use Rattle.wire_writing.specs.RequestWriting.{value_long, write_request, write_string}
use Rattle.wire_writing.specs.ReplyWriting.{constraint_long, write_descriptor, write_device, write_reply}
use Rattle.wire_writing.proofs.Spelled.{string_long}

-- elements
places_long : {A : Type 0} (W : Writer A) (passes : A → Bool) (all : List A) → ((a : A) → W.long a ≡ passes a) → (write_places (length all) W).long all ≡ any_passes passes all
unfolding write_places
places_long W passes [] same = refl
places_long W passes (a ∷ all) same = ap (λ (b : Bool). b || (write_places (length all) W).long all) (same a) ∙ ap (λ (b : Bool). passes a || b) (places_long W passes all same)

text_long : (text : List ℕ) → write_string.long text ≡ is_long_text text
text_long text = string_long text

value_same : (value : WireValue) → value_long value ≡ value_passes value
value_same (values.Words words) = refl
value_same (values.Bytes bytes) = refl

device_same : (d : DeviceInfo) → write_device.long d ≡ device_passes d
device_same d = rw (text_long d.name, text_long d.vendor, text_long d.model, text_long d.class) refl

constraint_same : (c : Constraint) → constraint_long c ≡ constraint_passes c
constraint_same constraints.Free = refl
constraint_same (constraints.Span range) = refl
constraint_same (constraints.Words words) = refl
constraint_same (constraints.Strings entries) = ap (λ (b : Bool). nat_lt 1023 (length entries) || b) (places_long write_string is_long_text entries text_long)

descriptor_same : (d : Descriptor) → write_descriptor.long d ≡ descriptor_passes d
descriptor_same d = rw (text_long d.name, text_long d.title, text_long d.about, constraint_same d.constraint) refl

request_same : (r : Request) → write_request.long r ≡ request_passes r
request_same (requests.Init version user) = text_long user
request_same (requests.Open name) = text_long name
request_same (requests.ControlOption device option action kind value) = value_same value
request_same (requests.Authorize resource user password) = rw (text_long resource, text_long user, text_long password) refl
request_same q = refl

reply_same : (r : Reply) → write_reply.long r ≡ reply_passes r
reply_same (replies.GetDevices status devices) = ap (λ (b : Bool). nat_lt 1023 (length devices) || b) (places_long write_device device_passes devices device_same)
reply_same (replies.Open status device resource) = text_long resource
reply_same (replies.GetOptionDescriptors descriptors) = ap (λ (b : Bool). nat_lt 1024 (length descriptors) || b) (places_long write_descriptor descriptor_passes descriptors descriptor_same)
reply_same (replies.ControlOption status info kind value resource) = rw (value_same value, text_long resource) refl
reply_same (replies.Start status port order resource) = text_long resource
reply_same q = refl

-- a message
over : (text : Option (List ℕ)) → exceeds message_limit text ≡ true → (whole : List ℕ) × (text ≡ Some whole) × (1048576 < length whole)
over (Some text) e = (text, refl, grind (arith, nat_tests))
over None e = absurd cc

is_over_of : (text : Option (List ℕ)) (whole : List ℕ) → text ≡ Some whole → 1048576 < length whole → exceeds message_limit text ≡ true
is_over_of text whole e l = rw e (grind (arith, nat_tests))

one_of : (part : Bool) (text : Option (List ℕ)) → (part || exceeds message_limit text) ≡ true → PassesLimit part text
one_of true text e = inl refl
one_of false text e = inr (over text e)

of_one : (part : Bool) (text : Option (List ℕ)) → PassesLimit part text → (part || exceeds message_limit text) ≡ true
of_one true text h = refl
of_one false text (inl e) = absurd (let clash : false ≡ true = e in cc)
of_one false text (inr (whole, is, l)) = is_over_of text whole is l

pub request_limits : (r : Request) → IsLong message_limit write_request r ↔ PassesLimit (request_passes r) (write_request.text r)
request_limits r = (
  (λ long. one_of (request_passes r) (write_request.text r) (subst (λ (b : Bool). (b || exceeds message_limit (write_request.text r)) ≡ true) (request_same r) long)),
  (λ past. subst (λ (b : Bool). (b || exceeds message_limit (write_request.text r)) ≡ true) (sym (request_same r)) (of_one (request_passes r) (write_request.text r) past)),
)

pub reply_limits : (r : Reply) → IsLong message_limit write_reply r ↔ PassesLimit (reply_passes r) (write_reply.text r)
reply_limits r = (
  (λ long. one_of (reply_passes r) (write_reply.text r) (subst (λ (b : Bool). (b || exceeds message_limit (write_reply.text r)) ≡ true) (reply_same r) long)),
  (λ past. subst (λ (b : Bool). (b || exceeds message_limit (write_reply.text r)) ≡ true) (sym (reply_same r)) (of_one (reply_passes r) (write_reply.text r) past)),
)
