-- The model's answers, as replies of the wire.
use Rattle.std.specs.Prelude.{ℕ, ◌≡◌, Option, Some, None, List, [], ◌∷◌, slice_get}
use Rattle.sane_fixed.specs.declared.byte_order.ByteOrder.{ByteOrder}
use Rattle.sane_fixed.specs.declared.byte_order.ByteOrder.TheVariants.{Little}
use Rattle.sane_fixed.specs.declared.info.Info.{Info as Bits}
use Rattle.sane_fixed.specs.declared.kind.Kind.{Kind}
use Rattle.sane_fixed.specs.declared.status.Status.{Status}
use Rattle.sane_fixed.specs.declared.status.Status.TheVariants as code
use Rattle.option_desc.specs.declared.descriptor.Descriptor.{Descriptor}
use Rattle.option_desc.specs.declared.value.Value.{Value}
use Rattle.sane_fixed.specs.declared.device_info.DeviceInfo.{DeviceInfo}
use Rattle.device_api.specs.State.{DeviceState}
use Rattle.dispatch.specs.Backend.{IsBackendOf}
use Rattle.dispatch.specs.declared.table.place.Lease.{Lease}
use Rattle.wire_message.specs.declared.message.Request.{Request as Asked}
use Rattle.wire_message.specs.declared.message.Request.TheVariants as requests
use Rattle.wire_message.specs.declared.message.Reply.{Reply as Wire}
use Rattle.wire_message.specs.declared.message.Reply.TheVariants as replies
use Rattle.wire_message.specs.declared.message.WireValue.{WireValue}
use Rattle.saned_requests.specs.declared.request_answer.RequestAnswer.{RequestAnswer}
use Rattle.saned_requests.specs.declared.request_answer.RequestAnswer.TheVariants.{One, Two, Last}
use Rattle.saned_requests.specs.RequestAnswers.{own_version, refusal, resource_of, refused_control, no_params}
use Rattle.saned_requests.specs.RequestAnswers.{start_reply, kind_of}
use Rattle.saned_requests.specs.declared.session.StringSize.{StringSize}
use Rattle.saned_requests.specs.OptionValues.{sent_as, size_of}
use Rattle.system_model.specs.AbstractMessages.{AbstractReply, Greeted, Listed, Opened, Challenged, Described, Got}
use Rattle.system_model.specs.AbstractMessages.{Gave, Shaped, Begun, Acked, Refused}
use Rattle.system_model.specs.Devices.{abstract_info}

-- what a reply has beside the answer: the port for data, how string values are sent, the least free word, the byte
-- order and descriptors of the device of the request's word, and the devices that are listed
pub record Manner : Type 0 where
  pub port : ℕ
  pub strings : StringSize
  pub free : Option ℕ
  pub order : ByteOrder
  pub descriptors : List Descriptor
  pub infos : List DeviceInfo

-- a request that is refused, and one that is done
abbrev pub refused_to : Asked → ByteOrder → Status → Wire
refused_to (requests.Start word) order status = start_reply status 0 order
refused_to (requests.GetParameters word) order status = replies.GetParameters status no_params
refused_to (requests.ControlOption word option action kind value) order status = refused_control status kind value
refused_to _ order status = refusal status

abbrev pub done_to : Asked → Wire
done_to (requests.Close word) = replies.Close
done_to _ = replies.Cancel

-- the option's type as the descriptors tell it
abbrev pub kind_by_descriptors : Asked → List Descriptor → Kind → Kind
kind_by_descriptors (requests.ControlOption word option action kind value) descriptors _ =
    kind_of (slice_get descriptors option) kind
kind_by_descriptors _ descriptors kind = kind

-- and its value, as long as the session's string values are
abbrev pub sent_by_descriptors : Asked → Manner → Value → WireValue
sent_by_descriptors (requests.ControlOption word option action kind value) m v =
    sent_as m.strings (size_of (slice_get m.descriptors option)) v
sent_by_descriptors _ m v = sent_as m.strings 0 v

-- the type that a SET names is told again
abbrev pub KindIsEchoed : Asked → (Kind → Type 0) → Type 0
KindIsEchoed (requests.ControlOption word option action kind value) p = p kind
KindIsEchoed _ p = ⊥

-- the backend of the name that an OPEN has
abbrev pub OpensBackend : Asked → List ℕ → Type 0
OpensBackend (requests.Open name) backend = IsBackendOf name backend
OpensBackend _ backend = ⊥

-- **spells (`Spells`, `SpellsSaid`)**: the reply of the wire that is this answer of the model to the request that was
-- asked. It has the value with its type, the descriptors, the parameters, the port and the byte order, the least free
-- word, or the backend and the challenge; a refusal has its status. AUTHORIZE has one answer and two replies.
abbrev pub Spells : Manner → Asked → AbstractReply → Wire → Type 0
Spells m q Greeted r = r ≡ replies.Init code.Good own_version
Spells m q (Listed places) r = r ≡ replies.GetDevices code.Good m.infos
Spells m q Opened r = (word : ℕ) × (m.free ≡ Some word) × (r ≡ replies.Open code.Good word [])
Spells m q (Challenged challenge) r = (backend : List ℕ) × OpensBackend q backend
    × (r ≡ replies.Open code.Good 0 (resource_of backend challenge))
Spells m q (Described descriptors) r = r ≡ replies.GetOptionDescriptors descriptors
Spells m q (Got value) r =
    KindIsEchoed q (λ kind. r
    ≡ replies.ControlOption code.Good (record { 0 = 0 }) (kind_by_descriptors q m.descriptors kind)
    (sent_by_descriptors q m value) [])
Spells m q (Gave value info) r =
    KindIsEchoed q (λ kind. (bits : Bits) × (info ≡ abstract_info bits)
    × (r ≡ replies.ControlOption code.Good bits kind (sent_by_descriptors q m value) []))
Spells m q (Shaped params) r = r ≡ replies.GetParameters code.Good params
Spells m q (Begun order) r = r ≡ start_reply code.Good m.port order
Spells m q Acked r = r ≡ done_to q
Spells m q (Refused status) r = (name : Status) × (status ≡ name) × (r ≡ refused_to q m.order name)

-- AUTHORIZE is answered in one by the model, and by two replies on the wire; an ending is answered by none
abbrev pub SpellsSaid : Manner → Asked → List AbstractReply → RequestAnswer → Type 0
SpellsSaid m q told (One r) = (a : AbstractReply) × (told ≡ a ∷ []) × Spells m q a r
SpellsSaid m q told (Two front r) = (front ≡ replies.Authorize)
    × ((a : AbstractReply) × (told ≡ a ∷ []) × Spells m q a r)
SpellsSaid m q told (Last None) = told ≡ []
SpellsSaid m q told (Last (Some r)) = ⊥

abbrev pub order_by : Option (Lease DeviceState) → ByteOrder
order_by None = Little
order_by (Some lease) = lease.device.setup.order
