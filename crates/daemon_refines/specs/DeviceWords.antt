-- Requests to a device word, by the daemon and by the model.
use Rattle.std.specs.Prelude.{ℕ, ◌≡◌, Option, Some, None, slice_get, false}
use Rattle.sane_fixed.specs.declared.kind.Kind.{Kind}
use Rattle.sane_fixed.specs.declared.status.Status.TheVariants as code
use Rattle.option_desc.specs.declared.descriptor.Descriptor.{Descriptor}
use Rattle.option_desc.specs.declared.value.Value.{Value}
use Rattle.option_desc.specs.declared.value.Value.TheVariants.{Flag}
use Rattle.device_api.specs.Options.{descriptors_of}
use Rattle.device_api.specs.State.{DeviceState}
use Rattle.dispatch.specs.declared.table.place.Lease.{Lease}
use Rattle.wire_message.specs.declared.message.ControlAction.TheVariants.{GetValue, SetValue}
use Rattle.wire_message.specs.declared.message.Request.{Request as Asked}
use Rattle.wire_message.specs.declared.message.Request.TheVariants as requests
use Rattle.wire_message.specs.declared.message.WireValue.{WireValue}
use Rattle.saned_requests.specs.declared.request_answer.RequestAnswer.{RequestAnswer}
use Rattle.saned_requests.specs.declared.request_answer.RequestAnswer.TheVariants.{One}
use Rattle.saned_requests.specs.Holding.{held_by}
use Rattle.saned_requests.specs.RequestAnswers.{AnswersStart, RequestContext, ContextOutcome, cancel, close, control}
use Rattle.saned_requests.specs.RequestAnswers.{options_reply, params_reply, refused_control}
use Rattle.saned_requests.specs.OptionValues.{value_asked}
use Rattle.system_model.specs.AbstractMessages.{Cancel, Close, Describe, Get, Parameters, AbstractRequest, Set, Start}
use Rattle.system_model.specs.Transitions.{MayFail}
use Rattle.system_model.specs.Devices.{Make}
use Rattle.system_model.specs.AbstractDevices.{AbstractDevice}
use Rattle.system_model.specs.Daemon.{Environment, FailureCounts}
use Rattle.system_model.specs.AbstractSessions.{AbstractSession, answer_call}
use Rattle.daemon_refines.specs.ContextRefinement.{ContextRefines}
use Rattle.daemon_refines.specs.Agreeing.{Agrees, AgreesOn, manner}
use Rattle.daemon_refines.specs.Failures.{IsCounted}

-- a request for a device word, and how the daemon answers it
abbrev pub WordAgrees : (ℕ → Asked) → AbstractRequest → (RequestContext → ℕ → ContextOutcome) → Type 0
WordAgrees asked request answers =
    (i : ℕ) (make : ℕ → Make) (d : RequestContext) (table : ℕ → AbstractDevice) (s : AbstractSession)
    (x : ℕ → Environment) (word place : ℕ) →
    ContextRefines i make d table s → d.session.awaited ≡ None →
    AgreesOn i make d word (asked word)
    (answer_call i make table s x None (record { request = request; word = word; place = place })) (answers d word)

abbrev pub OptionsAgree : Type 0
OptionsAgree = WordAgrees requests.GetOptionDescriptors Describe options_reply

abbrev pub CancelAgrees : Type 0
CancelAgrees = WordAgrees requests.Cancel Cancel cancel

abbrev pub CloseAgrees : Type 0
CloseAgrees = WordAgrees requests.Close Close close

abbrev pub ParametersAgree : Type 0
ParametersAgree = WordAgrees requests.GetParameters Parameters params_reply

abbrev pub GetAgrees : Type 0
GetAgrees = (n : ℕ) (kind : Kind) (value : WireValue)
    → WordAgrees (λ w. requests.ControlOption w n GetValue kind value) (Get n) (λ d w.
    control d w n GetValue kind value)

-- the value that a SET asks for, where it is one of its option's type; of an option that is not there it is any value
abbrev pub AsksOf : Option Descriptor → Kind → WireValue → Value → Type 0
AsksOf None kind value v = v ≡ Flag false
AsksOf (Some desc) kind value v = value_asked desc kind value ≡ Some v

-- **asks for a value (`AsksFor`, `AsksNone`)**: the value that a SET asks for; and that it asks for none, since what it
-- has is not of its option's type.
abbrev pub AsksFor : Option (Lease DeviceState) → ℕ → Kind → WireValue → Value → Type 0
AsksFor None n kind value v = Unit {0}
AsksFor (Some l) n kind value v = AsksOf (slice_get (descriptors_of l.device.setup) n) kind value v

abbrev pub SetAgrees : Type 0
SetAgrees =
    (i : ℕ) (make : ℕ → Make) (d : RequestContext) (table : ℕ → AbstractDevice) (s : AbstractSession)
    (x : ℕ → Environment) (word place n : ℕ) (kind : Kind) (value : WireValue) (v : Value) →
    ContextRefines i make d table s → d.session.awaited ≡ None → AsksFor (held_by d.session.held word) n kind value v →
    AgreesOn i make d word (requests.ControlOption word n SetValue kind value)
    (answer_call i make table s x None (record { request = Set n v; word = word; place = place }))
    (control d word n SetValue kind value)

-- a value that is not of its option's type: the model has no such value
abbrev pub AsksNone : Option (Lease DeviceState) → ℕ → Kind → WireValue → Type 0
AsksNone None n kind value = ⊥
AsksNone (Some l) n kind value = (desc : Descriptor) × (slice_get (descriptors_of l.device.setup) n ≡ Some desc)
    × (value_asked desc kind value ≡ None)

-- it is refused before any device is asked
abbrev pub SetRefuses : Type 0
SetRefuses =
    (d : RequestContext) (word n : ℕ) (kind : Kind) (value : WireValue)
    → AsksNone (held_by d.session.held word) n kind value →
    control d word n SetValue kind value ≡ (One (refused_control code.Inval kind value), d)

-- a source fails only of a device that the session holds, and there only where one can
abbrev pub MayFailAt : (ℕ → Make) → Option ℕ → Option FailureCounts → Type 0
MayFailAt make None fault = fault ≡ None
MayFailAt make (Some k) fault = MayFail (make k) fault

-- START: whatever the device answers, the model answers with the failure that the page's source counted, or none
abbrev pub StartAgrees : Type 0
StartAgrees =
    (i : ℕ) (make : ℕ → Make) (d : RequestContext) (table : ℕ → AbstractDevice) (s : AbstractSession) (word place : ℕ)
    (said : RequestAnswer) (new : RequestContext) →
    ContextRefines i make d table s → d.session.awaited ≡ None → AnswersStart d word said new →
    (fault : Option FailureCounts) × MayFailAt make (s.words word) fault
    × IsCounted d.session.held new.session.held word fault × ((x : ℕ → Environment) → (x place).fault ≡ fault →
    Agrees i make (manner d word) (requests.Start word)
    (answer_call i make table s x None (record { request = Start; word = word; place = place })) said new)
