-- Each request that the session goes on behind is a call by the model, or a SET whose value is not of its option's type.
use Rattle.std.proofs.Common.{inl, inr, ◌⊎◌, ◌≡◌, ◌≢◌, ◌∙◌, ℕ, List, [], ◌∷◌, Bool, true, false, Option, Some, None, refl, sym, ap, subst, eqb-true, cond, length, slice_get}
use Rattle.std.specs.Prelude.{◌/◌, ◌==◌, if◌then◌else◌}
use Rattle.sane_fixed.specs.declared.kind.Kind.{Kind}
use Rattle.sane_fixed.specs.declared.status.Status.TheVariants as code
use Rattle.option_desc.specs.declared.descriptor.Descriptor.{Descriptor}
use Rattle.option_desc.specs.declared.value.Value.{Value}
use Rattle.option_desc.specs.declared.value.Value.TheVariants.{Flag}
use Rattle.md5_auth.specs.declared.users.Entry.{Entry}
use Rattle.md5_auth.specs.Allowed.{NamesBackend}
use Rattle.device_api.specs.Options.{descriptors_of as table_options}
use Rattle.device_api.specs.State.{DeviceState}
use Rattle.dispatch.specs.declared.table.place.Place.{Place}
use Rattle.dispatch.specs.declared.table.place.Lease.{Lease}
use Rattle.dispatch.specs.Table.{Table, find_name}
use Rattle.wire_message.specs.declared.message.ControlAction.TheVariants.{GetValue, SetValue}
use Rattle.wire_message.specs.declared.message.Request.{Request as Asked}
use Rattle.wire_message.specs.declared.message.Request.TheVariants as requests
use Rattle.wire_message.specs.declared.message.Reply.TheVariants as replies
use Rattle.wire_message.specs.declared.message.WireValue.{WireValue}
use Rattle.saned_requests.specs.declared.session.AwaitedAuthorization.{AwaitedAuthorization}
use Rattle.saned_requests.specs.declared.request_answer.RequestAnswer.{RequestAnswer}
use Rattle.saned_requests.specs.declared.request_answer.RequestAnswer.TheVariants.{One, Last}
use Rattle.saned_requests.specs.Holding.{free_word, held_by}
use Rattle.saned_requests.specs.RequestAnswers.{AnswersAwaiting, AnswersFree, AnswersGreeted, RequestContext, IsContextOutcome, MayOpen, OpensAt, greeting, session_ended, own_version}
use Rattle.saned_requests.specs.OptionValues.{value_asked}
use Rattle.saned_core.specs.Feeding.{session_goes_on}
use Rattle.system_model.specs.AbstractMessages.{Authorize, Cancel, Challenge, Close, Describe, Get, GetDevices, Init, Open, Parameters, AbstractRequest, Set, Start, same_text}
use Rattle.system_model.specs.Devices.{Make}
use Rattle.system_model.specs.AbstractDevices.{AbstractDevice}
use Rattle.system_model.specs.Daemon.{Environment}
use Rattle.system_model.specs.AbstractSessions.{AddressedRequest, AbstractSession}
use Rattle.daemon_refines.specs.ContextRefinement.{IsAwaited, NamesPlace, ContextRefines, PlaceRefines}
use Rattle.daemon_refines.specs.DeviceWords.{AsksFor, AsksNone, AsksOf}
use Rattle.daemon_refines.specs.WholeSessions.{IsGuarded, IsJudged}
use Rattle.daemon_refines.specs.ModelRequests.{IsCallBy}
use Rattle.daemon_refines.proofs.Backends.{one_backend}
use Rattle.daemon_refines.proofs.Moved.{own}

-- surroundings that say this of users, and nothing by chance
abbrev pub around : Bool → Bool → ℕ → Environment
around guarded allows place = record { fault = None; challenge = []; listed = []; guarded = guarded; allows = λ c. allows; again = false }

abbrev call_of : AbstractRequest → ℕ → ℕ → AddressedRequest
call_of request word place = record { request = request; word = word; place = place }

-- a request is a call, or a SET of another type
abbrev pub Another : RequestContext → Asked → Type 0
Another d q = (word : ℕ) × (n : ℕ) × (kind : Kind) × (value : WireValue) × (q ≡ requests.ControlOption word n SetValue kind value) × AsksNone (held_by d.session.held word) n kind value

abbrev pub CallFor : List Entry → RequestContext → (ℕ → AbstractDevice) → Option AwaitedAuthorization → Option (Challenge × ℕ) → Asked → Type 0
CallFor users d table a sent q = ((call : AddressedRequest) × (x : ℕ → Environment) × IsCallBy users d table a sent q call x) ⊎ Another d q

-- ---- an end is none of them

ended : (d new : RequestContext) (said : RequestAnswer) → IsContextOutcome (session_ended d) said new → session_goes_on said ≡ true → ⊥
ended d new said g on = let clash : false ≡ true = sym (ap session_goes_on g.0) ∙ on in absurd (cc)

-- ---- INIT

own_major : (n : ℕ) (b : Bool) → (n == 1) ≡ b → session_goes_on (if n == 1 then One (replies.Init code.Good own_version) else Last (Some (replies.Init code.Inval own_version))) ≡ true → n ≡ 1
own_major n true e on = eqb-true n 1 e
own_major n false e on =
    let clash : false ≡ true = sym (ap (λ (b : Bool). session_goes_on (if b then One (replies.Init code.Good own_version) else Last (Some (replies.Init code.Inval own_version)))) e) ∙ on in
    absurd (cc)

pub greets : (version : ℕ) (said : RequestAnswer) → said ≡ greeting version → session_goes_on said ≡ true → version / 16777216 ≡ 1
greets version said e on = own_major (version / 16777216) (version / 16777216 == 1) refl (sym (ap session_goes_on e) ∙ on)

-- ---- OPEN

past_end : (t : Table) → slice_get t (length t) ≡ None
past_end [] = refl
past_end (p ∷ t) = past_end t

-- a name that nobody has is of the place behind the last
named : (i : ℕ) (make : ℕ → Make) (d : RequestContext) (table : ℕ → AbstractDevice) (s : AbstractSession) (found : Option ℕ) → ContextRefines i make d table s → (k : ℕ) × NamesPlace found table k
named i make d table s (Some k) old = (k, refl)
named i make d table s None old =
    let last = length d.registry in
    (last, (subst (λ (o : Option (Place DeviceState)). PlaceRefines i (make last) d.session.held last (table last) o) (past_end d.registry) (old.devices.places last)).0)

guard_of : (users : List Entry) (d : RequestContext) (name : List ℕ) (free found : Option ℕ) (said : RequestAnswer) (new : RequestContext) → OpensAt users d name free found said new → (guarded : Bool) × (free ≢ None → found ≢ None → IsGuarded users name guarded)
guard_of users d name None found said new g = (false, λ n m. absurd (n refl))
guard_of users d name (Some w) None said new g = (false, λ n m. absurd (m refl))
guard_of users d name (Some w) (Some k) said new (inl asks) =
    (true, λ n m. λ backend is. subst (λ (b : List ℕ). NamesBackend users b) (one_backend name asks.backend backend asks.backend_is is) asks.named)
guard_of users d name (Some w) (Some k) said new (inr now) =
    (false, λ n m. λ backend is names. now.unnamed (subst (λ (b : List ℕ). NamesBackend users b) (one_backend name backend now.backend is now.backend_is) names))

-- ---- SET

asked_of : (o : Option Value) (desc : Descriptor) (kind : Kind) (value : WireValue) → value_asked desc kind value ≡ o → ((v : Value) × (value_asked desc kind value ≡ Some v)) ⊎ (value_asked desc kind value ≡ None)
asked_of (Some v) desc kind value e = inl (v, e)
asked_of None desc kind value e = inr e

asks_desc : (l : Lease DeviceState) (n : ℕ) (kind : Kind) (value : WireValue) (o : Option Descriptor) → slice_get (table_options l.device.setup) n ≡ o →
    ((v : Value) × AsksOf o kind value v) ⊎ ((desc : Descriptor) × (slice_get (table_options l.device.setup) n ≡ Some desc) × (value_asked desc kind value ≡ None))
asks_desc l n kind value None e = inl (Flag false, refl)
asks_desc l n kind value (Some desc) e = by_value (asked_of (value_asked desc kind value) desc kind value refl)
  where
    by_value : ((v : Value) × (value_asked desc kind value ≡ Some v)) ⊎ (value_asked desc kind value ≡ None) →
        ((v : Value) × AsksOf (Some desc) kind value v) ⊎ ((other : Descriptor) × (slice_get (table_options l.device.setup) n ≡ Some other) × (value_asked other kind value ≡ None))
    by_value (inl v) = inl v
    by_value (inr none) = inr (desc, e, none)

asks : (h : Option (Lease DeviceState)) (n : ℕ) (kind : Kind) (value : WireValue) → ((v : Value) × AsksFor h n kind value v) ⊎ AsksNone h n kind value
asks None n kind value = inl (Flag false, tt)
asks (Some l) n kind value = asks_desc l n kind value (slice_get (table_options l.device.setup) n) refl

set_call : (users : List Entry) (d : RequestContext) (table : ℕ → AbstractDevice) (w n : ℕ) (kind : Kind) (value : WireValue) → ((v : Value) × AsksFor (held_by d.session.held w) n kind value v) ⊎ AsksNone (held_by d.session.held w) n kind value →
    CallFor users d table None None (requests.ControlOption w n SetValue kind value)
set_call users d table w n kind value (inl v) = inl (call_of (Set n v.0) w 0, around false false, (v.0, v.1, (refl, refl)))
set_call users d table w n kind value (inr none) = inr (w, n, kind, value, refl, none)

-- ---- a session that awaits nothing

free_call_of : (i : ℕ) (make : ℕ → Make) (users : List Entry) (d : RequestContext) (table : ℕ → AbstractDevice) (s : AbstractSession) (q : Asked) (said : RequestAnswer) (new : RequestContext) → ContextRefines i make d table s → AnswersFree users d q said new → session_goes_on said ≡ true → CallFor users d table None None q
free_call_of i make users d table s (requests.Init version user) said new old g on = inl (call_of Init 0 0, around false false, (refl, greets version said g.0 on))
free_call_of i make users d table s requests.GetDevices said new old g on = inl (call_of GetDevices 0 0, around false false, refl)
free_call_of i make users d table s (requests.Open name) said new old g on =
    let place = named i make d table s (find_name name d.registry) old in
    let guard = guard_of users d name (free_word d.session.held) (find_name name d.registry) said new g in
    inl (call_of Open 0 place.0, around guard.0 false, (refl, place.1, guard.1))
free_call_of i make users d table s (requests.Close w) said new old g on = inl (call_of Close w 0, around false false, (refl, refl))
free_call_of i make users d table s (requests.GetOptionDescriptors w) said new old g on = inl (call_of Describe w 0, around false false, (refl, refl))
free_call_of i make users d table s (requests.ControlOption w n GetValue kind value) said new old g on = inl (call_of (Get n) w 0, around false false, (refl, refl))
free_call_of i make users d table s (requests.ControlOption w n SetValue kind value) said new old g on = set_call users d table w n kind value (asks (held_by d.session.held w) n kind value)
free_call_of i make users d table s (requests.GetParameters w) said new old g on = inl (call_of Parameters w 0, around false false, (refl, refl))
free_call_of i make users d table s (requests.Start w) said new old g on = inl (call_of Start w 0, around false false, (refl, refl))
free_call_of i make users d table s (requests.Cancel w) said new old g on = inl (call_of Cancel w 0, around false false, (refl, refl))
free_call_of i make users d table s q said new old g on = absurd (ended d new said g on)

-- ---- a session that awaits AUTHORIZE

same_self : (text : List ℕ) → same_text text text ≡ true
same_self [] = refl
same_self (x ∷ text) = ap (λ (b : Bool). cond b (same_text text text) false) (own x) ∙ same_self text

is_judged : (may : Type 0) (sent : Challenge) (allowed : Bool) → (allowed ≡ true → may) → (allowed ≡ false → ¬ may) → IsJudged may (same_text sent sent) allowed
is_judged may sent true yea nay = record { yes_where = λ m. (same_self sent, refl); no_where = λ n. absurd (n (yea refl)) }
is_judged may sent false yea nay = record { yes_where = λ m. absurd (nay refl m); no_where = λ n. inr refl }

awaited_call_of : (users : List Entry) (d : RequestContext) (table : ℕ → AbstractDevice) (aw : AwaitedAuthorization) (sent : Challenge) (place : ℕ) (q : Asked) (said : RequestAnswer) (new : RequestContext) → AnswersAwaiting users d aw q said new → session_goes_on said ≡ true → CallFor users d table (Some aw) (Some (sent, place)) q
awaited_call_of users d table aw sent place (requests.Authorize resource user password) said new g on =
    inl (call_of (Authorize sent) 0 0, around false g.allowed, (sent, refl, is_judged (MayOpen users aw resource user password) sent g.allowed g.yes_where g.no_where))
awaited_call_of users d table aw sent place q said new g on = absurd (ended d new said g on)

-- by what is awaited
free_sent : (users : List Entry) (d : RequestContext) (table : ℕ → AbstractDevice) (sent : Option (Challenge × ℕ)) (q : Asked) → CallFor users d table None None q → CallFor users d table None sent q
free_sent users d table sent q (inl call) = inl call
free_sent users d table sent q (inr another) = inr another

pub call_for : (i : ℕ) (make : ℕ → Make) (users : List Entry) (d : RequestContext) (table : ℕ → AbstractDevice) (s : AbstractSession) (a : Option AwaitedAuthorization) (sent : Option (Challenge × ℕ)) (q : Asked) (said : RequestAnswer) (new : RequestContext) → ContextRefines i make d table s → IsAwaited d.session.held d.registry table a sent →
    AnswersGreeted users d a q said new → session_goes_on said ≡ true → CallFor users d table a sent q
call_for i make users d table s None sent q said new old awaits g on = free_sent users d table sent q (free_call_of i make users d table s q said new old g on)
call_for i make users d table s (Some aw) None q said new old awaits g on = absurd awaits
call_for i make users d table s (Some aw) (Some sent) q said new old awaits g on = awaited_call_of users d table aw sent.0 sent.1 q said new g on
