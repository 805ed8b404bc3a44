-- How each request moves leases.
use Rattle.std.proofs.Common.{◌≡◌, ℕ, List, Bool, true, false, Option, Some, None, Result, Ok, Err, refl, ap, ◌∙◌, sym, inl, inr, slice_get}
use Rattle.sane_fixed.specs.declared.status.Status.{Status}
use Rattle.sane_fixed.specs.declared.info.Info.{Info}
use Rattle.sane_fixed.specs.declared.kind.Kind.{Kind}
use Rattle.sane_fixed.specs.declared.no_mem.NoMem.{NoMem}
use Rattle.option_desc.specs.declared.value.Value.{Value}
use Rattle.device_api.specs.Options.{descriptors_of}
use Rattle.device_api.specs.State.{DeviceState, after_cancel, set_answer}
use Rattle.device_api.proofs.SameLaws.{set_same, cancel_same, start_same}
use Rattle.md5_auth.specs.declared.users.Entry.{Entry}
use Rattle.dispatch.specs.declared.table.place.Lease.{Lease}
use Rattle.dispatch.specs.Table.{take_answer, after_take, after_take_answer, find_name}
use Rattle.wire_message.specs.declared.message.ControlAction.{ControlAction}
use Rattle.wire_message.specs.declared.message.ControlAction.TheVariants.{GetValue, SetValue}
use Rattle.wire_message.specs.declared.message.WireValue.{WireValue}
use Rattle.wire_message.specs.declared.message.Request.{Request}
use Rattle.wire_message.specs.declared.message.Request.TheVariants as requests
use Rattle.wire_message.specs.declared.message.Reply.{Reply}
use Rattle.saned_requests.specs.declared.request_answer.RequestAnswer.{RequestAnswer}
use Rattle.saned_requests.specs.declared.session.AwaitedAuthorization.{AwaitedAuthorization}
use Rattle.saned_requests.specs.declared.session.DataPhase.{DataPhase}
use Rattle.saned_requests.specs.declared.session.DataPhase.TheVariants.{Quiet, Waiting, Streaming, Ending}
use Rattle.saned_requests.specs.declared.session.StringSize.{StringSize}
use Rattle.saned_requests.specs.Holding.{held_by, on_word, with_device, free_word, cancelled_lease}
use Rattle.saned_requests.specs.RequestAnswers.{RequestContext, take_device, take_into, reply_of_take, OpensAt, without_awaited, reply_if_allowed, close_lease, cancel_held, control_device, control_lease, control, did_set, set_asked, asked_at, StartsLease, AnswersFree, AnswersAwaiting, AnswersGreeted, AnswersBy, Answers, first_answer, OutOfMemoryFree, OutOfMemoryGreeted, OutOfMemoryBy, OutOfMemoryAt}
use Rattle.saned_requests.proofs.LeaseWords.{on_word-none}
use Rattle.saned_requests.proofs.Keeping.{Moves, at_word, free_own}
use Rattle.saned_requests.proofs.Keeping.Moves.{Still, Moved, Closed, Opened}

abbrev pub MovesContext : RequestContext → RequestContext → Type 0
MovesContext d new = Moves d.session.held d.registry new.session.held new.registry

-- the request context is one of which neither leases nor table are changed
still : (d e new : RequestContext) → new ≡ e → e.session.held ≡ d.session.held → e.registry ≡ d.registry → MovesContext d new
still d e new n h r = Still (ap (λ (x : RequestContext). x.session.held) n ∙ h) (ap (λ (x : RequestContext). x.registry) n ∙ r)

-- ---- OPEN and AUTHORIZE

took_moves : (d new : RequestContext) (w : ℕ) (name : List ℕ) (r : Result (Lease DeviceState) Status) → free_word d.session.held ≡ Some w → take_answer d.registry name ≡ r → new ≡ (reply_of_take d w r).1 → MovesContext d new
unfolding after_take
took_moves d new w name (Ok l) f a n = Opened w l name (free_own d.session.held w f) a (ap (λ (x : RequestContext). x.session.held) n) (ap (λ (x : RequestContext). x.registry) n ∙ sym (ap (after_take_answer d.registry) a))
took_moves d new w name (Err status) f a n = still d d new n refl refl

into_moves : (d new : RequestContext) (name : List ℕ) (o : Option ℕ) → free_word d.session.held ≡ o → new ≡ (take_into d name o).1 → MovesContext d new
into_moves d new name None f n = still d d new n refl refl
into_moves d new name (Some w) f n = took_moves d new w name (take_answer d.registry name) f refl n

take_moves : (d new : RequestContext) (name : List ℕ) → new ≡ (take_device d name).1 → MovesContext d new
take_moves d new name n = into_moves d new name (free_word d.session.held) refl n

opens_moves : (users : List Entry) (d new : RequestContext) (name : List ℕ) (said : RequestAnswer) (o p : Option ℕ) → OpensAt users d name o p said new → MovesContext d new
opens_moves users d new name said None p g = still d d new g.1 refl refl
opens_moves users d new name said (Some w) None g = still d d new g.1 refl refl
opens_moves users d new name said (Some w) (Some k) (inl asks) = Still (ap (λ (x : RequestContext). x.session.held) asks.new_is) (ap (λ (x : RequestContext). x.registry) asks.new_is)
opens_moves users d new name said (Some w) (Some k) (inr now) = take_moves d new name now.taken.1

answered_moves : (d new : RequestContext) (name : List ℕ) (b : Bool) → new ≡ (reply_if_allowed b (without_awaited d) name).1 → MovesContext d new
answered_moves d new name true n = take_moves (without_awaited d) new name n
answered_moves d new name false n = still d (without_awaited d) new n refl refl

-- ---- device words

close_moves : (d new : RequestContext) (w : ℕ) (h : Option (Lease DeviceState)) → held_by d.session.held w ≡ h → new ≡ close_lease d w h → MovesContext d new
close_moves d new w None e n = still d d new n refl refl
close_moves d new w (Some l) e n = Closed w l e (ap (λ (x : RequestContext). x.session.held) n) (ap (λ (x : RequestContext). x.registry) n)

cancel_moves : (d new : RequestContext) (w : ℕ) (h : Option (Lease DeviceState)) → held_by d.session.held w ≡ h → new ≡ cancel_held d w h → MovesContext d new
cancel_moves d new w None e n = still d d new n refl refl
cancel_moves d new w (Some l) e n =
    let written : on_word cancelled_lease d.session.held w ≡ on_word (λ _. with_device l (after_cancel l.device)) d.session.held w =
    at_word cancelled_lease d.session.held w ∙ ap (λ (x : Option (Lease DeviceState)). on_word (λ _. cancelled_lease x) d.session.held w) e in
    Moved w l (after_cancel l.device) e (cancel_same l.device).info (ap (λ (x : RequestContext). x.session.held) n ∙ written) (ap (λ (x : RequestContext). x.registry) n)

did_info : (strings : StringSize) (s : DeviceState) (n : ℕ) (kind : Kind) (value : WireValue) (r : Result (Value × Info) Status) → (did_set strings s n kind value r).1.info ≡ s.info
did_info strings s n kind value (Ok given) = (set_same s n given.0).info
did_info strings s n kind value (Err status) = refl

asked_info : (strings : StringSize) (s : DeviceState) (n : ℕ) (kind : Kind) (value : WireValue) (o : Option Value) → (set_asked strings s n kind value o).1.info ≡ s.info
asked_info strings s n kind value None = refl
asked_info strings s n kind value (Some asked) = did_info strings s n kind value (set_answer s n asked)

control_info : (strings : StringSize) (s : DeviceState) (n : ℕ) (action : ControlAction) (kind : Kind) (value : WireValue) → (control_device strings s n action kind value).1.info ≡ s.info
control_info strings s n GetValue kind value = refl
control_info strings s n SetValue kind value = asked_info strings s n kind value (asked_at (slice_get (descriptors_of s.setup) n) kind value)

control_moves : (d new : RequestContext) (w n : ℕ) (action : ControlAction) (kind : Kind) (value : WireValue) (h : Option (Lease DeviceState)) → held_by d.session.held w ≡ h → new ≡ (control d w n action kind value).1 → MovesContext d new
control_moves d new w n action kind value None e i =
    let written : on_word (λ _. (control_lease d.session.strings (held_by d.session.held w) n action kind value).1) d.session.held w ≡ d.session.held =
    ap (λ (x : Option (Lease DeviceState)). on_word (λ _. (control_lease d.session.strings x n action kind value).1) d.session.held w) e ∙ on_word-none d.session.held w e in
    Still (ap (λ (x : RequestContext). x.session.held) i ∙ written) (ap (λ (x : RequestContext). x.registry) i)
control_moves d new w n action kind value (Some l) e i =
    let written : on_word (λ _. (control_lease d.session.strings (held_by d.session.held w) n action kind value).1) d.session.held w ≡ on_word (λ _. with_device l (control_device d.session.strings l.device n action kind value).1) d.session.held w =
    ap (λ (x : Option (Lease DeviceState)). on_word (λ _. (control_lease d.session.strings x n action kind value).1) d.session.held w) e in
    Moved w l (control_device d.session.strings l.device n action kind value).1 e (control_info d.session.strings l.device n action kind value) (ap (λ (x : RequestContext). x.session.held) i ∙ written) (ap (λ (x : RequestContext). x.registry) i)

-- a word written with what it stood for
same_moves : (d new : RequestContext) (w : ℕ) (l : Lease DeviceState) (lease : Option (Lease DeviceState)) → held_by d.session.held w ≡ Some l → lease ≡ Some l → new.session.held ≡ on_word (λ _. lease) d.session.held w → new.registry ≡ d.registry → MovesContext d new
same_moves d new w l lease e s h r = Moved w l l.device e refl (h ∙ ap (λ (x : Option (Lease DeviceState)). on_word (λ _. x) d.session.held w) s) r

starts_moves : (d new : RequestContext) (c : DataPhase) (port w : ℕ) (told : Result (Reply × DataPhase) NoMem) (h lease : Option (Lease DeviceState)) → held_by d.session.held w ≡ h → StartsLease c port w h told lease → new.session.held ≡ on_word (λ _. lease) d.session.held w → new.registry ≡ d.registry → MovesContext d new
starts_moves d new c port w told None lease e s h r = Still (h ∙ (ap (λ (x : Option (Lease DeviceState)). on_word (λ _. x) d.session.held w) s.1 ∙ on_word-none d.session.held w e)) r
starts_moves d new Quiet port w told (Some l) lease e s h r = Moved w l s.after e (start_same l.device s.after s.answer s.starts).info (h ∙ ap (λ (x : Option (Lease DeviceState)). on_word (λ _. x) d.session.held w) s.new_is) r
starts_moves d new (Waiting v) port w told (Some l) lease e s h r = same_moves d new w l lease e s.1 h r
starts_moves d new (Streaming v) port w told (Some l) lease e s h r = same_moves d new w l lease e s.1 h r
starts_moves d new Ending port w told (Some l) lease e s h r = same_moves d new w l lease e s.1 h r

-- ---- all requests

free_moves : (users : List Entry) (d new : RequestContext) (q : Request) (said : RequestAnswer) → AnswersFree users d q said new → MovesContext d new
free_moves users d new (requests.Init version user) said g = Still (ap (λ (x : RequestContext). x.session.held) g.1) (ap (λ (x : RequestContext). x.registry) g.1)
free_moves users d new (requests.Open name) said g = opens_moves users d new name said (free_word d.session.held) (find_name name d.registry) g
free_moves users d new (requests.Close w) said g = close_moves d new w (held_by d.session.held w) refl g.1
free_moves users d new (requests.ControlOption w n action kind value) said g = control_moves d new w n action kind value (held_by d.session.held w) refl g.1
free_moves users d new (requests.Start w) said g =
    starts_moves d new d.session.transfer d.session.port w (Ok (g.reply, g.transfer)) (held_by d.session.held w) g.starts.lease refl g.starts.starts
    (ap (λ (x : RequestContext). x.session.held) (g.gives.1) ∙ ap (λ (x : RequestContext). x.session.held) g.starts.new_is) (ap (λ (x : RequestContext). x.registry) g.gives.1 ∙ ap (λ (x : RequestContext). x.registry) g.starts.new_is)
free_moves users d new (requests.Cancel w) said g = cancel_moves d new w (held_by d.session.held w) refl g.1
free_moves users d new q said g = still d d new g.1 refl refl

awaiting_moves : (users : List Entry) (d new : RequestContext) (awaited : AwaitedAuthorization) (q : Request) (said : RequestAnswer) → AnswersAwaiting users d awaited q said new → MovesContext d new
awaiting_moves users d new awaited (requests.Authorize resource user password) said g = answered_moves d new awaited.name g.allowed g.gives.1
awaiting_moves users d new awaited q said g = still d d new g.1 refl refl

first_moves : (d new : RequestContext) (q : Request) → new ≡ (first_answer d q).1 → MovesContext d new
first_moves d new (requests.Init version user) n = Still (ap (λ (x : RequestContext). x.session.held) n) (ap (λ (x : RequestContext). x.registry) n)
first_moves d new q n = still d d new n refl refl

greeted_moves : (users : List Entry) (d new : RequestContext) (o : Option AwaitedAuthorization) (q : Request) (said : RequestAnswer) → AnswersGreeted users d o q said new → MovesContext d new
greeted_moves users d new None q said g = free_moves users d new q said g
greeted_moves users d new (Some awaited) q said g = awaiting_moves users d new awaited q said g

by_moves : (users : List Entry) (d new : RequestContext) (b : Bool) (q : Request) (said : RequestAnswer) → AnswersBy b users d q said new → MovesContext d new
by_moves users d new false q said g = first_moves d new q g.1
by_moves users d new true q said g = greeted_moves users d new d.session.awaited q said g

pub answers_moves : (users : List Entry) (d new : RequestContext) (q : Request) (said : RequestAnswer) → Answers users d q said new → MovesContext d new
answers_moves users d new q said g = by_moves users d new d.session.greeted q said g

-- ---- out of memory

falters_free : (d new : RequestContext) (q : Request) → OutOfMemoryFree d q new → MovesContext d new
falters_free d new (requests.Init version user) g = absurd g
falters_free d new (requests.Open name) (inl g) = still d d new g refl refl
falters_free d new (requests.Open name) (inr g) = Still (ap (λ (x : RequestContext). x.session.held) g.3) (ap (λ (x : RequestContext). x.registry) g.3)
falters_free d new (requests.Close w) g = absurd g
falters_free d new (requests.ControlOption w n action kind value) (inl g) = still d d new g refl refl
falters_free d new (requests.ControlOption w n action kind value) (inr g) = control_moves d new w n action kind value (held_by d.session.held w) refl g
falters_free d new (requests.GetParameters w) g = absurd g
falters_free d new (requests.Start w) g =
    starts_moves d new d.session.transfer d.session.port w _ (held_by d.session.held w) g.lease refl g.starts (ap (λ (x : RequestContext). x.session.held) g.new_is) (ap (λ (x : RequestContext). x.registry) g.new_is)
falters_free d new (requests.Cancel w) g = absurd g
falters_free d new (requests.Authorize resource user password) g = absurd g
falters_free d new requests.Exit g = absurd g
falters_free d new q g = still d d new g refl refl

falters_greeted : (d new : RequestContext) (o : Option AwaitedAuthorization) (q : Request) → OutOfMemoryGreeted d o q new → MovesContext d new
falters_greeted d new None q g = falters_free d new q g
falters_greeted d new (Some awaited) q g = absurd g

falters_by : (d new : RequestContext) (b : Bool) (q : Request) → OutOfMemoryBy b d q new → MovesContext d new
falters_by d new false q g = absurd g
falters_by d new true q g = falters_greeted d new d.session.awaited q g

pub falters_moves : (d new : RequestContext) (q : Request) → OutOfMemoryAt d q new → MovesContext d new
falters_moves d new q g = falters_by d new d.session.greeted q g
