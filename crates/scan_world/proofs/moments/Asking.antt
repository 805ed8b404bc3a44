-- One request leaves the page of a device that is not at rest behind it; and but for a START that was not at rest before.
use Rattle.std.specs.Prelude.{Result, Ok, Err}
use Rattle.std.proofs.Common.{◌≡◌, ◌∙◌, ◌⊎◌, ℕ, List, [], ◌∷◌, Bool, true, false, Option, Some, None, inl, inr, refl, sym, ap, subst}
use Rattle.md5_auth.specs.declared.users.Entry.{Entry}
use Rattle.option_desc.specs.declared.value.Value.{Value}
use Rattle.sane_fixed.specs.declared.kind.Kind.{Kind}
use Rattle.sane_fixed.specs.declared.info.Info.{Info}
use Rattle.sane_fixed.specs.declared.status.Status.{Status}
use Rattle.sane_fixed.specs.declared.status.Status.TheVariants as codes
use Rattle.wire_message.specs.declared.message.ControlAction.{ControlAction}
use Rattle.wire_message.specs.declared.message.ControlAction.TheVariants.{GetValue, SetValue}
use Rattle.wire_message.specs.declared.message.Request.{Request}
use Rattle.wire_message.specs.declared.message.Request.TheVariants as requests
use Rattle.wire_message.specs.declared.message.WireValue.{WireValue}
use Rattle.device_api.specs.State.{DeviceState, HeldPage, Phase, StartsFrame, StartsIn, StartsOn, after_reset, is_at_rest, page_of, set_answer, stopped_in}
use Rattle.device_api.specs.State.Phase.{AtRest, Between, Reading}
use Rattle.dispatch.specs.declared.table.place.Lease.{Lease}
use Rattle.dispatch.specs.Table.{Table, find_name, held_at, take_answer, take_at, take_of}
use Rattle.saned_requests.specs.declared.request_answer.RequestAnswer.{RequestAnswer}
use Rattle.saned_requests.specs.declared.session.AwaitedAuthorization.{AwaitedAuthorization}
use Rattle.saned_requests.specs.declared.session.DataPhase.{DataPhase}
use Rattle.saned_requests.specs.declared.session.DataPhase.TheVariants as streams
use Rattle.saned_requests.specs.declared.session.Session.{Session}
use Rattle.saned_requests.specs.declared.session.StringSize.{StringSize}
use Rattle.saned_requests.specs.Holding.{cancelled_lease, free_word, held_by, on_word, with_device}
use Rattle.saned_requests.specs.RequestAnswers.{Answers, AnswersAwaiting, AnswersBy, AnswersFree, AnswersGreeted, OpensAt, RequestContext, StartsInDataPhase, StartsLease, StartsWord, asked_at, cancel_held, close_lease, control_device, control_lease, did_set, first_answer, reply_if_allowed, reply_of_take, set_asked, take_device, take_into, without_awaited}
use Rattle.scan_world.proofs.moments.Entries.{unsome}
use Rattle.scan_world.proofs.moments.Paging.{cancelled_not, word_of}

-- what it has then, not at rest, it had by that word, of that name and with that first page
abbrev pub OneStays : Type 0 → Session DeviceState → Session DeviceState → Type 0
OneStays F s t = (word : ℕ) (new : Lease DeviceState) → held_by t.held word ≡ Some new → is_at_rest new.device.phase ≡ false → (old : Lease DeviceState) × (held_by s.held word ≡ Some old) × (new.device.info.name ≡ old.device.info.name) × (page_of new.device ≡ page_of old.device) × (F ⊎ (is_at_rest old.device.phase ≡ false))

pub held_one : (F : Type 0) (s t : Session DeviceState) → t.held ≡ s.held → OneStays F s t
held_one F s t e word new at busy = (new, ap (λ (h : List (Option (Lease DeviceState))). held_by h word) (sym e) ∙ at, refl, refl, inr busy)

abbrev Had : Type 0 → Option (Lease DeviceState) → Lease DeviceState → Type 0
Had F o new = (old : Lease DeviceState) × (o ≡ Some old) × (new.device.info.name ≡ old.device.info.name) × (page_of new.device ≡ page_of old.device) × (F ⊎ (is_at_rest old.device.phase ≡ false))

on_stays : (F : Type 0) (f : Option (Lease DeviceState) → Option (Lease DeviceState)) (s t : Session DeviceState) (word : ℕ) → t.held ≡ on_word f s.held word → ((new : Lease DeviceState) → f (held_by s.held word) ≡ Some new → is_at_rest new.device.phase ≡ false → Had F (held_by s.held word) new) → OneStays F s t
on_stays F f s t word e here v new at busy =
    let now = ap (λ (h : List (Option (Lease DeviceState))). held_by h v) (sym e) ∙ at in
    elim (word_of f s.held word v) [
      | inl same ↦ (new, sym same ∙ now, refl, refl, inr busy)
      | inr on ↦
          let h = here new (ap (λ (n : ℕ). f (held_by s.held n)) (sym on.0) ∙ (sym on.1 ∙ now)) busy in
          (h.0, ap (held_by s.held) on.0 ∙ h.1, h.2, h.3, h.4)
    ]

by_context : (F : Type 0) (s : Session DeviceState) (new d : RequestContext) → new ≡ d → OneStays F s d.session → OneStays F s new.session
by_context F s new d e h = subst (λ (x : RequestContext). OneStays F s x.session) (sym e) h

-- ---- a device of a word

-- a start: bytes of the page that is first are read then
stop_rests : (s : DeviceState) (phase : Phase) → is_at_rest (stopped_in phase s).phase ≡ true
stop_rests s (AtRest c) = refl
stop_rests s (Between ended) = refl
stop_rests s (Reading pass given) = refl

rests_not : {A : Type 0} (new s : DeviceState) (phase : Phase) → new ≡ stopped_in phase s → is_at_rest new.phase ≡ false → A
rests_not new s phase e busy = absurd (let clash : true ≡ false = sym (ap (λ (d : DeviceState). is_at_rest d.phase) e ∙ stop_rests s phase) ∙ busy in cc)

abbrev Same : DeviceState → DeviceState → Type 0
Same old new = (new.info.name ≡ old.info.name) × (page_of new ≡ page_of old)

starts_frame : (old : DeviceState) (answer : Result Unit Status) (new : DeviceState) → StartsFrame old answer new → is_at_rest new.phase ≡ false → Same old new
starts_frame old (Ok u) new h busy = (ap (λ (d : DeviceState). d.info.name) h.1, ap page_of h.1)
starts_frame old (Err codes.Inval) new h busy = rests_not new old old.phase h.1 busy
starts_frame old (Err codes.IoError) new h busy = rests_not new _ old.phase h.1.after busy
starts_frame old (Err codes.NoMem) new h busy = rests_not new old old.phase h.1 busy
starts_frame old (Err status) new h busy = absurd h

starts_on : (pages : List HeldPage) (old : DeviceState) (answer : Result Unit Status) (new : DeviceState) → StartsOn pages old answer new → is_at_rest new.phase ≡ false → Same old new
starts_on [] old answer new h busy = rests_not new old old.phase h.1 busy
starts_on (p ∷ pages) old answer new h busy = starts_frame old answer new h busy

starts_in : (phase : Phase) (old : DeviceState) (answer : Result Unit Status) (new : DeviceState) → StartsIn phase old answer new → is_at_rest new.phase ≡ false → Same old new
starts_in (AtRest c) old answer new h busy = starts_on old.pages old answer new h busy
starts_in (Between ended) old answer new h busy = starts_on old.pages old answer new h busy
starts_in (Reading pass given) old answer new h busy = (ap (λ (d : DeviceState). d.info.name) h.1, ap page_of h.1)

same_lease : (F : Type 0) (lease : Lease DeviceState) (after : DeviceState) (new : Lease DeviceState) → with_device lease after ≡ Some new → (is_at_rest after.phase ≡ false → Same lease.device after × (F ⊎ (is_at_rest lease.device.phase ≡ false))) → is_at_rest new.device.phase ≡ false → Had F (Some lease) new
same_lease F lease after new e same busy =
    let one : after ≡ new.device = ap (λ (l : Lease DeviceState). l.device) (unsome (record lease { device = after }) new e) in
    let s = same (ap (λ (d : DeviceState). is_at_rest d.phase) one ∙ busy) in
    (lease, refl, ap (λ (d : DeviceState). d.info.name) (sym one) ∙ s.0.0, ap page_of (sym one) ∙ s.0.1, s.1)

start_phase : (F : Type 0) → F → (c : DataPhase) (port word : ℕ) (lease : Lease DeviceState) (told : _) (o : Option (Lease DeviceState)) → StartsInDataPhase c port word lease told o → (new : Lease DeviceState) → o ≡ Some new → is_at_rest new.device.phase ≡ false → Had F (Some lease) new
start_phase F f streams.Quiet port word lease told o h new e busy = same_lease F lease h.after new (sym h.new_is ∙ e) (λ moves. (starts_in lease.device.phase lease.device h.answer h.after h.starts moves, inl f)) busy
start_phase F f (streams.Waiting w) port word lease told o h new e busy = (new, sym h.1 ∙ e, refl, refl, inl f)
start_phase F f (streams.Streaming w) port word lease told o h new e busy = (new, sym h.1 ∙ e, refl, refl, inl f)
start_phase F f streams.Ending port word lease told o h new e busy = (new, sym h.1 ∙ e, refl, refl, inl f)

start_lease : (F : Type 0) → F → (c : DataPhase) (port word : ℕ) (was : Option (Lease DeviceState)) (told : _) (o : Option (Lease DeviceState)) → StartsLease c port word was told o → (new : Lease DeviceState) → o ≡ Some new → is_at_rest new.device.phase ≡ false → Had F was new
start_lease F f c port word None told o h new e busy = absurd (let clash : None ≡ Some new = sym h.1 ∙ e in cc)
start_lease F f c port word (Some lease) told o h new e busy = start_phase F f c port word lease told o h new e busy

-- a SET changes options alone
abbrev SameScan : DeviceState → DeviceState → Type 0
SameScan old new = Same old new × (new.phase ≡ old.phase)

did_same : (strings : StringSize) (s : DeviceState) (n : ℕ) (kind : Kind) (value : WireValue) (r : Result (Value × Info) Status) → SameScan s (did_set strings s n kind value r).1
did_same strings s n kind value (Ok given) = ((refl, refl), refl)
did_same strings s n kind value (Err status) = ((refl, refl), refl)

asked_same : (strings : StringSize) (s : DeviceState) (n : ℕ) (kind : Kind) (value : WireValue) (o : Option Value) → SameScan s (set_asked strings s n kind value o).1
asked_same strings s n kind value None = ((refl, refl), refl)
asked_same strings s n kind value (Some asked) = did_same strings s n kind value (set_answer s n asked)

control_same : (strings : StringSize) (s : DeviceState) (n : ℕ) (action : ControlAction) (kind : Kind) (value : WireValue) → SameScan s (control_device strings s n action kind value).1
control_same strings s n GetValue kind value = ((refl, refl), refl)
control_same strings s n SetValue kind value = asked_same strings s n kind value (asked_at _ kind value)

control_had : (F : Type 0) (strings : StringSize) (was : Option (Lease DeviceState)) (n : ℕ) (action : ControlAction) (kind : Kind) (value : WireValue) (new : Lease DeviceState) → (control_lease strings was n action kind value).1 ≡ Some new → is_at_rest new.device.phase ≡ false → Had F was new
control_had F strings None n action kind value new e busy = absurd (let clash : None ≡ Some new = e in cc)
control_had F strings (Some lease) n action kind value new e busy =
    let s = control_same strings lease.device n action kind value in
    same_lease F lease (control_device strings lease.device n action kind value).1 new e (λ moves. (s.0, inr (ap is_at_rest (sym s.1) ∙ moves))) busy

-- ---- each request

take_of_rests : (k : ℕ) (o : Option DeviceState) (lease : Lease DeviceState) → take_of k o ≡ Ok lease → is_at_rest lease.device.phase ≡ true
take_of_rests k None lease e = absurd (let clash : Err codes.DeviceBusy ≡ Ok lease = e in cc)
take_of_rests k (Some s) lease e = let one : record { device = after_reset s; place = k } ≡ lease = (let both : Ok (record { device = after_reset s; place = k }) ≡ Ok lease = e in cc) in ap (λ (l : Lease DeviceState). is_at_rest l.device.phase) (sym one)

take_at_rests : (t : Table) (o : Option ℕ) (lease : Lease DeviceState) → take_at t o ≡ Ok lease → is_at_rest lease.device.phase ≡ true
take_at_rests t None lease e = absurd (let clash : Err codes.Inval ≡ Ok lease = e in cc)
take_at_rests t (Some k) lease e = take_of_rests k (held_at t k) lease e

take_rests : (t : Table) (name : List ℕ) (lease : Lease DeviceState) → take_answer t name ≡ Ok lease → is_at_rest lease.device.phase ≡ true
unfolding take_answer
take_rests t name lease e = take_at_rests t (find_name name t) lease e

taken_stays : (F : Type 0) (d : RequestContext) (word : ℕ) (r : Result (Lease DeviceState) Status) → ((lease : Lease DeviceState) → r ≡ Ok lease → is_at_rest lease.device.phase ≡ true) → OneStays F d.session (reply_of_take d word r).1.session
taken_stays F d word (Ok lease) rests = on_stays F (λ _. Some lease) d.session (reply_of_take d word (Ok lease)).1.session word refl (λ new e busy. absurd (let clash : true ≡ false = sym (rests lease refl) ∙ (ap (λ (l : Lease DeviceState). is_at_rest l.device.phase) (unsome lease new e) ∙ busy) in cc))
taken_stays F d word (Err status) rests = held_one F d.session d.session refl

into_stays : (F : Type 0) (d : RequestContext) (name : List ℕ) (o : Option ℕ) → OneStays F d.session (take_into d name o).1.session
into_stays F d name None = held_one F d.session d.session refl
into_stays F d name (Some word) = taken_stays F d word (take_answer d.registry name) (λ lease e. take_rests d.registry name lease e)

opens_stays : (F : Type 0) (users : List Entry) (d : RequestContext) (name : List ℕ) (free place : Option ℕ) (said : RequestAnswer) (new : RequestContext) → OpensAt users d name free place said new → OneStays F d.session new.session
opens_stays F users d name None place said new h = by_context F d.session new d h.1 (held_one F d.session d.session refl)
opens_stays F users d name (Some word) None said new h = by_context F d.session new d h.1 (held_one F d.session d.session refl)
opens_stays F users d name (Some word) (Some place) said new (inl h) = held_one F d.session new.session (ap (λ (x : RequestContext). x.session.held) h.new_is)
opens_stays F users d name (Some word) (Some place) said new (inr h) = by_context F d.session new (take_device d name).1 h.taken.1 (into_stays F d name (free_word d.session.held))

closes_stays : (F : Type 0) (d : RequestContext) (word : ℕ) (o : Option (Lease DeviceState)) → OneStays F d.session (close_lease d word o).session
closes_stays F d word None = held_one F d.session d.session refl
closes_stays F d word (Some lease) = on_stays F (λ _. None) d.session (close_lease d word (Some lease)).session word refl (λ new e busy. absurd (let clash : None ≡ Some new = e in cc))

cancels_stays : (F : Type 0) (d : RequestContext) (word : ℕ) (o : Option (Lease DeviceState)) → OneStays F d.session (cancel_held d word o).session
cancels_stays F d word None = held_one F d.session d.session refl
cancels_stays F d word (Some lease) = on_stays F cancelled_lease d.session (cancel_held d word (Some lease)).session word refl (λ new e busy. absurd (cancelled_not (held_by d.session.held word) new e busy))

start_stays : (F : Type 0) → F → (d : RequestContext) (word : ℕ) (told : _) (new : RequestContext) → StartsWord d word told new → OneStays F d.session new.session
start_stays F f d word told new h = on_stays F (λ _. h.lease) d.session new.session word (ap (λ (x : RequestContext). x.session.held) h.new_is) (λ lease e busy. start_lease F f d.session.transfer d.session.port word (held_by d.session.held word) told h.lease h.starts lease e busy)

allowed_stays : (F : Type 0) (d : RequestContext) (name : List ℕ) (b : Bool) → OneStays F d.session (reply_if_allowed b (without_awaited d) name).1.session
allowed_stays F d name true = into_stays F (without_awaited d) name (free_word d.session.held)
allowed_stays F d name false = held_one F d.session (without_awaited d).session refl

-- it is a START
abbrev pub IsStartOf : Request → Type 0
IsStartOf (requests.Start word) = Unit {0}
IsStartOf q = ⊥

free_stays : (users : List Entry) (d : RequestContext) (q : Request) (said : RequestAnswer) (new : RequestContext) → AnswersFree users d q said new → OneStays (IsStartOf q) d.session new.session
free_stays users d (requests.Open name) said new h = opens_stays ⊥ users d name (free_word d.session.held) (find_name name d.registry) said new h
free_stays users d (requests.Close word) said new h = by_context ⊥ d.session new (close_lease d word (held_by d.session.held word)) h.1 (closes_stays ⊥ d word (held_by d.session.held word))
free_stays users d (requests.ControlOption word n action kind value) said new h =
    on_stays ⊥ (λ _. (control_lease d.session.strings (held_by d.session.held word) n action kind value).1) d.session new.session word (ap (λ (x : RequestContext). x.session.held) h.1) (λ lease e busy. control_had ⊥ d.session.strings (held_by d.session.held word) n action kind value lease e busy)
free_stays users d (requests.Start word) said new h =
    let s = start_stays (Unit {0}) tt d word _ h.held h.starts in
    let held : new.session.held ≡ h.held.session.held = ap (λ (x : RequestContext). x.session.held) h.gives.1 in
    λ v lease at busy. s v lease (ap (λ (x : List (Option (Lease DeviceState))). held_by x v) (sym held) ∙ at) busy
free_stays users d (requests.Cancel word) said new h = by_context ⊥ d.session new (cancel_held d word (held_by d.session.held word)) h.1 (cancels_stays ⊥ d word (held_by d.session.held word))
free_stays users d q said new h = held_one ⊥ d.session new.session (ap (λ (x : RequestContext). x.session.held) h.1)

awaiting_stays : (users : List Entry) (d : RequestContext) (awaited : AwaitedAuthorization) (q : Request) (said : RequestAnswer) (new : RequestContext) → AnswersAwaiting users d awaited q said new → OneStays (IsStartOf q) d.session new.session
awaiting_stays users d awaited (requests.Authorize resource user password) said new h = by_context ⊥ d.session new (reply_if_allowed h.allowed (without_awaited d) awaited.name).1 h.gives.1 (allowed_stays ⊥ d awaited.name h.allowed)
awaiting_stays users d awaited q said new h = held_one (IsStartOf q) d.session new.session (ap (λ (x : RequestContext). x.session.held) h.1)

greeted_stays : (users : List Entry) (d : RequestContext) (o : Option AwaitedAuthorization) (q : Request) (said : RequestAnswer) (new : RequestContext) → AnswersGreeted users d o q said new → OneStays (IsStartOf q) d.session new.session
greeted_stays users d None q said new h = free_stays users d q said new h
greeted_stays users d (Some awaited) q said new h = awaiting_stays users d awaited q said new h

first_held : (d : RequestContext) (q : Request) → (first_answer d q).1.session.held ≡ d.session.held
first_held d (requests.Init version user) = refl
first_held d q = refl

by_stays : (b : Bool) (users : List Entry) (d : RequestContext) (q : Request) (said : RequestAnswer) (new : RequestContext) → AnswersBy b users d q said new → OneStays (IsStartOf q) d.session new.session
by_stays true users d q said new h = greeted_stays users d d.session.awaited q said new h
by_stays false users d q said new h = held_one (IsStartOf q) d.session new.session (ap (λ (x : RequestContext). x.session.held) h.1 ∙ first_held d q)

pub request_stays : (users : List Entry) (d : RequestContext) (q : Request) (said : RequestAnswer) (new : RequestContext) → Answers users d q said new → OneStays (IsStartOf q) d.session new.session
request_stays users d q said new h = by_stays d.session.greeted users d q said new h
