-- OPEN and AUTHORIZE, by all their refusals.
use Rattle.std.proofs.Common.{inl, inr, ◌⊎◌, ◌≡◌, ◌≢◌, ◌∙◌, ℕ, List, [], ◌∷◌, Bool, true, false, Option, Some, None, refl, sym, ap, subst, eqb, cond, slice_get}
use Rattle.sane_fixed.specs.declared.status.Status.TheVariants.{Unsupported, DeviceBusy, Inval}
use Rattle.sane_fixed.specs.declared.status.Status.{Status}
use Rattle.sane_fixed.specs.declared.status.Status.TheVariants as code
use Rattle.md5_auth.specs.declared.users.Entry.{Entry}
use Rattle.md5_auth.specs.Allowed.{NamesBackend}
use Rattle.device_api.specs.State.{DeviceState}
use Rattle.dispatch.specs.Backend.{IsBackendOf}
use Rattle.dispatch.specs.declared.table.place.Slot.TheVariants.{In, Out}
use Rattle.dispatch.specs.declared.table.place.Place.{Place}
use Rattle.dispatch.specs.Table.{Table, find_name, take_answer, take_at, take_of}
use Rattle.wire_message.specs.declared.message.Request.TheVariants as requests
use Rattle.wire_message.specs.declared.message.Reply.{Reply as Wire}
use Rattle.wire_message.specs.declared.message.Reply.TheVariants as replies
use Rattle.saned_requests.specs.declared.session.AwaitedAuthorization.{AwaitedAuthorization}
use Rattle.saned_requests.specs.declared.request_answer.RequestAnswer.{RequestAnswer}
use Rattle.saned_requests.specs.declared.request_answer.RequestAnswer.TheVariants.{One, Two}
use Rattle.saned_requests.specs.Holding.{free_word}
use Rattle.saned_requests.specs.RequestAnswers.{AsksAuthorization, RequestContext, OpensAt, reply_if_allowed, without_awaited, refusal, resource_of, take_into, reply_of_take}
use Rattle.saned_requests.specs.RequestAnswers as daemon
use Rattle.system_model.specs.AbstractMessages.{Challenge, Challenged, Opened, Refused, AbstractReply, same_text}
use Rattle.system_model.specs.Devices.{Make, default_options}
use Rattle.system_model.specs.Causes.{WasUnlisted}
use Rattle.system_model.specs.AbstractDevices.{AbstractDevice, Resting, is_held_by}
use Rattle.system_model.specs.Daemon.{Environment, AnswerEffect, allow, held_cause, open_listed, reply_effect, hand_out_device, take_listed}
use Rattle.system_model.specs.SystemStates.{with_entry}
use Rattle.system_model.specs.AbstractSessions.{AbstractSession, allow_call, reply_alone, open_call, open_effect, words_after}
use Rattle.daemon_refines.specs.ContextRefinement.{IsAwaited, Names, NamesPlace, ContextRefines, SlotRefines, abstract_device}
use Rattle.daemon_refines.specs.Spelling.{Manner, Spells}
use Rattle.daemon_refines.specs.Agreeing.{Agrees, manner}
use Rattle.daemon_refines.specs.WholeSessions.{AuthorizeAgrees, IsGuarded, IsGuardedAt, OpenAgrees}
use Rattle.daemon_refines.proofs.Changes.{Held, shown_by}
use Rattle.daemon_refines.proofs.SessionEndings.{same_tables}
use Rattle.daemon_refines.proofs.Moved.{nothing_awaited, own}
use Rattle.daemon_refines.proofs.OpenSteps.{FoundSlot, found_slot, free_same, hand_out, held_there, no_more, opened_unchanged, put_self}
use Rattle.daemon_refines.proofs.Scanning.{handed_is}
use Rattle.daemon_refines.proofs.WordRequests.{says_one}

-- a device is handed out, or not
abbrev IsTake : ℕ → AbstractReply → Wire → Type 0
IsTake w a r = ((a ≡ Opened) × (r ≡ replies.Open code.Good w [])) ⊎ ((name : Status) × (a ≡ Refused name) × (r ≡ refusal name))

record Bound (i : ℕ) (make : ℕ → Make) (table : ℕ → AbstractDevice) (s : AbstractSession) (w p : ℕ) (v : AnswerEffect) (outcome : Wire × RequestContext) : Type 0 where
  answer : AbstractReply
  told : v.told ≡ answer ∷ []
  on : v.goes_on ≡ true
  spells : IsTake w answer outcome.0
  shows : ContextRefines i make outcome.1 (open_effect i table s w p (is_held_by i (table p).holder) v).table (open_effect i table s w p (is_held_by i (table p).holder) v).session

-- a refusal leaves all as it was
refused_with : (i : ℕ) (make : ℕ → Make) (d : RequestContext) (table : ℕ → AbstractDevice) (s : AbstractSession) (w p : ℕ) (name : Status) (v : AnswerEffect) → ContextRefines i make d table (record s { awaited = None }) → d.session.awaited ≡ None →
    v.told ≡ Refused name ∷ [] → v.goes_on ≡ true → v.device ≡ table p → v.transfer ≡ s.transfer → v.awaited ≡ None → Bound i make table s w p v (refusal name, d)
refused_with i make d table s w p name v old none told on device transfer sent =
    record { answer = Refused name; told = told; on = on; spells = inr (name, refl, refl); shows = opened_unchanged i make d table s w p v old none device transfer sent }

taken_in : (i : ℕ) (make : ℕ → Make) (d : RequestContext) (table : ℕ → AbstractDevice) (s : AbstractSession) (w p : ℕ) (at : Place DeviceState) (st : DeviceState) → ContextRefines i make d table (record s { awaited = None }) → d.session.awaited ≡ None → free_word d.session.held ≡ Some w →
    slice_get d.registry p ≡ Some at → at.slot ≡ In st → Bound i make table s w p (take_listed i (make p) (table p) s.transfer (table p).listed) (reply_of_take d w (take_of p (Some st)))
taken_in i make d table s w p at st old none free there in_it =
    let shown : SlotRefines i (make p) d.session.held p (table p) at.info.name (In st) = shown_by i (make p) d.session.held p (table p) (slice_get d.registry p) at (In st) there in_it (old.devices.places p) in
    let dev : AbstractDevice = record (abstract_device None st) { holder = Some i; options = default_options (make p); phase = Resting } in
    let v = reply_effect Opened dev s.transfer in
    let v_is : take_listed i (make p) (table p) s.transfer (table p).listed ≡ v = ap (λ (t : AbstractDevice). take_listed i (make p) t s.transfer t.listed) shown.0 in
    let yes : cond (is_held_by i (table p).holder) false (eqb i i) ≡ true = ap (λ (t : AbstractDevice). cond (is_held_by i t.holder) false (eqb i i)) shown.0 ∙ own i in
    subst (λ (t : AnswerEffect). Bound i make table s w p t (reply_of_take d w (take_of p (Some st)))) (sym v_is) (record {
      answer = Opened;
      told = refl;
      on = refl;
      spells = inl (refl, refl);
      shows = subst (λ (b : Bool). ContextRefines i make (reply_of_take d w (take_of p (Some st))).1 (with_entry table p dev) (record { words = words_after b s.words w p; transfer = s.transfer; framed = s.framed; awaited = None })) (sym yes)
          (hand_out i make d table s w p at st dev old none free there in_it (handed_is i (make p) st shown.1));
    })

busy_with : (i j : ℕ) (make : ℕ → Make) (d : RequestContext) (table : ℕ → AbstractDevice) (s : AbstractSession) (w p : ℕ) → ContextRefines i make d table (record s { awaited = None }) → d.session.awaited ≡ None → (table p).listed ≡ true → (table p).holder ≡ Some j →
    Bound i make table s w p (take_listed i (make p) (table p) s.transfer (table p).listed) (refusal code.DeviceBusy, d)
busy_with i j make d table s w p old none listed holder =
    let v : AnswerEffect = record (reply_effect (Refused DeviceBusy) (table p) s.transfer) { causes = held_cause (eqb j i) } in
    let v_is : take_listed i (make p) (table p) s.transfer (table p).listed ≡ v = ap (λ (b : Bool). take_listed i (make p) (table p) s.transfer b) listed ∙ ap (λ (h : Option ℕ). hand_out_device i (make p) (table p) s.transfer h) holder in
    subst (λ (t : AnswerEffect). Bound i make table s w p t (refusal code.DeviceBusy, d)) (sym v_is) (refused_with i make d table s w p code.DeviceBusy v old none refl refl refl refl refl)

taken_out : (i : ℕ) (make : ℕ → Make) (d : RequestContext) (table : ℕ → AbstractDevice) (s : AbstractSession) (w p : ℕ) (name : List ℕ) → ContextRefines i make d table (record s { awaited = None }) → d.session.awaited ≡ None → SlotRefines i (make p) d.session.held p (table p) name Out →
    Bound i make table s w p (take_listed i (make p) (table p) s.transfer (table p).listed) (refusal code.DeviceBusy, d)
taken_out i make d table s w p name old none (listed, inl h) = busy_with i i make d table s w p old none listed (ap (λ (k : ℕ). (table k).holder) (sym h.place) ∙ ap (λ (t : AbstractDevice). t.holder) (old.devices.leases h.word h.lease h.stands).device)
taken_out i make d table s w p name old none (listed, inr h) = busy_with i h.other make d table s w p old none listed h.holder

by_slot : (i : ℕ) (make : ℕ → Make) (d : RequestContext) (table : ℕ → AbstractDevice) (s : AbstractSession) (w p : ℕ) (at : Place DeviceState) → ContextRefines i make d table (record s { awaited = None }) → d.session.awaited ≡ None → free_word d.session.held ≡ Some w → slice_get d.registry p ≡ Some at →
    ((st : DeviceState) × (at.slot ≡ In st)) ⊎ (at.slot ≡ Out) → Bound i make table s w p (take_listed i (make p) (table p) s.transfer (table p).listed) (reply_of_take d w (take_at d.registry (Some p)))
by_slot i make d table s w p at old none free there (inl in_it) =
    subst (λ (o : Option DeviceState). Bound i make table s w p (take_listed i (make p) (table p) s.transfer (table p).listed) (reply_of_take d w (take_of p o))) (sym (held_there d.registry p at (In in_it.0) there in_it.1)) (taken_in i make d table s w p at in_it.0 old none free there in_it.1)
by_slot i make d table s w p at old none free there (inr out) =
    subst (λ (o : Option DeviceState). Bound i make table s w p (take_listed i (make p) (table p) s.transfer (table p).listed) (reply_of_take d w (take_of p o))) (sym (held_there d.registry p at Out there out))
    (taken_out i make d table s w p at.info.name old none (shown_by i (make p) d.session.held p (table p) (slice_get d.registry p) at Out there out (old.devices.places p)))

taken_at : (i : ℕ) (make : ℕ → Make) (d : RequestContext) (table : ℕ → AbstractDevice) (s : AbstractSession) (w p : ℕ) → ContextRefines i make d table (record s { awaited = None }) → d.session.awaited ≡ None → free_word d.session.held ≡ Some w → FoundSlot d.registry p →
    Bound i make table s w p (take_listed i (make p) (table p) s.transfer (table p).listed) (reply_of_take d w (take_at d.registry (Some p)))
taken_at i make d table s w p old none free found = by_slot i make d table s w p found.place old none free found.at found.slot

unlisted : (i : ℕ) (make : ℕ → Make) (d : RequestContext) (table : ℕ → AbstractDevice) (s : AbstractSession) (w p : ℕ) → ContextRefines i make d table (record s { awaited = None }) → d.session.awaited ≡ None → (table p).listed ≡ false →
    Bound i make table s w p (take_listed i (make p) (table p) s.transfer (table p).listed) (refusal code.Inval, d)
unlisted i make d table s w p old none e =
    let v : AnswerEffect = record (reply_effect (Refused Inval) (table p) s.transfer) { causes = WasUnlisted ∷ [] } in
    subst (λ (t : AnswerEffect). Bound i make table s w p t (refusal code.Inval, d)) (sym (ap (λ (b : Bool). take_listed i (make p) (table p) s.transfer b) e)) (refused_with i make d table s w p code.Inval v old none refl refl refl refl refl)

taken_by : (i : ℕ) (make : ℕ → Make) (d : RequestContext) (table : ℕ → AbstractDevice) (s : AbstractSession) (w p : ℕ) (name : List ℕ) (found : Option ℕ) → ContextRefines i make d table (record s { awaited = None }) → d.session.awaited ≡ None → free_word d.session.held ≡ Some w → NamesPlace found table p → find_name name d.registry ≡ found →
    Bound i make table s w p (take_listed i (make p) (table p) s.transfer (table p).listed) (reply_of_take d w (take_at d.registry found))
taken_by i make d table s w p name None old none free names e = unlisted i make d table s w p old none names
taken_by i make d table s w p name (Some k) old none free names e =
    subst (λ (n : ℕ). Bound i make table s w p (take_listed i (make p) (table p) s.transfer (table p).listed) (reply_of_take d w (take_at d.registry (Some n)))) (sym names)
    (taken_at i make d table s w p old none free (subst (λ (n : ℕ). FoundSlot d.registry n) names (found_slot name d.registry k e)))

taken : (i : ℕ) (make : ℕ → Make) (d : RequestContext) (table : ℕ → AbstractDevice) (s : AbstractSession) (w p : ℕ) (name : List ℕ) → ContextRefines i make d table (record s { awaited = None }) → d.session.awaited ≡ None → free_word d.session.held ≡ Some w → Names name d.registry table p →
    Bound i make table s w p (take_listed i (make p) (table p) s.transfer (table p).listed) (reply_of_take d w (take_answer d.registry name))
unfolding take_answer
taken i make d table s w p name old none free names = taken_by i make d table s w p name (find_name name d.registry) old none free names refl

-- the session without what it awaited
unawaited : (i : ℕ) (make : ℕ → Make) (d : RequestContext) (table : ℕ → AbstractDevice) (s : AbstractSession) → ContextRefines i make d table s → ContextRefines i make (without_awaited d) table (record s { awaited = None })
unawaited i make d table s old = record { words = old.words; four = old.four; transfer = old.transfer; frame = old.frame; awaited = refl; devices = old.devices }

plain_session : (i : ℕ) (make : ℕ → Make) (d : RequestContext) (table : ℕ → AbstractDevice) (s : AbstractSession) → ContextRefines i make d table s → d.session.awaited ≡ None → ContextRefines i make d table (record s { awaited = None })
plain_session i make d table s old none = record { words = old.words; four = old.four; transfer = old.transfer; frame = old.frame; awaited = nothing_awaited d.session.held d.registry table d.session.awaited None none refl; devices = old.devices }

-- AUTHORIZE
spells_authorized : (m : Manner) (resource user password : List ℕ) (w : ℕ) (a : AbstractReply) (r : Wire) → m.free ≡ Some w → IsTake w a r → Spells m (requests.Authorize resource user password) a r
spells_authorized m resource user password w a r free (inl t) = subst (λ (x : AbstractReply). Spells m (requests.Authorize resource user password) x r) (sym t.0) (w, free, t.1)
spells_authorized m resource user password w a r free (inr t) = subst (λ (x : AbstractReply). Spells m (requests.Authorize resource user password) x r) (sym t.1) (t.0, refl, t.2)

denied_with : (i : ℕ) (make : ℕ → Make) (d : RequestContext) (table : ℕ → AbstractDevice) (s : AbstractSession) (w p : ℕ) (same allows : Bool) → ContextRefines i make d table (record s { awaited = None }) → d.session.awaited ≡ None → (same ≡ false) ⊎ (allows ≡ false) →
    Bound i make table s w p (allow i (make p) (table p) s.transfer same allows) (refusal code.AccessDenied, d)
denied_with i make d table s w p false allows old none h = refused_with i make d table s w p code.AccessDenied _ old none refl refl refl refl refl
denied_with i make d table s w p true false old none h = refused_with i make d table s w p code.AccessDenied _ old none refl refl refl refl refl
denied_with i make d table s w p true true old none (inl e) = absurd (let clash : true ≡ false = e in cc)
denied_with i make d table s w p true true old none (inr e) = absurd (let clash : true ≡ false = e in cc)

by_allowed : (i : ℕ) (make : ℕ → Make) (d : RequestContext) (table : ℕ → AbstractDevice) (s : AbstractSession) (w p : ℕ) (name : List ℕ) (same allows allowed : Bool) → ContextRefines i make d table (record s { awaited = None }) → d.session.awaited ≡ None → free_word d.session.held ≡ Some w → Names name d.registry table p →
    (allowed ≡ true → (same ≡ true) × (allows ≡ true)) → (allowed ≡ false → (same ≡ false) ⊎ (allows ≡ false)) →
    Bound i make table s w p (allow i (make p) (table p) s.transfer same allows) (reply_if_allowed allowed d name)
by_allowed i make d table s w p name same allows true old none free names yea nay =
    let both = yea refl in
    subst (λ (b : Bool). Bound i make table s w p (allow i (make p) (table p) s.transfer b allows) (daemon.take_device d name)) (sym both.0)
    (subst (λ (b : Bool). Bound i make table s w p (allow i (make p) (table p) s.transfer true b) (daemon.take_device d name)) (sym both.1)
    (subst (λ (o : Option ℕ). Bound i make table s w p (take_listed i (make p) (table p) s.transfer (table p).listed) (take_into d name o)) (sym free) (taken i make d table s w p name old none free names)))
by_allowed i make d table s w p name same allows false old none free names yea nay = denied_with i make d table s w p same allows old none (nay refl)

two_agree : (i : ℕ) (make : ℕ → Make) (m : Manner) (resource user password : List ℕ) (table : ℕ → AbstractDevice) (s : AbstractSession) (w p : ℕ) (v : AnswerEffect) (outcome : Wire × RequestContext) → m.free ≡ Some w → Bound i make table s w p v outcome →
    Agrees i make m (requests.Authorize resource user password) (open_effect i table s w p (is_held_by i (table p).holder) v) (Two replies.Authorize outcome.0) outcome.1
two_agree i make m resource user password table s w p v outcome free b =
    record { says = (refl, (b.answer, b.told, spells_authorized m resource user password w b.answer outcome.0 free b.spells)); same_end = b.on; stands = λ e. b.shows; ends = λ e. cc }

allow_by : (i : ℕ) (make : ℕ → Make) (d : RequestContext) (table : ℕ → AbstractDevice) (s : AbstractSession) (x : Environment) (aw : AwaitedAuthorization) (resource user password : List ℕ) (answer sent : Challenge) (word p : ℕ) (allowed : Bool) (found : Option ℕ) → ContextRefines i make d table s → Names aw.name d.registry table p → free_word d.session.held ≢ None → free_word d.session.held ≡ found →
    (allowed ≡ true → (same_text answer sent ≡ true) × (x.allows sent ≡ true)) → (allowed ≡ false → (same_text answer sent ≡ false) ⊎ (x.allows sent ≡ false)) →
    Agrees i make (manner d word) (requests.Authorize resource user password) (allow_call i make table s x sent p answer found) (Two replies.Authorize (reply_if_allowed allowed (without_awaited d) aw.name).0) (reply_if_allowed allowed (without_awaited d) aw.name).1
allow_by i make d table s x aw resource user password answer sent word p allowed None old names room free yea nay = absurd (room free)
allow_by i make d table s x aw resource user password answer sent word p allowed (Some w) old names room free yea nay =
    two_agree i make (manner d word) resource user password table s w p _ (reply_if_allowed allowed (without_awaited d) aw.name) free
    (by_allowed i make (without_awaited d) table s w p aw.name (same_text answer sent) (x.allows sent) allowed (unawaited i make d table s old) refl free names yea nay)

awaited_is : (held : Held) (registry : Table) (table : ℕ → AbstractDevice) (a b : Option AwaitedAuthorization) (sent c : Option (Challenge × ℕ)) → a ≡ b → sent ≡ c → IsAwaited held registry table a sent → IsAwaited held registry table b c
awaited_is held registry table a b sent c e f h = subst (λ (t : Option AwaitedAuthorization). IsAwaited held registry table t c) e (subst (λ (t : Option (Challenge × ℕ)). IsAwaited held registry table a t) f h)

pub authorize_agrees : AuthorizeAgrees
authorize_agrees i make users d table s aw resource user password answer sent word place at said new x shows awaits waits judged authorizes =
    let a = awaited_is d.session.held d.registry table d.session.awaited (Some aw) s.awaited (Some (sent, place)) awaits waits shows.awaited in
    let r = authorizes in
    subst (λ (n : Option ℕ). Agrees i make (manner d word) (requests.Authorize resource user password) (allow_call i make table s (x place) sent place answer n) said new) (sym (free_same d.session.held s.words shows.four shows.words))
    (subst (λ (t : RequestAnswer). Agrees i make (manner d word) (requests.Authorize resource user password) (allow_call i make table s (x place) sent place answer (free_word d.session.held)) t new) (sym r.gives.0)
    (subst (λ (t : RequestContext). Agrees i make (manner d word) (requests.Authorize resource user password) (allow_call i make table s (x place) sent place answer (free_word d.session.held)) (Two replies.Authorize (reply_if_allowed r.allowed (without_awaited d) aw.name).0) t) (sym r.gives.1)
    (allow_by i make d table s (x place) aw resource user password answer sent word place r.allowed (free_word d.session.held) shows a.0 a.1 refl
    (λ e. judged.yes_where (r.yes_where e)) (λ e. judged.no_where (r.no_where e)))))

-- OPEN
abbrev OpenBound : ℕ → (ℕ → Make) → List Entry → RequestContext → (ℕ → AbstractDevice) → AbstractSession → List ℕ → ℕ → ℕ → Option ℕ → RequestAnswer → RequestContext → Type 0
OpenBound i make users d table s name word p found said new =
    (challenge : Challenge) × ((x : Environment) → x.challenge ≡ challenge → IsGuardedAt users d name x.guarded → Agrees i make (manner d word) (requests.Open name) (open_call i make table s x p found) said new)

spells_opened : (m : Manner) (name : List ℕ) (w : ℕ) (a : AbstractReply) (r : Wire) → m.free ≡ Some w → IsTake w a r → Spells m (requests.Open name) a r
spells_opened m name w a r free (inl t) = subst (λ (x : AbstractReply). Spells m (requests.Open name) x r) (sym t.0) (w, free, t.1)
spells_opened m name w a r free (inr t) = subst (λ (x : AbstractReply). Spells m (requests.Open name) x r) (sym t.1) (t.0, refl, t.2)

one_agrees : (i : ℕ) (make : ℕ → Make) (m : Manner) (name : List ℕ) (table : ℕ → AbstractDevice) (s : AbstractSession) (w p : ℕ) (v : AnswerEffect) (outcome : Wire × RequestContext) → m.free ≡ Some w → Bound i make table s w p v outcome →
    Agrees i make m (requests.Open name) (open_effect i table s w p (is_held_by i (table p).holder) v) (One outcome.0) outcome.1
one_agrees i make m name table s w p v outcome free b =
    record { says = (b.answer, b.told, spells_opened m name w b.answer outcome.0 free b.spells); same_end = b.on; stands = λ e. b.shows; ends = λ e. cc }

-- a listed device has a listed place
listed_by : (i : ℕ) (make : ℕ → Make) (d : RequestContext) (table : ℕ → AbstractDevice) (s : AbstractSession) (p : ℕ) (at : Place DeviceState) → ContextRefines i make d table s → slice_get d.registry p ≡ Some at → ((st : DeviceState) × (at.slot ≡ In st)) ⊎ (at.slot ≡ Out) → (table p).listed ≡ true
listed_by i make d table s p at old there (inl in_it) = ap (λ (t : AbstractDevice). t.listed) (shown_by i (make p) d.session.held p (table p) (slice_get d.registry p) at (In in_it.0) there in_it.1 (old.devices.places p)).0
listed_by i make d table s p at old there (inr out) = (shown_by i (make p) d.session.held p (table p) (slice_get d.registry p) at Out there out (old.devices.places p)).0

found_listed : (i : ℕ) (make : ℕ → Make) (d : RequestContext) (table : ℕ → AbstractDevice) (s : AbstractSession) (p : ℕ) → ContextRefines i make d table s → FoundSlot d.registry p → (table p).listed ≡ true
found_listed i make d table s p old found = listed_by i make d table s p found.place old found.at found.slot

not_guarded : (users : List Entry) (name backend : List ℕ) (b : Bool) → IsGuarded users name b → IsBackendOf name backend → ¬ NamesBackend users backend → b ≡ false
not_guarded users name backend true h is n = absurd (n (h backend is))
not_guarded users name backend false h is n = refl

guarded : (users : List Entry) (name backend : List ℕ) (b : Bool) → IsGuarded users name b → IsBackendOf name backend → NamesBackend users backend → b ≡ true
guarded users name backend true h is n = refl
guarded users name backend false h is n = absurd (h backend is n)

names_put : (name : List ℕ) (registry : Table) (table : ℕ → AbstractDevice) (p : ℕ) (found : Option ℕ) → NamesPlace found table p → NamesPlace found (with_entry table p (table p)) p
names_put name registry table p None h = ap (λ (t : AbstractDevice). t.listed) (put_self table p p (table p) (eqb p p) refl refl) ∙ h
names_put name registry table p (Some k) h = h

some_word : (held : Held) (w : ℕ) → free_word held ≡ Some w → free_word held ≢ None
some_word held w e n = let clash : Some w ≡ None = sym e ∙ n in absurd (cc)

some_place : (name : List ℕ) (registry : Table) (k : ℕ) → find_name name registry ≡ Some k → find_name name registry ≢ None
some_place name registry k e n = let clash : Some k ≡ None = sym e ∙ n in absurd (cc)

-- a challenge is sent
asked : (i : ℕ) (make : ℕ → Make) (users : List Entry) (d : RequestContext) (table : ℕ → AbstractDevice) (s : AbstractSession) (name : List ℕ) (word w p : ℕ) (said : RequestAnswer) (new : RequestContext) → ContextRefines i make d table s → d.session.awaited ≡ None → free_word d.session.held ≡ Some w → Names name d.registry table p → (table p).listed ≡ true → find_name name d.registry ≢ None →
    AsksAuthorization users d name said new → OpenBound i make users d table s name word p (Some w) said new
asked i make users d table s name word w p said new old none free names listed found a = (
  a.challenge,
  λ x drawn known.
      let judged = known (some_word d.session.held w free) found in
      let c = s.transfer in
      let v : AnswerEffect = record (reply_effect (Challenged x.challenge) (table p) c) { awaited = Some x.challenge } in
      let v_is : open_listed i (make p) (table p) c x.challenge (table p).listed x.guarded ≡ v =
      ap (λ (b : Bool). open_listed i (make p) (table p) c x.challenge b x.guarded) listed ∙ ap (λ (b : Bool). open_listed i (make p) (table p) c x.challenge true b) (guarded users name a.backend x.guarded judged a.backend_is a.named) in
      let no : cond (is_held_by i (table p).holder) false (is_held_by i (table p).holder) ≡ false = no_more (is_held_by i (table p).holder) in
      let there : (k : ℕ) → with_entry table p (table p) k ≡ table k = λ k. put_self table p k (table p) (eqb k p) refl refl in
      subst (λ (t : AnswerEffect). Agrees i make (manner d word) (requests.Open name) (open_effect i table s w p (is_held_by i (table p).holder) t) said new) (sym v_is)
      (subst (λ (t : RequestAnswer). Agrees i make (manner d word) (requests.Open name) (open_effect i table s w p (is_held_by i (table p).holder) v) t new) (sym a.said_is)
      (subst (λ (t : RequestContext). Agrees i make (manner d word) (requests.Open name) (open_effect i table s w p (is_held_by i (table p).holder) v) (One (replies.Open code.Good 0 (resource_of a.backend a.challenge))) t) (sym a.new_is)
      (says_one i make (manner d word) _ (open_effect i table s w p (is_held_by i (table p).holder) v) (Challenged x.challenge) _ (record d { session = record d.session { awaited = Some (record { name = name; resource = resource_of a.backend a.challenge }) }; stream = a.stream }) refl refl
      (a.backend, a.backend_is, ap (λ (y : Challenge). replies.Open code.Good 0 (resource_of a.backend y)) (sym drawn))
      (record {
        words = λ u. ap (λ (b : Bool). words_after b s.words w p u) no ∙ old.words u;
        four = old.four;
        transfer = old.transfer;
        awaited = (names_put name d.registry table p (find_name name d.registry) names, λ e. let clash : None ≡ Some w = sym e ∙ free in cc);
        frame = old.frame;
        devices = same_tables i make d.session.held d.registry table (with_entry table p (table p)) there old.devices;
      })))),
)

open_found : (i : ℕ) (make : ℕ → Make) (users : List Entry) (d : RequestContext) (table : ℕ → AbstractDevice) (s : AbstractSession) (name : List ℕ) (word p : ℕ) (fw found : Option ℕ) (said : RequestAnswer) (new : RequestContext) → ContextRefines i make d table s → d.session.awaited ≡ None → free_word d.session.held ≡ fw → find_name name d.registry ≡ found → NamesPlace found table p → Names name d.registry table p →
    OpensAt users d name fw found said new → OpenBound i make users d table s name word p fw said new
open_found i make users d table s name word p None found said new old none free e place names h = (
  [],
  λ x drawn judged.
      subst (λ (t : RequestAnswer). Agrees i make (manner d word) (requests.Open name) (reply_alone (Refused Unsupported) table s) t new) (sym h.0)
      (subst (λ (t : RequestContext). Agrees i make (manner d word) (requests.Open name) (reply_alone (Refused Unsupported) table s) (One (refusal code.Unsupported)) t) (sym h.1)
      (says_one i make (manner d word) _ (reply_alone (Refused Unsupported) table s) (Refused Unsupported) _ d refl refl (code.Unsupported, refl, refl) old)),
)
open_found i make users d table s name word p (Some w) None said new old none free e place names h = (
  [],
  λ x drawn judged.
      let v : AnswerEffect = record (reply_effect (Refused Inval) (table p) s.transfer) { causes = WasUnlisted ∷ [] } in
      let v_is : open_listed i (make p) (table p) s.transfer x.challenge (table p).listed x.guarded ≡ v = ap (λ (b : Bool). open_listed i (make p) (table p) s.transfer x.challenge b x.guarded) place in
      subst (λ (t : RequestAnswer). Agrees i make (manner d word) (requests.Open name) (open_call i make table s x p (Some w)) t new) (sym h.0)
      (subst (λ (t : RequestContext). Agrees i make (manner d word) (requests.Open name) (open_call i make table s x p (Some w)) (One (refusal code.Inval)) t) (sym h.1)
      (subst (λ (t : AnswerEffect). Agrees i make (manner d word) (requests.Open name) (open_effect i table s w p (is_held_by i (table p).holder) t) (One (refusal code.Inval)) d) (sym v_is)
      (one_agrees i make (manner d word) name table s w p v (refusal code.Inval, d) free (refused_with i make d table s w p code.Inval v (plain_session i make d table s old none) none refl refl refl refl refl)))),
)
open_found i make users d table s name word p (Some w) (Some k) said new old none free e place names (inl h) =
    asked i make users d table s name word w p said new old none free names (found_listed i make d table s p old (subst (λ (n : ℕ). FoundSlot d.registry n) place (found_slot name d.registry k e))) (some_place name d.registry k e) h
open_found i make users d table s name word p (Some w) (Some k) said new old none free e place names (inr h) =
    let listed = found_listed i make d table s p old (subst (λ (n : ℕ). FoundSlot d.registry n) place (found_slot name d.registry k e)) in (
      [],
      λ x drawn known.
          let judged = known (some_word d.session.held w free) (some_place name d.registry k e) in
          let o = reply_of_take d w (take_answer d.registry name) in
          let taken_is : daemon.take_device d name ≡ o = ap (λ (f : Option ℕ). take_into d name f) free in
          let v_is : open_listed i (make p) (table p) s.transfer x.challenge (table p).listed x.guarded ≡ take_listed i (make p) (table p) s.transfer (table p).listed =
          ap (λ (b : Bool). open_listed i (make p) (table p) s.transfer x.challenge b x.guarded) listed ∙ ap (λ (b : Bool). open_listed i (make p) (table p) s.transfer x.challenge true b) (not_guarded users name h.backend x.guarded judged h.backend_is h.unnamed)
          ∙ sym (ap (λ (b : Bool). take_listed i (make p) (table p) s.transfer b) listed) in
          subst (λ (t : RequestAnswer). Agrees i make (manner d word) (requests.Open name) (open_call i make table s x p (Some w)) t new) (sym (h.taken.0 ∙ ap (λ (t : Wire × RequestContext). One t.0) taken_is))
          (subst (λ (t : RequestContext). Agrees i make (manner d word) (requests.Open name) (open_call i make table s x p (Some w)) (One o.0) t) (sym (h.taken.1 ∙ ap (λ (t : Wire × RequestContext). t.1) taken_is))
          (subst (λ (t : AnswerEffect). Agrees i make (manner d word) (requests.Open name) (open_effect i table s w p (is_held_by i (table p).holder) t) (One o.0) o.1) (sym v_is)
          (one_agrees i make (manner d word) name table s w p (take_listed i (make p) (table p) s.transfer (table p).listed) o free (taken i make d table s w p name (plain_session i make d table s old none) none free names)))),
    )

pub open_agrees : OpenAgrees
open_agrees i make users d table s name word place said new shows none names opens =
    let found = open_found i make users d table s name word place (free_word d.session.held) (find_name name d.registry) said new shows none refl refl names names opens in (
      found.0,
      λ x drawn judged.
          subst (λ (n : Option ℕ). Agrees i make (manner d word) (requests.Open name) (open_call i make table s (x place) place n) said new) (sym (free_same d.session.held s.words shows.four shows.words))
          (found.1 (x place) drawn judged),
    )
