-- What strangers make of a daemon of one device, act by act.
use Rattle.std.specs.Prelude.{Result, Ok, Err, nat_eq, option_and_then, slice_get, map}
use Rattle.std.specs.Cmp.Lexicographic.{pointwise}
use Rattle.std.proofs.Common.{◌≡◌, ◌∙◌, ◌⊎◌, inl, inr, ℕ, List, [], ◌∷◌, ◌++◌, Bool, true, false, cond, Option, Some, None, refl, sym, ap, subst}
use Rattle.std.proofs.lemmas.Bool.{eqb-true, eq-eqb}
use Rattle.std.proofs.lemmas.Slice.Eq.{slice_eq-Decides}
use Rattle.md5_auth.specs.declared.users.Entry.{Entry}
use Rattle.sane_fixed.specs.declared.device_info.DeviceInfo.{DeviceInfo}
use Rattle.sane_fixed.specs.declared.status.Status.{Status}
use Rattle.sane_fixed.specs.declared.status.Status.TheVariants.{DeviceBusy}
use Rattle.device_api.specs.State.{DeviceState, after_cancel, after_reset}
use Rattle.dispatch.specs.declared.table.place.Lease.{Lease}
use Rattle.dispatch.specs.declared.table.place.Place.{Place}
use Rattle.dispatch.specs.declared.table.place.Slot.{Slot}
use Rattle.dispatch.specs.declared.table.place.Slot.TheVariants.{In, Out}
use Rattle.dispatch.specs.Table.{Table, after_give_back, awaits, find_name, held_at, take_answer, take_at, unplug_answer, unplug_at, with_slot}
use Rattle.wire_message.specs.declared.message.Request.{Request}
use Rattle.wire_message.specs.declared.message.Request.TheVariants as requests
use Rattle.wire_message.specs.declared.message.Reply.{Reply}
use Rattle.wire_writing.specs.RequestWriting.{write_request}
use Rattle.saned_requests.specs.declared.request_answer.RequestAnswer.{RequestAnswer}
use Rattle.saned_requests.specs.declared.session.Session.{Session as RequestSession}
use Rattle.saned_requests.specs.declared.session.StringSize.{StringSize}
use Rattle.saned_requests.specs.Holding.{fresh_session, given_back, on_word}
use Rattle.saned_requests.specs.RequestAnswers.{Answers, OpensAt, RequestContext, first_answer, own_version, reply_of_take, take_device, take_into}
use Rattle.saned_core.specs.declared.session_slot.SessionSlot.{SessionSlot}
use Rattle.saned_core.specs.declared.session_slot.Fed.TheVariants.{Standing, Over}
use Rattle.saned_core.specs.DaemonStates.{Core, on_session_slot, session_in, session_of, slot_if_open}
use Rattle.saned_core.specs.Feeding.{AnswersAll, EndsWithin, FeedEndsSession, Feeds, answered_slot, core_context, ended_slot, no_input}
use Rattle.saned_core.specs.Feeding.FeedEndsSession.{Ended, Garbled}
use Rattle.world_refines.proofs.requests.Cut.{limited_is, some_text}
use Rattle.worked_strangers.specs.Visits.{garbage}
use Rattle.worked_strangers.proofs.Bytes.{AtMostOne, at_most_one, one_whole}
use Rattle.worked_strangers.proofs.Bytes.AtMostOne.{NoRequest, OneRequest}
use Rattle.worked_strangers.proofs.Slots.{IsAlone, IsEnded, input_is, on_there, others_free, session_is}

unsome : {X : Type 0} (a b : X) → Some a ≡ Some b → a ≡ b
unsome a b e = cc

-- the session, with what it shares
abbrev pub context_of : Core → Table → RequestSession DeviceState → RequestContext
context_of d t s = record { session = s; registry = t; stream = d.stream }

-- ---- one request, whole, and the session goes on

pub record IsAnswered (d e : Core) (n : ℕ) (t : Table) (s : RequestSession DeviceState) (q : Request) : Type 0 where
  pub said : RequestAnswer
  pub new : RequestContext
  pub answers : Answers d.users (context_of d t s) q said new
  pub alone : IsAlone e n new.registry new.session

by_answers : (users : List Entry) (d new : RequestContext) (q : Request) (qs : List Request) (told : List Reply) → qs ≡ q ∷ [] → AnswersAll users d qs told new → (said : RequestAnswer) × Answers users d q said new
by_answers users d new q qs told are a =
    let x : AnswersAll users d (q ∷ []) told new = subst (λ (l : List Request). AnswersAll users d l told new) are a in
    (x.0, subst (λ (c : RequestContext). Answers users d q x.0 c) (sym x.5.1) x.3)

pub is_answered : (d e : Core) (n : ℕ) (t : Table) (s : RequestSession DeviceState) (q : Request) (piece : List ℕ) → IsAlone d n t s → write_request.text q ≡ Some piece → Feeds n d piece Standing e → IsAnswered d e n t s q
is_answered d e n t s q piece h is f =
    let a = f.standing refl in
    let so = a.feeds.so_far in
    let same : a.session ≡ s = unsome a.session s (sym a.stood ∙ session_is d n t s h) in
    let whole : piece ≡ so.reads.text ++ a.now.rest = ap (λ (l : List ℕ). l ++ piece) (sym (input_is d n t s h)) ∙ so.reads.whole in
    let one = one_whole q piece so.reads.text a.now.rest so.requests is whole so.reads.spelled a.feeds.wants in
    let context : core_context d a.session ≡ context_of d t s = ap (core_context d) same ∙ ap (λ (r : Table). context_of d r s) h.registry in
    let answers = by_answers d.users (core_context d a.session) a.now.context q so.requests so.told one.are so.answers in
    let slots : e.slots ≡ answered_slot a.now h.slot ∷ others_free = a.slots ∙ (ap (on_session_slot (answered_slot a.now) n) h.slots ∙ on_there (answered_slot a.now) h.slot n h.number) in
    record {
      said = answers.0;
      new = a.now.context;
      answers = subst (λ (c : RequestContext). Answers d.users c q answers.0 a.now.context) context answers.1;
      alone = record {
        slot = record h.slot { input = record { rest = a.now.rest; fault = None }; replies = h.slot.replies ++ a.now.text; session = Some a.now.context.session };
        slots = slots;
        number = h.number;
        session = refl;
        input = one.none;
        opened = ap (λ (c : Core). c.opened) f.others.rest ∙ h.opened;
        registry = a.registry;
      };
    }

-- ---- INIT

abbrev pub greeted_session : StringSize → ℕ → RequestSession DeviceState
greeted_session strings port = record (fresh_session strings port) { greeted = true }

pub is_greeted : (d e : Core) (n port : ℕ) (t : Table) (strings : StringSize) (greeting : List ℕ) → IsAlone d n t (fresh_session strings port) → write_request.text (requests.Init own_version []) ≡ Some greeting → Feeds n d greeting Standing e → IsAlone e n t (greeted_session strings port)
is_greeted d e n port t strings greeting h is f =
    let a = is_answered d e n t (fresh_session strings port) (requests.Init own_version []) greeting h is f in
    let new : a.new ≡ context_of d t (greeted_session strings port) = a.answers.1 in
    subst (λ (c : RequestContext). IsAlone e n c.registry c.session) new a.alone

-- ---- OPEN

same_name : (name : List ℕ) → pointwise nat_eq name name ≡ true
same_name name = (slice_eq-Decides (λ x y. (eqb-true x y, eq-eqb x y)) name name _ refl).1 refl

-- a table of one device, which is in, or out
abbrev pub one_place : DeviceInfo → Slot DeviceState → Table
one_place info slot = record { info = info; slot = slot } ∷ []

found : (info : DeviceInfo) (s : DeviceState) → find_name info.name (one_place info (In s)) ≡ Some 0
found info s = by (pointwise nat_eq info.name info.name) (same_name info.name)
  where
    by : (b : Bool) → b ≡ true → Rattle.std.specs.Prelude.position (λ (p : Place DeviceState). b) (one_place info (In s)) ≡ Some 0
    by true e = refl
    by false e = absurd (let clash : false ≡ true = e in cc)

took : (info : DeviceInfo) (s : DeviceState) → take_answer (one_place info (In s)) info.name ≡ Ok (record { device = after_reset s; place = 0 })
unfolding take_answer held_at
took info s = ap (take_at (one_place info (In s))) (found info s)

stays_in : (info : DeviceInfo) (s : DeviceState) → unplug_answer (one_place info (In s)) info.name ≡ Err DeviceBusy → ⊥
unfolding unplug_answer held_at
stays_in info s out =
    let in_place : unplug_at (one_place info (In s)) (find_name info.name (one_place info (In s))) ≡ Ok s = ap (unplug_at (one_place info (In s))) (found info s) in
    let clash : ◌≡◌ {A = Result DeviceState Status} (Ok s) (Err DeviceBusy) = sym in_place ∙ out in cc

abbrev pub holding : RequestSession DeviceState → Lease DeviceState → RequestSession DeviceState
holding s lease = record s { held = Some lease ∷ None ∷ None ∷ None ∷ [] }

taken_so : (d : Core) (info : DeviceInfo) (s : DeviceState) (strings : StringSize) (port : ℕ) →
    (take_device (context_of d (one_place info (In s)) (greeted_session strings port)) info.name).1 ≡ context_of d (one_place info Out) (holding (greeted_session strings port) (record { device = after_reset s; place = 0 }))
unfolding on_word with_slot
taken_so d info s strings port = ap (λ (r : Result (Lease DeviceState) Status). (reply_of_take (context_of d (one_place info (In s)) (greeted_session strings port)) 0 r).1) (took info s)

pub is_taken : (d e : Core) (n port : ℕ) (info : DeviceInfo) (s : DeviceState) (strings : StringSize) (opening : List ℕ) → IsAlone d n (one_place info (In s)) (greeted_session strings port) → write_request.text (requests.Open info.name) ≡ Some opening → Feeds n d opening Standing e
    → unplug_answer e.registry info.name ≡ Err DeviceBusy → IsAlone e n (one_place info Out) (holding (greeted_session strings port) (record { device = after_reset s; place = 0 }))
is_taken d e n port info s strings opening h is f out =
    let t = one_place info (In s) in
    let own = greeted_session strings port in
    let a = is_answered d e n t own (requests.Open info.name) opening h is f in
    let opens : OpensAt d.users (context_of d t own) info.name (Some 0) (Some 0) a.said a.new =
    subst (λ (o : Option ℕ). OpensAt d.users (context_of d t own) info.name (Some 0) o a.said a.new) (found info s) a.answers in
    by opens a.alone
  where
    by : {said : RequestAnswer} {new : RequestContext} → OpensAt d.users (context_of d (one_place info (In s)) (greeted_session strings port)) info.name (Some 0) (Some 0) said new → IsAlone e n new.registry new.session → IsAlone e n (one_place info Out) (holding (greeted_session strings port) (record { device = after_reset s; place = 0 }))
    by (inl asks) alone =
        let same : e.registry ≡ one_place info (In s) = alone.registry ∙ ap (λ (c : RequestContext). c.registry) asks.new_is in
        absurd (stays_in info s (subst (λ (r : Table). unplug_answer r info.name ≡ Err DeviceBusy) same out))
    by (inr now) alone = subst (λ (c : RequestContext). IsAlone e n c.registry c.session) (now.taken.1 ∙ taken_so d info s strings port) alone

-- he is lost: the device comes back
pub comes_back : (info : DeviceInfo) (lease : Lease DeviceState) (s : RequestSession DeviceState) → lease.device.info.name ≡ info.name → lease.place ≡ 0 → given_back (one_place info Out) (holding s lease).held ≡ one_place info (In (after_cancel lease.device))
unfolding after_give_back awaits with_slot
comes_back info lease s named first =
    ap (λ (k : ℕ). cond (awaits lease.device.info.name k (one_place info Out)) (with_slot (one_place info Out) k (In (after_cancel lease.device))) (one_place info Out)) first
    ∙ ap (λ (b : Bool). cond b (one_place info (In (after_cancel lease.device))) (one_place info Out)) (ap (λ (name : List ℕ). pointwise nat_eq info.name name) named ∙ same_name info.name)

-- ---- garbage

-- nothing is held, and the table is this
pub record IsBare (t : Table) (d : RequestContext) : Type 0 where
  pub registry : d.registry ≡ t
  pub held : d.session.held ≡ None ∷ None ∷ None ∷ None ∷ []

bare_as : (t : Table) (d new : RequestContext) → new ≡ d → IsBare t d → IsBare t new
bare_as t d new is h = subst (IsBare t) (sym is) h

bare_first : (t : Table) (d : RequestContext) (q : Request) → IsBare t d → IsBare t (first_answer d q).1
bare_first t d (requests.Init version user) h = record { registry = h.registry; held = h.held }
bare_first t d q h = h

bare_answer : (t : Table) (users : List Entry) (d new : RequestContext) (q : Request) (said : RequestAnswer) → d.session.greeted ≡ false → IsBare t d → Answers users d q said new → IsBare t new
bare_answer t users d new q said fresh h a =
    let first : Rattle.saned_requests.specs.RequestAnswers.AnswersBy false users d q said new = subst (λ (b : Bool). Rattle.saned_requests.specs.RequestAnswers.AnswersBy b users d q said new) fresh a in
    bare_as t (first_answer d q).1 new first.1 (bare_first t d q h)

bare_closes : (t : Table) (users : List Entry) (d new : RequestContext) (rest : List ℕ) (told : List Reply) → (d.session.greeted ≡ false) ⊎ (rest ≡ []) → IsBare t d → FeedEndsSession users d rest told new → IsBare t new
bare_closes t users d new rest told fresh h (Garbled nay none is) = bare_as t d new is h
bare_closes t users d new rest told (inl fresh) h (Ended left q said takes answers ends) = bare_answer t users d new q said fresh h answers
bare_closes t users d new rest told (inr none) h (Ended left q said takes answers ends) =
    absurd (some_text takes.text q (limited_is takes.text q takes.spelled) (front_empty takes.text left (sym takes.whole ∙ none)))
  where
    front_empty : (a b : List ℕ) → a ++ b ≡ [] → a ≡ []
    front_empty [] b e = refl
    front_empty (x ∷ a) b e = absurd (let clash : x ∷ (a ++ b) ≡ [] = e in cc)

bare_all : (t : Table) (users : List Entry) (d mid new : RequestContext) (requests : List Request) (rest : List ℕ) (told last : List Reply) → AtMostOne requests rest → d.session.greeted ≡ false → IsBare t d → AnswersAll users d requests told mid → FeedEndsSession users mid rest last new → IsBare t new
bare_all t users d mid new requests rest told last (NoRequest are) fresh h a closes =
    let x : AnswersAll users d [] told mid = subst (λ (l : List Request). AnswersAll users d l told mid) are a in
    bare_closes t users mid new rest last (inl (ap (λ (c : RequestContext). c.session.greeted) x.1 ∙ fresh)) (bare_as t d mid x.1 h) closes
bare_all t users d mid new requests rest told last (OneRequest q are none) fresh h a closes =
    let x = by_answers users d mid q requests told are a in
    bare_closes t users mid new rest last (inr none) (bare_answer t users d mid q x.0 fresh h x.1) closes

over_place : (replies : List ℕ) (slot : SessionSlot DeviceState) → slot.session ≡ None → (new : SessionSlot DeviceState) → slot_if_open None replies slot ≡ Some new → new.number ≡ slot.number
over_place [] slot none new e = absurd (let clash : None ≡ Some new = e in cc)
over_place (b ∷ bytes) slot none new e = let same : slot ≡ new = (let both : Some slot ≡ Some new = e in cc) in ap (λ (x : SessionSlot DeviceState). x.number) (sym same)

over_session : (replies : List ℕ) (slot : SessionSlot DeviceState) → slot.session ≡ None → session_in (slot_if_open None replies slot) ≡ None
over_session [] slot none = refl
over_session (b ∷ bytes) slot none = none

pub is_garbled : (d e : Core) (n port : ℕ) (t : Table) (strings : StringSize) → IsAlone d n t (fresh_session strings port) → Feeds n d garbage Over e → IsEnded e n t
is_garbled d e n port t strings h f = by (f.over refl)
  where
    s : RequestSession DeviceState
    s = fresh_session strings port

    by : (session_of d n ≡ None) ⊎ EndsWithin n d garbage e → IsEnded e n t
    by (inl none) = absurd (let clash : None ≡ Some s = sym none ∙ session_is d n t s h in cc)
    by (inr x) =
        let so = x.feeds.so_far in
        let same : x.session ≡ s = unsome x.session s (sym x.stood ∙ session_is d n t s h) in
        let context : core_context d x.session ≡ context_of d t s = ap (core_context d) same ∙ ap (λ (r : Table). context_of d r s) h.registry in
        let whole : garbage ≡ so.reads.text ++ x.feeds.rest = ap (λ (l : List ℕ). l ++ garbage) (sym (input_is d n t s h)) ∙ so.reads.whole in
        let few = at_most_one garbage so.reads.text x.feeds.rest so.requests refl whole so.reads.spelled in
        let answers : AnswersAll d.users (context_of d t s) so.requests so.told x.feeds.mid = subst (λ (c : RequestContext). AnswersAll d.users c so.requests so.told x.feeds.mid) context so.answers in
        let bare = bare_all t d.users (context_of d t s) x.feeds.mid x.context so.requests x.feeds.rest so.told x.feeds.last few refl (record { registry = refl; held = refl }) answers x.feeds.closes in
        let after : SessionSlot DeviceState = record h.slot { input = no_input; replies = h.slot.replies ++ x.text; session = None } in
        record {
          place = ended_slot x.text h.slot;
          slots = x.slots ∙ (ap (on_session_slot (ended_slot x.text) n) h.slots ∙ on_there (ended_slot x.text) h.slot n h.number);
          number = λ slot is. over_place after.replies after refl slot is ∙ h.number;
          session = over_session after.replies after refl;
          opened = ap (λ (c : Core). c.opened) f.others.rest ∙ h.opened;
          registry = x.registry ∙ (ap (given_back x.context.registry) bare.held ∙ bare.registry);
        }
