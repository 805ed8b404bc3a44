-- Of the requests that are answered within one delivery a START comes first: so the page stays.
use Rattle.std.specs.Prelude.{slice_get, is_some, not}
use Rattle.std.specs.List.{AllByRecursion}
use Rattle.std.proofs.Common.{◌≡◌, ◌∙◌, ◌⊎◌, ℕ, List, [], ◌∷◌, ◌++◌, Bool, true, false, Option, Some, None, inl, inr, refl, sym, ap, subst}
use Rattle.page_sources.specs.SourceView.{source_state}
use Rattle.md5_auth.specs.declared.users.Entry.{Entry}
use Rattle.wire_message.specs.declared.message.Reply.{Reply}
use Rattle.wire_message.specs.declared.message.Request.{Request}
use Rattle.device_api.specs.State.{DeviceState, is_at_rest, page_of}
use Rattle.saned_requests.specs.declared.session.Session.{Session}
use Rattle.saned_requests.specs.Holding.{held_by}
use Rattle.saned_requests.specs.RequestAnswers.{RequestContext}
use Rattle.saned_core.specs.declared.session_slot.Fed.{Fed}
use Rattle.saned_core.specs.declared.session_slot.Fed.TheVariants as feds
use Rattle.saned_core.specs.declared.session_slot.SessionId.{SessionId}
use Rattle.saned_core.specs.declared.session_slot.SessionSlot.{SessionSlot}
use Rattle.saned_core.specs.DaemonStates.{Core, session_in, session_of, session_slot_of}
use Rattle.saned_core.specs.Feeding.{AnswersAll, DecodesRequests, FeedProgress, Feeds, answered_slot, core_context, input_in}
use Rattle.scan_job.specs.declared.job.Job.{Job}
use Rattle.system_model.specs.AbstractMessages as words
use Rattle.system_model.specs.AbstractMessages.{AbstractRequest}
use Rattle.option_desc.specs.declared.descriptor.Descriptor.{Descriptor}
use Rattle.wire_message.specs.declared.message.Request.TheVariants as requests
use Rattle.client_replies.specs.ProtocolStates.{target_of}
use Rattle.client_replies.specs.declared.progress.JobTarget.{JobTarget}
use Rattle.client_refines.specs.RequestRefinement.{AreRequests, IsRequest, asks_of}
use Rattle.world_refines.specs.Speaks.{SetsAsHeld, SetsNothing}
use Rattle.world_refines.proofs.state.Held.{behind}
use Rattle.system_model.specs.AbstractDevices.{AbstractDevice}
use Rattle.system_model.specs.AbstractSessions.{AbstractSession}
use Rattle.system_model.specs.Devices.{Make}
use Rattle.system_model.specs.SystemStates.{make_for, device_for}
use Rattle.event_world.specs.declared.endpoint.Endpoint.{Endpoint}
use Rattle.event_world.specs.declared.event.Event.{Event}
use Rattle.event_world.specs.declared.event.Event.TheVariants as events
use Rattle.event_world.specs.declared.event.JobEvent.TheVariants.{ToDaemon}
use Rattle.event_world.specs.JobEvents.{FeedsPiece, delivered_bytes, after_fed, without_sent}
use Rattle.event_world.specs.Worlds.{AtEndpoint, Leads, Runs, WorldCore}
use Rattle.event_world.proofs.Deciding.{can_or_not}
use Rattle.world_refines.specs.GhostStates.{Ghost}
use Rattle.world_refines.specs.WorldRefinement.{IsServed, WorldRefines, session_by, slot_of_link}
use Rattle.world_refines.specs.Wires.{SpellsAsked}
use Rattle.world_refines.proofs.requests.RequestDeliveries.{cut_piece}
use Rattle.strangers.specs.Together.{AllIsKeptAmongStrangers}
use Rattle.strangers.specs.Together.JointEvent.{OfJobs}
use Rattle.scan_world.specs.Histories.{History, LedTo, and_then, history_up_to}
use Rattle.scan_world.specs.Calls.{PageStays, StartsOnFirst}
use Rattle.scan_world.proofs.Scanned.{kept_by}
use Rattle.scan_world.specs.Sessions.{Has, SessionAt}
use Rattle.scan_world.proofs.moments.Entries.{set_here, unsome}
use Rattle.scan_world.proofs.moments.Asking.{IsStartOf, OneStays, held_one, request_stays}
use Rattle.scan_world.proofs.moments.Holder.{no_endpoints}
use Rattle.scan_world.proofs.moments.Others.{decide}
use Rattle.scan_world.proofs.moments.Paging.{NotAsked, linked_as, slot_session, unasked_page}
use Rattle.scan_world.proofs.moments.Stands.{one_lease, served_at}

-- ---- one request behind another

-- what the first leaves, and none of the others starts a page
stays_then : (F : Type 0) (s m t : Session DeviceState) → OneStays F s m → OneStays ⊥ m t → OneStays F s t
stays_then F s m t a b word new at busy =
    let r = b word new at busy in
    elim r.4 [
      | inl never ↦ absurd never
      | inr still ↦ let q = a word r.0 r.1 still in (q.0, q.1, r.2 ∙ q.2, r.3 ∙ q.3, q.4)
    ]

stays_as : (F G : Type 0) (s t : Session DeviceState) → (F → G) → OneStays F s t → OneStays G s t
stays_as F G s t f a word new at busy =
    let r = a word new at busy in (
      r.0,
      r.1,
      r.2,
      r.3,
      elim r.4 [
        | inl x ↦ inl (f x)
        | inr still ↦ inr still
      ],
    )

abbrev StartNone : List Request → Type 0
StartNone qs = AllByRecursion (λ (q : Request). IsStartOf q → ⊥) qs

all_after : (users : List Entry) (d : RequestContext) (qs : List Request) (told : List Reply) (new : RequestContext) → StartNone qs → AnswersAll users d qs told new → OneStays ⊥ d.session new.session
all_after users d [] told new none h = held_one ⊥ d.session new.session (ap (λ (x : RequestContext). x.session.held) h.1)
all_after users d (q ∷ qs) told new none h = stays_then ⊥ d.session h.1.session new.session (stays_as (IsStartOf q) ⊥ d.session h.1.session none.0 (request_stays users d q h.0 h.1 h.3)) (all_after users h.1 qs h.2 new none.1 h.5)

abbrev StartsFirst : List Request → Type 0
StartsFirst [] = Unit {0}
StartsFirst (q ∷ qs) = StartNone qs

all_answered : (users : List Entry) (d : RequestContext) (qs : List Request) (told : List Reply) (new : RequestContext) → StartsFirst qs → AnswersAll users d qs told new → OneStays (Unit {0}) d.session new.session
all_answered users d [] told new first h = held_one (Unit {0}) d.session new.session (ap (λ (x : RequestContext). x.session.held) h.1)
all_answered users d (q ∷ qs) told new first h = stays_then (Unit {0}) d.session h.1.session new.session (stays_as (IsStartOf q) (Unit {0}) d.session h.1.session (λ x. tt) (request_stays users d q h.0 h.1 h.3)) (all_after users h.1 qs h.2 new first h.5)

-- ---- a START is the first that is on the way

abbrev StartsSo : AbstractRequest → Type 0
StartsSo words.Start = Unit {0}
StartsSo q = ⊥

abbrev StartsNo : List AbstractRequest → Type 0
StartsNo qs = AllByRecursion (λ (q : AbstractRequest). StartsSo q → ⊥) qs

none_of : (first others : List AbstractRequest) → SetsNothing (first ++ others) → StartsNo first
none_of [] others h = tt
none_of (words.Set n value ∷ first) others h = absurd h
none_of (words.Start ∷ first) others h = absurd h
none_of (q ∷ first) others h = (λ x. x, none_of first others h)

start_is : (target : JobTarget) (known : List Descriptor) (q : Request) (r : AbstractRequest) → IsRequest target 0 known q r → IsStartOf q → StartsSo r
start_is target known (requests.Start device) words.Start h is = tt
start_is target known (requests.Start device) r h is = absurd h
start_is target known q r h is = absurd is

none_asked : (target : JobTarget) (known : List Descriptor) (qs : List Request) (rs : List AbstractRequest) → AreRequests target qs (asks_of 0 known rs) → StartsNo rs → StartNone qs
none_asked target known [] [] h none = tt
none_asked target known [] (r ∷ rs) h none = absurd h
none_asked target known (q ∷ qs) [] h none = absurd h
none_asked target known (q ∷ qs) (r ∷ rs) h none = (λ is. none.0 (start_is target known q r h.0 is), none_asked target known qs rs h.1 none.1)

starts_first : (i : ℕ) (k : Make) (dev : AbstractDevice) (target : JobTarget) (known : List Descriptor) (todo : List AbstractRequest) (qs : List Request) (first others : List AbstractRequest) → todo ≡ first ++ others → SetsAsHeld i k known dev todo → AreRequests target qs (asks_of 0 known first) → StartsFirst qs
starts_first i k dev target known todo [] first others e held are = tt
starts_first i k dev target known todo (q ∷ qs) [] others e held are = absurd are
starts_first i k dev target known todo (q ∷ qs) (r ∷ first) others e held are =
    none_asked target known qs first are.1 (none_of first others (behind i k known dev r (first ++ others) (subst (SetsAsHeld i k known dev) e held)))

asked_one : (t : Ghost) (w : WorldCore) (i n : ℕ) (p : Endpoint) (id : SessionId) (s : Session DeviceState) (now : FeedProgress) (requests : List Request) (told : List Reply) → WorldRefines t w → slice_get w.endpoints i ≡ Some p → p.link ≡ Some id → session_of w.daemon id.number ≡ Some s →
    DecodesRequests (input_in (session_slot_of w.daemon.slots id.number)) (delivered_bytes n p.client.out) requests now.rest → AnswersAll w.daemon.users (core_context w.daemon s) requests told now.context → OneStays (Unit {0}) s now.context.session
asked_one t w i n p id s now requests told h at link stands reads answers =
    let e = h.endpoints i p at in
    let me = t.system.job i in
    let served = served_at t w i s h (record { endpoint = p; is_there = at; id = id; linked = link; stands = stands }) in
    let asking : input_in (session_slot_of w.daemon.slots id.number) ≡ (t.wires i).asking = sym (ap (λ (l : Option SessionId). input_in (slot_of_link w.daemon l)) link) ∙ e.carries.asking in
    let spells : SpellsAsked (t.jobs i) me.client me.todo (input_in (session_slot_of w.daemon.slots id.number) ++ p.client.out) =
    subst (λ (x : List ℕ). SpellsAsked (t.jobs i) me.client me.todo (x ++ p.client.out)) (sym asking) (subst (λ (y : List ℕ). SpellsAsked (t.jobs i) me.client me.todo ((t.wires i).asking ++ y)) (sym e.carries.up) (e.means.up served)) in
    let c = cut_piece (t.jobs i) me.client me.todo (input_in (session_slot_of w.daemon.slots id.number)) p.client.out n requests reads.text now.rest spells reads.whole reads.spelled in
    all_answered w.daemon.users (core_context w.daemon s) requests told now.context (starts_first i (make_for t.system i) (device_for t.system i) (target_of (t.jobs i)) me.client.known me.todo requests c.first c.others c.are (h.asks i) c.of_first) answers

-- ---- the session behind the delivery

abbrev Slot : Type 0
Slot = SessionSlot DeviceState

-- it goes on, and has what it had; or it is over
abbrev Goes_one : Core → Endpoint → SessionId → Session DeviceState → Type 0
Goes_one e q id s = (q.is_over ≡ true) ⊎ ((t : Session DeviceState) × (q.link ≡ Some id) × (session_of e id.number ≡ Some t) × OneStays (Unit {0}) s t)

fed_on : (t : Ghost) (w v : WorldCore) (i n : ℕ) (p q : Endpoint) (id : SessionId) (s : Session DeviceState) (fed : Fed) → WorldRefines t w → slice_get w.endpoints i ≡ Some p → p.link ≡ Some id → session_of w.daemon id.number ≡ Some s → Feeds id.number w.daemon (delivered_bytes n p.client.out) fed v.daemon → q ≡ after_fed fed (without_sent n p) → Goes_one v.daemon q id s
fed_on t w v i n p q id s feds.Over h at link stands f is = inl (ap (λ (x : Endpoint). x.is_over) is)
fed_on t w v i n p q id s feds.Starved h at link stands f is = inl (ap (λ (x : Endpoint). x.is_over) is)
fed_on t w v i n p q id s feds.Standing h at link stands f is =
    let a = f.standing refl in
    let one : a.session ≡ s = unsome a.session s (sym a.stood ∙ stands) in
    let answers : AnswersAll w.daemon.users (core_context w.daemon s) a.feeds.so_far.requests a.feeds.so_far.told a.now.context = subst (λ (x : Session DeviceState). AnswersAll w.daemon.users (core_context w.daemon x) a.feeds.so_far.requests a.feeds.so_far.told a.now.context) one a.feeds.so_far.answers in
    let stays = asked_one t w i n p id s a.now a.feeds.so_far.requests a.feeds.so_far.told h at link stands a.feeds.so_far.reads answers in
    inr (a.now.context.session, ap (λ (x : Endpoint). x.link) is ∙ link, ap (λ (x : List (Option Slot)). session_in (session_slot_of x id.number)) a.slots ∙ slot_session (answered_slot a.now) id.number w.daemon.slots (session_slot_of w.daemon.slots id.number) s a.now.context.session refl stands (λ slot there. (_, refl, refl, refl)), stays)

delivered : (t : Ghost) (w v : WorldCore) (i n : ℕ) (p q : Endpoint) (id : SessionId) (s : Session DeviceState) → WorldRefines t w → slice_get w.endpoints i ≡ Some p → p.link ≡ Some id → session_of w.daemon id.number ≡ Some s → (v.daemon ≡ w.daemon) × (q ≡ p) ⊎ FeedsPiece id.number n w.daemon p v.daemon q → Goes_one v.daemon q id s
delivered t w v i n p q id s h at link stands (inl same) = inr (s, ap (λ (x : Endpoint). x.link) same.1 ∙ link, ap (λ (x : Core). session_of x id.number) same.0 ∙ stands, held_one (Unit {0}) s s refl)
delivered t w v i n p q id s h at link stands (inr f) = fed_on t w v i n p q id s f.0 h at link stands f.1 f.2

-- ---- the page

-- a session that stands is not over
not_over : (u : Ghost) (v : WorldCore) (i : ℕ) (s : Session DeviceState) → WorldRefines u v → (a : SessionAt v i s) → a.endpoint.is_over ≡ true → ⊥
not_over u v i s h a over =
    let e = h.endpoints i a.endpoint a.is_there in
    let linked : (u.system.job i).linked ≡ true = e.means.linked ∙ ap is_some a.linked in
    let served = served_at u v i s h a in
    let clash : true ≡ false = sym over ∙ (e.means.over linked ∙ ap not served) in cc

abbrev Had : WorldCore → ℕ → List ℕ → DeviceState → Type 0
Had w i name b = (d : DeviceState) × Has w i name d × (page_of b ≡ page_of d)

by_goes : (u : Ghost) (w v : WorldCore) (i : ℕ) (name : List ℕ) (a b : DeviceState) → WorldRefines u v → (x : Has w i name a) (q : Endpoint) → slice_get v.endpoints i ≡ Some q → Has v i name b → is_at_rest b.phase ≡ false → Goes_one v.daemon q x.at.id x.session → Had w i name b
by_goes u w v i name a b g x q at y busy (inl over) =
    let one : y.at.endpoint ≡ q = unsome y.at.endpoint q (sym y.at.is_there ∙ at) in
    absurd (not_over u v i y.session g y.at (ap (λ (p : Endpoint). p.is_over) one ∙ over))
by_goes u w v i name a b g x q at y busy (inr (t, link, session, stays)) =
    let one : y.at.endpoint ≡ q = unsome y.at.endpoint q (sym y.at.is_there ∙ at) in
    let id : y.at.id ≡ x.at.id = unsome y.at.id x.at.id (sym y.at.linked ∙ (ap (λ (p : Endpoint). p.link) one ∙ link)) in
    let same : y.session ≡ t = unsome y.session t (sym y.at.stands ∙ (ap (λ (z : SessionId). session_of v.daemon z.number) id ∙ session)) in
    let held : held_by t.held y.word ≡ Some y.lease = ap (λ (z : Session DeviceState). held_by z.held y.word) (sym same) ∙ y.held in
    let r = stays y.word y.lease held (ap (λ (d : DeviceState). is_at_rest d.phase) y.is ∙ busy) in
    (r.0.device, record { session = x.session; at = x.at; word = y.word; lease = r.0; held = r.1; is = refl; named = sym r.2 ∙ (ap (λ (d : DeviceState). d.info.name) y.is ∙ y.named) }, ap page_of (sym y.is) ∙ r.3)

asked_page : (t u : Ghost) (w v : WorldCore) (i n : ℕ) (name : List ℕ) (a b : DeviceState) → WorldRefines t w → WorldRefines u v → AtEndpoint w i (ToDaemon n) v → Has w i name a → Has v i name b → is_at_rest b.phase ≡ false → page_of b ≡ page_of a
asked_page t u w v i n name a b h g at x y busy =
    let p = x.at.endpoint in
    let m = at.happens p x.at.is_there in
    let now : slice_get v.endpoints i ≡ Some m.0 = ap (λ (ps : List Endpoint). slice_get ps i) m.2 ∙ set_here w.endpoints i p m.0 x.at.is_there in
    let went : (v.daemon ≡ w.daemon) × (m.0 ≡ p) ⊎ FeedsPiece x.at.id.number n w.daemon p v.daemon m.0 = elim (can_or_not w.daemon p (ToDaemon n)) [
      | inl can ↦ inr (linked_as p.link (λ k. FeedsPiece k n w.daemon p v.daemon m.0) x.at.id x.at.linked (m.1.does can))
      | inr never ↦ inl (m.1.cannot never)
    ] in
    let had = by_goes u w v i name a b g x m.0 now y busy (delivered t w v i n p m.0 x.at.id x.session h x.at.is_there x.at.linked x.at.stands went) in
    had.2 ∙ ap page_of (sym (one_lease t w i name a had.0 h x had.1).0)

by_jobs : AllIsKeptAmongStrangers → (h : History) (w v : WorldCore) (i n : ℕ) (name : List ℕ) (a b : DeviceState) (l : LedTo h w) → LedTo (history_up_to h (h.events ++ OfJobs (events.ToDaemon i n) ∷ [])) v → AtEndpoint w i (ToDaemon n) v → Has w i name a → Has v i name b → is_at_rest b.phase ≡ false → (jobs : List Job) → h.jobs ≡ jobs → page_of b ≡ page_of a
by_jobs all h w v i n name a b l lv at x y busy [] is = absurd (let clash : None ≡ Some x.at.endpoint = ap (λ (ps : List Endpoint). slice_get ps i) (sym (no_endpoints h w l is)) ∙ x.at.is_there in cc)
by_jobs all h w v i n name a b l lv at x y busy (job ∷ jobs) is =
    let k = kept_by all h w job l in
    let m = kept_by all (history_up_to h (h.events ++ OfJobs (events.ToDaemon i n) ∷ [])) v job lv in
    asked_page k.run.ghost_then m.run.ghost_then w v i n name a b k.run.stands m.run.stands at x y busy

pub starts_on_first : AllIsKeptAmongStrangers → (h : History) (e : Event) (w v : WorldCore) → LedTo h w → LedTo (and_then h (e ∷ [])) v → Leads source_state e w v → StartsOnFirst e w v
starts_on_first all h e w v l lv leads i n name a b is x y busy =
    by_jobs all h w v i n name a b l (subst (λ (z : Event). LedTo (and_then h (z ∷ [])) v) is lv) (subst (λ (z : Event). Leads source_state z w v) is leads) x y busy h.jobs refl

-- a request of the job, or another event
asks_or_not : (e : Event) (i : ℕ) → ((n : ℕ) × (e ≡ events.ToDaemon i n)) ⊎ NotAsked e i
asks_or_not (events.ToDaemon j m) i = elim (decide j i) [
  | inl same ↦ inl (m, ap (λ (k : ℕ). events.ToDaemon k m) same)
  | inr other ↦ inr (λ n is. other (let both : events.ToDaemon j m ≡ events.ToDaemon i n = is in cc))
]
asks_or_not e i = inr (λ n is. (let clash : e ≡ events.ToDaemon i n = is in cc))

pub page_stays : AllIsKeptAmongStrangers → (h : History) (e : Event) (w v : WorldCore) → LedTo h w → LedTo (and_then h (e ∷ [])) v → Leads source_state e w v → PageStays e w v
page_stays all h e w v l lv leads i name a b x y was busy =
    elim (asks_or_not e i) [
      | inl asks ↦ starts_on_first all h e w v l lv leads i asks.0 name a b asks.1 x y busy
      | inr not_asked ↦ unasked_page all h w v i name a b e l lv not_asked (v, leads, refl) x y was busy
    ]
