-- The other calls of a daemon, for one of its sessions.
use Rattle.std.proofs.Common.{inl, inr, ◌≡◌, ◌∙◌, ℕ, List, [], Bool, true, false, Option, Some, None, option_map, refl, sym, ap, subst, cond}
use Rattle.device_api.specs.State.{DeviceState}
use Rattle.dispatch.specs.declared.table.place.Lease.{Lease}
use Rattle.dispatch.specs.Table.{Table}
use Rattle.saned_requests.specs.declared.session.DataPhase.{DataPhase as WordCarriage}
use Rattle.saned_requests.specs.declared.session.DataPhase.TheVariants as word
use Rattle.saned_requests.specs.declared.session.Session.{Session as RequestSession}
use Rattle.saned_requests.specs.Holding.{given_back, held_by}
use Rattle.saned_core.specs.declared.session_slot.DataStep.{DataStep}
use Rattle.saned_core.specs.declared.session_slot.SessionSlot.{SessionSlot}
use Rattle.saned_core.specs.DaemonStates.{Core, after_connected, after_lost, lost_from, no_more, on_session_slot, on_session, session_slot_of, session_in, session_let_go, session_of, with_session}
use Rattle.saned_core.specs.Turns.{StreamsFrom, StreamsIn, TurnsSessions}
use Rattle.saned_core.proofs.Apart.{apart}
use Rattle.system_model.specs.Devices.{Make}
use Rattle.system_model.specs.AbstractDevices.{AbstractDevice, is_held_by, device_let_go, put_down}
use Rattle.system_model.specs.Daemon.{TransferState, Quiet, Waiting, Streaming, Ending}
use Rattle.system_model.specs.Actions as actions
use Rattle.system_model.specs.Actions.{Action, device_after, image_off, left_by_loss, job_after_action}
use Rattle.system_model.specs.SystemStates.{JobState, with_entry}
use Rattle.system_model.specs.AbstractSessions.{AbstractSession}
use Rattle.daemon_refines.specs.ContextRefinement.{ContextRefines, TableRefines}
use Rattle.daemon_refines.specs.DataRefinement.{transfer_connected, off_at}
use Rattle.daemon_refines.specs.OtherSessions.{IsHeldByNoOther, LeavesOthers}
use Rattle.daemon_refines.specs.Failures.{IsCountedAt}
use Rattle.daemon_refines.specs.Feeds.{IsSessionBegun}
use Rattle.daemon_refines.specs.Streams.{SendsAs, StreamServed}
use Rattle.daemon_refines.specs.Cores.{SessionRefines}
use Rattle.saned_core.specs.Feeding.{core_context}
use Rattle.daemon_refines.specs.CoreCalls.{CoreConnects, CoreEnds, CoreLoses, CoreTurned, CoreTurns, CoreTurnsOff, SessionRefinesAs}
use Rattle.daemon_refines.proofs.DataLinks.{connects_agree, loss_agrees}
use Rattle.daemon_refines.proofs.Cores.{Behind, own_slot, stands_as}
use Rattle.daemon_refines.proofs.SessionEndings.{ends}
use Rattle.daemon_refines.proofs.Leaves.{AreKept, IsKept, changed, ends_leave, has_own, held_own, kept, leaves_kept, put_one}
use Rattle.daemon_refines.proofs.Moved.{unsome}
use Rattle.daemon_refines.proofs.OtherSessions.{leaves_all}
use Rattle.daemon_refines.proofs.SessionTurns.{endings_agree, streams_agree}

-- ---- a call that changes one session, and no table

-- what becomes of the slot of a number
abbrev Becomes : (SessionSlot DeviceState → Option (SessionSlot DeviceState)) → RequestSession DeviceState → RequestSession DeviceState → Type 0
Becomes f session now = (slot : SessionSlot DeviceState) → slot.session ≡ Some session → (new : SessionSlot DeviceState) × (f slot ≡ Some new) × (new.number ≡ slot.number) × (new.session ≡ Some now)

session_behind : (f : SessionSlot DeviceState → Option (SessionSlot DeviceState)) (n : ℕ) (slots : List (Option (SessionSlot DeviceState))) (o : Option (SessionSlot DeviceState)) (session now : RequestSession DeviceState) → session_slot_of slots n ≡ o → session_in o ≡ Some session → Becomes f session now → session_in (session_slot_of (on_session_slot f n slots) n) ≡ Some now
session_behind f n slots None session now e is b = absurd (let clash : None ≡ Some session = is in cc)
session_behind f n slots (Some slot) session now e is b =
    let new = b slot is in
    ap session_in (own_slot f n slots slot new.0 e new.1 new.2) ∙ new.3

abbrev KeepsNumber : (SessionSlot DeviceState → Option (SessionSlot DeviceState)) → Type 0
KeepsNumber f = (slot new : SessionSlot DeviceState) → f slot ≡ Some new → new.number ≡ slot.number

one_changed : (f : SessionSlot DeviceState → Option (SessionSlot DeviceState)) (i : ℕ) (make : ℕ → Make) (n : ℕ) (old new : Core) (table devices : ℕ → AbstractDevice) (s u : AbstractSession) (now : RequestSession DeviceState) → (stands : SessionRefines i make old n table s) → new ≡ record old { slots = on_session_slot f n old.slots } → KeepsNumber f →
    Becomes f stands.session now → ContextRefines i make (core_context old now) devices u → IsSessionBegun (core_context old now) → LeavesOthers i old.registry old.registry table devices → SessionRefinesAs i make n old new table devices u
one_changed f i make n old new table devices s u now stands is number becomes shows begun leaves =
    subst (λ (c : Core). SessionRefinesAs i make n old c table devices u) (sym is) (record {
      own = record { session = now; stands = session_behind f n old.slots (session_slot_of old.slots n) stands.session now refl stands.stands becomes; shows = shows; begun = begun };
      others = λ j m v apart_i apart_n h.
          stands_as i j m make old (record old { slots = on_session_slot f n old.slots }) table devices v apart_i (ap session_in (apart old.slots f n m number (λ e. apart_n (sym e)))) (record { held = now.held; shows = shows.devices; others = leaves }) h;
    })

on_number : (g : RequestSession DeviceState → RequestSession DeviceState) → KeepsNumber (on_session g)
on_number g slot new e = ap (λ (x : SessionSlot DeviceState). x.number) (sym (unsome (record slot { session = option_map g slot.session }) new e))

on_becomes : (g : RequestSession DeviceState → RequestSession DeviceState) (session : RequestSession DeviceState) → Becomes (on_session g) session (g session)
on_becomes g session slot is = (record slot { session = option_map g slot.session }, refl, refl, ap (option_map g) is)

-- ---- its data connection

pub core_connects : CoreConnects
core_connects i make n old new table s stands is =
    one_changed (on_session after_connected) i make n old new table table s (record s { transfer = transfer_connected s.transfer }) (after_connected stands.session) stands is (on_number after_connected) (on_becomes after_connected stands.session)
    (connects_agree i make (core_context old stands.session) table s stands.shows) stands.begun (leaves_all i old.registry table)

lost_begun : (old : Core) (session : RequestSession DeviceState) (c : WordCarriage) → IsSessionBegun (core_context old session) → IsSessionBegun (core_context old (lost_from c session))
lost_begun old session word.Quiet h = h
lost_begun old session (word.Waiting w) h = h
lost_begun old session (word.Streaming w) h = h
lost_begun old session word.Ending h = h

-- a frame's device that is cancelled
put_down_kept : (i : ℕ) (dev : AbstractDevice) (b : Bool) → (b ≡ true → IsHeldByNoOther i dev.holder) → IsKept i dev (cond b (put_down dev) dev)
put_down_kept i dev true h = changed i dev (put_down dev) (h refl) refl refl
put_down_kept i dev false h = kept i dev

image_kept : (i : ℕ) (c : TransferState) (dev : AbstractDevice) → IsKept i dev (image_off i c dev)
image_kept i Quiet dev = kept i dev
image_kept i Waiting dev = kept i dev
image_kept i Streaming dev = put_down_kept i dev (is_held_by i dev.holder) (λ e. held_own i dev.holder e)
image_kept i Ending dev = kept i dev

off_kept : (i : ℕ) (c : TransferState) (table : ℕ → AbstractDevice) (o : Option ℕ) → AreKept i table (off_at i c table o)
off_kept i c table None k = kept i (table k)
off_kept i c table (Some p) k = put_one i table p (image_off i c (table p)) (image_kept i c (table p)) k

pub core_loses : CoreLoses
core_loses i make n old new table s stands is =
    let devices = off_at i s.transfer table (s.words s.framed) in
    one_changed (on_session after_lost) i make n old new table devices s (record s { transfer = left_by_loss s.transfer }) (after_lost stands.session) stands is (on_number after_lost) (on_becomes after_lost stands.session)
    (loss_agrees i make (core_context old stands.session) table s stands.shows) (lost_begun old stands.session stands.session.transfer stands.begun)
    (leaves_kept i old.registry table devices (off_kept i s.transfer table (s.words s.framed)))

-- ---- a turn

same_begun : (old : Core) (session now : RequestSession DeviceState) → now.greeted ≡ session.greeted → now.awaited ≡ session.awaited → IsSessionBegun (core_context old session) → IsSessionBegun (core_context old now)
same_begun old session now e f (inl greeted) = inl (e ∙ greeted)
same_begun old session now e f (inr none) = inr (f ∙ none)

from_begun : (old : Core) (h : Option (Lease DeviceState)) (w : ℕ) (session now : RequestSession DeviceState) (step : DataStep) (buf : List ℕ) → StreamsFrom h w session step now buf → IsSessionBegun (core_context old session) → IsSessionBegun (core_context old now)
from_begun old None w session now step buf g h = same_begun old session now (ap (λ (x : RequestSession DeviceState). x.greeted) g.1) (ap (λ (x : RequestSession DeviceState). x.awaited) g.1) h
from_begun old (Some l) w session now step buf g h = same_begun old session now (ap (λ (x : RequestSession DeviceState). x.greeted) g.new_is) (ap (λ (x : RequestSession DeviceState). x.awaited) g.new_is) h

-- the actions of a turn keep their device
turn_kept : (i : ℕ) (k : Make) (listed : List ℕ) (p : JobState) (dev : AbstractDevice) (step : DataStep) (buf : List ℕ) (action : Action) → SendsAs step buf action → IsHeldByNoOther i dev.holder → IsKept i dev (device_after i k listed p dev action)
turn_kept i k listed p dev step buf actions.Connects sends own = absurd sends
turn_kept i k listed p dev step buf (actions.Answers challenge fault) sends own = absurd sends
turn_kept i k listed p dev step buf (actions.Hears r) sends own = absurd sends
turn_kept i k listed p dev step buf actions.Dials sends own = absurd sends
turn_kept i k listed p dev step buf (actions.Turns bytes) sends own = changed i dev _ own refl refl
turn_kept i k listed p dev step buf actions.TurnsLast sends own = changed i dev _ own refl refl
turn_kept i k listed p dev step buf (actions.TurnsNamed name) sends own = changed i dev _ own refl refl
turn_kept i k listed p dev step buf actions.TurnsShort sends own = changed i dev _ own refl refl
turn_kept i k listed p dev step buf (actions.TurnsFault fault) sends own = changed i dev _ own refl refl
turn_kept i k listed p dev step buf actions.TurnsOff sends own = kept i dev
turn_kept i k listed p dev step buf (actions.Reads bytes) sends own = absurd sends
turn_kept i k listed p dev step buf (actions.Finishes name) sends own = absurd sends
turn_kept i k listed p dev step buf (actions.Loses memory) sends own = absurd sends
turn_kept i k listed p dev step buf (actions.LosesImage memory) sends own = absurd sends
turn_kept i k listed p dev step buf (actions.Breaks memory) sends own = absurd sends
turn_kept i k listed p dev step buf actions.RunsOutOfMemory sends own = absurd sends
turn_kept i k listed p dev step buf actions.Stops sends own = absurd sends

same_session : (a b : RequestSession DeviceState) → ◌≡◌ {A = Option (RequestSession DeviceState)} (Some a) (Some b) → a ≡ b
same_session a b e = cc

turned : (i : ℕ) (make : ℕ → Make) (n : ℕ) (old new : Core) (table : ℕ → AbstractDevice) (s : AbstractSession) (listed : List ℕ) (p : JobState) (place : ℕ) (step : DataStep) (buf : List ℕ) (now : RequestSession DeviceState) → (stands : SessionRefines i make old n table s) → new ≡ record old { slots = on_session_slot (with_session now) n old.slots } → IsSessionBegun (core_context old now) →
    (t : StreamServed i make (core_context old stands.session) table s listed p place step now buf) → IsKept i (table place) (device_after i (make place) listed p (table place) t.action) → CoreTurned i make n old new table s listed p place step buf
turned i make n old new table s listed p place step buf now stands is begun t keeps =
    let dev = device_after i (make place) listed p (table place) t.action in
    let there : session_of new n ≡ Some now = ap (λ (c : Core). session_of c n) is ∙ session_behind (with_session now) n old.slots (session_slot_of old.slots n) stands.session now refl stands.stands (λ slot going. (record slot { session = Some now }, refl, refl, refl)) in
    record {
      action = t.action;
      may = t.may;
      sends = t.sends;
      counted = λ a b first last.
          subst (λ (x : RequestSession DeviceState). IsCountedAt x.held b.held s.words place t.action) (same_session stands.session a (sym stands.stands ∙ first))
          (subst (λ (x : RequestSession DeviceState). IsCountedAt stands.session.held x.held s.words place t.action) (same_session now b (sym there ∙ last)) t.counted);
      stands = one_changed (with_session now) i make n old new table (with_entry table place dev) s _ now stands is (λ slot next e. ap (λ (x : SessionSlot DeviceState). x.number) (sym (unsome (record slot { session = Some now }) next e)))
          (λ slot going. (record slot { session = Some now }, refl, refl, refl)) t.shows begun (leaves_kept i old.registry table (with_entry table place dev) (put_one i table place dev keeps));
    }

-- the session behind a turn
behind_turn : (old new : Core) (n : ℕ) (now : RequestSession DeviceState) → new ≡ record old { slots = new.slots } → new.slots ≡ on_session_slot (with_session now) n old.slots → new ≡ record old { slots = on_session_slot (with_session now) n old.slots }
behind_turn old new n now is slots = is ∙ ap (λ (x : List (Option (SessionSlot DeviceState))). record old { slots = x }) slots

turned_in : (i : ℕ) (make : ℕ → Make) (n : ℕ) (old new : Core) (table : ℕ → AbstractDevice) (s : AbstractSession) (listed : List ℕ) (p : JobState) (w : ℕ) (step : DataStep) (buf : List ℕ) → (stands : SessionRefines i make old n table s) → p.session.transfer ≡ s.transfer → stands.session.transfer ≡ word.Streaming w →
    new ≡ record old { slots = new.slots } → TurnsSessions (Some stands.session) n old.slots step new.slots buf → (place : ℕ) × (s.words w ≡ Some place) × CoreTurned i make n old new table s listed p place step buf
turned_in i make n old new table s listed p w step buf stands same streams is (now, g, slots) =
    let t = streams_agree i make (core_context old stands.session) table s listed p w step now buf stands.shows same streams g in
    let from : StreamsFrom (held_by stands.session.held w) w stands.session step now buf = subst (λ (c : WordCarriage). StreamsIn c stands.session step now buf) streams g in
    let own : IsHeldByNoOther i (table t.0).holder = has_own i make stands.session.held old.registry table s stands.shows.devices stands.shows.words w t.0 t.1 in (
      t.0,
      t.1,
      turned i make n old new table s listed p t.0 step buf now stands (behind_turn old new n now is slots) (from_begun old (held_by stands.session.held w) w stands.session now step buf from stands.begun) t.2
          (turn_kept i (make t.0) listed p (table t.0) step buf t.2.action t.2.sends own),
    )

turned_off : (i : ℕ) (make : ℕ → Make) (n : ℕ) (old new : Core) (table : ℕ → AbstractDevice) (s : AbstractSession) (listed : List ℕ) (p : JobState) (place : ℕ) (step : DataStep) (buf : List ℕ) → (stands : SessionRefines i make old n table s) → p.session.transfer ≡ s.transfer → stands.session.transfer ≡ word.Ending →
    new ≡ record old { slots = new.slots } → TurnsSessions (Some stands.session) n old.slots step new.slots buf → (t : CoreTurned i make n old new table s listed p place step buf) × (t.action ≡ actions.TurnsOff)
unfolding turned
turned_off i make n old new table s listed p place step buf stands same off is (now, g, slots) =
    let t = endings_agree i make (core_context old stands.session) table s listed p place step now buf stands.shows same off g in
    let ended : now ≡ record stands.session { transfer = word.Quiet } = (subst (λ (c : WordCarriage). StreamsIn c stands.session step now buf) off g).1 in
    let keeps : IsKept i (table place) (device_after i (make place) listed p (table place) t.0.action) = subst (λ (x : Action). IsKept i (table place) (device_after i (make place) listed p (table place) x)) (sym t.1) (kept i (table place)) in
    (turned i make n old new table s listed p place step buf now stands (behind_turn old new n now is slots) (same_begun old stands.session now (ap (λ (x : RequestSession DeviceState). x.greeted) ended) (ap (λ (x : RequestSession DeviceState). x.awaited) ended) stands.begun) t.0 keeps, t.1)

pub core_turns_off : CoreTurnsOff
core_turns_off i make n old new table s listed p place step buf stands same off g =
    turned_off i make n old new table s listed p place step buf stands same off g.others (subst (λ (o : Option (RequestSession DeviceState)). TurnsSessions o n old.slots step new.slots buf) stands.stands g.slots)

pub core_turns : CoreTurns
core_turns i make n old new table s listed p w step buf stands same streams g =
    turned_in i make n old new table s listed p w step buf stands same streams g.others (subst (λ (o : Option (RequestSession DeviceState)). TurnsSessions o n old.slots step new.slots buf) stands.stands g.slots)

-- ---- an end

none_number : KeepsNumber no_more
none_number slot new e = absurd (let clash : None ≡ Some new = e in cc)

pub core_ends : CoreEnds
core_ends i make n old new table s stands is =
    let d = core_context old stands.session in
    let devices : ℕ → AbstractDevice = λ k. device_let_go i (table k) in
    let registry : new.registry ≡ given_back old.registry stands.session.held = ap (λ (c : Core). c.registry) is ∙ ap (session_let_go old.registry) stands.stands in
    let shows = ends i make stands.session.held old.registry table stands.shows.devices in
    let leaves = ends_leave i make stands.session.held old.registry table stands.shows.devices in
    record {
      own = subst (λ (t : Table). TableRefines i make [] t devices) (sym registry) shows;
      others = λ j m u apart_i apart_n h.
          let same : session_of new m ≡ session_of old m = ap (λ (c : Core). session_of c m) is ∙ ap session_in (apart old.slots no_more n m none_number (λ e. apart_n (sym e))) in
          stands_as i j m make old new table devices u apart_i same (subst (λ (t : Table). Behind i make old.registry t table devices) (sym registry) (record { held = []; shows = shows; others = leaves })) h;
    }
