-- Each call for a stranger's session.
use Rattle.std.proofs.Common.{◌≡◌, ◌≢◌, ◌∙◌, inl, inr, ℕ, List, [], ◌∷◌, Bool, true, false, Option, Some, None, option_map, refl, sym, ap, subst, cond, eqb, eqb-true, slice_get}
use Rattle.rand_chacha.specs.ChaCha.{ChaCha}
use Rattle.md5_auth.specs.declared.users.Entry.{Entry}
use Rattle.device_api.specs.State.{DeviceState}
use Rattle.dispatch.specs.Table.{Table}
use Rattle.dispatch.specs.declared.table.place.Place.{Place}
use Rattle.saned_requests.specs.declared.session.Session.{Session as RequestSession}
use Rattle.saned_requests.specs.Holding.{given_back}
use Rattle.saned_requests.specs.RequestAnswers.{RequestContext}
use Rattle.saned_core.specs.declared.session_slot.Fed.{Fed}
use Rattle.saned_core.specs.declared.session_slot.Fed.TheVariants.{Standing, Over, Starved}
use Rattle.saned_core.specs.declared.session_slot.SessionSlot.{SessionSlot}
use Rattle.saned_core.specs.DaemonStates.{Core, after_connected, after_end_session, after_lost, no_more, on_session, on_session_slot, session_in, session_let_go, session_of, session_slot_of}
use Rattle.saned_core.specs.Feeding.{Feeds, core_context, input_in}
use Rattle.saned_core.specs.Inside.{registry_after, slot_after_feed, slot_or_none_after_feed}
use Rattle.saned_core.proofs.Apart.{apart}
use Rattle.saned_core.proofs.FeedCases.{feeds_in}
use Rattle.system_model.specs.Devices.{Make}
use Rattle.system_model.specs.AbstractDevices.{AbstractDevice, device_let_go}
use Rattle.system_model.specs.AbstractSessions.{AbstractSession}
use Rattle.system_model.specs.Actions as actions
use Rattle.system_model.specs.Actions.{image_off}
use Rattle.system_model.specs.Daemon.{TransferState}
use Rattle.system_model.specs.SystemStates.{JobState, SessionView, with_entry}
use Rattle.system_model.proofs.Treats.{Treats, treats}
use Rattle.daemon_refines.specs.ContextRefinement.{ContextRefines, TableRefines}
use Rattle.daemon_refines.specs.DataRefinement.{off_at, transfer_connected}
use Rattle.daemon_refines.specs.OtherSessions.{IsHeldByNoOther, LeavesOthers, LeavesPlace}
use Rattle.daemon_refines.specs.Cores.{RefinesAfterFeed, SessionRefines, devices_behind}
use Rattle.daemon_refines.specs.Feeds.{IsFed}
use Rattle.daemon_refines.proofs.Changes.{Held}
use Rattle.daemon_refines.proofs.CoreCalls.{core_connects, core_ends, core_loses}
use Rattle.daemon_refines.proofs.Cores.{own_slot}
use Rattle.daemon_refines.proofs.FeedRefines.{feeds_agree}
use Rattle.daemon_refines.proofs.Leaves.{ends_leave}
use Rattle.daemon_refines.proofs.OtherSessions.{leaves_all}
use Rattle.event_world.specs.Worlds.{WorldCore}
use Rattle.world_refines.specs.GhostStates.{Ghost}
use Rattle.world_refines.proofs.state.CoreCallsKeep.{on_number}
use Rattle.strangers.specs.LeavingJobs.{IsStrangers, JobsStand, StrangersConnect, StrangersLeave, StrangersLoseData, StrangersSayAnything}
use Rattle.strangers.proofs.Leaving.{AllFit, AllLeft, off_left}
use Rattle.strangers.proofs.Treated.{all_let_go, fed_left, put_left}
use Rattle.strangers.proofs.Jobs.{Left, leaves_jobs}

-- ---- a piece of his bytes

-- what his session shows behind it, and what that leaves
record Shown (i : ℕ) (make : ℕ → Make) (registry now : Table) (table new : ℕ → AbstractDevice) : Type 0 where
  held : Held
  shows : TableRefines i make held now new
  others : LeavesOthers i registry now table new

shown : (fed : Fed) (i : ℕ) (make : ℕ → Make) (users : List Entry) (d : RequestContext) (table : ℕ → AbstractDevice) (s : AbstractSession) (old piece rest : List ℕ) (new : RequestContext) → (ran : IsFed fed i make users d table s old piece rest new) →
    Shown i make d.registry (registry_after fed new) table (devices_behind fed i make users d table s old piece rest new ran)
shown Standing i make users d table s old piece rest new ran = record { held = new.session.held; shows = ran.2.shows.devices; others = ran.2.others }
shown Over i make users d table s old piece rest new ran = record { held = []; shows = ran.3.back; others = ran.3.others }
shown Starved i make users d table s old piece rest new ran = record { held = []; shows = ran.3.back; others = ran.3.others }

going_on : (o : Option (SessionSlot DeviceState)) (session : RequestSession DeviceState) (slots : List (Option (SessionSlot DeviceState))) (n : ℕ) (context : RequestContext) (rest text : List ℕ) → session_slot_of slots n ≡ o → session_in o ≡ Some session → session_in (session_slot_of (on_session_slot (slot_or_none_after_feed Standing context rest text) n slots) n) ≡ Some context.session
going_on None session slots n context rest text e is = absurd (let clash : None ≡ Some session = is in cc)
going_on (Some slot) session slots n context rest text e is =
    ap session_in (own_slot (slot_or_none_after_feed Standing context rest text) n slots slot (slot_after_feed Standing context.session rest text slot) e refl refl)

own_behind : (fed : Fed) (i : ℕ) (make : ℕ → Make) (n : ℕ) (old new : Core) (session : RequestSession DeviceState) (table : ℕ → AbstractDevice) (s : AbstractSession) (input piece rest text : List ℕ) (context : RequestContext) → session_of old n ≡ Some session → new.slots ≡ on_session_slot (slot_or_none_after_feed fed context rest text) n old.slots →
    new.registry ≡ registry_after fed context → new.stream ≡ context.stream → (ran : IsFed fed i make old.users (core_context old session) table s input piece rest context) →
    RefinesAfterFeed fed i make new n (devices_behind fed i make old.users (core_context old session) table s input piece rest context ran)
own_behind Standing i make n old new session table s input piece rest text context stands slots registry stream ran = (
  ran.2.session,
  record {
    session = context.session;
    stands = ap (λ (x : List (Option (SessionSlot DeviceState))). session_in (session_slot_of x n)) slots ∙ going_on (session_slot_of old.slots n) session old.slots n context rest text refl stands;
    shows = subst (λ (t : Table). ContextRefines i make (record { session = context.session; registry = t; stream = new.stream }) ran.2.devices ran.2.session) (sym registry)
        (subst (λ (c : ChaCha). ContextRefines i make (record { session = context.session; registry = context.registry; stream = c }) ran.2.devices ran.2.session) (sym stream) ran.2.shows);
    begun = ran.2.begun;
  },
)
own_behind Over i make n old new session table s input piece rest text context stands slots registry stream ran = subst (λ (t : Table). TableRefines i make [] t (devices_behind Over i make old.users (core_context old session) table s input piece rest context ran)) (sym registry) ran.3.back
own_behind Starved i make n old new session table s input piece rest text context stands slots registry stream ran = subst (λ (t : Table). TableRefines i make [] t (devices_behind Starved i make old.users (core_context old session) table s input piece rest context ran)) (sym registry) ran.3.back

pub says_anything : StrangersSayAnything
says_anything t w i n s piece fed e h st f =
    let d = w.daemon in
    let make = t.system.make in
    let table = t.system.device in
    let x = st.sits in
    let g = feeds_in n d piece fed e x.session x.stands f in
    let input = input_in (session_slot_of d.slots n) in
    let ran = feeds_agree i make d.users (core_context d x.session) table s input piece g.rest g.text fed g.context x.shows x.begun g.feeds in
    let device = devices_behind fed i make d.users (core_context d x.session) table s input piece g.rest g.context ran in
    let b = shown fed i make d.users (core_context d x.session) table s input piece g.rest g.context ran in
    record {
      device = device;
      leaves = leaves_jobs t w i n s e device h st (record {
        held = b.held;
        shows = subst (λ (r : Table). TableRefines i make b.held r device) (sym g.registry_is) b.shows;
        others = subst (λ (r : Table). LeavesOthers i d.registry r table device) (sym g.registry_is) b.others;
        slots = f.others.slots;
        uses = fed_left fed i make d.users (core_context d x.session) table s input piece g.rest g.context x.shows ran h.sound.fit;
      });
      own = own_behind fed i make n d e x.session table s input piece g.rest g.text g.context x.stands g.slots_is g.registry_is g.stream_is ran;
    }

-- ---- a call that changes devices of his alone, and no place

treated_place : (i : ℕ) (k : Make) (old new : AbstractDevice) (at : Option (Place DeviceState)) → Treats i k old new → LeavesPlace i old new at at
treated_place i k old new at (inl same) = inl (same, refl)
treated_place i k old new at (inr (inl taken)) =
    inr (subst (IsHeldByNoOther i) (sym taken.0) tt, subst (λ (dev : AbstractDevice). IsHeldByNoOther i dev.holder) (sym taken.1) refl)
treated_place i k old new at (inr (inr (inl used))) =
    inr (subst (IsHeldByNoOther i) (sym used.mine) refl, subst (λ (dev : AbstractDevice). IsHeldByNoOther i dev.holder) (sym used.is) (subst (IsHeldByNoOther i) (sym used.mine) refl))
treated_place i k old new at (inr (inr (inr back))) = inr (subst (IsHeldByNoOther i) (sym back.0) refl, subst (λ (dev : AbstractDevice). IsHeldByNoOther i dev.holder) (sym back.1) tt)

pub treated_listed : (i : ℕ) (k : Make) (old new : AbstractDevice) → Treats i k old new → new.listed ≡ old.listed
treated_listed i k old new (inl same) = ap (λ (dev : AbstractDevice). dev.listed) same
treated_listed i k old new (inr (inl taken)) = ap (λ (dev : AbstractDevice). dev.listed) taken.1
treated_listed i k old new (inr (inr (inl used))) = ap (λ (dev : AbstractDevice). dev.listed) used.is
treated_listed i k old new (inr (inr (inr back))) = ap (λ (dev : AbstractDevice). dev.listed) back.1

-- each device is treated so
abbrev pub AllTreated : ℕ → (ℕ → Make) → (ℕ → AbstractDevice) → (ℕ → AbstractDevice) → Type 0
AllTreated i make table device = (k : ℕ) → Treats i (make k) (table k) (device k)

pub treated_leaves : (i : ℕ) (make : ℕ → Make) (registry : Table) (table device : ℕ → AbstractDevice) → AllTreated i make table device → LeavesOthers i registry registry table device
treated_leaves i make registry table device h = record {
  places = λ k. treated_place i (make k) (table k) (device k) (slice_get registry k) (h k);
  listed = λ k. treated_listed i (make k) (table k) (device k) (h k);
  names = λ name. refl;
}

-- his session changed, and its devices
left_on : (i : ℕ) (make : ℕ → Make) (n : ℕ) (d : Core) (g : RequestSession DeviceState → RequestSession DeviceState) (table device : ℕ → AbstractDevice) (s : AbstractSession) → AllLeft i make table device → AllTreated i make table device → SessionRefines i make (record d { slots = on_session_slot (on_session g) n d.slots }) n device s
    → Left i make n d (record d { slots = on_session_slot (on_session g) n d.slots }) table device
left_on i make n d g table device s uses h own = record {
  held = own.session.held;
  shows = own.shows.devices;
  others = treated_leaves i make d.registry table device h;
  slots = λ m other. apart d.slots (on_session g) n m (on_number g) (λ same. other (sym same));
  uses = uses;
}

-- his data connection is made
pub connects : StrangersConnect
connects t w i n s h st =
    let make = t.system.make in
    let table = t.system.device in
    let own = core_connects i make n w.daemon (record w.daemon { slots = on_session_slot (on_session after_connected) n w.daemon.slots }) table s st.sits refl in
    record {
      device = table;
      leaves = leaves_jobs t w i n s _ table h st (left_on i make n w.daemon after_connected table table _ (λ k. inl refl) (λ k. inl refl) own.own);
      session = record s { transfer = transfer_connected s.transfer };
      own = own.own;
    }

-- it is lost
off_treats : (i : ℕ) (k : Make) (p : JobState) (c : TransferState) (dev : AbstractDevice) → Treats i k dev (image_off i c dev)
off_treats i k p c dev = treats i k [] (record p { image = true; session = record p.session { transfer = c } }) dev (actions.LosesImage false) refl

pub put_treated : (i : ℕ) (make : ℕ → Make) (table : ℕ → AbstractDevice) (d : ℕ) (dev : AbstractDevice) (k : ℕ) (b : Bool) → eqb k d ≡ b → Treats i (make d) (table d) dev → Treats i (make k) (table k) (cond b dev (table k))
put_treated i make table d dev k true e t = subst (λ (n : ℕ). Treats i (make n) (table n) dev) (sym (eqb-true k d e)) t
put_treated i make table d dev k false e t = inl refl

off_all : (i : ℕ) (make : ℕ → Make) (p : JobState) (c : TransferState) (table : ℕ → AbstractDevice) (o : Option ℕ) → AllTreated i make table (off_at i c table o)
off_all i make p c table None k = inl refl
off_all i make p c table (Some d) k = put_treated i make table d (image_off i c (table d)) k (eqb k d) refl (off_treats i (make d) p c (table d))

off_left_at : (i : ℕ) (make : ℕ → Make) (p : JobState) (c : TransferState) (table : ℕ → AbstractDevice) (o : Option ℕ) → AllFit make table → AllLeft i make table (off_at i c table o)
off_left_at i make p c table None fit k = inl refl
off_left_at i make p c table (Some d) fit k = put_left i make table d (image_off i c (table d)) k (eqb k d) refl (off_left i d (make d) p c (table d) (fit d))

pub loses_data : StrangersLoseData
loses_data t w i n s h st =
    let make = t.system.make in
    let table = t.system.device in
    let own = core_loses i make n w.daemon (record w.daemon { slots = on_session_slot (on_session after_lost) n w.daemon.slots }) table s st.sits refl in
    let device = off_at i s.transfer table (s.words s.framed) in
    record {
      device = device;
      leaves = leaves_jobs t w i n s _ device h st (left_on i make n w.daemon after_lost table device _ (off_left_at i make (t.system.job i) s.transfer table (s.words s.framed) h.sound.fit) (off_all i make (t.system.job i) s.transfer table (s.words s.framed)) own.own);
      session = record s { transfer = actions.left_by_loss s.transfer };
      own = own.own;
    }

-- ---- he leaves

pub none_number : (slot new : SessionSlot DeviceState) → no_more slot ≡ Some new → new.number ≡ slot.number
none_number slot new e = absurd (let clash : None ≡ Some new = e in cc)

pub leaves : StrangersLeave
leaves t w i n s h st =
    let make = t.system.make in
    let table = t.system.device in
    let d = w.daemon in
    let device : ℕ → AbstractDevice = λ k. device_let_go i (table k) in
    let own = core_ends i make n d (after_end_session d n) table s st.sits refl in
    let registry : (after_end_session d n).registry ≡ given_back d.registry st.sits.session.held = ap (session_let_go d.registry) st.sits.stands in
    record {
      device = device;
      leaves = leaves_jobs t w i n s (after_end_session d n) device h st (record {
        held = [];
        shows = own.own;
        others = subst (λ (r : Table). LeavesOthers i d.registry r table device) (sym registry) (ends_leave i make st.sits.session.held d.registry table st.sits.shows.devices);
        slots = λ m other. apart d.slots no_more n m none_number (λ same. other (sym same));
        uses = all_let_go i make table h.sound.fit;
      });
      own = own.own;
    }
