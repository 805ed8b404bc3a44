-- A stranger comes, and what is his is taken.
use Rattle.std.specs.Prelude.{◌==◌, ◌||◌, if◌then◌else◌}
use Rattle.std.specs.List.{AllByRecursion}
use Rattle.std.proofs.Common.{◌≡◌, ◌≢◌, ◌∙◌, inl, inr, ℕ, ◌<◌, List, [], ◌∷◌, Bool, true, false, Option, Some, None, refl, sym, ap, subst, cond, eqb, eqb-true, slice_get, arith}
use Rattle.std.proofs.lemmas.Bool.Decides.{nat_tests}
use Rattle.device_api.specs.State.{DeviceState}
use Rattle.dispatch.specs.Table.{Table}
use Rattle.saned_requests.specs.Holding.{fresh_session}
use Rattle.saned_requests.specs.declared.session.DataPhase.{DataPhase as WordCarriage}
use Rattle.saned_requests.specs.declared.session.DataPhase.TheVariants as word
use Rattle.saned_requests.specs.declared.session.Session.{Session as RequestSession}
use Rattle.saned_core.specs.declared.session_slot.DataStep.{DataStep}
use Rattle.saned_core.specs.declared.session_slot.SessionId.{SessionId}
use Rattle.saned_core.specs.declared.session_slot.SessionSlot.{SessionSlot}
use Rattle.saned_core.specs.DaemonStates.{Core, after_open_session, after_reply_bytes, after_taken, is_closed, is_slot_number, new_session_slot, on_session_slot, session_in, session_of, session_slot_of, slot_if_open, with_session, with_session_slot}
use Rattle.saned_core.specs.Feeding.{core_context}
use Rattle.saned_core.specs.Turns.{StreamsIn, Turns, TurnsSessions}
use Rattle.saned_core.proofs.Apart.{apart}
use Rattle.system_model.specs.Devices.{Make}
use Rattle.system_model.specs.AbstractDevices.{AbstractDevice}
use Rattle.system_model.specs.AbstractSessions.{AbstractSession}
use Rattle.system_model.specs.Actions.{device_after, job_after_action}
use Rattle.system_model.specs.SystemStates.{JobState, with_entry}
use Rattle.system_model.proofs.Treats.{Treats, treats}
use Rattle.daemon_refines.specs.ContextRefinement.{ContextRefines, TableRefines}
use Rattle.daemon_refines.specs.CoreCalls.{CoreTurned}
use Rattle.daemon_refines.specs.OtherSessions.{LeavesOthers}
use Rattle.daemon_refines.specs.Feeds.{IsSessionBegun}
use Rattle.saned_requests.specs.RequestAnswers.{RequestContext}
use Rattle.daemon_refines.specs.Cores.{SessionRefines, new_session}
use Rattle.daemon_refines.proofs.Beginning.{openings_show}
use Rattle.daemon_refines.proofs.CoreCalls.{core_turns, core_turns_off}
use Rattle.daemon_refines.proofs.Cores.{own_slot}
use Rattle.daemon_refines.proofs.OtherSessions.{leaves_all}
use Rattle.event_world.specs.declared.endpoint.Endpoint.{Endpoint}
use Rattle.event_world.specs.Worlds.{WorldCore}
use Rattle.world_refines.specs.GhostStates.{Ghost}
use Rattle.world_refines.specs.WorldRefinement.{IsBelow}
use Rattle.world_refines.proofs.job_events.Fresh.{fresh_there}
use Rattle.world_refines.proofs.state.EndpointSlots.{with_number}
use Rattle.strangers.specs.LeavingJobs.{GoesOn, HasArrived, IsStrangers, JobsStand, MayCome, StrangersCome, StrangersTakeData, StrangersTakeReplies}
use Rattle.strangers.proofs.Leaving.{AllLeft, action_left}
use Rattle.strangers.proofs.Treated.{put_left}
use Rattle.strangers.proofs.Jobs.{Left, jobs_left, leaves_jobs}
use Rattle.strangers.proofs.Calls.{AllTreated, put_treated, treated_leaves}

-- ---- a record of his data

-- his session's slot with another session
in_slot : (n : ℕ) (slots : List (Option (SessionSlot DeviceState))) (session now : RequestSession DeviceState) (o : Option (SessionSlot DeviceState)) → session_slot_of slots n ≡ o → session_in o ≡ Some session → session_in (session_slot_of (on_session_slot (with_session now) n slots) n) ≡ Some now
in_slot n slots session now None e is = absurd (let clash : None ≡ Some session = is in cc)
in_slot n slots session now (Some slot) e is = ap session_in (own_slot (with_session now) n slots slot (record slot { session = Some now }) e refl refl)

-- behind a turn of which this is so
left_turned : (t : Ghost) (w : WorldCore) (i n : ℕ) (e : Core) (device : ℕ → AbstractDevice) (s : AbstractSession) (now : RequestSession DeviceState) → AllLeft i t.system.make t.system.device device → AllTreated i t.system.make t.system.device device → e ≡ record w.daemon { slots = e.slots } → e.slots ≡ on_session_slot (with_session now) n w.daemon.slots
    → SessionRefines i t.system.make e n device s → Left i t.system.make n w.daemon e t.system.device device
left_turned t w i n e device s now uses h rest slots own =
    let d = w.daemon in
    let registry : e.registry ≡ d.registry = ap (λ (c : Core). c.registry) rest in
    record {
      held = own.session.held;
      shows = own.shows.devices;
      others = subst (λ (r : Table). LeavesOthers i d.registry r t.system.device device) (sym registry) (treated_leaves i t.system.make d.registry t.system.device device h);
      slots = λ m other. ap (λ (x : List (Option (SessionSlot DeviceState))). session_slot_of x m) slots ∙ apart d.slots (with_session now) n m (with_number now) (λ same. other (sym same));
      uses = uses;
    }

-- nothing is to be had: the session is as it was
idle_turn : (t : Ghost) (w : WorldCore) (i n : ℕ) (s : AbstractSession) (e : Core) (now : RequestSession DeviceState) → JobsStand t w → (st : IsStrangers t w i n s) → now ≡ st.sits.session → e ≡ record w.daemon { slots = e.slots } → e.slots ≡ on_session_slot (with_session now) n w.daemon.slots → GoesOn t w i n e
idle_turn t w i n s e now h st same rest slots =
    let d = w.daemon in
    let table = t.system.device in
    let x = st.sits in
    let stands : session_of e n ≡ Some x.session = ap (λ (l : List (Option (SessionSlot DeviceState))). session_in (session_slot_of l n)) slots ∙ (in_slot n d.slots x.session now (session_slot_of d.slots n) refl x.stands ∙ ap (λ (y : RequestSession DeviceState). Some y) same) in
    let context : core_context e x.session ≡ core_context d x.session = ap (λ (c : Core). core_context c x.session) rest in
    let own : SessionRefines i t.system.make e n table s = record {
      session = x.session;
      stands = stands;
      shows = subst (λ (c : RequestContext). ContextRefines i t.system.make c table s) (sym context) x.shows;
      begun = subst IsSessionBegun (sym context) x.begun;
    } in
    record { device = table; leaves = leaves_jobs t w i n s e table h st (left_turned t w i n e table s now (λ k. inl refl) (λ k. inl refl) rest slots own); session = s; own = own }

-- an action of the model comes of it
turned_by : (t : Ghost) (w : WorldCore) (i n : ℕ) (s : AbstractSession) (e : Core) (step : DataStep) (buf : List ℕ) (p : JobState) (place : ℕ) (now : RequestSession DeviceState) → JobsStand t w → IsStrangers t w i n s → CoreTurned i t.system.make n w.daemon e t.system.device s [] p place step buf → e ≡ record w.daemon { slots = e.slots }
    → e.slots ≡ on_session_slot (with_session now) n w.daemon.slots → GoesOn t w i n e
turned_by t w i n s e step buf p place now h st c rest slots =
    let make = t.system.make in
    let table = t.system.device in
    let device = with_entry table place (device_after i (make place) [] p (table place) c.action) in
    let own = c.stands.own in
    record {
      device = device;
      leaves = leaves_jobs t w i n s e device h st (left_turned t w i n e device _ now (λ k. put_left i make table place _ k (eqb k place) refl (action_left i place (make place) p (table place) c.action c.may (h.sound.fit place))) (λ k. put_treated i make table place _ k (eqb k place) refl (treats i (make place) [] p (table place) c.action c.may)) rest slots own);
      session = record s { transfer = (job_after_action i (make place) [] p (table place) c.action).session.transfer };
      own = own;
    }

turned_in : (t : Ghost) (w : WorldCore) (i n : ℕ) (s : AbstractSession) (step : DataStep) (buf : List ℕ) (e : Core) (carriage : WordCarriage) (now : RequestSession DeviceState) → JobsStand t w → (st : IsStrangers t w i n s) → Turns n w.daemon step e buf → st.sits.session.transfer ≡ carriage
    → StreamsIn carriage st.sits.session step now buf → e.slots ≡ on_session_slot (with_session now) n w.daemon.slots → GoesOn t w i n e
turned_in t w i n s step buf e word.Quiet now h st g is run slots = idle_turn t w i n s e now h st run.1 g.others slots
turned_in t w i n s step buf e (word.Waiting x) now h st g is run slots = idle_turn t w i n s e now h st run.1 g.others slots
turned_in t w i n s step buf e (word.Streaming x) now h st g is run slots =
    let p : JobState = record (t.system.job i) { session = record (t.system.job i).session { transfer = s.transfer } } in
    let c = core_turns i t.system.make n w.daemon e t.system.device s [] p x step buf st.sits refl is g in
    turned_by t w i n s e step buf p c.0 now h st c.2 g.others slots
turned_in t w i n s step buf e word.Ending now h st g is run slots =
    let p : JobState = record (t.system.job i) { session = record (t.system.job i).session { transfer = s.transfer } } in
    let c = core_turns_off i t.system.make n w.daemon e t.system.device s [] p 0 step buf st.sits refl is g in
    turned_by t w i n s e step buf p 0 now h st c.0 g.others slots

pub takes_data : StrangersTakeData
takes_data t w i n s step buf e h st g =
    let run : TurnsSessions (Some st.sits.session) n w.daemon.slots step e.slots buf = subst (λ (o : Option (RequestSession DeviceState)). TurnsSessions o n w.daemon.slots step e.slots buf) st.sits.stands g.slots in
    turned_in t w i n s step buf e st.sits.session.transfer run.0 h st g refl run.1 run.2

-- ---- his replies

abbrev number_in : Option (SessionSlot DeviceState) → ℕ
number_in None = 0
number_in (Some x) = x.number

standing_number : (o : Option (RequestSession DeviceState)) (replies : List ℕ) (slot new : SessionSlot DeviceState) → slot_if_open o replies slot ≡ Some new → new.number ≡ slot.number
standing_number (Some session) replies slot new is = ap number_in (sym is)
standing_number None [] slot new is = absurd (let clash : None ≡ Some new = is in cc)
standing_number None (b ∷ bytes) slot new is = ap number_in (sym is)

pub taken_number : (count : ℕ) (slot new : SessionSlot DeviceState) → after_taken count slot ≡ Some new → new.number ≡ slot.number
taken_number count slot new e = standing_number slot.session (after_reply_bytes count slot).replies (after_reply_bytes count slot) new e

taken_slot : (count n : ℕ) (slots : List (Option (SessionSlot DeviceState))) (session : RequestSession DeviceState) (o : Option (SessionSlot DeviceState)) → session_slot_of slots n ≡ o → session_in o ≡ Some session → session_in (session_slot_of (on_session_slot (after_taken count) n slots) n) ≡ Some session
taken_slot count n slots session None e is = absurd (let clash : None ≡ Some session = is in cc)
taken_slot count n slots session (Some slot) e is =
    let stays : after_taken count slot ≡ Some (after_reply_bytes count slot) = ap (λ (o : Option (RequestSession DeviceState)). slot_if_open o (after_reply_bytes count slot).replies (after_reply_bytes count slot)) is in
    ap session_in (own_slot (after_taken count) n slots slot (after_reply_bytes count slot) e stays refl) ∙ is

pub takes_replies : StrangersTakeReplies
takes_replies t w i n count s h st =
    let d = w.daemon in
    let table = t.system.device in
    let x = st.sits in
    let e : Core = record d { slots = on_session_slot (after_taken count) n d.slots } in
    record {
      device = table;
      leaves = leaves_jobs t w i n s e table h st (record {
        held = x.session.held;
        shows = x.shows.devices;
        others = leaves_all i d.registry table;
        slots = λ m other. apart d.slots (after_taken count) n m (taken_number count) (λ same. other (sym same));
        uses = λ k. inl refl;
      });
      session = s;
      own = record { session = x.session; stands = taken_slot count n d.slots x.session (session_slot_of d.slots n) refl x.stands; shows = x.shows; begun = x.begun };
    }

-- ---- he comes

other_slot : (slots : List (Option (SessionSlot DeviceState))) (new : SessionSlot DeviceState) (m : ℕ) → is_slot_number m (Some new) ≡ false → session_slot_of (with_session_slot slots new) m ≡ session_slot_of slots m
unfolding session_slot_of with_session_slot
other_slot [] new m e = refl
other_slot (None ∷ slots) new m e = rw e refl
other_slot (Some s ∷ slots) new m e = ap (λ (x : Option (SessionSlot DeviceState)). if is_slot_number m (Some s) then Some s else x) (other_slot slots new m e)

other_number : (n m : ℕ) → m ≢ n → (n == m) ≡ false
other_number n m off = grind (arith, nat_tests)

pub comes : StrangersCome
comes t w i port h m =
    let d = w.daemon in
    let n = d.opened in
    let e = after_open_session d port in
    let table = t.system.device in
    let leaves = jobs_left t w i n e table m.beyond m.nowhere m.nothing (λ j endpoint id at is same. let low = m.links j endpoint id at is in omega (arith, low, same)) h (record {
      held = [];
      shows = m.nothing;
      others = leaves_all i d.registry table;
      slots = λ k other. other_slot d.slots (new_session_slot d.strings d.opened port) k (other_number n k other);
      uses = λ k. inl refl;
    }) in
    record {
      leaves = leaves;
      session = new_session;
      is = record {
        beyond = m.beyond;
        nowhere = m.nowhere;
        apart = λ j endpoint id at is same. let low = m.links j endpoint id at is in omega (arith, low, same);
        sits = record {
          session = fresh_session d.strings port;
          stands = ap session_in (fresh_there d port n m.room m.below refl);
          shows = openings_show i t.system.make d.strings port d.registry d.stream table m.nothing;
          begun = inr refl;
        };
      };
    }
