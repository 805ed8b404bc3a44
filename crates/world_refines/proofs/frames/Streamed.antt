-- What a turn of a session's data connection leaves of the daemon.
use Rattle.std.specs.List.{AllByRecursion}
use Rattle.std.proofs.Common.{◌≡◌, ◌∙◌, ℕ, List, Option, Some, None, refl, sym, ap, subst, map, eqb, arith}
use Rattle.device_api.specs.State.{DeviceState}
use Rattle.dispatch.specs.Table.{Table}
use Rattle.saned_requests.specs.declared.session.DataPhase.{DataPhase as WordCarriage}
use Rattle.saned_requests.specs.declared.session.DataPhase.TheVariants as word
use Rattle.saned_requests.specs.declared.session.Session.{Session as RequestSession}
use Rattle.saned_core.specs.declared.session_slot.DataStep.{DataStep}
use Rattle.saned_core.specs.declared.session_slot.FrameState.{FrameState}
use Rattle.saned_core.specs.declared.session_slot.SessionSlot.{SessionSlot}
use Rattle.saned_core.specs.declared.session_slot.SessionId.{SessionId}
use Rattle.saned_core.specs.DaemonStates.{Core, frame_in, frame_state_of, on_session_slot, replies_in, session_slot_of, session_in, with_session}
use Rattle.saned_core.specs.Feeding.{input_in}
use Rattle.saned_core.specs.Turns.{TurnsSessions}
use Rattle.saned_core.specs.Turns as daemon
use Rattle.saned_core.proofs.Apart.{apart}
use Rattle.system_model.specs.Actions.{Action, device_after, job_after_action}
use Rattle.system_model.specs.Devices.{Make}
use Rattle.system_model.specs.AbstractDevices.{AbstractDevice, is_held_by}
use Rattle.system_model.specs.SystemStates.{JobState, with_entry}
use Rattle.system_model.specs.AbstractSessions.{AbstractSession, one_word_session}
use Rattle.system_model.specs.Transitions.{IsActionEnabled}
use Rattle.daemon_refines.specs.Cores.{SessionRefines}
use Rattle.daemon_refines.specs.CoreCalls.{CoreTurned}
use Rattle.daemon_refines.specs.OtherSessions.{LeavesOthers}
use Rattle.daemon_refines.specs.ContextRefinement.{TransferRefines}
use Rattle.daemon_refines.specs.Failures.{FailedAt, IsCountedAt}
use Rattle.daemon_refines.specs.Streams.{SendsAs}
use Rattle.system_model.specs.Daemon.{TransferState, FailureCounts, Quiet, Waiting, Streaming, Ending}
use Rattle.daemon_refines.proofs.CoreCalls.{core_turns, core_turns_off}
use Rattle.daemon_refines.proofs.Cores.{own_slot}
use Rattle.daemon_refines.proofs.Leaves.{IsKept, changed, kept, leaves_kept, put_one}
use Rattle.daemon_refines.proofs.Moved.{put_there}
use Rattle.daemon_refines.proofs.OtherSessions.{own_of}
use Rattle.event_world.specs.declared.endpoint.Endpoint.{Endpoint}
use Rattle.event_world.specs.JobEvents as world
use Rattle.world_refines.specs.WorldRefinement.{AreFaithful, IsBelow, IsFaithfulLease, IsFaithfulPlace, IsFaithfulSessionSlot, IsFaithfulSession, info_at, session_by}
use Rattle.world_refines.proofs.state.EndpointSlots.{Replaces, replaces_with, with_number}
use Rattle.world_refines.proofs.state.CoreCallsKeep.{word_wanted}
use Rattle.world_refines.proofs.state.Faithful.{on_slot_all, slot_all, session_true}
use Rattle.world_refines.proofs.state.ReadTrue.{stream_true}
use Rattle.world_refines.proofs.state.Sees.{Leaves}
use Rattle.world_refines.proofs.state.Spoken.{AreSame, same_streamed}
use Rattle.world_refines.proofs.frames.Turned.{IsShortRecord, Turn, Failed, Gives, Named, Off, Short, Whole, carriage_after, action_of, dev_after, device_is, is_end, is_turn, job_after, party_is, short_turn, text_of}

-- the devices behind it
abbrev pub devices_after : Turn → (ℕ → AbstractDevice) → ℕ → ℕ → AbstractDevice
devices_after turn table wants = with_entry table wants (dev_after turn (table wants))

-- where its source fails, the device that the session holds is so stopped, and the frame is over
pub record IsFailedTurn (d e : Core) (n : ℕ) (fault : FailureCounts) : Type 0 where
  pub old : RequestSession DeviceState
  pub new : RequestSession DeviceState
  pub stood : session_in (session_slot_of d.slots n) ≡ Some old
  pub stands : session_in (session_slot_of e.slots n) ≡ Some new
  pub over : new.transfer ≡ word.Quiet
  pub device_word : ℕ
  pub failed : FailedAt old.held new.held device_word fault

pub record Streamed (i : ℕ) (make : ℕ → Make) (d e : Core) (id : SessionId) (table : ℕ → AbstractDevice) (p : JobState) (step : DataStep) (buf : List ℕ) : Type 0 where
  pub turn : Turn
  pub may : IsActionEnabled i (make p.session.job.wants) p (table p.session.job.wants) (action_of turn)
  pub short : IsShortRecord turn
  pub fails : (fault : FailureCounts) → turn ≡ Failed fault → IsFailedTurn d e id.number fault
  pub sends : (n : ℕ) (b : Core) (old : Endpoint) (c : Core) (new : Endpoint) → world.SendsStep n step buf b old c new → world.SendsRecord n (text_of turn) (is_end turn) b old c new
  pub leaves : Leaves i make (Some id) d e table (devices_after turn table p.session.job.wants)
  pub shows : SessionRefines i make e id.number (devices_after turn table p.session.job.wants) (session_by i (devices_after turn table p.session.job.wants) (job_after turn p))
  pub input : input_in (session_slot_of e.slots id.number) ≡ input_in (session_slot_of d.slots id.number)
  pub replies : replies_in (session_slot_of e.slots id.number) ≡ replies_in (session_slot_of d.slots id.number)
  pub replaces : (link : Option SessionId) → Replaces link link d e
  pub same : AreSame (session_in (session_slot_of d.slots id.number)) (session_in (session_slot_of e.slots id.number))

-- ---- its slot

-- the slot with another session
pub record IsInSlot (n : ℕ) (slots : List (Option (SessionSlot DeviceState))) (now : RequestSession DeviceState) : Type 0 where
  pub slot : SessionSlot DeviceState
  pub old : session_slot_of slots n ≡ Some slot
  pub new : session_slot_of (on_session_slot (with_session now) n slots) n ≡ Some (record slot { session = Some now })

is_in_slot : (n : ℕ) (slots : List (Option (SessionSlot DeviceState))) (session now : RequestSession DeviceState) (o : Option (SessionSlot DeviceState)) → session_slot_of slots n ≡ o → session_in o ≡ Some session → IsInSlot n slots now
is_in_slot n slots session now None e is = absurd (let clash : None ≡ Some session = is in cc)
is_in_slot n slots session now (Some slot) e is = record { slot = slot; old = e; new = own_slot (with_session now) n slots slot (record slot { session = Some now }) e refl refl }

-- ---- its device

turn_kept : (turn : Turn) (i : ℕ) (k : Make) (p : JobState) (dev : AbstractDevice) → IsActionEnabled i k p dev (action_of turn) → IsKept i dev (dev_after turn dev)
turn_kept (Gives bytes) i k p dev m = changed i dev _ (own_of i dev.holder (Some i) m.3.reads.1 refl) refl refl
turn_kept Whole i k p dev m = changed i dev _ (own_of i dev.holder (Some i) m.2.1 refl) refl refl
turn_kept (Named code) i k p dev m = changed i dev _ (own_of i dev.holder (Some i) m.3.1 refl) refl refl
turn_kept Short i k p dev m = changed i dev _ (own_of i dev.holder (Some i) m.3.1 refl) refl refl
turn_kept (Failed fault) i k p dev m = changed i dev _ (own_of i dev.holder (Some i) m.3.1 refl) refl refl
turn_kept Off i k p dev m = kept i dev

-- ---- what is left

session_is_true : (i : ℕ) (make : ℕ → Make) (d : Core) (n : ℕ) (table : ℕ → AbstractDevice) (s : AbstractSession) → (h : SessionRefines i make d n table s) → AreFaithful d → AllByRecursion IsFaithfulLease h.session.held
session_is_true i make d n table s h faithful = subst IsFaithfulSession h.stands (session_true (session_slot_of d.slots n) (slot_all IsFaithfulSessionSlot d.slots n tt faithful.lent))

leaves_by : (i : ℕ) (make : ℕ → Make) (d e : Core) (id : SessionId) (table device : ℕ → AbstractDevice) (now : RequestSession DeviceState) (s : AbstractSession) → AllByRecursion (IsBelow d.opened) d.slots → AreFaithful d → e ≡ record d { slots = e.slots } → e.slots ≡ on_session_slot (with_session now) id.number d.slots →
    AllByRecursion IsFaithfulLease now.held → SessionRefines i make e id.number device s → LeavesOthers i d.registry d.registry table device → Leaves i make (Some id) d e table device
leaves_by i make d e id table device now s below faithful others slots true_now shows leaves =
    let registry : e.registry ≡ d.registry = ap (λ (c : Core). c.registry) others in
    let opened : e.opened ≡ d.opened = ap (λ (c : Core). c.opened) others in
    record {
      users = ap (λ (c : Core). c.users) others;
      infos = ap (λ (t : Table). map info_at t) registry;
      opened = omega (arith, opened);
      below =
          subst (λ (k : ℕ). AllByRecursion (IsBelow k) e.slots) (sym opened)
          (subst (λ (x : List (Option (SessionSlot DeviceState))). AllByRecursion (IsBelow d.opened) x) (sym slots) (on_slot_all (IsBelow d.opened) (with_session now) id.number d.slots tt (λ slot b. b) below));
      faithful = record {
        lying = subst (λ (t : Table). AllByRecursion IsFaithfulPlace t) (sym registry) faithful.lying;
        lent = subst (λ (x : List (Option (SessionSlot DeviceState))). AllByRecursion IsFaithfulSessionSlot x) (sym slots) (on_slot_all IsFaithfulSessionSlot (with_session now) id.number d.slots tt (λ slot b. true_now) faithful.lent);
      };
      slots = λ m other low. ap (λ (x : List (Option (SessionSlot DeviceState))). session_slot_of x m) slots ∙ apart d.slots (with_session now) id.number m (with_number now) (λ x. other (sym x));
      held = shows.session.held;
      shows = shows.shows.devices;
      others = subst (λ (t : Table). LeavesOthers i d.registry t table device) (sym registry) leaves;
    }

shows_by : (i : ℕ) (make : ℕ → Make) (listed : List ℕ) (d e : Core) (n : ℕ) (table : ℕ → AbstractDevice) (p : JobState) (action : Action) (turn : Turn) → action ≡ action_of turn →
    SessionRefines i make e n (with_entry table p.session.job.wants (device_after i (make p.session.job.wants) listed p (table p.session.job.wants) action)) (record (session_by i table p) { transfer = (job_after_action i (make p.session.job.wants) listed p (table p.session.job.wants) action).session.transfer }) →
    SessionRefines i make e n (devices_after turn table p.session.job.wants) (session_by i (devices_after turn table p.session.job.wants) (job_after turn p))
shows_by i make listed d e n table p action turn is h =
    let wants = p.session.job.wants in
    let k = make wants in
    let dev = table wants in
    let device = devices_after turn table wants in
    let of_turn = subst (λ (x : Action). SessionRefines i make e n (with_entry table wants (device_after i k listed p dev x)) (record (session_by i table p) { transfer = (job_after_action i k listed p dev x).session.transfer })) is h in
    let by_device = subst (λ (x : AbstractDevice). SessionRefines i make e n (with_entry table wants x) (record (session_by i table p) { transfer = (job_after_action i k listed p dev (action_of turn)).session.transfer })) (device_is turn i k listed p dev) of_turn in
    let by_party = subst (λ (x : JobState). SessionRefines i make e n device (record (session_by i table p) { transfer = x.session.transfer })) (party_is turn i k listed p dev) by_device in
    let ruled : session_by i device (job_after turn p) ≡ record (session_by i table p) { transfer = carriage_after turn p.session.transfer } =
    ap (λ (x : AbstractDevice). one_word_session (is_held_by i x.holder) wants (carriage_after turn p.session.transfer) p.session.awaited) (put_there table wants (dev_after turn dev)) in
    subst (λ (x : AbstractSession). SessionRefines i make e n device x) (sym ruled) by_party

quiet_word : (wc : WordCarriage) (c : TransferState) (framed : ℕ) → TransferRefines wc c framed → c ≡ Quiet → wc ≡ word.Quiet
quiet_word word.Quiet c framed h e = refl
quiet_word (word.Waiting w) c framed h e = absurd (let clash : Quiet ≡ Waiting = sym e ∙ h.0 in cc)
quiet_word (word.Streaming w) c framed h e = absurd (let clash : Quiet ≡ Streaming = sym e ∙ h.0 in cc)
quiet_word word.Ending c framed h e = absurd (let clash : Quiet ≡ Ending = sym e ∙ h in cc)

failed_turn : (i : ℕ) (make : ℕ → Make) (d e : Core) (id : SessionId) (table device : ℕ → AbstractDevice) (p : JobState) (place : ℕ) (turn : Turn) (fault : FailureCounts) → (h : SessionRefines i make d id.number table (session_by i table p)) → (shows : SessionRefines i make e id.number device (session_by i device (job_after turn p))) →
    ((a b : RequestSession DeviceState) → session_in (session_slot_of d.slots id.number) ≡ Some a → session_in (session_slot_of e.slots id.number) ≡ Some b → IsCountedAt a.held b.held (session_by i table p).words place (action_of turn)) → turn ≡ Failed fault → IsFailedTurn d e id.number fault
failed_turn i make d e id table device p place turn fault h shows counted is =
    let c : IsCountedAt h.session.held shows.session.held (session_by i table p).words place (action_of (Failed fault)) = subst (λ (x : Turn). IsCountedAt h.session.held shows.session.held (session_by i table p).words place (action_of x)) is (counted h.session shows.session h.stands shows.stands) in
    record {
      old = h.session;
      new = shows.session;
      stood = h.stands;
      stands = shows.stands;
      over = quiet_word shows.session.transfer (carriage_after turn p.session.transfer) 0 shows.shows.transfer (ap (λ (x : Turn). carriage_after x p.session.transfer) is);
      device_word = c.0;
      failed = c.2;
    }

streamed_by : (i : ℕ) (make : ℕ → Make) (listed : List ℕ) (d e : Core) (id : SessionId) (table : ℕ → AbstractDevice) (p : JobState) (step : DataStep) (buf : List ℕ) → AllByRecursion (IsBelow d.opened) d.slots → AreFaithful d → SessionRefines i make d id.number table (session_by i table p) → daemon.Turns id.number d step e buf →
    CoreTurned i make id.number d e table (session_by i table p) listed p p.session.job.wants step buf → Streamed i make d e id table p step buf
streamed_by i make listed d e id table p step buf below faithful h g c =
    let n = id.number in
    let wants = p.session.job.wants in
    let t = is_turn c.action step buf c.sends in
    let turn = t.turn in
    let may : IsActionEnabled i (make wants) p (table wants) (action_of turn) = subst (λ (x : Action). IsActionEnabled i (make wants) p (table wants) x) t.action_is c.may in
    let sent : SendsAs step buf (action_of turn) = subst (λ (x : Action). SendsAs step buf x) t.action_is c.sends in
    let run : TurnsSessions (Some h.session) n d.slots step e.slots buf = subst (λ (o : Option (RequestSession DeviceState)). TurnsSessions o n d.slots step e.slots buf) h.stands g.slots in
    let now : RequestSession DeviceState = run.0 in
    let in_slot = is_in_slot n d.slots h.session now (session_slot_of d.slots n) refl h.stands in
    let slot = ap (λ (x : List (Option (SessionSlot DeviceState))). session_slot_of x n) run.2 ∙ in_slot.new in
    let shows = shows_by i make listed d e n table p c.action turn t.action_is c.stands.own in
    let device = devices_after turn table wants in
    record {
      turn = turn;
      may = may;
      short = short_turn turn h.session.transfer h.session now step buf run.1 sent;
      fails = λ fault is. failed_turn i make d e id table device p wants turn fault h shows (λ a b stood stands. subst (λ (x : Action). IsCountedAt a.held b.held (session_by i table p).words wants x) t.action_is (c.counted a b stood stands)) is;
      sends = t.sends;
      leaves = leaves_by i make d e id table device now (session_by i device (job_after turn p)) below faithful g.others run.2 (stream_true h.session.transfer h.session now step buf run.1 (session_is_true i make d n table (session_by i table p) h faithful)) shows
          (leaves_kept i d.registry table device (put_one i table wants (dev_after turn (table wants)) (turn_kept turn i (make wants) p (table wants) may)));
      shows = shows;
      input = ap input_in slot ∙ sym (ap input_in in_slot.old);
      replies = ap replies_in slot ∙ sym (ap replies_in in_slot.old);
      replaces = λ link. replaces_with now link d e n run.2;
      same =
          subst (λ (o : Option (RequestSession DeviceState)). AreSame o (session_in (session_slot_of e.slots n))) (sym h.stands)
          (subst (λ (o : Option (SessionSlot DeviceState)). AreSame (Some h.session) (session_in o)) (sym slot) (same_streamed h.session.transfer h.session now step buf run.1));
    }

-- ---- the frame streams, or is to be ended

streamed_in : (i : ℕ) (make : ℕ → Make) (listed : List ℕ) (d e : Core) (id : SessionId) (table : ℕ → AbstractDevice) (p : JobState) (step : DataStep) (buf : List ℕ) (c : WordCarriage) → AllByRecursion (IsBelow d.opened) d.slots → AreFaithful d → (h : SessionRefines i make d id.number table (session_by i table p)) →
    h.session.transfer ≡ c → world.IsFlowing (frame_state_of c) → daemon.Turns id.number d step e buf → Streamed i make d e id table p step buf
streamed_in i make listed d e id table p step buf word.Quiet below faithful h is flows g = absurd flows
streamed_in i make listed d e id table p step buf (word.Waiting w) below faithful h is flows g = absurd flows
streamed_in i make listed d e id table p step buf (word.Streaming w) below faithful h is flows g =
    let s = session_by i table p in
    let wants = p.session.job.wants in
    let t = core_turns i make id.number d e table s listed p w step buf h refl is g in
    let place : t.0 ≡ wants = word_wanted (is_held_by i (table wants).holder) wants w t.0 (eqb w 0) refl t.1 in
    streamed_by i make listed d e id table p step buf below faithful h g (subst (λ (k : ℕ). CoreTurned i make id.number d e table s listed p k step buf) place t.2)
streamed_in i make listed d e id table p step buf word.Ending below faithful h is flows g =
    streamed_by i make listed d e id table p step buf below faithful h g (core_turns_off i make id.number d e table (session_by i table p) listed p p.session.job.wants step buf h refl is g).0

pub streamed : (i : ℕ) (make : ℕ → Make) (listed : List ℕ) (d e : Core) (id : SessionId) (table : ℕ → AbstractDevice) (p : JobState) (step : DataStep) (buf : List ℕ) → AllByRecursion (IsBelow d.opened) d.slots → AreFaithful d → SessionRefines i make d id.number table (session_by i table p) →
    world.IsFlowing (world.frame_state_at d id.number) → daemon.Turns id.number d step e buf → Streamed i make d e id table p step buf
streamed i make listed d e id table p step buf below faithful h flows g =
    streamed_in i make listed d e id table p step buf h.session.transfer below faithful h refl (subst (λ (f : FrameState). world.IsFlowing f) (ap frame_in h.stands) flows) g
