-- A session has its device until its connection is lost, or it is over.
use Rattle.std.specs.Prelude.{if◌then◌else◌, map, option_map, slice_get, length}
use Rattle.std.specs.List.{list_any}
use Rattle.std.proofs.Common.{◌≡◌, ◌≢◌, ◌∙◌, ◌⊎◌, inl, inr, ℕ, zero, suc, arith, List, [], ◌∷◌, Bool, true, false, Option, Some, None, refl, sym, ap, subst}
use Rattle.std.proofs.lemmas.Option.{slice_get_within}
use Rattle.page_picture.specs.Shows.{Frame}
use Rattle.page_picture.specs.Source.{SourceState}
use Rattle.page_sources.specs.SourceView.{source_state}
use Rattle.sane_fixed.specs.declared.device_info.DeviceInfo.{DeviceInfo}
use Rattle.frame_join.specs.FrameHistory.{JoinHistory}
use Rattle.device_api.specs.State.{DeviceState, after_load as page_loaded, takes_page}
use Rattle.dispatch.specs.declared.table.place.Lease.{Lease}
use Rattle.dispatch.specs.Table.{loaded_device}
use Rattle.saned_requests.specs.declared.session.Session.{Session}
use Rattle.saned_requests.specs.Holding.{held_by}
use Rattle.saned_core.specs.DaemonStates.{session_in, session_slot_of}
use Rattle.saned_core.specs.Loading.{core_after_load, held_with, holds, is_lease_named, lease_with, on_first}
use Rattle.client_replies.specs.ProtocolStates.{is_running, target_of}
use Rattle.client_replies.specs.declared.progress.JobTarget.{JobTarget}
use Rattle.client_replies.specs.declared.progress.Notes.{Notes}
use Rattle.client_replies.specs.declared.progress.Progress.{Progress}
use Rattle.client_refines.specs.ClientRefinement.{OutcomeRefines}
use Rattle.client_refines.proofs.ClientEndings.{runs}
use Rattle.scan_job.specs.declared.job.Job.{Job}
use Rattle.scan_job.specs.declared.outcome.Outcome.{Outcome}
use Rattle.scan_job.specs.declared.outcome.Outcome.TheVariants as outcomes
use Rattle.system_model.specs.AbstractDevices.{AbstractDevice}
use Rattle.system_model.specs.AbstractMessages.{Challenge}
use Rattle.system_model.specs.Actions as actions
use Rattle.system_model.specs.Client as model
use Rattle.system_model.specs.Client.{ClientView, JobStage, Idle, Running, Done, Ended}
use Rattle.system_model.specs.Daemon.{FailureCounts}
use Rattle.system_model.specs.Devices.{Make}
use Rattle.system_model.specs.Invariants.{Invariant, StageInvariant}
use Rattle.system_model.specs.SystemStates.{JobState, SystemState, device_for, listed_devices, make_for, wanted_place}
use Rattle.system_model.specs.Transitions.{By, IsEnabled, IsHistory, IsUnderWay, Loads, Transition, Unplugs, Uses, after_all, after_transition}
use Rattle.event_world.specs.declared.endpoint.Endpoint.{Endpoint}
use Rattle.event_world.specs.declared.event.Event.{Event}
use Rattle.event_world.specs.declared.event.Event.TheVariants.{Connect, ToDaemon, ToClient, DataConnect, DataTurn, DataToClient, LoseControl, LoseImage, Cancel, Load, Unplug}
use Rattle.event_world.specs.declared.event.JobEvent.TheVariants as moves
use Rattle.event_world.specs.Worlds.{Leads, WorldCore}
use Rattle.event_world.proofs.Deciding.{can_or_not}
use Rattle.world_refines.specs.GhostStates.{Ghost, name_at, place_of_info}
use Rattle.world_refines.specs.MainTheorem.{AreFittingLoads, AreTrueLoads, EventsFollow}
use Rattle.world_refines.specs.WorldRefinement.{WorldRefines, client_at_greeting}
use Rattle.world_refines.proofs.job_events.Constant.{Fixed, fixed_of, stays_fixed}
use Rattle.scan_world.specs.Calls.{HoldsOn, HasLeft, outcome_at}
use Rattle.scan_world.specs.Histories.{History, LedTo}
use Rattle.scan_world.specs.Laws.{Below}
use Rattle.scan_world.specs.Sessions.{CanAt, Has, SessionAt}
use Rattle.scan_world.proofs.Idle.{idle_at}
use Rattle.scan_world.proofs.Scanned.{kept_by}
use Rattle.scan_world.proofs.Traced.{AreOf, StepOf, comes_of}
use Rattle.scan_world.proofs.moments.Entries.{end_at, own_device, own_party, past_end, unsome}
use Rattle.scan_world.proofs.moments.Holder.{no_endpoints}
use Rattle.scan_world.proofs.moments.Holding.{SparesAll, answer_holds, own_or_spares, steps_hold}
use Rattle.scan_world.proofs.moments.Moments.{NoneLeft, ends_or_stays, few_left, off_stays, one_comes, spent_by}
use Rattle.scan_world.proofs.moments.Others.{Slots, decide, laid_core}
use Rattle.scan_world.proofs.moments.Stands.{has_holds, job_has, served_at}

-- ---- a page that is laid in

name_if : (b : Bool) (d : DeviceState) (source : SourceState) → (if b then page_loaded d source else d).info.name ≡ d.info.name
name_if true d source = refl
name_if false d source = refl

-- behind it the word stands for a lease of a device of that name
abbrev StillHeld : List (Option (Lease DeviceState)) → ℕ → Lease DeviceState → Type 0
StillHeld held word lease = (now : Lease DeviceState) × (held_by held word ≡ Some now) × (now.device.info.name ≡ lease.device.info.name)

held_if : (p : Option (Lease DeviceState) → Bool) (source : SourceState) (x : Option (Lease DeviceState)) (held : List (Option (Lease DeviceState))) (word : ℕ) (lease : Lease DeviceState) (b : Bool) → held_by (x ∷ held) word ≡ Some lease → ((w : ℕ) → held_by held w ≡ Some lease → StillHeld (on_first p (lease_with source) held) w lease) → StillHeld (if b then lease_with source x ∷ held else x ∷ on_first p (lease_with source) held) word lease
unfolding held_by
held_if p source x held zero lease true e more = (record lease { device = loaded_device lease.device source }, ap (lease_with source) e, name_if (takes_page lease.device) lease.device source)
held_if p source x held (suc word) lease true e more = (lease, e, refl)
held_if p source x held zero lease false e more = (lease, e, refl)
held_if p source x held (suc word) lease false e more = more word e

held_still : (p : Option (Lease DeviceState) → Bool) (source : SourceState) (held : List (Option (Lease DeviceState))) (word : ℕ) (lease : Lease DeviceState) → held_by held word ≡ Some lease → StillHeld (on_first p (lease_with source) held) word lease
unfolding on_first
held_still p source [] word lease e = (lease, e, refl)
held_still p source (x ∷ held) word lease e = held_if p source x held word lease (p x) e (λ w there. held_still p source held w lease there)

-- the session of the job has a device of that name
abbrev HasOne : WorldCore → ℕ → List ℕ → Type 0
HasOne v i name = (x : DeviceState) × Has v i name x

laid_has : (w v : WorldCore) (i : ℕ) (other name : List ℕ) (source : SourceState) (d : DeviceState) → v ≡ record w { daemon = core_after_load w.daemon other source } → Has w i name d → HasOne v i name
laid_has w v i other name source d led x =
    let a = x.at in
    let there : slice_get v.endpoints i ≡ Some a.endpoint = ap (λ (y : WorldCore). slice_get y.endpoints i) led ∙ a.is_there in
    let slots : v.daemon.slots ≡ (core_after_load w.daemon other source).slots = ap (λ (y : WorldCore). y.daemon.slots) led in
    elim (laid_core other source a.id.number w.daemon x.session (list_any (holds other) w.daemon.slots) a.stands) [
      | inl same ↦ (d, record { session = x.session; at = record { endpoint = a.endpoint; is_there = there; id = a.id; linked = a.linked; stands = ap (λ (y : Slots). session_in (session_slot_of y a.id.number)) slots ∙ same }; word = x.word; lease = x.lease; held = x.held; is = x.is; named = x.named })
      | inr laid ↦
          let l = held_still (is_lease_named other) source x.session.held x.word x.lease x.held in
          (l.0.device, record { session = record x.session { held = held_with other source x.session.held }; at = record { endpoint = a.endpoint; is_there = there; id = a.id; linked = a.linked; stands = ap (λ (y : Slots). session_in (session_slot_of y a.id.number)) slots ∙ laid }; word = x.word; lease = l.0; held = l.1; is = refl; named = l.2 ∙ (ap (λ (s : DeviceState). s.info.name) x.is ∙ x.named) })
    ]

-- ---- a job that runs is under way by the model

woken : (stage : JobStage) (m : ClientView) → m.stage ≡ stage → (g : model.AbstractProgress) → (client_at_greeting stage m).stage ≡ Running g → IsUnderWay stage
woken Idle m e g is = tt
woken (Running h) m e g is = tt
woken Done m e g is = let clash : Done ≡ Running g = sym e ∙ is in absurd (cc)
woken (Ended status why) m e g is = let clash : Ended status why ≡ Running g = sym e ∙ is in absurd (cc)

reads_on : (place : DeviceInfo → ℕ) (target : JobTarget) (job : model.AbstractJob) (pages : List (List Frame)) (progress : Progress) (notes : Notes) (past : JoinHistory) (stage : JobStage) (m : ClientView) → m.stage ≡ stage → OutcomeRefines place target job pages outcomes.Running progress notes past (client_at_greeting stage m) → IsUnderWay stage
reads_on place target job pages progress notes past stage m e h =
    let g = runs job progress notes past (client_at_greeting stage m) h.1 in
    woken stage m e g.0 g.1

on_there : (t : Ghost) (w : WorldCore) (i : ℕ) (p : Endpoint) → WorldRefines t w → slice_get w.endpoints i ≡ Some p → p.client.outcome ≡ outcomes.Running → IsUnderWay (t.system.job i).client.stage
on_there t w i p h at on =
    let reads = (h.endpoints i p at).exchanges.reads in
    let me = t.system.job i in
    let place = place_of_info t.infos in
    let stands = subst (λ (o : Outcome). OutcomeRefines place (target_of (t.jobs i)) me.session.job (map (λ (q : JoinHistory). q.ended) (t.pages i)) o p.client.progress p.client.notes (t.history i) (client_at_greeting me.client.stage me.client)) on reads.stands in
    reads_on place (target_of (t.jobs i)) me.session.job (map (λ (q : JoinHistory). q.ended) (t.pages i)) p.client.progress p.client.notes (t.history i) me.client.stage me.client refl stands

-- ---- one event by the model

pub record Moved (t : Ghost) (e : Event) (w v : WorldCore) : Type 0 where
  pub ghost_then : Ghost
  pub steps : List Transition
  pub of : AreOf t.infos e steps
  pub legal : IsHistory t.system steps
  pub rules_are : ghost_then.system ≡ after_all t.system steps
  pub stands : WorldRefines ghost_then v
  pub infos : ghost_then.infos ≡ t.infos
  pub many : length v.endpoints ≡ length w.endpoints

pub moved : EventsFollow → (t : Ghost) (e : Event) (w v : WorldCore) → WorldRefines t w → AreTrueLoads source_state (e ∷ []) → AreFittingLoads source_state t.infos t.system.make (e ∷ []) → Leads source_state e w v → Moved t e w v
moved follows t e w v stands loads fits leads =
    let r = follows source_state (e ∷ []) t w v stands loads fits (v, leads, refl) in
    let c = one_comes e t r.steps r.ghost_then r.comes in
    let same : fixed_of r.ghost_then ≡ fixed_of t = stays_fixed source_state e t r.steps r.ghost_then c in
    record {
      ghost_then = r.ghost_then;
      steps = r.steps;
      of = comes_of e t r.steps r.ghost_then c;
      legal = r.legal;
      rules_are = r.rules_are;
      stands = r.stands;
      infos = ap (λ (f : Fixed). f.1) same;
      many = sym r.stands.is_of.count ∙ (ap (λ (f : Fixed). f.2) same ∙ stands.is_of.count);
    }

-- there is the endpoint still
endpoint_still : (w v : WorldCore) (i : ℕ) (p : Endpoint) → slice_get w.endpoints i ≡ Some p → length v.endpoints ≡ length w.endpoints → (q : Endpoint) × (slice_get v.endpoints i ≡ Some q)
endpoint_still w v i p at many = elim (end_at (slice_get v.endpoints i)) [
  | inl none ↦
      let low = slice_get_within w.endpoints i p at in
      let high = past_end v.endpoints i none in
      absurd (omega (arith, low, high, many))
  | inr q ↦ q
]

-- who holds it by the model then has it
has_then : (t : Ghost) (e : Event) (w v : WorldCore) (i k : ℕ) (name : List ℕ) (d : DeviceState) → Has w i name d → (m : Moved t e w v) → name_at t.infos k ≡ Some name → ((after_all t.system m.steps).device k).holder ≡ Some i → HasOne v i name
has_then t e w v i k name d x m named holds =
    let q = endpoint_still w v i x.at.endpoint x.at.is_there m.many in
    let holder : (m.ghost_then.system.device k).holder ≡ Some i = ap (λ (s : SystemState). (s.device k).holder) m.rules_are ∙ holds in
    let there : name_at m.ghost_then.infos k ≡ Some name = ap (λ (infos : List DeviceInfo). name_at infos k) m.infos ∙ named in
    let has = job_has m.ghost_then v k i name q.0 q.1 m.stands holder there in
    (has.0, has.1)

spared : (t : Ghost) (e : Event) (w v : WorldCore) (i : ℕ) (name : List ℕ) (d : DeviceState) → WorldRefines t w → Has w i name d → Moved t e w v → SparesAll t.infos e i → HasOne v i name
spared t e w v i name d h x m spares =
    let held = has_holds t w i name d h x in
    has_then t e w v i held.place name d x m held.named (steps_hold t.infos e m.steps t.system held.place i m.of spares m.legal (ap (λ (dev : AbstractDevice). dev.holder) held.is))

-- ---- requests that are delivered

-- client i has it still, or its session is over
abbrev Ended_or_has : SystemState → ℕ → ℕ → Type 0
Ended_or_has s i k = ((s.device k).holder ≡ Some i) ⊎ ((s.job i).served ≡ false)

answered : (infos : List DeviceInfo) (i n : ℕ) (xs : List Transition) (s : SystemState) (challenge : Challenge) (fault : Option FailureCounts) → Invariant s → IsUnderWay (s.job i).client.stage → (device_for s i).holder ≡ Some i → AreOf infos (ToDaemon i n) xs → (j : ℕ) → j ≡ i → IsHistory (after_transition s (By j (actions.Answers challenge fault))) xs → Ended_or_has (after_all (after_transition s (By j (actions.Answers challenge fault))) xs) i (wanted_place s i)
answered infos i n xs s challenge fault sound on h of j same = subst (λ (m : ℕ). IsHistory (after_transition s (By m (actions.Answers challenge fault))) xs → Ended_or_has (after_all (after_transition s (By m (actions.Answers challenge fault))) xs) i (wanted_place s i)) (sym same) own
  where
    u : SystemState
    u = after_transition s (By i (actions.Answers challenge fault))

    own : IsHistory u xs → Ended_or_has (after_all u xs) i (wanted_place s i)
    own may = elim (ends_or_stays infos i n xs u of may (spent_by s i challenge fault (few_left s i sound on))) [
      | inl stays ↦ inl (ap (λ (z : SystemState). (z.device (wanted_place s i)).holder) stays ∙ (ap (λ (dev : AbstractDevice). dev.holder) (own_device s i (actions.Answers challenge fault)) ∙ answer_holds s i challenge fault (sound.exchanges i) on h))
      | inr off ↦ inr off
    ]

broken : (infos : List DeviceInfo) (i n : ℕ) (xs : List Transition) (s : SystemState) (memory : Bool) → AreOf infos (ToDaemon i n) xs → (j : ℕ) → j ≡ i → IsHistory (after_transition s (By j (actions.Breaks memory))) xs → Ended_or_has (after_all (after_transition s (By j (actions.Breaks memory))) xs) i (wanted_place s i)
broken infos i n xs s memory of j same = subst (λ (m : ℕ). IsHistory (after_transition s (By m (actions.Breaks memory))) xs → Ended_or_has (after_all (after_transition s (By m (actions.Breaks memory))) xs) i (wanted_place s i)) (sym same) own
  where
    u : SystemState
    u = after_transition s (By i (actions.Breaks memory))

    own : IsHistory u xs → Ended_or_has (after_all u xs) i (wanted_place s i)
    own may = inr (off_stays infos i n xs u of may (ap (λ (q : JobState). q.served) (own_party s i (actions.Breaks memory))))

delivered_steps : (infos : List DeviceInfo) (i n : ℕ) (xs : List Transition) (s : SystemState) → Invariant s → IsUnderWay (s.job i).client.stage → (device_for s i).holder ≡ Some i → AreOf infos (ToDaemon i n) xs → IsHistory s xs → Ended_or_has (after_all s xs) i (wanted_place s i)
delivered_steps infos i n [] s sound on h of may = inl h
delivered_steps infos i n (By j (actions.Answers challenge fault) ∷ xs) s sound on h of may = answered infos i n xs s challenge fault sound on h of.1 j of.0.0 may.1
delivered_steps infos i n (By j (actions.Breaks memory) ∷ xs) s sound on h of may = broken infos i n xs s memory of.1 j of.0.0 may.1
delivered_steps infos i n (By j x ∷ xs) s sound on h of may = absurd of.0.1
delivered_steps infos i n (Loads d page ∷ xs) s sound on h of may = absurd of.0
delivered_steps infos i n (Unplugs d ∷ xs) s sound on h of may = absurd of.0
delivered_steps infos i n (Uses u d shown left ∷ xs) s sound on h of may = absurd of.0

-- what becomes of a device that the session of job i has
abbrev Still : Event → WorldCore → WorldCore → ℕ → List ℕ → Type 0
Still e w v i name = HasOne v i name ⊎ ((e ≡ LoseControl i) ⊎ ((n : ℕ) × (e ≡ ToDaemon i n) × ((outcome_at w i ≢ Some outcomes.Running) ⊎ HasLeft v i)))

runs_or_not : (stage : JobStage) → IsUnderWay stage ⊎ (IsUnderWay stage → ⊥)
runs_or_not Idle = inl tt
runs_or_not (Running g) = inl tt
runs_or_not Done = inr (λ on. on)
runs_or_not (Ended status why) = inr (λ on. on)

runs_as : (w : WorldCore) (i : ℕ) (p : Endpoint) → slice_get w.endpoints i ≡ Some p → outcome_at w i ≡ Some outcomes.Running → p.client.outcome ≡ outcomes.Running
runs_as w i p at is = unsome p.client.outcome outcomes.Running (sym (ap (option_map (λ (q : Endpoint). q.client.outcome)) at) ∙ is)

delivered : (t : Ghost) (w v : WorldCore) (i n : ℕ) (name : List ℕ) (d : DeviceState) → WorldRefines t w → Has w i name d → Moved t (ToDaemon i n) w v → Still (ToDaemon i n) w v i name
delivered t w v i n name d h x m = elim (runs_or_not (t.system.job i).client.stage) [
  | inr off ↦ inr (inr (n, refl, inl (λ is. off (on_there t w i x.at.endpoint h x.at.is_there (runs_as w i x.at.endpoint x.at.is_there is)))))
  | inl on ↦
      let held = has_holds t w i name d h x in
      let mine : (device_for t.system i).holder ≡ Some i = ap (λ (k : ℕ). (t.system.device k).holder) (sym held.wanted) ∙ ap (λ (dev : AbstractDevice). dev.holder) held.is in
      let named : name_at t.infos (wanted_place t.system i) ≡ Some name = ap (name_at t.infos) (sym held.wanted) ∙ held.named in
      elim (delivered_steps t.infos i n m.steps t.system h.sound on mine m.of m.legal) [
        | inl holds ↦ inl (has_then t (ToDaemon i n) w v i (wanted_place t.system i) name d x m named holds)
        | inr over ↦ inr (inr (
          n,
          refl,
          inr (λ s now.
              let clash : true ≡ false = sym (served_at m.ghost_then v i s m.stands now) ∙ (ap (λ (z : SystemState). (z.job i).served) m.rules_are ∙ over) in cc),
        ))
      ]
]

-- a session that stands was connected
never_connects : (t : Ghost) (w : WorldCore) (i : ℕ) (s : Session DeviceState) → WorldRefines t w → SessionAt w i s → CanAt w i moves.Connect → ⊥
never_connects t w i s h a (p, at, can) = elim ((h.endpoints i p at).exchanges.begun can.1) [
  | inl idle ↦
      let off = (subst (StageInvariant i (make_for t.system i) (t.system.job i) (device_for t.system i)) idle (h.sound.exchanges i)).0 in
      (let clash : true ≡ false = sym (served_at t w i s h a) ∙ off in cc)
  | inr never ↦ never (on_there t w i p h at (is_running_so p.client.outcome can.0))
]
  where
    is_running_so : (o : Outcome) → is_running o ≡ true → o ≡ outcomes.Running
    is_running_so outcomes.Running e = refl
    is_running_so (outcomes.Done reports) e = absurd (let clash : false ≡ true = e in cc)
    is_running_so (outcomes.Ended status why) e = absurd (let clash : false ≡ true = e in cc)

-- ---- any event

still : EventsFollow → (t : Ghost) (e : Event) (w v : WorldCore) (i : ℕ) (name : List ℕ) (d : DeviceState) → WorldRefines t w → Leads source_state e w v → Has w i name d → Still e w v i name
still follows t (Connect j) w v i name d h leads x = elim (decide j i) [
  | inl same ↦
      let stays : v ≡ w = idle_at w i moves.Connect v (subst (λ (k : ℕ). Leads source_state (Connect k) w v) same leads) (never_connects t w i x.session h x.at) in
      inl (d, subst (λ (y : WorldCore). Has y i name d) (sym stays) x)
  | inr other ↦ inl (spared t (Connect j) w v i name d h x (moved follows t (Connect j) w v h (tt, tt) (tt, tt) leads) (own_or_spares i j moves.Connect (inl other)))
]
still follows t (ToDaemon j n) w v i name d h leads x = elim (decide j i) [
  | inl same ↦
      subst (λ (k : ℕ). Leads source_state (ToDaemon k n) w v → Still (ToDaemon k n) w v i name) (sym same)
      (λ own. delivered t w v i n name d h x (moved follows t (ToDaemon i n) w v h (tt, tt) (tt, tt) own)) leads
  | inr other ↦ inl (spared t (ToDaemon j n) w v i name d h x (moved follows t (ToDaemon j n) w v h (tt, tt) (tt, tt) leads) (own_or_spares i j (moves.ToDaemon n) (inl other)))
]
still follows t (LoseControl j) w v i name d h leads x = elim (decide j i) [
  | inl same ↦ inr (inl (ap (λ (k : ℕ). LoseControl k) same))
  | inr other ↦ inl (spared t (LoseControl j) w v i name d h x (moved follows t (LoseControl j) w v h (tt, tt) (tt, tt) leads) (own_or_spares i j moves.LoseControl (inl other)))
]
still follows t (ToClient j n) w v i name d h leads x = inl (spared t (ToClient j n) w v i name d h x (moved follows t (ToClient j n) w v h (tt, tt) (tt, tt) leads) (own_or_spares i j (moves.ToClient n) (inr (λ turns. turns))))
still follows t (DataConnect j) w v i name d h leads x = inl (spared t (DataConnect j) w v i name d h x (moved follows t (DataConnect j) w v h (tt, tt) (tt, tt) leads) (own_or_spares i j moves.DataConnect (inr (λ turns. turns))))
still follows t (DataTurn j) w v i name d h leads x = inl (spared t (DataTurn j) w v i name d h x (moved follows t (DataTurn j) w v h (tt, tt) (tt, tt) leads) (own_or_spares i j moves.DataTurn (inr (λ turns. turns))))
still follows t (DataToClient j n) w v i name d h leads x = inl (spared t (DataToClient j n) w v i name d h x (moved follows t (DataToClient j n) w v h (tt, tt) (tt, tt) leads) (own_or_spares i j (moves.DataToClient n) (inr (λ turns. turns))))
still follows t (LoseImage j) w v i name d h leads x = inl (spared t (LoseImage j) w v i name d h x (moved follows t (LoseImage j) w v h (tt, tt) (tt, tt) leads) (own_or_spares i j moves.LoseImage (inr (λ turns. turns))))
still follows t (Cancel j) w v i name d h leads x = inl (spared t (Cancel j) w v i name d h x (moved follows t (Cancel j) w v h (tt, tt) (tt, tt) leads) (own_or_spares i j moves.Cancel (inr (λ turns. turns))))
still follows t (Load other source) w v i name d h leads x = inl (laid_has w v i other name (source_state source) d leads x)
still follows t (Unplug other) w v i name d h leads x = inl (spared t (Unplug other) w v i name d h x (moved follows t (Unplug other) w v h (tt, tt) (tt, tt) leads) (λ j y of. absurd of))

by_jobs : Below → (h : History) (e : Event) (w v : WorldCore) → (l : LedTo h w) → Leads source_state e w v → (i : ℕ) (name : List ℕ) (d : DeviceState) → Has w i name d → (jobs : List Job) → h.jobs ≡ jobs → Still e w v i name
by_jobs below h e w v l leads i name d x [] is = absurd (let clash : None ≡ Some x.at.endpoint = ap (λ (ps : List Endpoint). slice_get ps i) (sym (no_endpoints h w l is)) ∙ x.at.is_there in cc)
by_jobs below h e w v l leads i name d x (job ∷ jobs) is =
    let k = kept_by below.kept h w job l in
    still below.follows k.run.ghost_then e w v i name d k.run.stands leads x

pub holds_on : Below → (h : History) (e : Event) (w v : WorldCore) → LedTo h w → Leads source_state e w v → HoldsOn e w v
holds_on below h e w v l leads i name d x = by_jobs below h e w v l leads i name d x h.jobs refl
