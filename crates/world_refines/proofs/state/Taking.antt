-- Steps of one job: what they make of what stands, and a daemon that they leave as it is.
use Rattle.std.specs.Prelude.{IsSome}
use Rattle.system_model.specs.Daemon.{Quiet, Waiting}
use Rattle.std.proofs.Common.{◌≡◌, ◌⊎◌, inl, inr, ◌∙◌, ℕ, zero, suc, ◌<◌, ◌≤◌, List, [], ◌∷◌, Option, Some, None, Bool, true, false, cond, eqb, eqb-true, refl, sym, ap, subst, length, slice_get, slice_set, arith}
use Rattle.frame_join.specs.FrameHistory.{JoinHistory}
use Rattle.saned_core.specs.declared.session_slot.SessionId.{SessionId}
use Rattle.saned_core.specs.DaemonStates.{Core}
use Rattle.system_model.specs.Devices.{Make}
use Rattle.system_model.specs.AbstractDevices.{AbstractDevice, is_held_by}
use Rattle.system_model.specs.Actions.{Action, job_after_action}
use Rattle.system_model.specs.SystemStates.{JobState, listed_devices, make_for, with_entry, device_for}
use Rattle.system_model.specs.AbstractSessions.{AbstractSession, one_word_session}
use Rattle.system_model.specs.Transitions.{By, Transition}
use Rattle.daemon_refines.specs.ContextRefinement.{ContextRefines, TableRefines}
use Rattle.daemon_refines.specs.Cores.{SessionRefines}
use Rattle.daemon_refines.proofs.Changes.{Held}
use Rattle.daemon_refines.proofs.DataLinks.{still_awaited}
use Rattle.daemon_refines.proofs.SessionEndings.{same_tables}
use Rattle.daemon_refines.proofs.Moved.{put_elsewhere, put_there}
use Rattle.daemon_refines.proofs.OtherSessions.{leaves_all, leaves_same}
use Rattle.saned_requests.specs.RequestAnswers.{RequestContext}
use Rattle.event_world.specs.declared.event.JobEvent.{JobEvent as Event}
use Rattle.event_world.specs.declared.endpoint.Endpoint.{Endpoint}
use Rattle.event_world.specs.JobEvents as world
use Rattle.event_world.specs.Worlds.{AtEndpoint, WorldCore}
use Rattle.world_refines.specs.GhostStates.{Ghost, Wires, ghost_after}
use Rattle.world_refines.specs.WorldRefinement.{IsNobody, IsServed, EndpointRefines, EndpointRefinesAt, WorldRefines, session_by}
use Rattle.world_refines.specs.GhostEvents.{GhostCan, EventRefines, HasSomeBytes, GhostLeads}
use Rattle.event_world.specs.declared.event.JobEvent.TheVariants as events
use Rattle.world_refines.proofs.state.Changing.{IsChange}
use Rattle.world_refines.proofs.state.ListEntries.{there, within}
use Rattle.world_refines.proofs.state.Sees.{Leaves}

-- ---- one step

pub one_change : (t : Ghost) (i : ℕ) (x : Action) (bytes : Wires) (past : JoinHistory) (pages : List JoinHistory) → IsChange i t (ghost_after t i (By i x ∷ []) bytes past pages)
one_change t i x bytes past pages =
    record {
      users = refl;
      infos = refl;
      count = refl;
      jobs = refl;
      make = refl;
      places = refl;
      job = λ j n. put_elsewhere t.system.job i (job_after_action i (make_for t.system i) (listed_devices t.system) (t.system.job i) (device_for t.system i) x) j n;
      wires = λ j n. put_elsewhere t.wires i bytes j n;
      history = λ j n. put_elsewhere t.history i past j n;
      pages = λ j n. put_elsewhere t.pages i pages j n;
    }

pub one_party : (t : Ghost) (i : ℕ) (x : Action) (bytes : Wires) (past : JoinHistory) (pages : List JoinHistory) →
    (ghost_after t i (By i x ∷ []) bytes past pages).system.job i ≡ job_after_action i (make_for t.system i) (listed_devices t.system) (t.system.job i) (device_for t.system i) x
one_party t i x bytes past pages = put_there t.system.job i (job_after_action i (make_for t.system i) (listed_devices t.system) (t.system.job i) (device_for t.system i) x)

-- ---- the job itself

pub sits_there : (u : Ghost) (e : Core) (i : ℕ) (q : Endpoint) (p : JobState) (bytes : Wires) (past : JoinHistory) (pages : List JoinHistory) → u.system.job i ≡ p → u.wires i ≡ bytes → u.history i ≡ past → u.pages i ≡ pages →
    EndpointRefines u.users u.infos (u.jobs i) u.system.make u.system.device i p bytes past pages e q → EndpointRefinesAt u e i q
sits_there u e i q p bytes past pages at_p at_x at_past at_pages h =
    subst (λ (x : JobState). EndpointRefines u.users u.infos (u.jobs i) u.system.make u.system.device i x (u.wires i) (u.history i) (u.pages i) e q) (sym at_p)
    (subst (λ (x : Wires). EndpointRefines u.users u.infos (u.jobs i) u.system.make u.system.device i p x (u.history i) (u.pages i) e q) (sym at_x)
    (subst (λ (x : JoinHistory). EndpointRefines u.users u.infos (u.jobs i) u.system.make u.system.device i p bytes x (u.pages i) e q) (sym at_past)
    (subst (λ (x : List JoinHistory). EndpointRefines u.users u.infos (u.jobs i) u.system.make u.system.device i p bytes past x e q) (sym at_pages) h)))

-- ---- devices that are the same at each place

pub put_self : {X : Type 0} (f : ℕ → X) (k : ℕ) (x : X) → x ≡ f k → (j : ℕ) → with_entry f k x j ≡ f j
put_self f k x e j = by_test f k x j (eqb j k) refl e
  where
    by_test : {X : Type 0} (f : ℕ → X) (k : ℕ) (x : X) (j : ℕ) (b : Bool) → eqb j k ≡ b → x ≡ f k → cond b x (f j) ≡ f j
    by_test f k x j true same e = e ∙ ap f (sym (eqb-true j k same))
    by_test f k x j false same e = refl

same_shows : (i : ℕ) (make : ℕ → Make) (d : RequestContext) (table device : ℕ → AbstractDevice) (s : AbstractSession) → ((k : ℕ) → device k ≡ table k) → ContextRefines i make d table s → ContextRefines i make d device s
same_shows i make d table device s same h =
    record {
      words = h.words;
      four = h.four;
      transfer = h.transfer;
      frame = h.frame;
      awaited = still_awaited d.session.held d.session.held d.registry table device d.session.awaited s.awaited refl (λ k. ap (λ (dev : AbstractDevice). dev.listed) (same k)) h.awaited;
      devices = same_tables i make d.session.held d.registry table device same h.devices;
    }

pub same_session : (i : ℕ) (make : ℕ → Make) (core : Core) (n : ℕ) (table device : ℕ → AbstractDevice) (s : AbstractSession) → ((k : ℕ) → device k ≡ table k) → SessionRefines i make core n table s → SessionRefines i make core n device s
same_session i make core n table device s same h = record { session = h.session; stands = h.stands; shows = same_shows i make _ table device s same h.shows; begun = h.begun }

pub same_ruled : (i : ℕ) (table device : ℕ → AbstractDevice) (p : JobState) → ((k : ℕ) → device k ≡ table k) → session_by i device p ≡ session_by i table p
same_ruled i table device p same = ap (λ (dev : AbstractDevice). one_word_session (is_held_by i dev.holder) p.session.job.wants p.session.transfer p.session.awaited) (same p.session.job.wants)

pub same_served : (i : ℕ) (make : ℕ → Make) (core : Core) (link : Option SessionId) (served : Bool) (table device : ℕ → AbstractDevice) (p : JobState) → ((k : ℕ) → device k ≡ table k) →
    IsServed i make core link served table (session_by i table p) → IsServed i make core link served device (session_by i device p)
same_served i make core None true table device p same h = absurd h
same_served i make core (Some id) true table device p same h =
    subst (λ (s : AbstractSession). SessionRefines i make core id.number device s) (sym (same_ruled i table device p same)) (same_session i make core id.number table device _ same h)
same_served i make core link false table device p same h = (h.0, same_tables i make [] core.registry table device same h.1)

-- ---- what a job's session holds

pub record IsHeldBy (i : ℕ) (make : ℕ → Make) (core : Core) (device : ℕ → AbstractDevice) : Type 0 where
  pub held : Held
  pub shows : TableRefines i make held core.registry device

pub served_table : (i : ℕ) (make : ℕ → Make) (core : Core) (link : Option SessionId) (served : Bool) (device : ℕ → AbstractDevice) (s : AbstractSession) → IsServed i make core link served device s → IsHeldBy i make core device
served_table i make core None true device s h = absurd h
served_table i make core (Some id) true device s h = record { held = h.session.held; shows = h.shows.devices }
served_table i make core link false device s h = record { held = []; shows = h.1 }

-- a daemon that stays as it is
pub leaves_core : (t : Ghost) (w : WorldCore) (i : ℕ) (p : Endpoint) (device : ℕ → AbstractDevice) → WorldRefines t w → slice_get w.endpoints i ≡ Some p → ((k : ℕ) → device k ≡ t.system.device k) → Leaves i t.system.make p.link w.daemon w.daemon t.system.device device
leaves_core t w i p device h at same =
    let own = served_table i t.system.make w.daemon p.link (t.system.job i).served t.system.device (session_by i t.system.device (t.system.job i)) (h.endpoints i p at).served in
    record {
      users = refl;
      infos = refl;
      opened = omega arith;
      below = h.slots;
      faithful = h.faithful;
      slots = λ m other below. refl;
      held = own.held;
      shows = same_tables i t.system.make own.held w.daemon.registry t.system.device device same own.shows;
      others = leaves_same i w.daemon.registry w.daemon.registry t.system.device t.system.device device same (leaves_all i w.daemon.registry t.system.device);
    }

-- ---- an event of a job, or of none

pub set_same : {X : Type 0} (xs : List X) (i : ℕ) (x : X) → slice_get xs i ≡ Some x → slice_set xs i x ≡ xs
set_same [] i x e = refl
set_same (z ∷ xs) zero x e = let is : z ≡ x = cc in ap (λ (y : _). y ∷ xs) (sym is)
set_same (z ∷ xs) (suc i) x e = ap (λ (ys : _). z ∷ ys) (set_same xs i x e)

pub nobody_can : (t : Ghost) (i : ℕ) (action : Event) → IsNobody t i → t.count ≤ i → GhostCan t i action → ⊥
nobody_can t i events.Connect h high can = omega (arith, high, can.0)
nobody_can t i (events.ToDaemon n) h high can = let clash : false ≡ true = sym h.linked ∙ can.0 in absurd (cc)
nobody_can t i (events.ToClient n) h high can = let clash : false ≡ true = sym h.linked ∙ can.0 in absurd (cc)
nobody_can t i events.DataConnect h high can = let clash : Quiet ≡ Waiting = sym h.transfer ∙ can.0 in absurd (cc)
nobody_can t i events.DataTurn h high can = let clash : false ≡ true = subst IsSome h.image can.0 in absurd (cc)
nobody_can t i (events.DataToClient n) h high can = subst HasSomeBytes h.image can.0
nobody_can t i events.LoseControl h high can = let clash : false ≡ true = sym h.linked ∙ can in absurd (cc)
nobody_can t i events.LoseImage h high can = let clash : false ≡ true = subst IsSome h.image can.0 in absurd (cc)
nobody_can t i events.Cancel h high can = omega (arith, high, can.0)

pub not_done : (action : Event) (Does : Ghost → ℕ → List Transition → Ghost → Type 0) (t : Ghost) (i : ℕ) (w v : WorldCore) → WorldRefines t w → v ≡ w → (GhostCan t i action → ⊥) → GhostLeads action Does t i v
not_done action Does t i w v h same never =
    record { steps = []; ghost_then = t; happens = record { either = inr never; does = λ can. absurd (never can); cannot = λ n. (refl, refl) }; stands = subst (λ (x : WorldCore). WorldRefines t x) (sym same) h }

pub done : (action : Event) (Does : Ghost → ℕ → List Transition → Ghost → Type 0) (t : Ghost) (i : ℕ) (v : WorldCore) (steps : List Transition) (u : Ghost) → GhostCan t i action → Does t i steps u → WorldRefines u v → GhostLeads action Does t i v
done action Does t i v steps u can does stands =
    record { steps = steps; ghost_then = u; happens = record { either = inl can; does = λ _. does; cannot = λ n. absurd (n can) }; stands = stands }

-- what there is to show of a job that is there: it is done, or it cannot be
pub record Decides (action : Event) (Does : Core → Ghost → ℕ → List Transition → Ghost → Type 0) (t : Ghost) (w : WorldCore) (i : ℕ) (p : Endpoint) : Type 0 where
  pub can : GhostCan t i action → world.Can w.daemon p action
  pub back : world.Can w.daemon p action → GhostCan t i action
  pub either : world.Can w.daemon p action ⊎ (world.Can w.daemon p action → ⊥)
  pub does : world.Can w.daemon p action → (e : Core) (q : Endpoint) → world.Does w.daemon p action e q → GhostLeads action (Does e) t i (record { daemon = e; endpoints = slice_set w.endpoints i q })

-- what it does may be told of the world in front of it and of the daemon behind it
abbrev pub DecidesIn : Event → (WorldCore → Core → Ghost → ℕ → List Transition → Ghost → Type 0) → Type 0
DecidesIn action Does = (t : Ghost) (w : WorldCore) (i : ℕ) (p : Endpoint) → WorldRefines t w → slice_get w.endpoints i ≡ Some p → i < t.count → Decides action (Does w) t w i p

abbrev pub DecidesAt : Event → (Ghost → ℕ → List Transition → Ghost → Type 0) → Type 0
DecidesAt action Does = DecidesIn action (λ w e. Does)

same_scene : (w v : WorldCore) (i : ℕ) (p q : Endpoint) → slice_get w.endpoints i ≡ Some p → v.daemon ≡ w.daemon → v.endpoints ≡ slice_set w.endpoints i q → q ≡ p → v ≡ w
same_scene w v i p q at e endpoints is =
    let posts_are : v.endpoints ≡ w.endpoints = endpoints ∙ (ap (slice_set w.endpoints i) is ∙ set_same w.endpoints i p at) in
    ap (λ (x : Core). record { daemon = x; endpoints = v.endpoints }) e ∙ ap (λ (x : List Endpoint). record { daemon = w.daemon; endpoints = x }) posts_are

leads_at : (action : Event) (Does : Core → Ghost → ℕ → List Transition → Ghost → Type 0) (t : Ghost) (i : ℕ) (w v : WorldCore) (p : Endpoint) → WorldRefines t w → slice_get w.endpoints i ≡ Some p → Decides action Does t w i p → (q : Endpoint) → world.Happens w.daemon p action v.daemon q → v.endpoints ≡ slice_set w.endpoints i q →
    world.Can w.daemon p action ⊎ (world.Can w.daemon p action → ⊥) → GhostLeads action (Does v.daemon) t i v
leads_at action Does t i w v p h at d q happens endpoints (inl can) =
    subst (λ (x : List Endpoint). GhostLeads action (Does v.daemon) t i (record { daemon = v.daemon; endpoints = x })) (sym endpoints) (d.does can v.daemon q (happens.does can))
leads_at action Does t i w v p h at d q happens endpoints (inr never) =
    let same = happens.cannot never in
    not_done action (Does v.daemon) t i w v h (same_scene w v i p q at same.0 endpoints same.1) (λ can. never (d.can can))

leads_by : (action : Event) (Does : WorldCore → Core → Ghost → ℕ → List Transition → Ghost → Type 0) (t : Ghost) (i : ℕ) (w v : WorldCore) → DecidesIn action Does → WorldRefines t w → AtEndpoint w i action v → ((p : Endpoint) × (slice_get w.endpoints i ≡ Some p)) ⊎ (length w.endpoints ≤ i) → GhostLeads action (Does w v.daemon) t i v
leads_by action Does t i w v all h at (inl is) =
    let low : i < t.count = subst (λ (n : ℕ). i < n) (sym h.is_of.count) (within w.endpoints i is.0 is.1) in
    let d = all t w i is.0 h is.1 low in
    let happens = at.happens is.0 is.1 in
    leads_at action (Does w) t i w v is.0 h is.1 d happens.0 happens.1 happens.2 d.either
leads_by action Does t i w v all h at (inr high) =
    not_done action (Does w v.daemon) t i w v h (at.beyond high) (λ can. nobody_can t i action (h.beyond i high) (subst (λ (n : ℕ). n ≤ i) (sym h.is_of.count) high) can)

pub follows_in : (action : Event) (Does : WorldCore → Core → Ghost → ℕ → List Transition → Ghost → Type 0) → DecidesIn action Does → (t : Ghost) (i : ℕ) (w v : WorldCore) → WorldRefines t w → AtEndpoint w i action v → GhostLeads action (Does w v.daemon) t i v
follows_in action Does all t i w v h at = leads_by action Does t i w v all h at (there w.endpoints i)

pub follows_by : (action : Event) (Does : Ghost → ℕ → List Transition → Ghost → Type 0) → DecidesAt action Does → EventRefines action Does
follows_by action Does all = follows_in action (λ w e. Does) all
