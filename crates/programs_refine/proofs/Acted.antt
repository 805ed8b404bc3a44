-- An act for a session, a job's or a stranger's: where the daemon of the world is behind it, and what became of the job, the world stands
-- behind all that was done.
use Rattle.std.specs.Prelude.{◌<◌, ◌≤◌, ◌||◌}
use Rattle.std.proofs.Common.{◌≡◌, ◌≢◌, ◌∙◌, ◌⊎◌, inl, inr, ℕ, true, false, Some, None, List, [], ◌∷◌, ◌++◌, length, slice_get, refl, sym, ap, subst}
use Rattle.page_picture.specs.Source.{SourceState}
use Rattle.page_sources.specs.declared.kinds.Source.{Source}
use Rattle.scan_job.specs.declared.job.Job.{Job}
use Rattle.net_client.specs.ClientStates.{ClientState}
use Rattle.saned_core.specs.declared.session_slot.SessionId.{SessionId}
use Rattle.saned_core.specs.DaemonStates.{Core, session_slot_of}
use Rattle.saned_serve.specs.SessionActions.{ActsOn, SessionAction}
use Rattle.saned_serve.specs.Journal.{LoopAction}
use Rattle.saned_serve.specs.Journal.LoopAction.{Of}
use Rattle.in_flight.specs.InFlight.{DiffersInFlight, SlotDiffersInFlight, undelivered_with}
use Rattle.in_flight.proofs.Calls.{other_flying, own_flying}
use Rattle.in_flight.proofs.Slots.{decide}
use Rattle.interleaving.specs.HandingOn.{Owner}
use Rattle.event_world.specs.declared.event.Event.{Event}
use Rattle.event_world.specs.declared.event.Event.TheVariants as world
use Rattle.event_world.specs.declared.event.JobEvent.{JobEvent}
use Rattle.event_world.specs.declared.event.JobEvent.TheVariants as events
use Rattle.event_world.specs.declared.endpoint.Endpoint.{Endpoint}
use Rattle.event_world.specs.JobEvents.{Can, Does, IsFlowing, frame_state_at}
use Rattle.event_world.specs.Worlds.{AtEndpoint, Leads, WorldCore}
use Rattle.world_refines.specs.WorldRefinement.{IsNobodys}
use Rattle.strangers.specs.Among.{StrangerAct, StrangerActs}
use Rattle.strangers.specs.Together.{JointEvent}
use Rattle.strangers.specs.Together.JointEvent.{OfStranger}
use Rattle.programs_refine.specs.WorldHistory.{IsOfConnections}
use Rattle.programs_refine.proofs.Lists.{same_there, there, within}
use Rattle.programs_refine.proofs.Outgoing.{never_both}
use Rattle.programs_refine.proofs.Passed.{Passed, Traffics, passed_after, passed_of, passes_other, passes_own}
use Rattle.programs_refine.proofs.Tracks.{Course, Led, led_more, HasLeft, IsCalm, IsLinked, JobTracks, Moved, Tracks, at_endpoint, goes_on, moved, stays, world_with}
use Rattle.programs_refine.proofs.Tracks.JobTracks.{Unlinked, Linked, Left}

abbrev pub TracksBehind : (course : Course) → List LoopAction → (ℕ → Traffics) → Core → (ℕ → ClientState) → Type 0
TracksBehind course journal done d c = Tracks course (passed_of journal) done d c

-- ---- an act for a session, at the daemon of the world

-- that daemon behind an act for session n, with what is on its way of that one then
pub record Served (course : Course) (journal : List LoopAction) (done : ℕ → Traffics) (d d_new : Core) (c : ℕ → ClientState) (t : TracksBehind course journal done d c) (n : ℕ) (act : SessionAction) (e : Core) (bytes : List ℕ) : Type 0 where
  pub differs : DiffersInFlight (undelivered_with n bytes t.flying) d_new e
  pub was : (k : ℕ) → k ≢ n → session_slot_of e.slots k ≢ None → session_slot_of t.w.daemon.slots k ≢ None
  pub slot : session_slot_of e.slots n ≢ None → (passed_after act (passed_of journal n)).is_open ≡ true
  pub frames : (k : ℕ) → k ≢ n → frame_state_at e k ≡ frame_state_at t.w.daemon k
  pub calm : ((passed_after act (passed_of journal n)).dropped || (passed_after act (passed_of journal n)).last) ≡ true → IsFlowing (frame_state_at e n) → ⊥
  pub more : d.opened ≤ d_new.opened
  pub above : (k : ℕ) → k ≢ n → d.opened ≤ k → d_new.opened ≤ k

other_passed : (journal : List LoopAction) (n : ℕ) (act : SessionAction) (k : ℕ) → k ≢ n → passed_of (Of n act ∷ journal) k ≡ passed_of journal k
other_passed journal n act k off = passes_other n k act journal (λ same. off (sym same))

slots_behind : (course : Course) (journal : List LoopAction) (done : ℕ → Traffics) (d d_new : Core) (c : ℕ → ClientState) (t : TracksBehind course journal done d c) (n : ℕ) (act : SessionAction) (e : Core) (bytes : List ℕ) → Served course journal done d d_new c t n act e bytes
    → (k : ℕ) → session_slot_of e.slots k ≢ None → (passed_of (Of n act ∷ journal) k).is_open ≡ true
slots_behind course journal done d d_new c t n act e bytes s k some = go (decide k n)
  where
    go : (k ≡ n) ⊎ (k ≢ n) → (passed_of (Of n act ∷ journal) k).is_open ≡ true
    go (inl on) = ap (λ (x : ℕ). (passed_of (Of n act ∷ journal) x).is_open) on ∙ ap (λ (x : Passed). x.is_open) (passes_own n act journal) ∙ s.slot (λ none. some (ap (session_slot_of e.slots) on ∙ none))
    go (inr off) = ap (λ (x : Passed). x.is_open) (other_passed journal n act k off) ∙ t.slots k (s.was k off some)

calm_behind : (course : Course) (journal : List LoopAction) (done : ℕ → Traffics) (d d_new : Core) (c : ℕ → ClientState) (t : TracksBehind course journal done d c) (n : ℕ) (act : SessionAction) (e : Core) (bytes : List ℕ) → Served course journal done d d_new c t n act e bytes
    → IsCalm (passed_of (Of n act ∷ journal)) e
calm_behind course journal done d d_new c t n act e bytes s k on flows = go (decide k n)
  where
    go : (k ≡ n) ⊎ (k ≢ n) → ⊥
    go (inl same) = s.calm (sym (ap (λ (x : Passed). x.dropped || x.last) (ap (passed_of (Of n act ∷ journal)) same ∙ passes_own n act journal)) ∙ on) (subst (λ (x : ℕ). IsFlowing (frame_state_at e x)) same flows)
    go (inr off) = t.calm k (sym (ap (λ (x : Passed). x.dropped || x.last) (other_passed journal n act k off)) ∙ on) (subst IsFlowing (s.frames k off) flows)

-- ---- for the session of a job

-- what became of that one
pub record Acted (course : Course) (journal : List LoopAction) (done : ℕ → Traffics) (d d_new : Core) (c : ℕ → ClientState) (t : TracksBehind course journal done d c) (n i : ℕ) (act : SessionAction) (e : Core) (bytes : List ℕ) : Type 0 where
  pub serves : Served course journal done d d_new c t n act e bytes
  pub q : Endpoint
  pub m : Moved course t.w i q e
  pub low : n < d_new.opened
  pub mine : IsLinked (passed_after act (passed_of journal n)) bytes (done i) n (c i) q ⊎ (((passed_after act (passed_of journal n)).is_open ≡ false) × HasLeft (done i) (c i) q)

other_owner : (owner : Owner) (n k i j : ℕ) → owner n ≡ Some i → owner k ≡ Some j → j ≢ i → k ≢ n
other_owner owner n k i j own theirs off same = off (let e : Some j ≡ Some i = sym theirs ∙ ap owner same ∙ own in cc)

pub act_done : (course : Course) (journal : List LoopAction) (done : ℕ → Traffics) (d d_new : Core) (c : ℕ → ClientState) (t : TracksBehind course journal done d c) (n i : ℕ) (act : SessionAction) (e : Core) (bytes : List ℕ)
    → course.owner n ≡ Some i → Acted course journal done d d_new c t n i act e bytes → TracksBehind course (Of n act ∷ journal) done d_new c
act_done course journal done d d_new c t n i act e bytes own a =
    goes_on course (passed_of journal) (passed_of (Of n act ∷ journal)) done done d d_new c c t i a.q e a.m (undelivered_with n bytes t.flying) a.serves.differs
    (slots_behind course journal done d d_new c t n act e bytes a.serves) owned (calm_behind course journal done d d_new c t n act e bytes a.serves) a.serves.more
    (λ j off k theirs. let apart = other_owner course.owner n k i j own theirs off in (a.serves.above k apart, other_passed journal n act k apart, other_flying n k bytes t.flying apart)) (λ j off. (refl, refl)) mine
  where
    own_passed : passed_of (Of n act ∷ journal) n ≡ passed_after act (passed_of journal n)
    own_passed = passes_own n act journal

    owned : course.among ≡ false → (k : ℕ) → (passed_of (Of n act ∷ journal) k).is_open ≡ true → (j : ℕ) × (course.owner k ≡ Some j)
    owned none k on = go (decide k n)
      where
        go : (k ≡ n) ⊎ (k ≢ n) → (j : ℕ) × (course.owner k ≡ Some j)
        go (inl same) = (i, ap course.owner same ∙ own)
        go (inr off) = t.owned none k (sym (ap (λ (x : Passed). x.is_open) (other_passed journal n act k off)) ∙ on)

    mine : (job : Job) → slice_get course.jobs i ≡ Some job → JobTracks course.owner d_new.opened (undelivered_with n bytes t.flying) (passed_of (Of n act ∷ journal)) (done i) i job (c i) a.q
    mine job at = go a.mine
      where
        go : IsLinked (passed_after act (passed_of journal n)) bytes (done i) n (c i) a.q ⊎ (((passed_after act (passed_of journal n)).is_open ≡ false) × HasLeft (done i) (c i) a.q) → JobTracks course.owner d_new.opened (undelivered_with n bytes t.flying) (passed_of (Of n act ∷ journal)) (done i) i job (c i) a.q
        go (inl l) =
            Linked n own a.low (subst (λ (x : Passed). IsLinked x (undelivered_with n bytes t.flying n) (done i) n (c i) a.q) (sym own_passed) (subst (λ (x : List ℕ). IsLinked (passed_after act (passed_of journal n)) x (done i) n (c i) a.q) (sym (own_flying n n bytes t.flying refl)) l))
        go (inr l) = Left n own a.low (ap (λ (x : Passed). x.is_open) own_passed ∙ l.0) l.1

-- ---- for the session of a stranger

-- that of a job's endpoint is not his
not_theirs : (course : Course) (journal : List LoopAction) (done : ℕ → Traffics) (d : Core) (c : ℕ → ClientState) (t : TracksBehind course journal done d c) (n : ℕ) → course.owner n ≡ None → IsNobodys t.w n
not_theirs course journal done d c t n none j p id at link =
    let job = there course.jobs j (subst (λ (x : ℕ). j < x) t.count (within t.w.endpoints j p at)) in
    let e = t.each j job.0 job.1 in
    by job.0 (subst (λ (z : Endpoint). JobTracks course.owner d.opened t.flying (passed_of journal) (done j) j job.0 (c j) z) (same_there t.w.endpoints j e.0 p e.1 at) e.2)
  where
    by : (job : Job) → JobTracks course.owner d.opened t.flying (passed_of journal) (done j) j job (c j) p → id.number ≢ n
    by job (Unlinked u) same = let clash : None ≡ Some id = sym (ap (λ (z : Endpoint). z.link) u.new.rest) ∙ link in cc
    by job (Linked k own low l) same =
        let is : Some l.id ≡ Some id = sym l.link ∙ link in
        let number : id.number ≡ k = subst (λ (x : SessionId). x.number ≡ k) (let it : l.id ≡ id = cc in it) l.number in
        let clash : None ≡ Some j = sym none ∙ ap course.owner (sym same ∙ number) ∙ own in cc
    by job (Left k own low shut l) same = let clash : None ≡ Some id = sym l.link ∙ link in cc

-- the world behind his act, where no endpoint changes
record Came (course : Course) (w : WorldCore) (e : Core) : Type 0 where
  events : List JointEvent
  v : WorldCore
  leads : Led course events v
  daemon : v.daemon ≡ e
  rest : v.endpoints ≡ w.endpoints

-- nothing happens there, or he does it
abbrev pub DoesThere : ℕ → Core → Core → Type 0
DoesThere n d e = (e ≡ d) ⊎ ((act : SessionAction) × ActsOn n d act e)

came : (course : Course) (events : List JointEvent) (w : WorldCore) (n : ℕ) (e : Core) → Led course events w → course.owner n ≡ None → course.among ≡ true → IsNobodys w n → DoesThere n w.daemon e → Came course w e
came course events w n e l none may nobodys (inl same) = record { events = events; v = w; leads = l; daemon = sym same; rest = refl }
came course events w n e l none may nobodys (inr does) =
    let v : WorldCore = record w { daemon = e } in
    let act : StrangerAct = record { session = n; act = does.0 } in
    let acts : StrangerActs n does.0 w v = record { nobodys = nobodys; acts = does.1; rest = refl } in
    record { events = events ++ OfStranger act ∷ []; v = v; leads = led_more course events (OfStranger act) w v l tt (none, may, tt) (v, acts, refl); daemon = refl; rest = refl }

pub stranger_done : (course : Course) (journal : List LoopAction) (done : ℕ → Traffics) (d d_new : Core) (c : ℕ → ClientState) (t : TracksBehind course journal done d c) (n : ℕ) (act : SessionAction) (e : Core) (bytes : List ℕ)
    → course.owner n ≡ None → course.among ≡ true → Served course journal done d d_new c t n act e bytes → DoesThere n t.w.daemon e → TracksBehind course (Of n act ∷ journal) done d_new c
stranger_done course journal done d d_new c t n act e bytes none may s does =
    let m = came course t.events t.w n e t.leads none may (not_theirs course journal done d c t n none) does in
    record {
      events = m.events;
      w = m.v;
      leads = m.leads;
      count = ap length m.rest ∙ t.count;
      flying = undelivered_with n bytes t.flying;
      differs = subst (λ (x : Core). DiffersInFlight (undelivered_with n bytes t.flying) d_new x) (sym m.daemon) s.differs;
      slots = subst (λ (x : Core). (k : ℕ) → session_slot_of x.slots k ≢ None → (passed_of (Of n act ∷ journal) k).is_open ≡ true) (sym m.daemon) (slots_behind course journal done d d_new c t n act e bytes s);
      owned = λ off. never_both course.among may off;
      calm = subst (IsCalm (passed_of (Of n act ∷ journal))) (sym m.daemon) (calm_behind course journal done d d_new c t n act e bytes s);
      each = λ j job at.
          let was = t.each j job at in
          let off : (k : ℕ) → course.owner k ≡ Some j → k ≢ n = λ k own same. (let clash : None ≡ Some j = sym none ∙ ap course.owner (sym same) ∙ own in cc) in (
            was.0,
            ap (λ (l : List Endpoint). slice_get l j) m.rest ∙ was.1,
            stays course.owner d.opened d_new.opened t.flying (undelivered_with n bytes t.flying) (passed_of journal) (passed_of (Of n act ∷ journal)) (done j) j job (c j) was.0 s.more (λ k own. s.above k (off k own)) (λ k own. other_passed journal n act k (off k own))
                (λ k own. other_flying n k bytes t.flying (off k own)) was.2,
          );
    }

-- ---- an event at the endpoint of a job

-- the event that it is for job i, which no operator makes
abbrev of_job : JobEvent → ℕ → Event
of_job events.Connect i = world.Connect i
of_job (events.ToDaemon n) i = world.ToDaemon i n
of_job (events.ToClient n) i = world.ToClient i n
of_job events.DataConnect i = world.DataConnect i
of_job events.DataTurn i = world.DataTurn i
of_job (events.DataToClient n) i = world.DataToClient i n
of_job events.LoseControl i = world.LoseControl i
of_job events.LoseImage i = world.LoseImage i
of_job events.Cancel i = world.Cancel i

abbrev pub IsNoCancel : JobEvent → Type 0
IsNoCancel events.Cancel = ⊥
IsNoCancel events.Connect = Unit {0}
IsNoCancel (events.ToDaemon n) = Unit {0}
IsNoCancel (events.ToClient n) = Unit {0}
IsNoCancel events.DataConnect = Unit {0}
IsNoCancel events.DataTurn = Unit {0}
IsNoCancel (events.DataToClient n) = Unit {0}
IsNoCancel events.LoseControl = Unit {0}
IsNoCancel events.LoseImage = Unit {0}

pub of_connections : (event : JobEvent) (i : ℕ) → IsNoCancel event → IsOfConnections (of_job event i)
of_connections events.Cancel i is = is
of_connections events.Connect i is = tt
of_connections (events.ToDaemon n) i is = tt
of_connections (events.ToClient n) i is = tt
of_connections events.DataConnect i is = tt
of_connections events.DataTurn i is = tt
of_connections (events.DataToClient n) i is = tt
of_connections events.LoseControl i is = tt
of_connections events.LoseImage i is = tt

pub leads_as : (source : Source → SourceState) (event : JobEvent) (i : ℕ) (w v : WorldCore) → AtEndpoint w i event v → Leads source (of_job event i) w v
leads_as source events.Cancel i w v a = a
leads_as source events.Connect i w v a = a
leads_as source (events.ToDaemon n) i w v a = a
leads_as source (events.ToClient n) i w v a = a
leads_as source events.DataConnect i w v a = a
leads_as source events.DataTurn i w v a = a
leads_as source (events.DataToClient n) i w v a = a
leads_as source events.LoseControl i w v a = a
leads_as source events.LoseImage i w v a = a

unfoldable pub comes : (course : Course) (before : List JointEvent) (w : WorldCore) (i : ℕ) (p q : Endpoint) (event : JobEvent) (e : Core) → Led course before w → slice_get w.endpoints i ≡ Some p → IsNoCancel event → Can w.daemon p event → Does w.daemon p event e q → Moved course w i q e
comes course before w i p q event e l at is can does = moved course before (of_job event i) w i p q e l at (of_connections event i is) (leads_as course.source event i w (world_with w i e q) (at_endpoint w i p event e q at can does))

-- the same bytes are on their way
pub alike_flying : (flying other : ℕ → List ℕ) (d e : Core) → ((k : ℕ) → other k ≡ flying k) → DiffersInFlight flying d e → DiffersInFlight other d e
alike_flying flying other d e same h = record {
  registry = h.registry;
  users = h.users;
  strings = h.strings;
  stream = h.stream;
  opened = h.opened;
  sessions = λ k. subst (λ (x : List ℕ). SlotDiffersInFlight x (session_slot_of d.slots k) (session_slot_of e.slots k)) (sym (same k)) (h.sessions k);
  limits = h.limits;
  limits_there = h.limits_there;
}

undelivered_same : (n : ℕ) (flying : ℕ → List ℕ) (k : ℕ) → undelivered_with n (flying n) flying k ≡ flying k
undelivered_same n flying k = by (decide k n)
  where
    by : (k ≡ n) ⊎ (k ≢ n) → undelivered_with n (flying n) flying k ≡ flying k
    by (inl on) = own_flying n k (flying n) flying on ∙ ap flying (sym on)
    by (inr off) = other_flying n k (flying n) flying off

pub same_flying : (n : ℕ) (flying : ℕ → List ℕ) (d e : Core) → DiffersInFlight flying d e → DiffersInFlight (undelivered_with n (flying n) flying) d e
same_flying n flying d e h = alike_flying flying (undelivered_with n (flying n) flying) d e (undelivered_same n flying) h
