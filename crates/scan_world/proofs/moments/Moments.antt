-- Each step of a history, with the moment of its event. An answer to a job that is under way is to the only request that was on its way:
-- the world in front of the event stood for the very state in which it is answered.
use Rattle.std.specs.Prelude.{length, slice_get, slice_index_or, ◌≤◌, ◌<◌}
use Rattle.std.specs.List.{AllByRecursion}
use Rattle.std.proofs.Common.{◌≡◌, ◌∙◌, ◌⊎◌, ℕ, ◌+◌, Bool, true, false, List, [], ◌∷◌, ◌++◌, Option, Some, None, inl, inr, refl, sym, ap, subst, append_assoc}
use Rattle.std.proofs.lemmas.List.{append-nil}
use Rattle.std.proofs.lemmas.Option.{slice_get_within}
use Rattle.page_sources.specs.SourceView.{source_state}
use Rattle.sane_fixed.specs.declared.device_info.DeviceInfo.{DeviceInfo}
use Rattle.device_api.specs.State.{DeviceState}
use Rattle.saned_requests.specs.declared.session.Session.{Session}
use Rattle.saned_core.specs.DaemonStates.{Core}
use Rattle.scan_job.specs.declared.job.Job.{Job}
use Rattle.system_model.specs.AbstractMessages.{Challenge, AbstractRequest}
use Rattle.system_model.specs.AbstractDevices.{AbstractDevice, without_first}
use Rattle.system_model.specs.Actions
use Rattle.system_model.specs.Actions.{answer_next}
use Rattle.system_model.specs.Client.{AbstractProgress, JobStage, Idle, Running, Done, Ended, Greeting, Listing, Opening, Allowing, Describing, Putting, Getting, Starting, Shaping, Imaging, ClientView, request_awaited}
use Rattle.system_model.specs.Daemon.{FailureCounts}
use Rattle.system_model.specs.Devices.{Make}
use Rattle.system_model.specs.Invariants.{Invariant, StageInvariant}
use Rattle.system_model.specs.ModelPromises.{HistoriesKeepInvariant, OutcomesLast}
use Rattle.system_model.specs.Marks.{DeviceView, Loaded, Mark, MarksLead, Removed, Rested, Returned, Started, Took, device_view, view_after_mark}
use Rattle.system_model.specs.MoveRuns.{all_marks}
use Rattle.system_model.specs.SystemStates.{JobState, SystemState, listed_devices, make_for, device_for, wanted_place}
use Rattle.system_model.specs.Transitions.{By, IsEnabled, IsHistory, IsUnderWay, Loads, Transition, Unplugs, Uses, after_transition, after_all}
use Rattle.event_world.specs.declared.endpoint.Endpoint.{Endpoint}
use Rattle.event_world.specs.declared.event.Event.{Event}
use Rattle.event_world.specs.declared.event.Event.TheVariants.{Connect, ToDaemon, ToClient, DataConnect, DataTurn, DataToClient, LoseControl, LoseImage, Cancel, Load, Unplug}
use Rattle.event_world.specs.declared.event.JobEvent.{JobEvent}
use Rattle.event_world.specs.declared.event.JobEvent.TheVariants as moves
use Rattle.event_world.specs.JobEvents.{job_event_of}
use Rattle.event_world.specs.Worlds.{Leads, Runs, WorldCore}
use Rattle.world_refines.specs.GhostEvents.{GhostCan, GhostHappens}
use Rattle.world_refines.specs.GhostStates.{Ghost}
use Rattle.world_refines.specs.FailedSources.{AllAlong, CutIn, FailedIn, FailsInSome, FailsSo, HasFailed, InEvent}
use Rattle.world_refines.specs.MainTheorem.{AreFittingLoads, AreTrueLoads, EventsFollow, GhostComes, GhostComesAll, IsFittingLoad}
use Rattle.world_refines.specs.WorldRefinement.{WorldRefines}
use Rattle.world_refines.proofs.frames.Seeing.{data_decides}
use Rattle.world_refines.proofs.frames.TurnEvents.{turn_decides}
use Rattle.world_refines.proofs.frames.Unimaged.{image_decides}
use Rattle.world_refines.proofs.job_events.Constant.{Fixed, fixed_of, makes_stay, stays_fixed}
use Rattle.world_refines.proofs.job_events.Losing.{control_decides}
use Rattle.world_refines.proofs.replies.Hearing.{deliver_decides}
use Rattle.world_refines.proofs.requests.FedEvent.{delivery_decides}
use Rattle.world_refines.proofs.requests.OneAnswer.{all_requests}
use Rattle.world_refines.proofs.state.Failing.{along_each, along_then, fails_more}
use Rattle.world_refines.proofs.state.Taking.{DecidesAt, nobody_can}
use Rattle.strangers.specs.Among.{MayHaveStrangers, StrangerAct, StrangerActs}
use Rattle.strangers.specs.LeavingJobs.{IsUseOf, ghost_behind}
use Rattle.strangers.specs.Together.{AllIsKeptAmongStrangers, JobsGoOn, JointEvent, RunsAmong, StrangersKeepWorlds, events_among}
use Rattle.strangers.specs.Together.JointEvent.{OfJobs, OfStranger}
use Rattle.scan_world.specs.Calls.{HadUnsaidReply}
use Rattle.scan_world.specs.Histories.{History, LedTo, Moment, history_up_to}
use Rattle.scan_world.specs.Sessions.{CameAsItRan, CanAt, Happened, SessionAt}
use Rattle.scan_world.proofs.Begun.{wants_all}
use Rattle.scan_world.proofs.Elsewhere.{elsewhere}
use Rattle.scan_world.proofs.Joint.{ComesAll, IsOwnUse, own_uses}
use Rattle.scan_world.proofs.Led.{led_on, led_then}
use Rattle.scan_world.proofs.Rows.{SendsOrLoses, WasStarved}
use Rattle.scan_world.proofs.Events.{answers_event, breaks_event, chokes_event, fault_event, image_event, loses_event, named_event, short_event}
use Rattle.scan_world.proofs.Scanned.{infos_of}
use Rattle.scan_world.proofs.Changing.{LoadChanges, changes_or_same, changing_of, with_changing}
use Rattle.scan_world.proofs.Traced.{AreOf, StepOf, comes_of}
use Rattle.scan_world.proofs.moments.Entries.{own_party, past_end}
use Rattle.scan_world.proofs.moments.Ran.{WereOn, came_there, runs_there, were_on}
use Rattle.scan_world.proofs.moments.Stands.{served_at}
use Rattle.scan_world.proofs.moments.Sends.{AllSend, FaultSends, event_sends}
use Rattle.scan_world.proofs.moments.Whole.{all_sent}

-- ---- what an answer has

abbrev pub IsFixed : History → Job → Ghost → Type 0
IsFixed h other t = fixed_of t ≡ (h.users, infos_of h, length h.jobs, λ i. slice_index_or h.jobs i (elsewhere h.devices other))

abbrev pub job_at : History → Job → ℕ → Job
job_at h other i = slice_index_or h.jobs i (elsewhere h.devices other)

-- where a source failed, its event has that
abbrev pub FailedThere : Option FailureCounts → WorldCore → Core → ℕ → List ℕ → Type 0
FailedThere None before behind i name = Unit {0}
FailedThere (Some fault) before behind i name = FailedIn before behind i name

-- where the session of a job stands, the world stands for this state
abbrev pub StandsFor : History → Job → WorldCore → ℕ → SystemState → Type 0
StandsFor h other v i s = (session : Session DeviceState) → SessionAt v i session → (g : Ghost) × IsFixed h other g × WorldRefines g v × (g.system ≡ s)

-- a delivery to the daemon, in front of which the world stood for this state
pub record AnswersAt (h : History) (w : WorldCore) (other : Job) (s : SystemState) (i : ℕ) (challenge : Challenge) (fault : Option FailureCounts) : Type 0 where
  pub n : ℕ
  pub at : Moment h w (ToDaemon i n)
  pub ghost : Ghost
  pub fixed : IsFixed h other ghost
  pub stands : WorldRefines ghost at.before
  pub state : ghost.system ≡ s
  pub failed : FailedThere fault at.before at.behind.daemon i (job_at h other i).device
  pub came : CameAsItRan i at.before at.behind
  pub whole : (session : Session DeviceState) (now : SessionAt at.behind i session) → now.endpoint.client.out ≡ []
  pub later : StandsFor h other at.behind i (after_transition s (By i (Actions.Answers challenge fault)))

abbrev pub AnsweredSo : History → WorldCore → Job → SystemState → Transition → Type 0
AnsweredSo h w other s (By i (Actions.Answers challenge fault)) = IsUnderWay (s.job i).client.stage → AnswersAt h w other s i challenge fault
AnsweredSo h w other s x = Unit {0}

-- a source that failed did so in its event
abbrev FailedHere : (h : History) (w : WorldCore) → Job → (e : Event) → Moment h w e → Bool → ℕ → Type 0
FailedHere h w other e at b i = InEvent b at.before at.behind.daemon i (job_at h other i)

not_empty : (xs : List Event) (e : Event) (ys : List Event) → [] ≡ xs ++ e ∷ ys → ⊥
not_empty [] e ys is = let clash : [] ≡ e ∷ ys = is in cc
not_empty (x ∷ xs) e ys is = let clash : [] ≡ x ∷ (xs ++ e ∷ ys) = is in cc

single_in : (Holds : WorldCore → Core → Type 0) (e event : Event) (u v before behind : WorldCore) (front back : List Event) → e ∷ [] ≡ front ++ event ∷ back → Runs source_state front u before → Runs source_state back behind v → Holds before behind.daemon → Holds u v.daemon
single_in Holds e event u v before behind [] [] split comes rest holds =
    subst (λ (x : WorldCore). Holds x v.daemon) comes (subst (λ (y : WorldCore). Holds before y.daemon) (sym rest) holds)
single_in Holds e event u v before behind [] (b ∷ back) split comes rest holds = absurd (let clash : e ∷ [] ≡ event ∷ b ∷ back = split in cc)
single_in Holds e event u v before behind (f ∷ front) back split comes rest holds = absurd (not_empty front event back (let both : e ∷ [] ≡ f ∷ (front ++ event ∷ back) = split in cc))

failed_here : (h : History) (w : WorldCore) (other : Job) (e : Event) (m : Moment h w e) (t : Ghost) → IsFixed h other t → (b : Bool) (i : ℕ) → HasFailed source_state (e ∷ []) t m.before m.behind b i → FailedHere h w other e m b i
failed_here h w other e m t fixed b i f =
    subst (λ (j : Job). InEvent b m.before m.behind.daemon i j) (ap (λ (x : Fixed). x.3 i) fixed)
    (single_in (λ (before : WorldCore) (behind : Core). InEvent b before behind i (t.jobs i)) e f.event m.before m.behind f.before f.behind f.front f.back f.split f.comes f.rest f.holds)

-- ---- one request at a time

first_only : (g : AbstractProgress) → without_first (request_awaited g) ≡ []
first_only Greeting = refl
first_only Listing = refl
first_only Opening = refl
first_only (Allowing challenge) = refl
first_only (Describing left) = refl
first_only (Putting n value requested left) = refl
first_only (Getting n left) = refl
first_only Starting = refl
first_only Shaping = refl
first_only (Imaging params heard) = refl

pub few : (i : ℕ) (k : Make) (p : JobState) (dev : AbstractDevice) (stage : JobStage) → StageInvariant i k p dev stage → IsUnderWay stage → without_first p.todo ≡ []
few i k p dev Idle inv on = ap without_first inv.1
few i k p dev (Running g) (inl r) on = ap without_first r.todo ∙ first_only g
few i k p dev (Running g) (inr (inl r)) on = ap without_first r.todo
few i k p dev (Running g) (inr (inr r)) on = ap without_first r.todo
few i k p dev Done inv on = absurd on
few i k p dev (Ended status why) inv on = absurd on

next_todo : (i : ℕ) (k : Make) (ds : List ℕ) (p : JobState) (dev : AbstractDevice) (challenge : Challenge) (fault : Option FailureCounts) (qs : List AbstractRequest) → p.todo ≡ qs → without_first p.todo ≡ [] → (answer_next i k ds p dev challenge fault qs).todo ≡ []
next_todo i k ds p dev challenge fault [] is one = is
next_todo i k ds p dev challenge fault (q ∷ rest) is one = one

next_client : (i : ℕ) (k : Make) (ds : List ℕ) (p : JobState) (dev : AbstractDevice) (challenge : Challenge) (fault : Option FailureCounts) (qs : List AbstractRequest) → (answer_next i k ds p dev challenge fault qs).client ≡ p.client
next_client i k ds p dev challenge fault [] = refl
next_client i k ds p dev challenge fault (q ∷ rest) = refl

pub spent_by : (s : SystemState) (j : ℕ) (challenge : Challenge) (fault : Option FailureCounts) → without_first (s.job j).todo ≡ [] → ((after_transition s (By j (Actions.Answers challenge fault))).job j).todo ≡ []
spent_by s j challenge fault one =
    let p = s.job j in
    ap (λ (q : JobState). q.todo) (own_party s j (Actions.Answers challenge fault)) ∙ next_todo j (make_for s j) (listed_devices s) p (device_for s j) challenge fault p.todo refl one

pub few_left : (s : SystemState) (j : ℕ) → Invariant s → IsUnderWay (s.job j).client.stage → without_first (s.job j).todo ≡ []
few_left s j sound on = few j (make_for s j) (s.job j) (device_for s j) (s.job j).client.stage (sound.exchanges j) on

answered : (s : SystemState) (j : ℕ) (challenge : Challenge) (fault : Option FailureCounts) → Invariant s → IsUnderWay ((after_transition s (By j (Actions.Answers challenge fault))).job j).client.stage → ((after_transition s (By j (Actions.Answers challenge fault))).job j).todo ≡ []
answered s j challenge fault sound on =
    let mine = own_party s j (Actions.Answers challenge fault) in
    let p = s.job j in
    let client = next_client j (make_for s j) (listed_devices s) p (device_for s j) challenge fault p.todo in
    let was : IsUnderWay p.client.stage = subst (λ (m : ClientView). IsUnderWay m.stage) (ap (λ (q : JobState). q.client) mine ∙ client) on in
    spent_by s j challenge fault (few_left s j sound was)

broken : (s : SystemState) (j : ℕ) (memory : Bool) → ((after_transition s (By j (Actions.Breaks memory))).job j).todo ≡ []
broken s j memory = ap (λ (q : JobState). q.todo) (own_party s j (Actions.Breaks memory))

-- no request of a job under way that the event could answer is left
abbrev IsSpent : List DeviceInfo → Event → SystemState → Type 0
IsSpent infos e s = (i : ℕ) (challenge : Challenge) (fault : Option FailureCounts) → StepOf infos e (By i (Actions.Answers challenge fault)) → IsUnderWay (s.job i).client.stage → (s.job i).todo ≡ []

abbrev Left : SystemState → ℕ → Type 0
Left s i = IsUnderWay (s.job i).client.stage → (s.job i).todo ≡ []

left_by : (infos : List DeviceInfo) (k n : ℕ) (s : SystemState) (x : Transition) → Invariant s → StepOf infos (ToDaemon k n) x → Left (after_transition s x) k
left_by infos k n s (By j (Actions.Answers challenge fault)) sound of = subst (Left (after_transition s (By j (Actions.Answers challenge fault)))) of.0 (answered s j challenge fault sound)
left_by infos k n s (By j (Actions.Breaks memory)) sound of = subst (Left (after_transition s (By j (Actions.Breaks memory)))) of.0 (λ on. broken s j memory)
left_by infos k n s (By j x) sound of = absurd of.1
left_by infos k n s (Loads d page) sound of = absurd of
left_by infos k n s (Unplugs d) sound of = absurd of
left_by infos k n s (Uses u d shown left) sound of = absurd of

spent_then : (infos : List DeviceInfo) (e : Event) (s : SystemState) (x : Transition) → Invariant s → StepOf infos e x → IsSpent infos e (after_transition s x)
spent_then infos (Connect k) s x sound of i challenge fault other = absurd other.1
spent_then infos (ToDaemon k n) s x sound of i challenge fault other = subst (Left (after_transition s x)) (sym other.0) (left_by infos k n s x sound of)
spent_then infos (ToClient k n) s x sound of i challenge fault other = absurd other.1
spent_then infos (DataConnect k) s x sound of i challenge fault other = absurd other.1
spent_then infos (DataTurn k) s x sound of i challenge fault other = absurd other.1
spent_then infos (DataToClient k n) s x sound of i challenge fault other = absurd other.1
spent_then infos (LoseControl k) s x sound of i challenge fault other = absurd other.1
spent_then infos (LoseImage k) s x sound of i challenge fault other = absurd other.1
spent_then infos (Cancel k) s x sound of i challenge fault other = absurd other.1
spent_then infos (Load name source) s x sound of i challenge fault other = absurd other
spent_then infos (Unplug name) s x sound of i challenge fault other = absurd other

-- where none is left, the event leaves none
abbrev pub NoneLeft : ℕ → SystemState → Type 0
NoneLeft k s = (s.job k).todo ≡ []

still_none : (infos : List DeviceInfo) (k n : ℕ) (s : SystemState) (x : Transition) → StepOf infos (ToDaemon k n) x → NoneLeft k s → NoneLeft k (after_transition s x)
still_none infos k n s (By j (Actions.Answers challenge fault)) of none =
    subst (λ (m : ℕ). NoneLeft m (after_transition s (By j (Actions.Answers challenge fault)))) of.0 (spent_by s j challenge fault (ap without_first (subst (λ (m : ℕ). NoneLeft m s) (sym of.0) none)))
still_none infos k n s (By j (Actions.Breaks memory)) of none = subst (λ (m : ℕ). NoneLeft m (after_transition s (By j (Actions.Breaks memory)))) of.0 (broken s j memory)
still_none infos k n s (By j x) of none = absurd of.1
still_none infos k n s (Loads d page) of none = absurd of
still_none infos k n s (Unplugs d) of none = absurd of
still_none infos k n s (Uses u d shown left) of none = absurd of

all_none : (infos : List DeviceInfo) (k n : ℕ) (xs : List Transition) (s : SystemState) → AreOf infos (ToDaemon k n) xs → NoneLeft k s → NoneLeft k (after_all s xs)
all_none infos k n [] s of none = none
all_none infos k n (x ∷ xs) s of none = all_none infos k n xs (after_transition s x) of.1 (still_none infos k n s x of.0 none)

-- a session that ended takes no step more
served_off : (s : SystemState) (j k : ℕ) → j ≡ k → (s.job j).served ≡ true → (s.job k).served ≡ false → ⊥
served_off s j k same on off = let clash : true ≡ false = sym on ∙ (ap (λ (m : ℕ). (s.job m).served) same ∙ off) in cc

pub off_stays : (infos : List DeviceInfo) (k n : ℕ) (xs : List Transition) (s : SystemState) → AreOf infos (ToDaemon k n) xs → IsHistory s xs → (s.job k).served ≡ false → ((after_all s xs).job k).served ≡ false
off_stays infos k n [] s of may off = off
off_stays infos k n (By j (Actions.Answers challenge fault) ∷ xs) s of may off = absurd (served_off s j k of.0.0 may.0.0 off)
off_stays infos k n (By j (Actions.Breaks memory) ∷ xs) s of may off = absurd (served_off s j k of.0.0 may.0.0 off)
off_stays infos k n (By j x ∷ xs) s of may off = absurd of.0.1
off_stays infos k n (Loads d page ∷ xs) s of may off = absurd of.0
off_stays infos k n (Unplugs d ∷ xs) s of may off = absurd of.0
off_stays infos k n (Uses u d shown left ∷ xs) s of may off = absurd of.0

-- where no request is left, all stays, or the session ends
pub ends_or_stays : (infos : List DeviceInfo) (k n : ℕ) (xs : List Transition) (s : SystemState) → AreOf infos (ToDaemon k n) xs → IsHistory s xs → NoneLeft k s → (after_all s xs ≡ s) ⊎ (((after_all s xs).job k).served ≡ false)
ends_or_stays infos k n [] s of may none = inl refl
ends_or_stays infos k n (By j (Actions.Answers challenge fault) ∷ xs) s of may none = absurd (may.0.1 (subst (λ (m : ℕ). NoneLeft m s) (sym of.0.0) none))
ends_or_stays infos k n (By j (Actions.Breaks memory) ∷ xs) s of may none =
    let ended : ((after_transition s (By j (Actions.Breaks memory))).job j).served ≡ false = ap (λ (q : JobState). q.served) (own_party s j (Actions.Breaks memory)) in
    inr (off_stays infos k n xs (after_transition s (By j (Actions.Breaks memory))) of.1 may.1 (subst (λ (m : ℕ). ((after_transition s (By j (Actions.Breaks memory))).job m).served ≡ false) of.0.0 ended))
ends_or_stays infos k n (By j x ∷ xs) s of may none = absurd of.0.1
ends_or_stays infos k n (Loads d page ∷ xs) s of may none = absurd of.0
ends_or_stays infos k n (Unplugs d ∷ xs) s of may none = absurd of.0
ends_or_stays infos k n (Uses u d shown left ∷ xs) s of may none = absurd of.0

-- the event can happen to its job, where it is one that a job ends by, or a delivery to the daemon
abbrev CanEvent : WorldCore → Event → Type 0
CanEvent w (ToDaemon i n) = CanAt w i (moves.ToDaemon n)
CanEvent w (ToClient i n) = CanAt w i (moves.ToClient n)
CanEvent w (DataToClient i n) = CanAt w i (moves.DataToClient n)
CanEvent w (DataTurn i) = CanAt w i moves.DataTurn
CanEvent w (LoseControl i) = CanAt w i moves.LoseControl
CanEvent w (LoseImage i) = CanAt w i moves.LoseImage
CanEvent w e = Unit {0}

-- and then it came to that job, where that is under way, and changed the world
abbrev pub CameEvent : SystemState → WorldCore → WorldCore → Event → Type 0
CameEvent s w v (ToDaemon i n) = IsUnderWay (s.job i).client.stage → CameAsItRan i w v
CameEvent s w v (ToClient i n) = IsUnderWay (s.job i).client.stage → CameAsItRan i w v
CameEvent s w v (DataToClient i n) = IsUnderWay (s.job i).client.stage → CameAsItRan i w v
CameEvent s w v (DataTurn i) = IsUnderWay (s.job i).client.stage → CameAsItRan i w v
CameEvent s w v (LoseControl i) = IsUnderWay (s.job i).client.stage → CameAsItRan i w v
CameEvent s w v (LoseImage i) = IsUnderWay (s.job i).client.stage → CameAsItRan i w v
CameEvent s w v e = Unit {0}

came_by : AllIsKeptAmongStrangers → (h : History) (other : Job) (t : Ghost) (u v : WorldCore) (i : ℕ) (x : JobEvent) → LedTo h u → Runs source_state (job_event_of i x ∷ []) u v → WorldRefines t u → CanAt u i x → IsUnderWay (t.system.job i).client.stage → CameAsItRan i u v
came_by all h other t u v i x l run stands can on = came_there all h other u v i x l run can (runs_there t u i can.0 stands can.1 on)

came_event : AllIsKeptAmongStrangers → (h : History) (other : Job) (t : Ghost) (u v : WorldCore) (e : Event) → LedTo h u → Runs source_state (e ∷ []) u v → WorldRefines t u → CanEvent u e → CameEvent t.system u v e
came_event all h other t u v (ToDaemon i n) l run stands can = came_by all h other t u v i (moves.ToDaemon n) l run stands can
came_event all h other t u v (ToClient i n) l run stands can = came_by all h other t u v i (moves.ToClient n) l run stands can
came_event all h other t u v (DataToClient i n) l run stands can = came_by all h other t u v i (moves.DataToClient n) l run stands can
came_event all h other t u v (DataTurn i) l run stands can = came_by all h other t u v i moves.DataTurn l run stands can
came_event all h other t u v (LoseControl i) l run stands can = came_by all h other t u v i moves.LoseControl l run stands can
came_event all h other t u v (LoseImage i) l run stands can = came_by all h other t u v i moves.LoseImage l run stands can
came_event all h other t u v (Connect i) l run stands can = tt
came_event all h other t u v (DataConnect i) l run stands can = tt
came_event all h other t u v (Cancel i) l run stands can = tt
came_event all h other t u v (Load name source) l run stands can = tt
came_event all h other t u v (Unplug name) l run stands can = tt

-- ---- the answers of one event

there_if : (fault : Option FailureCounts) (before : WorldCore) (behind : Core) (i : ℕ) (name : List ℕ) → ((f : FailureCounts) → fault ≡ Some f → FailedIn before behind i name) → FailedThere fault before behind i name
there_if None before behind i name failed = tt
there_if (Some f) before behind i name failed = failed f refl

fails_there : (F : Bool → ℕ → Type 0) (s : SystemState) (i : ℕ) (challenge : Challenge) (fault : Option FailureCounts) → FailsSo F s (By i (Actions.Answers challenge fault)) → IsUnderWay (s.job i).client.stage → (f : FailureCounts) → fault ≡ Some f → F true i
fails_there F s i challenge None fails on f is = absurd (let clash : None ≡ Some f = is in cc)
fails_there F s i challenge (Some g) fails on f is = fails on

-- an event, between the worlds that these states stand for
record Between (h : History) (w : WorldCore) (other : Job) (e : Event) (m : Moment h w e) (t g : Ghost) : Type 0 where
  pub stands : WorldRefines t m.before
  pub fixed : IsFixed h other t
  pub behind : WorldRefines g m.behind
  pub fixed_behind : IsFixed h other g
  pub came : CameEvent t.system m.before m.behind e

-- behind the first step, where the session stands
stands_later : (h : History) (w : WorldCore) (other : Job) (i n : ℕ) (m : Moment h w (ToDaemon i n)) (t g : Ghost) → Between h w other (ToDaemon i n) m t g → (s : SystemState) (xs : List Transition) → AreOf t.infos (ToDaemon i n) xs → IsHistory s xs → NoneLeft i s → g.system ≡ after_all s xs → StandsFor h other m.behind i s
stands_later h w other i n m t g b s xs of may none rules session now = elim (ends_or_stays t.infos i n xs s of may none) [
  | inl same ↦ (g, b.fixed_behind, b.behind, rules ∙ same)
  | inr off ↦ absurd (let clash : true ≡ false = sym (served_at g m.behind i session b.behind now) ∙ (ap (λ (u : SystemState). (u.job i).served) rules ∙ off) in cc)
]

-- of the first step, in the state that the world in front of the event stood for
at_first_step : (h : History) (w : WorldCore) (other : Job) (e : Event) (m : Moment h w e) (t g : Ghost) → Between h w other e m t g → (x : Transition) (xs : List Transition) → StepOf t.infos e x → AreOf t.infos e xs → IsHistory (after_transition t.system x) xs → g.system ≡ after_all (after_transition t.system x) xs → FailsSo (FailedHere h w other e m) t.system x → AnsweredSo h w other t.system x
at_first_step h w other e m t g b (By i (Actions.Answers challenge fault)) xs of more may rules fails = λ on.
    let failed = there_if fault m.before m.behind.daemon i (job_at h other i).device (fails_there (FailedHere h w other e m) t.system i challenge fault fails on) in
    let r = answers_event (λ (event : Event). (at : Moment h w event) × Between h w other event at t g × FailedThere fault at.before at.behind.daemon i (job_at h other i).device × AreOf t.infos event xs) t.infos i challenge fault e (m, b, failed, more) of in
    let spent = spent_by t.system i challenge fault (few_left t.system i b.stands.sound on) in
    let none = all_none t.infos i r.0 xs (after_transition t.system (By i (Actions.Answers challenge fault))) r.1.3 spent in
    record {
      n = r.0;
      at = r.1.0;
      ghost = t;
      fixed = b.fixed;
      stands = r.1.1.stands;
      state = refl;
      failed = r.1.2;
      came = r.1.1.came on;
      whole = all_sent g r.1.0.behind i r.1.1.behind (ap (λ (s : SystemState). (s.job i).todo) rules ∙ none);
      later = stands_later h w other i r.0 r.1.0 t g r.1.1 (after_transition t.system (By i (Actions.Answers challenge fault))) xs r.1.3 may spent rules;
    }
at_first_step h w other e m t g b x xs of more may rules fails = tt

not_again : (h : History) (w : WorldCore) (other : Job) (infos : List DeviceInfo) (e : Event) (s : SystemState) (x : Transition) → IsSpent infos e s → StepOf infos e x → IsEnabled s x → AnsweredSo h w other s x
not_again h w other infos e s (By i (Actions.Answers challenge fault)) spent of may = λ on. absurd (may.1 (spent i challenge fault of on))
not_again h w other infos e s x spent of may = tt

later_steps : HistoriesKeepInvariant → (h : History) (w : WorldCore) (other : Job) (infos : List DeviceInfo) (e : Event) (xs : List Transition) (s : SystemState) → Invariant s → IsSpent infos e s → AreOf infos e xs → IsHistory s xs → AllAlong (AnsweredSo h w other) s xs
later_steps keeps h w other infos e [] s sound spent of may = tt
later_steps keeps h w other infos e (x ∷ xs) s sound spent of may =
    (not_again h w other infos e s x spent of.0 may.0, later_steps keeps h w other infos e xs (after_transition s x) (keeps s (x ∷ []) sound (may.0, tt)) (spent_then infos e s x sound of.0) of.1 may.1)

event_answers : HistoriesKeepInvariant → (h : History) (w : WorldCore) (other : Job) (e : Event) (m : Moment h w e) (t g : Ghost) → WorldRefines t m.before → IsFixed h other t → WorldRefines g m.behind → IsFixed h other g → (xs : List Transition) → CameEvent t.system m.before m.behind e ⊎ (xs ≡ []) → g.system ≡ after_all t.system xs → AreOf t.infos e xs → AllAlong (FailsSo (FailedHere h w other e m)) t.system xs → IsHistory t.system xs → AllAlong (AnsweredSo h w other) t.system xs
event_answers keeps h w other e m t g stands fixed behind fixed_behind [] came rules of fails may = tt
event_answers keeps h w other e m t g stands fixed behind fixed_behind (x ∷ xs) (inr none) rules of fails may = absurd (let clash : ◌≡◌ {A = List Transition} (x ∷ xs) [] = none in cc)
event_answers keeps h w other e m t g stands fixed behind fixed_behind (x ∷ xs) (inl came) rules of fails may =
    let b : Between h w other e m t g = record { stands = stands; fixed = fixed; behind = behind; fixed_behind = fixed_behind; came = came } in
    (at_first_step h w other e m t g b x xs of.0 of.1 may.1 rules fails.0, later_steps keeps h w other t.infos e xs (after_transition t.system x) (keeps t.system (x ∷ []) stands.sound (may.0, tt)) (spent_then t.infos e t.system x stands.sound of.0) of.1 may.1)

-- ---- what else comes to a job that is under way, comes by an event that came to it as it ran

-- in front of the event the job was under way as it is in the state of a step
abbrev HappenedAt : History → WorldCore → SystemState → Event → Type 0
HappenedAt h w s e = (at : Moment h w e) × CameEvent s at.before at.behind e

abbrev pub HappenedSo : History → WorldCore → Job → SystemState → Transition → Type 0
HappenedSo h w other s (By i (Actions.Loses false)) = IsUnderWay (s.job i).client.stage → Happened h w i (LoseControl i)
HappenedSo h w other s (By i (Actions.LosesImage false)) = IsUnderWay (s.job i).client.stage → Happened h w i (LoseImage i)
HappenedSo h w other s (By i (Actions.TurnsNamed status)) = IsUnderWay (s.job i).client.stage → Happened h w i (DataTurn i)
HappenedSo h w other s (By i Actions.TurnsShort) = IsUnderWay (s.job i).client.stage → Happened h w i (DataTurn i)
HappenedSo h w other s (By i (Actions.TurnsFault fault)) =
    IsUnderWay (s.job i).client.stage → (turn : Happened h w i (DataTurn i)) × FailedIn turn.0.before turn.0.behind.daemon i (job_at h other i).device × SendsOrLoses turn.0.before turn.0.behind i
HappenedSo h w other s (By i (Actions.Breaks false)) = IsUnderWay (s.job i).client.stage → HadUnsaidReply h w i (job_at h other i)
HappenedSo h w other s (By i Actions.RunsOutOfMemory) = IsUnderWay (s.job i).client.stage → WasStarved h w i
HappenedSo h w other s x = Unit {0}

starved_by : (h : History) (w : WorldCore) (t : SystemState) (i : ℕ) → IsUnderWay (t.job i).client.stage → ((n : ℕ) × (HappenedAt h w t (ToClient i n) ⊎ HappenedAt h w t (DataToClient i n))) → WasStarved h w i
starved_by h w t i on (n, inl r) = (n, inl (r.0, r.1 on))
starved_by h w t i on (n, inr r) = (n, inr (r.0, r.1 on))

happened_step : (h : History) (w : WorldCore) (other : Job) (infos : List DeviceInfo) (e : Event) (t : SystemState) (here : HappenedAt h w t e) (s : SystemState) (x : Transition) → WereOn t s → StepOf infos e x → FailsSo (FailedHere h w other e here.0) s x → FaultSends here.0.before here.0.behind x → HappenedSo h w other s x
happened_step h w other infos e t here s (By i (Actions.Loses false)) was of fails sends = λ on.
    let r = loses_event (HappenedAt h w t) infos i e here of in (r.0, r.1 (was i on))
happened_step h w other infos e t here s (By i (Actions.LosesImage false)) was of fails sends = λ on.
    let r = image_event (HappenedAt h w t) infos i e here of in (r.0, r.1 (was i on))
happened_step h w other infos e t here s (By i (Actions.TurnsNamed status)) was of fails sends = λ on.
    let r = named_event (HappenedAt h w t) infos i status e here of in (r.0, r.1 (was i on))
happened_step h w other infos e t here s (By i Actions.TurnsShort) was of fails sends = λ on.
    let r = short_event (HappenedAt h w t) infos i e here of in (r.0, r.1 (was i on))
happened_step h w other infos e t here s (By i (Actions.TurnsFault fault)) was of fails sends = λ on.
    let r = fault_event (λ (event : Event). (turn : HappenedAt h w t event) × FailedIn turn.0.before turn.0.behind.daemon i (job_at h other i).device × SendsOrLoses turn.0.before turn.0.behind i) infos i fault e (here, fails, sends) of in
    ((r.0.0, r.0.1 (was i on)), r.1, r.2)
happened_step h w other infos e t here s (By i (Actions.Breaks false)) was of fails sends = λ on.
    let r = breaks_event (λ (event : Event). (at : Moment h w event) × CutIn at.before i (job_at h other i)) infos i false e (here.0, fails on) of in
    (r.0, r.1.0, r.1.1)
happened_step h w other infos e t here s (By i Actions.RunsOutOfMemory) was of fails sends = λ on. starved_by h w t i (was i on) (chokes_event (HappenedAt h w t) infos i e here of)
happened_step h w other infos e t here s x was of fails sends = tt

happened_steps : OutcomesLast → (h : History) (w : WorldCore) (other : Job) (infos : List DeviceInfo) (e : Event) (t : SystemState) (here : HappenedAt h w t e) (xs : List Transition) (s : SystemState) → WereOn t s → IsHistory s xs → AreOf infos e xs → AllAlong (FailsSo (FailedHere h w other e here.0)) s xs → AllSend here.0.before here.0.behind xs → AllAlong (HappenedSo h w other) s xs
happened_steps last h w other infos e t here [] s was may of fails sends = tt
happened_steps last h w other infos e t here (x ∷ xs) s was may of fails sends =
    (happened_step h w other infos e t here s x was of.0 fails.0 sends.0, happened_steps last h w other infos e t here xs (after_transition s x) (were_on last t s x may.0 was) may.1 of.1 fails.1 sends.1)

-- what can happen by the model can happen
can_there : (y : JobEvent) (Does : Ghost → ℕ → List Transition → Ghost → Type 0) → DecidesAt y Does → (t : Ghost) (w : WorldCore) (i : ℕ) (o : Option Endpoint) → slice_get w.endpoints i ≡ o → WorldRefines t w → GhostCan t i y → CanAt w i y
can_there y Does all t w i None at h may =
    let high = past_end w.endpoints i at in
    absurd (nobody_can t i y (h.beyond i high) (subst (λ (n : ℕ). n ≤ i) (sym h.is_of.count) high) may)
can_there y Does all t w i (Some p) at h may = (p, at, (all t w i p h at (subst (λ (n : ℕ). i < n) (sym h.is_of.count) (slice_get_within w.endpoints i p at))).can may)

can_or_nothing : (y : JobEvent) (Does : Ghost → ℕ → List Transition → Ghost → Type 0) → DecidesAt y Does → (Then : Type 0) (t : Ghost) (w : WorldCore) (i : ℕ) (steps : List Transition) (u : Ghost) → WorldRefines t w → GhostHappens (GhostCan t i y) Then t steps u → CanAt w i y ⊎ (steps ≡ [])
can_or_nothing y Does all Then t w i steps u h c = elim c.either [
  | inl may ↦ inl (can_there y Does all t w i (slice_get w.endpoints i) refl h may)
  | inr never ↦ inr (c.cannot never).0
]

event_can : (e : Event) (t : Ghost) (w : WorldCore) (steps : List Transition) (u : Ghost) → WorldRefines t w → GhostComes source_state e t steps u → CanEvent w e ⊎ (steps ≡ [])
event_can (Connect i) t w steps u h c = inl tt
event_can (ToDaemon i n) t w steps u h c = can_or_nothing (moves.ToDaemon n) _ (delivery_decides (λ t w i h low. all_requests t i) n) _ t w i steps u h c
event_can (ToClient i n) t w steps u h c = can_or_nothing (moves.ToClient n) _ (deliver_decides n) _ t w i steps u h c
event_can (DataConnect i) t w steps u h c = inl tt
event_can (DataTurn i) t w steps u h c = can_or_nothing moves.DataTurn _ turn_decides _ t w i steps u h c
event_can (DataToClient i n) t w steps u h c = can_or_nothing (moves.DataToClient n) _ (data_decides n) _ t w i steps u h c
event_can (LoseControl i) t w steps u h c = can_or_nothing moves.LoseControl _ control_decides _ t w i steps u h c
event_can (LoseImage i) t w steps u h c = can_or_nothing moves.LoseImage _ image_decides _ t w i steps u h c
event_can (Cancel i) t w steps u h c = inl tt
event_can (Load name source) t w steps u h c = inl tt
event_can (Unplug name) t w steps u h c = inl tt

event_happened : OutcomesLast → (h : History) (w : WorldCore) (other : Job) (e : Event) (m : Moment h w e) (t : Ghost) (steps : List Transition) → IsHistory t.system steps → AreOf t.infos e steps → AllAlong (FailsSo (FailedHere h w other e m)) t.system steps → AllSend m.before m.behind steps → CameEvent t.system m.before m.behind e ⊎ (steps ≡ []) → AllAlong (HappenedSo h w other) t.system steps
event_happened last h w other e m t steps may of fails sends (inl came) = happened_steps last h w other t.infos e t.system (m, came) steps t.system (λ i on. on) may of fails sends
event_happened last h w other e m t steps may of fails sends (inr none) = subst (AllAlong (HappenedSo h w other) t.system) (sym none) tt

-- ---- all events

history_then : (s : SystemState) (xs ys : List Transition) → IsHistory s xs → IsHistory (after_all s xs) ys → IsHistory s (xs ++ ys)
history_then s [] ys a b = b
history_then s (x ∷ xs) ys a b = (a.0, history_then (after_transition s x) xs ys a.1 b)

after_then : (s : SystemState) (xs ys : List Transition) → after_all s (xs ++ ys) ≡ after_all (after_all s xs) ys
after_then s [] ys = refl
after_then s (x ∷ xs) ys = after_then (after_transition s x) xs ys

pub one_comes : (e : Event) (t : Ghost) (steps : List Transition) (u : Ghost) → GhostComesAll source_state (e ∷ []) t steps u → GhostComes source_state e t steps u
one_comes e t steps u (first, more, v, is, comes, (none, same)) =
    let steps_are : steps ≡ first = is ∙ (ap (λ (xs : List Transition). first ++ xs) none ∙ append-nil first) in
    subst (λ (xs : List Transition). GhostComes source_state e t xs u) (sym steps_are) (subst (GhostComes source_state e t first) (sym same) comes)

came_or_none : {A B C : Type 0} → (A → B) → A ⊎ C → B ⊎ C
came_or_none f (inl a) = inl (f a)
came_or_none f (inr c) = inr c

-- the steps of what came, with the moments of the events
pub record Comes (h : History) (w : WorldCore) (other : Job) (es : List JointEvent) (t : Ghost) : Type 0 where
  pub steps : List Transition
  pub ghost_then : Ghost
  pub comes : ComesAll es t steps ghost_then
  pub legal : IsHistory t.system steps
  pub rules_are : ghost_then.system ≡ after_all t.system steps
  pub stands : WorldRefines ghost_then w
  pub answered : AllAlong (AnsweredSo h w other) t.system steps
  pub happened : AllAlong (HappenedSo h w other) t.system steps

-- ---- what a place that nobody names stays

unlisted_mark : (s : DeviceView) (m : Mark) → s.listed ≡ false → (view_after_mark s m).listed ≡ false
unlisted_mark s (Took i d) off = off
unlisted_mark s (Started i d begin) off = off
unlisted_mark s (Rested i d) off = off
unlisted_mark s (Returned i d) off = off
unlisted_mark s (Loaded d page) off = off
unlisted_mark s (Removed d) off = refl

unlisted_marks : (ms : List Mark) (s t : DeviceView) → MarksLead s ms t → s.listed ≡ false → t.listed ≡ false
unlisted_marks [] s t g off = ap (λ (x : DeviceView). x.listed) (sym g) ∙ off
unlisted_marks (m ∷ ms) s t g off = unlisted_marks ms (view_after_mark s m) t g.1 (unlisted_mark s m off)

nowhere_then : (s u : SystemState) (xs : List Transition) (i : ℕ) → u ≡ after_all s xs → ((d : ℕ) → MarksLead (device_view (s.make d) (s.device d)) (all_marks d s xs) (device_view (s.make d) ((after_all s xs).device d))) → (device_for s i).listed ≡ false → (device_for u i).listed ≡ false
nowhere_then s u xs i is leads off =
    let d = wanted_place s i in
    let still : ((after_all s xs).device d).listed ≡ false = unlisted_marks (all_marks d s xs) (device_view (s.make d) (s.device d)) (device_view (s.make d) ((after_all s xs).device d)) (leads d) off in
    ap (λ (x : SystemState). (device_for x i).listed) is ∙ (ap (λ (k : ℕ). ((after_all s xs).device k).listed) (wants_all xs s i) ∙ still)

-- ---- a stranger's steps are no answer to a job, and nothing that comes to one

uses_answered : (h : History) (w : WorldCore) (other : Job) (i : ℕ) (s : SystemState) (xs : List Transition) → AllByRecursion (IsUseOf i) xs → AllAlong (AnsweredSo h w other) s xs × AllAlong (HappenedSo h w other) s xs
uses_answered h w other i s [] his = (tt, tt)
uses_answered h w other i s (By j x ∷ xs) his = absurd his.0
uses_answered h w other i s (Loads d page ∷ xs) his = absurd his.0
uses_answered h w other i s (Unplugs d ∷ xs) his = absurd his.0
uses_answered h w other i s (Uses u d shown left ∷ xs) his =
    let more = uses_answered h w other i (after_transition s (Uses u d shown left)) xs his.1 in
    ((tt, more.0), (tt, more.1))

-- the laws on which they rest
pub record Steps : Type 0 where
  pub follow : EventsFollow
  pub goes : JobsGoOn
  pub acts : StrangersKeepWorlds
  pub keeps : HistoriesKeepInvariant
  pub last : OutcomesLast
  pub all : AllIsKeptAmongStrangers

-- an act of a stranger, and then these
act_comes : Steps → (h : History) (w : WorldCore) (other : Job) (make : ℕ → Make) (a : StrangerAct) (more : List JointEvent) (t : Ghost) (u v : WorldCore) → StrangerActs a.session a.act u v → MayHaveStrangers t u → IsFixed h other t → t.system.make ≡ make →
    ((g : Ghost) → MayHaveStrangers g v → IsFixed h other g → g.system.make ≡ make → Comes h w other more g) → Comes h w other (OfStranger a ∷ more) t
act_comes laws h w other make a more t u v acts may fixed made next =
    let one = laws.acts t u v a.session a.act may acts in
    let g = ghost_behind one.steps t in
    let later = next g one.stands fixed (makes_stay t.system one.steps ∙ made) in
    let own = subst (λ (n : ℕ). AllByRecursion (IsOwnUse (n + a.session)) one.steps) (sym may.refines.is_of.count) (own_uses (length u.endpoints + a.session) t.system one.steps one.uses one.legal) in
    let quiet = uses_answered h w other (length u.endpoints + a.session) t.system one.steps one.uses in
    record {
      steps = one.steps ++ later.steps;
      ghost_then = later.ghost_then;
      comes = (one.steps, later.steps, g, refl, (own, refl), refl, later.comes);
      legal = history_then t.system one.steps later.steps one.legal later.legal;
      rules_are = later.rules_are ∙ sym (after_then t.system one.steps later.steps);
      stands = later.stands;
      answered = along_then (AnsweredSo h w other) t.system one.steps later.steps quiet.0 later.answered;
      happened = along_then (HappenedSo h w other) t.system one.steps later.steps quiet.1 later.happened;
    }

-- one event, and then these
one_comes_then : Steps → (h : History) (w : WorldCore) (other : Job) (make : ℕ → Make) (e : Event) (m : Moment h w e) (more : List JointEvent) (t : Ghost) → AreTrueLoads source_state (e ∷ []) → IsFittingLoad source_state (infos_of h) make e → MayHaveStrangers t m.before → IsFixed h other t → t.system.make ≡ make →
    ((g : Ghost) → MayHaveStrangers g m.behind → IsFixed h other g → g.system.make ≡ make → Comes h w other more g) → Comes h w other (OfJobs e ∷ more) t
one_comes_then laws h w other make e m more t loads fit may fixed made next =
    let u = m.before in
    let v = m.behind in
    let stands = may.refines in
    let infos : t.infos ≡ infos_of h = ap (λ (f : Fixed). f.1) fixed in
    let fit_there : IsFittingLoad source_state t.infos t.system.make e =
    subst (λ (xs : List DeviceInfo). IsFittingLoad source_state xs t.system.make e) (sym infos) (subst (λ (k : ℕ → Make). IsFittingLoad source_state (infos_of h) k e) (sym made) fit) in
    let r = laws.follow source_state (e ∷ []) t u v stands loads (fit_there, tt) m.leads in
    let g = r.ghost_then in
    let c = one_comes e t r.steps g r.comes in
    let same : fixed_of g ≡ fixed_of t = stays_fixed source_state e t r.steps g c in
    let make_same : g.system.make ≡ t.system.make = ap (λ (s : SystemState). s.make) r.rules_are ∙ makes_stay t.system r.steps in
    let many : length v.endpoints ≡ length u.endpoints = sym r.stands.is_of.count ∙ (ap (λ (f : Fixed). f.2) same ∙ stands.is_of.count) in
    let goes = laws.goes source_state e t u v may loads.0 fit_there (subst (Leads source_state e u) (sym m.leads.2) m.leads.1) in
    let then_may : MayHaveStrangers g v = record {
      refines = r.stands;
      limits = goes.stands.limits;
      nowhere = λ i high. nowhere_then t.system g.system r.steps i r.rules_are r.marks (may.nowhere i (subst (λ (n : ℕ). n ≤ i) many high));
    } in
    let later = next g then_may (same ∙ fixed) (make_same ∙ made) in
    let of = comes_of e t r.steps g c in
    let came = came_or_none (λ can. came_event laws.all (history_up_to h m.front) other t u v e m.led_before m.leads stands can) (event_can e t u r.steps g stands c) in
    let fails = along_each (FailsInSome source_state (e ∷ []) t u v) (FailsSo (FailedHere h w other e m)) (fails_more (HasFailed source_state (e ∷ []) t u v) (FailedHere h w other e m) (failed_here h w other e m t fixed)) t.system r.steps r.failures in
    record {
      steps = r.steps ++ later.steps;
      ghost_then = later.ghost_then;
      comes = (r.steps, later.steps, g, refl, c, r.rules_are, later.comes);
      legal = history_then t.system r.steps later.steps r.legal (subst (λ (s : SystemState). IsHistory s later.steps) r.rules_are later.legal);
      rules_are = later.rules_are ∙ (ap (λ (s : SystemState). after_all s later.steps) r.rules_are ∙ sym (after_then t.system r.steps later.steps));
      stands = later.stands;
      answered = along_then (AnsweredSo h w other) t.system r.steps later.steps (event_answers laws.keeps h w other e m t g stands fixed r.stands (same ∙ fixed) r.steps came r.rules_are of fails r.legal) (subst (λ (s : SystemState). AllAlong (AnsweredSo h w other) s later.steps) r.rules_are later.answered);
      happened = along_then (HappenedSo h w other) t.system r.steps later.steps (event_happened laws.last h w other e m t r.steps r.legal of fails (event_sends e t g u v r.steps stands r.stands c) came) (subst (λ (s : SystemState). AllAlong (HappenedSo h w other) s later.steps) r.rules_are later.happened);
    }

-- where it changed nothing, these alone
changing_comes : Steps → (h : History) (w : WorldCore) (other : Job) (make : ℕ → Make) (e : Event) (m : Moment h w e) (more : List JointEvent) (t : Ghost) (c : LoadChanges e m.before m.behind ⊎ (m.behind ≡ m.before)) → AreTrueLoads source_state (e ∷ []) → AreFittingLoads source_state (infos_of h) make (events_among (with_changing c (OfJobs e) more)) →
    MayHaveStrangers t m.before → IsFixed h other t → t.system.make ≡ make → ((g : Ghost) → AreFittingLoads source_state (infos_of h) make (events_among more) → MayHaveStrangers g m.behind → IsFixed h other g → g.system.make ≡ make → Comes h w other more g) → Comes h w other (with_changing c (OfJobs e) more) t
changing_comes laws h w other make e m more t (inl changes) loads fits may fixed made next =
    one_comes_then laws h w other make e m more t loads fits.0 may fixed made (λ g. next g fits.1)
changing_comes laws h w other make e m more t (inr same) loads fits may fixed made next = next t fits (subst (MayHaveStrangers t) (sym same) may) fixed made

-- those of a run that change the world come to the rules
pub come : Steps → (h : History) (w : WorldCore) (other : Job) (make : ℕ → Make) (es seen : List JointEvent) (t : Ghost) (u : WorldCore) → h.events ≡ seen ++ es → LedTo (history_up_to h seen) u → AreTrueLoads source_state (events_among es) → (run : RunsAmong source_state es u w) → AreFittingLoads source_state (infos_of h) make (events_among (changing_of es u w run)) → MayHaveStrangers t u → IsFixed h other t → t.system.make ≡ make → Comes h w other (changing_of es u w run) t
come laws h w other make [] seen t u split led loads run fits may fixed made = record { steps = []; ghost_then = t; comes = (refl, refl); legal = tt; rules_are = refl; stands = subst (WorldRefines t) (sym run) may.refines; answered = tt; happened = tt }
come laws h w other make (OfJobs e ∷ es) seen t u split led loads (v, leads, rest) fits may fixed made =
    let m : Moment h w e = record { front = seen; back = es; split = split; before = u; led_before = led; behind = v; leads = (v, leads, refl); rest = rest } in
    let on : LedTo (history_up_to h (seen ++ OfJobs e ∷ [])) v = led_then (history_up_to h seen) (e ∷ []) u v led (loads.0, tt) (v, leads, refl) in
    let further : h.events ≡ (seen ++ OfJobs e ∷ []) ++ es = split ∙ sym (append_assoc seen (OfJobs e ∷ []) es) in
    changing_comes laws h w other make e m (changing_of es v w rest) t (changes_or_same e u v leads) (loads.0, tt) fits may fixed made
    (λ g fit. come laws h w other make es (seen ++ OfJobs e ∷ []) g v further on loads.1 rest fit)
come laws h w other make (OfStranger a ∷ es) seen t u split led loads (v, acts, rest) fits may fixed made =
    let on : LedTo (history_up_to h (seen ++ OfStranger a ∷ [])) v = led_on (history_up_to h seen) (OfStranger a ∷ []) u v led tt (v, acts, refl) in
    let further : h.events ≡ (seen ++ OfStranger a ∷ []) ++ es = split ∙ sym (append_assoc seen (OfStranger a ∷ []) es) in
    act_comes laws h w other make a (changing_of es v w rest) t u v acts may fixed made
    (λ g. come laws h w other make es (seen ++ OfStranger a ∷ []) g v further on loads rest fits)
