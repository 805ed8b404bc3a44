-- A job that finds its device held finds it so in front of a delivery, and there a session has it.
use Rattle.std.specs.List.{AllByRecursion}
use Rattle.std.specs.Prelude.{option_map, position}
use Rattle.std.proofs.lemmas.List.{length-map}
use Rattle.std.proofs.lemmas.Option.{slice_get-map, slice_get_past, slice_get_within}
use Rattle.std.proofs.Common.{◌≡◌, ◌≢◌, ◌∙◌, ◌⊎◌, inl, inr, ℕ, zero, suc, ◌+◌, ◌≤◌, ◌<◌, List, [], ◌∷◌, ◌++◌, Bool, true, false, cond, eqb, eqb-true, Option, Some, None, refl, sym, ap, subst, map, length, slice_get, arith}
use Rattle.sane_fixed.specs.declared.device_info.DeviceInfo.{DeviceInfo}
use Rattle.page_picture.specs.Source.{SourceState}
use Rattle.page_sources.specs.declared.kinds.Source.{Source}
use Rattle.device_api.specs.State.{DeviceState}
use Rattle.dispatch.specs.declared.table.place.Lease.{Lease}
use Rattle.dispatch.specs.declared.table.place.Place.{Place}
use Rattle.dispatch.specs.declared.table.place.Slot.{Slot}
use Rattle.dispatch.specs.declared.table.place.Slot.TheVariants.{In, Out, Gone}
use Rattle.saned_requests.specs.declared.session.Session.{Session as RequestSession}
use Rattle.saned_requests.specs.Holding.{held_by}
use Rattle.saned_core.specs.declared.session_slot.SessionId.{SessionId}
use Rattle.saned_core.specs.DaemonStates.{session_of}
use Rattle.system_model.specs.AbstractMessages.{AbstractRequest, Challenge}
use Rattle.system_model.specs.Devices.{Make}
use Rattle.system_model.specs.AbstractDevices.{AbstractDevice}
use Rattle.system_model.specs.AbstractSessions.{AbstractSession}
use Rattle.system_model.specs.Actions as actions
use Rattle.system_model.specs.Actions.{Action, break_causes, device_after, environment_of, job_after_action, loss_cause, served_by}
use Rattle.sane_fixed.specs.declared.status.Status.TheVariants.{AccessDenied, Cancelled, DeviceBusy, Inval, IoError, NoDocs, NoMem}
use Rattle.scan_job.specs.declared.outcome.Outcome.{Outcome}
use Rattle.scan_job.specs.declared.outcome.Why.TheVariants.{Answer}
use Rattle.system_model.specs.Causes.{Cause, ClientOutOfMemory, Disallowed, Explains, GaveUp, HadNoPicture, IsCauseAmong, IsExplained, LinkLost, LinkOutOfMemory, Names, NamesEof, SourceFailed, TrayRanOut, TrayWasEmpty, Unforced, WasHeld, WasUnlisted, WasUnsaid}
use Rattle.system_model.specs.Invariants.{IsCaused}
use Rattle.system_model.specs.Client.{AbstractJob}
use Rattle.system_model.specs.Daemon.{Environment, FailureCounts}
use Rattle.system_model.specs.Deliveries.{Chance, answers}
use Rattle.system_model.specs.Grounds.{HasGround, HaveGrounds}
use Rattle.system_model.specs.SystemStates.{JobState, SessionView, SystemState, device_for, listed_devices, make_for, wanted_place}
use Rattle.system_model.specs.Transitions.{By, IsEnabled, IsHistory, Loads, Transition, Unplugs, Uses, after_all, after_transition}
use Rattle.system_model.proofs.Grounds.{causes_grounded}
use Rattle.system_model.proofs.InvariantAfter.{same_job}
use Rattle.system_model.proofs.OtherJobs.{put_same}
use Rattle.system_model.proofs.Treats.{Treats, treats}
use Rattle.daemon_refines.specs.ContextRefinement.{HoldsPlace, PlaceRefines, SlotRefines, TableRefines}
use Rattle.daemon_refines.specs.Cores.{SessionRefines}
use Rattle.daemon_refines.proofs.Changes.{Held}
use Rattle.in_flight.proofs.Slots.{decide}
use Rattle.event_world.specs.declared.endpoint.Endpoint.{Endpoint}
use Rattle.event_world.specs.declared.event.Event.{Event}
use Rattle.event_world.specs.declared.event.Event.TheVariants.{Connect, ToDaemon, ToClient, DataConnect, DataTurn, DataToClient, LoseControl, LoseImage, Cancel, Load, Unplug}
use Rattle.event_world.specs.Worlds.{WorldCore}
use Rattle.world_refines.specs.Answering.{AnswersEach, AnswersSome}
use Rattle.world_refines.specs.Answering.AnswersSome.{GoesOn, IsOver, BreaksOff, WasOver}
use Rattle.world_refines.specs.GhostEvents.{GhostHappens, GhostSends, IsRecordOf}
use Rattle.world_refines.specs.GhostStates.{Ghost, job_state, name_at, place_named, place_or_length}
use Rattle.world_refines.specs.MainTheorem.{GhostComes}
use Rattle.world_refines.specs.WorldRefinement.{IsLinked, IsNobodys, IsServed, WorldRefines, info_at, session_by, stranger_of}
use Rattle.world_refines.proofs.job_events.Constant.{Fixed, stays_fixed}
use Rattle.world_refines.proofs.job_events.Quiet.{AreQuiet, connects_quiet, hears_quiet, sees_quiet}
use Rattle.world_refines.specs.WorldPromises.{IsOutcome}
use Rattle.world_refines.proofs.promise_proofs.PromiseProofs.{outcomes_are_right}
use Rattle.world_refines.proofs.state.Failing.{IsQuiet}
use Rattle.world_refines.proofs.state.Infos.{is_name, name_here}
use Rattle.world_refines.proofs.state.Strangers.{far_from, whose_is}
use Rattle.strangers.specs.Among.{MayHaveStrangers}
use Rattle.strangers.specs.LeavingJobs.{ghost_behind}
use Rattle.strangers.specs.Together.{ComesAmong, JointEvent, RunsAmong}
use Rattle.strangers.specs.Together.JointEvent.{OfJobs, OfStranger}
use Rattle.strangers.specs.Busy.{BusyByItself, BusyHasHolder, BusyIsExplained, HadByStranger, HadInFront, IsNotOf, LeasesNamed}
use Rattle.strangers.proofs.Stepping.{is_low, jobs_stay}

abbrev IsHeld : List Cause → Type 0
IsHeld met = IsCauseAmong WasHeld met

-- by the model another has the device that client i names
abbrev IsAnothers : ℕ → AbstractDevice → Type 0
IsAnothers i dev = (j : ℕ) × (dev.holder ≡ Some j) × (j ≢ i)

-- ---- one action

behind : (c : Cause) (met : List Cause) → (WasHeld ≡ c → ⊥) → IsHeld (c ∷ met) → IsHeld met
behind c met off (inl same) = absurd (off same)
behind c met off (inr more) = more

lost_behind : (memory : Bool) (met : List Cause) → IsHeld (loss_cause memory ∷ met) → IsHeld met
lost_behind true met h = behind LinkOutOfMemory met (λ e. let clash : WasHeld ≡ LinkOutOfMemory = e in cc) h
lost_behind false met h = behind LinkLost met (λ e. let clash : WasHeld ≡ LinkLost = e in cc) h

broken_behind : (memory : Bool) (met : List Cause) → IsHeld (break_causes memory ++ met) → IsHeld met
broken_behind true met h = behind LinkOutOfMemory met (λ e. let clash : WasHeld ≡ LinkOutOfMemory = e in cc) h
broken_behind false met h = behind WasUnsaid met (λ e. let clash : WasHeld ≡ WasUnsaid = e in cc) h

grounded : (i : ℕ) (k : Make) (dev : AbstractDevice) (awaited : Option Challenge) (x : Environment) (causes met : List Cause) → HaveGrounds i k dev awaited x causes → IsHeld (causes ++ met) → IsHeld met ⊎ IsAnothers i dev
grounded i k dev awaited x [] met g h = inl h
grounded i k dev awaited x (c ∷ causes) met g (inl e) = inr (subst (HasGround i k dev awaited x) (sym e) g.0)
grounded i k dev awaited x (c ∷ causes) met g (inr h) = grounded i k dev awaited x causes met g.1 h

answered : (i : ℕ) (k : Make) (ds : List ℕ) (p : JobState) (dev : AbstractDevice) (challenge : Challenge) (fault : Option FailureCounts) (qs : List AbstractRequest) → IsHeld (actions.answer_next i k ds p dev challenge fault qs).session.met → IsHeld p.session.met ⊎ IsAnothers i dev
answered i k ds p dev challenge fault [] h = inl h
answered i k ds p dev challenge fault (q ∷ rest) h =
    let x = environment_of p.session ds challenge fault in
    grounded i k dev p.session.awaited x (served_by i k ds p dev challenge fault q).causes p.session.met (causes_grounded i k dev p.session.transfer p.session.awaited x q) h

acted : (i : ℕ) (k : Make) (ds : List ℕ) (p : JobState) (dev : AbstractDevice) (x : Action) → IsHeld (job_after_action i k ds p dev x).session.met → IsHeld p.session.met ⊎ IsAnothers i dev
acted i k ds p dev (actions.Answers challenge fault) h = answered i k ds p dev challenge fault p.todo h
acted i k ds p dev (actions.TurnsNamed status) h = inl (behind (Names status) p.session.met (λ e. let clash : WasHeld ≡ Names status = e in cc) h)
acted i k ds p dev actions.TurnsShort h = inl (behind NamesEof p.session.met (λ e. let clash : WasHeld ≡ NamesEof = e in cc) h)
acted i k ds p dev (actions.TurnsFault fault) h = inl (behind SourceFailed p.session.met (λ e. let clash : WasHeld ≡ SourceFailed = e in cc) h)
acted i k ds p dev (actions.Loses memory) h = inl (lost_behind memory p.session.met h)
acted i k ds p dev (actions.LosesImage memory) h = inl (lost_behind memory p.session.met h)
acted i k ds p dev (actions.Breaks memory) h = inl (broken_behind memory p.session.met h)
acted i k ds p dev actions.RunsOutOfMemory h = inl (behind ClientOutOfMemory p.session.met (λ e. let clash : WasHeld ≡ ClientOutOfMemory = e in cc) h)
acted i k ds p dev actions.Stops h = inl (behind GaveUp p.session.met (λ e. let clash : WasHeld ≡ GaveUp = e in cc) h)
acted i k ds p dev x h = inl h

-- an action that is no answer finds no device held
abbrev IsNoAnswer : Action → Type 0
IsNoAnswer (actions.Answers challenge fault) = ⊥
IsNoAnswer x = Unit {0}

unanswered : (i : ℕ) (k : Make) (ds : List ℕ) (p : JobState) (dev : AbstractDevice) (x : Action) → IsNoAnswer x → IsHeld (job_after_action i k ds p dev x).session.met → IsHeld p.session.met
unanswered i k ds p dev (actions.Answers challenge fault) silent h = absurd silent
unanswered i k ds p dev (actions.TurnsNamed status) silent h = behind (Names status) p.session.met (λ e. let clash : WasHeld ≡ Names status = e in cc) h
unanswered i k ds p dev actions.TurnsShort silent h = behind NamesEof p.session.met (λ e. let clash : WasHeld ≡ NamesEof = e in cc) h
unanswered i k ds p dev (actions.TurnsFault fault) silent h = behind SourceFailed p.session.met (λ e. let clash : WasHeld ≡ SourceFailed = e in cc) h
unanswered i k ds p dev (actions.Loses memory) silent h = lost_behind memory p.session.met h
unanswered i k ds p dev (actions.LosesImage memory) silent h = lost_behind memory p.session.met h
unanswered i k ds p dev (actions.Breaks memory) silent h = broken_behind memory p.session.met h
unanswered i k ds p dev actions.RunsOutOfMemory silent h = behind ClientOutOfMemory p.session.met (λ e. let clash : WasHeld ≡ ClientOutOfMemory = e in cc) h
unanswered i k ds p dev actions.Stops silent h = behind GaveUp p.session.met (λ e. let clash : WasHeld ≡ GaveUp = e in cc) h
unanswered i k ds p dev x silent h = h

-- ---- the steps of one event

abbrev MetOf : SystemState → ℕ → List Cause
MetOf s i = (s.job i).session.met

-- steps in which nothing is answered
abbrev IsUnanswering : Transition → Type 0
IsUnanswering (By c x) = IsNoAnswer x
IsUnanswering (Loads d page) = Unit {0}
IsUnanswering (Unplugs d) = Unit {0}
IsUnanswering (Uses u d shown left) = Unit {0}

met_by : (b : Bool) (p q : JobState) → (b ≡ true → IsHeld p.session.met → IsHeld q.session.met) → IsHeld (cond b p q).session.met → IsHeld q.session.met
met_by true p q h held = h refl held
met_by false p q h held = held

one_unanswered : (s : SystemState) (i : ℕ) (x : Transition) → IsUnanswering x → IsHeld (MetOf (after_transition s x) i) → IsHeld (MetOf s i)
one_unanswered s i (By c x) silent h =
    met_by (eqb i c) (job_after_action c (make_for s c) (listed_devices s) (s.job c) (device_for s c) x) (s.job i)
    (λ same held. subst (λ (n : ℕ). IsHeld (MetOf s n)) (sym (eqb-true i c same)) (unanswered c (make_for s c) (listed_devices s) (s.job c) (device_for s c) x silent held)) h
one_unanswered s i (Loads d page) silent h = h
one_unanswered s i (Unplugs d) silent h = h
one_unanswered s i (Uses u d shown left) silent h = h

all_unanswered : (s : SystemState) (i : ℕ) (xs : List Transition) → AllByRecursion IsUnanswering xs → IsHeld (MetOf (after_all s xs) i) → IsHeld (MetOf s i)
all_unanswered s i [] silent h = h
all_unanswered s i (x ∷ xs) silent h = one_unanswered s i x silent.0 (all_unanswered (after_transition s x) i xs silent.1 h)

-- steps of one client
abbrev IsOfClient : ℕ → Transition → Type 0
IsOfClient c (By j x) = j ≡ c
IsOfClient c (Loads d page) = ⊥
IsOfClient c (Unplugs d) = ⊥
IsOfClient c (Uses u d shown left) = ⊥

others_met : (s : SystemState) (i c : ℕ) (xs : List Transition) → i ≢ c → AllByRecursion (IsOfClient c) xs → IsHeld (MetOf (after_all s xs) i) → IsHeld (MetOf s i)
others_met s i c [] off of h = h
others_met s i c (By j x ∷ xs) off of h =
    met_by (eqb i j) (job_after_action j (make_for s j) (listed_devices s) (s.job j) (device_for s j) x) (s.job i)
    (λ same held. absurd (off (eqb-true i j same ∙ of.0))) (others_met (after_transition s (By j x)) i c xs off of.1 h)
others_met s i c (Loads d page ∷ xs) off of h = absurd of.0
others_met s i c (Unplugs d ∷ xs) off of h = absurd of.0
others_met s i c (Uses u d shown left ∷ xs) off of h = absurd of.0

-- what another holds behind an own step it held in front
treated_back : (i : ℕ) (k : Make) (old new : AbstractDevice) → Treats i k old new → IsAnothers i new → IsAnothers i old
treated_back i k old new (inl same) a = (a.0, ap (λ (d : AbstractDevice). d.holder) (sym same) ∙ a.1, a.2)
treated_back i k old new (inr (inl taken)) a =
    let both : Some i ≡ Some a.0 = sym (ap (λ (d : AbstractDevice). d.holder) taken.1) ∙ a.1 in
    let same : i ≡ a.0 = cc in
    absurd (a.2 (sym same))
treated_back i k old new (inr (inr (inl used))) a = (a.0, sym (ap (λ (d : AbstractDevice). d.holder) used.is) ∙ a.1, a.2)
treated_back i k old new (inr (inr (inr back))) a =
    let clash : None ≡ Some a.0 = sym (ap (λ (d : AbstractDevice). d.holder) back.1) ∙ a.1 in
    absurd (cc)

own_job : (s : SystemState) (i : ℕ) (x : Action) → (after_transition s (By i x)).job i ≡ job_after_action i (make_for s i) (listed_devices s) (s.job i) (device_for s i) x
own_job s i x = put_same s.job i (job_after_action i (make_for s i) (listed_devices s) (s.job i) (device_for s i) x)

own_device : (s : SystemState) (i : ℕ) (x : Action) → device_for (after_transition s (By i x)) i ≡ device_after i (make_for s i) (listed_devices s) (s.job i) (device_for s i) x
own_device s i x =
    let k = wanted_place s i in
    let new = device_after i (make_for s i) (listed_devices s) (s.job i) (device_for s i) x in
    ap (λ (p : JobState). (after_transition s (By i x)).device p.session.job.wants) (own_job s i x)
    ∙ (ap (λ (job : AbstractJob). (after_transition s (By i x)).device job.wants) (same_job i (make_for s i) (listed_devices s) (s.job i) (device_for s i) x) ∙ put_same s.device k new)

own_met : (s : SystemState) (i c : ℕ) (xs : List Transition) → i ≡ c → IsHistory s xs → AllByRecursion (IsOfClient c) xs → IsHeld (MetOf (after_all s xs) i) → IsHeld (MetOf s i) ⊎ IsAnothers i (device_for s i)
own_met s i c [] same legal of h = inl h
own_met s i c (By j x ∷ xs) same legal of h =
    let is : j ≡ i = of.0 ∙ sym same in
    at_own (subst (λ (n : ℕ). IsHeld (MetOf (after_transition s (By n x)) i) ⊎ IsAnothers i (device_for (after_transition s (By n x)) i)) is (own_met (after_transition s (By j x)) i c xs same legal.1 of.1 h))
    (subst (λ (n : ℕ). IsEnabled s (By n x)) is legal.0)
  where
    at_own : IsHeld (MetOf (after_transition s (By i x)) i) ⊎ IsAnothers i (device_for (after_transition s (By i x)) i) → IsEnabled s (By i x) → IsHeld (MetOf s i) ⊎ IsAnothers i (device_for s i)
    at_own (inl held) may = acted i (make_for s i) (listed_devices s) (s.job i) (device_for s i) x (subst (λ (p : JobState). IsHeld p.session.met) (own_job s i x) held)
    at_own (inr a) may = inr (treated_back i (make_for s i) (device_for s i) _ (treats i (make_for s i) (listed_devices s) (s.job i) (device_for s i) x may) (subst (IsAnothers i) (own_device s i x) a))
own_met s i c (Loads d page ∷ xs) same legal of h = absurd of.0
own_met s i c (Unplugs d ∷ xs) same legal of h = absurd of.0
own_met s i c (Uses u d shown left ∷ xs) same legal of h = absurd of.0

-- ---- which steps an event takes

abbrev AreUnanswering : List Transition → Type 0
AreUnanswering xs = AllByRecursion IsUnanswering xs

one_quiet : (x : Transition) → IsQuiet x → IsUnanswering x
one_quiet (By c (actions.Answers challenge fault)) q = absurd q
one_quiet (By c x) q = tt
one_quiet (Loads d page) q = tt
one_quiet (Unplugs d) q = tt
one_quiet (Uses u d shown left) q = tt

from_quiet : (xs : List Transition) → AreQuiet xs → AreUnanswering xs
from_quiet [] q = tt
from_quiet (x ∷ xs) q = (one_quiet x q.0, from_quiet xs q.1)

as_listed : (P : Transition → Type 0) (xs ys : List Transition) → xs ≡ ys → AllByRecursion P ys → AllByRecursion P xs
as_listed P xs ys e a = subst (AllByRecursion P) (sym e) a

either_way : (P : Transition → Type 0) (May What : Type 0) (t : Ghost) (steps : List Transition) (u : Ghost) → (What → AllByRecursion P steps) → GhostHappens May What t steps u → AllByRecursion P steps
either_way P May What t steps u done h = by h.either
  where
    by : May ⊎ (May → ⊥) → AllByRecursion P steps
    by (inl may) = done (h.does may)
    by (inr never) = as_listed P steps [] (h.cannot never).0 tt

record_no_answer : (x : Action) (text : List ℕ) → IsRecordOf x text → IsNoAnswer x
record_no_answer (actions.Answers challenge fault) text h = absurd h
record_no_answer x text h = tt

of_both : (c : ℕ) (xs ys : List Transition) → AllByRecursion (IsOfClient c) xs → AllByRecursion (IsOfClient c) ys → AllByRecursion (IsOfClient c) (xs ++ ys)
of_both c [] ys a b = b
of_both c (x ∷ xs) ys a b = (a.0, of_both c xs ys a.1 b)

answers_of : (c : ℕ) (chances : List Chance) → AllByRecursion (IsOfClient c) (answers c chances)
answers_of c [] = tt
answers_of c (chance ∷ chances) = (refl, answers_of c chances)

each_of : (c : ℕ) (asked : List AbstractRequest) (steps : List Transition) → AnswersEach c asked steps → AllByRecursion (IsOfClient c) steps
each_of c asked steps h = as_listed (IsOfClient c) steps (answers c h.chances) h.steps_are (answers_of c h.chances)

some_of : (n : ℕ) (t : Ghost) (c : ℕ) (steps : List Transition) (u : Ghost) → AnswersSome n t c steps u → AllByRecursion (IsOfClient c) steps
some_of n t c steps u (GoesOn asked rest said a b each h on) = each_of c asked steps each
some_of n t c steps u (IsOver asked rest said a each h was over) = each_of c asked steps each
some_of n t c steps u (BreaksOff memory asked rest said before a each cut is h) =
    as_listed (IsOfClient c) steps (before ++ By c (actions.Breaks memory) ∷ []) is (of_both c before (By c (actions.Breaks memory) ∷ []) (each_of c asked before each) (refl, tt))
some_of n t c steps u (WasOver a is h) = as_listed (IsOfClient c) steps [] is tt

-- a delivery to the daemon, or an event in which nothing is answered
abbrev Kind : Event → List Transition → Type 0
Kind e steps = ((c n : ℕ) × (e ≡ ToDaemon c n) × AllByRecursion (IsOfClient c) steps) ⊎ AreUnanswering steps

kind_of : (source : Source → SourceState) (e : Event) (t : Ghost) (steps : List Transition) (u : Ghost) → GhostComes source e t steps u → Kind e steps
kind_of source (ToDaemon c n) t steps u h = inl (c, n, refl, either_way (IsOfClient c) _ _ t steps u (some_of n t c steps u) h)
kind_of source (Connect c) t steps u h = inr (either_way IsUnanswering _ _ t steps u (λ d. from_quiet steps (connects_quiet t c steps u d)) h)
kind_of source (ToClient c n) t steps u h = inr (either_way IsUnanswering _ _ t steps u (λ d. from_quiet steps (hears_quiet n t c steps u d)) h)
kind_of source (DataConnect c) t steps u h = inr (either_way IsUnanswering _ _ t steps u (λ d. as_listed IsUnanswering steps (By c actions.Dials ∷ []) d.0 (tt, tt)) h)
kind_of source (DataTurn c) t steps u h = inr (either_way IsUnanswering _ _ t steps u (λ d. by d.action d.text (record_no_answer d.action d.text d.is) d.sends) h)
  where
    by : (x : Action) (text : List ℕ) → IsNoAnswer x → GhostSends t c x text steps u → AreUnanswering steps
    by x text silent (inl h) = as_listed IsUnanswering steps (By c x ∷ []) h.0 (silent, tt)
    by x text silent (inr h) = as_listed IsUnanswering steps (By c x ∷ By c (actions.LosesImage true) ∷ []) h.0 (silent, (tt, tt))
kind_of source (DataToClient c n) t steps u h = inr (either_way IsUnanswering _ _ t steps u (λ d. from_quiet steps (sees_quiet n t c steps u d)) h)
kind_of source (LoseControl c) t steps u h = inr (either_way IsUnanswering _ _ t steps u (λ d. as_listed IsUnanswering steps (By c (actions.Loses false) ∷ []) d.0 (tt, tt)) h)
kind_of source (LoseImage c) t steps u h = inr (either_way IsUnanswering _ _ t steps u (λ d. as_listed IsUnanswering steps (By c (actions.LosesImage false) ∷ []) d.0 (tt, tt)) h)
kind_of source (Cancel c) t steps u h = inr (either_way IsUnanswering _ _ t steps u (λ d. as_listed IsUnanswering steps (By c actions.Stops ∷ []) d.steps_are (tt, tt)) h)
kind_of source (Load name page) t steps u h = inr (either_way IsUnanswering _ _ t steps u (λ d. as_listed IsUnanswering steps (Loads d.place (source page).page ∷ []) d.steps_are (tt, tt)) h)
kind_of source (Unplug name) t steps u h = inr (either_way IsUnanswering _ _ t steps u (λ d. as_listed IsUnanswering steps (Unplugs d.place ∷ []) d.steps_are (tt, tt)) h)

-- one event: what it finds held was held in front of it, and it is a delivery of the job
abbrev FoundHeld : Event → Ghost → ℕ → Type 0
FoundHeld e t i = (n : ℕ) × (e ≡ ToDaemon i n) × IsAnothers i (device_for t.system i)

event_met : (source : Source → SourceState) (e : Event) (t : Ghost) (steps : List Transition) (u : Ghost) (i : ℕ) → GhostComes source e t steps u → IsHistory t.system steps → IsHeld (MetOf (after_all t.system steps) i) → IsHeld (MetOf t.system i) ⊎ FoundHeld e t i
event_met source e t steps u i comes legal held = by (kind_of source e t steps u comes)
  where
    found : (c n : ℕ) → e ≡ ToDaemon c n → i ≡ c → IsHeld (MetOf t.system i) ⊎ IsAnothers i (device_for t.system i) → IsHeld (MetOf t.system i) ⊎ FoundHeld e t i
    found c n is same (inl old) = inl old
    found c n is same (inr new) = inr (n, is ∙ ap (λ (x : ℕ). ToDaemon x n) (sym same), new)

    by_client : (c n : ℕ) → e ≡ ToDaemon c n → AllByRecursion (IsOfClient c) steps → (i ≡ c) ⊎ (i ≢ c) → IsHeld (MetOf t.system i) ⊎ FoundHeld e t i
    by_client c n is of (inl same) = found c n is same (own_met t.system i c steps same legal of held)
    by_client c n is of (inr off) = inl (others_met t.system i c steps off of held)

    by : Kind e steps → IsHeld (MetOf t.system i) ⊎ FoundHeld e t i
    by (inl d) = by_client d.0 d.1 d.2 d.3 (decide i d.0)
    by (inr quiet) = inl (all_unanswered t.system i steps quiet held)

-- ---- who has it in the world

place_held : (i : ℕ) (make : Make) (held : Held) (k : ℕ) (dev : AbstractDevice) (at : Option (Place DeviceState)) → PlaceRefines i make held k dev at → dev.holder ≡ Some i → HoldsPlace held k
place_held i make held k dev None h e = absurd (let clash : None ≡ Some i = sym h.1 ∙ e in cc)
place_held i make held k dev (Some p) h e = by p.slot h
  where
    by : (slot : Slot DeviceState) → SlotRefines i make held k dev p.info.name slot → HoldsPlace held k
    by Gone g = absurd (let clash : None ≡ Some i = sym g.1 ∙ e in cc)
    by (In s) g = absurd (let clash : None ≡ Some i = sym (ap (λ (d : AbstractDevice). d.holder) g.0) ∙ e in cc)
    by Out (on, inl own) = own
    by Out (on, inr away) = absurd (let both : Some away.other ≡ Some i = sym away.holder ∙ e in away.no_own (cc both))

none_held : (k : ℕ) → HoldsPlace [] k → ⊥
unfolding held_by
none_held k h = let clash : None ≡ Some h.lease = h.stands in cc

-- a session has the device of that place, by a lease
record HasPlace (w : WorldCore) (n k : ℕ) : Type 0 where
  session : RequestSession DeviceState
  stands : session_of w.daemon n ≡ Some session
  word : ℕ
  lease : Lease DeviceState
  held : held_by session.held word ≡ Some lease
  place : Place DeviceState
  at : slice_get w.daemon.registry k ≡ Some place
  named : lease.device.info.name ≡ place.info.name

by_session : (t : Ghost) (w : WorldCore) (i n k : ℕ) (s : AbstractSession) → SessionRefines i t.system.make w.daemon n t.system.device s → (t.system.device k).holder ≡ Some i → HasPlace w n k
by_session t w i n k s shows e =
    let own = place_held i (t.system.make k) shows.session.held k (t.system.device k) (slice_get w.daemon.registry k) (shows.shows.devices.places k) e in
    let lease = shows.shows.devices.leases own.word own.lease own.stands in
    record {
      session = shows.session;
      stands = shows.stands;
      word = own.word;
      lease = own.lease;
      held = own.stands;
      place = lease.own.place;
      at = subst (λ (x : ℕ). slice_get w.daemon.registry x ≡ Some lease.own.place) own.place lease.own.at;
      named = lease.own.name;
    }

-- some session has it, that of the job or the stranger who holds it by the model
record Whose (w : WorldCore) (j k : ℕ) : Type 0 where
  session : ℕ
  has : HasPlace w session k
  other : (i : ℕ) → i ≢ j → IsNotOf w i session

entry : {X : Type 0} (xs : List X) (i : ℕ) → i < length xs → (x : X) × (slice_get xs i ≡ Some x)
entry [] i low = absurd (omega (arith, low))
entry (x ∷ xs) zero low = (x, refl)
entry (x ∷ xs) (suc i) low = entry xs i (omega (arith, low))

whose : (t : Ghost) (w : WorldCore) (j k : ℕ) → WorldRefines t w → (t.system.device k).holder ≡ Some j → Whose w j k
whose t w j k h e = by (is_low j (length w.endpoints))
  where
    by_job : (endpoint : Endpoint) (link : Option SessionId) (served : Bool) → slice_get w.endpoints j ≡ Some endpoint → endpoint.link ≡ link → IsServed j t.system.make w.daemon link served t.system.device (session_by j t.system.device (t.system.job j)) → Whose w j k
    by_job endpoint link false at is s = absurd (none_held k (place_held j (t.system.make k) [] k (t.system.device k) (slice_get w.daemon.registry k) (s.1.places k) e))
    by_job endpoint None true at is s = absurd s
    by_job endpoint (Some id) true at is s = record {
      session = id.number;
      has = by_session t w j id.number k (session_by j t.system.device (t.system.job j)) s e;
      other = λ i off there own at_i link_i same. off (h.own i j there endpoint own id at_i at link_i is same);
    }

    by_number : (n : ℕ) → j ≡ stranger_of w n → (o : Option (RequestSession DeviceState)) → session_of w.daemon n ≡ o → IsLinked w.endpoints n ⊎ IsNobodys w n → Whose w j k
    by_number n far None is whose_it =
        absurd (none_held k (place_held j (t.system.make k) [] k (t.system.device k) (slice_get w.daemon.registry k) ((subst (λ (x : ℕ). TableRefines x t.system.make [] w.daemon.registry t.system.device) (sym far) ((h.strangers n).rests (inl is))).places k) e))
    by_number n far (Some session) is (inl linked) =
        absurd (none_held k (place_held j (t.system.make k) [] k (t.system.device k) (slice_get w.daemon.registry k) ((subst (λ (x : ℕ). TableRefines x t.system.make [] w.daemon.registry t.system.device) (sym far) ((h.strangers n).rests (inr linked))).places k) e))
    by_number n far (Some session) is (inr nobodys) =
        let sits = (h.strangers n).sits session is nobodys in
        record { session = n; has = by_session t w (stranger_of w n) n k sits.0 sits.1 (subst (λ (x : ℕ). (t.system.device k).holder ≡ Some x) far e); other = λ i off there id at_i link_i. nobodys i there id at_i link_i }

    by : (j < length w.endpoints) ⊎ (length w.endpoints ≤ j) → Whose w j k
    by (inl low) = let x = entry w.endpoints j low in by_job x.0 x.0.link (t.system.job j).served x.1 refl (h.endpoints j x.0 x.1).served
    by (inr high) = let far = far_from (length w.endpoints) j high in by_number far.0 far.1 (session_of w.daemon far.0) refl (whose_is w far.0)

-- ---- the place that the job names has that name

named_at : (infos : List DeviceInfo) (places : List (Place DeviceState)) (k : ℕ) (p : Place DeviceState) (name : List ℕ) → infos ≡ map info_at places → slice_get places k ≡ Some p → name_at infos k ≡ Some name → p.info.name ≡ name
named_at infos places k p name same at named =
    let here : name_at (map info_at places) k ≡ Some name = subst (λ (x : List DeviceInfo). name_at x k ≡ Some name) same named in
    let info : slice_get (map info_at places) k ≡ Some p.info = slice_get-map info_at places k ∙ ap (λ (o : Option (Place DeviceState)). option_map info_at o) at in
    let both : Some p.info.name ≡ Some name = sym (ap (λ (o : Option DeviceInfo). option_map (λ (x : DeviceInfo). x.name) o) info) ∙ here in
    cc both

has_named : (t : Ghost) (w : WorldCore) (i n : ℕ) (endpoint : Endpoint) → WorldRefines t w → slice_get w.endpoints i ≡ Some endpoint → HasPlace w n (wanted_place t.system i) → LeasesNamed w n (t.jobs i).device
has_named t w i n endpoint h at has = record { session = has.session; stands = has.stands; word = has.word; lease = has.lease; held = has.held; named = has.named ∙ by (position (is_name name) t.infos) refl }
  where
    name : List ℕ
    name = (t.jobs i).device

    wants : wanted_place t.system i ≡ place_named t.infos name
    wants = ap (λ (job : AbstractJob). job.wants) ((h.endpoints i endpoint at).job_is)

    there : slice_get w.daemon.registry (place_named t.infos name) ≡ Some has.place
    there = subst (λ (k : ℕ). slice_get w.daemon.registry k ≡ Some has.place) wants has.at

    by : (o : Option ℕ) → position (is_name name) t.infos ≡ o → has.place.info.name ≡ name
    by (Some k) e = named_at t.infos w.daemon.registry k has.place name h.is_of.infos (subst (λ (o : Option ℕ). slice_get w.daemon.registry (place_or_length (length t.infos) o) ≡ Some has.place) e there) (name_here t.infos name k e)
    by None e =
        let past = subst (λ (o : Option ℕ). slice_get w.daemon.registry (place_or_length (length t.infos) o) ≡ Some has.place) e there in
        let many : length t.infos ≡ length w.daemon.registry = ap (λ (x : List DeviceInfo). length x) h.is_of.infos ∙ length-map w.daemon.registry info_at in
        let none = slice_get_past w.daemon.registry (length t.infos) (omega (arith, many)) in
        absurd (let clash : None ≡ Some has.place = sym none ∙ past in cc)

-- ---- over a history

history_parts : (s : SystemState) (xs ys : List Transition) → IsHistory s (xs ++ ys) → IsHistory s xs × IsHistory (after_all s xs) ys
history_parts s [] ys legal = (tt, legal)
history_parts s (x ∷ xs) ys legal = let more = history_parts (after_transition s x) xs ys legal.1 in ((legal.0, more.0), more.1)

-- whether it is among them
is_it : (c : Cause) → (WasHeld ≡ c) ⊎ (WasHeld ≡ c → ⊥)
is_it WasHeld = inl refl
is_it c = inr (λ e. let clash : WasHeld ≡ c = e in cc)

neither : (c : Cause) (met : List Cause) → (WasHeld ≡ c → ⊥) → (IsHeld met → ⊥) → IsHeld (c ∷ met) → ⊥
neither c met off none (inl same) = off same
neither c met off none (inr more) = none more

one_or : (c : Cause) (met : List Cause) → (WasHeld ≡ c) ⊎ (WasHeld ≡ c → ⊥) → IsHeld met ⊎ (IsHeld met → ⊥) → IsHeld (c ∷ met) ⊎ (IsHeld (c ∷ met) → ⊥)
one_or c met (inl same) more = inl (inl same)
one_or c met (inr off) (inl more) = inl (inr more)
one_or c met (inr off) (inr none) = inr (neither c met off none)

held_or : (met : List Cause) → IsHeld met ⊎ (IsHeld met → ⊥)
held_or [] = inr (λ h. h)
held_or (c ∷ met) = one_or c met (is_it c) (held_or met)

-- found in front of the first event
found_first : (source : Source → SourceState) (e : Event) (xs : List JointEvent) (t : Ghost) (w v : WorldCore) (i : ℕ) → RunsAmong source (OfJobs e ∷ xs) w v → WorldRefines t w → i < length w.endpoints → FoundHeld e t i → HadInFront source (OfJobs e ∷ xs) w v i (t.jobs i).device
found_first source e xs t w v i run h low found =
    let x = whose t w found.2.0 (wanted_place t.system i) h found.2.1 in
    let p = entry w.endpoints i low in
    record {
      front = [];
      count = found.0;
      back = xs;
      parts = ap (λ (a : Event). OfJobs a ∷ xs) found.1;
      world = w;
      before = refl;
      behind = subst (λ (a : Event). RunsAmong source (OfJobs a ∷ xs) w v) found.1 run;
      session = x.session;
      leases = has_named t w i x.session p.0 h p.1 x.has;
      other = x.other i (λ same. found.2.2 (sym same));
    }

-- found later
found_later : (source : Source → SourceState) (x : JointEvent) (xs : List JointEvent) (w u v : WorldCore) (i : ℕ) (name now : List ℕ) → ((ys : List JointEvent) (z : WorldCore) → RunsAmong source ys u z → RunsAmong source (x ∷ ys) w z) → now ≡ name → HadInFront source xs u v i now → HadInFront source (x ∷ xs) w v i name
found_later source x xs w u v i name now first same f = record {
  front = x ∷ f.front;
  count = f.count;
  back = f.back;
  parts = ap (λ (ys : List JointEvent). x ∷ ys) f.parts;
  world = f.world;
  before = first f.front f.world f.before;
  behind = f.behind;
  session = f.session;
  leases = subst (LeasesNamed f.world f.session) same f.leases;
  other = f.other;
}

count_is : (t u : Ghost) (w v : WorldCore) → WorldRefines t w → WorldRefines u v → u.count ≡ t.count → length v.endpoints ≡ length w.endpoints
count_is t u w v h g same = sym g.is_of.count ∙ (same ∙ h.is_of.count)

met_in : (source : Source → SourceState) (xs : List JointEvent) (t : Ghost) (w v : WorldCore) (run : RunsAmong source xs w v) (steps : List Transition) (u : Ghost) → MayHaveStrangers t w → ComesAmong source xs w v run t steps u → IsHistory t.system steps → (i : ℕ) → i < length w.endpoints →
    (IsHeld (MetOf t.system i) → ⊥) → IsHeld (MetOf u.system i) → HadInFront source xs w v i (t.jobs i).device
met_in source [] t w v run steps u h comes legal i low none held = absurd (none (subst (λ (g : Ghost). IsHeld (MetOf g.system i)) comes.1 held))
met_in source (OfJobs e ∷ xs) t w v run steps u h (first, more, mid, is, gc, rules, stands, rest) legal i low none held =
    let parts = history_parts t.system first more (subst (IsHistory t.system) is legal) in
    let fixed = stays_fixed source e t first mid gc in
    let count : mid.count ≡ t.count = ap (λ (f : Fixed). f.2) fixed in
    let many = count_is t mid w run.0 h.refines stands.refines count in
    let name : (mid.jobs i).device ≡ (t.jobs i).device = ap (λ (f : Fixed). (f.3 i).device) fixed in
    by (held_or (MetOf mid.system i)) (event_met source e t first mid i gc parts.0) parts.1
    (λ never later. found_later source (OfJobs e) xs w run.0 v i (t.jobs i).device (mid.jobs i).device (λ ys z r. (run.0, run.1, r)) name
    (met_in source xs mid run.0 v run.2 more u stands rest (subst (λ (s : SystemState). IsHistory s more) (sym rules) later) i (omega (arith, low, many)) never held))
  where
    Result : Type 0
    Result = HadInFront source (OfJobs e ∷ xs) w v i (t.jobs i).device

    told : IsHeld (MetOf t.system i) ⊎ FoundHeld e t i → Result
    told (inl old) = absurd (none old)
    told (inr found) = found_first source e xs t w v i run h.refines low found

    by : IsHeld (MetOf mid.system i) ⊎ (IsHeld (MetOf mid.system i) → ⊥) → (IsHeld (MetOf (after_all t.system first) i) → IsHeld (MetOf t.system i) ⊎ FoundHeld e t i) → IsHistory (after_all t.system first) more → ((IsHeld (MetOf mid.system i) → ⊥) → IsHistory (after_all t.system first) more → Result) → Result
    by (inl now) event later next = told (event (subst (λ (s : SystemState). IsHeld (MetOf s i)) rules now))
    by (inr never) event later next = next never later
met_in source (OfStranger a ∷ xs) t w v run steps u h (first, more, is, uses, stands, rest) legal i low none held =
    let parts = history_parts t.system first more (subst (IsHistory t.system) is legal) in
    let g = ghost_behind first t in
    let many = count_is t g w run.0 h.refines stands.refines refl in
    let still = jobs_stay (stranger_of w a.session) t.system first uses in
    found_later source (OfStranger a) xs w run.0 v i (t.jobs i).device (t.jobs i).device (λ ys z r. (run.0, run.1, r)) refl
    (met_in source xs g run.0 v run.2 more u stands rest parts.1 i (omega (arith, low, many)) (λ now. none (subst (λ (f : ℕ → JobState). IsHeld (f i).session.met) still now)) held)

-- ---- the laws

pub busy_has_holder : BusyHasHolder
busy_has_holder source xs t w v run h all i endpoint at none held = met_in source xs t w v run all.steps all.ghost_then h all.comes all.legal i (slice_get_within w.endpoints i endpoint at) none held

-- what explains that ending
abbrev IsNamed : List Cause → Type 0
IsNamed met = IsCauseAmong (Names DeviceBusy) met

one_busy : (c : Cause) (met : List Cause) → Explains c DeviceBusy Answer → IsHeld (c ∷ met) ⊎ IsNamed (c ∷ met)
one_busy GaveUp met e = absurd (let clash : DeviceBusy ≡ Cancelled = e.0 in cc)
one_busy LinkLost met e = absurd (let clash : DeviceBusy ≡ IoError = e.0 in cc)
one_busy LinkOutOfMemory met e = absurd (let clash : DeviceBusy ≡ IoError = e.0 in cc)
one_busy WasUnsaid met e = absurd e
one_busy SourceFailed met e = absurd (let clash : DeviceBusy ≡ IoError = e.0 in cc)
one_busy NamesEof met e = absurd (let clash : DeviceBusy ≡ IoError = e.0 in cc)
one_busy (Names status) met e = inr (inl (ap Names e.0))
one_busy Unforced met e = absurd (let clash : DeviceBusy ≡ Inval = e.0 in cc)
one_busy WasUnlisted met e = absurd (let clash : DeviceBusy ≡ Inval = e.0 in cc)
one_busy HadNoPicture met e = absurd (let clash : DeviceBusy ≡ Inval = e.0 in cc)
one_busy WasHeld met e = inl (inl refl)
one_busy Disallowed met e = absurd (let clash : DeviceBusy ≡ AccessDenied = e.0 in cc)
one_busy TrayWasEmpty met e = absurd (let clash : DeviceBusy ≡ NoDocs = e.0 in cc)
one_busy TrayRanOut met e = absurd e
one_busy ClientOutOfMemory met e = absurd (let clash : DeviceBusy ≡ NoMem = e.0 in cc)

more_busy : (c : Cause) (met : List Cause) → IsHeld met ⊎ IsNamed met → IsHeld (c ∷ met) ⊎ IsNamed (c ∷ met)
more_busy c met (inl held) = inl (inr held)
more_busy c met (inr named) = inr (inr named)

busy_by : (met : List Cause) → IsExplained DeviceBusy Answer met → IsHeld met ⊎ IsNamed met
busy_by [] e = absurd e
busy_by (c ∷ met) (inl e) = one_busy c met e
busy_by (c ∷ met) (inr more) = more_busy c met (busy_by met more)

caused_busy : (k : Make) (b : SessionView) → IsCaused k b DeviceBusy Answer → IsHeld b.met ⊎ IsNamed b.met
caused_busy k b (inl e) = busy_by b.met e
caused_busy k b (inr unforced) = absurd (let clash : DeviceBusy ≡ Inval = unforced.1.0 in cc)

pub busy_is_explained : BusyIsExplained
busy_is_explained source xs t w v run h all i endpoint now at none there busy =
    let u = all.ghost_then in
    let outcome = subst (λ (o : Outcome). IsOutcome u i o) busy (outcomes_are_right u v i now all.stands.refines there) in
    by (caused_busy (make_for u.system i) (job_state u i).session outcome) (λ held. busy_has_holder source xs t w v run h all i endpoint at none held)
  where
    by : IsHeld (MetOf all.ghost_then.system i) ⊎ IsNamed (MetOf all.ghost_then.system i) → (IsHeld (MetOf all.ghost_then.system i) → HadInFront source xs w v i (t.jobs i).device) →
        HadInFront source xs w v i (t.jobs i).device ⊎ IsNamed (MetOf all.ghost_then.system i)
    by (inl held) find = inl (find held)
    by (inr named) find = inr named

pub had_by_stranger : HadByStranger
had_by_stranger source w v i count n name leads nobodys leases = record {
  front = [];
  count = count;
  back = [];
  parts = refl;
  world = w;
  before = refl;
  behind = (v, leads, refl);
  session = n;
  leases = leases;
  other = λ endpoint id at link. nobodys i endpoint id at link;
}

pub busy_by_itself : BusyByItself
busy_by_itself source xs t w v run h all i endpoint at none never held =
    let f = busy_has_holder source xs t w v run h all i endpoint at none held in
    never f.front f.count f.back f.parts
