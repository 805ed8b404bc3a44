-- Events one after another.
use Rattle.std.specs.Prelude.{◌<◌}
use Rattle.std.proofs.Common.{◌≡◌, ◌≢◌, ◌⊎◌, inl, inr, ◌∙◌, ℕ, Bool, List, [], ◌∷◌, ◌++◌, Some, false, refl, sym, ap, subst, slice_get}
use Rattle.sane_fixed.specs.declared.status.Status.{Status}
use Rattle.sane_fixed.specs.declared.status.Status.TheVariants.{Good, Eof}
use Rattle.page_picture.specs.Source.{SourceState}
use Rattle.sane_fixed.specs.declared.device_info.DeviceInfo.{DeviceInfo}
use Rattle.device_api.specs.Kinds.{Page}
use Rattle.system_model.specs.Devices.{Make}
use Rattle.page_sources.specs.declared.kinds.Source.{Source}
use Rattle.system_model.specs.Actions.{Action as Ruled}
use Rattle.system_model.specs.Actions as model_actions
use Rattle.saned_core.specs.DaemonStates.{Core}
use Rattle.scan_job.specs.declared.job.Job.{Job}
use Rattle.scan_job.specs.declared.outcome.Outcome.TheVariants.{Ended}
use Rattle.scan_job.specs.declared.outcome.Why.{Why}
use Rattle.system_model.specs.SystemStates.{SystemState, make_for}
use Rattle.system_model.specs.Transitions.{By, IsHistory, Loads, Transition, Unplugs, after_all}
use Rattle.system_model.proofs.RunMarks.{histories_legal}
use Rattle.event_world.specs.declared.event.Event.{Event}
use Rattle.event_world.specs.declared.event.Event.TheVariants.{Connect, ToDaemon, ToClient, DataConnect, DataTurn, DataToClient, LoseControl, LoseImage, Cancel, Load, Unplug}
use Rattle.event_world.specs.declared.event.JobEvent.{JobEvent}
use Rattle.event_world.specs.declared.event.JobEvent.TheVariants as actions
use Rattle.event_world.specs.declared.endpoint.Endpoint.{Endpoint}
use Rattle.event_world.specs.Worlds.{AtEndpoint, Leads, Runs, WorldCore}
use Rattle.event_world.proofs.Events.{stands_run}
use Rattle.event_world.proofs.FilesSay.{none_tells, page_none_tells, short_tells}
use Rattle.world_refines.specs.GhostStates.{Ghost, Wires}
use Rattle.world_refines.specs.WorldRefinement.{HasNoStrangers, WorldRefines}
use Rattle.world_refines.specs.Costs.{Pays}
use Rattle.world_refines.specs.GhostEvents.{GhostCan, CanLoad, CanUnplug, GhostConnects, Dials, GivesUp, GhostHappens, LaysIn, GhostLeads, GhostLeadsTo, LosesControl, LosesImage, GhostSends, GhostTakes, TakesOut, GhostTurns}
use Rattle.world_refines.specs.FailedSources.{AllAlong, FailsIn, FailsInSome, HasFailed, InEvent, IsInSome}
use Rattle.world_refines.specs.Answering.{AnswersSome, BreaksOff, GoesOn, IsOver, WasOver}
use Rattle.world_refines.specs.ClientDeliveries.{Delivers, GhostHears}
use Rattle.world_refines.specs.DataDeliveries.{GhostSees}
use Rattle.world_refines.specs.WorldPromises.{HasCause, IsOutcome}
use Rattle.world_refines.specs.MainTheorem.{AllIsKept, AreFittingLoads, AreTrueLoads, GhostComes, GhostComesAll, EventsFollow, IsFittingLoad, IsTrueLoad}
use Rattle.world_refines.proofs.job_events.Beginnings.{new_worlds_alone, new_worlds_stand}
use Rattle.world_refines.proofs.job_events.LeftAlone.{event_alone}
use Rattle.world_refines.proofs.job_events.Constant.{Fixed, makes_stay, stays_fixed}
use Rattle.world_refines.proofs.moves.Budgets.{Owns, new_worlds_pay, none_left, pays_at, pays_loads, pays_unplugs, rests_over, same_pays}
use Rattle.world_refines.proofs.job_events.Cancelling.{cancel_decides}
use Rattle.world_refines.proofs.requests.Closing.{history_then, steps_then}
use Rattle.world_refines.proofs.job_events.ControlConnections.{connect_decides}
use Rattle.world_refines.proofs.promise_proofs.Counted.{batches_are_counted}
use Rattle.world_refines.proofs.frames.Dialling.{dial_decides}
use Rattle.world_refines.proofs.requests.FedEvent.{delivery_counts, delivery_decides}
use Rattle.world_refines.proofs.promise_proofs.WorldFiles.{new_files}
use Rattle.world_refines.proofs.replies.Hearing.{deliver_decides}
use Rattle.world_refines.proofs.state.ListEntries.{within}
use Rattle.world_refines.proofs.job_events.Loading.{loads_follow}
use Rattle.world_refines.proofs.job_events.Losing.{control_decides}
use Rattle.world_refines.proofs.promise_proofs.Named.{AllSpared, all_spared, refuses}
use Rattle.world_refines.proofs.requests.OneAnswer.{all_requests}
use Rattle.world_refines.proofs.frames.Paged.{pages_are_meant}
use Rattle.world_refines.proofs.promise_proofs.PromiseProofs.{outcomes_are_right, scans_are_meant}
use Rattle.world_refines.proofs.frames.Seeing.{data_decides}
use Rattle.world_refines.proofs.moves.Spending.{answers_own, connects_own, dials_own, hears_own, image_own, loses_own, sees_own, stops_own, turns_own}
use Rattle.world_refines.proofs.moves.Stuck.{losses_explained, nobody_is_stuck}
use Rattle.world_refines.proofs.state.Failing.{Counting, along_each, along_happens, along_then, fails_more, plain_leads, quiet_all}
use Rattle.world_refines.proofs.state.Taking.{DecidesAt, DecidesIn, follows_by, follows_in}
use Rattle.world_refines.proofs.frames.TurnEvents.{turn_counts, turn_decides}
use Rattle.world_refines.proofs.job_events.Quiet.{AreQuiet, connects_quiet, hears_quiet, quiet_by, sees_quiet}
use Rattle.world_refines.proofs.frames.Unimaged.{image_decides}
use Rattle.world_refines.proofs.job_events.Unplugging.{unplugs_follow}

-- ---- the steps of an event are enabled, and lead to what stands then

pub record LeadsLegally (t : Ghost) (steps : List Transition) (u : Ghost) : Type 0 where
  pub legal : IsHistory t.system steps
  pub rules_are : u.system ≡ after_all t.system steps

of_takes : (t : Ghost) (i : ℕ) (steps : List Transition) (x : Wires) (u : Ghost) → GhostTakes t i steps x u → LeadsLegally t steps u
of_takes t i steps x u h = record { legal = h.legal; rules_are = ap (λ (v : Ghost). v.system) h.then_is }

of_none : (t u : Ghost) (steps : List Transition) → (steps ≡ []) × (u ≡ t) → LeadsLegally t steps u
of_none t u steps h = record { legal = subst (IsHistory t.system) (sym h.0) tt; rules_are = ap (λ (v : Ghost). v.system) h.1 ∙ ap (after_all t.system) (sym h.0) }

of_connects : (t : Ghost) (i : ℕ) (steps : List Transition) (u : Ghost) → GhostConnects t i steps u → LeadsLegally t steps u
of_connects t i steps u (inl h) = of_takes t i steps _ u h.1
of_connects t i steps u (inr h) = of_takes t i steps _ u h.1

of_sends : (t : Ghost) (i : ℕ) (action : Ruled) (text : List ℕ) (steps : List Transition) (u : Ghost) → GhostSends t i action text steps u → LeadsLegally t steps u
of_sends t i action text steps u (inl h) = of_takes t i steps _ u h.1
of_sends t i action text steps u (inr h) = of_takes t i steps _ u h.1

of_answers : (n : ℕ) (t : Ghost) (i : ℕ) (steps : List Transition) (u : Ghost) → AnswersSome n t i steps u → LeadsLegally t steps u
of_answers n t i steps u (GoesOn asked rest told c w e takes on) = of_takes t i steps _ u takes
of_answers n t i steps u (IsOver asked rest told c e takes on off) = of_takes t i steps _ u takes
of_answers n t i steps u (BreaksOff memory asked rest told before c e cut is takes) = of_takes t i steps _ u takes
of_answers n t i steps u (WasOver off none takes) = subst (λ (xs : List Transition). LeadsLegally t xs u) (sym none) (of_takes t i [] _ u takes)

of_delivers : (t : Ghost) (i n : ℕ) (telling text : List ℕ) (steps : List Transition) (u : Ghost) → Delivers t i n telling text steps u → LeadsLegally t steps u
of_delivers t i n telling text steps u h = record { legal = h.legal; rules_are = ap (λ (v : Ghost). v.system) h.then_is }

of_hears : (n : ℕ) (t : Ghost) (i : ℕ) (steps : List Transition) (u : Ghost) → GhostHears n t i steps u → LeadsLegally t steps u
of_hears n t i steps u (inl h) = of_takes t i steps _ u h.takes
of_hears n t i steps u (inr (under, inl h)) = of_delivers t i n _ _ steps u h.delivers
of_hears n t i steps u (inr (under, inr (inl h))) = of_delivers t i n _ _ steps u h.delivers
of_hears n t i steps u (inr (under, inr (inr (inl h)))) = of_delivers t i n _ _ steps u h.delivers
of_hears n t i steps u (inr (under, inr (inr (inr h)))) = of_delivers t i n _ _ steps u h.delivers

of_sees : (n : ℕ) (t : Ghost) (i : ℕ) (steps : List Transition) (u : Ghost) → GhostSees n t i steps u → LeadsLegally t steps u
of_sees n t i steps u h = record { legal = h.legal; rules_are = ap (λ (v : Ghost). v.system) h.then_is }

-- where it can happen, and where it cannot
of_happens : (May Done : Type 0) (t : Ghost) (steps : List Transition) (u : Ghost) → (Done → LeadsLegally t steps u) → (h : GhostHappens May Done t steps u) → May ⊎ (May → ⊥) → LeadsLegally t steps u
of_happens May Done t steps u does h (inl can) = does (h.does can)
of_happens May Done t steps u does h (inr never) = of_none t u steps (h.cannot never)

-- ---- one event

pub record Behind (source : Source → SourceState) (e : Event) (t : Ghost) (w v : WorldCore) : Type 0 where
  pub steps : List Transition
  pub ghost_then : Ghost
  pub comes : GhostComes source e t steps ghost_then
  pub leads : LeadsLegally t steps ghost_then
  pub failures : AllAlong (FailsIn t w v.daemon) t.system steps
  pub stands : WorldRefines ghost_then v
  pub pays : Pays t w → Pays ghost_then v

behind : (source : Source → SourceState) (e : Event) (t : Ghost) (w v : WorldCore) (May : Type 0) (Does : List Transition → Ghost → Type 0) → ((steps : List Transition) (u : Ghost) → GhostHappens May (Does steps u) t steps u → GhostComes source e t steps u) → ((steps : List Transition) (u : Ghost) → Does steps u → LeadsLegally t steps u) → (l : GhostLeadsTo May Does t v) → AllAlong (FailsIn t w v.daemon) t.system l.steps → (Pays t w → Pays l.ghost_then v) →
    Behind source e t w v
behind source e t w v May Does comes legal l failures pays =
    record {
      steps = l.steps;
      ghost_then = l.ghost_then;
      comes = comes l.steps l.ghost_then l.happens;
      leads = of_happens May (Does l.steps l.ghost_then) t l.steps l.ghost_then (legal l.steps l.ghost_then) l.happens l.happens.either;
      failures = failures;
      stands = l.stands;
      pays = pays;
    }

-- what comes to a job
record Comer (source : Source → SourceState) (e : Event) (i : ℕ) (action : JobEvent) (Does : Ghost → ℕ → List Transition → Ghost → Type 0) : Type 0 where
  decides : DecidesAt action Does
  owns : Owns action Does
  legal : (t : Ghost) (steps : List Transition) (u : Ghost) → Does t i steps u → LeadsLegally t steps u
  comes : (t : Ghost) (steps : List Transition) (u : Ghost) → GhostHappens (GhostCan t i action) (Does t i steps u) t steps u → GhostComes source e t steps u

by_leads : (source : Source → SourceState) (e : Event) (i : ℕ) (action : JobEvent) (Does : Ghost → ℕ → List Transition → Ghost → Type 0) → Comer source e i action Does → (t : Ghost) (w v : WorldCore) → WorldRefines t w → AtEndpoint w i action v → (l : GhostLeads action Does t i v) → AllAlong (FailsIn t w v.daemon) t.system l.steps → Behind source e t w v
by_leads source e i action Does c t w v h at l failures =
    behind source e t w v (GhostCan t i action) (Does t i) (c.comes t) (c.legal t) l failures (pays_at action Does c.decides c.owns t i w v h at l)

-- in which no source fails
quiet_happens : (May What : Type 0) (t : Ghost) (w v : WorldCore) (steps : List Transition) (u : Ghost) → (What → AreQuiet steps) → GhostHappens May What t steps u → AllAlong (FailsIn t w v.daemon) t.system steps
quiet_happens May What t w v steps u quiet h =
    along_happens (FailsIn t w v.daemon) May What t steps u (λ does. quiet_all (λ (b : Bool) (j : ℕ). InEvent b w v.daemon j (t.jobs j)) t.system steps (quiet does)) h

to_job : (source : Source → SourceState) (e : Event) (i : ℕ) (action : JobEvent) (Does : Ghost → ℕ → List Transition → Ghost → Type 0) → Comer source e i action Does → ((t : Ghost) (steps : List Transition) (u : Ghost) → Does t i steps u → AreQuiet steps) → (t : Ghost) (w v : WorldCore) → WorldRefines t w → AtEndpoint w i action v → Behind source e t w v
to_job source e i action Does c quiet t w v h at =
    let l = follows_by action Does c.decides t i w v h at in
    by_leads source e i action Does c t w v h at l (quiet_happens (GhostCan t i action) (Does t i l.steps l.ghost_then) t w v l.steps l.ghost_then (quiet t l.steps l.ghost_then) l.happens)

-- in which each that fails has counted that
to_source : (source : Source → SourceState) (e : Event) (i : ℕ) (action : JobEvent) (Does : Ghost → ℕ → List Transition → Ghost → Type 0) → Comer source e i action Does → DecidesIn action (Counting Does) → (t : Ghost) (w v : WorldCore) → WorldRefines t w → AtEndpoint w i action v → Behind source e t w v
to_source source e i action Does c counts t w v h at =
    let l = follows_in action (Counting Does) counts t i w v h at in
    by_leads source e i action Does c t w v h at (plain_leads action Does w v.daemon t i v l)
    (along_happens (FailsIn t w v.daemon) (GhostCan t i action) (Counting Does w v.daemon t i l.steps l.ghost_then) t l.steps l.ghost_then (λ does. does.1) l.happens)

-- what comes to a device: the other way that it may be, nothing changes
beside : (t : Ghost) (w v : WorldCore) (May : Type 0) (Does : List Transition → Ghost → Type 0) → v.endpoints ≡ w.endpoints → ((steps : List Transition) (u : Ghost) → Does steps u → Pays t w → Pays u v) → (l : GhostLeadsTo May Does t v) → Pays t w → Pays l.ghost_then v
beside t w v May Does endpoints does l pays = by_either l.happens.either
  where
    by_either : May ⊎ (May → ⊥) → Pays l.ghost_then v
    by_either (inl may) = does l.steps l.ghost_then (l.happens.does may) pays
    by_either (inr never) = same_pays t l.ghost_then w v (l.happens.cannot never).1 endpoints pays

laid_pays : (t : Ghost) (w v : WorldCore) (name : List ℕ) (page : Page) → WorldRefines t w → v.endpoints ≡ w.endpoints → (steps : List Transition) (u : Ghost) → LaysIn t name page steps u → Pays t w → Pays u v
laid_pays t w v name page h endpoints steps u d pays =
    pays_loads t u w v d.place page h (subst (IsHistory t.system) d.steps_are d.legal).0 (d.then_is ∙ ap (λ (xs : List Transition). record t { system = after_all t.system xs }) d.steps_are) endpoints pays

unplugged_pays : (t : Ghost) (w v : WorldCore) (name : List ℕ) → WorldRefines t w → v.endpoints ≡ w.endpoints → (steps : List Transition) (u : Ghost) → TakesOut t name steps u → Pays t w → Pays u v
unplugged_pays t w v name h endpoints steps u d pays =
    pays_unplugs t u w v d.place h (subst (IsHistory t.system) d.steps_are d.legal).0 (d.then_is ∙ ap (λ (xs : List Transition). record t { system = after_all t.system xs }) d.steps_are) endpoints pays

pub one_event : (source : Source → SourceState) (e : Event) (t : Ghost) (w v : WorldCore) → WorldRefines t w → IsTrueLoad source e → IsFittingLoad source t.infos t.system.make e → Leads source e w v → Behind source e t w v
one_event source (Connect i) t w v h page_view fits at =
    to_job source (Connect i) i actions.Connect GhostConnects (record { decides = connect_decides; owns = λ t u w v i p q steps h k at there can d. connects_own t w i p steps u h at can d; legal = λ t. of_connects t i; comes = λ t steps u x. x }) (λ t. connects_quiet t i) t w v h at
one_event source (ToDaemon i n) t w v h page_view fits at =
    to_source source (ToDaemon i n) i (actions.ToDaemon n) (AnswersSome n) (record { decides = delivery_decides (λ t w i h low. all_requests t i) n; owns = λ t u w v i p q steps h k at there can d. answers_own t u w v i n p q steps h k at there can d; legal = λ t. of_answers n t i; comes = λ t steps u x. x }) (delivery_counts (λ t w i h low. all_requests t i) n) t w v h at
one_event source (ToClient i n) t w v h page_view fits at =
    to_job source (ToClient i n) i (actions.ToClient n) (GhostHears n) (record { decides = deliver_decides n; owns = λ t u w v i p q steps h k at there can d. hears_own t w i n p steps u h at can d; legal = λ t. of_hears n t i; comes = λ t steps u x. x }) (λ t. hears_quiet n t i) t w v h at
one_event source (DataConnect i) t w v h page_view fits at =
    to_job source (DataConnect i) i actions.DataConnect Dials (record { decides = dial_decides; owns = λ t u w v i p q steps h k at there can d. dials_own t i steps u can d; legal = λ t steps u d. of_takes t i steps _ u d.1; comes = λ t steps u x. x }) (λ t steps u d. quiet_by steps (By i model_actions.Dials ∷ []) d.0 (tt, tt)) t w v h at
one_event source (DataTurn i) t w v h page_view fits at =
    to_source source (DataTurn i) i actions.DataTurn GhostTurns (record { decides = turn_decides; owns = λ t u w v i p q steps h k at there can d. turns_own t w i p steps u h at can d; legal = λ t steps u d. of_sends t i d.action d.text steps u d.sends; comes = λ t steps u x. x }) turn_counts t w v h at
one_event source (DataToClient i n) t w v h page_view fits at =
    to_job source (DataToClient i n) i (actions.DataToClient n) (GhostSees n) (record { decides = data_decides n; owns = λ t u w v i p q steps h k at there can d. sees_own t w i n p steps u h at can d; legal = λ t. of_sees n t i; comes = λ t steps u x. x }) (λ t. sees_quiet n t i) t w v h at
one_event source (LoseControl i) t w v h page_view fits at =
    to_job source (LoseControl i) i actions.LoseControl LosesControl (record { decides = control_decides; owns = λ t u w v i p q steps h k at there can d. loses_own t i steps u d; legal = λ t steps u d. of_takes t i steps _ u d.1; comes = λ t steps u x. x }) (λ t steps u d. quiet_by steps (By i (model_actions.Loses false) ∷ []) d.0 (tt, tt)) t w v h at
one_event source (LoseImage i) t w v h page_view fits at =
    to_job source (LoseImage i) i actions.LoseImage LosesImage (record { decides = image_decides; owns = λ t u w v i p q steps h k at there can d. image_own t i steps u d; legal = λ t steps u d. of_takes t i steps _ u d.1; comes = λ t steps u x. x }) (λ t steps u d. quiet_by steps (By i (model_actions.LosesImage false) ∷ []) d.0 (tt, tt)) t w v h at
one_event source (Cancel i) t w v h page_view fits at =
    to_job source (Cancel i) i actions.Cancel GivesUp (record { decides = cancel_decides; owns = λ t u w v i p q steps h k at there can d. stops_own t i steps u d; legal = λ t steps u d. of_takes t i steps _ u d.takes; comes = λ t steps u x. x }) (λ t steps u d. quiet_by steps (By i model_actions.Stops ∷ []) d.steps_are (tt, tt)) t w v h at
one_event source (Load name page) t w v h page_view fits at =
    let l = subst (λ (x : WorldCore). GhostLeadsTo (CanLoad t name) (LaysIn t name (source page).page) t x) (sym at) (loads_follow t w name (source page) page_view fits h) in
    let endpoints : v.endpoints ≡ w.endpoints = ap (λ (x : WorldCore). x.endpoints) at in
    behind source (Load name page) t w v (CanLoad t name) (LaysIn t name (source page).page) (λ steps u x. x) (λ steps u d. record { legal = d.legal; rules_are = ap (λ (v : Ghost). v.system) d.then_is }) l
    (quiet_happens (CanLoad t name) (LaysIn t name (source page).page l.steps l.ghost_then) t w v l.steps l.ghost_then (λ d. quiet_by l.steps (Loads d.place (source page).page ∷ []) d.steps_are (tt, tt)) l.happens)
    (beside t w v (CanLoad t name) (LaysIn t name (source page).page) endpoints (laid_pays t w v name (source page).page h endpoints) l)
one_event source (Unplug name) t w v h page_view fits at =
    let l = subst (λ (x : WorldCore). GhostLeadsTo (CanUnplug t name) (TakesOut t name) t x) (sym at) (unplugs_follow t w name h) in
    let endpoints : v.endpoints ≡ w.endpoints = ap (λ (x : WorldCore). x.endpoints) at in
    behind source (Unplug name) t w v (CanUnplug t name) (TakesOut t name) (λ steps u x. x) (λ steps u d. record { legal = d.legal; rules_are = ap (λ (v : Ghost). v.system) d.then_is }) l
    (quiet_happens (CanUnplug t name) (TakesOut t name l.steps l.ghost_then) t w v l.steps l.ghost_then (λ d. quiet_by l.steps (Unplugs d.place ∷ []) d.steps_are (tt, tt)) l.happens)
    (beside t w v (CanUnplug t name) (TakesOut t name) endpoints (unplugged_pays t w v name h endpoints) l)

-- ---- all of them

record AllBehind (source : Source → SourceState) (events : List Event) (t : Ghost) (w v : WorldCore) : Type 0 where
  ghost_then : Ghost
  steps : List Transition
  comes : GhostComesAll source events t steps ghost_then
  leads : LeadsLegally t steps ghost_then
  failures : AllAlong (FailsInSome source events t w v) t.system steps
  stands : WorldRefines ghost_then v
  alone : HasNoStrangers w → HasNoStrangers v
  pays : Pays t w → Pays ghost_then v

-- what is so in the first event, or in a later one
in_first : (source : Source → SourceState) (e : Event) (es : List Event) (w u v : WorldCore) (Holds : WorldCore → Core → Type 0) → Leads source e w u → Runs source es u v → Holds w u.daemon → IsInSome source (e ∷ es) w v Holds
in_first source e es w u v Holds leads rest holds = record { front = []; event = e; back = es; split = refl; before = w; comes = refl; behind = u; leads = leads; rest = rest; holds = holds }

in_later : (source : Source → SourceState) (e : Event) (es : List Event) (w u v : WorldCore) (Holds : WorldCore → Core → Type 0) → Leads source e w u → IsInSome source es u v Holds → IsInSome source (e ∷ es) w v Holds
in_later source e es w u v Holds leads h =
    record { front = e ∷ h.front; event = h.event; back = h.back; split = ap (λ (xs : List Event). e ∷ xs) h.split; before = h.before; comes = (u, leads, h.comes); behind = h.behind; leads = h.leads; rest = h.rest; holds = h.holds }

all_failures : (source : Source → SourceState) (e : Event) (es : List Event) (t u : Ghost) (w mid v : WorldCore) (steps more : List Transition) → u.jobs ≡ t.jobs → u.system ≡ after_all t.system steps → Leads source e w mid → Runs source es mid v → AllAlong (FailsIn t w mid.daemon) t.system steps → AllAlong (FailsInSome source es u mid v) u.system more →
    AllAlong (FailsInSome source (e ∷ es) t w v) t.system (steps ++ more)
all_failures source e es t u w mid v steps more jobs rules_are leads rest first later =
    let now = along_each (FailsIn t w mid.daemon) (FailsInSome source (e ∷ es) t w v)
    (fails_more (λ b i. InEvent b w mid.daemon i (t.jobs i)) (HasFailed source (e ∷ es) t w v) (λ b i f. in_first source e es w mid v (λ before behind. InEvent b before behind i (t.jobs i)) leads rest f)) t.system steps first in
    let then_on = along_each (FailsInSome source es u mid v) (FailsInSome source (e ∷ es) t w v) (fails_more (HasFailed source es u mid v) (HasFailed source (e ∷ es) t w v) (λ b i f. in_later source e es w mid v (λ before behind. InEvent b before behind i (t.jobs i)) leads
    (subst (λ (js : ℕ → Job). IsInSome source es mid v (λ before behind. InEvent b before behind i (js i))) jobs f))) u.system more later in
    along_then (FailsInSome source (e ∷ es) t w v) t.system steps more now (subst (λ (s : SystemState). AllAlong (FailsInSome source (e ∷ es) t w v) s more) rules_are then_on)

all_events : (source : Source → SourceState) (events : List Event) (t : Ghost) (w v : WorldCore) → WorldRefines t w → AreTrueLoads source events → AreFittingLoads source t.infos t.system.make events → Runs source events w v → AllBehind source events t w v
all_events source [] t w v h page_views fits run = record { ghost_then = t; steps = []; comes = (refl, refl); leads = record { legal = tt; rules_are = refl }; failures = tt; stands = subst (WorldRefines t) (sym run) h; alone = λ alone. subst HasNoStrangers (sym run) alone; pays = λ pays. subst (Pays t) (sym run) pays }
all_events source (e ∷ es) t w v h page_views fits (u, first, rest) =
    let one = one_event source e t w u h page_views.0 fits.0 first in
    let infos : one.ghost_then.infos ≡ t.infos = ap (λ (f : Fixed). f.1) (stays_fixed source e t one.steps one.ghost_then one.comes) in
    let makes : one.ghost_then.system.make ≡ t.system.make = ap (λ (s : SystemState). s.make) one.leads.rules_are ∙ makes_stay t.system one.steps in
    let later : AreFittingLoads source one.ghost_then.infos one.ghost_then.system.make es =
    subst (λ (i : List DeviceInfo). AreFittingLoads source i one.ghost_then.system.make es) (sym infos) (subst (λ (m : ℕ → Make). AreFittingLoads source t.infos m es) (sym makes) fits.1) in
    let more = all_events source es one.ghost_then u v one.stands page_views.1 later rest in
    let behind : IsHistory (after_all t.system one.steps) more.steps = subst (λ (s : SystemState). IsHistory s more.steps) one.leads.rules_are more.leads.legal in
    record {
      ghost_then = more.ghost_then;
      steps = one.steps ++ more.steps;
      comes = (one.steps, more.steps, one.ghost_then, refl, one.comes, more.comes);
      leads = record {
        legal = history_then t.system one.steps more.steps one.leads.legal behind;
        rules_are = more.leads.rules_are ∙ (ap (λ (s : SystemState). after_all s more.steps) one.leads.rules_are ∙ sym (steps_then t.system one.steps more.steps));
      };
      failures = all_failures source e es t one.ghost_then w u v one.steps more.steps (ap (λ (f : Fixed). f.3) (stays_fixed source e t one.steps one.ghost_then one.comes)) one.leads.rules_are first rest one.failures more.failures;
      stands = more.stands;
      alone = λ alone. more.alone (event_alone source e t w u h first alone);
      pays = λ pays. more.pays (one.pays pays);
    }

pub events_follow : EventsFollow
events_follow source events t w v h page_views fits run =
    let all = all_events source events t w v h page_views fits run in
    record {
      ghost_then = all.ghost_then;
      steps = all.steps;
      comes = all.comes;
      legal = all.leads.legal;
      rules_are = all.leads.rules_are;
      marks = λ d. histories_legal d t.system all.steps h.sound all.leads.legal;
      failures = all.failures;
      stands = all.stands;
      alone = all.alone;
      pays = all.pays;
    }

pub ended_named : (u : Ghost) (v : WorldCore) (i : ℕ) (endpoint : Endpoint) (status : Status) (why : Why) → WorldRefines u v → slice_get v.endpoints i ≡ Some endpoint → AllSpared u.system → endpoint.client.outcome ≡ Ended status why → (status ≢ Good) × (status ≢ Eof)
ended_named u v i endpoint status why h at spared e =
    let cause : HasCause u i status why = subst (IsOutcome u i) e (outcomes_are_right u v i endpoint h at) in
    refuses (make_for u.system i) (u.system.job i) status why (spared i) cause

pub all_kept : AllIsKept
all_kept source events sources jobs other devices w v new daemon names limits fit page_views only fits run =
    let stood = events_follow source events _ w v (new_worlds_stand sources jobs other devices w new daemon names limits only fit) page_views fits run in
    let u = stood.ghost_then in
    let pays = stood.pays (new_worlds_pay sources jobs other devices w new fit) in
    let files = stands_run source events w v run (new_files jobs w.endpoints fit new) in
    let spared : AllSpared u.system = subst AllSpared (sym stood.rules_are) (all_spared _ stood.steps stood.legal (λ i none. none)) in
    record {
      run = stood;
      alone = stood.alone (new_worlds_alone devices w daemon);
      promises = record {
        outcomes = λ i endpoint at. outcomes_are_right u v i endpoint stood.stands at;
        statuses = λ i endpoint status why at e. ended_named u v i endpoint status why stood.stands at spared e;
        short = λ i endpoint file at undone file_is whole. short_tells endpoint file (files i endpoint at) undone file_is whole;
        starved = λ i endpoint at none. none_tells endpoint (files i endpoint at) none;
        pages_lost = λ i k endpoint at positive most few none. page_none_tells endpoint k (files i endpoint at) positive most few none;
        scans = λ i endpoint reports file at task done file_is. scans_are_meant u v i endpoint reports file stood.stands at task done file_is;
        batches = λ i count endpoint reports at task done. batches_are_counted u v i count endpoint reports stood.stands (subst (λ (n : ℕ). i < n) (sym stood.stands.is_of.count) (within v.endpoints i endpoint at)) at task done;
        moves = λ i endpoint event at next. nobody_is_stuck u v i endpoint event stood.stands at next;
        losses = λ i endpoint at next. losses_explained u v i endpoint stood.stands at next;
        left = λ i endpoint at none. none_left u v i endpoint stood.stands pays at none;
        rests = λ i endpoint at rests. rests_over u v i endpoint stood.stands pays at rests;
        pages = λ i k endpoint file at low file_is. pages_are_meant u v i k endpoint file stood.stands at low file_is;
      };
    }
