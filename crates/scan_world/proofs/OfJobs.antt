-- Each step is of a job that there is, or of a client behind all jobs.
use Rattle.std.specs.Prelude.{◌<◌, ◌≤◌, cond, eqb, IsSome}
use Rattle.std.specs.List.{AllByRecursion}
use Rattle.std.proofs.Common.{◌≡◌, ◌∙◌, ◌⊎◌, ℕ, zero, suc, ◌+◌, List, [], ◌∷◌, Bool, true, false, Option, Some, None, inl, inr, refl, sym, ap, subst, eqb-true, arith}
use Rattle.page_sources.specs.SourceView.{source_state}
use Rattle.frame_join.specs.FrameHistory.{JoinHistory}
use Rattle.system_model.specs.Actions as model_actions
use Rattle.system_model.specs.Daemon.{Quiet, Waiting}
use Rattle.system_model.specs.SystemStates.{JobState, SystemState}
use Rattle.system_model.specs.Transitions.{By, Loads, Transition, Unplugs, Uses, after_transition, after_all}
use Rattle.event_world.specs.declared.endpoint.Endpoint.{Endpoint}
use Rattle.event_world.specs.declared.event.Event.{Event}
use Rattle.event_world.specs.declared.event.Event.TheVariants.{Connect, ToDaemon, ToClient, DataConnect, DataTurn, DataToClient, LoseControl, LoseImage, Cancel, Load, Unplug}
use Rattle.event_world.specs.declared.event.JobEvent.{JobEvent}
use Rattle.event_world.specs.declared.event.JobEvent.TheVariants as events
use Rattle.world_refines.specs.GhostStates.{Ghost, Wires, job_state, ghost_after, wires}
use Rattle.world_refines.specs.NewWorlds.{wires_of}
use Rattle.world_refines.specs.Answering.{AnswersSome}
use Rattle.world_refines.specs.Answering.AnswersSome.{GoesOn, IsOver, BreaksOff, WasOver}
use Rattle.world_refines.specs.ClientDeliveries.{Delivers, GhostHears}
use Rattle.world_refines.specs.GhostEvents.{GhostCan, CanLoad, CanUnplug, GhostConnects, GhostHappens, GhostSends, GhostTakes, HasSomeBytes}
use Rattle.world_refines.specs.MainTheorem.{GhostComes}
use Rattle.world_refines.proofs.job_events.Constant.{Fixed, stays_fixed}
use Rattle.strangers.specs.LeavingJobs.{ghost_behind}
use Rattle.strangers.specs.Together.{JointEvent}
use Rattle.strangers.specs.Together.JointEvent.{OfJobs, OfStranger}
use Rattle.scan_world.proofs.Lists.{all_each, all_then}
use Rattle.scan_world.proofs.Begun.{party_stays}
use Rattle.scan_world.proofs.Joint.{ComesAll, IsOwnUse, uses_stay}
use Rattle.scan_world.proofs.Traced.{ByOf, StepOf, comes_of}

abbrev pub IsOfJob : ℕ → Transition → Type 0
IsOfJob count (By j x) = j < count
IsOfJob count (Loads d page) = Unit {0}
IsOfJob count (Unplugs d) = Unit {0}
IsOfJob count (Uses u d shown left) = count ≤ u

-- nothing ever happened to it
pub record Untouched (t : Ghost) (j : ℕ) : Type 0 where
  pub linked : (job_state t j).linked ≡ false
  pub quiet : (job_state t j).session.transfer ≡ Quiet
  pub no_image : (wires t j).image ≡ None

-- nor to any job that there is not
abbrev pub AreUntouched : Ghost → Type 0
AreUntouched t = (j : ℕ) → (j < t.count → ⊥) → Untouched t j

-- ---- what happens is of a job that there is

next_less : (a b : ℕ) → (a < b) ⊎ (a < b → ⊥) → (suc a < suc b) ⊎ (suc a < suc b → ⊥)
next_less a b (inl h) = inl (omega (arith, h))
next_less a b (inr n) = inr (λ h. n (omega (arith, h)))

less_or_not : (a b : ℕ) → (a < b) ⊎ (a < b → ⊥)
less_or_not zero zero = inr (λ h. omega (arith, h))
less_or_not zero (suc b) = inl (omega arith)
less_or_not (suc a) zero = inr (λ h. omega (arith, h))
less_or_not (suc a) (suc b) = next_less a b (less_or_not a b)

no_link : {b : Bool} → b ≡ true → b ≡ false → ⊥
no_link on off = let clash : true ≡ false = sym on ∙ off in cc

none_some : {X : Type 0} (o : Option X) → o ≡ None → IsSome o → ⊥
none_some None e h = let clash : false ≡ true = h in cc
none_some (Some x) e h = let clash : Some x ≡ None = e in cc

no_can : (t : Ghost) (j : ℕ) (w : JobEvent) → Untouched t j → (j < t.count → ⊥) → GhostCan t j w → ⊥
no_can t j events.Connect u n m = n m.0
no_can t j (events.ToDaemon k) u n m = no_link m.0 u.linked
no_can t j (events.ToClient k) u n m = no_link m.0 u.linked
no_can t j events.DataConnect u n m = let clash : Waiting ≡ Quiet = sym m.0 ∙ u.quiet in cc
no_can t j events.DataTurn u n m = none_some (wires t j).image u.no_image m.0
no_can t j (events.DataToClient k) u n m = subst (λ (o : Option (List ℕ)). HasSomeBytes o) u.no_image m.0
no_can t j events.LoseControl u n m = no_link m u.linked
no_can t j events.LoseImage u n m = none_some (wires t j).image u.no_image m.0
no_can t j events.Cancel u n m = n m.0

can_less : (t : Ghost) (j : ℕ) (w : JobEvent) → AreUntouched t → GhostCan t j w → j < t.count
can_less t j w a m = by_case (less_or_not j t.count)
  where
    by_case : (j < t.count) ⊎ (j < t.count → ⊥) → j < t.count
    by_case (inl h) = h
    by_case (inr n) = absurd (no_can t j w (a j n) n m)

of_job : (count i : ℕ) (w : JobEvent) (x : Transition) → i < count → ByOf i w x → IsOfJob count x
of_job count i w (By j x) less o = subst (λ (n : ℕ). n < count) (sym o.0) less
of_job count i w (Loads d page) less o = tt
of_job count i w (Unplugs d) less o = tt
of_job count i w (Uses u d shown left) less o = absurd o

none_of : (count : ℕ) (steps : List Transition) → steps ≡ [] → AllByRecursion (IsOfJob count) steps
none_of count steps e = subst (λ (xs : List Transition). AllByRecursion (IsOfJob count) xs) (sym e) tt

may_of : (What : Type 0) (w : JobEvent) (i : ℕ) (t : Ghost) (steps : List Transition) (u : Ghost) → AreUntouched t → AllByRecursion (ByOf i w) steps → GhostHappens (GhostCan t i w) What t steps u → AllByRecursion (IsOfJob t.count) steps
may_of What w i t steps u a by h = by_case h.either
  where
    by_case : GhostCan t i w ⊎ (GhostCan t i w → ⊥) → AllByRecursion (IsOfJob t.count) steps
    by_case (inl m) = all_each (ByOf i w) (IsOfJob t.count) steps (λ x o. of_job t.count i w x (can_less t i w a m) o) by
    by_case (inr n) = none_of t.count steps (h.cannot n).0

of_load : (t : Ghost) (name : List ℕ) (source : _) (x : Transition) → StepOf t.infos (Load name source) x → IsOfJob t.count x
of_load t name source (By j x) o = absurd o
of_load t name source (Loads d page) o = tt
of_load t name source (Unplugs d) o = tt
of_load t name source (Uses u d shown left) o = absurd o

of_unplug : (t : Ghost) (name : List ℕ) (x : Transition) → StepOf t.infos (Unplug name) x → IsOfJob t.count x
of_unplug t name (By j x) o = absurd o
of_unplug t name (Loads d page) o = tt
of_unplug t name (Unplugs d) o = tt
of_unplug t name (Uses u d shown left) o = absurd o

jobs_of : (e : Event) (t : Ghost) (steps : List Transition) (u : Ghost) → AreUntouched t → GhostComes source_state e t steps u → AllByRecursion (IsOfJob t.count) steps
jobs_of (Connect i) t steps u a h = may_of _ events.Connect i t steps u a (comes_of (Connect i) t steps u h) h
jobs_of (ToDaemon i n) t steps u a h = may_of _ (events.ToDaemon n) i t steps u a (comes_of (ToDaemon i n) t steps u h) h
jobs_of (ToClient i n) t steps u a h = may_of _ (events.ToClient n) i t steps u a (comes_of (ToClient i n) t steps u h) h
jobs_of (DataConnect i) t steps u a h = may_of _ events.DataConnect i t steps u a (comes_of (DataConnect i) t steps u h) h
jobs_of (DataTurn i) t steps u a h = may_of _ events.DataTurn i t steps u a (comes_of (DataTurn i) t steps u h) h
jobs_of (DataToClient i n) t steps u a h = may_of _ (events.DataToClient n) i t steps u a (comes_of (DataToClient i n) t steps u h) h
jobs_of (LoseControl i) t steps u a h = may_of _ events.LoseControl i t steps u a (comes_of (LoseControl i) t steps u h) h
jobs_of (LoseImage i) t steps u a h = may_of _ events.LoseImage i t steps u a (comes_of (LoseImage i) t steps u h) h
jobs_of (Cancel i) t steps u a h = may_of _ events.Cancel i t steps u a (comes_of (Cancel i) t steps u h) h
jobs_of (Load name source) t steps u a h = all_each (StepOf t.infos (Load name source)) (IsOfJob t.count) steps (of_load t name source) (comes_of (Load name source) t steps u h)
jobs_of (Unplug name) t steps u a h = all_each (StepOf t.infos (Unplug name)) (IsOfJob t.count) steps (of_unplug t name) (comes_of (Unplug name) t steps u h)

-- ---- the other jobs stay

-- behind steps of job i no more than its own bytes, and what its joins were told and gave, are others
pub record Moves (t : Ghost) (i : ℕ) (steps : List Transition) (u : Ghost) : Type 0 where
  pub x : Wires
  pub past : JoinHistory
  pub pages : List JoinHistory
  pub then_is : u ≡ ghost_after t i steps x past pages

moved_by : (t : Ghost) (i : ℕ) (steps : List Transition) (x : Wires) (u : Ghost) → GhostTakes t i steps x u → Moves t i steps u
moved_by t i steps x u h = record { x = x; past = t.history i; pages = t.pages i; then_is = h.then_is }

delivered_by : (t : Ghost) (i n : ℕ) (telling text : List ℕ) (steps : List Transition) (u : Ghost) → Delivers t i n telling text steps u → Moves t i steps u
delivered_by t i n telling text steps u h = record { x = _; past = h.history; pages = t.pages i; then_is = h.then_is }

connected_by : (t : Ghost) (i : ℕ) (steps : List Transition) (u : Ghost) → GhostConnects t i steps u → Moves t i steps u
connected_by t i steps u (inl h) = moved_by t i steps _ u h.1
connected_by t i steps u (inr h) = moved_by t i steps _ u h.1

sent_by : (t : Ghost) (i : ℕ) (this_action : model_actions.Action) (text : List ℕ) (steps : List Transition) (u : Ghost) → GhostSends t i this_action text steps u → Moves t i steps u
sent_by t i this_action text steps u (inl h) = moved_by t i steps _ u h.1
sent_by t i this_action text steps u (inr h) = moved_by t i steps _ u h.1

answered_by : (n : ℕ) (t : Ghost) (i : ℕ) (steps : List Transition) (u : Ghost) → AnswersSome n t i steps u → Moves t i steps u
answered_by n t i steps u (GoesOn asked rest said a b c h on) = moved_by t i steps _ u h
answered_by n t i steps u (IsOver asked rest said a b h was over) = moved_by t i steps _ u h
answered_by n t i steps u (BreaksOff memory asked rest said before a b cut c h) = moved_by t i steps _ u h
answered_by n t i steps u (WasOver a b h) = subst (λ (xs : List Transition). Moves t i xs u) (sym b) (moved_by t i [] _ u h)

heard_by : (n : ℕ) (t : Ghost) (i : ℕ) (steps : List Transition) (u : Ghost) → GhostHears n t i steps u → Moves t i steps u
heard_by n t i steps u (inl h) = moved_by t i steps _ u h.takes
heard_by n t i steps u (inr (under, inl h)) = delivered_by t i n h.telling [] steps u h.delivers
heard_by n t i steps u (inr (under, inr (inl h))) = delivered_by t i n [] h.text steps u h.delivers
heard_by n t i steps u (inr (under, inr (inr (inl h)))) = delivered_by t i n h.telling [] steps u h.delivers
heard_by n t i steps u (inr (under, inr (inr (inr h)))) = delivered_by t i n h.telling h.text steps u h.delivers

others_stay : (i : ℕ) (w : JobEvent) (steps : List Transition) (s : SystemState) (j : ℕ) → eqb j i ≡ false → AllByRecursion (ByOf i w) steps → (after_all s steps).job j ≡ s.job j
others_stay i w [] s j e a = refl
others_stay i w (By k x ∷ steps) s j e a = others_stay i w steps (after_transition s (By k x)) j e a.1 ∙ party_stays s k x j (subst (λ (n : ℕ). eqb j n ≡ false) (sym a.0.0) e)
others_stay i w (Loads d page ∷ steps) s j e a = absurd a.0
others_stay i w (Unplugs d ∷ steps) s j e a = absurd a.0
others_stay i w (Uses u d shown left ∷ steps) s j e a = absurd a.0

untouched_if : (t : Ghost) (i : ℕ) (w : JobEvent) (steps : List Transition) (u : Ghost) (j : ℕ) (b : Bool) → eqb j i ≡ b → i < t.count → (j < t.count → ⊥) → AllByRecursion (ByOf i w) steps → Moves t i steps u → Untouched t j → Untouched u j
untouched_if t i w steps u j true e less n by go old = absurd (n (subst (λ (k : ℕ). k < t.count) (sym (eqb-true j i e)) less))
untouched_if t i w steps u j false e less n by go old =
    let job : job_state u j ≡ job_state t j = ap (λ (g : Ghost). job_state g j) go.then_is ∙ others_stay i w steps t.system j e by in
    let own : wires u j ≡ wires t j = ap (λ (g : Ghost). wires g j) go.then_is ∙ ap (λ (b : Bool). cond b go.x (wires t j)) e in
    record {
      linked = ap (λ (p : JobState). p.linked) job ∙ old.linked;
      quiet = ap (λ (p : JobState). p.session.transfer) job ∙ old.quiet;
      no_image = ap (λ (x : Wires). x.image) own ∙ old.no_image;
    }

stay_by : (What : Type 0) (w : JobEvent) (i : ℕ) (t : Ghost) (steps : List Transition) (u : Ghost) → AreUntouched t → AllByRecursion (ByOf i w) steps → (What → Moves t i steps u) → GhostHappens (GhostCan t i w) What t steps u → AreUntouched u
stay_by What w i t steps u a by done h = by_case h.either
  where
    by_case : GhostCan t i w ⊎ (GhostCan t i w → ⊥) → AreUntouched u
    by_case (inl m) = λ j n.
        let go = done (h.does m) in
        let same : u.count ≡ t.count = ap (λ (g : Ghost). g.count) go.then_is in
        let beyond : j < t.count → ⊥ = λ less. n (subst (λ (k : ℕ). j < k) (sym same) less) in
        untouched_if t i w steps u j (eqb j i) refl (can_less t i w a m) beyond by go (a j beyond)
    by_case (inr n) = subst AreUntouched (sym (h.cannot n).1) a

-- a page is laid in, or a device taken out
abbrev KeepsJobs : Transition → Type 0
KeepsJobs x = (s : SystemState) → (after_transition s x).job ≡ s.job

kept_jobs : (x : Transition) (t : Ghost) (steps : List Transition) (u : Ghost) → KeepsJobs x → steps ≡ x ∷ [] → u ≡ record t { system = after_all t.system steps } → AreUntouched t → AreUntouched u
kept_jobs x t steps u keeps is then_is a =
    let now : u ≡ record t { system = after_transition t.system x } = then_is ∙ ap (λ (xs : List Transition). record t { system = after_all t.system xs }) is in
    subst AreUntouched (sym now) (λ j n.
    let job : (after_transition t.system x).job j ≡ t.system.job j = ap (λ (f : ℕ → JobState). f j) (keeps t.system) in
    record {
      linked = ap (λ (p : JobState). p.linked) job ∙ (a j n).linked;
      quiet = ap (λ (p : JobState). p.session.transfer) job ∙ (a j n).quiet;
      no_image = (a j n).no_image;
    })

keep_by : (May What : Type 0) (t : Ghost) (steps : List Transition) (u : Ghost) → (What → AreUntouched u) → AreUntouched t → GhostHappens May What t steps u → AreUntouched u
keep_by May What t steps u done a h = by_case h.either
  where
    by_case : May ⊎ (May → ⊥) → AreUntouched u
    by_case (inl m) = done (h.does m)
    by_case (inr n) = subst AreUntouched (sym (h.cannot n).1) a

still_untouched : (e : Event) (t : Ghost) (steps : List Transition) (u : Ghost) → AreUntouched t → GhostComes source_state e t steps u → AreUntouched u
still_untouched (Connect i) t steps u a h = stay_by _ events.Connect i t steps u a (comes_of (Connect i) t steps u h) (connected_by t i steps u) h
still_untouched (ToDaemon i n) t steps u a h = stay_by _ (events.ToDaemon n) i t steps u a (comes_of (ToDaemon i n) t steps u h) (answered_by n t i steps u) h
still_untouched (ToClient i n) t steps u a h = stay_by _ (events.ToClient n) i t steps u a (comes_of (ToClient i n) t steps u h) (heard_by n t i steps u) h
still_untouched (DataConnect i) t steps u a h = stay_by _ events.DataConnect i t steps u a (comes_of (DataConnect i) t steps u h) (λ d. moved_by t i steps _ u d.1) h
still_untouched (DataTurn i) t steps u a h = stay_by _ events.DataTurn i t steps u a (comes_of (DataTurn i) t steps u h) (λ d. sent_by t i d.action d.text steps u d.sends) h
still_untouched (DataToClient i n) t steps u a h = stay_by _ (events.DataToClient n) i t steps u a (comes_of (DataToClient i n) t steps u h) (λ d. record { x = _; past = d.history; pages = d.pages; then_is = d.then_is }) h
still_untouched (LoseControl i) t steps u a h = stay_by _ events.LoseControl i t steps u a (comes_of (LoseControl i) t steps u h) (λ d. moved_by t i steps _ u d.1) h
still_untouched (LoseImage i) t steps u a h = stay_by _ events.LoseImage i t steps u a (comes_of (LoseImage i) t steps u h) (λ d. moved_by t i steps _ u d.1) h
still_untouched (Cancel i) t steps u a h = stay_by _ events.Cancel i t steps u a (comes_of (Cancel i) t steps u h) (λ d. moved_by t i steps _ u d.takes) h
still_untouched (Load name source) t steps u a h = keep_by (CanLoad t name) _ t steps u (λ d. kept_jobs (Loads d.place (source_state source).page) t steps u (λ s. refl) d.steps_are d.then_is a) a h
still_untouched (Unplug name) t steps u a h = keep_by (CanUnplug t name) _ t steps u (λ d. kept_jobs (Unplugs d.place) t steps u (λ s. refl) d.steps_are d.then_is a) a h

-- ---- all steps

-- uses by a stranger
uses_beyond : (count n : ℕ) (steps : List Transition) → AllByRecursion (IsOwnUse (count + n)) steps → AllByRecursion (IsOfJob count) steps
uses_beyond count n [] own = tt
uses_beyond count n (By j x ∷ steps) own = absurd own.0
uses_beyond count n (Loads d page ∷ steps) own = absurd own.0
uses_beyond count n (Unplugs d ∷ steps) own = absurd own.0
uses_beyond count n (Uses u d shown left ∷ steps) own = (let same : u ≡ count + n = own.0.0 in omega (arith, same), uses_beyond count n steps own.1)

untouched_behind : (t : Ghost) (i : ℕ) (steps : List Transition) → AllByRecursion (IsOwnUse i) steps → AreUntouched t → AreUntouched (ghost_behind steps t)
untouched_behind t i steps own a j n =
    let job : (after_all t.system steps).job j ≡ t.system.job j = ap (λ (f : ℕ → JobState). f j) (uses_stay i t.system steps own) in
    record {
      linked = ap (λ (p : JobState). p.linked) job ∙ (a j n).linked;
      quiet = ap (λ (p : JobState). p.session.transfer) job ∙ (a j n).quiet;
      no_image = (a j n).no_image;
    }

pub all_of_jobs : (xs : List JointEvent) (t : Ghost) (steps : List Transition) (u : Ghost) → AreUntouched t → ComesAll xs t steps u → AllByRecursion (IsOfJob t.count) steps
all_of_jobs [] t steps u a h = none_of t.count steps h.0
all_of_jobs (OfStranger x ∷ xs) t steps v a (first, more, u, is, (own, then_is), rules, rest) =
    let same : u.count ≡ t.count = ap (λ (g : Ghost). g.count) then_is in
    subst (λ (ys : List Transition). AllByRecursion (IsOfJob t.count) ys) (sym is)
    (all_then (IsOfJob t.count) first more (uses_beyond t.count x.session first own)
    (subst (λ (n : ℕ). AllByRecursion (IsOfJob n) more) same (all_of_jobs xs u more v (subst AreUntouched (sym then_is) (untouched_behind t (t.count + x.session) first own a)) rest)))
all_of_jobs (OfJobs e ∷ es) t steps v a (first, more, u, is, one, rules, rest) =
    let same : u.count ≡ t.count = ap (λ (f : Fixed). f.2) (stays_fixed source_state e t first u one) in
    subst (λ (xs : List Transition). AllByRecursion (IsOfJob t.count) xs) (sym is)
    (all_then (IsOfJob t.count) first more (jobs_of e t first u a one)
    (subst (λ (n : ℕ). AllByRecursion (IsOfJob n) more) same (all_of_jobs es u more v (still_untouched e t first u a one) rest)))

-- at first no data connection stands
pub no_image_at_first : (o : Option Endpoint) → (wires_of o).image ≡ None
no_image_at_first None = refl
no_image_at_first (Some p) = refl
