-- What comes of jobs and of strangers, one after another: its steps, each of one of the events or a use by a stranger.
use Rattle.std.specs.List.{AllByRecursion}
use Rattle.std.specs.Prelude.{length}
use Rattle.std.proofs.Common.{◌≡◌, ◌∙◌, ℕ, ◌+◌, List, [], ◌∷◌, ◌++◌, inl, inr, refl, sym, ap, subst}
use Rattle.page_sources.specs.SourceView.{source_state}
use Rattle.sane_fixed.specs.declared.device_info.DeviceInfo.{DeviceInfo}
use Rattle.system_model.specs.Marks.{IsMarkOf}
use Rattle.system_model.specs.SystemStates.{SystemState}
use Rattle.system_model.specs.Transitions.{By, IsHistory, Loads, Transition, Unplugs, Uses, after_all, after_transition}
use Rattle.event_world.specs.declared.event.Event.{Event}
use Rattle.event_world.specs.Worlds.{Runs, WorldCore}
use Rattle.world_refines.specs.GhostStates.{Ghost}
use Rattle.world_refines.specs.MainTheorem.{GhostComes}
use Rattle.world_refines.proofs.job_events.Constant.{Fixed, fixed_of, stays_fixed}
use Rattle.strangers.specs.Among.{StrangerAct}
use Rattle.strangers.specs.LeavingJobs.{IsUseOf, ghost_behind}
use Rattle.strangers.specs.Together.{ComesAmong, JointEvent, RunsAmong, events_among}
use Rattle.strangers.specs.Together.JointEvent.{OfJobs, OfStranger}
use Rattle.scan_world.specs.Histories.{of_jobs}
use Rattle.scan_world.proofs.Lists.{In, all_each, all_then}
use Rattle.scan_world.proofs.Traced.{StepOf, comes_of}

-- ---- the events among them

pub in_jobs : (es : List Event) (e : Event) → In (OfJobs e) (of_jobs es) → In e es
in_jobs [] e among = absurd among
in_jobs (x ∷ es) e (inl same) = inl (let both : OfJobs e ≡ OfJobs x = same in cc)
in_jobs (x ∷ es) e (inr among) = inr (in_jobs es e among)

pub no_act_in : (es : List Event) (a : StrangerAct) → In (OfStranger a) (of_jobs es) → ⊥
no_act_in [] a among = absurd among
no_act_in (x ∷ es) a (inl same) = let clash : OfStranger a ≡ OfJobs x = same in cc
no_act_in (x ∷ es) a (inr among) = no_act_in es a among

pub among_events : (xs : List JointEvent) (e : Event) → In (OfJobs e) xs → In e (events_among xs)
among_events [] e among = absurd among
among_events (OfJobs x ∷ xs) e (inl same) = inl (let both : OfJobs e ≡ OfJobs x = same in cc)
among_events (OfJobs x ∷ xs) e (inr among) = inr (among_events xs e among)
among_events (OfStranger a ∷ xs) e (inl same) = absurd (let clash : OfJobs e ≡ OfStranger a = same in cc)
among_events (OfStranger a ∷ xs) e (inr among) = among_events xs e among

pub events_in : (xs : List JointEvent) (e : Event) → In e (events_among xs) → In (OfJobs e) xs
events_in [] e among = absurd among
events_in (OfJobs x ∷ xs) e (inl same) = inl (ap OfJobs same)
events_in (OfJobs x ∷ xs) e (inr among) = inr (events_in xs e among)
events_in (OfStranger a ∷ xs) e among = inr (events_in xs e among)

pub of_jobs_then : (xs ys : List Event) → of_jobs (xs ++ ys) ≡ of_jobs xs ++ of_jobs ys
of_jobs_then [] ys = refl
of_jobs_then (x ∷ xs) ys = ap (λ (l : List JointEvent). OfJobs x ∷ l) (of_jobs_then xs ys)

-- where no stranger acts
pub plain_runs : (xs : List JointEvent) (u v : WorldCore) → ((a : StrangerAct) → In (OfStranger a) xs → ⊥) → RunsAmong source_state xs u v → Runs source_state (events_among xs) u v
plain_runs [] u v none run = run
plain_runs (OfJobs e ∷ xs) u v none (x, first, rest) = (x, first, plain_runs xs x v (λ a among. none a (inr among)) rest)
plain_runs (OfStranger a ∷ xs) u v none run = absurd (none a (inl refl))

-- ---- the steps of one

-- uses by this client, whose marks are his own
abbrev pub IsOwnUse : ℕ → Transition → Type 0
IsOwnUse i (By j x) = ⊥
IsOwnUse i (Loads d page) = ⊥
IsOwnUse i (Unplugs d) = ⊥
IsOwnUse i (Uses j d shown left) = (j ≡ i) × AllByRecursion (IsMarkOf j d) shown

pub own_uses : (i : ℕ) (s : SystemState) (xs : List Transition) → AllByRecursion (IsUseOf i) xs → IsHistory s xs → AllByRecursion (IsOwnUse i) xs
own_uses i s [] his legal = tt
own_uses i s (By j x ∷ xs) his legal = absurd his.0
own_uses i s (Loads d page ∷ xs) his legal = absurd his.0
own_uses i s (Unplugs d ∷ xs) his legal = absurd his.0
own_uses i s (Uses u d shown left ∷ xs) his legal = ((his.0, legal.0.1.own), own_uses i (after_transition s (Uses u d shown left)) xs his.1 legal.1)

-- no job is touched by them
pub uses_stay : (i : ℕ) (s : SystemState) (xs : List Transition) → AllByRecursion (IsOwnUse i) xs → (after_all s xs).job ≡ s.job
uses_stay i s [] own = refl
uses_stay i s (By j x ∷ xs) own = absurd own.0
uses_stay i s (Loads d page ∷ xs) own = absurd own.0
uses_stay i s (Unplugs d ∷ xs) own = absurd own.0
uses_stay i s (Uses u d shown left ∷ xs) own = uses_stay i (after_transition s (Uses u d shown left)) xs own.1

abbrev pub ComesBy : JointEvent → Ghost → List Transition → Ghost → Type 0
ComesBy (OfJobs e) t steps u = GhostComes source_state e t steps u
ComesBy (OfStranger a) t steps u = AllByRecursion (IsOwnUse (t.count + a.session)) steps × (u ≡ ghost_behind steps t)

-- a step of an event of a job, or a use by whoever has no job
abbrev pub JointStep : List DeviceInfo → JointEvent → Transition → Type 0
JointStep infos (OfJobs e) x = StepOf infos e x
JointStep infos (OfStranger a) (By i x) = ⊥
JointStep infos (OfStranger a) (Loads d page) = ⊥
JointStep infos (OfStranger a) (Unplugs d) = ⊥
JointStep infos (OfStranger a) (Uses u d shown left) = AllByRecursion (IsMarkOf u d) shown

own_step : (infos : List DeviceInfo) (a : StrangerAct) (i : ℕ) (x : Transition) → IsOwnUse i x → JointStep infos (OfStranger a) x
own_step infos a i (By j x) own = absurd own
own_step infos a i (Loads d page) own = absurd own
own_step infos a i (Unplugs d) own = absurd own
own_step infos a i (Uses u d shown left) own = own.1

steps_of : (x : JointEvent) (t : Ghost) (steps : List Transition) (u : Ghost) → ComesBy x t steps u → AllByRecursion (JointStep t.infos x) steps
steps_of (OfJobs e) t steps u comes = comes_of e t steps u comes
steps_of (OfStranger a) t steps u comes = all_each (IsOwnUse (t.count + a.session)) (JointStep t.infos (OfStranger a)) steps (own_step t.infos a (t.count + a.session)) comes.0

fixed_by : (x : JointEvent) (t : Ghost) (steps : List Transition) (u : Ghost) → ComesBy x t steps u → fixed_of u ≡ fixed_of t
fixed_by (OfJobs e) t steps u comes = stays_fixed source_state e t steps u comes
fixed_by (OfStranger a) t steps u comes = ap fixed_of comes.1

-- ---- of all

abbrev pub ComesAll : List JointEvent → Ghost → List Transition → Ghost → Type 0
ComesAll [] t steps v = (steps ≡ []) × (v ≡ t)
ComesAll (x ∷ xs) t steps v = (first more : List Transition) × (u : Ghost) × (steps ≡ first ++ more) × ComesBy x t first u
    × (u.system ≡ after_all t.system first) × ComesAll xs u more v

pub all_fixed_by : (xs : List JointEvent) (t : Ghost) (steps : List Transition) (u : Ghost) → ComesAll xs t steps u → fixed_of u ≡ fixed_of t
all_fixed_by [] t steps u h = ap fixed_of h.1
all_fixed_by (x ∷ xs) t steps v (first, more, u, is, one, rules, rest) = all_fixed_by xs u more v rest ∙ fixed_by x t first u one

-- each step is of one of them
pub record IsOfAny (infos : List DeviceInfo) (xs : List JointEvent) (x : Transition) : Type 0 where
  pub event : JointEvent
  pub among : In event xs
  pub is : JointStep infos event x

pub each_of_any : (xs : List JointEvent) (t : Ghost) (steps : List Transition) (u : Ghost) → ComesAll xs t steps u → AllByRecursion (IsOfAny t.infos xs) steps
each_of_any [] t steps u h = subst (λ (ys : List Transition). AllByRecursion (IsOfAny t.infos []) ys) (sym h.0) tt
each_of_any (x ∷ xs) t steps v (first, more, u, is, one, rules, rest) =
    let same : u.infos ≡ t.infos = ap (λ (f : Fixed). f.1) (fixed_by x t first u one) in
    subst (λ (ys : List Transition). AllByRecursion (IsOfAny t.infos (x ∷ xs)) ys) (sym is)
    (all_then (IsOfAny t.infos (x ∷ xs)) first more
    (all_each (JointStep t.infos x) (IsOfAny t.infos (x ∷ xs)) first (λ y o. record { event = x; among = inl refl; is = o }) (steps_of x t first u one))
    (all_each (IsOfAny u.infos xs) (IsOfAny t.infos (x ∷ xs)) more (λ y o. record { event = o.event; among = inr o.among; is = subst (λ (infos : List DeviceInfo). JointStep infos o.event y) same o.is }) (each_of_any xs u more v rest)))

-- ---- as they stand for a run

history_parts : (s : SystemState) (xs ys : List Transition) → IsHistory s (xs ++ ys) → IsHistory s xs × IsHistory (after_all s xs) ys
history_parts s [] ys legal = (tt, legal)
history_parts s (x ∷ xs) ys legal = let more = history_parts (after_transition s x) xs ys legal.1 in ((legal.0, more.0), more.1)

pub joint_comes : (xs : List JointEvent) (t : Ghost) (w v : WorldCore) (run : RunsAmong source_state xs w v) (steps : List Transition) (u : Ghost) → t.count ≡ length w.endpoints → IsHistory t.system steps → ComesAmong source_state xs w v run t steps u → ComesAll xs t steps u
joint_comes [] t w v run steps u count legal comes = comes
joint_comes (OfJobs e ∷ xs) t w v run steps u count legal (first, more, mid, is, one, rules, stands, rest) =
    let parts = history_parts t.system first more (subst (IsHistory t.system) is legal) in
    (first, more, mid, is, one, rules, joint_comes xs mid run.0 v run.2 more u stands.refines.is_of.count (subst (λ (s : SystemState). IsHistory s more) (sym rules) parts.1) rest)
joint_comes (OfStranger a ∷ xs) t w v run steps u count legal (first, more, is, uses, stands, rest) =
    let parts = history_parts t.system first more (subst (IsHistory t.system) is legal) in
    let own = own_uses (length w.endpoints + a.session) t.system first uses parts.0 in
    (first, more, ghost_behind first t, is, (subst (λ (n : ℕ). AllByRecursion (IsOwnUse (n + a.session)) first) (sym count) own, refl), refl, joint_comes xs (ghost_behind first t) run.0 v run.2 more u stands.refines.is_of.count parts.1 rest)
