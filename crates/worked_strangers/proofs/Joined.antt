-- Acts at a daemon, and events of its jobs, as one history of jobs and strangers; and what that keeps.
use Rattle.std.specs.Prelude.{All, ◌≢◌, if◌then◌else◌, map}
use Rattle.std.specs.List.{AllByRecursion}
use Rattle.std.proofs.Common.{◌≡◌, ◌∙◌, ℕ, zero, suc, ◌<◌, List, [], ◌∷◌, ◌++◌, Bool, Option, Some, None, false, true, refl, sym, ap, subst, length, slice_get, arith}
use Rattle.page_picture.specs.Page.{PageView}
use Rattle.page_sources.specs.SourceView.{source_state}
use Rattle.sane_fixed.specs.declared.device_info.DeviceInfo.{DeviceInfo}
use Rattle.device_api.specs.ScannerLimits.{HasLimits}
use Rattle.device_api.specs.State.{DeviceState}
use Rattle.dispatch.specs.RegistryFault.{HaveOwnNames}
use Rattle.saned_core.specs.DaemonStates.{Core, is_slot_number, session_slot_of}
use Rattle.saned_core.specs.declared.session_slot.SessionSlot.{SessionSlot}
use Rattle.scan_job.specs.declared.job.Job.{Job}
use Rattle.system_model.specs.Devices.{Make}
use Rattle.event_world.specs.declared.endpoint.Endpoint.{Endpoint}
use Rattle.event_world.specs.declared.event.Event.{Event}
use Rattle.event_world.specs.declared.event.Event.TheVariants.{Load}
use Rattle.event_world.specs.Worlds.{AreNew, IsFitJob, Runs, WorldCore}
use Rattle.world_refines.specs.GhostStates.{Ghost, name_at}
use Rattle.world_refines.specs.MainTheorem.{AreFittingLoads, AreTrueLoads, IsFittingLoad, IsTrueLoad}
use Rattle.world_refines.specs.NewWorlds.{HaveSourcesAt, IsNewDaemon, PageSources, info_of_state, initial_ghost, make_of}
use Rattle.world_refines.specs.WorldRefinement.{IsBelow, IsNobodys}
use Rattle.scan_world.proofs.NextMoves.{LoadsNothing}
use Rattle.strangers.specs.Among.{MayHaveStrangers, StrangerAct}
use Rattle.strangers.specs.Together.{AllIsKeptAmongStrangers, JobsGoOn, JointEvent, KeptAmongStrangers, LaysNoPage, RunsAmong, events_among}
use Rattle.strangers.specs.Together.JointEvent.{OfJobs, OfStranger}
use Rattle.worked_worlds.specs.Worked.{flatbed_with}
use Rattle.worked_strangers.specs.Inside.{ActsAt}
use Rattle.scan_world.specs.Histories.{of_jobs}
use Rattle.worked_strangers.specs.Visits.{of_strangers}

-- ---- one world with these endpoints

abbrev pub world_of : Core → List Endpoint → WorldCore
world_of d endpoints = record { daemon = d; endpoints = endpoints }

-- no endpoint has a session
abbrev pub AreUnlinked : List Endpoint → Type 0
AreUnlinked endpoints = (j : ℕ) (endpoint : Endpoint) → slice_get endpoints j ≡ Some endpoint → endpoint.link ≡ None

pub new_unlinked : (jobs : List Job) (endpoints : List Endpoint) → AreNew jobs endpoints → AreUnlinked endpoints
new_unlinked [] [] new j endpoint at = absurd (let clash : None ≡ Some endpoint = at in cc)
new_unlinked [] (p ∷ endpoints) new j endpoint at = absurd new
new_unlinked (job ∷ jobs) [] new j endpoint at = absurd new
new_unlinked (job ∷ jobs) (p ∷ endpoints) new zero endpoint at = let same : p ≡ endpoint = (let both : Some p ≡ Some endpoint = at in cc) in subst (λ (x : Endpoint). x.link ≡ None) same (ap (λ (x : Endpoint). x.link) new.0.rest)
new_unlinked (job ∷ jobs) (p ∷ endpoints) new (suc j) endpoint at = new_unlinked jobs endpoints new.1 j endpoint at

pub nobodys : (d : Core) (endpoints : List Endpoint) (n : ℕ) → AreUnlinked endpoints → IsNobodys (world_of d endpoints) n
nobodys d endpoints n free j endpoint id at link = absurd (let clash : None ≡ Some id = sym (free j endpoint at) ∙ link in cc)

-- ---- acts and events as joint events

pub acts_run : (acts : List StrangerAct) (d e : Core) (endpoints : List Endpoint) → AreUnlinked endpoints → ActsAt acts d e → RunsAmong source_state (of_strangers acts) (world_of d endpoints) (world_of e endpoints)
acts_run [] d e endpoints free is = ap (λ (c : Core). world_of c endpoints) is
acts_run (a ∷ acts) d e endpoints free (mid, act, rest) = (world_of mid endpoints, record { nobodys = nobodys d endpoints a.session free; acts = act; rest = refl }, acts_run acts mid e endpoints free rest)

pub jobs_run : (es : List Event) (w v : WorldCore) → Runs source_state es w v → RunsAmong source_state (of_jobs es) w v
jobs_run [] w v is = is
jobs_run (e ∷ es) w v (u, leads, rest) = (u, leads, jobs_run es u v rest)

pub runs_join : (xs ys : List JointEvent) (w u v : WorldCore) → RunsAmong source_state xs w u → RunsAmong source_state ys u v → RunsAmong source_state (xs ++ ys) w v
runs_join [] ys w u v is more = subst (λ (x : WorldCore). RunsAmong source_state ys x v) is more
runs_join (OfJobs e ∷ xs) ys w u v (mid, leads, rest) more = (mid, leads, runs_join xs ys mid u v rest more)
runs_join (OfStranger a ∷ xs) ys w u v (mid, act, rest) more = (mid, act, runs_join xs ys mid u v rest more)

-- ---- no page comes to a device

quiet_load : (e : Event) → LoadsNothing e → IsTrueLoad source_state e
quiet_load (Load name source) none = absurd none
quiet_load e none = tt

none_fits : (infos : List DeviceInfo) (make : ℕ → Make) (e : Event) → LoadsNothing e → IsFittingLoad source_state infos make e
none_fits infos make (Load name source) none = absurd none
none_fits infos make e none = tt

lays_none : (e : Event) → LoadsNothing e → LaysNoPage e
lays_none (Load name source) none = absurd none
lays_none e none = tt

pub job_loads : (es : List Event) → AllByRecursion LoadsNothing es → AreTrueLoads source_state (events_among (of_jobs es))
job_loads [] none = tt
job_loads (e ∷ es) none = (quiet_load e none.0, job_loads es none.1)

pub job_fits : (infos : List DeviceInfo) (make : ℕ → Make) (es : List Event) → AllByRecursion LoadsNothing es → AreFittingLoads source_state infos make (events_among (of_jobs es))
job_fits infos make [] none = tt
job_fits infos make (e ∷ es) none = (none_fits infos make e none.0, job_fits infos make es none.1)

pub true_loads : (acts : List StrangerAct) (ys : List JointEvent) → AreTrueLoads source_state (events_among ys) → AreTrueLoads source_state (events_among (of_strangers acts ++ ys))
true_loads [] ys h = h
true_loads (a ∷ acts) ys h = true_loads acts ys h

pub fitting_loads : (infos : List DeviceInfo) (make : ℕ → Make) (acts : List StrangerAct) (ys : List JointEvent) → AreFittingLoads source_state infos make (events_among ys) → AreFittingLoads source_state infos make (events_among (of_strangers acts ++ ys))
fitting_loads infos make [] ys h = h
fitting_loads infos make (a ∷ acts) ys h = fitting_loads infos make acts ys h

-- ---- what is said of this flatbed and this job

-- its source is steady and cannot fail; what is said where there is none matters to nobody
abbrev pub steady_sources : ℕ → PageSources
steady_sources k = record { fallible = false; steady = true }

pub sources_so : (name : List ℕ) (page : PageView) → HaveSourcesAt steady_sources (flatbed_with name page ∷ [])
sources_so name page zero s at = let same : flatbed_with name page ≡ s = (let both : Some (flatbed_with name page) ≡ Some s = at in cc) in subst (λ (x : DeviceState). Rattle.daemon_refines.specs.ContextRefinement.HaveSources (make_of (steady_sources 0) (Some x)) x.pages) same (record { infallible = λ e. refl; steady = λ e. refl }, tt)
sources_so name page (suc k) s at = absurd (let clash : None ≡ Some s = at in cc)

pub own_names : (s : DeviceState) → HaveOwnNames (s ∷ [])
own_names s = (λ k x within. absurd (omega (arith, within)), tt)

-- a job of another name, which stands for those that there are not
abbrev pub other_job : List ℕ → Job → Job
other_job name job = record job { device = 0 ∷ name }

longer : (name : List ℕ) → name ≢ 0 ∷ name
longer name e = let clash : length name ≡ suc (length name) = ap length e in omega (arith, clash)

pub other_unnamed : (name : List ℕ) (page : PageView) (job : Job) (k : ℕ) → name_at (map info_of_state (flatbed_with name page ∷ [])) k ≢ Some (other_job name job).device
other_unnamed name page job zero e = longer name (let both : Some name ≡ Some (0 ∷ name) = e in cc)
other_unnamed name page job (suc k) e = let clash : None ≡ Some (0 ∷ name) = e in cc

pub all_one : {X : Type 0} (P : X → Type 0) (x : X) → P x → All P (x ∷ [])
all_one P x h zero d within = h
all_one P x h (suc k) d within = absurd (omega (arith, within))

-- ---- what is kept of it

abbrev pub ghost_of : List ℕ → PageView → Job → WorldCore → Ghost
ghost_of name page job w = initial_ghost steady_sources (job ∷ []) (other_job name job) (flatbed_with name page ∷ []) w.daemon.users w.endpoints

pub record IsFirst (name : List ℕ) (page : PageView) (job : Job) (w : WorldCore) : Type 0 where
  pub jobs : AreNew (job ∷ []) w.endpoints
  pub devices : IsNewDaemon (flatbed_with name page ∷ []) w.daemon
  pub limits : HasLimits (flatbed_with name page)
  pub fit : All IsFitJob (job ∷ [])

pub kept_by : AllIsKeptAmongStrangers → (name : List ℕ) (page : PageView) (job : Job) (xs : List JointEvent) (w v : WorldCore) → IsFirst name page job w → AreTrueLoads source_state (events_among xs) → ((infos : List DeviceInfo) (make : ℕ → Make) → AreFittingLoads source_state infos make (events_among xs)) → (run : RunsAmong source_state xs w v) → KeptAmongStrangers source_state xs (ghost_of name page job w) w v run
kept_by law name page job xs w v h loads fits run =
    law source_state xs steady_sources (job ∷ []) (other_job name job) (flatbed_with name page ∷ []) w v h.jobs h.devices (own_names (flatbed_with name page)) (all_one HasLimits (flatbed_with name page) h.limits) h.fit
    (other_unnamed name page job) loads (sources_so name page) (fits (map info_of_state (flatbed_with name page ∷ [])) (λ k. make_of (steady_sources k) (slice_get (flatbed_with name page ∷ []) k))) run

-- ---- a stranger stays

abbrev Slots : Type 0
Slots = List (Option (SessionSlot DeviceState))

by_below : (m n : ℕ) (x : Option (SessionSlot DeviceState)) (slots : Slots) (slot : SessionSlot DeviceState) (b : Bool) → (session_slot_of slots n ≡ Some slot → slot.number < m) → IsBelow m x → (if b then x else session_slot_of slots n) ≡ Some slot → slot.number < m
by_below m n x slots slot true later low at = subst (IsBelow m) at low
by_below m n x slots slot false later low at = later at

below_at : (m n : ℕ) (slots : Slots) (slot : SessionSlot DeviceState) → AllByRecursion (IsBelow m) slots → session_slot_of slots n ≡ Some slot → slot.number < m
unfolding session_slot_of
below_at m n [] slot all at = absurd (let clash : None ≡ Some slot = at in cc)
below_at m n (x ∷ slots) slot all at = by_below m n x slots slot (is_slot_number n x) (below_at m n slots slot all.1) all.0 at

pub stays_there : JobsGoOn → (es : List Event) (t : Ghost) (w v : WorldCore) (n : ℕ) (slot : SessionSlot DeviceState) → MayHaveStrangers t w → AllByRecursion LoadsNothing es → Runs source_state es w v → slot.number ≡ n → session_slot_of w.daemon.slots n ≡ Some slot → IsNobodys w n → IsNobodys v n × (session_slot_of v.daemon.slots n ≡ Some slot)
stays_there law [] t w v n slot h none is number at free = (subst (λ (x : WorldCore). IsNobodys x n) (sym is) free, ap (λ (x : WorldCore). session_slot_of x.daemon.slots n) is ∙ at)
stays_there law (e ∷ es) t w v n slot h none (u, leads, rest) number at free =
    let low : slot.number < w.daemon.opened = below_at w.daemon.opened n w.daemon.slots slot h.refines.slots at in
    let g = law source_state e t w u h (quiet_load e none.0) (none_fits t.infos t.system.make e none.0) leads in
    let left = g.strangers (lays_none e none.0) n (omega (arith, low, number)) free in
    stays_there law es g.ghost_then u v n slot g.stands none.1 rest number (left.slot ∙ at) left.nobodys
