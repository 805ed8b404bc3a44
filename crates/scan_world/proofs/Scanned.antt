-- The file of a scan, and each finished page of a batch.
use Rattle.std.specs.Prelude.{length, option_map, map, slice_get}
use Rattle.std.proofs.Common.{◌≡◌, ◌∙◌, ℕ, zero, suc, List, [], ◌∷◌, Option, Some, None, refl, sym, ap, subst}
use Rattle.std.specs.List.{position}
use Rattle.std.proofs.lemmas.Option.{get_or_from_slice_get}
use Rattle.page_sources.specs.SourceView.{source_state}
use Rattle.device_api.specs.State.{DeviceState}
use Rattle.sane_fixed.specs.declared.device_info.DeviceInfo.{DeviceInfo}
use Rattle.scan_job.specs.declared.job.Job.{Job}
use Rattle.system_model.specs.Devices.{Make}
use Rattle.system_model.specs.SystemStates.{SystemState, make_for, wanted_place}
use Rattle.system_model.specs.Marks.{MarksLead, device_view}
use Rattle.system_model.specs.MoveRuns.{all_marks}
use Rattle.system_model.specs.Transitions.{Transition, after_all}
use Rattle.event_world.specs.Worlds.{WorldCore}
use Rattle.world_refines.specs.GhostStates.{Ghost, place_or_length, place_named}
use Rattle.world_refines.specs.NewWorlds.{HaveSourcesAt, PageSources, info_of_state, initial_ghost}
use Rattle.world_refines.specs.MainTheorem.{Promises}
use Rattle.world_refines.specs.WorldRefinement.{WorldRefines}
use Rattle.world_refines.proofs.job_events.Beginnings.{as_many}
use Rattle.world_refines.proofs.job_events.Constant.{Fixed, makes_stay}
use Rattle.world_refines.proofs.state.Infos.{is_name, name_here}
use Rattle.strangers.specs.Among.{MayHaveStrangers}
use Rattle.strangers.specs.Together.{AllIsKeptAmongStrangers, JointEvent, KeptAmongStrangers, RunsAmong}
use Rattle.scan_world.specs.Histories.{History, LedTo}
use Rattle.scan_world.proofs.Begun.{wants_all}
use Rattle.scan_world.proofs.Elsewhere.{elsewhere, unnamed}
use Rattle.scan_world.proofs.Joint.{ComesAll, all_fixed_by, joint_comes}
use Rattle.scan_world.proofs.Sources.{sources_of, loads_fit, make_at, have_sources}
use Rattle.scan_world.proofs.Pages.{name_there}
use Rattle.scan_world.proofs.OfJobs.{AreUntouched, no_image_at_first}

-- ---- what all that happened stands for

-- where the sources of the devices are such as these
abbrev pub ghost_by : (h : History) (w : WorldCore) (job : Job) → LedTo h w → (ℕ → PageSources) → Ghost
ghost_by h w job l sources = initial_ghost sources h.jobs (elsewhere h.devices job) h.devices l.first.daemon.users l.first.endpoints

abbrev pub at_first : (h : History) (w : WorldCore) (job : Job) → LedTo h w → Ghost
at_first h w job l = ghost_by h w job l (sources_of h)

-- what came, its steps, and what stands behind them
pub record RunKept (xs : List JointEvent) (t : Ghost) (w : WorldCore) : Type 0 where
  pub ghost_then : Ghost
  pub steps : List Transition
  pub comes : ComesAll xs t steps ghost_then
  pub rules_are : ghost_then.system ≡ after_all t.system steps
  pub marks : (d : ℕ) → MarksLead (device_view (t.system.make d) (t.system.device d)) (all_marks d t.system steps) (device_view (t.system.make d) ((after_all t.system steps).device d))
  pub stands : WorldRefines ghost_then w
  pub may : MayHaveStrangers ghost_then w

pub record KeptAll (xs : List JointEvent) (t : Ghost) (w : WorldCore) : Type 0 where
  pub run : RunKept xs t w
  pub promises : Promises run.ghost_then w

abbrev pub kept_of : (xs : List JointEvent) (t : Ghost) (w v : WorldCore) (run : RunsAmong source_state xs w v) → t.count ≡ length w.endpoints → KeptAmongStrangers source_state xs t w v run → KeptAll xs t v
kept_of xs t w v run count k = record {
  run = record {
    ghost_then = k.all.ghost_then;
    steps = k.all.steps;
    comes = joint_comes xs t w v run k.all.steps k.all.ghost_then count k.all.legal k.all.comes;
    rules_are = k.all.rules_are;
    marks = k.all.marks;
    stands = k.all.stands.refines;
    may = k.all.stands;
  };
  promises = k.promises;
}

abbrev pub kept_by : AllIsKeptAmongStrangers → (h : History) (w : WorldCore) (job : Job) (l : LedTo h w) → KeptAll h.events (at_first h w job l) w
kept_by all h w job l =
    kept_of h.events (at_first h w job l) l.first w l.runs (as_many h.jobs l.first.endpoints l.endpoints)
    (all source_state h.events (sources_of h) h.jobs (elsewhere h.devices job) h.devices l.first w l.endpoints l.daemon l.names l.limits l.fit (unnamed h.devices job) l.loads (have_sources h) (loads_fit h) l.runs)

-- a new world stands so
pub may_first : AllIsKeptAmongStrangers → (h : History) (w : WorldCore) (job : Job) (l : LedTo h w) (sources : ℕ → PageSources) → HaveSourcesAt sources h.devices → MayHaveStrangers (ghost_by h w job l sources) l.first
may_first all h w job l sources haves =
    let k = all source_state [] sources h.jobs (elsewhere h.devices job) h.devices l.first l.first l.endpoints l.daemon l.names l.limits l.fit (unnamed h.devices job) tt haves tt refl in
    subst (λ (t : Ghost). MayHaveStrangers t l.first) k.all.comes.1 k.all.stands

pub untouched_by : (h : History) (w : WorldCore) (job : Job) (l : LedTo h w) (sources : ℕ → PageSources) → AreUntouched (ghost_by h w job l sources)
untouched_by h w job l sources = λ j n. record { linked = refl; quiet = refl; no_image = no_image_at_first (slice_get l.first.endpoints j) }

pub untouched_at_first : (h : History) (w : WorldCore) (job : Job) (l : LedTo h w) → AreUntouched (at_first h w job l)
untouched_at_first h w job l = untouched_by h w job l (sources_of h)

-- ---- the job of a place, and its device

pub job_there : (h : History) (w : WorldCore) (job : Job) (l : LedTo h w) (k : KeptAll h.events (at_first h w job l) w) (i : ℕ) → slice_get h.jobs i ≡ Some job → k.run.ghost_then.jobs i ≡ job
job_there h w job l k i at =
    ap (λ (f : Fixed). f.3 i) (all_fixed_by h.events (at_first h w job l) k.run.steps k.run.ghost_then k.run.comes) ∙ get_or_from_slice_get h.jobs i job (elsewhere h.devices job) at

abbrev pub infos_of : History → List DeviceInfo
infos_of h = map info_of_state h.devices

pub wants_there : (h : History) (w : WorldCore) (job : Job) (l : LedTo h w) (sources : ℕ → PageSources) (i : ℕ) → slice_get h.jobs i ≡ Some job → wanted_place (ghost_by h w job l sources).system i ≡ place_named (infos_of h) job.device
wants_there h w job l sources i at = ap (λ (j : Job). place_named (infos_of h) j.device) (get_or_from_slice_get h.jobs i job (elsewhere h.devices job) at)

pub make_there : (h : History) (w : WorldCore) (job : Job) (l : LedTo h w) (k : KeptAll h.events (at_first h w job l) w) (i : ℕ) → slice_get h.jobs i ≡ Some job → make_for k.run.ghost_then.system i ≡ make_at h (place_named (infos_of h) job.device)
make_there h w job l k i at =
    let t = at_first h w job l in
    let steps = k.run.steps in
    ap (λ (s : SystemState). make_for s i) k.run.rules_are
    ∙ (ap (λ (m : ℕ → Make). m (wanted_place (after_all t.system steps) i)) (makes_stay t.system steps)
    ∙ ap (λ (d : ℕ). make_at h d) (wants_all steps t.system i ∙ wants_there h w job l (sources_of h) i at))

end_none : {X : Type 0} (xs : List X) → slice_get xs (length xs) ≡ None
end_none [] = refl
end_none (x ∷ xs) = end_none xs

mapped : {X Y : Type 0} (f : X → Y) (xs : List X) (k : ℕ) → slice_get (map f xs) k ≡ option_map f (slice_get xs k)
mapped f [] k = refl
mapped f (x ∷ xs) zero = refl
mapped f (x ∷ xs) (suc k) = mapped f xs k

name_by : (h : History) (name : List ℕ) (o : Option ℕ) (device : DeviceState) → position (is_name name) (infos_of h) ≡ o → slice_get h.devices (place_or_length (length (infos_of h)) o) ≡ Some device → device.info.name ≡ name
name_by h name None device e at =
    let there : slice_get (infos_of h) (length (infos_of h)) ≡ Some device.info = mapped info_of_state h.devices (length (infos_of h)) ∙ ap (option_map info_of_state) at in
    absurd (let clash : None ≡ Some device.info = sym (end_none (infos_of h)) ∙ there in cc)
name_by h name (Some j) device e at =
    let both : Some device.info.name ≡ Some name = sym (name_there h.devices j device at) ∙ name_here (infos_of h) name j e in cc

pub name_of : (h : History) (name : List ℕ) (device : DeviceState) → slice_get h.devices (place_named (infos_of h) name) ≡ Some device → device.info.name ≡ name
name_of h name device at = name_by h name (position (is_name name) (infos_of h)) device refl at
