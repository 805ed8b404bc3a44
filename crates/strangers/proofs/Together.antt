-- Events of jobs and acts of strangers, one after another.
use Rattle.std.specs.Prelude.{position, slice_index_or}
use Rattle.std.proofs.lemmas.List.{length-map}
use Rattle.std.proofs.lemmas.Option.{slice_get_past}
use Rattle.std.proofs.Common.{◌≡◌, ◌≢◌, ◌∙◌, ℕ, zero, suc, ◌+◌, ◌≤◌, ◌<◌, List, [], ◌∷◌, ◌++◌, Bool, true, false, Option, Some, None, refl, sym, ap, subst, map, length, slice_get, arith}
use Rattle.page_picture.specs.Source.{SourceState}
use Rattle.page_sources.specs.declared.kinds.Source.{Source}
use Rattle.sane_fixed.specs.declared.device_info.DeviceInfo.{DeviceInfo}
use Rattle.device_api.specs.State.{DeviceState}
use Rattle.scan_job.specs.declared.job.Job.{Job}
use Rattle.system_model.specs.Devices.{Make}
use Rattle.system_model.specs.SystemStates.{SystemState, device_for}
use Rattle.system_model.specs.Transitions.{IsHistory, Transition, after_all}
use Rattle.system_model.proofs.RunMarks.{histories_legal}
use Rattle.event_world.specs.declared.endpoint.Endpoint.{Endpoint}
use Rattle.event_world.specs.FileInvariant.{AllFilesRepresent}
use Rattle.event_world.specs.Worlds.{AreNew, WorldCore}
use Rattle.event_world.proofs.Events.{stands_run}
use Rattle.event_world.proofs.FilesSay.{none_tells, page_none_tells, short_tells}
use Rattle.saned_core.proofs.DaemonLimits.{limits_new}
use Rattle.daemon_refines.specs.Cores.{fresh_device, fresh_devices}
use Rattle.world_refines.specs.Costs.{Pays}
use Rattle.world_refines.specs.GhostStates.{Ghost, name_at, place_named, place_or_length}
use Rattle.world_refines.specs.MainTheorem.{AreFittingLoads, AreTrueLoads}
use Rattle.world_refines.specs.NewWorlds.{PageSources, info_of_state, initial_ghost}
use Rattle.world_refines.proofs.frames.Paged.{pages_are_meant}
use Rattle.world_refines.proofs.job_events.Beginnings.{as_many, new_worlds_stand}
use Rattle.world_refines.proofs.job_events.Constant.{Fixed, makes_stay, stays_fixed}
use Rattle.world_refines.proofs.job_events.Followed.{ended_named}
use Rattle.world_refines.proofs.moves.Budgets.{new_worlds_pay, none_left, rests_over}
use Rattle.world_refines.proofs.moves.Stuck.{losses_explained, nobody_is_stuck}
use Rattle.world_refines.proofs.promise_proofs.Counted.{batches_are_counted}
use Rattle.world_refines.proofs.promise_proofs.Named.{AllSpared, all_spared}
use Rattle.world_refines.proofs.promise_proofs.PromiseProofs.{outcomes_are_right, scans_are_meant}
use Rattle.world_refines.proofs.promise_proofs.WorldFiles.{new_files}
use Rattle.world_refines.proofs.requests.Closing.{history_then, steps_then}
use Rattle.world_refines.proofs.state.Infos.{is_name, name_here}
use Rattle.world_refines.proofs.state.ListEntries.{within}
use Rattle.strangers.specs.Among.{MayHaveStrangers}
use Rattle.strangers.specs.LeavingJobs.{ghost_behind}
use Rattle.strangers.specs.Together.{AllGoOnTogether, AllIsKeptAmongStrangers, ComesAmong, JointEvent, RunsAmong, events_among}
use Rattle.strangers.specs.Together.JointEvent.{OfJobs, OfStranger}
use Rattle.strangers.proofs.Going.{act_pays, jobs_go, keeps_worlds}

-- what stands behind them, with what the promises need
record Behind (source : Source → SourceState) (xs : List JointEvent) (t : Ghost) (w v : WorldCore) (run : RunsAmong source xs w v) : Type 0 where
  ghost_then : Ghost
  steps : List Transition
  comes : ComesAmong source xs w v run t steps ghost_then
  legal : IsHistory t.system steps
  rules_are : ghost_then.system ≡ after_all t.system steps
  stands : MayHaveStrangers ghost_then v
  pays : Pays t w → Pays ghost_then v
  files : AllFilesRepresent w.endpoints → AllFilesRepresent v.endpoints

-- steps behind steps that led there
legal_then : (s u : SystemState) (xs ys : List Transition) → u ≡ after_all s xs → IsHistory s xs → IsHistory u ys → IsHistory s (xs ++ ys)
legal_then s u xs ys is legal more = history_then s xs ys legal (subst (λ (x : SystemState). IsHistory x ys) is more)

leads_then : (s u v : SystemState) (xs ys : List Transition) → u ≡ after_all s xs → v ≡ after_all u ys → v ≡ after_all s (xs ++ ys)
leads_then s u v xs ys is more = more ∙ (ap (λ (x : SystemState). after_all x ys) is ∙ sym (steps_then s xs ys))

all_behind : (source : Source → SourceState) (xs : List JointEvent) (t : Ghost) (w v : WorldCore) → MayHaveStrangers t w → AreTrueLoads source (events_among xs) → AreFittingLoads source t.infos t.system.make (events_among xs) → (run : RunsAmong source xs w v) → Behind source xs t w v run
all_behind source [] t w v h loads fits run = record {
  ghost_then = t;
  steps = [];
  comes = (refl, refl);
  legal = tt;
  rules_are = refl;
  stands = subst (MayHaveStrangers t) (sym run) h;
  pays = λ pays. subst (Pays t) (sym run) pays;
  files = λ files. subst (λ (x : WorldCore). AllFilesRepresent x.endpoints) (sym run) files;
}
all_behind source (OfJobs e ∷ xs) t w v h loads fits (u, leads, rest) =
    let one = jobs_go source e t w u h loads.0 fits.0 leads in
    let g = one.ghost_then in
    let fixed = stays_fixed source e t one.steps g one.comes in
    let infos : g.infos ≡ t.infos = ap (λ (f : Fixed). f.1) fixed in
    let rules : g.system.make ≡ t.system.make = ap (λ (s : SystemState). s.make) one.rules_are ∙ makes_stay t.system one.steps in
    let later : AreFittingLoads source g.infos g.system.make (events_among xs) =
    subst (λ (i : List DeviceInfo). AreFittingLoads source i g.system.make (events_among xs)) (sym infos) (subst (λ (m : ℕ → Make). AreFittingLoads source t.infos m (events_among xs)) (sym rules) fits.1) in
    let more = all_behind source xs g u v one.stands loads.1 later rest in
    record {
      ghost_then = more.ghost_then;
      steps = one.steps ++ more.steps;
      comes = (one.steps, more.steps, g, refl, one.comes, one.rules_are, one.stands, more.comes);
      legal = legal_then t.system g.system one.steps more.steps one.rules_are one.legal more.legal;
      rules_are = leads_then t.system g.system more.ghost_then.system one.steps more.steps one.rules_are more.rules_are;
      stands = more.stands;
      pays = λ pays. more.pays (one.pays pays);
      files = λ files. more.files (stands_run source (e ∷ []) w u (u, leads, refl) files);
    }
all_behind source (OfStranger a ∷ xs) t w v h loads fits (u, acts, rest) =
    let one = keeps_worlds t w u a.session a.act h acts in
    let g = ghost_behind one.steps t in
    let later : AreFittingLoads source t.infos g.system.make (events_among xs) = subst (λ (m : ℕ → Make). AreFittingLoads source t.infos m (events_among xs)) (sym (makes_stay t.system one.steps)) fits in
    let more = all_behind source xs g u v one.stands loads later rest in
    record {
      ghost_then = more.ghost_then;
      steps = one.steps ++ more.steps;
      comes = (one.steps, more.steps, refl, one.uses, one.stands, more.comes);
      legal = legal_then t.system g.system one.steps more.steps refl one.legal more.legal;
      rules_are = leads_then t.system g.system more.ghost_then.system one.steps more.steps refl more.rules_are;
      stands = more.stands;
      pays = λ pays. more.pays (act_pays t w u a.session h acts.rest one pays);
      files = λ files. more.files (subst AllFilesRepresent (sym acts.rest) files);
    }

pub all_go_on : AllGoOnTogether
all_go_on source xs t w v h loads fits run =
    let b = all_behind source xs t w v h loads fits run in
    record {
      ghost_then = b.ghost_then;
      steps = b.steps;
      comes = b.comes;
      legal = b.legal;
      rules_are = b.rules_are;
      marks = λ d. histories_legal d t.system b.steps h.refines.sound b.legal;
      stands = b.stands;
      pays = b.pays;
    }

-- ---- from a new world on

index_past : {X : Type 0} (xs : List X) (i : ℕ) (d : X) → length xs ≤ i → slice_index_or xs i d ≡ d
index_past [] zero d high = refl
index_past [] (suc i) d high = refl
index_past (x ∷ xs) zero d high = absurd (omega (arith, high))
index_past (x ∷ xs) (suc i) d high = index_past xs i d (omega (arith, high))

-- a name that nothing has is that of the place behind all
unnamed : (infos : List DeviceInfo) (name : List ℕ) → ((k : ℕ) → name_at infos k ≢ Some name) → place_named infos name ≡ length infos
unnamed infos name none = by (position (is_name name) infos) refl
  where
    by : (o : Option ℕ) → position (is_name name) infos ≡ o → place_or_length (length infos) o ≡ length infos
    by None e = refl
    by (Some j) e = absurd (none j (name_here infos name j e))

-- where nothing is
none_there : (devices : List DeviceState) (k : ℕ) → length devices ≤ k → (fresh_devices devices k).listed ≡ false
none_there devices k high = by (slice_get devices k) (slice_get_past devices k high)
  where
    by : (o : Option DeviceState) → o ≡ None → (fresh_device o).listed ≡ false
    by None e = refl
    by (Some s) e = absurd (let clash : Some s ≡ None = e in cc)

new_nowhere : (sources : ℕ → PageSources) (jobs : List Job) (other : Job) (devices : List DeviceState) (w : WorldCore) → AreNew jobs w.endpoints → ((k : ℕ) → name_at (map info_of_state devices) k ≢ Some other.device) → (i : ℕ) → length w.endpoints ≤ i →
    (device_for (initial_ghost sources jobs other devices w.daemon.users w.endpoints).system i).listed ≡ false
new_nowhere sources jobs other devices w new unnamed_other i high =
    let infos = map info_of_state devices in
    let many : length jobs ≡ length w.endpoints = as_many jobs w.endpoints new in
    let job : slice_index_or jobs i other ≡ other = index_past jobs i other (omega (arith, many, high)) in
    let place : place_named infos (slice_index_or jobs i other).device ≡ length infos = ap (λ (j : Job). place_named infos j.device) job ∙ unnamed infos other.device unnamed_other in
    let size : length infos ≡ length devices = length-map devices info_of_state in
    subst (λ (k : ℕ). (fresh_devices devices k).listed ≡ false) (sym place) (none_there devices (length infos) (omega (arith, size)))

pub all_kept : AllIsKeptAmongStrangers
all_kept source xs sources jobs other devices w v new daemon names limits fit unnamed_other loads only fits run =
    let t = initial_ghost sources jobs other devices w.daemon.users w.endpoints in
    let begins : MayHaveStrangers t w = record { refines = new_worlds_stand sources jobs other devices w new daemon names limits only fit; limits = limits_new w.daemon daemon.slots; nowhere = new_nowhere sources jobs other devices w new unnamed_other } in
    let b = all_behind source xs t w v begins loads fits run in
    let u = b.ghost_then in
    let stands = b.stands.refines in
    let pays = b.pays (new_worlds_pay sources jobs other devices w new fit) in
    let files = b.files (new_files jobs w.endpoints fit new) in
    let spared : AllSpared u.system = subst AllSpared (sym b.rules_are) (all_spared t.system b.steps b.legal (λ i none. none)) in
    record {
      all = record {
        ghost_then = u;
        steps = b.steps;
        comes = b.comes;
        legal = b.legal;
        rules_are = b.rules_are;
        marks = λ d. histories_legal d t.system b.steps begins.refines.sound b.legal;
        stands = b.stands;
        pays = b.pays;
      };
      promises = record {
        outcomes = λ i endpoint at. outcomes_are_right u v i endpoint stands at;
        statuses = λ i endpoint status why at e. ended_named u v i endpoint status why stands at spared e;
        short = λ i endpoint file at undone file_is whole. short_tells endpoint file (files i endpoint at) undone file_is whole;
        starved = λ i endpoint at none. none_tells endpoint (files i endpoint at) none;
        pages_lost = λ i k endpoint at positive most few none. page_none_tells endpoint k (files i endpoint at) positive most few none;
        scans = λ i endpoint reports file at task done file_is. scans_are_meant u v i endpoint reports file stands at task done file_is;
        batches = λ i count endpoint reports at task done. batches_are_counted u v i count endpoint reports stands (subst (λ (n : ℕ). i < n) (sym stands.is_of.count) (within v.endpoints i endpoint at)) at task done;
        moves = λ i endpoint event at next. nobody_is_stuck u v i endpoint event stands at next;
        losses = λ i endpoint at next. losses_explained u v i endpoint stands at next;
        left = λ i endpoint at none. none_left u v i endpoint stands pays at none;
        rests = λ i endpoint at rests. rests_over u v i endpoint stands pays at rests;
        pages = λ i k endpoint file at low file_is. pages_are_meant u v i k endpoint file stands at low file_is;
      };
    }
