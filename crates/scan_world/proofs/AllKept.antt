-- All that is promised of a job, call by call.
use Rattle.std.specs.Prelude.{option_and_then, option_map, slice_get, slice_index_or, ◌<◌, ◌≤◌, ◌-◌, ◌==◌, ◌||◌, nat_lt, if◌then◌else◌, cond, map}
use Rattle.std.specs.Prelude.{min}
use Rattle.std.proofs.Math.Nat.{le-min, min-eq_left, min-le_left, min-le_right}
use Rattle.std.proofs.lemmas.Option.{get_or_from_slice_get, slice_get_within}
use Rattle.event_world.specs.declared.event.Event.{Event}
use Rattle.event_world.specs.JobMoves.{IsNextMove}
use Rattle.std.proofs.Common.{◌≡◌, ◌∙◌, ◌⊎◌, ◌≢◌, ℕ, zero, suc, List, [], ◌∷◌, Bool, true, false, Option, Some, None, inl, inr, refl, sym, ap, subst, arith}
use Rattle.netpbm.specs.NoFile.{HoldsNoFile}
use Rattle.scan_job.specs.declared.job.Job.{Job}
use Rattle.scan_job.specs.declared.job.Task.TheVariants as tasks
use Rattle.scan_job.specs.JobSize.{HasCount}
use Rattle.scan_job.specs.declared.outcome.Outcome.{Outcome}
use Rattle.scan_job.specs.declared.outcome.Outcome.TheVariants.{Running, Done, Ended}
use Rattle.scan_job.specs.declared.report.Reports.{Reports}
use Rattle.client_replies.specs.ProtocolStates.{is_running, HistoryFits, FitsDone}
use Rattle.event_world.specs.JobEvents.{is_done}
use Rattle.event_world.specs.JobMoves.{moves_left_of}
use Rattle.event_world.specs.Endpoints.{finished_page}
use Rattle.event_world.specs.declared.endpoint.Endpoint.{Endpoint}
use Rattle.event_world.specs.Worlds.{IsFitJob, WorldCore}
use Rattle.scan_world.specs.Histories.{History, history_up_to}
use Rattle.scan_world.specs.Page.{IsScan, IsSteady, Settled}
use Rattle.scan_world.specs.Endings.{HadNoPage}
use Rattle.scan_world.specs.Promise.{CountIsKept, FileIsKept, MoveIsKept, MovesAreKept, OutcomeIsKept, PageIsKept}
use Rattle.scan_world.specs.Laws.{Below}
use Rattle.scan_world.proofs.Sources.{sources_of}
use Rattle.scan_world.proofs.Jobs.{IsJob}
use Rattle.scan_world.proofs.Joint.{all_fixed_by}
use Rattle.scan_world.proofs.Scanned.{KeptAll, at_first, infos_of, job_there, kept_by, make_there, name_of}
use Rattle.scan_world.proofs.moments.Filed.{counted_there, job_of, page_right, scan_right}
use Rattle.scan_world.proofs.moments.Opened.{IsOpened, was_opened}
use Rattle.std.specs.Prelude.{Ok, Err}
use Rattle.md5_auth.specs.declared.users.Entry.{Entry}
use Rattle.sane_fixed.specs.declared.device_info.DeviceInfo.{DeviceInfo}
use Rattle.page_picture.specs.Shows.{Frame}
use Rattle.frame_join.specs.declared.join_stage.JoinFault.{JoinFault}
use Rattle.frame_join.specs.FrameHistory.{IsJoined, JoinHistory, answer_by, is_joined}
use Rattle.frame_join.specs.JoinStates.{JoinState, Represents as JoinStands}
use Rattle.frame_join.proofs.EndSteps.{holds_no_file}
use Rattle.frame_join.proofs.StreamLaws.{nothing_holds_none}
use Rattle.scan_job.specs.declared.job.Task.{Task}
use Rattle.client_replies.specs.declared.progress.JobTarget.{JobTarget}
use Rattle.event_world.specs.FileDraining.{HasFiles, KeepsFile}
use Rattle.system_model.specs.Client.{AbstractJob as RuledJob}
use Rattle.world_refines.specs.WorldRefinement.{KeepsFiles, is_laid}
use Rattle.world_refines.proofs.job_events.Constant.{Fixed}
use Rattle.scan_world.proofs.InTime.{end_file, end_job, end_outcome, end_there, explained_in_time, scan_on, steady_on}
use Rattle.scan_world.proofs.Ended.{comes_there, first_here, laws_of, steps_of_one}
use Rattle.scan_world.proofs.moments.Listed.{list_kept}
use Rattle.scan_world.proofs.moments.Unfiled.{empty_file}
use Rattle.client_replies.specs.ProtocolStates.{scans}
use Rattle.device_api.specs.State.{DeviceState}
use Rattle.device_api.specs.Values.{defaults}
use Rattle.client_refines.specs.ClientRefinement.{requested_setting, task_of}
use Rattle.system_model.specs.Devices.{Make, descriptors_in_force, readable_value}
use Rattle.system_model.specs.AbstractInForce as ruled
use Rattle.system_model.specs.Client as model
use Rattle.system_model.specs.SystemStates.{SystemState, make_for}
use Rattle.scan_frames.specs.declared.setup.Setup.{Setup}
use Rattle.device_api.specs.InForce.{Placement}
use Rattle.world_refines.specs.NewWorlds.{make_of}
use Rattle.world_refines.specs.GhostStates.{Ghost, job_state, place_named, abstract_job}
use Rattle.world_refines.specs.WorldPromises.{IsOutcome, KeepsPromise}
use Rattle.scan_world.specs.Reports.{AreOptionsShown, AreSettingsReported}
use Rattle.scan_world.specs.Settings.{AreSettingsPut}
use Rattle.scan_world.proofs.Shown.{all_shown}
use Rattle.scan_world.proofs.Along.{forced_there}
use Rattle.scan_world.proofs.Nearest.{nearest_for}
use Rattle.scan_world.proofs.Lists.{contains_at}
use Rattle.scan_world.proofs.Reported.{answered}

-- ---- a finished page, by its number from 1

there_by : (xs : List (Option (List ℕ))) (k : ℕ) (file : List ℕ) → slice_index_or xs k None ≡ Some file → slice_get xs k ≡ Some (Some file)
there_by [] k file e = absurd (let clash : None ≡ Some file = e in cc)
there_by (x ∷ xs) zero file e = ap (λ (y : Option (List ℕ)). Some y) e
there_by (x ∷ xs) (suc k) file e = there_by xs k file e

page_if : (p : Endpoint) (k : ℕ) (file : List ℕ) (a b c : Bool) → (k == 0) ≡ a → nat_lt p.finished k ≡ b → nat_lt 16 k ≡ c → (if (a || b) || c then None else slice_index_or p.pages (k - 1) None) ≡ Some file → (slice_index_or p.pages (k - 1) None ≡ Some file) × (a ≡ false) × (b ≡ false) × (c ≡ false)
page_if p k file true b c x y z e = absurd (let clash : None ≡ Some file = e in cc)
page_if p k file false true c x y z e = absurd (let clash : None ≡ Some file = e in cc)
page_if p k file false false true x y z e = absurd (let clash : None ≡ Some file = e in cc)
page_if p k file false false false x y z e = (e, refl, refl, refl)

low : (k n : ℕ) → (k == 0) ≡ false → nat_lt n k ≡ false → k - 1 < n
low zero n a b = absurd (let clash : true ≡ false = a in cc)
low (suc k) n a b = grind arith

some_of : (k : ℕ) → (k == 0) ≡ false → 0 < k
some_of zero a = absurd (let clash : true ≡ false = a in cc)
some_of (suc k) a = omega arith

most_of : (k n : ℕ) → nat_lt n k ≡ false → k ≤ n
most_of k n b = grind arith

pub record IsPageOf (p : Endpoint) (k : ℕ) (file : List ℕ) : Type 0 where
  pub some : 0 < k
  pub low : k - 1 < p.finished
  pub finished : k ≤ min p.finished 16
  pub at : slice_get p.pages (k - 1) ≡ Some (Some file)

pub page_there : (p : Endpoint) (k : ℕ) (file : List ℕ) → finished_page p k ≡ Some file → IsPageOf p k file
page_there p k file e =
    let is = page_if p k file (k == 0) (nat_lt p.finished k) (nat_lt 16 k) refl refl refl e in
    record { some = some_of k is.1; low = low k p.finished is.1 is.2; finished = le-min (most_of k p.finished is.2) (most_of k 16 is.3); at = there_by p.pages (k - 1) file is.0 }

-- ---- by its outcome

runs_not : (o : Outcome) → (o ≡ Running → ⊥) → is_running o ≡ false
runs_not Running n = absurd (n refl)
runs_not (Done reports) n = refl
runs_not (Ended status why) n = refl

none_left : (p : Endpoint) (b : Bool) → is_running p.client.outcome ≡ b → b ≡ false → moves_left_of p ≡ 0
none_left p b e n = ap (λ (x : Bool). cond x p.budget 0) (e ∙ n)

positive : (n : ℕ) → (n ≡ 0 → ⊥) → 0 < n
positive zero h = absurd (h refl)
positive (suc n) h = omega arith

counted : (X : ℕ → Type 0) (n count : ℕ) → count ≤ 16 → (n ≡ count) ⊎ ((0 < n) × (n < count) × X n) → (min n 16 ≡ count) ⊎ ((0 < min n 16) × (min n 16 < count) × X (min n 16))
counted X n count most (inl e) = inl (min-eq_left (subst (λ (x : ℕ). x ≤ 16) (sym e) most) ∙ e)
counted X n count most (inr e) = let same : min n 16 ≡ n = min-eq_left (omega (arith, e.1, most)) in inr (subst (λ (x : ℕ). 0 < x) (sym same) e.0, subst (λ (x : ℕ). x < count) (sym same) e.1, subst X (sym same) e.2)

most_pages : (task : Task) (count : ℕ) → task ≡ tasks.Batch count → HasCount task → count ≤ 16
most_pages task count e fit = (subst HasCount e fit).1

kept_by_outcome : (u : Ghost) (i : ℕ) (o : Outcome) (reports : Reports) → o ≡ Done reports → IsOutcome u i o → KeepsPromise u i reports
kept_by_outcome u i o reports e h = subst (IsOutcome u i) e h

-- ---- its device

list_only : (task : Task) → task_of task ≡ model.List_ → task ≡ tasks.List
list_only tasks.List e = refl
list_only tasks.Show e = absurd (let clash : model.Show ≡ model.List_ = e in cc)
list_only tasks.SetOnly e = absurd (let clash : model.SetOnly ≡ model.List_ = e in cc)
list_only tasks.Scan e = absurd (let clash : model.Scan ≡ model.List_ = e in cc)
list_only (tasks.Batch count) e = absurd (let clash : model.Batch (count - 1) ≡ model.List_ = e in cc)

-- a job that is done, and is no list, was opened
opened_there : Below → (h : History) (w : WorldCore) (i : ℕ) (job : Job) (endpoint : Endpoint) (reports : Reports) → IsJob h w i job endpoint → endpoint.client.outcome ≡ Done reports → job.task ≢ tasks.List → IsOpened h w i job
opened_there below h w i job endpoint reports j done list =
    let k = comes_there below h w job j.led in
    let t = at_first h w job j.led in
    let u = k.ghost_then in
    let promise : KeepsPromise u i reports = subst (IsOutcome u i) done (below.outcomes u w i endpoint k.stands j.endpoint_at) in
    let task : (job_state u i).session.job.task ≡ task_of job.task = ap (λ (x : RuledJob). x.task) (k.stands.endpoints i endpoint j.endpoint_at).job_is ∙ ap (λ (x : Job). task_of x.task) (job_of h w job j.led (sources_of h) k i j.job_at) in
    was_opened (laws_of below) h w i job k.steps t.system (first_here below h w i job j.led j.job_at) (steps_of_one below h w job j.led) k.answered k.legal (tt, tt)
    (subst (λ (s : SystemState). (s.job i).client.stage ≡ model.Done) k.rules_are promise.stage)
    (λ same. list (list_only job.task (sym task ∙ subst (λ (s : SystemState). (s.job i).session.job.task ≡ model.List_) (sym k.rules_are) same)))

-- the device that its settings are put on
pub record OnDevice (h : History) (job : Job) : Type 0 where
  pub device : DeviceState
  pub at : slice_get h.devices (place_named (infos_of h) job.device) ≡ Some device

settled_on : (h : History) (job : Job) (on : OnDevice h job) (setup : Setup) (placed : List Placement) → AreSettingsPut (defaults on.device.setup.scene.kind on.device.setup.order) job.settings.items placed setup → Settled h job
settled_on h job on setup placed forced = record {
  device = on.device;
  is_there = contains_at h.devices (place_named (infos_of h) job.device) on.device on.at;
  named = name_of h job.device on.device on.at;
  setup = setup;
  placed = placed;
  in_force = forced;
}

settings_kept : Below → (h : History) (w : WorldCore) (i : ℕ) (job : Job) (endpoint : Endpoint) (reports : Reports) → IsJob h w i job endpoint → endpoint.client.outcome ≡ Done reports → job.task ≢ tasks.List → OnDevice h job → (s : Settled h job) × AreSettingsReported job.settings.items s.placed reports.settings
unfolding settled_on
settings_kept below h w i job endpoint reports j done list on =
    let device = on.device in
    let k = kept_by below.kept h w job j.led in
    let u = k.run.ghost_then in
    let mine = job_there h w job j.led k i j.job_at in
    let p = kept_by_outcome u i endpoint.client.outcome reports done (k.promises.outcomes i endpoint j.endpoint_at) in
    let s = p.settings (λ e. list (sym (ap (λ (x : Job). x.task) mine) ∙ e)) in
    let b = sources_of h (place_named (infos_of h) job.device) in
    let make : make_for u.system i ≡ make_of b (Some device) = make_there h w job j.led k i j.job_at ∙ ap (make_of b) (on.at) in
    let forced : ruled.abstract_in_force (make_of b (Some device)) (map requested_setting job.settings.items) ≡ Some (record { options = s.options; reports = s.reports }) =
    subst (λ (x : Job). ruled.abstract_in_force (make_of b (Some device)) (map requested_setting x.settings.items) ≡ Some (record { options = s.options; reports = s.reports })) mine
    (subst (λ (m : Make). ruled.abstract_in_force m (map requested_setting (u.jobs i).settings.items) ≡ Some (record { options = s.options; reports = s.reports })) make s.forced) in
    let each : ruled.AreAnswered (make_of b (Some device)) (map requested_setting job.settings.items) s.reports =
    subst (λ (x : Job). ruled.AreAnswered (make_of b (Some device)) (map requested_setting x.settings.items) s.reports) mine
    (subst (λ (m : Make). ruled.AreAnswered m (map requested_setting (u.jobs i).settings.items) s.reports) make s.answered) in
    let r = answered b device job s.options s.reports reports.settings forced s.are each in
    (settled_on h job on r.0.0 r.0.1 r.1, r.2)

-- the job of its session by the model
ruled_there : Below → (h : History) (w : WorldCore) (i : ℕ) (job : Job) (endpoint : Endpoint) (j : IsJob h w i job endpoint) → (k : KeptAll h.events (at_first h w job j.led) w) → (job_state k.run.ghost_then i).session.job ≡ abstract_job h.users (infos_of h) job
ruled_there below h w i job endpoint j k =
    let u = k.run.ghost_then in
    let fixed = all_fixed_by h.events (at_first h w job j.led) k.run.steps u k.run.comes in
    let users : u.users ≡ h.users = ap (λ (f : Fixed). f.0) fixed ∙ j.led.users_are in
    let infos : u.infos ≡ infos_of h = ap (λ (f : Fixed). f.1) fixed in
    (k.run.stands.endpoints i endpoint j.endpoint_at).job_is
    ∙ (ap (λ (x : List Entry). abstract_job x u.infos (u.jobs i)) users
    ∙ (ap (λ (x : List DeviceInfo). abstract_job h.users x (u.jobs i)) infos
    ∙ ap (λ (x : Job). abstract_job h.users (infos_of h) x) (job_there h w job j.led k i j.job_at)))

shown_kept : Below → (h : History) (w : WorldCore) (i : ℕ) (job : Job) (endpoint : Endpoint) (reports : Reports) → IsJob h w i job endpoint → endpoint.client.outcome ≡ Done reports → job.task ≡ tasks.Show → OnDevice h job → (s : Settled h job) × AreOptionsShown s.setup reports.options
unfolding descriptors_in_force readable_value kept_by_outcome ruled_there settled_on
shown_kept below h w i job endpoint reports j done show on =
    let device = on.device in
    let k = kept_by below.kept h w job j.led in
    let u = k.run.ghost_then in
    let p = kept_by_outcome u i endpoint.client.outcome reports done (k.promises.outcomes i endpoint j.endpoint_at) in
    let s = p.options (ap (λ (x : Job). x.task) (job_there h w job j.led k i j.job_at) ∙ show) in
    let b = sources_of h (place_named (infos_of h) job.device) in
    let make : make_for u.system i ≡ make_of b (Some device) = make_there h w job j.led k i j.job_at ∙ ap (make_of b) (on.at) in
    let made : ruled.SettingsResult = record { options = s.in_force; reports = (job_state u i).client.reports } in
    let forced : ruled.abstract_in_force (make_of b (Some device)) (map requested_setting job.settings.items) ≡ Some made =
    subst (λ (m : Make). ruled.abstract_in_force m (map requested_setting job.settings.items) ≡ Some made) make
    (ap (λ (x : RuledJob). ruled.abstract_in_force (make_for u.system i) x.settings) (sym (ruled_there below h w i job endpoint j k)) ∙ s.settled.forced) in
    let put = nearest_for device.setup.scene.kind device.setup.order job.settings.items s.in_force (sym (forced_there below.same (make_of b (Some device)) job) ∙ ap (option_map (λ (x : ruled.SettingsResult). x.options)) forced) in
    (settled_on h job on s.in_force put.0 put.1, all_shown s.in_force reports.options s.filled)

-- ---- the file of a job that is no scan

joined_is : (fault : Option JoinFault) (under : Option Frame) (ended : List Frame) → answer_by fault under ended ≡ Ok true → is_joined ended ≡ true
joined_is (Some fault) under ended e = absurd (let clash : Err fault ≡ Ok true = e in cc)
joined_is None (Some f) ended e = absurd (let same : false ≡ true = (let both : Ok false ≡ Ok true = e in cc) in cc)
joined_is None None ended e = let both : Ok (is_joined ended) ≡ Ok true = e in cc

given_not : (past : JoinHistory) (v : JoinState) (pages : List JoinHistory) (endpoint : Endpoint) (file : List ℕ) → JoinStands past v → (IsJoined past → ⊥) → HasFiles past.given pages endpoint → endpoint.file ≡ Some file → HoldsNoFile file
given_not past v pages endpoint file stands un files is =
    let same : file ≡ past.given = subst (λ (x : Option (List ℕ)). KeepsFile endpoint.out_of_memory past.given x) is files.file in
    subst HoldsNoFile (sym same) (holds_no_file past v stands (λ joined. absurd (un joined)))

laid_not : (past : JoinHistory) (v : JoinState) (pages : List JoinHistory) (endpoint : Endpoint) (file : List ℕ) (b : Bool) → is_joined past.ended ≡ b → JoinStands past v → KeepsFiles b past pages endpoint → endpoint.file ≡ Some file → HoldsNoFile file
laid_not past v pages endpoint file true e stands files is =
    let same : file ≡ [] = subst (λ (x : Option (List ℕ)). KeepsFile endpoint.out_of_memory [] x) is files.file in
    subst HoldsNoFile (sym same) nothing_holds_none
laid_not past v pages endpoint file false e stands files is =
    given_not past v pages endpoint file stands (λ joined. let clash : false ≡ true = sym e ∙ joined_is past.fault past.under past.ended joined in absurd (cc)) files is

by_task : (task : Task) (past : JoinHistory) (v : JoinState) (pages : List JoinHistory) (endpoint : Endpoint) (reports : Reports) (file : List ℕ) → task ≢ tasks.Scan → JoinStands past v → FitsDone task past → KeepsFiles (is_laid task (Done reports) past) past pages endpoint → endpoint.file ≡ Some file → HoldsNoFile file
by_task tasks.List past v pages endpoint reports file unlike stands fits files is = given_not past v pages endpoint file stands fits files is
by_task tasks.Show past v pages endpoint reports file unlike stands fits files is = given_not past v pages endpoint file stands fits files is
by_task tasks.SetOnly past v pages endpoint reports file unlike stands fits files is = given_not past v pages endpoint file stands fits files is
by_task tasks.Scan past v pages endpoint reports file unlike stands fits files is = absurd (unlike refl)
by_task (tasks.Batch count) past v pages endpoint reports file unlike stands fits files is = laid_not past v pages endpoint file (is_joined past.ended) refl stands files is

no_scan : Below → (h : History) (w : WorldCore) (i : ℕ) (job : Job) (endpoint : Endpoint) (reports : Reports) (file : List ℕ) → IsJob h w i job endpoint → endpoint.client.outcome ≡ Done reports → job.task ≢ tasks.Scan → endpoint.file ≡ Some file → HoldsNoFile file
no_scan below h w i job endpoint reports file j done scan is =
    let k = kept_by below.kept h w job j.led in
    let u = k.run.ghost_then in
    let mine = job_there h w job j.led k i j.job_at in
    let exchanges = (k.run.stands.endpoints i endpoint j.endpoint_at).exchanges in
    let past = u.history i in
    let fits : HistoryFits (u.jobs i).task (Done reports) endpoint.client.progress past =
    subst (λ (o : Outcome). HistoryFits (u.jobs i).task o endpoint.client.progress past) done (subst (λ (e : JobTarget). HistoryFits e.task endpoint.client.outcome endpoint.client.progress past) exchanges.target exchanges.serves.fits) in
    let files : KeepsFiles (is_laid (u.jobs i).task (Done reports) past) past (u.pages i) endpoint = subst (λ (o : Outcome). KeepsFiles (is_laid (u.jobs i).task o past) past (u.pages i) endpoint) done exchanges.files in
    by_task (u.jobs i).task past endpoint.client.join (u.pages i) endpoint reports file (λ e. scan (sym (ap (λ (x : Job). x.task) mine) ∙ e)) exchanges.serves.stands fits files is

-- ---- call by call

on_device : (h : History) (w : WorldCore) (i : ℕ) (job : Job) → IsOpened h w i job → OnDevice h job
on_device h w i job o = record { device = o.1.0; at = o.1.1 }

shows_not : (task : Task) → task ≡ tasks.Show → task ≢ tasks.List
shows_not task show list = let clash : tasks.Show ≡ tasks.List = sym show ∙ list in cc

pub outcome_kept : Below → (h : History) (w : WorldCore) (i : ℕ) (job : Job) (p : Endpoint) → IsJob h w i job p → OutcomeIsKept h w i job p.out_of_memory p.client.outcome
outcome_kept below h w i job p j = record {
  done = λ reports e. record {
    opened = λ list. (opened_there below h w i job p reports j e list).0;
    answered = λ list. settings_kept below h w i job p reports j e list (on_device h w i job (opened_there below h w i job p reports j e list));
    shown = λ show. shown_kept below h w i job p reports j e show (on_device h w i job (opened_there below h w i job p reports j e (shows_not job.task show)));
    listed = λ list. list_kept below h w i job p reports j list e;
  };
  ended = λ status why e.
      let s = (kept_by below.kept h w job j.led).promises.statuses i p status why j.endpoint_at e in
      (s.0, s.1, explained_in_time below h w i job p status why j e);
}

-- what no other job's file is
whole_as : (o : Outcome) (task : Task) → (is_done o ≡ false → ⊥) → ((reports : Reports) → o ≡ Done reports → task ≢ tasks.Scan → ⊥) → (reports : Reports) × (task ≡ tasks.Scan) × (o ≡ Done reports)
whole_as Running task undone other = absurd (undone refl)
whole_as (Ended status why) task undone other = absurd (undone refl)
whole_as (Done reports) tasks.Scan undone other = (reports, refl, refl)
whole_as (Done reports) tasks.List undone other = absurd (other reports refl (λ e. let clash : tasks.List ≡ tasks.Scan = e in cc))
whole_as (Done reports) tasks.Show undone other = absurd (other reports refl (λ e. let clash : tasks.Show ≡ tasks.Scan = e in cc))
whole_as (Done reports) tasks.SetOnly undone other = absurd (other reports refl (λ e. let clash : tasks.SetOnly ≡ tasks.Scan = e in cc))
whole_as (Done reports) (tasks.Batch count) undone other = absurd (other reports refl (λ e. let clash : tasks.Batch count ≡ tasks.Scan = e in cc))

task_there : Below → (h : History) (w : WorldCore) (i : ℕ) (job : Job) (p : Endpoint) → IsJob h w i job p → p.task ≡ job.task
task_there below h w i job p j =
    let k = kept_by below.kept h w job j.led in
    (k.run.stands.endpoints i p j.endpoint_at).exchanges.task ∙ ap (λ (x : Job). x.task) (job_there h w job j.led k i j.job_at)

scan_kept : Below → (h : History) (w : WorldCore) (i : ℕ) (job : Job) (p : Endpoint) (reports : Reports) (file : List ℕ) → IsJob h w i job p → IsSteady h w i job.device → job.task ≡ tasks.Scan → p.client.outcome ≡ Done reports → p.file ≡ Some file → IsScan h w i job 0 file
scan_kept below h w i job p reports file j steady scan done is =
    let e = end_there below h w i job p j in
    scan_on h w i e.until job 0 file
    (scan_right below (history_up_to h e.until.front) e.until.at i job e.endpoint reports file (end_job h w i job e) (steady_on h w i e.until job steady) scan (end_outcome h w i job p j e ∙ done) (end_file h w i job p j e ∙ is))

pub file_kept : Below → (h : History) (w : WorldCore) (i : ℕ) (job : Job) (p : Endpoint) → IsJob h w i job p → FileIsKept h w i job p.out_of_memory p.client.outcome p.file
file_kept below h w i job p j =
    let k = kept_by below.kept h w job j.led in
    record {
      scanned = λ reports bytes steady scan done f. scan_kept below h w i job p reports bytes j steady scan done f;
      whole = λ bytes n f is. whole_as p.client.outcome job.task (λ undone. k.promises.short i p bytes j.endpoint_at undone f n is) (λ reports done other. no_scan below h w i job p reports bytes j done other f n is);
      missing = λ f. k.promises.starved i p j.endpoint_at f;
      empty = λ no. empty_file h w i p j.led j.endpoint_at (ap scans (task_there below h w i job p j) ∙ no);
    }

page_scanned : Below → (h : History) (w : WorldCore) (i k : ℕ) (job : Job) (p : Endpoint) (file : List ℕ) → IsJob h w i job p → IsSteady h w i job.device → finished_page p k ≡ Some file → IsScan h w i job (k - 1) file
page_scanned below h w i k job p file j steady f =
    let e = end_there below h w i job p j in
    let same : finished_page e.endpoint k ≡ finished_page p k = sym (ap (option_and_then (λ (q : Endpoint). finished_page q k)) e.endpoint_at) ∙ (sym (e.until.stays.pages k) ∙ ap (option_and_then (λ (q : Endpoint). finished_page q k)) j.endpoint_at) in
    let page = page_there e.endpoint k file (same ∙ f) in
    scan_on h w i e.until job (k - 1) file
    (page_right below (history_up_to h e.until.front) e.until.at i (k - 1) job e.endpoint file (end_job h w i job e) (steady_on h w i e.until job steady) page.low page.at)

pub page_kept : Below → (h : History) (w : WorldCore) (i k : ℕ) (job : Job) (p : Endpoint) → IsJob h w i job p → PageIsKept h w i job p.out_of_memory (min p.finished 16) k (finished_page p k)
page_kept below h w i k job p j = record {
  scanned = λ bytes f. let page = page_there p k bytes f in (page.some, page.finished, λ steady. page_scanned below h w i k job p bytes j steady f);
  missing = λ some within f. (kept_by below.kept h w job j.led).promises.pages_lost i k p j.endpoint_at some (omega (arith, within, min-le_left p.finished 16)) (omega (arith, within, min-le_right p.finished 16)) f;
}

pub count_kept : Below → (h : History) (w : WorldCore) (i : ℕ) (job : Job) (p : Endpoint) → IsJob h w i job p → CountIsKept h w i job p.client.outcome (min p.finished 16)
count_kept below h w i job p j count reports batch done =
    let fit : IsFitJob job = subst IsFitJob (get_or_from_slice_get h.jobs i job job j.job_at) (j.led.fit i job (slice_get_within h.jobs i job j.job_at)) in
    counted (HadNoPage h w i job) p.finished count (most_pages job.task count batch fit.1) (counted_there below h w i job p j count reports batch done)

pub move_kept : Below → (h : History) (w : WorldCore) (i : ℕ) (job : Job) (p : Endpoint) (event : Option Event) → IsJob h w i job p → IsNextMove w.daemon i p event → MoveIsKept p.client.outcome event
move_kept below h w i job p event j is =
    let k = kept_by below.kept h w job j.led in
    record {
      running = λ e. (k.promises.moves i p event j.endpoint_at is).0 (ap is_running e);
      over = λ n. (k.promises.moves i p event j.endpoint_at is).1 (runs_not p.client.outcome n);
    }

pub moves_kept : Below → (h : History) (w : WorldCore) (i : ℕ) (job : Job) (p : Endpoint) → IsJob h w i job p → MovesAreKept p.client.outcome (moves_left_of p)
moves_kept below h w i job p j =
    let k = kept_by below.kept h w job j.led in
    record {
      running = λ e. positive (moves_left_of p) (λ none. let off = k.promises.left i p j.endpoint_at none in absurd (let clash : true ≡ false = sym (ap is_running e) ∙ off in cc));
      over = λ n. none_left p (is_running p.client.outcome) refl (runs_not p.client.outcome n);
    }
