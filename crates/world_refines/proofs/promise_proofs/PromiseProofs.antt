-- The promises, by the laws of the model.
use Rattle.std.specs.Prelude.{cond, option_map}
use Rattle.std.specs.List.{AllByRecursion}
use Rattle.std.proofs.Common.{◌≡◌, ◌≢◌, ◌∙◌, ℕ, List, [], ◌∷◌, ◌++◌, Option, Some, Bool, true, false, refl, sym, ap, subst, length, map, slice_get}
use Rattle.page_picture.specs.Page.{IsPageView}
use Rattle.page_picture.specs.Shows.{Frame}
use Rattle.device_api.specs.InForce as devices
use Rattle.sane_fixed.specs.declared.device_info.DeviceInfo.{DeviceInfo}
use Rattle.frame_join.specs.FrameHistory.{JoinHistory, is_joined}
use Rattle.scan_job.specs.declared.job.Task.{Task}
use Rattle.scan_job.specs.declared.job.Task.TheVariants as tasks
use Rattle.scan_job.specs.declared.outcome.Outcome.{Outcome}
use Rattle.scan_job.specs.declared.outcome.Outcome.TheVariants as outcomes
use Rattle.scan_job.specs.declared.outcome.Why.{Why}
use Rattle.scan_job.specs.declared.report.Reports.{Reports}
use Rattle.sane_fixed.specs.declared.status.Status.{Status}
use Rattle.option_desc.specs.declared.descriptor.Descriptor.{Descriptor}
use Rattle.option_desc.specs.declared.value.Value.{Value}
use Rattle.client_replies.specs.ProtocolStates.{target_of, is_batch, shows}
use Rattle.net_client.specs.ClientStates.{protocol_of}
use Rattle.system_model.specs.AbstractMessages as words
use Rattle.system_model.specs.Devices.{Make, OptionsInForce, descriptors_in_force}
use Rattle.system_model.specs.Client as model
use Rattle.system_model.specs.Client.{Idle, ClientView, JobStage}
use Rattle.system_model.specs.AbstractInForce as ruled
use Rattle.system_model.specs.AbstractDevices.{Begin}
use Rattle.system_model.specs.Settings.{pair_of}
use Rattle.system_model.specs.Invariants.{IsRightlyDone, Invariant, StageInvariant}
use Rattle.system_model.specs.SystemStates.{SessionView, SystemState, make_for, device_for}
use Rattle.system_model.specs.Sync.{IsPictureOfStart, AllInForce}
use Rattle.system_model.proofs.Meaning.{pictures_meant}
use Rattle.system_model.proofs.JobPromises.{done_allowed, ends_caused, lists_right, scans_right, settings_answered, shows_right}
use Rattle.system_model.proofs.SameSettings.{settings_same}
use Rattle.client_refines.specs.ClientLives.{EndAlike}
use Rattle.client_refines.specs.ClientRefinement.{OnlyReadableHaveValues, ShowRefines, descs, common_abstract_report, common_report, known_values, task_of, wholes, requested_setting}
use Rattle.client_refines.proofs.Filled.{is_filled}
use Rattle.client_refines.proofs.Outcomes.{outcomes_alike}
use Rattle.event_world.specs.declared.endpoint.Endpoint.{Endpoint}
use Rattle.event_world.specs.JobEvents.{is_done}
use Rattle.event_world.specs.FileDraining.{KeepsFile}
use Rattle.event_world.specs.Worlds.{WorldCore}
use Rattle.world_refines.specs.GhostStates.{Ghost, place_of_info}
use Rattle.world_refines.specs.WorldRefinement.{IsFinished, KeepsFiles, AreListedBelow, WorldRefines, is_laid, client_at_greeting}
use Rattle.world_refines.specs.WorldPromises.{AreListed, AreReported, AreShown, HasCause, IsMeant, IsOutcome, KeepsPromise, OutcomesAreRight, ScansAreMeant}
use Rattle.world_refines.proofs.state.Infos.{stand_there}
use Rattle.world_refines.proofs.state.GhostClients.{under_by, woken_under}
use Rattle.frame_join.specs.PictureText.{IsPictureFile}

-- ---- a client view that is over is the model's own

woken_done : (st : JobStage) (m : ClientView) → m.stage ≡ st → (client_at_greeting st m).stage ≡ model.Done → st ≡ model.Done
woken_done Idle m e h = absurd (let clash : model.Running model.Greeting ≡ model.Done = h in cc)
woken_done (model.Running g) m e h = sym e ∙ h
woken_done model.Done m e h = refl
woken_done (model.Ended status why) m e h = sym e ∙ h

woken_ended : (st : JobStage) (m : ClientView) (status : Status) (why : Why) → m.stage ≡ st → (client_at_greeting st m).stage ≡ model.Ended status why → st ≡ model.Ended status why
woken_ended Idle m status why e h = absurd (let clash : model.Running model.Greeting ≡ model.Ended status why = h in cc)
woken_ended (model.Running g) m status why e h = sym e ∙ h
woken_ended model.Done m status why e h = sym e ∙ h
woken_ended (model.Ended s w) m status why e h = sym e ∙ h

woken_over : (st : JobStage) (m : ClientView) → st ≡ model.Done → client_at_greeting st m ≡ m
woken_over st m e = ap (λ (x : JobStage). client_at_greeting x m) e

end_alike : (t : Ghost) (w : WorldCore) (i : ℕ) (endpoint : Endpoint) → WorldRefines t w → slice_get w.endpoints i ≡ Some endpoint → EndAlike (place_of_info t.infos) (t.jobs i).task endpoint.client.outcome (client_at_greeting (t.system.job i).client.stage (t.system.job i).client)
end_alike t w i endpoint h at =
    outcomes_alike (place_of_info t.infos) (target_of (t.jobs i)) (t.system.job i).session.job (map (λ (q : JoinHistory). q.ended) (t.pages i)) (protocol_of endpoint.client (t.history i)) (client_at_greeting (t.system.job i).client.stage (t.system.job i).client) (h.endpoints i endpoint at).exchanges.reads

pub task_is : (t : Ghost) (w : WorldCore) (i : ℕ) (endpoint : Endpoint) → WorldRefines t w → slice_get w.endpoints i ≡ Some endpoint → (t.system.job i).session.job.task ≡ task_of (t.jobs i).task
task_is t w i endpoint h at = ap (λ (x : model.AbstractJob). x.task) (h.endpoints i endpoint at).job_is

no_list : (task : Task) → task ≢ tasks.List → task_of task ≢ model.List_
no_list tasks.List n = λ e. n refl
no_list tasks.Show n = λ e. let clash : model.Show ≡ model.List_ = e in absurd (cc)
no_list tasks.SetOnly n = λ e. let clash : model.SetOnly ≡ model.List_ = e in absurd (cc)
no_list tasks.Scan n = λ e. let clash : model.Scan ≡ model.List_ = e in absurd (cc)
no_list (tasks.Batch count) n = λ e. let clash : model.Batch _ ≡ model.List_ = e in absurd (cc)

-- what is shown is what the model tells
shows_as : (task : Task) (options : List (Descriptor × Option Value)) (m : ClientView) → task ≡ tasks.Show → ShowRefines (shows task) options m → (m.known ≡ descs options) × (m.values ≡ known_values options) × OnlyReadableHaveValues options
shows_as task options m e h = subst (λ (x : Task). ShowRefines (shows x) options m) e h

options_shown : (t : Ghost) (i : ℕ) (reports : Reports) → Invariant t.system → (t.system.job i).client.stage ≡ model.Done → (t.system.job i).session.job.task ≡ model.Show → (t.jobs i).task ≡ tasks.Show → client_at_greeting (t.system.job i).client.stage (t.system.job i).client ≡ (t.system.job i).client →
    ShowRefines (shows (t.jobs i).task) reports.options (client_at_greeting (t.system.job i).client.stage (t.system.job i).client) → AreShown t i reports.options
options_shown t i reports sound stage ruled task same h =
    let m = (t.system.job i).client in
    let told = shows_as (t.jobs i).task reports.options m task (subst (λ (x : ClientView). ShowRefines (shows (t.jobs i).task) reports.options x) same h) in
    let right = shows_right t.system i sound stage ruled in
    record {
      in_force = right.0;
      settled = right.1;
      descriptors = sym told.0 ∙ right.2;
      values = sym told.1 ∙ right.3;
      filled = is_filled (make_for t.system i) right.0 (descriptors_in_force (make_for t.system i) right.0) reports.options told.2 (sym told.0 ∙ right.2) (sym told.1 ∙ right.3);
    }

-- the settings of a job that is done are those of the model's fold
settled_for : (k : Make) (b : SessionView) (m : ClientView) (task : model.AbstractTask) → task ≢ model.List_ → IsRightlyDone k b m task → (o : OptionsInForce) × AllInForce k b.job b.sent m.reports o
settled_for k b m model.List_ n h = absurd (n refl)
settled_for k b m model.Show n h = (h.options, h.settled)
settled_for k b m model.SetOnly n h = h
settled_for k b m model.Scan n h = h.0
settled_for k b m (model.Batch l) n h = h.0

done_at : (s : SystemState) (i : ℕ) (st : JobStage) → st ≡ model.Done → StageInvariant i (make_for s i) (s.job i) (device_for s i) st → IsRightlyDone (make_for s i) (s.job i).session (s.job i).client (s.job i).session.job.task
done_at s i st e h = subst (λ (x : JobStage). StageInvariant i (make_for s i) (s.job i) (device_for s i) x) e h

settings_kept : (t : Ghost) (w : WorldCore) (i : ℕ) (endpoint : Endpoint) (reports : Reports) → WorldRefines t w → slice_get w.endpoints i ≡ Some endpoint → (t.system.job i).client.stage ≡ model.Done → (t.system.job i).session.job.task ≢ model.List_ → map common_abstract_report (t.system.job i).client.reports ≡ map common_report reports.settings →
    AreReported t i reports.settings
settings_kept t w i endpoint reports h at stage no_list are =
    let me = t.system.job i in
    let k = make_for t.system i in
    let settled = settled_for k me.session me.client me.session.job.task no_list (done_at t.system i me.client.stage stage (h.sound.exchanges i)) in
    let requested_settings : me.session.job.settings ≡ map requested_setting (t.jobs i).settings.items = ap (λ (x : model.AbstractJob). x.settings) (h.endpoints i endpoint at).job_is in
    record {
      reports = me.client.reports;
      options = settled.0;
      are = are;
      forced = subst (λ (x : List words.RequestedSetting). ruled.abstract_in_force k x ≡ Some (record { options = settled.0; reports = me.client.reports })) requested_settings settled.1.forced;
      answered = subst (λ (x : List words.RequestedSetting). ruled.AreAnswered k x me.client.reports) requested_settings (settings_answered t.system i h.sound stage no_list);
    }

-- each info that is told is that of a place that was shown
list_told : (t : Ghost) (i : ℕ) (infos : List DeviceInfo) → (t.system.job i).session.shown ≡ Some (map (place_of_info t.infos) infos) → AreListedBelow (length t.infos) (t.system.job i).session.shown → AreListed t i infos
list_told t i infos e low = record { places = map (place_of_info t.infos) infos; shown = e; told = stand_there t.infos infos (subst (AreListedBelow (length t.infos)) e low) }

pub kept_promise : (t : Ghost) (w : WorldCore) (i : ℕ) (endpoint : Endpoint) (reports : Reports) → WorldRefines t w → slice_get w.endpoints i ≡ Some endpoint → endpoint.client.outcome ≡ outcomes.Done reports → KeepsPromise t i reports
kept_promise t w i endpoint reports h at e =
    let me = t.system.job i in
    let d = (end_alike t w i endpoint h at).done reports e in
    let stage : me.client.stage ≡ model.Done = woken_done me.client.stage me.client refl d.stage in
    let same : client_at_greeting me.client.stage me.client ≡ me.client = woken_over me.client.stage me.client stage in
    let task = task_is t w i endpoint h at in
    record {
      stage = stage;
      settings = λ n. settings_kept t w i endpoint reports h at stage (λ l. no_list (t.jobs i).task n (sym task ∙ l)) (ap (λ (m : ClientView). map common_abstract_report m.reports) (sym same) ∙ d.settings);
      permitted = λ n. done_allowed t.system i h.sound stage (λ l. no_list (t.jobs i).task n (sym task ∙ l));
      options = λ l. options_shown t i reports h.sound stage (task ∙ ap task_of l) l same d.options;
      devices = λ l. list_told t i reports.devices (lists_right t.system i h.sound stage (task ∙ ap task_of l) ∙ ap (λ (x : List ℕ). Some x) (ap (λ (m : ClientView). m.devices) (sym same) ∙ d.devices)) (h.shown i);
    }

has_cause : (t : Ghost) (w : WorldCore) (i : ℕ) (endpoint : Endpoint) (status : Status) (why : Why) → WorldRefines t w → slice_get w.endpoints i ≡ Some endpoint → endpoint.client.outcome ≡ outcomes.Ended status why → HasCause t i status why
has_cause t w i endpoint status why h at e =
    let me = t.system.job i in
    let d = (end_alike t w i endpoint h at).ended status why e in
    ends_caused t.system i status why h.sound (woken_ended me.client.stage me.client status why refl d)

by_outcome : (t : Ghost) (w : WorldCore) (i : ℕ) (endpoint : Endpoint) (o : Outcome) → WorldRefines t w → slice_get w.endpoints i ≡ Some endpoint → endpoint.client.outcome ≡ o → IsOutcome t i o
by_outcome t w i endpoint outcomes.Running h at e = let g = (end_alike t w i endpoint h at).runs e in woken_under (t.system.job i).client.stage (t.system.job i).client refl (under_by _ g.0 g.1)
by_outcome t w i endpoint (outcomes.Done reports) h at e = kept_promise t w i endpoint reports h at e
by_outcome t w i endpoint (outcomes.Ended status why) h at e = has_cause t w i endpoint status why h at e

pub outcomes_are_right : OutcomesAreRight
outcomes_are_right t w i endpoint h at = by_outcome t w i endpoint endpoint.client.outcome h at refl

-- ---- the file of a scan

same_pairs : (items : List (List ℕ × List ℕ)) → map pair_of (map requested_setting items) ≡ items
same_pairs [] = refl
same_pairs (s ∷ items) = ap (λ (x : List (List ℕ × List ℕ)). s ∷ x) (same_pairs items)

-- the one page of a job is that under way
only_whole : (b : Bool) (ended frames : List Frame) → is_joined ended ≡ b → wholes ended ≡ frames ∷ [] → (is_joined ended ≡ true) × (ended ≡ frames)
only_whole true ended frames e h =
    let same : ended ∷ [] ≡ frames ∷ [] = sym (ap (λ (b : Bool). cond b (ended ∷ []) []) e) ∙ h in
    (e, let is : ended ≡ frames = cc in is)
only_whole false ended frames e h = absurd (let clash : [] ≡ frames ∷ [] = sym (ap (λ (b : Bool). cond b (ended ∷ []) []) e) ∙ h in cc)

no_batch : (task : Task) → task ≡ tasks.Scan → is_batch task ≡ false
no_batch task e = ap is_batch e

not_laid : (task : Task) (o : Outcome) (past : JoinHistory) (b : Bool) → is_done o ≡ b → is_batch task ≡ false → is_laid task o past ≡ false
not_laid task o past true e n = ap (λ (x : Bool). cond x (cond (is_batch task) (is_joined past.ended) false) false) e ∙ ap (λ (x : Bool). cond x (is_joined past.ended) false) n
not_laid task o past false e n = ap (λ (x : Bool). cond x (cond (is_batch task) (is_joined past.ended) false) false) e

-- the file of a finished page denotes what the settings mean on the page of its start
pub meant_by : (t : Ghost) (w : WorldCore) (i : ℕ) (endpoint : Endpoint) (begin : Begin) (q : JoinHistory) (file : List ℕ) → WorldRefines t w → slice_get w.endpoints i ≡ Some endpoint → IsPictureOfStart (make_for t.system i) (t.system.job i).session.job.settings begin q.ended → (make_for t.system i).steady ≡ true → IsPageView begin.page → IsFinished q → file ≡ q.given →
    IsMeant (make_for t.system i) (t.jobs i).settings.items begin file
meant_by t w i endpoint begin q file h at picture steady page_view finished given =
    let s = h.endpoints i endpoint at in
    let me = t.system.job i in
    let k = make_for t.system i in
    let meant = pictures_meant k me.session.job.settings begin q.ended picture steady page_view in
    let settings : me.session.job.settings ≡ map requested_setting (t.jobs i).settings.items = ap (λ (x : model.AbstractJob). x.settings) s.job_is in
    let in_force : option_map (λ r. r.0) (devices.in_force k.model k.order (t.jobs i).settings.items) ≡ Some begin.options =
    ap (λ (x : List (List ℕ × List ℕ)). option_map (λ r. r.0) (devices.in_force k.model k.order x)) (sym (ap (map pair_of) settings ∙ same_pairs (t.jobs i).settings.items))
    ∙ (sym (settings_same k me.session.job.settings) ∙ ap (option_map (λ (f : ruled.SettingsResult). f.options)) picture.0.1) in
    record {
      picture = meant.0;
      in_force = in_force;
      meant = meant.1;
      denotes = subst (λ (x : List ℕ). IsPictureFile x meant.0) (sym given) (finished.denotes meant.0 meant.2);
    }

pub scans_are_meant : ScansAreMeant
scans_are_meant t w i endpoint reports file h at scan done kept =
    let s = h.endpoints i endpoint at in
    let me = t.system.job i in
    let past = t.history i in
    let k = make_for t.system i in
    let promise = kept_promise t w i endpoint reports h at done in
    let same : client_at_greeting me.client.stage me.client ≡ me.client = woken_over me.client.stage me.client promise.stage in
    let c = scans_right t.system i h.sound promise.stage (task_is t w i endpoint h at ∙ ap task_of scan) in
    let begin = c.0 in
    let frames = c.2 in
    let none : t.pages i ≡ [] = s.exchanges.alone (no_batch (t.jobs i).task scan) in
    let all : frames ∷ [] ≡ wholes past.ended = sym c.4 ∙ (ap (λ (m : ClientView). m.pages) (sym same) ∙ (s.exchanges.reads.files.all ∙ ap (λ (pages : List JoinHistory). map (λ (q : JoinHistory). q.ended) pages ++ wholes past.ended) none)) in
    let whole = only_whole (is_joined past.ended) past.ended frames refl (sym all) in
    let page_view : k.steady ≡ true → IsPageView begin.page = λ steady. (subst (λ (x : List Begin). AllByRecursion (λ (b : Begin). IsPageView b.page) x) c.3 (h.begun i steady)).0 in
    let files = subst (λ (b : Bool). KeepsFiles b past (t.pages i) endpoint) (not_laid (t.jobs i).task endpoint.client.outcome past (is_done endpoint.client.outcome) refl (no_batch (t.jobs i).task scan)) s.exchanges.files in
    let given : file ≡ past.given = subst (λ (x : Option (List ℕ)). KeepsFile endpoint.out_of_memory past.given x) kept files.file in
    record {
      begin = begin;
      later = c.1;
      started = c.3;
      meant = λ steady. meant_by t w i endpoint begin past file h at (subst (λ (x : List Frame). IsPictureOfStart k me.session.job.settings begin x) (sym whole.1) c.5) steady (page_view steady) (s.exchanges.done (ap is_done done) whole.0) given;
    }
