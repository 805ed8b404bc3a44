-- What each cause that a job met comes from, of the world in front of its event; and so why a job ended.
use Rattle.std.specs.Prelude.{◌<◌, eqb, length, map, slice_get, Contains}
use Rattle.std.specs.List.{AllByRecursion}
use Rattle.std.proofs.Common.{◌≡◌, ◌∙◌, ◌⊎◌, ◌≢◌, ℕ, List, [], ◌∷◌, ◌++◌, Bool, true, false, Option, Some, None, inl, inr, refl, sym, ap, subst, eqb-true}
use Rattle.std.proofs.lemmas.Option.{get_or_from_slice_get, slice_get_within}
use Rattle.scan_job.specs.declared.outcome.Why.{Why}
use Rattle.sane_fixed.specs.declared.status.Status.{Status}
use Rattle.sane_fixed.specs.declared.status.Status.TheVariants.{Eof}
use Rattle.device_api.specs.Kinds.{Page}
use Rattle.device_api.specs.State.{DeviceState}
use Rattle.page_picture.specs.Meaning.{meaning_of}
use Rattle.page_picture.specs.Shows.{Frame}
use Rattle.scan_frames.specs.declared.setup.Setup.{Setup}
use Rattle.scan_job.specs.declared.job.Job.{Job}
use Rattle.scan_job.specs.declared.job.Task.{Task}
use Rattle.scan_job.specs.declared.job.Task.TheVariants as tasks
use Rattle.scan_laws.specs.Passes.{IsInScan}
use Rattle.md5_auth.specs.ChallengeReading.{challenge_of}
use Rattle.client_replies.specs.declared.progress.Progress.{Progress}
use Rattle.client_replies.specs.ProtocolStates.{scans}
use Rattle.client_refines.specs.ClientRefinement.{requested_setting, task_of}
use Rattle.system_model.specs.AbstractMessages.{AbstractRequest, Challenge, Open, Authorize, Start}
use Rattle.system_model.specs.AbstractDevices.{AbstractDevice, Begin, Resting}
use Rattle.system_model.specs.AbstractInForce.{abstract_in_force}
use Rattle.system_model.specs.Actions
use Rattle.system_model.specs.Actions.{Action, is_some_begun}
use Rattle.system_model.specs.Causes.{Cause, IsExplained, Explains, GaveUp, LinkLost, LinkOutOfMemory, WasUnsaid, SourceFailed, NamesEof, Names, Unforced, WasUnlisted, HadNoPicture, WasHeld, Disallowed, TrayWasEmpty, TrayRanOut, ClientOutOfMemory, IsCauseAmong}
use Rattle.system_model.specs.Client.{AbstractJob as RuledJob, List_, JobStage, Idle, Running, Done, Ended, ClientView}
use Rattle.system_model.specs.Daemon.{FailureCounts, Streaming}
use Rattle.system_model.specs.Sync.{Ready, Scans}
use Rattle.system_model.specs.Devices.{Make, picture_frames, read_status_of}
use Rattle.system_model.specs.Invariants.{IsCaused, StageInvariant}
use Rattle.system_model.specs.ModelPromises.{CausesAreGrounded}
use Rattle.system_model.specs.SystemStates.{JobState, SystemState, listed_devices, make_for, device_for, wanted_place}
use Rattle.system_model.specs.Transitions.{By, IsActionEnabled, IsHistory, IsEnabled, IsUnderWay, Loads, Transition, Unplugs, Uses, after_transition, after_all}
use Rattle.event_world.specs.declared.endpoint.Endpoint.{Endpoint}
use Rattle.event_world.specs.declared.event.Event.TheVariants.{Cancel, DataTurn}
use Rattle.event_world.specs.Worlds.{WorldCore}
use Rattle.daemon_refines.specs.ContextRefinement.{abstract_device}
use Rattle.world_refines.specs.FailedSources.{AllAlong, FailedIn}
use Rattle.world_refines.specs.NewWorlds.{make_of}
use Rattle.world_refines.specs.GhostStates.{backend_of, is_allowed_for, name_at, place_named}
use Rattle.world_refines.proofs.job_events.Constant.{Fixed}
use Rattle.strangers.specs.Together.{JointEvent}
use Rattle.scan_world.specs.Calls.{HadUnsaidReply}
use Rattle.scan_world.specs.Endings.{HadNoPage, HasPassed}
use Rattle.scan_world.specs.Histories.{HasEvent, History, history_up_to}
use Rattle.scan_world.specs.Page.{CameFor}
use Rattle.scan_world.specs.Sessions.{Asked, Happened, Has, IsAtOpen, IsAtStart, StrangerHas}
use Rattle.scan_world.proofs.Along.{Fine, Here, IsTold, Laws, NotForced, Own, fine_then, own_place, settled_by, told_by}
use Rattle.scan_world.proofs.Asked.{AsksGuarded, asks_then}
use Rattle.scan_world.proofs.Begun.{job_same, party_stays}
use Rattle.scan_world.proofs.Events.{stops_event}
use Rattle.scan_world.proofs.Evident.{Begins, Comes, IsAnswer, IsFailedAnswer, Opens, all_come, causes_by, met_by}
use Rattle.scan_world.proofs.Lists.{all_each, all_then, contains_in}
use Rattle.scan_world.proofs.NoPictures.{IsSet, no_meaning, starting, starting_scans}
use Rattle.scan_world.proofs.Options.{streaming}
use Rattle.scan_world.proofs.Rows as rows
use Rattle.scan_world.proofs.Rows.{HasFinished, WaitsAt}
use Rattle.scan_world.proofs.Elsewhere.{elsewhere}
use Rattle.scan_world.proofs.Jobs.{item_there}
use Rattle.scan_world.proofs.Pages.{HasDevice, IsOfDevice, IsOfOne, acts_by, name_there}
use Rattle.scan_world.proofs.Scanned.{infos_of, name_of}
use Rattle.scan_world.proofs.moments.Challenged.{awaits_by, challenge_there}
use Rattle.scan_world.proofs.moments.Entries.{linked_by, own_party}
use Rattle.scan_world.proofs.moments.Moments.{AnsweredSo, AnswersAt, HappenedSo}
use Rattle.scan_world.proofs.moments.Requests.{IsOpening}
use Rattle.scan_world.proofs.moments.Stands.{HasIt, awaits_there, holder_has, job_has, unlisted_none}
use Rattle.scan_world.proofs.moments.Tray.{empty_there, first_rests, page_there, rests_there, starts_ready}
use Rattle.scan_world.proofs.Sources.{CanFail, fallible_of_make}
use Rattle.scan_world.proofs.moments.Finished.{as_many, count_at}
use Rattle.scan_world.proofs.moments.Waiting.{WaitsFor, waits_there}

-- ---- what a cause says

-- the job scans, and its options name that status of a turn
abbrev pub IsNamed : History → WorldCore → ℕ → Job → Status → Type 0
IsNamed h w i job status = Happened h w i (DataTurn i) × (scans job.task ≡ true) × IsTold h job status

abbrev pub Evid : History → WorldCore → List JointEvent → ℕ → Job → Cause → Type 0
Evid h w changing i job GaveUp = HasEvent h (Cancel i)
Evid h w changing i job LinkLost = rows.WasLost h w i
Evid h w changing i job LinkOutOfMemory = Unit {0}
Evid h w changing i job WasUnsaid = HadUnsaidReply h w i job
Evid h w changing i job SourceFailed = rows.MayHaveFailed h w changing i job
Evid h w changing i job NamesEof = IsNamed h w i job Eof
Evid h w changing i job (Names status) = IsNamed h w i job status
Evid h w changing i job Unforced = ⊥
Evid h w changing i job WasUnlisted = rows.WasUnlisted h w i job
Evid h w changing i job HadNoPicture = rows.HadNoPictureEver h w changing i job
Evid h w changing i job WasHeld = rows.WasHeld h w i job
Evid h w changing i job Disallowed = rows.WasDisallowed h w i job
Evid h w changing i job TrayWasEmpty = HadNoPage h w i job 0
Evid h w changing i job TrayRanOut = Unit {0}
Evid h w changing i job ClientOutOfMemory = rows.WasStarved h w i

abbrev pub StepSo : History → WorldCore → Job → SystemState → Transition → Type 0
StepSo h w job s x = AnsweredSo h w job s x × HappenedSo h w job s x

-- ---- one step of the job

abbrev own_of : History → ℕ → Action → Type 0
own_of h i x = IsOfOne h (By i x)

of_action : (h : History) (i : ℕ) (x y : Action) → x ≡ y → own_of h i x → own_of h i y
of_action h i x y e o = subst (own_of h i) e o

-- what happened in a step of that kind
happened_by : (h : History) (w : WorldCore) (job : Job) (s : SystemState) (i : ℕ) (x y : Action) → x ≡ y → StepSo h w job s (By i x) → HappenedSo h w job s (By i y)
happened_by h w job s i x y e so = subst (λ (z : Action). HappenedSo h w job s (By i z)) e so.1

link_lost : (h : History) (w : WorldCore) (job : Job) (s : SystemState) (i : ℕ) (x : Action) → IsUnderWay (s.job i).client.stage → (x ≡ Actions.Loses false) ⊎ (x ≡ Actions.LosesImage false) → StepSo h w job s (By i x) → rows.WasLost h w i
link_lost h w job s i x on (inl a) so = inl (happened_by h w job s i x (Actions.Loses false) a so on)
link_lost h w job s i x on (inr a) so = inr (happened_by h w job s i x (Actions.LosesImage false) a so on)

-- ---- by the world in front of the event

-- the answer, with the state that it is given in
abbrev pub Front : History → WorldCore → Job → SystemState → ℕ → Type 0
Front h w job s i = (asked : Challenge × Option FailureCounts) × AnswersAt h w job s i asked.0 asked.1

front_by : (h : History) (w : WorldCore) (i : ℕ) (job : Job) (s : SystemState) (x : Action) → IsAnswer x → IsUnderWay (s.job i).client.stage → StepSo h w job s (By i x) → Front h w job s i
front_by h w i job s x a on so = ((a.0, a.1), (subst (λ (y : Action). AnsweredSo h w job s (By i y)) a.2 so.0) on)

pub infos_there : (h : History) (w : WorldCore) (job : Job) (s : SystemState) (i : ℕ) (a : Front h w job s i) → a.1.ghost.infos ≡ infos_of h
infos_there h w job s i a = ap (λ (f : Fixed). f.1) a.1.fixed

-- the client waits for the answer to that request
abbrev pub asked_there : (h : History) (w : WorldCore) (i : ℕ) (job : Job) (s : SystemState) (Waits : Progress → Type 0) (q : AbstractRequest) (rest : List AbstractRequest) → IsUnderWay (s.job i).client.stage → (a : Front h w job s i) → (s.job i).todo ≡ q ∷ rest → WaitsFor q ≡ Waits → Asked h w i Waits
asked_there h w i job s Waits q rest on a todo is = record {
  n = a.1.n;
  at = a.1.at;
  came = a.1.came;
  whole = a.1.whole;
  waits = subst (WaitsAt a.1.at.before i) is (waits_there a.1.ghost a.1.at.before i q rest a.1.stands (subst (λ (u : SystemState). IsUnderWay (u.job i).client.stage) (sym a.1.state) on) (ap (λ (u : SystemState). (u.job i).todo) a.1.state ∙ todo));
}

pub open_waits : (q : AbstractRequest) → IsOpening q → WaitsFor q ≡ IsAtOpen
open_waits Open opening = refl
open_waits (Authorize challenge) opening = refl
open_waits q opening = absurd opening

abbrev pub asked_open : (h : History) (w : WorldCore) (i : ℕ) (job : Job) (s : SystemState) → IsUnderWay (s.job i).client.stage → (a : Front h w job s i) → Opens (s.job i) → Asked h w i IsAtOpen
asked_open h w i job s on a o = asked_there h w i job s IsAtOpen o.0 o.1 on a o.2 (open_waits o.0 o.3)

abbrev pub asked_start : (h : History) (w : WorldCore) (i : ℕ) (job : Job) (s : SystemState) → IsUnderWay (s.job i).client.stage → (a : Front h w job s i) → (rest : List AbstractRequest) → (s.job i).todo ≡ Start ∷ rest → Asked h w i IsAtStart
asked_start h w i job s on a rest todo = asked_there h w i job s IsAtStart Start rest on a todo refl

-- the place that the job names has that name, where somebody holds its device
named_there : (h : History) (w : WorldCore) (i : ℕ) (job : Job) (s : SystemState) (j : ℕ) → Own h i job → Fine h job s → (a : Front h w job s i) → (device_for s i).holder ≡ Some j → name_at a.1.ghost.infos (wanted_place s i) ≡ Some job.device
named_there h w i job s j o f a held =
    let d = place_named (infos_of h) job.device in
    let place : wanted_place s i ≡ d = f.places i ∙ own_place h i job o.at in
    let there : HasDevice h d = subst (HasDevice h) place ((f.slots (wanted_place s i)).held j held) in
    let name : name_at (infos_of h) d ≡ Some job.device = name_there h.devices d there.0 there.1 ∙ ap (λ (n : List ℕ). Some n) (name_of h job.device there.0 there.1) in
    subst (λ (k : ℕ). name_at a.1.ghost.infos k ≡ Some job.device) (sym place) (subst (λ (infos : _). name_at infos d ≡ Some job.device) (sym (infos_there h w job s i a)) name)

-- the job has an endpoint there
endpoint_at : (h : History) (w : WorldCore) (i : ℕ) (job : Job) (s : SystemState) → slice_get h.jobs i ≡ Some job → (a : Front h w job s i) → (p : Endpoint) × (slice_get a.1.at.before.endpoints i ≡ Some p)
endpoint_at h w i job s at a =
    let count : length h.jobs ≡ length a.1.at.before.endpoints = sym (ap (λ (f : Fixed). f.2) a.1.fixed) ∙ a.1.stands.is_of.count in
    item_there a.1.at.before.endpoints i (subst (λ (n : ℕ). i < n) count (slice_get_within h.jobs i job at))

-- where the job holds its device it has it
pub has_there : (h : History) (w : WorldCore) (i : ℕ) (job : Job) (s : SystemState) → Own h i job → Fine h job s → (a : Front h w job s i) → (device_for s i).holder ≡ Some i → (d : DeviceState) × Has a.1.at.before i job.device d × (device_for s i ≡ abstract_device (Some i) d) × IsInScan d
has_there h w i job s o f a held =
    let named = named_there h w i job s i o f a held in
    let p = endpoint_at h w i job s o.at a in
    let r = job_has a.1.ghost a.1.at.before (wanted_place s i) i job.device p.0 p.1 a.1.stands (ap (λ (u : SystemState). (u.device (wanted_place s i)).holder) a.1.state ∙ held) named in
    (r.0, r.1, sym (ap (λ (u : SystemState). u.device (wanted_place s i)) a.1.state) ∙ r.2, r.3)

held_by_other : (h : History) (w : WorldCore) (i : ℕ) (job : Job) (s : SystemState) (j : ℕ) → Here h i job s → IsUnderWay (s.job i).client.stage → Front h w job s i → Opens (s.job i) → (device_for s i).holder ≡ Some j → j ≢ i → rows.WasHeld h w i job
held_by_other h w i job s j e on a opens held other =
    let named = named_there h w i job s j e.own_job e.fine a held in
    (asked_open h w i job s on a opens, by_holder (holder_has a.1.ghost a.1.at.before (wanted_place s i) j job.device a.1.stands (ap (λ (u : SystemState). (u.device (wanted_place s i)).holder) a.1.state ∙ held) named))
  where
    by_holder : HasIt a.1.ghost a.1.at.before (wanted_place s i) j job.device ⊎ StrangerHas a.1.at.before job.device → ((k : ℕ) × (d : DeviceState) × (k ≢ i) × Has a.1.at.before k job.device d) ⊎ StrangerHas a.1.at.before job.device
    by_holder (inl r) = inl (j, r.0, other, r.1)
    by_holder (inr x) = inr x

pub not_listed : (h : History) (w : WorldCore) (i : ℕ) (job : Job) (s : SystemState) → Here h i job s → IsUnderWay (s.job i).client.stage → Front h w job s i → Opens (s.job i) → (device_for s i).listed ≡ false → rows.WasUnlisted h w i job
not_listed h w i job s e on a opens none =
    let place : wanted_place s i ≡ place_named (infos_of h) job.device = e.fine.places i ∙ own_place h i job e.own_job.at in
    let off : (s.device (place_named (infos_of h) job.device)).listed ≡ false = subst (λ (d : ℕ). (s.device d).listed ≡ false) place none in
    let there : (a.1.ghost.system.device (place_named a.1.ghost.infos job.device)).listed ≡ false =
    subst (λ (infos : _). (a.1.ghost.system.device (place_named infos job.device)).listed ≡ false) (sym (infos_there h w job s i a))
    (ap (λ (u : SystemState). (u.device (place_named (infos_of h) job.device)).listed) a.1.state ∙ off) in
    (asked_open h w i job s on a opens, unlisted_none a.1.ghost a.1.at.before job.device a.1.stands there)

-- whether its user and password are allowed for the challenge that its session had sent
pub judged_by : (h : History) (w : WorldCore) (i : ℕ) (job : Job) (s : SystemState) (allowed : Bool) → Here h i job s → IsUnderWay (s.job i).client.stage → (s.job i).served ≡ true → (a : Front h w job s i) → Opens (s.job i) → (c : Challenge) → (s.job i).session.awaited ≡ Some c → (s.job i).session.job.allows c ≡ allowed → HasPassed h a.1.at.before i job allowed
judged_by h w i job s allowed e on served a o c awaited allows =
    let linked = linked_by i (make_for s i) (s.job i) (device_for s i) (s.job i).client.stage (e.sound.exchanges i) on served in
    let r = awaits_there a.1.ghost a.1.at.before i c a.1.stands (slice_get a.1.at.before.endpoints i) refl (ap (λ (u : SystemState). (u.job i).served) a.1.state ∙ served) (ap (λ (u : SystemState). (u.job i).linked) a.1.state ∙ linked) (ap (λ (u : SystemState). (u.job i).session.awaited) a.1.state ∙ awaited) in
    let so : is_allowed_for h.users job.user job.password (backend_of job.device) (challenge_of c) ≡ allowed = ap (λ (j : RuledJob). j.allows c) (sym e.is) ∙ allows in
    let asked : (s.job i).todo ≡ Authorize c ∷ o.1 = o.2 ∙ ap (λ (q : AbstractRequest). q ∷ o.1) (awaits_by i (make_for s i) (s.job i) (device_for s i) (s.job i).client.stage o.0 o.1 c on (e.sound.exchanges i) o.2 o.3 awaited) in
    let text = challenge_there a.1.ghost a.1.at.before i c o.1 a.1.stands (subst (λ (u : SystemState). IsUnderWay (u.job i).client.stage) (sym a.1.state) on) (ap (λ (u : SystemState). (u.job i).todo) a.1.state ∙ asked) in
    record {
      session = r.0;
      stands = r.2;
      sent = r.1;
      awaited = r.3;
      guarded = ap (λ (j : RuledJob). j.guarded) (sym e.is) ∙ e.asks c awaited;
      challenge = text.0;
      read = ap challenge_of (sym r.4) ∙ text.1;
      is = subst (λ (o : Option (List ℕ)). is_allowed_for h.users job.user job.password (backend_of job.device) o ≡ allowed) text.1 so;
    }

not_allowed : (h : History) (w : WorldCore) (i : ℕ) (job : Job) (s : SystemState) → Here h i job s → IsUnderWay (s.job i).client.stage → (s.job i).served ≡ true → Front h w job s i → Opens (s.job i) → (c : Challenge) → (s.job i).session.awaited ≡ Some c → (s.job i).session.job.allows c ≡ false → rows.WasDisallowed h w i job
not_allowed h w i job s e on served a opens c awaited denied = (asked_open h w i job s on a opens, judged_by h w i job s false e on served a opens c awaited denied)

-- its device is had, and has no page
abbrev HasNone : ℕ → AbstractDevice → Type 0
HasNone i dev = (dev.holder ≡ Some i) × ((d : DeviceState) → dev ≡ abstract_device (Some i) d → IsInScan d → d.pages ≡ [])

-- as it asks for a start of a device at rest, just so many of its pages are finished
finished_there : (h : History) (w : WorldCore) (i : ℕ) (job : Job) (s : SystemState) → Here h i job s → IsUnderWay (s.job i).client.stage → (a : Front h w job s i) → (rest : List AbstractRequest) → (s.job i).todo ≡ Start ∷ rest → (device_for s i).phase ≡ Resting → HasFinished a.1.at.before i (length (s.job i).client.pages)
finished_there h w i job s e on a rest todo rests =
    let p = s.job i in
    let ready = starts_ready i (make_for s i) p (device_for s i) p.client.stage rest on (e.sound.exchanges i) todo rests in
    let count : HasFinished a.1.at.before i (length (a.1.ghost.system.job i).session.started) =
    count_at a.1.ghost a.1.at.before i rest (slice_get a.1.at.before.endpoints i) refl a.1.stands (ap (λ (u : SystemState). (u.job i).client.stage) a.1.state ∙ ready.1)
    (subst (λ (u : SystemState). Ready i (make_for u i) (u.job i).session (u.job i).client (device_for u i)) (sym a.1.state) ready.0) in
    subst (HasFinished a.1.at.before i) (as_many (make_for s i) p.session.job.settings p.session.started p.client.pages ready.0.pictures)
    (subst (λ (u : SystemState). HasFinished a.1.at.before i (length (u.job i).session.started)) a.1.state count)

scans_so : (task : Task) → Scans (task_of task) → scans task ≡ true
scans_so tasks.List is = absurd is
scans_so tasks.Show is = absurd is
scans_so tasks.SetOnly is = absurd is
scans_so tasks.Scan is = refl
scans_so (tasks.Batch count) is = refl

-- a job that asks for a start scans
starts_scan : (h : History) (i : ℕ) (job : Job) (s : SystemState) → Here h i job s → IsUnderWay (s.job i).client.stage → (rest : List AbstractRequest) → (s.job i).todo ≡ Start ∷ rest → scans job.task ≡ true
starts_scan h i job s e on rest todo = scans_so job.task (subst (λ (j : RuledJob). Scans j.task) e.is (starting_scans i (make_for s i) (s.job i) (device_for s i) (s.job i).client.stage rest on (e.sound.exchanges i) todo))

none_begun : (xs : List Begin) → is_some_begun xs ≡ false → length xs ≡ 0
none_begun [] e = refl
none_begun (x ∷ xs) e = absurd (let clash : true ≡ false = e in cc)

pub no_page : (h : History) (w : WorldCore) (i : ℕ) (job : Job) (s : SystemState) → Here h i job s → IsUnderWay (s.job i).client.stage → Front h w job s i → (rest : List AbstractRequest) → (s.job i).todo ≡ Start ∷ rest → (device_for s i).phase ≡ Resting → HasNone i (device_for s i) → HadNoPage h w i job (length (s.job i).client.pages)
no_page h w i job s e on a rest todo rests held =
    let r = has_there h w i job s e.own_job e.fine a held.0 in
    (starts_scan h i job s e on rest todo, asked_start h w i job s on a rest todo, finished_there h w i job s e on a rest todo rests, (r.0, r.1, rests_there (Some i) (device_for s i) r.0 rests r.2 r.3, held.1 r.0 r.2 r.3))

no_meaning_there : (h : History) (w : WorldCore) (changing : List JointEvent) (i : ℕ) (job : Job) (s : SystemState) → Here h i job s → Fine (history_up_to h changing) job s → IsUnderWay (s.job i).client.stage → (a : Front h w job s i) → (rest : List AbstractRequest) → (s.job i).todo ≡ Start ∷ rest → IsSet i (make_for s i) (s.job i).session (device_for s i) → (page : Page) (later : List Page) → (device_for s i).tray ≡ page ∷ later → picture_frames (make_for s i) (device_for s i).options page ≡ [] → (device_for s i).phase ≡ Resting → rows.HadNoPictureEver h w changing i job
no_meaning_there h w changing i job s e f on a rest todo set page later tray none rests =
    let settled = settled_by h i job s e.own_job e.fine e.is set.0 set.1 in
    let r = has_there h w i job s e.own_job e.fine a set.0 in
    let setup : (device_for s i).options ≡ r.0.setup = ap (λ (dev : AbstractDevice). dev.options) r.2 in
    let first = page_there (Some i) (device_for s i) r.0 page later rests tray r.2 r.3 in
    let came = (subst (AllByRecursion (IsOfDevice (history_up_to h changing) (wanted_place s i))) tray (f.slots (wanted_place s i)).pages).0 settled.0.device settled.2 in
    record {
      scanning = starts_scan h i job s e on rest todo;
      asked = asked_start h w i job s on a rest todo;
      device = r.0;
      has = r.1;
      settled = settled.0;
      options = settled.1 ∙ setup;
      held = came.0;
      came = subst (λ (name : List ℕ). CameFor (history_up_to h changing) name came.0) settled.0.named came.1;
      first = came.2 ∙ sym first;
      none = ap (λ (p : Page). meaning_of p settled.0.setup.scene) came.2 ∙ (ap (λ (y : Setup). meaning_of page y.scene) settled.1 ∙ no_meaning (make_for s i) (device_for s i).options page none);
    }

-- a page that can fail came for a device whose source may fail
can_fail : (h : History) (changing : List JointEvent) (i : ℕ) (job : Job) (s : SystemState) → Own h i job → Fine (history_up_to h changing) job s → (make_for s i).fallible ≡ true → (device_for s i).holder ≡ Some i → CanFail (history_up_to h changing) job.device
can_fail h changing i job s o f able mine =
    let known = f.makes (wanted_place s i) in
    let b : known.sources.fallible ≡ true = sym (fallible_of_make known.sources (slice_get h.devices (wanted_place s i))) ∙ (ap (λ (k : Make). k.fallible) (sym known.is) ∙ able) in
    let there : HasDevice h (wanted_place s i) = (f.slots (wanted_place s i)).held i mine in
    let place : wanted_place s i ≡ place_named (infos_of h) job.device = f.places i ∙ own_place h i job o.at in
    subst (CanFail (history_up_to h changing)) (name_of h job.device there.0 (ap (slice_get h.devices) (sym place) ∙ there.1)) (known.fails b there.0 there.1)

source_failed : (h : History) (w : WorldCore) (changing : List JointEvent) (i : ℕ) (job : Job) (s : SystemState) (x : Action) → Here h i job s → Fine (history_up_to h changing) job s → (IsFailedAnswer x × Begins (s.job i)) ⊎ ((fault : FailureCounts) × (x ≡ Actions.TurnsFault fault)) → IsUnderWay (s.job i).client.stage → StepSo h w job s (By i x) → IsEnabled s (By i x) → slice_get h.jobs i ≡ Some job → rows.MayHaveFailed h w changing i job
source_failed h w changing i job s x e f (inl (a, begins)) on so may at =
    let m : AnswersAt h w job s i a.0 (Some a.1) = (subst (λ (y : Action). AnsweredSo h w job s (By i y)) a.2 so.0) on in
    let fails = (subst (λ (y : Action). IsEnabled s (By i y)) a.2 may).2.0 in
    let set = starting i (make_for s i) (s.job i) (device_for s i) (s.job i).client.stage begins.0 on (e.sound.exchanges i) begins.1 in (
      starts_scan h i job s e on begins.0 begins.1,
      can_fail h changing i job s e.own_job f fails set.0,
      inl (asked_start h w i job s on ((a.0, Some a.1), m) begins.0 begins.1, subst (λ (j : Job). FailedIn m.at.before m.at.behind.daemon i j.device) (get_or_from_slice_get h.jobs i job (elsewhere h.devices job) at) m.failed),
    )
source_failed h w changing i job s x e f (inr a) on so may at =
    let fault = happened_by h w job s i x (Actions.TurnsFault a.0) a.1 so on in
    let turns = subst (λ (y : Action). IsEnabled s (By i y)) a.1 may in
    let streamed = streaming i (make_for s i) (s.job i) (device_for s i) (s.job i).client.stage on (e.sound.exchanges i) turns.3.0 in (
      scans_so job.task (subst (λ (j : RuledJob). Scans j.task) e.is streamed.1),
      can_fail h changing i job s e.own_job f turns.4.0 turns.3.1,
      inr (fault.0, subst (λ (j : Job). FailedIn fault.0.0.before fault.0.0.behind.daemon i j.device) (get_or_from_slice_get h.jobs i job (elsewhere h.devices job) at) fault.1, fault.2),
    )

served_by_step : (i : ℕ) (k : Make) (p : JobState) (dev : AbstractDevice) (x : Action) → IsAnswer x → IsActionEnabled i k p dev x → p.served ≡ true
served_by_step i k p dev x a may = (subst (IsActionEnabled i k p dev) a.2 may).0

named_by : (h : History) (w : WorldCore) (i : ℕ) (job : Job) (s : SystemState) (status : Status) → Here h i job s → IsUnderWay (s.job i).client.stage → (s.job i).session.transfer ≡ Streaming → (device_for s i).holder ≡ Some i → read_status_of (make_for s i) (device_for s i).options ≡ Some status → Happened h w i (DataTurn i) → IsNamed h w i job status
named_by h w i job s status e on streams held reads turn =
    let streamed = streaming i (make_for s i) (s.job i) (device_for s i) (s.job i).client.stage on (e.sound.exchanges i) streams in
    (turn, scans_so job.task (subst (λ (j : RuledJob). Scans j.task) e.is streamed.1), told_by h i job s status e.own_job e.fine e.is held streamed.0 reads)

evid : (h : History) (w : WorldCore) (changing : List JointEvent) (i : ℕ) (job : Job) (s : SystemState) (x : Action) → Here h i job s → Fine (history_up_to h changing) job s → IsUnderWay (s.job i).client.stage → own_of h i x → StepSo h w job s (By i x) → IsEnabled s (By i x) → (c : Cause) → Comes i (make_for s i) (s.job i) (device_for s i) x c → Evid h w changing i job c
evid h w changing i job s x e f on of so may GaveUp c = let o = of_action h i x Actions.Stops c of in
    let b = acts_by (infos_of h) o.event i Actions.Stops o.is in
    stops_event (HasEvent h) (infos_of h) i b.0 (subst (Contains h.events) b.1 (contains_in h.events o.event o.among)) b.2
evid h w changing i job s x e f on of so may LinkLost c = link_lost h w job s i x on c so
evid h w changing i job s x e f on of so may LinkOutOfMemory c = tt
evid h w changing i job s x e f on of so may WasUnsaid c = subst (HadUnsaidReply h w i) (get_or_from_slice_get h.jobs i job (elsewhere h.devices job) e.own_job.at) (happened_by h w job s i x (Actions.Breaks false) c so on)
evid h w changing i job s x e f on of so may SourceFailed c = source_failed h w changing i job s x e f c on so may e.own_job.at
evid h w changing i job s x e f on of so may NamesEof c = named_by h w i job s Eof e on c.1 c.2 c.3 (happened_by h w job s i x Actions.TurnsShort c.0 so on)
evid h w changing i job s x e f on of so may (Names status) c = named_by h w i job s status e on c.1 c.2 c.3 (happened_by h w job s i x (Actions.TurnsNamed status) c.0 so on)
evid h w changing i job s x e f on of so may Unforced c = absurd c
evid h w changing i job s x e f on of so may WasUnlisted c = not_listed h w i job s e on (front_by h w i job s x c.0 on so) c.1 c.2
evid h w changing i job s x e f on of so may HadNoPicture c =
    no_meaning_there h w changing i job s e f on (front_by h w i job s x c.0 on so) c.1.0 c.1.1 (starting i (make_for s i) (s.job i) (device_for s i) (s.job i).client.stage c.1.0 on (e.sound.exchanges i) c.1.1) c.1.2.0 c.1.2.1 c.1.2.2 c.1.2.3 c.2
evid h w changing i job s x e f on of so may WasHeld c = held_by_other h w i job s c.2.0 e on (front_by h w i job s x c.0 on so) c.1 c.2.1 c.2.2
evid h w changing i job s x e f on of so may Disallowed c = not_allowed h w i job s e on (served_by_step i (make_for s i) (s.job i) (device_for s i) x c.0 may) (front_by h w i job s x c.0 on so) c.1 c.2.0 c.2.1 c.2.2
evid h w changing i job s x e f on of so may TrayWasEmpty c =
    let p = s.job i in
    let rests = first_rests i (make_for s i) p (device_for s i) p.client.stage (e.sound.exchanges i) on c.1 in
    let ready = starts_ready i (make_for s i) p (device_for s i) p.client.stage c.1.0 on (e.sound.exchanges i) c.1.1 rests in
    let none : length p.client.pages ≡ 0 = sym (as_many (make_for s i) p.session.job.settings p.session.started p.client.pages ready.0.pictures) ∙ none_begun p.session.started c.1.3 in
    subst (HadNoPage h w i job) none (no_page h w i job s e on (front_by h w i job s x c.0 on so) c.1.0 c.1.1 rests (empty_there i (make_for s i) p (device_for s i) p.client.stage (e.sound.exchanges i) on c.1))
evid h w changing i job s x e f on of so may TrayRanOut c = tt
evid h w changing i job s x e f on of so may ClientOutOfMemory c = happened_by h w job s i x Actions.RunsOutOfMemory c so on

-- ---- what the job met

abbrev pub EndedBy : History → WorldCore → List JointEvent → ℕ → Job → List Cause → Status → Why → Type 0
EndedBy h w changing i job met status why = ((c : Cause) × Evid h w changing i job c × IsCauseAmong c met × Explains c status why) ⊎ (NotForced h job × Explains Unforced status why)

-- each cause that a job met that is under way is so, and an ending is by one of them
abbrev pub Judged : History → WorldCore → List JointEvent → ℕ → Job → List Cause → List (List Frame) → JobStage → Type 0
Judged h w changing i job met pages Idle = AllByRecursion (Evid h w changing i job) met
Judged h w changing i job met pages (Running g) = AllByRecursion (Evid h w changing i job) met
Judged h w changing i job met pages Done = Unit {0}
Judged h w changing i job met pages (Ended status why) = EndedBy h w changing i job met status why

abbrev pub JudgedAt : History → WorldCore → List JointEvent → ℕ → Job → SystemState → Type 0
JudgedAt h w changing i job s = Judged h w changing i job (s.job i).session.met (s.job i).client.pages (s.job i).client.stage

pub among_met : (h : History) (w : WorldCore) (changing : List JointEvent) (i : ℕ) (job : Job) (c : Cause) (met : List Cause) → AllByRecursion (Evid h w changing i job) met → IsCauseAmong c met → Evid h w changing i job c
among_met h w changing i job c [] a m = absurd m
among_met h w changing i job c (d ∷ met) a (inl same) = subst (Evid h w changing i job) (sym same) a.0
among_met h w changing i job c (d ∷ met) a (inr m) = among_met h w changing i job c met a.1 m

pick : (h : History) (w : WorldCore) (changing : List JointEvent) (i : ℕ) (job : Job) (status : Status) (why : Why) (met : List Cause) → AllByRecursion (Evid h w changing i job) met → IsExplained status why met → (c : Cause) × Evid h w changing i job c × IsCauseAmong c met × Explains c status why
pick h w changing i job status why [] a e = absurd e
pick h w changing i job status why (c ∷ met) a (inl e) = (c, a.0, inl refl, e)
pick h w changing i job status why (c ∷ met) a (inr e) = let r = pick h w changing i job status why met a.1 e in (r.0, r.1, inr r.2, r.3)

forced_same : (h : History) (w : WorldCore) (i : ℕ) (job : Job) (s : SystemState) → Here h i job s → abstract_in_force (make_for s i) (s.job i).session.job.settings ≡ None → (s.job i).session.job.task ≢ List_ → NotForced h job
forced_same h w i job s e none other =
    let place : wanted_place s i ≡ place_named (infos_of h) job.device = e.fine.places i ∙ own_place h i job e.own_job.at in
    let known = e.fine.makes (wanted_place s i) in
    let make : make_for s i ≡ make_of known.sources (slice_get h.devices (place_named (infos_of h) job.device)) = known.is ∙ ap (λ (d : ℕ). make_of known.sources (slice_get h.devices d)) place in (
      λ list. other (ap (λ (j : RuledJob). j.task) e.is ∙ ap task_of list),
      (known.sources, subst (λ (k : Make). abstract_in_force k (map requested_setting job.settings.items) ≡ None) make (ap (λ (j : RuledJob). abstract_in_force (make_for s i) j.settings) (sym e.is) ∙ none)),
    )

caused : (h : History) (w : WorldCore) (changing : List JointEvent) (i : ℕ) (job : Job) (s : SystemState) (status : Status) (why : Why) → Here h i job s → AllByRecursion (Evid h w changing i job) (s.job i).session.met → IsCaused (make_for s i) (s.job i).session status why → EndedBy h w changing i job (s.job i).session.met status why
caused h w changing i job s status why e a (inl c) = inl (pick h w changing i job status why (s.job i).session.met a c)
caused h w changing i job s status why e a (inr c) = inr (forced_same h w i job s e c.0.0 c.0.1, c.1)

-- all of its causes are so
judge_all : (h : History) (w : WorldCore) (changing : List JointEvent) (i : ℕ) (job : Job) (s : SystemState) (stage : JobStage) → (s.job i).client.stage ≡ stage → Here h i job s → AllByRecursion (Evid h w changing i job) (s.job i).session.met → Judged h w changing i job (s.job i).session.met (s.job i).client.pages stage
judge_all h w changing i job s Idle at e a = a
judge_all h w changing i job s (Running g) at e a = a
judge_all h w changing i job s Done at e a = tt
judge_all h w changing i job s (Ended status why) at e a = caused h w changing i job s status why e a (subst (λ (st : JobStage). StageInvariant i (make_for s i) (s.job i) (device_for s i) st) at (e.sound.exchanges i))

met_then : CausesAreGrounded → (h : History) (w : WorldCore) (changing : List JointEvent) (i : ℕ) (job : Job) (s : SystemState) (x : Action) → Here h i job s → Fine (history_up_to h changing) job s → IsUnderWay (s.job i).client.stage → own_of h i x → StepSo h w job s (By i x) → IsEnabled s (By i x) → AllByRecursion (Evid h w changing i job) (s.job i).session.met → AllByRecursion (Evid h w changing i job) ((after_transition s (By i x)).job i).session.met
met_then so h w changing i job s x e f on of step legal a =
    let causes = causes_by i (make_for s i) (listed_devices s) (s.job i) (device_for s i) x in
    let fresh = all_each (Comes i (make_for s i) (s.job i) (device_for s i) x) (Evid h w changing i job) causes (evid h w changing i job s x e f on of step legal) (all_come so i (make_for s i) (listed_devices s) (s.job i) (device_for s i) x legal) in
    subst (AllByRecursion (Evid h w changing i job)) (sym (ap (λ (p : JobState). p.session.met) (own_party s i x) ∙ met_by i (make_for s i) (listed_devices s) (s.job i) (device_for s i) x)) (all_then (Evid h w changing i job) causes (s.job i).session.met fresh a)

-- what a job that is over met changes nothing
more_ended : (h : History) (w : WorldCore) (changing : List JointEvent) (i : ℕ) (job : Job) (old new : List Cause) (status : Status) (why : Why) → ((c : Cause) → IsCauseAmong c old → IsCauseAmong c new) → EndedBy h w changing i job old status why → EndedBy h w changing i job new status why
more_ended h w changing i job old new status why grow (inl (c, e, m, x)) = inl (c, e, grow c m, x)
more_ended h w changing i job old new status why grow (inr n) = inr n

judged_over : (h : History) (w : WorldCore) (changing : List JointEvent) (i : ℕ) (job : Job) (old new : List Cause) (pages : List (List Frame)) (stage : JobStage) → (IsUnderWay stage → ⊥) → ((c : Cause) → IsCauseAmong c old → IsCauseAmong c new) → Judged h w changing i job old pages stage → Judged h w changing i job new pages stage
judged_over h w changing i job old new pages Idle off grow j = absurd (off tt)
judged_over h w changing i job old new pages (Running g) off grow j = absurd (off tt)
judged_over h w changing i job old new pages Done off grow j = tt
judged_over h w changing i job old new pages (Ended status why) off grow j = more_ended h w changing i job old new status why grow j

met_more : (c : Cause) (xs old : List Cause) → IsCauseAmong c old → IsCauseAmong c (xs ++ old)
met_more c [] old m = m
met_more c (x ∷ xs) old m = inr (met_more c xs old m)

grows : (s : SystemState) (i : ℕ) (x : Action) (c : Cause) → IsCauseAmong c (s.job i).session.met → IsCauseAmong c ((after_transition s (By i x)).job i).session.met
grows s i x c m =
    let causes = causes_by i (make_for s i) (listed_devices s) (s.job i) (device_for s i) x in
    subst (IsCauseAmong c) (sym (ap (λ (p : JobState). p.session.met) (own_party s i x) ∙ met_by i (make_for s i) (listed_devices s) (s.job i) (device_for s i) x)) (met_more c causes (s.job i).session.met m)

own_step : Laws → (h : History) (w : WorldCore) (changing : List JointEvent) (i : ℕ) (job : Job) (s : SystemState) (x : Action) (stage : JobStage) → (s.job i).client.stage ≡ stage → Here h i job s → Fine (history_up_to h changing) job s → Here h i job (after_transition s (By i x)) → own_of h i x → StepSo h w job s (By i x) → IsEnabled s (By i x) → JudgedAt h w changing i job s → JudgedAt h w changing i job (after_transition s (By i x))
own_step laws h w changing i job s x Idle at e f now of step legal j =
    judge_all h w changing i job (after_transition s (By i x)) ((after_transition s (By i x)).job i).client.stage refl now
    (met_then laws.grounds h w changing i job s x e f (subst IsUnderWay (sym at) tt) of step legal (subst (Judged h w changing i job (s.job i).session.met (s.job i).client.pages) at j))
own_step laws h w changing i job s x (Running g) at e f now of step legal j =
    judge_all h w changing i job (after_transition s (By i x)) ((after_transition s (By i x)).job i).client.stage refl now
    (met_then laws.grounds h w changing i job s x e f (subst IsUnderWay (sym at) tt) of step legal (subst (Judged h w changing i job (s.job i).session.met (s.job i).client.pages) at j))
own_step laws h w changing i job s x Done at e f now of step legal j =
    let off : IsUnderWay (s.job i).client.stage → ⊥ = λ on. subst IsUnderWay at on in
    subst (λ (m : ClientView). Judged h w changing i job ((after_transition s (By i x)).job i).session.met m.pages m.stage) (sym (laws.last s i x legal off))
    (judged_over h w changing i job (s.job i).session.met ((after_transition s (By i x)).job i).session.met (s.job i).client.pages (s.job i).client.stage off (grows s i x) j)
own_step laws h w changing i job s x (Ended status why) at e f now of step legal j =
    let off : IsUnderWay (s.job i).client.stage → ⊥ = λ on. subst IsUnderWay at on in
    subst (λ (m : ClientView). Judged h w changing i job ((after_transition s (By i x)).job i).session.met m.pages m.stage) (sym (laws.last s i x legal off))
    (judged_over h w changing i job (s.job i).session.met ((after_transition s (By i x)).job i).session.met (s.job i).client.pages (s.job i).client.stage off (grows s i x) j)

abbrev judged_party : History → WorldCore → List JointEvent → ℕ → Job → JobState → Type 0
judged_party h w changing i job p = Judged h w changing i job p.session.met p.client.pages p.client.stage

by_step : Laws → (h : History) (w : WorldCore) (changing : List JointEvent) (i : ℕ) (job : Job) (s : SystemState) (j : ℕ) (x : Action) (b : Bool) → eqb i j ≡ b → Here h i job s → Fine (history_up_to h changing) job s → Here h i job (after_transition s (By j x)) → IsOfOne h (By j x) → StepSo h w job s (By j x) → IsEnabled s (By j x) → JudgedAt h w changing i job s → JudgedAt h w changing i job (after_transition s (By j x))
by_step laws h w changing i job s j x false e here f now of step legal judged = subst (judged_party h w changing i job) (sym (party_stays s j x i e)) judged
by_step laws h w changing i job s j x true e here f now of step legal judged =
    subst (λ (n : ℕ). Here h i job (after_transition s (By n x)) → IsOfOne h (By n x) → StepSo h w job s (By n x) → IsEnabled s (By n x) → JudgedAt h w changing i job (after_transition s (By n x))) (eqb-true i j e)
    (λ behind o r l. own_step laws h w changing i job s x (s.job i).client.stage refl here f behind o r l judged) now of step legal

one_step : Laws → (h : History) (w : WorldCore) (changing : List JointEvent) (i : ℕ) (job : Job) (s : SystemState) (x : Transition) → Here h i job s → Fine (history_up_to h changing) job s → Here h i job (after_transition s x) → IsOfOne h x → StepSo h w job s x → IsEnabled s x → JudgedAt h w changing i job s → JudgedAt h w changing i job (after_transition s x)
one_step laws h w changing i job s (By j x) here f now of step legal judged = by_step laws h w changing i job s j x (eqb i j) refl here f now of step legal judged
one_step laws h w changing i job s (Loads d page) here f now of step legal judged = judged
one_step laws h w changing i job s (Unplugs d) here f now of step legal judged = judged
one_step laws h w changing i job s (Uses u d shown left) here f now of step legal judged = judged

asks_by : (s : SystemState) (j : ℕ) (x : Action) (i : ℕ) (b : Bool) → eqb i j ≡ b → AsksGuarded (s.job i) → AsksGuarded ((after_transition s (By j x)).job i)
asks_by s j x i false e h = subst AsksGuarded (sym (party_stays s j x i e)) h
asks_by s j x i true e h =
    subst (λ (n : ℕ). AsksGuarded ((after_transition s (By n x)).job i)) (eqb-true i j e)
    (subst AsksGuarded (sym (own_party s i x)) (asks_then i (make_for s i) (listed_devices s) (s.job i) (device_for s i) x h))

still_asks : (s : SystemState) (x : Transition) (i : ℕ) → AsksGuarded (s.job i) → AsksGuarded ((after_transition s x).job i)
still_asks s (By j x) i h = asks_by s j x i (eqb i j) refl h
still_asks s (Loads d page) i h = h
still_asks s (Unplugs d) i h = h
still_asks s (Uses u d shown left) i h = h

pub here_then : Laws → (h : History) (w : WorldCore) (i : ℕ) (job : Job) (s : SystemState) (x : Transition) → Here h i job s → IsOfOne h x → IsEnabled s x → Here h i job (after_transition s x)
here_then laws h w i job s x e of legal = record {
  own_job = e.own_job;
  fine = fine_then laws.legal h job s x e.sound legal of e.fine;
  is = job_same s x i ∙ e.is;
  asks = still_asks s x i e.asks;
  sound = laws.sound s (x ∷ []) e.sound (legal, tt);
}

pub all_judged : Laws → (h : History) (w : WorldCore) (changing : List JointEvent) (i : ℕ) (job : Job) (xs : List Transition) (s : SystemState) → Here h i job s → Fine (history_up_to h changing) job s → AllByRecursion (IsOfOne h) xs → AllByRecursion (IsOfOne (history_up_to h changing)) xs → AllAlong (StepSo h w job) s xs → IsHistory s xs → JudgedAt h w changing i job s → JudgedAt h w changing i job (after_all s xs)
all_judged laws h w changing i job [] s e f of those steps legal j = j
all_judged laws h w changing i job (x ∷ xs) s e f of those steps legal j =
    let now = here_then laws h w i job s x e of.0 legal.0 in
    let fine = fine_then laws.legal (history_up_to h changing) job s x e.sound legal.0 those.0 f in
    all_judged laws h w changing i job xs (after_transition s x) now fine of.1 those.1 steps.1 legal.1 (one_step laws h w changing i job s x e f now of.0 steps.0 legal.0 j)
