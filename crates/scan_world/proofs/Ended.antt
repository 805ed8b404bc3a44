-- A job that ended has its cause, of the world in front of the event.
use Rattle.std.specs.Prelude.{option_map, map, length, slice_get, slice_index_or}
use Rattle.std.specs.List.{AllByRecursion}
use Rattle.std.proofs.Common.{◌≡◌, ◌≢◌, ◌∙◌, ◌⊎◌, ℕ, List, Bool, true, Option, Some, None, inl, inr, refl, sym, ap, subst, ◌∷◌, []}
use Rattle.std.proofs.lemmas.Option.{get_or_from_slice_get}
use Rattle.sane_fixed.specs.declared.device_info.DeviceInfo.{DeviceInfo}
use Rattle.sane_fixed.specs.declared.status.Status.{Status}
use Rattle.sane_fixed.specs.declared.status.Status.TheVariants as codes
use Rattle.page_picture.specs.Shows.{Frame}
use Rattle.md5_auth.specs.declared.users.Entry.{Entry}
use Rattle.device_api.specs.InForce as devices
use Rattle.device_api.specs.State.{DeviceState}
use Rattle.scan_frames.specs.declared.setup.Setup.{Setup}
use Rattle.frame_join.specs.FrameHistory.{JoinHistory}
use Rattle.scan_job.specs.declared.job.Job.{Job}
use Rattle.scan_job.specs.declared.outcome.Outcome.{Outcome}
use Rattle.scan_job.specs.declared.outcome.Outcome.TheVariants as outcomes
use Rattle.scan_job.specs.declared.outcome.Why.{Why}
use Rattle.scan_job.specs.declared.outcome.Why.TheVariants as whys
use Rattle.client_replies.specs.ProtocolStates.{target_of}
use Rattle.client_replies.specs.declared.progress.JobTarget.{JobTarget}
use Rattle.client_replies.specs.declared.progress.Progress.{Progress}
use Rattle.client_replies.specs.declared.progress.Notes.{Notes}
use Rattle.client_refines.specs.ClientRefinement.{EndedAs, OutcomeRefines, requested_setting}
use Rattle.system_model.specs.AbstractInForce.{SettingsResult, abstract_in_force}
use Rattle.system_model.specs.Causes.{Cause, Explains, GaveUp, LinkLost, LinkOutOfMemory, SourceFailed, NamesEof, Names, Unforced, WasUnlisted, HadNoPicture, WasHeld, Disallowed, TrayWasEmpty, TrayRanOut, ClientOutOfMemory, IsCauseAmong, WasUnsaid}
use Rattle.system_model.specs.Client as model
use Rattle.system_model.specs.Client.{JobStage, Idle, Running, Done, Ended, ClientView}
use Rattle.system_model.specs.Devices.{Make}
use Rattle.system_model.specs.SystemStates.{SystemState}
use Rattle.system_model.specs.Transitions.{IsUnderWay, Transition, after_all, after_transition}
use Rattle.event_world.specs.declared.endpoint.Endpoint.{Endpoint}
use Rattle.event_world.specs.declared.event.Event.TheVariants.{LoseControl}
use Rattle.event_world.specs.JobMoves.{IsNextMove}
use Rattle.event_world.specs.Worlds.{WorldCore}
use Rattle.world_refines.specs.FailedSources.{AllAlong}
use Rattle.page_sources.specs.SourceView.{source_state}
use Rattle.world_refines.specs.GhostStates.{Ghost, job_state, place_of_info, abstract_job}
use Rattle.world_refines.specs.MainTheorem.{AreFittingLoads}
use Rattle.world_refines.specs.NewWorlds.{HaveSourcesAt, PageSources, make_of}
use Rattle.world_refines.specs.WorldRefinement.{client_at_greeting}
use Rattle.strangers.specs.Together.{JointEvent, events_among}
use Rattle.strangers.specs.Together.JointEvent.{OfJobs}
use Rattle.scan_world.specs.Calls.{HadUnsaidReply}
use Rattle.scan_world.specs.Endings.{IsUnforced, NamesStatus}
use Rattle.scan_world.specs.Histories.{History, LedTo, history_up_to}
use Rattle.scan_world.specs.Laws.{Below}
use Rattle.scan_world.proofs.Along.{Fine, Here, Laws, NotForced, Own, device_named, forced_there}
use Rattle.scan_world.proofs.Jobs.{IsJob}
use Rattle.scan_world.proofs.Lists.{all_each}
use Rattle.scan_world.proofs.Nearest.{none_nearest}
use Rattle.scan_world.proofs.OfJobs.{all_of_jobs}
use Rattle.scan_world.proofs.Rows.{AnswerEver, EndingEver}
use Rattle.scan_world.proofs.Pages.{IsOfOne, all_of_one, first_slot}
use Rattle.scan_world.proofs.Scanned.{at_first, ghost_by, infos_of, may_first, untouched_by}
use Rattle.scan_world.proofs.Changing.{came_among, changing_among, changing_in}
use Rattle.scan_world.proofs.Sources.{CanFail, all_fit, can_fail_at, have_sources, loads_fit, sources_of}
use Rattle.scan_world.proofs.Elsewhere.{elsewhere}
use Rattle.scan_world.proofs.Joint.{among_events, each_of_any, events_in}
use Rattle.scan_world.proofs.moments.Judged.{EndedBy, Evid, Judged, JudgedAt, all_judged, among_met}
use Rattle.scan_world.proofs.moments.Moments.{AnsweredSo, Comes, HappenedSo, come}
use Rattle.scan_world.proofs.moments.Refusals.{IsFound, was_found}

-- ---- what is told

none_by : (r : Option (Setup × List devices.Placement)) → option_map (λ (x : Setup × List devices.Placement). x.0) r ≡ None → r ≡ None
none_by None e = refl
none_by (Some r) e = absurd (let clash : Some r.0 ≡ None = e in cc)

unforced : (h : History) (i : ℕ) (job : Job) → Own h i job → NotForced h job → IsUnforced h job
unforced h i job o none = (
  none.0,
  λ s.
      let device = s.device in
      let at = device_named h job.device device o.apart s.is_there s.named in
      let b = none.1.0 in
      let ruled : abstract_in_force (make_of b (Some device)) (map requested_setting job.settings.items) ≡ None = subst (λ (x : Option DeviceState). abstract_in_force (make_of b x) (map requested_setting job.settings.items) ≡ None) at none.1.1 in
      none_nearest device.setup.scene.kind device.setup.order job.settings.items (none_by (devices.in_force device.setup.scene.kind device.setup.order job.settings.items) (sym (forced_there o.same (make_of b (Some device)) job) ∙ ap (option_map (λ (f : SettingsResult). f.options)) ruled)) s.placed s.setup s.in_force,
)

-- ---- the table

explained_as : (h : History) (w : WorldCore) (changing : List JointEvent) (i : ℕ) (job : Job) (starved : Bool) (status : Status) (why as_why : Why) → why ≡ as_why → EndingEver h w changing i job starved status as_why → EndingEver h w changing i job starved status why
explained_as h w changing i job starved status why as_why e x = subst (EndingEver h w changing i job starved status) (sym e) x

answered_as : (h : History) (w : WorldCore) (changing : List JointEvent) (i : ℕ) (job : Job) (starved : Bool) (status as_status : Status) (why : Why) → (status ≡ as_status) × (why ≡ whys.Answer) → AnswerEver h w changing i job as_status → EndingEver h w changing i job starved status why
answered_as h w changing i job starved status as_status why e x = explained_as h w changing i job starved status why whys.Answer e.1 (inr (subst (AnswerEver h w changing i job) (sym e.0) x))

row : (h : History) (w : WorldCore) (changing : List JointEvent) (i : ℕ) (job : Job) (starved : Bool) (status : Status) (why : Why) (c : Cause) → (c ≡ LinkOutOfMemory → starved ≡ true) → Evid h w changing i job c → Explains c status why → EndingEver h w changing i job starved status why
row h w changing i job starved status why GaveUp z e x = explained_as h w changing i job starved status why whys.Cancelled x.1 (x.0, e)
row h w changing i job starved status why LinkLost z e x = explained_as h w changing i job starved status why whys.Lost x.1 (x.0, inl e)
row h w changing i job starved status why WasUnsaid z e x = absurd x
row h w changing i job starved status why LinkOutOfMemory z e x = explained_as h w changing i job starved status why whys.Lost x.1 (x.0, inr (z refl))
row h w changing i job starved status why SourceFailed z e x = answered_as h w changing i job starved status codes.IoError why x e
row h w changing i job starved status why NamesEof z e x =
    explained_as h w changing i job starved status why whys.Short x.1 (x.0, e)
row h w changing i job starved status why (Names s) z e x =
    let named : NamesStatus h w i job status = (e.0, e.1, (e.2.0, e.2.1 ∙ ap (λ (y : Status). Some y) (sym x.0))) in
    let other : status ≢ codes.Eof = λ eof. x.1 (sym x.0 ∙ eof) in
    explained_as h w changing i job starved status why whys.Answer x.2 (inl (other, named))
row h w changing i job starved status why Unforced z e x = absurd e
row h w changing i job starved status why WasUnlisted z e x = answered_as h w changing i job starved status codes.Inval why x (inr (inl e))
row h w changing i job starved status why HadNoPicture z e x = answered_as h w changing i job starved status codes.Inval why x (inr (inr e))
row h w changing i job starved status why WasHeld z e x = answered_as h w changing i job starved status codes.DeviceBusy why x e
row h w changing i job starved status why Disallowed z e x = answered_as h w changing i job starved status codes.AccessDenied why x e
row h w changing i job starved status why TrayWasEmpty z e x = answered_as h w changing i job starved status codes.NoDocs why x e
row h w changing i job starved status why TrayRanOut z e x = absurd x
row h w changing i job starved status why ClientOutOfMemory z e x = explained_as h w changing i job starved status why whys.Memory x.1 (x.0, e)

-- settings that cannot be in force
unforced_row : (h : History) (w : WorldCore) (changing : List JointEvent) (i : ℕ) (job : Job) (starved : Bool) (status : Status) (why : Why) → status ≡ codes.Inval → (why ≡ whys.Setting) ⊎ (why ≡ whys.Answer) → IsUnforced h job → IsFound h w i job why → EndingEver h w changing i job starved status why
unforced_row h w changing i job starved status why inval (inl e) none (inl opened) = explained_as h w changing i job starved status why whys.Setting e (inval, none, opened.0)
unforced_row h w changing i job starved status why inval (inr e) none (inl opened) = answered_as h w changing i job starved status codes.Inval why (inval, e) (inl (none, opened.0))
unforced_row h w changing i job starved status why inval reason none (inr (e, unlisted)) = answered_as h w changing i job starved status codes.Inval why (inval, e) (inr (inl unlisted))

table : (h : History) (w : WorldCore) (changing : List JointEvent) (i : ℕ) (job : Job) (starved : Bool) (met : List Cause) (status : Status) (why : Why) → Own h i job → (IsCauseAmong LinkOutOfMemory met → starved ≡ true) → (status ≡ codes.Inval → IsFound h w i job why) → EndedBy h w changing i job met status why → EndingEver h w changing i job starved status why
table h w changing i job starved met status why o z found (inl (c, e, m, x)) = row h w changing i job starved status why c (λ same. z (subst (λ (y : Cause). IsCauseAmong y met) same m)) e x
table h w changing i job starved met status why o z found (inr n) = unforced_row h w changing i job starved status why n.1.0 n.1.1 (unforced h i job o n.0) (found n.1.0)

-- ---- the job at its end

pub woken_ended : (st : JobStage) (m : ClientView) (status : Status) (why : Why) → m.stage ≡ st → (client_at_greeting st m).stage ≡ Ended status why → st ≡ Ended status why
woken_ended Idle m status why e h = absurd (let clash : Running model.Greeting ≡ Ended status why = h in cc)
woken_ended (Running g) m status why e h = sym e ∙ h
woken_ended Done m status why e h = sym e ∙ h
woken_ended (Ended s w) m status why e h = sym e ∙ h

pub ended_reads : (place : DeviceInfo → ℕ) (errand : JobTarget) (job : model.AbstractJob) (pages : List (List Frame)) (o : Outcome) (progress : Progress) (notes : Notes) (past : JoinHistory) (m : ClientView) (status : Status) (why : Why) → OutcomeRefines place errand job pages o progress notes past m → o ≡ outcomes.Ended status why → EndedAs status why m
ended_reads place errand job pages o progress notes past m status why h e = subst (λ (x : Outcome). OutcomeRefines place errand job pages x progress notes past m) e h

both_along : (P Q : SystemState → Transition → Type 0) (s : SystemState) (xs : List Transition) → AllAlong P s xs → AllAlong Q s xs → AllAlong (λ (t : SystemState) (x : Transition). P t x × Q t x) s xs
both_along P Q s [] a b = tt
both_along P Q s (x ∷ xs) a b = ((a.0, b.0), both_along P Q (after_transition s x) xs a.1 b.1)

-- what never changes of the devices, where their sources are such as these
abbrev pub make_by : History → (ℕ → PageSources) → ℕ → Make
make_by h sources d = make_of (sources d) (slice_get h.devices d)

-- the steps of the events that change the world, where so much is known of the pages that come with these
pub comes_by : (below : Below) (h : History) (w : WorldCore) (job : Job) (l : LedTo h w) (sources : ℕ → PageSources) → HaveSourcesAt sources h.devices → AreFittingLoads source_state (infos_of h) (make_by h sources) (events_among (changing_in h w l)) → Comes h w job (changing_in h w l) (ghost_by h w job l sources)
comes_by below h w job l sources haves fits =
    let t = ghost_by h w job l sources in
    let may = may_first below.kept h w job l sources haves in
    let first : LedTo (history_up_to h []) l.first = record { first = l.first; endpoints = l.endpoints; daemon = l.daemon; users_are = l.users_are; seeded = l.seeded; names = l.names; limits = l.limits; fit = l.fit; loads = tt; runs = refl } in
    come (record { follow = below.follows; goes = below.goes; acts = below.acts; keeps = below.histories; last = below.last; all = below.kept }) h w job (make_by h sources) h.events [] t l.first refl first l.loads l.runs fits may (ap (λ (users : List Entry). (users, infos_of h, length h.jobs, λ (k : ℕ). slice_index_or h.jobs k (elsewhere h.devices job))) l.users_are) refl

pub comes_there : (below : Below) (h : History) (w : WorldCore) (job : Job) (l : LedTo h w) → Comes h w job (changing_in h w l) (at_first h w job l)
comes_there below h w job l = comes_by below h w job l (sources_of h) (have_sources h) (all_fit h (events_among (changing_in h w l)) (λ e among. among_events h.events e (changing_among h w l (OfJobs e) (events_in (changing_in h w l) e among))))

-- of devices of which no more is known than what came with these
abbrev pub of_changing : (h : History) (w : WorldCore) → LedTo h w → History
of_changing h w l = history_up_to h (changing_in h w l)

abbrev pub changed_first : (h : History) (w : WorldCore) (job : Job) → LedTo h w → Ghost
changed_first h w job l = ghost_by h w job l (sources_of (of_changing h w l))

pub comes_changing : (below : Below) (h : History) (w : WorldCore) (job : Job) (l : LedTo h w) → Comes h w job (changing_in h w l) (changed_first h w job l)
comes_changing below h w job l = comes_by below h w job l (sources_of (of_changing h w l)) (have_sources (of_changing h w l)) (loads_fit (of_changing h w l))

pub laws_of : Below → Laws
laws_of below = record { legal = below.marks; sound = below.histories; last = below.last; grounds = below.grounds }

-- a page that can fail comes for a device whose source may
abbrev pub FailuresCame : History → History → (ℕ → PageSources) → Type 0
FailuresCame h g sources = (d : ℕ) → (sources d).fallible ≡ true → (device : DeviceState) → slice_get h.devices d ≡ Some device → CanFail g device.info.name

pub failures_more : (h : History) (w : WorldCore) (l : LedTo h w) (sources : ℕ → PageSources) → FailuresCame h (of_changing h w l) sources → FailuresCame h h sources
failures_more h w l sources fails d able device at =
    let r = fails d able device at in
    (r.0, came_among h (changing_in h w l) (changing_among h w l) device.info.name r.0 r.1, r.2)

pub failures_changing : (h : History) (w : WorldCore) (l : LedTo h w) → FailuresCame h (of_changing h w l) (sources_of (of_changing h w l))
failures_changing h w l d able device at = can_fail_at (of_changing h w l) d device at able

-- what the first step of it needs
pub fine_first : (h : History) (w : WorldCore) (job : Job) (l : LedTo h w) (sources : ℕ → PageSources) (changing : List JointEvent) → FailuresCame h (history_up_to h changing) sources → Fine (history_up_to h changing) job (ghost_by h w job l sources).system
fine_first h w job l sources changing fails = record {
  makes = λ d. record { sources = sources d; is = refl; fails = fails d };
  places = λ n. refl;
  slots = λ d. first_slot (history_up_to h changing) ((ghost_by h w job l sources).system.make d) d;
}

pub first_by : (below : Below) (h : History) (w : WorldCore) (i : ℕ) (job : Job) (l : LedTo h w) (sources : ℕ → PageSources) → HaveSourcesAt sources h.devices → FailuresCame h h sources → slice_get h.jobs i ≡ Some job → Here h i job (ghost_by h w job l sources).system
first_by below h w i job l sources haves fails job_at =
    let t = ghost_by h w job l sources in
    let new = (may_first below.kept h w job l sources haves).refines in
    record {
      own_job = record { at = job_at; apart = new.is_of.apart; same = below.same };
      fine = record { makes = λ d. record { sources = sources d; is = refl; fails = fails d }; places = λ n. refl; slots = λ d. first_slot h (t.system.make d) d };
      is = ap (λ (users : List Entry). abstract_job users (infos_of h) (slice_index_or h.jobs i (elsewhere h.devices job))) l.users_are ∙ ap (λ (x : Job). abstract_job h.users (infos_of h) x) (get_or_from_slice_get h.jobs i job (elsewhere h.devices job) job_at);
      asks = λ c is. absurd (let clash : None ≡ Some c = is in cc);
      sound = new.sound;
    }

pub first_here : (below : Below) (h : History) (w : WorldCore) (i : ℕ) (job : Job) (l : LedTo h w) → slice_get h.jobs i ≡ Some job → Here h i job (at_first h w job l).system
first_here below h w i job l job_at = first_by below h w i job l (sources_of h) (have_sources h) (λ d able device at. can_fail_at h d device at able) job_at

pub steps_of_changing : (h : History) (w : WorldCore) (job : Job) (l : LedTo h w) (sources : ℕ → PageSources) (k : Comes h w job (changing_in h w l) (ghost_by h w job l sources)) → AllByRecursion (IsOfOne (of_changing h w l)) k.steps
steps_of_changing h w job l sources k =
    let t = ghost_by h w job l sources in
    all_of_one (of_changing h w l) k.steps
    (each_of_any (changing_in h w l) t k.steps k.ghost_then k.comes)
    (all_of_jobs (changing_in h w l) t k.steps k.ghost_then (untouched_by h w job l sources) k.comes)

pub steps_by : (h : History) (w : WorldCore) (job : Job) (l : LedTo h w) (sources : ℕ → PageSources) (k : Comes h w job (changing_in h w l) (ghost_by h w job l sources)) → AllByRecursion (IsOfOne h) k.steps
steps_by h w job l sources k =
    all_each (IsOfOne (of_changing h w l)) (IsOfOne h) k.steps (λ x o. record { event = o.event; among = changing_among h w l o.event o.among; is = o.is; there = o.there })
    (steps_of_changing h w job l sources k)

pub steps_of_one : (below : Below) (h : History) (w : WorldCore) (job : Job) (l : LedTo h w) → AllByRecursion (IsOfOne h) (comes_there below h w job l).steps
steps_of_one below h w job l = steps_by h w job l (sources_of h) (comes_there below h w job l)

-- each cause that a job met that is under way has its evidence, and its ending has its own
pub judged_there : (below : Below) (h : History) (w : WorldCore) (i : ℕ) (job : Job) (l : LedTo h w) → slice_get h.jobs i ≡ Some job → JudgedAt h w (changing_in h w l) i job (comes_changing below h w job l).ghost_then.system
judged_there below h w i job l job_at =
    let g = of_changing h w l in
    let k = comes_changing below h w job l in
    let t = changed_first h w job l in
    let here = first_by below h w i job l (sources_of g) (have_sources g) (failures_more h w l (sources_of g) (failures_changing h w l)) job_at in
    let fine = fine_first h w job l (sources_of g) (changing_in h w l) (failures_changing h w l) in
    subst (JudgedAt h w (changing_in h w l) i job) (sym k.rules_are)
    (all_judged (laws_of below) h w (changing_in h w l) i job k.steps t.system here fine (steps_by h w job l (sources_of g) k) (steps_of_changing h w job l (sources_of g) k) (both_along (AnsweredSo h w job) (HappenedSo h w job) t.system k.steps k.answered k.happened) k.legal tt)

-- a job that ended with INVAL had opened its device, or that was not listed
found_there : Below → (h : History) (w : WorldCore) (i : ℕ) (job : Job) (endpoint : Endpoint) (status : Status) (why : Why) → (j : IsJob h w i job endpoint) → endpoint.client.outcome ≡ outcomes.Ended status why → status ≡ codes.Inval → IsFound h w i job why
found_there below h w i job endpoint status why j is inval =
    let k = comes_there below h w job j.led in
    let t = at_first h w job j.led in
    let u = k.ghost_then in
    let sits = k.stands.endpoints i endpoint j.endpoint_at in
    let d = ended_reads (place_of_info u.infos) (target_of (u.jobs i)) (job_state u i).session.job (map (λ (q : JoinHistory). q.ended) (u.pages i)) endpoint.client.outcome endpoint.client.progress endpoint.client.notes (u.history i) (client_at_greeting (job_state u i).client.stage (job_state u i).client) status why sits.exchanges.reads.stands is in
    let stage : (job_state u i).client.stage ≡ Ended status why = woken_ended (job_state u i).client.stage (job_state u i).client status why refl d in
    let ended : ((after_all t.system k.steps).job i).client.stage ≡ Ended codes.Inval why = ap (λ (s : SystemState). (s.job i).client.stage) (sym k.rules_are) ∙ (stage ∙ ap (λ (x : Status). Ended x why) inval) in
    was_found (laws_of below) h w i job k.steps t.system (first_here below h w i job j.led j.job_at) (steps_of_one below h w job j.led) k.answered k.legal (tt, tt) (tt, λ none. absurd none) why ended

pub at_end : Below → (h : History) (w : WorldCore) (i : ℕ) (job : Job) (endpoint : Endpoint) (status : Status) (why : Why) → (j : IsJob h w i job endpoint) → endpoint.client.outcome ≡ outcomes.Ended status why → EndingEver h w (changing_in h w j.led) i job endpoint.out_of_memory status why
at_end below h w i job endpoint status why j is =
    let k = comes_changing below h w job j.led in
    let u = k.ghost_then in
    let o = (first_here below h w i job j.led j.job_at).own_job in
    let sits = k.stands.endpoints i endpoint j.endpoint_at in
    let d = ended_reads (place_of_info u.infos) (target_of (u.jobs i)) (job_state u i).session.job (map (λ (q : JoinHistory). q.ended) (u.pages i)) endpoint.client.outcome endpoint.client.progress endpoint.client.notes (u.history i) (client_at_greeting (job_state u i).client.stage (job_state u i).client) status why sits.exchanges.reads.stands is in
    let stage = woken_ended (job_state u i).client.stage (job_state u i).client status why refl d in
    let judged = subst (Judged h w (changing_in h w j.led) i job (job_state u i).session.met (job_state u i).client.pages) stage (judged_there below h w i job j.led j.job_at) in
    table h w (changing_in h w j.led) i job endpoint.out_of_memory (job_state u i).session.met status why o sits.means.starved (found_there below h w i job endpoint status why j is) judged

-- ---- a reply that could not be said

unsaid_judged : (h : History) (w : WorldCore) (changing : List JointEvent) (i : ℕ) (job : Job) (met : List Cause) (pages : List (List Frame)) (stage : JobStage) → IsUnderWay stage → Judged h w changing i job met pages stage → IsCauseAmong WasUnsaid met → HadUnsaidReply h w i job
unsaid_judged h w changing i job met pages Idle on a m = among_met h w changing i job WasUnsaid met a m
unsaid_judged h w changing i job met pages (Running g) on a m = among_met h w changing i job WasUnsaid met a m
unsaid_judged h w changing i job met pages Done on a m = absurd on
unsaid_judged h w changing i job met pages (Ended status why) on a m = absurd on

pub loss_kept : (below : Below) (h : History) (w : WorldCore) (i : ℕ) (job : Job) (endpoint : Endpoint) → IsJob h w i job endpoint → IsNextMove w.daemon i endpoint (Some (LoseControl i)) → (endpoint.out_of_memory ≡ true) ⊎ HadUnsaidReply h w i job
loss_kept below h w i job endpoint j next =
    let k = comes_changing below h w job j.led in
    let u = k.ghost_then in
    elim (below.losses u w i endpoint k.stands j.endpoint_at next) [
      | inl out ↦ inl out
      | inr met ↦ inr (unsaid_judged h w (changing_in h w j.led) i job (job_state u i).session.met (job_state u i).client.pages (job_state u i).client.stage met.0 (judged_there below h w i job j.led j.job_at) met.1)
    ]
