-- What came before a job was over: a history has a front behind which the job shows what it shows in the end, and of whose events each
-- came as it ran.
use Rattle.std.specs.Prelude.{◌≢◌, IsSome, option_map, option_and_then, slice_get}
use Rattle.std.proofs.Common.{◌≡◌, ◌∙◌, ◌⊎◌, ℕ, List, [], ◌∷◌, ◌++◌, Bool, true, false, Option, Some, None, inl, inr, refl, sym, ap, subst, append_assoc}
use Rattle.page_picture.specs.Page.{PageView}
use Rattle.page_sources.specs.SourceView.{source_state}
use Rattle.page_sources.specs.declared.kinds.Source.{Source}
use Rattle.sane_fixed.specs.declared.status.Status.{Status}
use Rattle.sane_fixed.specs.declared.status.Status.TheVariants as statuses
use Rattle.data_records.specs.Records.{end_record}
use Rattle.device_api.specs.State.{HeldPage, held_from}
use Rattle.client_replies.specs.ProtocolStates.{is_lost_by}
use Rattle.client_replies.specs.declared.progress.Link.TheVariants as links
use Rattle.client_replies.specs.declared.progress.Progress.{Progress}
use Rattle.saned_core.specs.declared.session_slot.DataStep.{DataStep}
use Rattle.saned_core.specs.declared.session_slot.DataStep.TheVariants as steps
use Rattle.saned_core.specs.DaemonStates.{Core}
use Rattle.scan_job.specs.declared.job.Job.{Job}
use Rattle.scan_job.specs.declared.outcome.Outcome.{Outcome}
use Rattle.scan_job.specs.declared.outcome.Outcome.TheVariants.{Running, Done, Ended}
use Rattle.scan_job.specs.declared.outcome.Why.{Why}
use Rattle.scan_job.specs.declared.outcome.Why.TheVariants as whys
use Rattle.system_model.specs.Transitions.{IsUnderWay}
use Rattle.event_world.specs.declared.endpoint.Endpoint.{Endpoint}
use Rattle.event_world.specs.declared.endpoint.Image.{Image}
use Rattle.event_world.specs.declared.event.Event.{Event}
use Rattle.event_world.specs.declared.event.Event.TheVariants.{DataTurn, Load, ToDaemon}
use Rattle.event_world.specs.declared.event.JobEvent.TheVariants as moves
use Rattle.event_world.specs.Endpoints.{after_move, image_out_of_memory}
use Rattle.event_world.specs.JobEvents.{SendsRecord, SendsStep}
use Rattle.event_world.specs.Worlds.{Runs, WorldCore}
use Rattle.strangers.specs.Among.{StrangerAct}
use Rattle.event_world.proofs.Deciding.{can_or_not}
use Rattle.event_world.proofs.Events.{linked_by}
use Rattle.world_refines.specs.FailedSources.{FailedIn}
use Rattle.world_refines.specs.MainTheorem.{AreTrueLoads}
use Rattle.world_refines.specs.WorldPromises.{IsOutcome}
use Rattle.strangers.specs.Together.{AllIsKeptAmongStrangers, JointEvent, RunsAmong, events_among}
use Rattle.strangers.specs.Together.JointEvent.{OfJobs, OfStranger}
use Rattle.scan_world.specs.Calls.{IsJobAt, JobStays, outcome_at}
use Rattle.scan_world.specs.Endings.{AnswerIsExplained, DeviceFailed, HadFailed, HadNoPicture, HasPassed, IsEndingExplained, NamesStatus, SendsFailure, WasOpened}
use Rattle.scan_world.specs.Histories.{History, LedTo, Moment, history_up_to}
use Rattle.scan_world.specs.Laws.{Below}
use Rattle.scan_world.specs.Page.{CameFor, CameInTime, IsScan, IsSteady, Settled, StartedOn}
use Rattle.scan_world.specs.Page.CameFor.{AtFirst, WithEvent}
use Rattle.scan_world.specs.Page.CameInTime.{FromFirst, AsItRan}
use Rattle.scan_world.specs.Sessions.{Asked, AtJob, Happened}
use Rattle.scan_world.proofs.Ended.{at_end}
use Rattle.scan_world.proofs.Jobs.{IsJob}
use Rattle.scan_world.proofs.Led.{first_runs, led_on, led_then, runs_then}
use Rattle.scan_world.proofs.Lists.{In, in_list}
use Rattle.scan_world.proofs.Over.{at_own, lost_runs, over_among}
use Rattle.scan_world.proofs.Rows.{AnswerEver, EndingEver, HadNoPictureEver, IsScanEver, MayHaveFailed, RunsAt, SendsOrLoses, image_at}
use Rattle.scan_world.proofs.Scanned.{kept_by}
use Rattle.scan_world.proofs.Sources.{CanFail}
use Rattle.scan_world.proofs.Changing.{LoadChanges, changes_or_same, changing_in, changing_of, with_changing}
use Rattle.scan_world.proofs.There.{endpoint_there}
use Rattle.scan_world.proofs.moments.Entries.{set_here, unsome}
use Rattle.scan_world.proofs.moments.Filed.{SteadyRun}
use Rattle.scan_world.proofs.moments.ImageLost.{counts_there}

-- ---- up to the event behind which the job is over

-- each page that is laid in by these came as the job ran and changed the world
abbrev pub CameSo : History → WorldCore → ℕ → List JointEvent → Type 0
CameSo h w i es = (name : List ℕ) (source : Source) → In (OfJobs (Load name source)) es → Happened h w i (Load name source)

pub record Until (h : History) (w : WorldCore) (i : ℕ) : Type 0 where
  pub front : List JointEvent
  pub back : List JointEvent
  pub split : h.events ≡ front ++ back
  pub at : WorldCore
  pub led : LedTo (history_up_to h front) at
  pub rest : RunsAmong source_state back at w
  pub stays : JobStays at w i
  pub came : CameSo h w i (changing_in (history_up_to h front) at led)

stays_same : (w : WorldCore) (i : ℕ) → JobStays w w i
stays_same w i = record { outcome = refl; file = refl; finished = refl; pages = λ k. refl }

-- from a world on: events in front of which the job runs, and then those behind which it is over
record From (h : History) (w : WorldCore) (i : ℕ) (es : List JointEvent) (u : WorldCore) : Type 0 where
  front : List JointEvent
  back : List JointEvent
  split : es ≡ front ++ back
  at : WorldCore
  loads : AreTrueLoads source_state (events_among front)
  run : RunsAmong source_state front u at
  rest : RunsAmong source_state back at w
  stays : JobStays at w i
  came : CameSo h w i (changing_of front u at run)

came_more : (h : History) (w : WorldCore) (i : ℕ) (e : Event) (m : Moment h w e) → RunsAt m.before i → (c : LoadChanges e m.before m.behind ⊎ (m.behind ≡ m.before)) (es : List JointEvent) → CameSo h w i es → CameSo h w i (with_changing c (OfJobs e) es)
came_more h w i e m ran (inl changes) es came name source (inl is) =
    let same : Load name source ≡ e = (let both : OfJobs (Load name source) ≡ OfJobs e = is in cc) in
    subst (λ (x : Event). (at : Moment h w x) × (RunsAt at.before i × LoadChanges x at.before at.behind)) (sym same) (m, (ran, changes))
came_more h w i e m ran (inl changes) es came name source (inr there) = came name source there
came_more h w i e m ran (inr same) es came name source there = came name source there

came_behind : (h : History) (w : WorldCore) (i : ℕ) (a : StrangerAct) (es : List JointEvent) → CameSo h w i es → CameSo h w i (OfStranger a ∷ es)
came_behind h w i a es came name source (inl is) = absurd (let clash : OfJobs (Load name source) ≡ OfStranger a = is in cc)
came_behind h w i a es came name source (inr there) = came name source there

outcome_is : (w : WorldCore) (i : ℕ) (p : Endpoint) (o : Outcome) → slice_get w.endpoints i ≡ Some p → p.client.outcome ≡ o → outcome_at w i ≡ Some o
outcome_is w i p o at is = ap (option_map (λ (q : Endpoint). q.client.outcome)) at ∙ ap (λ (x : Outcome). Some x) is

here_over : (h : History) (w u : WorldCore) (i : ℕ) (es : List JointEvent) (o : Outcome) → RunsAmong source_state es u w → outcome_at u i ≡ Some o → o ≢ Running → From h w i es u
here_over h w u i es o run is over = record { front = []; back = es; split = refl; at = u; loads = tt; run = refl; rest = run; stays = over_among es u w run i o is over; came = λ name source none. absurd none }

from_here : Below → (h : History) (w : WorldCore) (i : ℕ) (job : Job) → slice_get h.jobs i ≡ Some job → (es seen : List JointEvent) (u : WorldCore) → h.events ≡ seen ++ es → LedTo (history_up_to h seen) u → AreTrueLoads source_state (events_among es) → RunsAmong source_state es u w → (p : Endpoint) → slice_get u.endpoints i ≡ Some p → (o : Outcome) → p.client.outcome ≡ o → From h w i es u
from_here below h w i job at [] seen u split led loads run p there o is = record { front = []; back = []; split = refl; at = u; loads = tt; run = refl; rest = run; stays = subst (λ (x : WorldCore). JobStays u x i) (sym run) (stays_same u i); came = λ name source none. absurd none }
from_here below h w i job at (OfStranger a ∷ es) seen u split led loads run p there (Done reports) is = here_over h w u i (OfStranger a ∷ es) (Done reports) run (outcome_is u i p (Done reports) there is) (λ r. cc)
from_here below h w i job at (OfStranger a ∷ es) seen u split led loads run p there (Ended status why) is = here_over h w u i (OfStranger a ∷ es) (Ended status why) run (outcome_is u i p (Ended status why) there is) (λ r. cc)
from_here below h w i job at (OfJobs e ∷ es) seen u split led loads run p there (Done reports) is = here_over h w u i (OfJobs e ∷ es) (Done reports) run (outcome_is u i p (Done reports) there is) (λ r. cc)
from_here below h w i job at (OfJobs e ∷ es) seen u split led loads run p there (Ended status why) is = here_over h w u i (OfJobs e ∷ es) (Ended status why) run (outcome_is u i p (Ended status why) there is) (λ r. cc)
from_here below h w i job at (OfStranger a ∷ es) seen u split led loads (v, acts, rest) p there Running is =
    let on : LedTo (history_up_to h (seen ++ OfStranger a ∷ [])) v = led_on (history_up_to h seen) (OfStranger a ∷ []) u v led tt (v, acts, refl) in
    let q = endpoint_there below (history_up_to h (seen ++ OfStranger a ∷ [])) v i job (record { led = on; job_at = at }) in
    let r = from_here below h w i job at es (seen ++ OfStranger a ∷ []) v (split ∙ sym (append_assoc seen (OfStranger a ∷ []) es)) on loads rest q.0 q.1.endpoint_at q.0.client.outcome refl in
    record {
      front = OfStranger a ∷ r.front;
      back = r.back;
      split = ap (λ (xs : List JointEvent). OfStranger a ∷ xs) r.split;
      at = r.at;
      loads = r.loads;
      run = (v, acts, r.run);
      rest = r.rest;
      stays = r.stays;
      came = came_behind h w i a (changing_of r.front v r.at r.run) r.came;
    }
from_here below h w i job at (OfJobs e ∷ es) seen u split led loads (v, leads, rest) p there Running is =
    let on : LedTo (history_up_to h (seen ++ OfJobs e ∷ [])) v = led_then (history_up_to h seen) (e ∷ []) u v led (loads.0, tt) (v, leads, refl) in
    let m : Moment h w e = record { front = seen; back = es; split = split; before = u; led_before = led; behind = v; leads = (v, leads, refl); rest = rest } in
    let q = endpoint_there below (history_up_to h (seen ++ OfJobs e ∷ [])) v i job (record { led = on; job_at = at }) in
    let r = from_here below h w i job at es (seen ++ OfJobs e ∷ []) v (split ∙ sym (append_assoc seen (OfJobs e ∷ []) es)) on loads.1 rest q.0 q.1.endpoint_at q.0.client.outcome refl in
    record {
      front = OfJobs e ∷ r.front;
      back = r.back;
      split = ap (λ (xs : List JointEvent). OfJobs e ∷ xs) r.split;
      at = r.at;
      loads = (loads.0, r.loads);
      run = (v, leads, r.run);
      rest = r.rest;
      stays = r.stays;
      came = came_more h w i e m (p, there, is) (changes_or_same e u v leads) (changing_of r.front v r.at r.run) r.came;
    }

pub until_there : Below → (h : History) (w : WorldCore) (i : ℕ) (job : Job) → IsJobAt h w i job → Until h w i
until_there below h w i job at =
    let l = at.led in
    let first : LedTo (history_up_to h []) l.first = record { first = l.first; endpoints = l.endpoints; daemon = l.daemon; users_are = l.users_are; seeded = l.seeded; names = l.names; limits = l.limits; fit = l.fit; loads = tt; runs = refl } in
    let q = endpoint_there below (history_up_to h []) l.first i job (record { led = first; job_at = at.job_at }) in
    let r = from_here below h w i job at.job_at h.events [] l.first refl first l.loads l.runs q.0 q.1.endpoint_at q.0.client.outcome refl in
    record {
      front = r.front;
      back = r.back;
      split = r.split;
      at = r.at;
      led = record { first = l.first; endpoints = l.endpoints; daemon = l.daemon; users_are = l.users_are; seeded = l.seeded; names = l.names; limits = l.limits; fit = l.fit; loads = r.loads; runs = r.run };
      rest = r.rest;
      stays = r.stays;
      came = r.came;
    }

-- the job of its endpoint there
pub record AtEnd (h : History) (w : WorldCore) (i : ℕ) (job : Job) : Type 0 where
  pub until : Until h w i
  pub endpoint : Endpoint
  pub job_at : slice_get h.jobs i ≡ Some job
  pub endpoint_at : slice_get until.at.endpoints i ≡ Some endpoint

abbrev pub end_job : (h : History) (w : WorldCore) (i : ℕ) (job : Job) (e : AtEnd h w i job) → IsJob (history_up_to h e.until.front) e.until.at i job e.endpoint
end_job h w i job e = record { led = e.until.led; job_at = e.job_at; endpoint_at = e.endpoint_at }

pub end_there : Below → (h : History) (w : WorldCore) (i : ℕ) (job : Job) (p : Endpoint) → IsJob h w i job p → AtEnd h w i job
end_there below h w i job p j =
    let u = until_there below h w i job (record { led = j.led; job_at = j.job_at }) in
    let q = endpoint_there below (history_up_to h u.front) u.at i job (record { led = u.led; job_at = j.job_at }) in
    record { until = u; endpoint = q.0; job_at = j.job_at; endpoint_at = q.1.endpoint_at }

same_some : {X : Type 0} (x y : X) (a b : Option X) → a ≡ Some x → b ≡ Some y → a ≡ b → x ≡ y
same_some x y a b is other same = unsome x y (sym is ∙ (same ∙ other))

pub end_outcome : (h : History) (w : WorldCore) (i : ℕ) (job : Job) (p : Endpoint) (j : IsJob h w i job p) (e : AtEnd h w i job) → e.endpoint.client.outcome ≡ p.client.outcome
end_outcome h w i job p j e = same_some e.endpoint.client.outcome p.client.outcome (outcome_at e.until.at i) (outcome_at w i) (outcome_is e.until.at i e.endpoint e.endpoint.client.outcome e.endpoint_at refl) (outcome_is w i p p.client.outcome j.endpoint_at refl) (sym e.until.stays.outcome)

pub end_file : (h : History) (w : WorldCore) (i : ℕ) (job : Job) (p : Endpoint) (j : IsJob h w i job p) (e : AtEnd h w i job) → e.endpoint.file ≡ p.file
end_file h w i job p j e = sym (ap (option_and_then (λ (q : Endpoint). q.file)) e.endpoint_at) ∙ (sym e.until.stays.file ∙ ap (option_and_then (λ (q : Endpoint). q.file)) j.endpoint_at)

-- ---- what was so up to it is so of all

abbrev moment_on : (h : History) (w : WorldCore) (i : ℕ) (u : Until h w i) (e : Event) → Moment (history_up_to h u.front) u.at e → Moment h w e
moment_on h w i u e m = record {
  front = m.front;
  back = m.back ++ u.back;
  split = u.split ∙ (ap (λ (es : List JointEvent). es ++ u.back) m.split ∙ append_assoc m.front (OfJobs e ∷ m.back) u.back);
  before = m.before;
  led_before = m.led_before;
  behind = m.behind;
  leads = m.leads;
  rest = runs_then m.back u.back m.behind u.at w m.rest u.rest;
}

abbrev asked_on : (h : History) (w : WorldCore) (i : ℕ) (u : Until h w i) (Waits : Progress → Type 0) → Asked (history_up_to h u.front) u.at i Waits → Asked h w i Waits
asked_on h w i u Waits a = record { n = a.n; at = moment_on h w i u (ToDaemon i a.n) a.at; came = a.came; waits = a.waits; whole = a.whole }

abbrev happened_on : (h : History) (w : WorldCore) (i : ℕ) (u : Until h w i) (e : Event) → Happened (history_up_to h u.front) u.at i e → Happened h w i e
happened_on h w i u e x = (moment_on h w i u e x.0, x.1)

abbrev settled_on : (h : History) (es : List JointEvent) (job : Job) → Settled (history_up_to h es) job → Settled h job
settled_on h es job s = record { device = s.device; is_there = s.is_there; named = s.named; setup = s.setup; placed = s.placed; in_force = s.in_force }

settled_to : (h : History) (es : List JointEvent) (job : Job) → Settled h job → Settled (history_up_to h es) job
settled_to h es job s = record { device = s.device; is_there = s.is_there; named = s.named; setup = s.setup; placed = s.placed; in_force = s.in_force }

passed_on : (h : History) (es : List JointEvent) (before : WorldCore) (i : ℕ) (job : Job) (allowed : Bool) → HasPassed (history_up_to h es) before i job allowed → HasPassed h before i job allowed
passed_on h es before i job allowed p = record { session = p.session; stands = p.stands; sent = p.sent; awaited = p.awaited; guarded = p.guarded; challenge = p.challenge; read = p.read; is = p.is }

-- of the events up to it those that change the world
abbrev pub changing_to : (h : History) (w : WorldCore) (i : ℕ) → Until h w i → List JointEvent
changing_to h w i u = changing_in (history_up_to h u.front) u.at u.led

came_on : (h : History) (w : WorldCore) (i : ℕ) (u : Until h w i) (name : List ℕ) (held : HeldPage) → CameFor (history_up_to h (changing_to h w i u)) name held → CameInTime h w i name held
came_on h w i u name held (AtFirst device there named among) = FromFirst device there named among
came_on h w i u name held (WithEvent source among is) = AsItRan source (u.came name source (in_list (changing_to h w i u) (OfJobs (Load name source)) among)) is

pub steady_on : (h : History) (w : WorldCore) (i : ℕ) (u : Until h w i) (job : Job) → IsSteady h w i job.device → SteadyRun (history_up_to h u.front) u.at job u.led
steady_on h w i u job steady = record {
  first = λ device there named held among. steady held (FromFirst device there named among);
  later = λ source among. steady (held_from (source_state source)) (AsItRan source (u.came job.device source among) refl);
}

started_on : (h : History) (w : WorldCore) (i : ℕ) (u : Until h w i) (job : Job) (count : ℕ) (page : PageView) → StartedOn (history_up_to h u.front) u.at i job count page → StartedOn h w i job count page
started_on h w i u job count page s = record { asked = asked_on h w i u _ s.asked; finished = s.finished; device = s.device; has = s.has; rests = s.rests; first = s.first }

pub scan_on : (h : History) (w : WorldCore) (i : ℕ) (u : Until h w i) (job : Job) (count : ℕ) (file : List ℕ) → IsScanEver (history_up_to h u.front) u.at (changing_to h w i u) i job count file → IsScan h w i job count file
scan_on h w i u job count file s = record {
  settled = settled_on h u.front job s.settled;
  held = s.held;
  came = came_on h w i u job.device s.held s.came;
  started = started_on h w i u job count s.held.page s.started;
  picture = s.picture;
  meant = s.meant;
  denotes = s.denotes;
  own = s.own;
}

picture_on : (h : History) (w : WorldCore) (i : ℕ) (u : Until h w i) (job : Job) → HadNoPictureEver (history_up_to h u.front) u.at (changing_to h w i u) i job → HadNoPicture h w i job
picture_on h w i u job n = record {
  scanning = n.scanning;
  asked = asked_on h w i u _ n.asked;
  device = n.device;
  has = n.has;
  settled = settled_on h u.front job n.settled;
  options = n.options;
  held = n.held;
  came = came_on h w i u job.device n.held n.came;
  first = n.first;
  none = n.none;
}

named_on : (h : History) (w : WorldCore) (i : ℕ) (u : Until h w i) (job : Job) (status : Status) → NamesStatus (history_up_to h u.front) u.at i job status → NamesStatus h w i job status
named_on h w i u job status n = (happened_on h w i u (DataTurn i) n.0, n.1, (settled_on h u.front job n.2.0, n.2.1))

-- ---- a turn that failed, of a job that was answered

device_failed : (before behind : WorldCore) (i : ℕ) (name : List ℕ) → FailedIn before behind.daemon i name → DeviceFailed before behind i name
device_failed before behind i name f = record {
  device = f.lease.device;
  has = record {
    session = f.held.session;
    at = record { endpoint = f.endpoint; is_there = f.is_there; id = f.id; linked = f.linked; stands = f.held.stands };
    word = f.word;
    lease = f.lease;
    held = f.held.held;
    is = refl;
    named = f.named;
  };
  after = f.after;
  stopped = f.stopped;
  amid = f.amid;
  left = f.left;
}

-- the image of a job of which these bytes are on the way
record HasImageAt (w : WorldCore) (i : ℕ) (bytes : List ℕ) : Type 0 where
  image : Image
  at : AtJob w i (λ p. p.image ≡ Some image)
  is : image.bytes ≡ bytes

image_by : (w : WorldCore) (i : ℕ) (p : Endpoint) (bytes : List ℕ) → slice_get w.endpoints i ≡ Some p → (o : Option Image) → p.image ≡ o → option_map (λ (image : Image). image.bytes) o ≡ Some bytes → HasImageAt w i bytes
image_by w i p bytes at None same e = absurd (let clash : None ≡ Some bytes = e in cc)
image_by w i p bytes at (Some image) same e = record { image = image; at = (p, at, same); is = unsome image.bytes bytes e }

image_of : (w : WorldCore) (i : ℕ) (bytes : List ℕ) (o : Option Endpoint) → slice_get w.endpoints i ≡ o → option_and_then (λ (p : Endpoint). option_map (λ (image : Image). image.bytes) p.image) o ≡ Some bytes → HasImageAt w i bytes
image_of w i bytes None at e = absurd (let clash : None ≡ Some bytes = e in cc)
image_of w i bytes (Some p) at e = image_by w i p bytes at p.image refl e

image_there : (w : WorldCore) (i : ℕ) (bytes : List ℕ) → image_at w i ≡ Some bytes → HasImageAt w i bytes
image_there w i bytes e = image_of w i bytes (slice_get w.endpoints i) refl e

-- where the bytes are gone, the job is lost
gone_image : (w : WorldCore) (i : ℕ) (p : Endpoint) → slice_get w.endpoints i ≡ Some p → image_at w i ≡ None → (image : Image) → p.image ≡ Some image → ⊥
gone_image w i p at none image is =
    let some : image_at w i ≡ Some image.bytes = ap (option_and_then (λ (q : Endpoint). option_map (λ (x : Image). x.bytes) q.image)) at ∙ ap (option_map (λ (x : Image). x.bytes)) is in
    let clash : None ≡ Some image.bytes = sym none ∙ some in cc

record_lost : (k : ℕ) (bytes : List ℕ) (last : Bool) (d : Core) (p : Endpoint) (e : Core) (q : Endpoint) → SendsRecord k bytes last d p e q → ((image : Image) → q.image ≡ Some image → ⊥) → q ≡ image_out_of_memory (after_move p)
record_lost k bytes last d p e q (inl s) gone = absurd (gone _ (ap (λ (x : Endpoint). x.image) s.3))
record_lost k bytes last d p e q (inr s) gone = s.1

step_lost : (k : ℕ) (step : DataStep) (buf : List ℕ) (d : Core) (p : Endpoint) (e : Core) (q : Endpoint) (image : Image) → p.image ≡ Some image → SendsStep k step buf d p e q → ((other : Image) → q.image ≡ Some other → ⊥) → q ≡ image_out_of_memory (after_move p)
step_lost k steps.Idle buf d p e q image is s gone = absurd (gone image (ap (λ (x : Endpoint). x.image) s.1 ∙ is))
step_lost k (steps.Bytes n) buf d p e q image is s gone = record_lost k _ false d p e q s gone
step_lost k (steps.Last n) buf d p e q image is s gone = record_lost k _ true d p e q s gone

lost_turn : AllIsKeptAmongStrangers → (h : History) (other : Job) (u v : WorldCore) (i : ℕ) (sent : List ℕ) → LedTo h u → Runs source_state (DataTurn i ∷ []) u v → RunsAt u i → image_at u i ≡ Some sent → image_at v i ≡ None → outcome_at v i ≡ Some (Ended statuses.IoError whys.Lost)
lost_turn all h other u v i sent l run ran was none =
    let k = kept_by all h u other l in
    let t = k.run.ghost_then in
    let im = image_there u i sent was in
    let p = im.at.0 in
    let runs : p.client.outcome ≡ Running = ap (λ (q : Endpoint). q.client.outcome) (unsome p ran.0 (sym im.at.1 ∙ ran.1)) ∙ ran.2 in
    let on : IsUnderWay (t.system.job i).client.stage = subst (IsOutcome t i) runs (k.promises.outcomes i p im.at.1) in
    let counts = counts_there t u i p k.run.stands im.at.1 on (subst IsSome (sym im.at.2) refl) in
    first_runs (λ (y : WorldCore). outcome_at y i ≡ Some (Ended statuses.IoError whys.Lost)) (DataTurn i) [] u v run (λ x leads rest.
    let a = at_own i moves.DataTurn u x leads in
    let n = a.happens p im.at.1 in
    let now : slice_get v.endpoints i ≡ Some n.0 = ap (λ (y : WorldCore). slice_get y.endpoints i) rest ∙ (ap (λ (es : List Endpoint). slice_get es i) n.2 ∙ set_here u.endpoints i p n.0 im.at.1) in
    let gone = gone_image v i n.0 now none in
    outcome_is v i n.0 (Ended statuses.IoError whys.Lost) now (elim (can_or_not u.daemon p moves.DataTurn) [
      | inl can ↦ linked_by p.link _ (n.0.client.outcome ≡ Ended statuses.IoError whys.Lost) (n.1.does can) (λ c turn.
          ap (λ (q : Endpoint). q.client.outcome) (step_lost c turn.step turn.buf turn.mid p x.daemon n.0 im.image im.at.2 turn.sends gone)
          ∙ lost_runs (is_lost_by links.Image p.client.outcome p.client.progress) p.client counts)
      | inr never ↦ absurd (gone im.image (ap (λ (q : Endpoint). q.image) (n.1.cannot never).1 ∙ im.at.2))
    ]))

sends_by : AllIsKeptAmongStrangers → (h : History) (other : Job) (w : WorldCore) (i : ℕ) (status : Status) (m : Moment h w (DataTurn i)) → RunsAt m.before i → outcome_at w i ≡ Some (Ended status whys.Answer) → SendsOrLoses m.before m.behind i → SendsFailure m.before m.behind i
sends_by all h other w i status m ran ended (sent, was, inl now) =
    let old = image_there m.before i sent was in
    let new = image_there m.behind i (sent ++ end_record 9) now in
    (old.image, new.image, old.at, new.at, new.is ∙ ap (λ (bytes : List ℕ). bytes ++ end_record 9) (sym old.is))
sends_by all h other w i status m ran ended (sent, was, inr none) =
    let lost = lost_turn all (history_up_to h m.front) other m.before m.behind i sent m.led_before m.leads ran was none in
    let stays = (over_among m.back m.behind w m.rest i (Ended statuses.IoError whys.Lost) lost (λ r. cc)).outcome in
    absurd (let clash : ◌≡◌ {A = Option Outcome} (Some (Ended status whys.Answer)) (Some (Ended statuses.IoError whys.Lost)) = sym ended ∙ (stays ∙ lost) in cc)

can_on : (h : History) (w : WorldCore) (i : ℕ) (u : Until h w i) (job : Job) → CanFail (history_up_to h (changing_to h w i u)) job.device → (held : HeldPage) × CameInTime h w i job.device held × (held.infallible ≡ false)
can_on h w i u job (held, came, able) = (held, came_on h w i u job.device held came, able)

failed_on : AllIsKeptAmongStrangers → (h : History) (w : WorldCore) (i : ℕ) (u : Until h w i) (job : Job) (status : Status) → outcome_at u.at i ≡ Some (Ended status whys.Answer) → MayHaveFailed (history_up_to h u.front) u.at (changing_to h w i u) i job → HadFailed h w i job
failed_on all h w i u job status ended (scanning, can, inl (asked, failed)) = (scanning, can_on h w i u job can, inl (asked_on h w i u _ asked, device_failed asked.at.before asked.at.behind i job.device failed))
failed_on all h w i u job status ended (scanning, can, inr (turn, failed, sent)) = (
  scanning,
  can_on h w i u job can,
  inr (happened_on h w i u (DataTurn i) turn, device_failed turn.0.before turn.0.behind i job.device failed, sends_by all (history_up_to h u.front) job u.at i status turn.0 turn.1.0 ended sent),
)

-- ---- the table

opened_on : (h : History) (w : WorldCore) (i : ℕ) (u : Until h w i) (job : Job) → WasOpened (history_up_to h u.front) u.at i job → WasOpened h w i job
opened_on h w i u job o = record {
  asked = asked_on h w i u _ o.asked;
  listed = o.listed;
  free = o.free;
  unshared = o.unshared;
  permitted = elim o.permitted [
    | inl unguarded ↦ inl unguarded
    | inr passed ↦ inr (passed_on h u.front o.asked.at.before i job true passed)
  ];
  taken = o.taken;
}

answer_on : AllIsKeptAmongStrangers → (h : History) (w : WorldCore) (i : ℕ) (u : Until h w i) (job : Job) (said : Status) → outcome_at u.at i ≡ Some (Ended said whys.Answer) → (status : Status) → AnswerEver (history_up_to h u.front) u.at (changing_to h w i u) i job status → AnswerIsExplained h w i job status
answer_on all h w i u job said ended statuses.Good x = x
answer_on all h w i u job said ended statuses.Unsupported x = x
answer_on all h w i u job said ended statuses.Cancelled x = x
answer_on all h w i u job said ended statuses.DeviceBusy (asked, by) = (asked_on h w i u _ asked, by)
answer_on all h w i u job said ended statuses.Inval (inl (unforced, opened)) = inl ((unforced.0, λ s. unforced.1 (settled_to h u.front job s)), opened_on h w i u job opened)
answer_on all h w i u job said ended statuses.Inval (inr (inl (asked, none))) = inr (inr (asked_on h w i u _ asked, none))
answer_on all h w i u job said ended statuses.Inval (inr (inr n)) = inr (inl (picture_on h w i u job n))
answer_on all h w i u job said ended statuses.Eof x = x
answer_on all h w i u job said ended statuses.Jammed x = x
answer_on all h w i u job said ended statuses.NoDocs (scanning, asked, behind, none) = (scanning, asked_on h w i u _ asked, behind, none)
answer_on all h w i u job said ended statuses.CoverOpen x = x
answer_on all h w i u job said ended statuses.IoError x = failed_on all h w i u job said ended x
answer_on all h w i u job said ended statuses.NoMem x = x
answer_on all h w i u job said ended statuses.AccessDenied (asked, judged) = (asked_on h w i u _ asked, passed_on h u.front asked.at.before i job false judged)

answered_on : AllIsKeptAmongStrangers → (h : History) (w : WorldCore) (i : ℕ) (u : Until h w i) (job : Job) (b c : Bool) (status : Status) → outcome_at u.at i ≡ Some (Ended status whys.Answer) → EndingEver (history_up_to h u.front) u.at (changing_to h w i u) i job b status whys.Answer → IsEndingExplained h w i job c status whys.Answer
answered_on all h w i u job b c status ended (inl (other, named)) = inl (other, named_on h w i u job status named)
answered_on all h w i u job b c status ended (inr x) = inr (answer_on all h w i u job status ended status x)

by_why : (h : History) (w : WorldCore) (changing : List JointEvent) (i : ℕ) (job : Job) (starved : Bool) (status : Status) (why : Why) → EndingEver h w changing i job starved status why → (why ≡ whys.Answer → IsEndingExplained h w i job starved status whys.Answer) → IsEndingExplained h w i job starved status why
by_why h w changing i job starved status whys.Answer x answered = answered refl
by_why h w changing i job starved status whys.Cancelled x answered = x
by_why h w changing i job starved status whys.Lost x answered = x
by_why h w changing i job starved status whys.Malformed x answered = x
by_why h w changing i job starved status whys.Short x answered = x
by_why h w changing i job starved status whys.Long x answered = x
by_why h w changing i job starved status whys.Setting x answered = x
by_why h w changing i job starved status whys.Plain x answered = x
by_why h w changing i job starved status whys.Memory x answered = x
by_why h w changing i job starved status whys.Sink x answered = x

pub explained_in_time : Below → (h : History) (w : WorldCore) (i : ℕ) (job : Job) (p : Endpoint) (status : Status) (why : Why) → IsJob h w i job p → p.client.outcome ≡ Ended status why → IsEndingExplained h w i job p.out_of_memory status why
explained_in_time below h w i job p status why j is = by_why h w (changing_in h w j.led) i job p.out_of_memory status why (at_end below h w i job p status why j is) (λ answer.
    let e = end_there below h w i job p j in
    let ended : e.endpoint.client.outcome ≡ Ended status whys.Answer = end_outcome h w i job p j e ∙ (is ∙ ap (λ (y : Why). Ended status y) answer) in
    answered_on below.kept h w i e.until job e.endpoint.out_of_memory p.out_of_memory status (outcome_is e.until.at i e.endpoint (Ended status whys.Answer) e.endpoint_at ended)
    (at_end below (history_up_to h e.until.front) e.until.at i job e.endpoint status whys.Answer (end_job h w i job e) ended))
