-- A job that ended did so in one of the events, and has its cause among those up to that one.
use Rattle.std.specs.Prelude.{IfSome, option_map, slice_get}
use Rattle.std.proofs.Common.{◌≡◌, ◌≢◌, ◌∙◌, ℕ, zero, suc, List, [], ◌∷◌, ◌++◌, Option, Some, None, refl, sym, ap, append_assoc}
use Rattle.page_sources.specs.SourceView.{source_state}
use Rattle.sane_fixed.specs.declared.status.Status.{Status}
use Rattle.scan_job.specs.declared.job.Job.{Job}
use Rattle.scan_job.specs.declared.outcome.Outcome.{Outcome}
use Rattle.scan_job.specs.declared.outcome.Outcome.TheVariants.{Done, Ended, Running}
use Rattle.scan_job.specs.declared.outcome.Why.{Why}
use Rattle.net_client.specs.ClientStates.{ClientState}
use Rattle.event_world.specs.declared.endpoint.Endpoint.{Endpoint}
use Rattle.event_world.specs.declared.event.Event.{Event}
use Rattle.event_world.specs.Worlds.{AreNew, Runs, WorldCore}
use Rattle.world_refines.specs.MainTheorem.{AreTrueLoads}
use Rattle.strangers.specs.Together.{JointEvent, RunsAmong, events_among}
use Rattle.strangers.specs.Together.JointEvent.{OfJobs, OfStranger}
use Rattle.scan_world.specs.Histories.{History, LedTo, history_up_to}
use Rattle.scan_world.specs.Calls.{EndedIn, ForEach, outcome_at, starved_at}
use Rattle.scan_world.specs.Laws.{Below}
use Rattle.scan_world.specs.Promise.{OutcomeIsKept}
use Rattle.scan_world.proofs.Calls.{outcome_call}
use Rattle.scan_world.proofs.Led.{led_on, led_then}
use Rattle.scan_world.proofs.Over.{over_among}

-- ---- at first each job runs

one_runs : (jobs : List Job) (endpoints : List Endpoint) (i : ℕ) (job : Job) → AreNew jobs endpoints → slice_get jobs i ≡ Some job → (p : Endpoint) × (slice_get endpoints i ≡ Some p) × (p.client.outcome ≡ Running)
one_runs [] [] i job new at = absurd (let clash : None ≡ Some job = at in cc)
one_runs [] (p ∷ endpoints) i job new at = absurd new
one_runs (first ∷ jobs) [] i job new at = absurd new
one_runs (first ∷ jobs) (p ∷ endpoints) zero job new at = (p, refl, ap (λ (c : ClientState). c.outcome) new.0.client.value)
one_runs (first ∷ jobs) (p ∷ endpoints) (suc i) job new at = one_runs jobs endpoints i job new.1 at

runs_first : (h : History) (w : WorldCore) (l : LedTo h w) (i : ℕ) (job : Job) → slice_get h.jobs i ≡ Some job → outcome_at l.first i ≡ Some Running
runs_first h w l i job at =
    let r = one_runs h.jobs l.first.endpoints i job l.endpoints at in
    ap (option_map (λ (p : Endpoint). p.client.outcome)) r.1 ∙ ap (λ (o : Outcome). Some o) r.2

-- ---- where it ended

not_running : (status : Status) (why : Why) → Ended status why ≢ Running
not_running status why e = cc

is_ended : (status other : Status) (why reason : Why) → ◌≡◌ {A = Option Outcome} (Some (Ended status why)) (Some (Ended other reason)) → Ended other reason ≡ Ended status why
is_ended status other why reason same = cc

abbrev Kept : History → WorldCore → ℕ → Job → Type 0
Kept h v i job = (o : Outcome) × (outcome_at v i ≡ Some o) × OutcomeIsKept h v i job (starved_at v i) o

-- in this event, or where it still runs behind it in a later one
here_or_later : (h : History) (w u v : WorldCore) (i : ℕ) (job : Job) (status : Status) (why : Why) (e : Event) (es seen : List JointEvent) → outcome_at w i ≡ Some (Ended status why) → h.events ≡ seen ++ OfJobs e ∷ es → LedTo (history_up_to h seen) u → outcome_at u i ≡ Some Running → Runs source_state (e ∷ []) u v → LedTo (history_up_to h (seen ++ OfJobs e ∷ [])) v → RunsAmong source_state es v w →
    (outcome_at v i ≡ Some Running → EndedIn h w i job status why) → Kept (history_up_to h (seen ++ OfJobs e ∷ [])) v i job → EndedIn h w i job status why
here_or_later h w u v i job status why e es seen is split led ran leads led_on rest later (Running, there, keeps) = later there
here_or_later h w u v i job status why e es seen is split led ran leads led_on rest later (Done reports, there, keeps) =
    let stays = (over_among es v w rest i (Done reports) there (λ r. cc)).outcome in
    absurd (let clash : ◌≡◌ {A = Option Outcome} (Some (Ended status why)) (Some (Done reports)) = sym is ∙ (stays ∙ there) in cc)
here_or_later h w u v i job status why e es seen is split led ran leads led_on rest later (Ended other reason, there, keeps) =
    let stays = (over_among es v w rest i (Ended other reason) there (not_running other reason)).outcome in
    let same : ◌≡◌ {A = Option Outcome} (Some (Ended status why)) (Some (Ended other reason)) = sym is ∙ (stays ∙ there) in
    record {
      event = e;
      at = record { front = seen; back = es; split = split; before = u; led_before = led; behind = v; leads = leads; rest = rest };
      ran = ran;
      ended = there ∙ sym same;
      led_behind = led_on;
      caused = (keeps.ended status why (is_ended status other why reason same)).2;
    }

ends_from : Below → (h : History) (w : WorldCore) (i : ℕ) (job : Job) (status : Status) (why : Why) → slice_get h.jobs i ≡ Some job → outcome_at w i ≡ Some (Ended status why) → (es seen : List JointEvent) (u : WorldCore) → h.events ≡ seen ++ es → LedTo (history_up_to h seen) u → AreTrueLoads source_state (events_among es) → RunsAmong source_state es u w → outcome_at u i ≡ Some Running → EndedIn h w i job status why
ends_from below h w i job status why at is [] seen u split led loads run ran =
    absurd (let clash : ◌≡◌ {A = Option Outcome} (Some (Ended status why)) (Some Running) = sym is ∙ (ap (λ (x : WorldCore). outcome_at x i) run ∙ ran) in cc)
ends_from below h w i job status why at is (OfStranger a ∷ es) seen u split led loads (v, acts, rest) ran =
    let on : LedTo (history_up_to h (seen ++ OfStranger a ∷ [])) v = led_on (history_up_to h seen) (OfStranger a ∷ []) u v led tt (v, acts, refl) in
    ends_from below h w i job status why at is es (seen ++ OfStranger a ∷ []) v (split ∙ sym (append_assoc seen (OfStranger a ∷ []) es)) on loads rest
    (ap (λ (ps : List Endpoint). option_map (λ (p : Endpoint). p.client.outcome) (slice_get ps i)) acts.rest ∙ ran)
ends_from below h w i job status why at is (OfJobs e ∷ es) seen u split led loads (v, leads, rest) ran =
    let on : LedTo (history_up_to h (seen ++ OfJobs e ∷ [])) v = led_then (history_up_to h seen) (e ∷ []) u v led (loads.0, tt) (v, leads, refl) in
    here_or_later h w u v i job status why e es seen is split led ran (v, leads, refl) on rest
    (ends_from below h w i job status why at is es (seen ++ OfJobs e ∷ []) v (split ∙ sym (append_assoc seen (OfJobs e ∷ []) es)) on loads.1 rest)
    (outcome_call below v i (history_up_to h (seen ++ OfJobs e ∷ [])) job (record { led = on; job_at = at }))

ended_there : Below → (w : WorldCore) (i : ℕ) → ForEach w i (λ h job. (status : Status) (why : Why) → outcome_at w i ≡ Some (Ended status why) → EndedIn h w i job status why)
ended_there below w i h job at status why ended =
    let l = at.led in
    let first : LedTo (history_up_to h []) l.first = record { first = l.first; endpoints = l.endpoints; daemon = l.daemon; users_are = l.users_are; seeded = l.seeded; names = l.names; limits = l.limits; fit = l.fit; loads = tt; runs = refl } in
    ends_from below h w i job status why at.job_at ended h.events [] l.first refl first l.loads l.runs (runs_first h w l i job at.job_at)

pub ending_call : {X : Type 0} (read : X → Outcome) (given : Option X) → Below → (w : WorldCore) (i : ℕ) → option_map read given ≡ outcome_at w i → IfSome given (λ (x : X). ForEach w i (λ h job. (status : Status) (why : Why) → read x ≡ Ended status why → EndedIn h w i job status why))
ending_call read None below w i is = tt
ending_call read (Some x) below w i is = λ h job at status why ended. ended_there below w i h job at status why (sym is ∙ ap (λ (o : Outcome). Some o) ended)
