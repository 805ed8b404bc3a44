-- The programs are a world.
use Rattle.std.proofs.Common.{◌≡◌, inl, inr, ℕ, Bool, true, false, Some, List, [], ◌∷◌, ◌++◌, length, slice_get, refl, sym, subst, arith, ap, ◌∙◌}
use Rattle.std.proofs.lemmas.List.Elements.{All-get_or}
use Rattle.std.proofs.lemmas.Option.{get_or_from_slice_get, slice_get_within}
use Rattle.page_picture.specs.Source.{SourceState}
use Rattle.page_sources.specs.declared.kinds.Source.{Source}
use Rattle.scan_job.specs.declared.job.Job.{Job}
use Rattle.scan_job.specs.JobSize.{HasCount}
use Rattle.client_replies.specs.ProtocolStates.{is_running}
use Rattle.net_client.specs.ClientStates.{ClientState}
use Rattle.saned_core.specs.DaemonStates.{Core}
use Rattle.in_flight.specs.InFlight.{DiffersInFlight}
use Rattle.net_jobs.specs.JobSteps.{JobStep, StepsLead, files_by_steps, given_by_steps}
use Rattle.saned_serve.specs.Journal.{DaemonRuns, IsJournal, LoopAction}
use Rattle.interleaving.specs.Interleavings.{job_journal, server_journal}
use Rattle.interleaving.specs.AmongStrangers.{ServesOwners}
use Rattle.interleaving.specs.HandingOn.{Owner}
use Rattle.interleaving.proofs.Parts.{control_among, in_parts_among}
use Rattle.event_world.specs.declared.event.Event.{Event}
use Rattle.event_world.specs.JobEvents.{is_done}
use Rattle.event_world.specs.Worlds.{Runs, WorldCore}
use Rattle.event_world.specs.declared.endpoint.Endpoint.{Endpoint}
use Rattle.strangers.specs.Together.{JointEvent, events_among}
use Rattle.strangers.specs.Together.JointEvent.{OfJobs, OfStranger}
use Rattle.programs_refine.specs.AmongStrangers.{AreOfStrangers, ProgramsAreAWorldAmongStrangers, RunAmongStrangers, RunsAreAmongStrangers}
use Rattle.programs_refine.specs.Programs.{Acts, EndsAlike, IsWorldOf, ProgramsAreAWorld, StopsAlike}
use Rattle.programs_refine.specs.StepTraffic.{traffic_of}
use Rattle.programs_refine.specs.WorldHistory.{AreLosses, HearsInTurn, WantsBeforeItFlows}
use Rattle.programs_refine.proofs.Finishing.{finish_all, from}
use Rattle.programs_refine.proofs.Passed.{traffics_of}
use Rattle.programs_refine.proofs.Serving.{Setting}
use Rattle.programs_refine.proofs.Simulated.{ActsLead, stand_behind}
use Rattle.programs_refine.proofs.Simulation.{are_new, endpoints_of, new_files, new_limits}
use Rattle.programs_refine.proofs.Timely.{arrange}
use Rattle.programs_refine.proofs.Tracks.{AlwaysIn, AreTheirs, FilesTrack, Led, course_of, led_alone, lost_outcome}
use Rattle.programs_refine.proofs.Tracks.FilesTrack.{UnderWay, AllFinished}

ends_alike : (v : WorldCore) (i : ℕ) (acts : Acts) (last : ClientState) (p : Endpoint) → slice_get v.endpoints i ≡ Some p → p.client.outcome ≡ last.outcome → FilesTrack (files_by_steps (job_journal i acts)) (given_by_steps (job_journal i acts)) p → EndsAlike v i acts last
ends_alike v i acts last p at outcome (UnderWay h) =
    record { endpoint = p; at = at; outcome = outcome; finished = files_by_steps (job_journal i acts); text = given_by_steps (job_journal i acts); files = h; went_out = inl (refl, refl) }
ends_alike v i acts last p at outcome (AllFinished batch done h) =
    record { endpoint = p; at = at; outcome = outcome; finished = files_by_steps (job_journal i acts) ++ given_by_steps (job_journal i acts) ∷ []; text = []; files = h; went_out = inr ((batch, ap is_done (sym outcome) ∙ done), refl, refl) }

stops_alike : (v : WorldCore) (i : ℕ) (acts : Acts) (p : Endpoint) → slice_get v.endpoints i ≡ Some p → p.client.outcome ≡ lost_outcome → FilesTrack (files_by_steps (job_journal i acts)) (given_by_steps (job_journal i acts)) p → StopsAlike v i acts
stops_alike v i acts p at lost (UnderWay h) = record { endpoint = p; at = at; lost = lost; files = h }
stops_alike v i acts p at lost (AllFinished batch done h) = absurd (let clash : false ≡ true = sym (ap is_done lost) ∙ done in cc)

-- ---- with strangers or without

-- to what world they came, and from there to what losses lead
record ComesTo (source : Source → SourceState) (jobs : List Job) (owner : Owner) (among : Bool) (d : Core) (acts : Acts) (end : Core) (last : ℕ → ClientState) : Type 0 where
  w : WorldCore
  is_of : IsWorldOf d jobs w
  events : List JointEvent
  v : WorldCore
  leads : Led (course_of source w owner among jobs) events v
  on_their_way : ℕ → List ℕ
  daemon : DiffersInFlight on_their_way end v.daemon
  losses : List Event
  are : AreLosses losses
  last_world : WorldCore
  leads_on : Runs source losses v last_world
  jobs_are : (i : ℕ) (job : Job) → slice_get jobs i ≡ Some job → is_running (last i).outcome ≡ false → EndsAlike last_world i acts (last i)
  stopped_are : (i : ℕ) (job : Job) → slice_get jobs i ≡ Some job → is_running (last i).outcome ≡ true → StopsAlike last_world i acts

come_to : (source : Source → SourceState) (jobs : List Job) (owner : Owner) (among : Bool) (d : Core) (acts : Acts) (last : ℕ → ClientState) (r : RunAmongStrangers jobs owner d acts last) → (among ≡ false → ServesOwners owner (server_journal acts))
    → ((w : WorldCore) → IsWorldOf d jobs w → AlwaysIn (course_of source w owner among jobs) WantsBeforeItFlows × AlwaysIn (course_of source w owner among jobs) HearsInTurn) → ComesTo source jobs owner among d acts r.end last
come_to source jobs owner among d acts last r owners wants =
    let first = r.loops.first in
    let w : WorldCore = record { daemon = d; endpoints = endpoints_of jobs first } in
    let new = are_new jobs first r.loops.fresh in
    let always = wants w (record { daemon = refl; endpoints = new }) in
    let setting : Setting (course_of source w owner among jobs) = record { one = r.owns.one; within = r.owns.within; wants = always.0; hears = always.1 } in
    let a = arrange owner jobs first last acts d r.end (new_limits d r.new) r.owns.one r.owns.within r.loops.fresh r.loops.loops r.serves.is_journal r.serves.run ((in_parts_among traffic_of owner acts).1 r.hands_on r.from_daemon) in
    let same = a.same in
    let led : ActsLead owner among jobs first d a.new r.end last = record {
      legal = subst IsJournal (sym same.server) r.serves.is_journal;
      runs = subst (λ (l : List LoopAction). DaemonRuns d l r.end) (sym same.server) r.serves.run;
      hands = a.hands;
      owners = λ none. subst (ServesOwners owner) (sym same.server) (owners none);
      standing = a.standing;
      timely = a.timely;
      loops = λ i job at. subst (λ (l : List JobStep). StepsLead (first i) l (last i)) (sym (same.jobs i)) (r.loops.loops i job at);
    } in
    let t = stand_behind source owner among jobs first d a.new r.end last r.new r.loops.fresh setting (new_files jobs first counts_at new) led in
    let f = finish_all (course_of source w owner among jobs) _ (λ i. traffics_of (job_journal i a.new)) r.end last t (length jobs) (omega arith) in
    record {
      w = w;
      is_of = record { daemon = refl; endpoints = new };
      events = t.events;
      v = t.w;
      leads = t.leads;
      on_their_way = t.flying;
      daemon = t.differs;
      losses = events_among f.events;
      are = f.losses;
      last_world = f.v;
      leads_on = (led_alone (from (course_of source w owner among jobs) t.w) f.events f.v refl f.leads).runs;
      jobs_are = λ i job at over.
          let low = slice_get_within jobs i job at in
          let x = f.ended i low low in
          let files = subst (λ (l : List JobStep). FilesTrack (files_by_steps l) (given_by_steps l) x.q) (same.jobs i) x.files in
          ends_alike f.v i acts (last i) x.q x.at (x.ended over) files;
      stopped_are = λ i job at runs.
          let low = slice_get_within jobs i job at in
          let x = f.ended i low low in
          let files = subst (λ (l : List JobStep). FilesTrack (files_by_steps l) (given_by_steps l) x.q) (same.jobs i) x.files in
          stops_alike f.v i acts x.q x.at (x.stopped runs) files;
    }
  where
    counts_at : (i : ℕ) (job : Job) → slice_get jobs i ≡ Some job → HasCount job.task
    counts_at i job at = subst (λ (x : Job). HasCount x.task) (get_or_from_slice_get jobs i job job at) (All-get_or (λ (x : Job). HasCount x.task) jobs i job (slice_get_within jobs i job at) r.counts)

-- ---- among strangers

theirs_are : (owner : Owner) (among : Bool) (events : List JointEvent) → AreTheirs owner among events → AreOfStrangers owner events
theirs_are owner among [] all = tt
theirs_are owner among (OfJobs e ∷ events) all = theirs_are owner among events all
theirs_are owner among (OfStranger a ∷ events) all = (all.0, theirs_are owner among events all.2)

pub programs_among : ProgramsAreAWorldAmongStrangers
programs_among source jobs owner d acts last r wants =
    let x = come_to source jobs owner true d acts last r (λ none. let clash : true ≡ false = none in cc)
    (λ w is. let always = wants w is in (λ events v l. always.0 events v (record { are = l.are; runs = l.runs }), λ events v l. always.1 events v (record { are = l.are; runs = l.runs })))
    in
    record {
      w = x.w;
      is_of = x.is_of;
      leads_on = record {
        serves = record { events = x.events; v = x.v; leads = record { are = x.leads.are; runs = x.leads.runs }; strangers = theirs_are owner true x.events x.leads.theirs; on_their_way = x.on_their_way; daemon = x.daemon };
        losses = x.losses;
        are = x.are;
        v = x.last_world;
        leads_on = x.leads_on;
        jobs_are = x.jobs_are;
        stopped_are = x.stopped_are;
      };
    }

-- ---- without them

pub run_among : RunsAreAmongStrangers
run_among jobs owner d acts last r = record {
  new = r.new;
  owns = r.owns;
  counts = r.counts;
  loops = r.loops;
  end = r.end;
  before = r.before;
  after = r.after;
  serves = r.serves;
  hands_on = (control_among traffic_of owner acts r.hands_on r.from_daemon).0;
  from_daemon = r.from_daemon;
}

pub programs_are : ProgramsAreAWorld
unfolding run_among
programs_are source jobs owner d acts last r wants =
    let x = come_to source jobs owner false d acts last (run_among jobs owner d acts last r) (λ none. (control_among traffic_of owner acts r.hands_on r.from_daemon).1)
    (λ w is.
    let always = wants w is in
    let course = course_of source w owner false jobs in
    (λ events v l. always.0 (events_among events) v (led_alone course events v refl l), λ events v l. always.1 (events_among events) v (led_alone course events v refl l)))
    in
    record {
      w = x.w;
      is_of = x.is_of;
      leads_on = record {
        serves = record { events = events_among x.events; v = x.v; leads = led_alone (course_of source x.w owner false jobs) x.events x.v refl x.leads; on_their_way = x.on_their_way; daemon = x.daemon };
        losses = x.losses;
        are = x.are;
        v = x.last_world;
        leads_on = x.leads_on;
        jobs_are = x.jobs_are;
        stopped_are = x.stopped_are;
      };
    }
