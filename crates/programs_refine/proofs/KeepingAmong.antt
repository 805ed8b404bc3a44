-- What is promised of jobs among strangers, of the programs.
use Rattle.std.specs.Prelude.{slice_index_or}
use Rattle.std.proofs.Common.{◌≡◌, ◌∙◌, inl, inr, ℕ, zero, suc, Bool, true, false, Some, None, List, [], ◌∷◌, ◌++◌, slice_get, refl, sym, ap, subst, arith}
use Rattle.std.proofs.lemmas.Option.{get_or_from_slice_get, slice_get_within}
use Rattle.page_sources.specs.SourceView.{source_state}
use Rattle.device_api.specs.State.{DeviceState}
use Rattle.scan_job.specs.declared.job.Job.{Job}
use Rattle.client_replies.specs.ProtocolStates.{is_running}
use Rattle.frame_join.proofs.GivenKept.{holds_not_whole}
use Rattle.net_client.specs.ClientStates.{ClientState}
use Rattle.net_jobs.specs.JobSteps.{files_by_steps, given_by_steps}
use Rattle.netpbm.specs.Pnm.{IsWhole}
use Rattle.saned_core.specs.DaemonStates.{Core}
use Rattle.interleaving.specs.Interleavings.{job_journal}
use Rattle.interleaving.specs.HandingOn.{Owner}
use Rattle.event_world.specs.declared.event.Event.{Event}
use Rattle.event_world.specs.JobEvents.{is_done}
use Rattle.event_world.specs.Worlds.{Runs, WorldCore}
use Rattle.world_refines.specs.GhostStates.{Ghost}
use Rattle.world_refines.specs.MainTheorem.{Promises}
use Rattle.world_refines.specs.WorldPromises.{HasScannedPage, IsOutcome}
use Rattle.world_refines.specs.NewWorlds.{IsNewDaemon, PageSources, initial_ghost}
use Rattle.strangers.specs.Together.{AllIsKeptAmongStrangers, JointEvent, KeptAmongStrangers, RunsAmong, events_among}
use Rattle.strangers.specs.Together.JointEvent.{OfJobs, OfStranger}
use Rattle.scan_world.specs.Histories.{of_jobs}
use Rattle.scan_world.proofs.Led.{runs_jointly, runs_then}
use Rattle.programs_refine.specs.AmongStrangers.{AreOfStrangers, LeadsAmong}
use Rattle.programs_refine.specs.Keeping.{AreFit}
use Rattle.programs_refine.specs.KeepingAmong.{AreKnown, LoopIsKeptAmong, ProgramsKeepAmongStrangers, StoppedIsKeptAmong, StrangersCompleteNoLoop, TurnedPagesAreScanned, WorldsKeepTurnAmongStrangers}
use Rattle.programs_refine.specs.Programs.{Acts, EndsAlike, IsWorldOf, StopsAlike, WentOut}
use Rattle.programs_refine.specs.WorldHistory.{AreOfConnections}
use Rattle.programs_refine.proofs.InTurn.{in_turn}
use Rattle.programs_refine.proofs.JobsStay.{jobs_stay}
use Rattle.programs_refine.proofs.Keeping.{losses_of_connections, no_loads, none_to_fit, wants_first}
use Rattle.programs_refine.proofs.Outgoing.{never_both}
use Rattle.programs_refine.proofs.Programs.{programs_among}

-- ---- events and acts, and then losses

pub are_then : (events : List JointEvent) (losses : List Event) → AreOfConnections (events_among events) → AreOfConnections losses → AreOfConnections (events_among (events ++ of_jobs losses))
are_then [] [] are lost = tt
are_then [] (e ∷ losses) are lost = (lost.0, are_then [] losses tt lost.1)
are_then (OfJobs e ∷ events) losses are lost = (are.0, are_then events losses are.1 lost)
are_then (OfStranger a ∷ events) losses are lost = are_then events losses are lost

pub theirs_then : (owner : Owner) (events : List JointEvent) (losses : List Event) → AreOfStrangers owner events → AreOfStrangers owner (events ++ of_jobs losses)
theirs_then owner [] [] all = tt
theirs_then owner [] (e ∷ losses) all = theirs_then owner [] losses tt
theirs_then owner (OfJobs e ∷ events) losses all = theirs_then owner events losses all
theirs_then owner (OfStranger a ∷ events) losses all = (all.0, theirs_then owner events losses all.1)

pub runs_after : (events : List JointEvent) (losses : List Event) (w u v : WorldCore) → RunsAmong source_state events w u → Runs source_state losses u v → RunsAmong source_state (events ++ of_jobs losses) w v
runs_after events losses w u v r more = runs_then events (of_jobs losses) w u v r (runs_jointly losses u v more)

-- ---- what is promised of a world, of a loop

kept_by : (u : Ghost) (v : WorldCore) (acts : Acts) (i : ℕ) (job : Job) (last : ClientState) → Promises u v → u.jobs i ≡ job → EndsAlike v i acts last → LoopIsKeptAmong u v i job acts last
kept_by u v acts i job last p is x =
    let e = x.endpoint in
    let task = ap (λ (j : Job). j.task) is in
    record {
      ends = x;
      is_of = is;
      outcome = subst (IsOutcome u i) x.outcome (p.outcomes i e x.at);
      statuses = λ status why ended. p.statuses i e status why x.at (x.outcome ∙ ended);
      short = λ undone. holds_not_whole x.text (p.short i e x.text x.at (ap is_done x.outcome ∙ undone) x.files.file);
      scanned = λ reports scan done. p.scans i e reports x.text x.at (task ∙ scan) (x.outcome ∙ done) x.files.file;
      pages = λ k bytes at. p.pages i k e bytes x.at (let low = slice_get_within x.finished k bytes at in let count = x.files.count in omega (arith, low, count)) (x.files.each k bytes at);
      count = λ count reports batch done. p.batches i count e reports x.at (task ∙ batch) (x.outcome ∙ done);
    }

stopped_by : (u : Ghost) (v : WorldCore) (acts : Acts) (i : ℕ) (job : Job) → Promises u v → u.jobs i ≡ job → StopsAlike v i acts → StoppedIsKeptAmong u v i job acts
stopped_by u v acts i job p is x =
    let e = x.endpoint in
    let turned = files_by_steps (job_journal i acts) in
    record {
      stops = x;
      is_of = is;
      not_whole = holds_not_whole (given_by_steps (job_journal i acts)) (p.short i e (given_by_steps (job_journal i acts)) x.at (ap is_done x.lost) x.files.file);
      pages = λ k bytes at. p.pages i k e bytes x.at (let low = slice_get_within turned k bytes at in let count = x.files.count in omega (arith, low, count)) (x.files.each k bytes at);
    }

-- ---- all loops

-- all that strangers leave to a world, of any events and acts that led there
kept_at : AllIsKeptAmongStrangers → (sources : ℕ → PageSources) (other : Job) (devices : List DeviceState) (jobs : List Job) (d : Core) (w : WorldCore) → AreFit devices jobs d → AreKnown sources other devices → IsWorldOf d jobs w → (events : List JointEvent) (v : WorldCore) (l : LeadsAmong source_state w events v)
    → KeptAmongStrangers source_state events (initial_ghost sources jobs other devices w.daemon.users w.endpoints) w v l.runs
kept_at kept sources other devices jobs d w fit known is events v l =
    let t = initial_ghost sources jobs other devices w.daemon.users w.endpoints in
    kept source_state events sources jobs other devices w v is.endpoints (subst (IsNewDaemon devices) (sym is.daemon) fit.daemon) fit.names fit.limits fit.fit known.unnamed (no_loads (events_among events) l.are) known.have (none_to_fit t.infos t.system.make (events_among events) l.are) l.runs

pub keep_turn : AllIsKeptAmongStrangers → WorldsKeepTurnAmongStrangers
keep_turn kept sources other devices jobs d w fit known is =
    let at = kept_at kept sources other devices jobs d w fit known is in
    (λ events v l. let k = at events v l in wants_first k.all.ghost_then v k.all.stands.refines, λ events v l. let k = at events v l in in_turn k.all.ghost_then v k.all.stands.refines)

-- a job of that number is one of these
is_job : (jobs : List Job) (other : Job) (all : ℕ → Job) (i : ℕ) (job : Job) → all ≡ (λ k. slice_index_or jobs k other) → slice_get jobs i ≡ Some job → all i ≡ job
is_job jobs other all i job same at = ap (λ (js : ℕ → Job). js i) same ∙ get_or_from_slice_get jobs i job other at

pub keep_among : AllIsKeptAmongStrangers → ProgramsKeepAmongStrangers
keep_among kept sources other devices jobs owner d acts last fit known r =
    let a = programs_among source_state jobs owner d acts last r (λ w is. keep_turn kept sources other devices jobs d w fit known is) in
    let x = a.leads_on in
    let events = x.serves.events ++ of_jobs x.losses in
    let leads : LeadsAmong source_state a.w events x.v =
    record { are = are_then x.serves.events x.losses x.serves.leads.are (losses_of_connections x.losses x.are); runs = runs_after x.serves.events x.losses a.w x.serves.v x.v x.serves.leads.runs x.leads_on }
    in
    let k = kept_at kept sources other devices jobs d a.w fit known a.is_of events x.v leads in
    let t = initial_ghost sources jobs other devices a.w.daemon.users a.w.endpoints in
    let stay : k.all.ghost_then.jobs ≡ t.jobs = jobs_stay source_state events a.w x.v leads.runs t k.all.steps k.all.ghost_then k.all.comes in
    record {
      w = a.w;
      is_of = a.is_of;
      events = events;
      v = x.v;
      leads = leads;
      strangers = theirs_then owner x.serves.events x.losses x.serves.strangers;
      kept = k;
      each = λ i job at over. kept_by k.all.ghost_then x.v acts i job (last i) k.promises (is_job jobs other k.all.ghost_then.jobs i job stay at) (x.jobs_are i job at over);
      stopped = λ i job at runs. stopped_by k.all.ghost_then x.v acts i job k.promises (is_job jobs other k.all.ghost_then.jobs i job stay at) (x.stopped_are i job at runs);
    }

-- ---- the lie

pub undone_went_out : (DoneBatch : Type 0) (turned : List (List ℕ)) (last : List ℕ) (finished : List (List ℕ)) (text : List ℕ) → (DoneBatch → ⊥) → WentOut DoneBatch turned last finished text → text ≡ last
undone_went_out DoneBatch turned last finished text undone (inl same) = same.1
undone_went_out DoneBatch turned last finished text undone (inr all) = absurd (undone all.0)

-- of a job of which that is kept
pub completes_none : (u : Ghost) (v : WorldCore) (i : ℕ) (job : Job) (acts : Acts) (last : ClientState) → (is_running last.outcome ≡ false → LoopIsKeptAmong u v i job acts last) → (is_running last.outcome ≡ true → StoppedIsKeptAmong u v i job acts) → is_done last.outcome ≡ false → IsWhole (given_by_steps (job_journal i acts)) → ⊥
completes_none u v i job acts last each stopped undone whole = by (is_running last.outcome) refl
  where
    by : (b : Bool) → is_running last.outcome ≡ b → ⊥
    by true runs = (stopped runs).not_whole whole
    by false over =
        let x = each over in
        x.short undone (subst IsWhole (sym (undone_went_out _ _ _ _ _ (λ done. never_both (is_done last.outcome) done.1 undone) x.ends.went_out)) whole)

pub no_lie : StrangersCompleteNoLoop
no_lie sources other devices jobs owner d acts last k i job at undone whole = completes_none k.kept.all.ghost_then k.v i job acts (last i) (λ over. k.each i job at over) (λ runs. k.stopped i job at runs) undone whole

-- ---- pages that were turned

front_at : (xs ys : List (List ℕ)) (n : ℕ) (x : List ℕ) → slice_get xs n ≡ Some x → slice_get (xs ++ ys) n ≡ Some x
front_at [] ys n x e = absurd (let clash : None ≡ Some x = e in cc)
front_at (a ∷ xs) ys zero x e = e
front_at (a ∷ xs) ys (suc n) x e = front_at xs ys n x e

turned_finished : (DoneBatch : Type 0) (turned : List (List ℕ)) (last : List ℕ) (finished : List (List ℕ)) (text : List ℕ) → WentOut DoneBatch turned last finished text → (n : ℕ) (bytes : List ℕ) → slice_get turned n ≡ Some bytes → slice_get finished n ≡ Some bytes
turned_finished DoneBatch turned last finished text (inl same) n bytes at = ap (λ (l : List (List ℕ)). slice_get l n) same.0 ∙ at
turned_finished DoneBatch turned last finished text (inr all) n bytes at = ap (λ (l : List (List ℕ)). slice_get l n) all.1 ∙ front_at turned (last ∷ []) n bytes at

scanned_pages : (u : Ghost) (v : WorldCore) (i : ℕ) (job : Job) (acts : Acts) (last : ClientState) → (is_running last.outcome ≡ false → LoopIsKeptAmong u v i job acts last) → (is_running last.outcome ≡ true → StoppedIsKeptAmong u v i job acts) → (n : ℕ) (bytes : List ℕ) → slice_get (files_by_steps (job_journal i acts)) n ≡ Some bytes → HasScannedPage u i n bytes
scanned_pages u v i job acts last each stopped n bytes at = by (is_running last.outcome) refl
  where
    by : (b : Bool) → is_running last.outcome ≡ b → HasScannedPage u i n bytes
    by true runs = (stopped runs).pages n bytes at
    by false over =
        let x = each over in
        x.pages n bytes (turned_finished _ _ _ _ _ x.ends.went_out n bytes at)

pub turned_scanned : TurnedPagesAreScanned
turned_scanned sources other devices jobs owner d acts last k i job at n bytes there = scanned_pages k.kept.all.ghost_then k.v i job acts (last i) (λ over. k.each i job at over) (λ runs. k.stopped i job at runs) n bytes there
