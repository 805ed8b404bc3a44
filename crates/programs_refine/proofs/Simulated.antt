-- By induction over all acts: a world stands behind them.
use Rattle.std.proofs.Common.{◌≡◌, ◌≢◌, ◌∙◌, ◌⊎◌, inl, inr, ℕ, Bool, false, cond, Option, Some, None, List, [], ◌∷◌, slice_get, refl, sym, ap, subst}
use Rattle.std.proofs.Math.Dec.{eqb}
use Rattle.std.proofs.lemmas.Bool.{eq-eqb}
use Rattle.page_picture.specs.Source.{SourceState}
use Rattle.page_sources.specs.declared.kinds.Source.{Source}
use Rattle.scan_job.specs.declared.job.Job.{Job}
use Rattle.net_client.specs.ClientStates.{ClientState, IsNewClient}
use Rattle.saned_core.specs.DaemonStates.{Core}
use Rattle.net_jobs.specs.JobSteps.{JobStep, StepLeads, StepsLead, has_failed}
use Rattle.saned_serve.specs.Journal.{DaemonRuns, IsJournal, LoopAction, Steps}
use Rattle.saned_serve.specs.Journal.LoopAction.{Of, Full, Waits, Refuses, Turned, Stops}
use Rattle.saned_serve.proofs.ActionSteps.{eqb_off}
use Rattle.in_flight.proofs.Slots.{decide}
use Rattle.interleaving.specs.Interleavings.{job_journal, server_journal}
use Rattle.interleaving.specs.Interleavings.JointAction.{OfJob, OfServer}
use Rattle.interleaving.specs.AmongStrangers.{ServesOwners}
use Rattle.interleaving.specs.HandingOn.{HandsOnAmong, Owner}
use Rattle.interleaving.proofs.Sooner.{of_other}
use Rattle.event_world.specs.FileInvariant.{AllFilesRepresent}
use Rattle.event_world.specs.Worlds.{WorldCore}
use Rattle.event_world.proofs.Events.{stands_run}
use Rattle.strangers.specs.Together.{JointEvent, RunsAmong}
use Rattle.strangers.specs.Together.JointEvent.{OfJobs, OfStranger}
use Rattle.programs_refine.specs.StepTraffic.{traffic_of}
use Rattle.programs_refine.specs.Programs.{Acts, HasOpenedNone}
use Rattle.programs_refine.proofs.Passed.{Traffics, own_journal, passed_of, passes_full, passes_refuses, passes_stops, passes_turned, passes_waits, traffics_of, traffics_on}
use Rattle.programs_refine.proofs.Serving.{Setting, acts_on, same_done}
use Rattle.programs_refine.proofs.Simulation.{AreTimely, TakeWhatStands, begun, endpoints_of, few_open, handed_as, may_step, not_left, not_starved, stands}
use Rattle.programs_refine.proofs.Stepping.{OneSteps, steps_on}
use Rattle.programs_refine.proofs.Tracks.{course_of, JobTracks, Tracks}

-- ---- what leads to acts

pub record ActsLead (owner : Owner) (among : Bool) (jobs : List Job) (first : ℕ → ClientState) (new : Core) (acts : Acts) (d : Core) (c : ℕ → ClientState) : Type 0 where
  pub legal : IsJournal (server_journal acts)
  pub runs : DaemonRuns new (server_journal acts) d
  pub hands : HandsOnAmong traffic_of owner acts
  -- without strangers each session that is served is a job's
  pub owners : among ≡ false → ServesOwners owner (server_journal acts)
  pub standing : TakeWhatStands owner acts
  pub timely : AreTimely owner acts
  pub loops : (i : ℕ) (job : Job) → slice_get jobs i ≡ Some job → StepsLead (first i) (job_journal i acts) (c i)

abbrev start_world : List Job → Core → (ℕ → ClientState) → WorldCore
start_world jobs d first = record { daemon = d; endpoints = endpoints_of jobs first }

abbrev pub Stands : (source : Source → SourceState) (owner : Owner) (among : Bool) (jobs : List Job) (first : ℕ → ClientState) (new : Core) (acts : Acts) (d : Core) (c : ℕ → ClientState) → Type 0
Stands source owner among jobs first new acts d c = Tracks (course_of source (start_world jobs new first) owner among jobs) (passed_of (server_journal acts)) (λ i. traffics_of (job_journal i acts)) d c

-- ---- nothing was done

stands_first : (source : Source → SourceState) (owner : Owner) (among : Bool) (jobs : List Job) (first : ℕ → ClientState) (new d : Core) (c : ℕ → ClientState) → HasOpenedNone new → ((i : ℕ) (job : Job) → slice_get jobs i ≡ Some job → IsNewClient job (first i)) → ActsLead owner among jobs first new [] d c → Stands source owner among jobs first new [] d c
unfolding server_journal job_journal
stands_first source owner among jobs first new d c is fresh l =
    subst (λ (x : Core). Tracks (course_of source (start_world jobs new first) owner among jobs) (passed_of []) (λ i. traffics_of []) x c) (sym l.runs) (begun source owner among jobs new first c is fresh (λ i job at. l.loops i job at))

-- ---- an action of the server

server_before : (owner : Owner) (among : Bool) (jobs : List Job) (first : ℕ → ClientState) (new : Core) (action : LoopAction) (past : Acts) (d : Core) (c : ℕ → ClientState) (l : ActsLead owner among jobs first new (OfServer action ∷ past) d c) → (mid : Core) → DaemonRuns new (server_journal past) mid → ActsLead owner among jobs first new past mid c
unfolding server_journal job_journal HandsOnAmong
server_before owner among jobs first new action past d c l mid runs = record { legal = l.legal.0; runs = runs; hands = l.hands.0; owners = λ none. (l.owners none).0; standing = l.standing; timely = l.timely; loops = l.loops }

runs_before : (new : Core) (action : LoopAction) (past : Acts) (d : Core) → DaemonRuns new (server_journal (OfServer action ∷ past)) d → DaemonRuns new (action ∷ server_journal past) d
unfolding server_journal
runs_before new action past d runs = runs

by_server : (source : Source → SourceState) (owner : Owner) (among : Bool) (jobs : List Job) (first : ℕ → ClientState) (new : Core) (action : LoopAction) (past : Acts) (d mid : Core) (c : ℕ → ClientState) → Setting (course_of source (start_world jobs new first) owner among jobs) → ActsLead owner among jobs first new (OfServer action ∷ past) d c → ActsLead owner among jobs first new past mid c → Steps mid action d
    → Stands source owner among jobs first new past mid c → Stands source owner among jobs first new (OfServer action ∷ past) d c
unfolding server_journal job_journal HandsOnAmong
by_server source owner among jobs first new (Of n act) past d mid c s l before steps t =
    acts_on (course_of source (start_world jobs new first) owner among jobs) (server_journal past) (λ i. traffics_of (job_journal i past)) mid d c s n act l.legal.1.0 (few_open (server_journal past) n act l.legal.0 l.legal.1)
    (handed_as owner among past n act s.one l.legal.0 l.hands.0 l.hands.1 (λ none. (l.owners none).1)) steps t
by_server source owner among jobs first new Full past d mid c s l before steps t = same_done (course_of source (start_world jobs new first) owner among jobs) (passed_of (server_journal past)) (passed_of (Full ∷ server_journal past)) (λ i. traffics_of (job_journal i past)) mid d c (λ k. passes_full k (server_journal past)) steps t
by_server source owner among jobs first new Waits past d mid c s l before steps t = same_done (course_of source (start_world jobs new first) owner among jobs) (passed_of (server_journal past)) (passed_of (Waits ∷ server_journal past)) (λ i. traffics_of (job_journal i past)) mid d c (λ k. passes_waits k (server_journal past)) steps t
by_server source owner among jobs first new (Refuses port trace) past d mid c s l before steps t =
    same_done (course_of source (start_world jobs new first) owner among jobs) (passed_of (server_journal past)) (passed_of (Refuses port trace ∷ server_journal past)) (λ i. traffics_of (job_journal i past)) mid d c (λ k. passes_refuses k port trace (server_journal past)) steps.1 t
by_server source owner among jobs first new Turned past d mid c s l before steps t = same_done (course_of source (start_world jobs new first) owner among jobs) (passed_of (server_journal past)) (passed_of (Turned ∷ server_journal past)) (λ i. traffics_of (job_journal i past)) mid d c (λ k. passes_turned k (server_journal past)) steps t
by_server source owner among jobs first new Stops past d mid c s l before steps t = same_done (course_of source (start_world jobs new first) owner among jobs) (passed_of (server_journal past)) (passed_of (Stops ∷ server_journal past)) (λ i. traffics_of (job_journal i past)) mid d c (λ k. passes_stops k (server_journal past)) steps t

-- ---- a step of a job

-- the client of job i before it, and those of the others
abbrev client_before : ℕ → ClientState → (ℕ → ClientState) → ℕ → ClientState
client_before i mid c j = cond (eqb i j) mid (c j)

before_own : (i : ℕ) (mid : ClientState) (c : ℕ → ClientState) → client_before i mid c i ≡ mid
before_own i mid c = ap (λ (b : Bool). cond b mid (c i)) (eq-eqb i i refl)

before_other : (i : ℕ) (mid : ClientState) (c : ℕ → ClientState) (j : ℕ) → j ≢ i → c j ≡ client_before i mid c j
before_other i mid c j off = sym (ap (λ (b : Bool). cond b mid (c j)) (eqb_off i j (λ same. off (sym same))))

-- how the step led on
record StepIs (first : ClientState) (steps : List JobStep) (step : JobStep) (last : ClientState) : Type 0 where
  mid : ClientState
  before : StepsLead first steps mid
  whole : has_failed steps ≡ false
  leads : StepLeads mid step last

step_is : (first : ℕ → ClientState) (i : ℕ) (step : JobStep) (past : Acts) (c : ClientState) → StepsLead (first i) (job_journal i (OfJob i step ∷ past)) c → StepIs (first i) (job_journal i past) step c
step_is first i step past c l =
    let s : StepsLead (first i) (step ∷ job_journal i past) c = subst (λ (x : List JobStep). StepsLead (first i) x c) (own_journal i step past) l in
    record { mid = s.0; before = s.1; whole = s.2; leads = s.3 }

job_before : (owner : Owner) (among : Bool) (jobs : List Job) (first : ℕ → ClientState) (new : Core) (i : ℕ) (step : JobStep) (past : Acts) (d : Core) (c : ℕ → ClientState) (mid : ClientState) → ActsLead owner among jobs first new (OfJob i step ∷ past) d c → StepsLead (first i) (job_journal i past) mid → ActsLead owner among jobs first new past d (client_before i mid c)
unfolding server_journal HandsOnAmong
job_before owner among jobs first new i step past d c mid l before = record { legal = l.legal; runs = l.runs; hands = l.hands.0; owners = l.owners; standing = l.standing.0; timely = l.timely.0; loops = λ j job at. by j job at (decide j i) }
  where
    by : (j : ℕ) (job : Job) → slice_get jobs j ≡ Some job → (j ≡ i) ⊎ (j ≢ i) → StepsLead (first j) (job_journal j past) (client_before i mid c j)
    by j job at (inl same) = subst (λ (x : ℕ). StepsLead (first x) (job_journal x past) (client_before i mid c x)) (sym same) (subst (λ (z : ClientState). StepsLead (first i) (job_journal i past) z) (sym (before_own i mid c)) before)
    by j job at (inr off) =
        subst (λ (z : ClientState). StepsLead (first j) (job_journal j past) z) (before_other i mid c j off) (subst (λ (x : List JobStep). StepsLead (first j) x (c j)) (of_other j i step past (λ same. off (sym same))) (l.loops j job at))

one_steps : (i : ℕ) (step : JobStep) (past : Acts) (mid : ClientState) (c : ℕ → ClientState) → OneSteps (λ j. traffics_of (job_journal j past)) (λ j. traffics_of (job_journal j (OfJob i step ∷ past))) (client_before i mid c) c i step
one_steps i step past mid c = record {
  own = ap traffics_of (own_journal i step past) ∙ traffics_on step (job_journal i past);
  others = λ j off. (ap traffics_of (of_other j i step past (λ same. off (sym same))), before_other i mid c j off);
}

-- the files of all endpoints are what they stand for, whatever strangers do
stands_among : (source : Source → SourceState) (events : List JointEvent) (w v : WorldCore) → RunsAmong source events w v → AllFilesRepresent w.endpoints → AllFilesRepresent v.endpoints
stands_among source [] w v r all = subst (λ (x : WorldCore). AllFilesRepresent x.endpoints) (sym r) all
stands_among source (OfJobs e ∷ events) w v r all = stands_among source events r.0 v r.2 (stands_run source (e ∷ []) w r.0 (r.0, r.1, refl) all)
stands_among source (OfStranger a ∷ events) w v r all = stands_among source events r.0 v r.2 (subst AllFilesRepresent (sym r.1.rest) all)

by_job : (source : Source → SourceState) (owner : Owner) (among : Bool) (jobs : List Job) (first : ℕ → ClientState) (new : Core) (i : ℕ) (job : Job) (step : JobStep) (past : Acts) (d : Core) (c : ℕ → ClientState) → Setting (course_of source (start_world jobs new first) owner among jobs) → AllFilesRepresent (endpoints_of jobs first) → new.opened ≡ 0 → slice_get jobs i ≡ Some job
    → (l : ActsLead owner among jobs first new (OfJob i step ∷ past) d c) → (s : StepIs (first i) (job_journal i past) step (c i)) → Stands source owner among jobs first new past d (client_before i s.mid c) → Stands source owner among jobs first new (OfJob i step ∷ past) d c
unfolding server_journal HandsOnAmong
by_job source owner among jobs first new i job step past d c setting files none at l s t =
    let was = client_before i s.mid c in
    steps_on (course_of source (start_world jobs new first) owner among jobs) (passed_of (server_journal past)) (λ j. traffics_of (job_journal j past)) (λ j. traffics_of (job_journal j (OfJob i step ∷ past))) d was c t i job step.move step.gives step.turned setting.one setting.hears (λ k own. not_starved owner i k (server_journal past) own l.timely.1)
    (stands_among source t.events (start_world jobs new first) t.w t.leads.runs files) at (one_steps i step past s.mid c)
    (λ k own low. stands (server_journal past) new d k none l.runs low (not_left owner i k (server_journal past) own l.timely.1)) s.whole (may_step owner i past (traffic_of step) l.hands.1) l.standing.1
    (subst (λ (z : ClientState). StepLeads z step (c i)) (sym (before_own i s.mid c)) s.leads)

-- who is no job's has no endpoint
by_nobody : (source : Source → SourceState) (owner : Owner) (among : Bool) (jobs : List Job) (first : ℕ → ClientState) (new : Core) (i : ℕ) (step : JobStep) (past : Acts) (d : Core) (c : ℕ → ClientState) → slice_get jobs i ≡ None → Stands source owner among jobs first new past d c → Stands source owner among jobs first new (OfJob i step ∷ past) d c
unfolding server_journal
by_nobody source owner among jobs first new i step past d c none t = record {
  events = t.events;
  w = t.w;
  leads = t.leads;
  count = t.count;
  flying = t.flying;
  differs = t.differs;
  slots = t.slots;
  owned = t.owned;
  calm = t.calm;
  each = λ j job at.
      let e = t.each j job at in
      let off : i ≢ j = λ same. (let wrong : None ≡ Some job = sym none ∙ ap (slice_get jobs) same ∙ at in cc) in
      (e.0, e.1, subst (λ (x : Traffics). JobTracks owner d.opened t.flying (passed_of (server_journal past)) x j job (c j) e.0) (sym (ap traffics_of (of_other j i step past off))) e.2);
}

nobody_before : (owner : Owner) (among : Bool) (jobs : List Job) (first : ℕ → ClientState) (new : Core) (i : ℕ) (step : JobStep) (past : Acts) (d : Core) (c : ℕ → ClientState) → slice_get jobs i ≡ None → ActsLead owner among jobs first new (OfJob i step ∷ past) d c → ActsLead owner among jobs first new past d c
unfolding server_journal HandsOnAmong
nobody_before owner among jobs first new i step past d c none l = record {
  legal = l.legal;
  runs = l.runs;
  hands = l.hands.0;
  owners = l.owners;
  standing = l.standing.0;
  timely = l.timely.0;
  loops = λ j job at.
      let off : i ≢ j = λ same. (let wrong : None ≡ Some job = sym none ∙ ap (slice_get jobs) same ∙ at in cc) in
      subst (λ (x : List JobStep). StepsLead (first j) x (c j)) (of_other j i step past off) (l.loops j job at);
}

-- ---- all acts

pub stand_behind : (source : Source → SourceState) (owner : Owner) (among : Bool) (jobs : List Job) (first : ℕ → ClientState) (new : Core) (acts : Acts) (d : Core) (c : ℕ → ClientState) → HasOpenedNone new → ((i : ℕ) (job : Job) → slice_get jobs i ≡ Some job → IsNewClient job (first i)) → Setting (course_of source (start_world jobs new first) owner among jobs)
    → AllFilesRepresent (endpoints_of jobs first) → ActsLead owner among jobs first new acts d c → Stands source owner among jobs first new acts d c
stand_behind source owner among jobs first new [] d c is fresh s files l = stands_first source owner among jobs first new d c is fresh l
stand_behind source owner among jobs first new (OfServer action ∷ past) d c is fresh s files l =
    let runs = runs_before new action past d l.runs in
    let before = server_before owner among jobs first new action past d c l runs.0 runs.1 in
    by_server source owner among jobs first new action past d runs.0 c s l before runs.2 (stand_behind source owner among jobs first new past runs.0 c is fresh s files before)
stand_behind source owner among jobs first new (OfJob i step ∷ past) d c is fresh s files l = by (slice_get jobs i) refl (λ z led. stand_behind source owner among jobs first new past d z is fresh s files led)
  where
    by : (o : Option Job) → slice_get jobs i ≡ o → ((z : ℕ → ClientState) → ActsLead owner among jobs first new past d z → Stands source owner among jobs first new past d z) → Stands source owner among jobs first new (OfJob i step ∷ past) d c
    by None none before = by_nobody source owner among jobs first new i step past d c none (before c (nobody_before owner among jobs first new i step past d c none l))
    by (Some job) at before =
        let x = step_is first i step past (c i) (l.loops i job at) in
        by_job source owner among jobs first new i job step past d c s files is.opened at l x (before (client_before i x.mid c) (job_before owner among jobs first new i step past d c x.mid l x.before))
