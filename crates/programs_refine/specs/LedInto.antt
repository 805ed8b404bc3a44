-- From what the loops ensure of their journals to a run over connections.
use Rattle.std.specs.Prelude.{ℕ, ◌≡◌, ◌⊎◌, Option, Some, List, All, slice_get}
use Rattle.scan_job.specs.declared.job.Job.{Job}
use Rattle.scan_job.specs.declared.outcome.Outcome.TheVariants.{Done, Ended}
use Rattle.scan_job.specs.declared.outcome.Why.TheVariants as whys
use Rattle.scan_job.specs.declared.report.Reports.{Reports}
use Rattle.scan_job.specs.declared.stop.Stop.{Stop}
use Rattle.scan_job.specs.JobSize.{HasCount}
use Rattle.scan_job.specs.Shelves.{Stock}
use Rattle.net_client.specs.ClientStates.{ClientState, IsNewClient}
use Rattle.net_jobs.specs.Batches.{BatchDone, BatchEnded}
use Rattle.net_jobs.specs.JobSteps.{JobStep, MovesAreSteps, MovesStopWithin, StepsGive, StepsLead, given_by_steps}
use Rattle.net_jobs.specs.Links.{LinkViews}
use Rattle.net_jobs.specs.RunPromises.{RanDone, RanEnded, SeenStreams}
use Rattle.saned_serve.specs.Serving.{DaemonAndListeners, HasServed, ServeLimits}
use Rattle.saned_serve.specs.declared.serving.ServeEnd.{ServeEnd}
use Rattle.interleaving.specs.Interleavings.{job_journal, server_journal}
use Rattle.interleaving.specs.HandingOn.{Owner}
use Rattle.interleaving.specs.Parts.{ControlHandsOn, DataIsFromDaemon}
use Rattle.programs_refine.specs.StepTraffic.{traffic_of}
use Rattle.programs_refine.specs.Programs.{Acts, HasOpenedNone, OwnersAreJobs, RunOverConnections}

-- **led into (`LoopLeads`, `Interleaves`)**: a job's loop came from a new client by these steps to this one. Acts
-- interleave if the journal of a server that has served is one part of them, and such steps of each job are the others.
pub record LoopLeads (job : Job) (steps : List JobStep) (last : ClientState) : Type 0 where
  pub first : ClientState
  pub fresh : IsNewClient job first
  pub leads : StepsLead first steps last

-- ---- one page, and jobs that scan none

-- the client of a job that is done came there by its steps, and its file is what went out with them
abbrev pub DoneLeads : Type 0 → Type 0
DoneLeads L =
    (views : LinkViews L) (job : Job) (was now : SeenStreams L (Option (List ℕ))) (reports : Reports)
    (r : RanDone views job was now reports)
    → LoopLeads job r.steps.steps r.ran.last × (r.ran.last.outcome ≡ Done reports)
    × (r.text ≡ given_by_steps r.steps.steps)

-- so that of one that ended, where it is told as the client ended
abbrev pub EndedLeads : Type 0 → Type 0
EndedLeads L =
    (views : LinkViews L) (job : Job) (was now : SeenStreams L (Option (List ℕ))) (stop : Stop)
    (r : RanEnded views job was now stop) (told : r.ran.last.outcome ≡ Ended stop.status stop.why)
    → LoopLeads job (r.steps told).0.steps r.ran.last × (r.text ≡ given_by_steps (r.steps told).0.steps)

-- of one whose output failed, up to the piece at which it did
abbrev pub SunkLeads : Type 0 → Type 0
SunkLeads L =
    (views : LinkViews L) (job : Job) (was now : SeenStreams L (Option (List ℕ))) (stop : Stop)
    (r : RanEnded views job was now stop) (sunk : stop.why ≡ whys.Sink)
    (other : r.ran.last.outcome ≡ Ended stop.status stop.why → ⊥)
    → LoopLeads job (r.sunk sunk other).steps.steps (r.sunk sunk other).mid

-- ---- batches, and all jobs over a shelf

abbrev pub BatchDoneLeads : Type 0 → Type 0
BatchDoneLeads L =
    (views : LinkViews L) (job : Job) (was now : SeenStreams L (Option Stock)) (reports : Reports)
    (r : BatchDone views job was now reports)
    → LoopLeads job r.steps.steps r.ran.last × (r.ran.last.outcome ≡ Done reports)
    × StepsGive r.steps.steps r.ran.trace.pages r.ran.trace.protocol.history.given

abbrev pub BatchEndedLeads : Type 0 → Type 0
BatchEndedLeads L =
    (views : LinkViews L) (job : Job) (was now : SeenStreams L (Option Stock)) (stop : Stop)
    (r : BatchEnded views job was now stop) (told : r.ran.last.outcome ≡ Ended stop.status stop.why)
    → LoopLeads job (r.steps told).0.steps r.ran.last × StepsGive (r.steps told).0.steps r.ran.trace.pages r.text

-- all its moves, or those up to the piece
abbrev pub BatchSunkLeads : Type 0 → Type 0
BatchSunkLeads L =
    (views : LinkViews L) (job : Job) (was now : SeenStreams L (Option Stock)) (stop : Stop)
    (r : BatchEnded views job was now stop) (sunk : stop.why ≡ whys.Sink)
    (other : r.ran.last.outcome ≡ Ended stop.status stop.why → ⊥)
    → ((s : MovesAreSteps r.ran.first r.ran.moves r.ran.last) × LoopLeads job s.steps r.ran.last)
    ⊎ ((s : MovesStopWithin r.ran.first r.ran.moves r.ran.last) × LoopLeads job s.steps.steps s.mid)

-- ---- all of them

pub record Interleaves (limits : ServeLimits) (was now : DaemonAndListeners) (end : ServeEnd) (jobs : List Job)
    (acts : Acts) (last : ℕ → ClientState) : Type 0 where
  pub served : HasServed limits was now end
  pub server : server_journal acts ≡ served.journal
  pub loops : (i : ℕ) (job : Job) → slice_get jobs i ≡ Some job → LoopLeads job (job_journal i acts) (last i)

-- with what is assumed of connections that is a run over them
abbrev pub LoopsLeadIntoRuns : Type 0
LoopsLeadIntoRuns =
    (limits : ServeLimits) (was now : DaemonAndListeners) (end : ServeEnd) (jobs : List Job) (owner : Owner)
    (acts : Acts)
    (last : ℕ → ClientState) → Interleaves limits was now end jobs acts last → HasOpenedNone was.daemon
    → OwnersAreJobs owner jobs → All (λ (job : Job). HasCount job.task) jobs
    → ControlHandsOn traffic_of owner acts → DataIsFromDaemon traffic_of owner acts
    → RunOverConnections jobs owner was.daemon acts last
