-- Runs in which the loops of some jobs did anything, such as a loop that has no memory for what it is to tell. What is
-- promised of all others is told by a history in which their sessions are strangers'.
use Rattle.std.specs.Prelude.{ℕ, ◌≡◌, Bool, true, if◌then◌else◌, Option, Some, None, List, [], ◌∷◌, All, slice_get}
use Rattle.rand_chacha.specs.ChaCha.{ChaCha}
use Rattle.md5_auth.specs.declared.users.Entry.{Entry}
use Rattle.device_api.specs.State.{DeviceState}
use Rattle.dispatch.specs.Table.{Table}
use Rattle.scan_job.specs.declared.job.Job.{Job}
use Rattle.scan_job.specs.JobSize.{HasCount}
use Rattle.net_client.specs.ClientStates.{ClientState, IsNewClient}
use Rattle.net_jobs.specs.JobSteps.{StepsLead}
use Rattle.saned_requests.specs.declared.session.StringSize.{StringSize}
use Rattle.saned_core.specs.DaemonStates.{Core}
use Rattle.saned_serve.specs.ListenerTraces.{ListenerTrace}
use Rattle.saned_serve.specs.Journal.{JournalLeads}
use Rattle.interleaving.specs.Interleavings.{job_journal, server_journal}
use Rattle.interleaving.specs.Interleavings.JointAction.{OfJob}
use Rattle.interleaving.specs.AmongStrangers.{owned_by_none}
use Rattle.interleaving.specs.HandingOn.{Owner}
use Rattle.interleaving.specs.Parts.{ControlHandsOnAmong, DataIsFromDaemon}
use Rattle.programs_refine.specs.StepTraffic.{traffic_of}
use Rattle.programs_refine.specs.Programs.{Acts, HasOpenedNone, OwnersAreJobs}
use Rattle.programs_refine.specs.Keeping.{AreFit}
use Rattle.programs_refine.specs.StoppedAmong.{RunOfAnyLoopsAmong, but_the_second, lost_or_killed}
use Rattle.programs_refine.specs.ToldOfEach.{WholeLoopsAreToldAmong}
use Rattle.programs_refine.specs.WorkedRuns.{loses, new_core, writes}

-- a job's session, where its loop did whole steps
abbrev pub owner_if : (ℕ → Bool) → Option ℕ → Option ℕ
owner_if whole None = None
owner_if whole (Some i) = if whole i then Some i else None

abbrev pub owned_by_whole : (ℕ → Bool) → Owner → Owner
owned_by_whole whole owner k = owner_if whole (owner k)

-- **beside any loops (`LoopsLeadOrNot`, `RunBesideAnyLoops`, `owned_by_whole`)**: each loop of some jobs did whole
-- steps, and the others did anything. Such a loop may have a client that is done and no memory for what it is to tell:
-- it still writes CLOSE and EXIT behind the last piece, though not all of its file went out. Their sessions are as
-- strangers' to the others.
--
-- each began with a new client
pub record LoopsLeadOrNot (jobs : List Job) (whole : ℕ → Bool) (acts : Acts) (last : ℕ → ClientState) : Type 0 where
  pub first : ℕ → ClientState
  pub fresh : (i : ℕ) (job : Job) → slice_get jobs i ≡ Some job → IsNewClient job (first i)
  pub loops : (i : ℕ) (job : Job) → slice_get jobs i ≡ Some job → whole i ≡ true
      → StepsLead (first i) (job_journal i acts) (last i)

-- a run among strangers, but for those
pub record RunBesideAnyLoops (jobs : List Job) (owner : Owner) (d : Core) (whole : ℕ → Bool) (acts : Acts)
    (last : ℕ → ClientState) : Type 0 where
  pub new : HasOpenedNone d
  pub owns : OwnersAreJobs owner jobs
  pub counts : All (λ (job : Job). HasCount job.task) jobs
  pub loops : LoopsLeadOrNot jobs whole acts last
  pub end : Core
  pub before : Option ListenerTrace
  pub after : Option ListenerTrace
  pub serves : JournalLeads d before (server_journal acts) end after
  pub hands_on : ControlHandsOnAmong traffic_of owner acts
  pub from_daemon : DataIsFromDaemon traffic_of owner acts

abbrev pub ProgramsTellEachBesideAny : Type 0
ProgramsTellEachBesideAny =
    (devices : List DeviceState) (jobs : List Job) (owner : Owner) (d : Core) (whole : ℕ → Bool) (acts : Acts)
    (last : ℕ → ClientState) → AreFit devices jobs d → RunBesideAnyLoops jobs owner d whole acts last
    → WholeLoopsAreToldAmong devices jobs (owned_by_whole whole owner) d whole acts last

-- ---- such a run

-- the first job finds its connection lost, and the second writes a byte that its client never had to write; the newest
-- first
abbrev pub wild_acts : ℕ → Acts
wild_acts byte = OfJob 1 (writes (byte ∷ [])) ∷ OfJob 0 loses ∷ []

-- **one does anything (`WildIsARun`)**: that is such a run beside any two jobs that loops take, and none in which loops
-- stop within a step, whatever they came to.
abbrev pub WildIsARun : Type 0
WildIsARun =
    (one two : Job) (c b : ClientState) (registry : Table) (users : List Entry) (strings : StringSize) (stream : ChaCha)
    (byte : ℕ) → IsNewClient one c → IsNewClient two b → HasCount one.task → HasCount two.task
    → RunBesideAnyLoops (one ∷ two ∷ []) owned_by_none (new_core registry users strings stream) but_the_second
    (wild_acts byte) (lost_or_killed c b)
    × ((last : ℕ → ClientState) → RunOfAnyLoopsAmong (one ∷ two ∷ []) owned_by_none
    (new_core registry users strings stream) but_the_second (wild_acts byte) last → ⊥)
