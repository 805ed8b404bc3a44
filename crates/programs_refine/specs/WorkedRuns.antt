-- Small runs over connections that meet every premise.
use Rattle.std.specs.Prelude.{ℕ, zero, suc, ◌≡◌, Some, None, true, false, List, [], ◌∷◌, All}
use Rattle.rand_chacha.specs.ChaCha.{ChaCha}
use Rattle.md5_auth.specs.declared.users.Entry.{Entry}
use Rattle.sane_fixed.specs.declared.status.Status.TheVariants as statuses
use Rattle.device_api.specs.ScannerLimits.{HasLimits}
use Rattle.device_api.specs.State.{DeviceState}
use Rattle.dispatch.specs.RegistryFault.{HaveOwnNames}
use Rattle.dispatch.specs.Table.{Table, fresh_table}
use Rattle.scan_job.specs.declared.job.Job.{Job}
use Rattle.scan_job.specs.declared.outcome.Why.TheVariants as whys
use Rattle.scan_job.specs.JobSize.{HasCount}
use Rattle.client_replies.specs.declared.progress.Link.TheVariants as links
use Rattle.net_client.specs.ClientStates.{ClientState, IsNewClient, after_client_end}
use Rattle.net_jobs.specs.declared.calls.Loss.TheVariants.{ReadFailed}
use Rattle.net_jobs.specs.JobJournal.JobMove.{Dials, Loses, Takes, Writes}
use Rattle.net_jobs.specs.JobSteps.{JobStep}
use Rattle.saned_requests.specs.declared.session.StringSize.{StringSize}
use Rattle.saned_core.specs.declared.session_slot.DataStep.TheVariants.{Bytes}
use Rattle.saned_core.specs.declared.session_slot.Fed.TheVariants.{Starved}
use Rattle.saned_core.specs.DaemonStates.{Core}
use Rattle.saned_serve.specs.declared.sockets.Got.TheVariants.{Moved}
use Rattle.saned_serve.specs.SessionActions.SessionAction.{Connect, Feed, Hears, Lose, Opens, Take, Turn}
use Rattle.saned_serve.specs.Journal.LoopAction.{Of, Stops}
use Rattle.saned_serve.specs.Serving.{DaemonAndListeners, ServeLimits}
use Rattle.saned_serve.specs.declared.serving.ServeEnd.TheVariants as endings
use Rattle.interleaving.specs.Interleavings.JointAction.{OfJob, OfServer}
use Rattle.interleaving.specs.AmongStrangers.{owned_by_none}
use Rattle.interleaving.specs.HandingOn.{HandsOn, Owner}
use Rattle.event_world.specs.Worlds.{IsFitJob}
use Rattle.programs_refine.specs.Keeping.{AllLoopsAreKept, AreFit}
use Rattle.programs_refine.specs.LedInto.{Interleaves}
use Rattle.programs_refine.specs.StepTraffic.{traffic_of}
use Rattle.programs_refine.specs.Programs.{Acts, RunOverConnections}
use Rattle.md5_auth.specs.Challenges.{HasGiven}

-- ---- what they begin with

-- a daemon that has opened no session
abbrev pub new_core : Table → List Entry → StringSize → ChaCha → Core
new_core registry users strings stream = record {
  slots = None ∷ None ∷ None ∷ None ∷ None ∷ None ∷ None ∷ None ∷ [];
  registry = registry;
  users = users;
  strings = strings;
  stream = stream;
  opened = 0;
}

-- the first session is the first job's
abbrev pub owned_by_first : Owner
owned_by_first zero = Some 0
owned_by_first (suc k) = None

-- ---- what a job does in them

-- it makes a data connection, and takes a byte of it
abbrev pub makes_connection : ℕ → JobStep
makes_connection port = record { move = Dials port true; gives = []; turned = false }

abbrev pub takes_byte : ℕ → JobStep
takes_byte byte = record { move = Takes (byte ∷ []); gives = []; turned = false }

-- it finds its control connection lost
abbrev pub loses : JobStep
loses = record { move = Loses links.Control ReadFailed; gives = []; turned = false }

-- it writes all that is to go out
abbrev pub writes : List ℕ → JobStep
writes bytes = record { move = Writes bytes; gives = []; turned = false }

abbrev pub lost_client : ClientState → ClientState
lost_client c = after_client_end statuses.IoError whys.Lost c

-- **small runs (`LostAtOnceIsARun`, `StarvedIsARun`, `starved_acts`, `NewIsFit`, `StarvedIsKept`)**: of any one job
-- that its loop takes, beside any new daemon. In the first its connection is lost before it wrote anything. In the
-- second it writes its first request, the daemon opens its session, is fed the first byte and runs out of memory, and
-- the job finds its connection lost. Both are runs over connections. If a world takes devices and job, the loop of the
-- second is kept.
abbrev pub LostAtOnceIsARun : Type 0
LostAtOnceIsARun =
    (job : Job) (c : ClientState) (registry : Table) (users : List Entry) (strings : StringSize) (stream : ChaCha)
    → IsNewClient job c → HasCount job.task
    → RunOverConnections (job ∷ []) owned_by_none (new_core registry users strings stream) (OfJob 0 loses
    ∷ []) (λ i. lost_client c)

-- the newest first
abbrev pub starved_acts : ℕ → ClientState → ℕ → Acts
starved_acts port c byte =
    OfJob 0 loses ∷ OfServer (Of 0 (Feed (byte ∷ []) Starved false))
    ∷ OfServer (Of 0 (Hears (Moved 1) 4096 (byte ∷ [])))
    ∷ OfServer (Of 0 (Take 4096 [])) ∷ OfServer (Of 0 (Opens port)) ∷ OfJob 0 (writes c.out) ∷ []

abbrev pub StarvedIsARun : Type 0
StarvedIsARun =
    (job : Job) (c : ClientState) (registry : Table) (users : List Entry) (strings : StringSize) (stream : ChaCha)
    (port byte : ℕ) (rest : List ℕ) → IsNewClient job c → HasCount job.task → c.out ≡ byte ∷ rest
    → RunOverConnections (job ∷ []) owned_by_first (new_core registry users strings stream) (starved_acts port c byte)
    (λ i. lost_client (record c { out = [] }))

abbrev pub NewIsFit : Type 0
NewIsFit =
    (devices : List DeviceState) (job : Job) (users : List Entry) (strings : StringSize) (stream : ChaCha)
    (seed : List ℕ) → HasGiven seed 0 stream → HaveOwnNames devices
    → All HasLimits devices → IsFitJob job
    → AreFit devices (job ∷ []) (new_core (fresh_table devices) users strings stream)

abbrev pub StarvedIsKept : Type 0
StarvedIsKept =
    (devices : List DeviceState) (job : Job) (c : ClientState) (users : List Entry) (strings : StringSize)
    (stream : ChaCha)
    (seed : List ℕ) (port byte : ℕ) (rest : List ℕ) → HasGiven seed 0 stream → HaveOwnNames devices
    → All HasLimits devices → IsFitJob job → IsNewClient job c
    → c.out ≡ byte ∷ rest
    → AllLoopsAreKept devices (job
    ∷ []) (new_core (fresh_table devices) users strings stream) (starved_acts port c byte)
    (λ i. lost_client (record c { out = [] }))

-- a data connection may bring its job what it was given, behind the act by which the daemon is told that it is lost
abbrev pub LostMayBringMore : Type 0
LostMayBringMore =
    (port room byte : ℕ) → HandsOn traffic_of owned_by_first (OfJob 0 (takes_byte byte) ∷ OfServer (Of 0 Lose)
    ∷ OfServer (Of 0 (Turn room (Bytes 1) (byte ∷ []))) ∷ OfServer (Of 0 (Connect port))
    ∷ OfJob 0 (makes_connection port) ∷ OfServer (Of 0 (Opens port)) ∷ [])

-- ---- a server that takes no turn

-- such a daemon, and listeners that tell nothing
abbrev pub new_server : Table → List Entry → StringSize → ChaCha → DaemonAndListeners
new_server registry users strings stream =
    record { daemon = new_core registry users strings stream; listeners = None }

-- it stops, and the job finds its connection lost; the newest first
abbrev pub stopped_acts : Acts
stopped_acts = OfJob 0 loses ∷ OfServer Stops ∷ []

-- **a server without memory (`StoppedInterleaves`, `stopped_acts`, `new_server`)**: the journal of a server that had no
-- memory for a turn says that all turns are over. It interleaves with the loop of any one job that a loop takes, which
-- finds its connection lost. That is a run over connections.
abbrev pub StoppedInterleaves : Type 0
StoppedInterleaves =
    (limits : ServeLimits) (job : Job) (c : ClientState) (registry : Table) (users : List Entry) (strings : StringSize)
    (stream : ChaCha) → IsNewClient job c
    → Interleaves limits (new_server registry users strings stream) (new_server registry users strings stream)
    endings.NoMem (job ∷ []) stopped_acts (λ i. lost_client c)

abbrev pub StoppedIsARun : Type 0
StoppedIsARun =
    (limits : ServeLimits) (job : Job) (c : ClientState) (registry : Table) (users : List Entry) (strings : StringSize)
    (stream : ChaCha) → IsNewClient job c → HasCount job.task
    → RunOverConnections (job ∷ []) owned_by_none (new_core registry users strings stream) stopped_acts
    (λ i. lost_client c)
