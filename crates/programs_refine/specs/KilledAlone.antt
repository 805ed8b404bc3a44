-- A run in which the loop of one job is killed within a step, and no stranger speaks.
use Rattle.std.specs.Prelude.{List, [], ◌∷◌, ℕ, All}
use Rattle.rand_chacha.specs.ChaCha.{ChaCha}
use Rattle.md5_auth.specs.Challenges.{HasGiven}
use Rattle.md5_auth.specs.declared.users.Entry.{Entry}
use Rattle.device_api.specs.ScannerLimits.{HasLimits}
use Rattle.device_api.specs.State.{DeviceState}
use Rattle.dispatch.specs.RegistryFault.{HaveOwnNames}
use Rattle.dispatch.specs.Table.{Table, fresh_table}
use Rattle.scan_job.specs.declared.job.Job.{Job}
use Rattle.scan_job.specs.JobSize.{HasCount}
use Rattle.net_client.specs.ClientStates.{ClientState, IsNewClient}
use Rattle.saned_requests.specs.declared.session.StringSize.{StringSize}
use Rattle.interleaving.specs.Interleavings.JointAction.{OfJob}
use Rattle.interleaving.specs.AmongStrangers.{owned_by_none}
use Rattle.event_world.specs.Worlds.{IsFitJob}
use Rattle.programs_refine.specs.Programs.{Acts, RunOverConnections}
use Rattle.programs_refine.specs.StoppedLoops.{RunOfAnyLoops, WholeLoopsAreKept}
use Rattle.programs_refine.specs.StoppedAmong.{but_the_second, looks_once_more, lost_or_killed}
use Rattle.programs_refine.specs.WorkedRuns.{loses, new_core}

-- the first job finds its connection lost, and the loop of the second is killed within its first step; the newest first
abbrev pub killed_alone : Acts
killed_alone = OfJob 1 looks_once_more ∷ OfJob 0 loses ∷ []

-- **one is killed (`KilledIsARun`, `KilledIsKept`)**: beside any two jobs that loops take, that is a run in which a
-- loop stops within a step, and no run of whole loops, whatever they came to. If a world takes devices and jobs, all of
-- that is kept of the first.
abbrev pub KilledIsARun : Type 0
KilledIsARun =
    (one two : Job) (c b : ClientState) (registry : Table) (users : List Entry) (strings : StringSize) (stream : ChaCha)
    → IsNewClient one c → IsNewClient two b → HasCount one.task → HasCount two.task
    → RunOfAnyLoops (one ∷ two ∷ []) owned_by_none (new_core registry users strings stream) but_the_second killed_alone
    (lost_or_killed c b)
    × ((last : ℕ → ClientState) → RunOverConnections (one ∷ two ∷ []) owned_by_none
    (new_core registry users strings stream) killed_alone last → ⊥)

abbrev pub KilledIsKept : Type 0
KilledIsKept =
    (devices : List DeviceState) (one two : Job) (c b : ClientState) (users : List Entry) (strings : StringSize)
    (stream : ChaCha) (seed : List ℕ) → HasGiven seed 0 stream → HaveOwnNames devices → All HasLimits devices
    → IsFitJob one → IsFitJob two → IsNewClient one c → IsNewClient two b
    → WholeLoopsAreKept devices (one ∷ two ∷ []) (new_core (fresh_table devices) users strings stream) but_the_second
    killed_alone (lost_or_killed c b)
