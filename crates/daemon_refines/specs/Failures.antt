-- A failure by the model is one of the device: the source of its page failed in this very call, and counted that.
use Rattle.std.specs.Prelude.{ℕ, ◌≡◌, ◌<◌, Option, Some, None, List}
use Rattle.scan_frames.specs.Frames.{pass_length}
use Rattle.device_api.specs.State.{DeviceState, HasStopped, Phase, failures_of, page_of}
use Rattle.device_api.specs.State.Phase.{AtRest, Between, Reading}
use Rattle.dispatch.specs.declared.table.place.Lease.{Lease}
use Rattle.saned_requests.specs.Holding.{held_by}
use Rattle.system_model.specs.Daemon.{FailureCounts}
use Rattle.system_model.specs.Actions.{Action, TurnsFault}

-- **failed (`IsFailureOf`, `IsFailureIn`, `FailedAt`, `IsCounted`, `IsTurnCounted`, `IsCountedAt`)**: a failure by the
-- model is one of the device. The source of its first page can fail and did so in this very call. The model's two
-- numbers are its counts before and behind the call. The same is said of the device of a word that the session held
-- before and holds behind, of a START, and of a turn.
--
-- where a pass is read, bytes of it are still to be given, and no option ends it
abbrev pub HasBytesLeft : DeviceState → Phase → Type 0
HasBytesLeft s (AtRest cancelled) = Unit {0}
HasBytesLeft s (Between ended) = Unit {0}
HasBytesLeft s (Reading pass given) = (given < pass_length s.setup (page_of s) pass) × (s.setup.told ≡ None)

pub record IsFailureOf (old new : DeviceState) (f : FailureCounts) : Type 0 where
  pub stopped : HasStopped old new
  pub left : HasBytesLeft old old.phase
  pub before : f.before ≡ failures_of old
  pub after : f.after ≡ stopped.failures

abbrev pub IsFailureIn : DeviceState → DeviceState → Option FailureCounts → Type 0
IsFailureIn old new None = Unit {0}
IsFailureIn old new (Some f) = IsFailureOf old new f

-- so did that of the device of this word, of those that a session held before and holds behind it
pub record FailedAt (held now : List (Option (Lease DeviceState))) (word : ℕ) (f : FailureCounts) : Type 0 where
  pub lease : Lease DeviceState
  pub stood : held_by held word ≡ Some lease
  pub after : DeviceState
  pub stands : held_by now word ≡ Some (record lease { device = after })
  pub failed : IsFailureOf lease.device after f

-- a request in which a source fails, or none
abbrev pub IsCounted : List (Option (Lease DeviceState)) → List (Option (Lease DeviceState)) → ℕ → Option FailureCounts
    → Type 0
IsCounted held now word None = Unit {0}
IsCounted held now word (Some f) = FailedAt held now word f

-- a turn in which it fails, by the device that is read
abbrev pub IsTurnCounted : DeviceState → DeviceState → Action → Type 0
IsTurnCounted old new (TurnsFault f) = IsFailureOf old new f
IsTurnCounted old new action = Unit {0}

-- and by the word of a place
abbrev pub IsCountedAt : List (Option (Lease DeviceState)) → List (Option (Lease DeviceState)) → (ℕ → Option ℕ) → ℕ
    → Action → Type 0
IsCountedAt held now words place (TurnsFault f) = (word : ℕ) × (words word ≡ Some place) × FailedAt held now word f
IsCountedAt held now words place action = Unit {0}
