-- What a session leaves to the sessions of other clients.
use Rattle.std.specs.Prelude.{ℕ, ◌≡◌, ◌≢◌, ◌⊎◌, Option, Some, None, List, slice_get}
use Rattle.rand_chacha.specs.ChaCha.{ChaCha}
use Rattle.md5_auth.specs.declared.users.Entry.{Entry}
use Rattle.device_api.specs.State.{DeviceState}
use Rattle.dispatch.specs.declared.table.place.Lease.{Lease}
use Rattle.dispatch.specs.declared.table.place.Place.{Place}
use Rattle.dispatch.specs.Table.{Table, find_name}
use Rattle.wire_message.specs.declared.message.Request.{Request as Asked}
use Rattle.saned_requests.specs.declared.request_answer.RequestAnswer.{RequestAnswer}
use Rattle.saned_requests.specs.Holding.{given_back, held_by}
use Rattle.saned_requests.specs.RequestAnswers.{Answers, RequestContext}
use Rattle.system_model.specs.Devices.{Make}
use Rattle.system_model.specs.AbstractDevices.{AbstractDevice}
use Rattle.system_model.specs.AbstractDevices as scan
use Rattle.system_model.specs.SystemStates.{with_entry}
use Rattle.system_model.specs.Daemon.{Environment}
use Rattle.system_model.specs.AbstractSessions.{AddressedRequest, AbstractSession, answer_call}
use Rattle.daemon_refines.specs.ContextRefinement.{ContextRefines, TableRefines, abstract_device}

-- nobody holds it, or client i does
abbrev pub IsHeldByNoOther : ℕ → Option ℕ → Type 0
IsHeldByNoOther i None = Unit {0}
IsHeldByNoOther i (Some holder) = holder ≡ i

-- a place is as it was, or nobody but client i holds its device, before and after
abbrev pub LeavesPlace : ℕ → AbstractDevice → AbstractDevice → Option (Place DeviceState) → Option (Place DeviceState)
    → Type 0
LeavesPlace i old new at now = ((new ≡ old) × (now ≡ at))
    ⊎ (IsHeldByNoOther i old.holder × IsHeldByNoOther i new.holder)

-- **leaves others (`LeavesOthers`)**: each place is as it was, or nobody but client i holds its device before and
-- after; the same devices are listed, under the same names.
pub record LeavesOthers (i : ℕ) (registry now : Table) (table new : ℕ → AbstractDevice) : Type 0 where
  pub places : (k : ℕ) → LeavesPlace i (table k) (new k) (slice_get registry k) (slice_get now k)
  pub listed : (k : ℕ) → (new k).listed ≡ (table k).listed
  pub names : (name : List ℕ) → find_name name now ≡ find_name name registry

-- the request context of another session, once the registry and the challenges are these
abbrev pub context_beside : RequestContext → Table → ChaCha → RequestContext
context_beside d registry stream = record { session = d.session; registry = registry; stream = stream }

-- so the session of another client goes on with what it had
abbrev pub OthersAreKept : Type 0
OthersAreKept =
    (i j : ℕ) (make : ℕ → Make) (held : List (Option (Lease DeviceState))) (d : RequestContext) (now : Table)
    (stream : ChaCha) (table new : ℕ → AbstractDevice) (s : AbstractSession) →
    i ≢ j → TableRefines i make held now new → LeavesOthers i d.registry now table new → ContextRefines j make d table s
    → ContextRefines j make (context_beside d now stream) new s

-- a request that the session goes on behind, whatever call it is
abbrev pub RequestsLeave : Type 0
RequestsLeave =
    (i : ℕ) (make : ℕ → Make) (users : List Entry) (d : RequestContext) (table : ℕ → AbstractDevice)
    (s : AbstractSession) (q : Asked) (call : AddressedRequest) (x : ℕ → Environment) (said : RequestAnswer)
    (new : RequestContext) →
    ContextRefines i make d table s → Answers users d q said new
    → LeavesOthers i d.registry new.registry table (answer_call i make table s x s.awaited call).table

-- a session that ends, and a device that client i holds, whatever becomes of it
abbrev pub EndsLeave : Type 0
EndsLeave =
    (i : ℕ) (make : ℕ → Make) (held : List (Option (Lease DeviceState))) (registry : Table) (table : ℕ → AbstractDevice)
    → TableRefines i make held registry table →
    LeavesOthers i registry (given_back registry held) table (λ k. scan.device_let_go i (table k))

abbrev pub DevicesLeave : Type 0
DevicesLeave =
    (i : ℕ) (make : ℕ → Make) (held : List (Option (Lease DeviceState))) (registry : Table) (table : ℕ → AbstractDevice)
    (w : ℕ) (l : Lease DeviceState) (s : DeviceState) → TableRefines i make held registry table →
    held_by held w ≡ Some l
    → LeavesOthers i registry registry table (with_entry table l.place (abstract_device (Some i) s))
