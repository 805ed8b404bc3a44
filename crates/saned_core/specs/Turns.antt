-- What a turn of a session's data connection does.
use Rattle.std.specs.Prelude.{ℕ, ◌+◌, ◌≡◌, min, Option, Some, None, Result, Ok, Err, List, ◌++◌, take, length}
use Rattle.std.specs.Int.{w32, to_be_bytes}
use Rattle.sane_fixed.specs.declared.status.Status.{Status}
use Rattle.sane_fixed.specs.declared.status.Status.TheVariants.{Cancelled}
use Rattle.sane_fixed.specs.Status.{status_code}
use Rattle.device_api.specs.State.{DeviceState, Reads}
use Rattle.dispatch.specs.declared.table.place.Lease.{Lease}
use Rattle.data_records.specs.Records.{end_record}
use Rattle.saned_requests.specs.declared.session.DataPhase.{DataPhase}
use Rattle.saned_requests.specs.declared.session.DataPhase.TheVariants.{Quiet, Waiting, Streaming, Ending}
use Rattle.saned_core.specs.declared.session_slot.DataStep.{DataStep}
use Rattle.saned_core.specs.declared.session_slot.DataStep.TheVariants.{Idle, Bytes, Last}
use Rattle.saned_requests.specs.declared.session.Session.{Session}
use Rattle.saned_core.specs.declared.session_slot.SessionSlot.{SessionSlot}
use Rattle.saned_requests.specs.Holding.{held_by, on_word, with_device}
use Rattle.saned_core.specs.DaemonStates.{Core, session_slot_of, session_in, on_session_slot, with_session}

-- the status that ends the data, behind the length that no record has
abbrev pub WritesEndRecord : Status → DataStep → List ℕ → Type 0
WritesEndRecord status step buf = (step ≡ Last 5) × (take 5 buf ≡ end_record (status_code status))

-- a record of what was read, or the end
abbrev pub Records : Result ℕ Status → List ℕ → DataStep → List ℕ → Type 0
Records (Ok n) window step buf = (step ≡ Bytes (4 + n)) × (take (4 + n) buf ≡ to_be_bytes w32 n ++ take n window)
Records (Err status) window step buf = WritesEndRecord status step buf

abbrev pub data_phase_after : DataPhase → Result ℕ Status → DataPhase
data_phase_after c (Ok n) = c
data_phase_after c (Err status) = Quiet

-- one read, into all of the buffer behind the record's head but at most 65,536 bytes, and its record
pub record StreamsOn (lease : Lease DeviceState) (word : ℕ) (old : Session DeviceState) (step : DataStep)
    (new : Session DeviceState) (buf : List ℕ) : Type 0 where
  pub answer : Result ℕ Status
  pub after : DeviceState
  pub window : List ℕ
  pub whole : 4 + length window ≡ min (length buf) 65540
  pub reads : Reads lease.device answer after window
  pub written : Records answer window step buf
  pub new_is : new
      ≡ record old
      { held = on_word (λ _. with_device lease after) old.held word; transfer = data_phase_after old.transfer answer }

abbrev pub StreamsFrom : Option (Lease DeviceState) → ℕ → Session DeviceState → DataStep → Session DeviceState → List ℕ
    → Type 0
StreamsFrom None word old step new buf = (step ≡ Idle) × (new ≡ old)
StreamsFrom (Some lease) word old step new buf = StreamsOn lease word old step new buf

abbrev pub StreamsIn : DataPhase → Session DeviceState → DataStep → Session DeviceState → List ℕ → Type 0
StreamsIn Quiet old step new buf = (step ≡ Idle) × (new ≡ old)
StreamsIn (Waiting word) old step new buf = (step ≡ Idle) × (new ≡ old)
StreamsIn (Streaming word) old step new buf = StreamsFrom (held_by old.held word) word old step new buf
StreamsIn Ending old step new buf = WritesEndRecord Cancelled step buf × (new ≡ record old { transfer = Quiet })

abbrev pub TurnsStream : Session DeviceState → DataStep → Session DeviceState → List ℕ → Type 0
TurnsStream old step new buf = StreamsIn old.transfer old step new buf

-- the same of one among those that stand
abbrev pub TurnsSessions : Option (Session DeviceState) → ℕ → List (Option (SessionSlot DeviceState)) → DataStep
    → List (Option (SessionSlot DeviceState)) → List ℕ → Type 0
TurnsSessions None n old step new buf = (step ≡ Idle) × (new ≡ old)
TurnsSessions (Some s) n old step new buf = (t : Session DeviceState) × TurnsStream s step t buf
    × (new ≡ on_session_slot (with_session t) n old)

abbrev pub TurnsSlots : ℕ → List (Option (SessionSlot DeviceState)) → DataStep → List (Option (SessionSlot DeviceState))
    → List ℕ → Type 0
TurnsSlots n old step new buf = TurnsSessions (session_in (session_slot_of old n)) n old step new buf

-- **turns (`Turns`)**: one record of what one read gave, at most 65,536 bytes and what the buffer has room for behind
-- four bytes; or the end record with the status that the read answered, or CANCELLED; or nothing.
--
-- and of a daemon, of which nothing else changes
pub record Turns (n : ℕ) (old : Core) (step : DataStep) (new : Core) (buf : List ℕ) : Type 0 where
  pub slots : TurnsSlots n old.slots step new.slots buf
  pub others : new ≡ record old { slots = new.slots }
