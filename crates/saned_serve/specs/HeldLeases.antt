-- Which scanners a daemon's sessions hold.
use Rattle.std.specs.Prelude.{◌≡◌, ◌≢◌, ℕ, zero, suc, Option, None, Some, List, [], ◌∷◌}
use Rattle.device_api.specs.State.{DeviceState}
use Rattle.dispatch.specs.declared.table.place.Lease.{Lease}
use Rattle.dispatch.specs.Table.{Table, TableInvariant}
use Rattle.saned_requests.specs.declared.session.Session.{Session}
use Rattle.saned_requests.specs.Holding.{held_by}
use Rattle.saned_requests.specs.LeaseLaws.{HoldsWell, IsElsewhere}
use Rattle.saned_core.specs.declared.session_slot.SessionSlot.{SessionSlot}
use Rattle.saned_core.specs.DaemonStates.{Core, session_in}

-- what the device words of a session stand for
abbrev pub held_of : Option (Session DeviceState) → List (Option (Lease DeviceState))
held_of None = []
held_of (Some session) = session.held

abbrev pub held_in : Option (SessionSlot DeviceState) → List (Option (Lease DeviceState))
held_in slot = held_of (session_in slot)

-- the same of the session in a place of the daemon
abbrev pub leases_at : List (Option (SessionSlot DeviceState)) → ℕ → List (Option (Lease DeviceState))
leases_at [] k = []
leases_at (slot ∷ slots) zero = held_in slot
leases_at (slot ∷ slots) (suc k) = leases_at slots k

-- **held apart (`AreHeldApart`, `HoldsApart`)**: what the device words of a daemon's sessions stand for are leases of
-- its table, each of a device of its own.
pub record AreHeldApart (t : Table) (slots : List (Option (SessionSlot DeviceState))) : Type 0 where
  pub sound : TableInvariant t
  pub own : (k : ℕ) → HoldsWell t (leases_at slots k)
  pub apart : (j k w : ℕ) (l : Lease DeviceState) → j ≢ k → held_by (leases_at slots j) w ≡ Some l
      → IsElsewhere l t (leases_at slots k)

-- no two words of a daemon's sessions stand for one device
abbrev pub HoldsApart : Core → Type 0
HoldsApart d = AreHeldApart d.registry d.slots
