-- What holds of the leases of a session and of the others, and what a request keeps of it.
use Rattle.std.specs.Prelude.{ℕ, ◌≡◌, ◌≢◌, ◌⊎◌, Option, Some, List, length, slice_get}
use Rattle.device_api.specs.State.{DeviceState, after_cancel}
use Rattle.dispatch.specs.declared.table.place.Lease.{Lease}
use Rattle.dispatch.specs.declared.table.place.Place.{Place}
use Rattle.dispatch.specs.declared.table.place.Slot.TheVariants.{In}
use Rattle.dispatch.specs.Table.{Table, TableInvariant, IsLeaseOf, with_slot}
use Rattle.saned_requests.specs.Holding.{held_by}
use Rattle.saned_requests.specs.RequestAnswers.{RequestContext}

-- each place of the table has its device's name, what a word stands for is a lease of the table, and no two words have
-- one place
pub record HoldsWell (t : Table) (held : List (Option (Lease DeviceState))) : Type 0 where
  pub sound : TableInvariant t
  pub leases : (w : ℕ) (l : Lease DeviceState) → held_by held w ≡ Some l → IsLeaseOf l t
  pub apart : (v w : ℕ) (l m : Lease DeviceState) → held_by held v ≡ Some l → held_by held w ≡ Some m → v ≢ w
      → l.place ≢ m.place

-- a lease of the table that another session has
pub record IsElsewhere (m : Lease DeviceState) (t : Table) (held : List (Option (Lease DeviceState))) : Type 0 where
  pub lease : IsLeaseOf m t
  pub apart : (w : ℕ) (l : Lease DeviceState) → held_by held w ≡ Some l → l.place ≢ m.place

-- a lease stays with its word, or its device is in its place again, cancelled
abbrev pub StaysOrReturns : RequestContext → RequestContext → ℕ → Lease DeviceState → Type 0
StaysOrReturns d new w l =
    ((m : Lease DeviceState) × (held_by new.session.held w ≡ Some m) × (m.place ≡ l.place))
    ⊎ (new.registry ≡ with_slot d.registry l.place (In (after_cancel l.device)))

pub record KeepsLeases (d new : RequestContext) : Type 0 where
  pub words : length new.session.held ≡ length d.session.held
  pub own : HoldsWell d.registry d.session.held → HoldsWell new.registry new.session.held
  pub others : (m : Lease DeviceState) → HoldsWell d.registry d.session.held → IsElsewhere m d.registry d.session.held
      → IsElsewhere m new.registry new.session.held
  pub none_lost : (w : ℕ) (l : Lease DeviceState) → HoldsWell d.registry d.session.held
      → held_by d.session.held w ≡ Some l → StaysOrReturns d new w l

-- the device stands in that place
abbrev pub IsIn : DeviceState → ℕ → Table → Type 0
IsIn s k t = (p : Place DeviceState) × (slice_get t k ≡ Some p) × (p.slot ≡ In s)
