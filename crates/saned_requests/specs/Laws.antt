-- What laws of this crate say.
use Rattle.std.specs.Prelude.{◌≡◌, ℕ, List, Option, Some}
use Rattle.device_api.specs.State.{DeviceState, after_cancel}
use Rattle.dispatch.specs.declared.table.place.Lease.{Lease as ALease}
use Rattle.dispatch.specs.Table.{Table}
use Rattle.saned_requests.specs.Holding.{held_by, given_back}
use Rattle.saned_requests.specs.LeaseLaws.{HoldsWell, IsIn}

-- each device of a session that ends is in its place again, cancelled
abbrev pub EndGivesBack : Type 0
EndGivesBack = (t : Table) (held : List (Option (ALease DeviceState))) (w : ℕ) (l : ALease DeviceState)
    → HoldsWell t held → held_by held w ≡ Some l → IsIn (after_cancel l.device) l.place (given_back t held)
