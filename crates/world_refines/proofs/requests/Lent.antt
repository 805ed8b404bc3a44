-- What a session of a world holds are leases of the daemon's table.
use Rattle.std.specs.Prelude.{slice_get}
use Rattle.std.proofs.Common.{◌≡◌, ℕ, zero, suc, [], ◌∷◌, Some, refl, subst}
use Rattle.device_api.specs.State.{DeviceState}
use Rattle.dispatch.specs.Table.{HasPlaceName, Table, TableInvariant}
use Rattle.dispatch.specs.declared.table.place.Place.{Place}
use Rattle.dispatch.specs.declared.table.place.Slot.{Slot}
use Rattle.dispatch.specs.declared.table.place.Slot.TheVariants.{In, Out, Gone}
use Rattle.sane_fixed.specs.declared.device_info.DeviceInfo.{DeviceInfo}
use Rattle.saned_requests.specs.LeaseLaws.{HoldsWell}
use Rattle.system_model.specs.AbstractDevices.{AbstractDevice}
use Rattle.system_model.specs.Devices.{Make}
use Rattle.daemon_refines.specs.ContextRefinement.{PlaceRefines, SlotRefines, TableRefines}
use Rattle.daemon_refines.proofs.Changes.{Held}

named_slot : (i : ℕ) (make : Make) (held : Held) (k : ℕ) (dev : AbstractDevice) (info : DeviceInfo) (slot : Slot DeviceState) → SlotRefines i make held k dev info.name slot → HasPlaceName info slot
named_slot i make held k dev info Gone h = tt
named_slot i make held k dev info (In s) h = h.2
named_slot i make held k dev info Out h = tt

all_named : (t : Table) → ((k : ℕ) (p : Place DeviceState) → slice_get t k ≡ Some p → HasPlaceName p.info p.slot) → TableInvariant t
all_named [] h = tt
all_named (p ∷ t) h = (h zero p refl, all_named t (λ k q at. h (suc k) q at))

pub holds_well : (i : ℕ) (make : ℕ → Make) (held : Held) (registry : Table) (device : ℕ → AbstractDevice) → TableRefines i make held registry device → HoldsWell registry held
holds_well i make held registry device h = record {
  sound = all_named registry (λ k p at. named_slot i (make k) held k (device k) p.info p.slot (subst (PlaceRefines i (make k) held k (device k)) at (h.places k)));
  leases = λ w l stands. (h.leases w l stands).own;
  apart = λ v w l m first second other same. other (h.apart v w l m first second same);
}
