use Rattle.std.specs.Prelude.{◌≡◌, ℕ, zero, suc, nat_eq, ◌||◌, ◌&&◌, List, [], ◌∷◌, map, Option, Some, None, Bool, true}
use Rattle.std.specs.Prelude.{false, Result, Ok, Err, position, slice_get, if◌then◌else◌}
use Rattle.std.specs.Cmp.Lexicographic.{pointwise}
use Rattle.device_api.specs.State.{DeviceState, after_reset, after_cancel, takes_page}
use Rattle.device_api.specs.State.{after_load as page_loaded}
use Rattle.page_picture.specs.Source.{SourceState}
use Rattle.sane_fixed.specs.declared.device_info.DeviceInfo.{DeviceInfo}
use Rattle.sane_fixed.specs.declared.status.Status.{Status}
use Rattle.sane_fixed.specs.declared.status.Status.TheVariants.{DeviceBusy, Inval}
use Rattle.dispatch.specs.declared.table.place.Slot.{Slot}
use Rattle.dispatch.specs.declared.table.place.Slot.TheVariants.{In, Out, Gone}
use Rattle.dispatch.specs.declared.table.place.Place.{Place}
use Rattle.dispatch.specs.declared.table.place.Lease.{Lease}

-- a slot, place, table or lease, with each device seen as its state
abbrev pub seen_slot : {D S : Type 0} → (D → S) → Slot D → Slot S
seen_slot f (In d) = In (f d)
seen_slot f Out = Out
seen_slot f Gone = Gone

abbrev pub seen_place : {D S : Type 0} → (D → S) → Place D → Place S
seen_place f p = record { info = p.info; slot = seen_slot f p.slot }

unfoldable pub table : {D S : Type 0} → (D → S) → List (Place D) → List (Place S)
table f ps = map (seen_place f) ps

abbrev pub seen_lease : {D S : Type 0} → (D → S) → Lease D → Lease S
seen_lease f l = record { device = f l.device; place = l.place }

abbrev pub seen_take : {D S : Type 0} → (D → S) → Result (Lease D) Status → Result (Lease S) Status
seen_take f (Ok l) = Ok (seen_lease f l)
seen_take f (Err e) = Err e

abbrev pub seen_unplug : {D S : Type 0} → (D → S) → Result D Status → Result S Status
seen_unplug f (Ok d) = Ok (f d)
seen_unplug f (Err e) = Err e

-- **table (`Table`, `Place`, `Slot`)**: a place for each device handed in, with what it is: it is in, out with a lease,
-- or gone. A table's invariant holds where each device that is in has its place's name.
abbrev pub Table : Type 0
Table = List (Place DeviceState)

abbrev pub is_gone : {D : Type 0} → Slot D → Bool
is_gone (In d) = false
is_gone Out = false
is_gone Gone = true

-- whether a place is listed under a name
abbrev pub is_named : {D : Type 0} → List ℕ → Place D → Bool
is_named name p =
    elim p.slot [ In d ↦ pointwise nat_eq p.info.name name | Out ↦ pointwise nat_eq p.info.name name | Gone ↦ false ]

-- the place that is listed under a name
abbrev pub find_name : {D : Type 0} → List ℕ → List (Place D) → Option ℕ
find_name name ps = position (is_named name) ps

-- what a slot holds
abbrev pub device_in : {D : Type 0} → Slot D → Option D
device_in (In d) = Some d
device_in Out = None
device_in Gone = None

unfoldable pub held_at : {D : Type 0} → List (Place D) → ℕ → Option D
held_at ps k = elim (slice_get ps k) [ Some p ↦ device_in p.slot | None ↦ None ]

-- the table with another slot at a place
unfoldable pub with_slot : {D : Type 0} → List (Place D) → ℕ → Slot D → List (Place D)
with_slot [] k slot = []
with_slot (p ∷ ps) zero slot = record p { slot = slot } ∷ ps
with_slot (p ∷ ps) (suc k) slot = p ∷ with_slot ps k slot

-- what a take answers, by the place that has the name and what is there
abbrev pub take_of : ℕ → Option DeviceState → Result (Lease DeviceState) Status
take_of k (Some s) = Ok (record { device = after_reset s; place = k })
take_of k None = Err DeviceBusy

abbrev pub take_at : Table → Option ℕ → Result (Lease DeviceState) Status
take_at t (Some k) = take_of k (held_at t k)
take_at t None = Err Inval

-- **steps of the table (`take_answer`, `after_take`, `after_give_back`, `unplug_answer`, `after_unplug`,
-- `listed_infos`)**: what is answered for a name, and the table after it.
unfoldable pub take_answer : Table → List ℕ → Result (Lease DeviceState) Status
take_answer t name = take_at t (find_name name t)

-- the table after that answer
abbrev pub after_take_answer : Table → Result (Lease DeviceState) Status → Table
after_take_answer t (Ok l) = with_slot t l.place Out
after_take_answer t (Err e) = t

unfoldable pub after_take : Table → List ℕ → Table
after_take t name = after_take_answer t (take_answer t name)

-- whether the device of a place is out, and has that name
abbrev pub is_out : {D : Type 0} → Slot D → Bool
is_out (In d) = false
is_out Out = true
is_out Gone = false

abbrev pub awaits_in : {D : Type 0} → List ℕ → Option (Place D) → Bool
awaits_in name None = false
awaits_in name (Some p) = is_out p.slot && pointwise nat_eq p.info.name name

unfoldable pub awaits : {D : Type 0} → List ℕ → ℕ → List (Place D) → Bool
awaits name k ps = awaits_in name (slice_get ps k)

-- the table after a lease is given back; one that is not of this table changes nothing
unfoldable pub after_give_back : Table → Lease DeviceState → Table
after_give_back t l =
    if awaits l.device.info.name l.place t then with_slot t l.place (In (after_cancel l.device)) else t

-- **lease (`IsLeaseOf`)**: its place is out, and its device has that place's name; only such a one changes the table
-- when it is given back (`awaits`).
pub record IsLeaseOf (lease : Lease DeviceState) (t : Table) : Type 0 where
  pub place : Place DeviceState
  pub at : slice_get t lease.place ≡ Some place
  pub out : place.slot ≡ Out
  pub name : lease.device.info.name ≡ place.info.name

-- what stands in a place has that place's name
abbrev pub HasPlaceName : DeviceInfo → Slot DeviceState → Type 0
HasPlaceName info (In s) = s.info.name ≡ info.name
HasPlaceName info Out = Unit {0}
HasPlaceName info Gone = Unit {0}

abbrev pub TableInvariant : Table → Type 0
TableInvariant [] = Unit {0}
TableInvariant (p ∷ ps) = HasPlaceName p.info p.slot × TableInvariant ps

-- what the devices are that are not unplugged, in their order
abbrev pub listed_infos : {D : Type 0} → List (Place D) → List DeviceInfo
listed_infos [] = []
listed_infos (p ∷ ps) = if is_gone p.slot then listed_infos ps else p.info ∷ listed_infos ps

-- what an unplug answers, and the table after it
abbrev pub unplug_of : Option DeviceState → Result DeviceState Status
unplug_of (Some s) = Ok s
unplug_of None = Err DeviceBusy

abbrev pub unplug_at : Table → Option ℕ → Result DeviceState Status
unplug_at t (Some k) = unplug_of (held_at t k)
unplug_at t None = Err Inval

unfoldable pub unplug_answer : Table → List ℕ → Result DeviceState Status
unplug_answer t name = unplug_at t (find_name name t)

abbrev pub unplugged_of : Table → ℕ → Option DeviceState → Table
unplugged_of t k (Some s) = with_slot t k Gone
unplugged_of t k None = t

abbrev pub unplugged_at : Table → Option ℕ → Table
unplugged_at t (Some k) = unplugged_of t k (held_at t k)
unplugged_at t None = t

unfoldable pub after_unplug : Table → List ℕ → Table
after_unplug t name = unplugged_at t (find_name name t)

-- a registry refuses devices of one name, and more than sixteen
abbrev pub is_called : List ℕ → DeviceState → Bool
is_called name s = pointwise nat_eq s.info.name name

abbrev pub has_name : List ℕ → List DeviceState → Bool
has_name name [] = false
has_name name (s ∷ ss) = is_called name s || has_name name ss

abbrev pub repeats : List DeviceState → Bool
repeats [] = false
repeats (s ∷ ss) = has_name s.info.name ss || repeats ss

-- the table of a new registry: each device is in, and was reset
abbrev pub fresh_place : DeviceState → Place DeviceState
fresh_place s = record { info = s.info; slot = In (after_reset s) }

abbrev pub fresh_table : List DeviceState → Table
fresh_table ss = map fresh_place ss

-- a place for each device, with nothing in it
abbrev pub vacant_table : {D : Type 0} → List DeviceState → List (Place D)
vacant_table [] = []
vacant_table (s ∷ ss) = record { info = s.info; slot = Gone } ∷ vacant_table ss

-- each device in its place
abbrev pub filled_places : {D : Type 0} → List (Place D) → List D → List (Place D)
filled_places [] ds = []
filled_places (p ∷ ps) [] = p ∷ ps
filled_places (p ∷ ps) (d ∷ ds) = record { info = p.info; slot = In d } ∷ filled_places ps ds

-- ---- another page

-- without what comes back
abbrev pub without_return : {A E P : Type 0} → Result A (E × P) → Result A E
without_return (Ok a) = Ok a
without_return (Err e) = Err e.0

abbrev pub load_into : DeviceState → Result Unit Status
load_into s = if takes_page s then Ok tt else Err DeviceBusy

abbrev pub load_of : Slot DeviceState → Result Unit Status
load_of (In s) = load_into s
load_of Out = Err DeviceBusy
load_of Gone = Err DeviceBusy

abbrev pub loaded_device : DeviceState → SourceState → DeviceState
loaded_device s source = if takes_page s then page_loaded s source else s

abbrev pub loaded_slot : Slot DeviceState → SourceState → Slot DeviceState
loaded_slot (In s) source = In (loaded_device s source)
loaded_slot Out source = Out
loaded_slot Gone source = Gone

abbrev pub slot_load : Option (Place DeviceState) → Result Unit Status
slot_load (Some p) = load_of p.slot
slot_load None = Err Inval

abbrev pub load_at : Table → Option ℕ → Result Unit Status
load_at t (Some k) = slot_load (slice_get t k)
load_at t None = Err Inval

unfoldable pub load_answer : Table → List ℕ → Result Unit Status
load_answer t name = load_at t (find_name name t)

unfoldable pub with_loaded : Table → ℕ → SourceState → Table
with_loaded [] k source = []
with_loaded (p ∷ ps) zero source = record { info = p.info; slot = loaded_slot p.slot source } ∷ ps
with_loaded (p ∷ ps) (suc k) source = p ∷ with_loaded ps k source

abbrev pub loaded_at : Table → Option ℕ → SourceState → Table
loaded_at t (Some k) source = with_loaded t k source
loaded_at t None source = t

unfoldable pub table_after_load : Table → List ℕ → SourceState → Table
table_after_load t name source = loaded_at t (find_name name t) source
