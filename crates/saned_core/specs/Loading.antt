-- Another page for a device, in its place or leased.
use Rattle.std.specs.Prelude.{ℕ, nat_eq, Bool, false, if◌then◌else◌, Option, Some, None, Result, Err, List, [], ◌∷◌}
use Rattle.std.specs.List.{list_any}
use Rattle.std.specs.Cmp.Lexicographic.{pointwise}
use Rattle.sane_fixed.specs.declared.status.Status.{Status}
use Rattle.sane_fixed.specs.declared.status.Status.TheVariants.{Inval}
use Rattle.page_picture.specs.Source.{SourceState}
use Rattle.device_api.specs.State.{DeviceState}
use Rattle.dispatch.specs.declared.table.place.Lease.{Lease}
use Rattle.dispatch.specs.Table.{load_answer, table_after_load, load_into, loaded_device}
use Rattle.saned_core.specs.declared.session_slot.SessionSlot.{SessionSlot}
use Rattle.saned_requests.specs.declared.session.Session.{Session}
use Rattle.saned_requests.specs.Holding.{with_device}
use Rattle.saned_core.specs.DaemonStates.{Core}

-- ---- the first of a list that is so

-- what it tells, or something else where there is none
unfoldable pub first_answer_of : {A B : Type 0} → (A → Bool) → (A → B) → List A → B → B
first_answer_of p tells [] other = other
first_answer_of p tells (x ∷ xs) other = if p x then tells x else first_answer_of p tells xs other

-- something else in its place
unfoldable pub on_first : {A : Type 0} → (A → Bool) → (A → A) → List A → List A
on_first p f [] = []
on_first p f (x ∷ xs) = if p x then f x ∷ xs else x ∷ on_first p f xs

-- ---- a lease of the device of that name

abbrev pub is_lease_named : List ℕ → Option (Lease DeviceState) → Bool
is_lease_named name None = false
is_lease_named name (Some lease) = pointwise nat_eq lease.device.info.name name

abbrev pub holds_in : List ℕ → Option (Session DeviceState) → Bool
holds_in name None = false
holds_in name (Some s) = list_any (is_lease_named name) s.held

abbrev pub holds : List ℕ → Option (SessionSlot DeviceState) → Bool
holds name None = false
holds name (Some slot) = holds_in name slot.session

-- what the first lease of that name answers, and what it is then
abbrev pub lease_load : Option (Lease DeviceState) → Result Unit Status
lease_load None = Err Inval
lease_load (Some lease) = load_into lease.device

abbrev pub lease_with : SourceState → Option (Lease DeviceState) → Option (Lease DeviceState)
lease_with source None = None
lease_with source (Some lease) = with_device lease (loaded_device lease.device source)

abbrev pub held_load : List ℕ → List (Option (Lease DeviceState)) → Result Unit Status
held_load name held = first_answer_of (is_lease_named name) lease_load held (Err Inval)

abbrev pub held_with : List ℕ → SourceState → List (Option (Lease DeviceState)) → List (Option (Lease DeviceState))
held_with name source held = on_first (is_lease_named name) (lease_with source) held

abbrev pub session_load : List ℕ → Option (Session DeviceState) → Result Unit Status
session_load name None = Err Inval
session_load name (Some s) = held_load name s.held

abbrev pub slot_load_answer : List ℕ → Option (SessionSlot DeviceState) → Result Unit Status
slot_load_answer name None = Err Inval
slot_load_answer name (Some slot) = session_load name slot.session

abbrev pub session_with : List ℕ → SourceState → Option (Session DeviceState) → Option (Session DeviceState)
session_with name source None = None
session_with name source (Some s) = Some (record s { held = held_with name source s.held })

abbrev pub slot_with_page : List ℕ → SourceState → Option (SessionSlot DeviceState) → Option (SessionSlot DeviceState)
slot_with_page name source None = None
slot_with_page name source (Some slot) = Some (record slot { session = session_with name source slot.session })

-- **load (`daemon_load_answer`, `core_after_load`)**: where a session holds the device of that name, its first such
-- lease takes the page; else the table answers.
abbrev pub daemon_load_answer : Core → List ℕ → Result Unit Status
daemon_load_answer d name = first_answer_of (holds name) (slot_load_answer name) d.slots (load_answer d.registry name)

abbrev pub core_after_load : Core → List ℕ → SourceState → Core
core_after_load d name source =
    if list_any (holds name) d.slots
    then record d { slots = on_first (holds name) (slot_with_page name source) d.slots }
    else record d { registry = table_after_load d.registry name source }
