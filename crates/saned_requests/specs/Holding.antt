-- What a session holds: its device words, and what becomes of the leases that they stand for.
use Rattle.std.specs.Prelude.{ℕ, zero, suc, Bool, true, false, Option, Some, None, option_map, List, [], ◌∷◌, map}
use Rattle.std.specs.Prelude.{position}
use Rattle.device_api.specs.State.{DeviceState, after_cancel}
use Rattle.dispatch.specs.declared.table.place.Lease.{Lease}
use Rattle.dispatch.specs.Table.{Table, seen_lease, after_give_back}
use Rattle.saned_requests.specs.declared.session.DataPhase.TheVariants.{Quiet}
use Rattle.saned_requests.specs.declared.session.Session.{Session}
use Rattle.saned_requests.specs.declared.session.StringSize.{StringSize}

-- with each device seen as its state
abbrev pub seen_held : {D S : Type 0} → (D → S) → List (Option (Lease D)) → List (Option (Lease S))
seen_held f held = map (option_map (seen_lease f)) held

abbrev pub seen_session : {D S : Type 0} → (D → S) → Session D → Session S
seen_session f s =
    record {
      port = s.port;
      strings = s.strings;
      greeted = s.greeted;
      held = seen_held f s.held;
      awaited =
          s.awaited;
      transfer = s.transfer;
    }

-- **what a session holds (`held_by`, `on_word`, `free_word`, `given_back`)**: what a word stands for, something else in
-- its place, the least free word, and the table once all leases are back.
unfoldable pub held_by : {S : Type 0} → List (Option (Lease S)) → ℕ → Option (Lease S)
held_by [] word = None
held_by (h ∷ held) zero = h
held_by (h ∷ held) (suc word) = held_by held word

abbrev pub is_some_lease : {S : Type 0} → Option (Lease S) → Bool
is_some_lease None = false
is_some_lease (Some lease) = true

-- the least free one
abbrev pub is_free : {S : Type 0} → Option (Lease S) → Bool
is_free None = true
is_free (Some lease) = false

abbrev pub free_word : {S : Type 0} → List (Option (Lease S)) → Option ℕ
free_word held = position is_free held

abbrev pub with_device : Lease DeviceState → DeviceState → Option (Lease DeviceState)
with_device lease s = Some (record lease { device = s })

-- something else in place of what a word stands for
unfoldable pub on_word : {S : Type 0} → (Option (Lease S) → Option (Lease S)) → List (Option (Lease S)) → ℕ
    → List (Option (Lease S))
on_word f [] word = []
on_word f (h ∷ held) zero = f h ∷ held
on_word f (h ∷ held) (suc word) = h ∷ on_word f held word

abbrev pub cancelled_lease : Option (Lease DeviceState) → Option (Lease DeviceState)
cancelled_lease None = None
cancelled_lease (Some lease) = with_device lease (after_cancel lease.device)

-- the device of a word, where it stands for one, is cancelled
abbrev pub with_cancelled : List (Option (Lease DeviceState)) → ℕ → List (Option (Lease DeviceState))
with_cancelled held word = on_word cancelled_lease held word

-- every lease goes back to the table
abbrev pub with_lease_back : Table → Option (Lease DeviceState) → Table
with_lease_back t None = t
with_lease_back t (Some lease) = after_give_back t lease

abbrev pub given_back : Table → List (Option (Lease DeviceState)) → Table
given_back t [] = t
given_back t (lease ∷ held) = given_back (with_lease_back t lease) held

-- a session that was just opened
abbrev pub fresh_session : StringSize → ℕ → Session DeviceState
fresh_session strings port =
    record {
      port = port;
      strings = strings;
      greeted = false;
      held = None ∷ None ∷ None ∷ None ∷ [];
      awaited =
          None;
      transfer = Quiet;
    }
