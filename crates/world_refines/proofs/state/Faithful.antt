-- Devices stay true to their pages, and numbers of sessions below theirs.
use Rattle.std.proofs.Common.{ℕ, zero, suc, ◌≤◌, List, [], ◌∷◌, Option, Some, None, Bool, true, false, arith}
use Rattle.std.specs.Prelude.{if◌then◌else◌}
use Rattle.std.specs.Option.{option_and_then}
use Rattle.std.specs.List.{AllByRecursion}
use Rattle.device_api.specs.State.{DeviceState, HeldPage, Phase, after_cancel, cancelled_in, feeds, left_behind}
use Rattle.device_api.specs.State.Phase.{AtRest, Between, Reading}
use Rattle.dispatch.specs.declared.table.place.Lease.{Lease}
use Rattle.dispatch.specs.declared.table.place.Slot.{Slot}
use Rattle.dispatch.specs.declared.table.place.Slot.TheVariants.{In}
use Rattle.dispatch.specs.Table.{Table, after_give_back, awaits, with_slot}
use Rattle.saned_requests.specs.declared.session.Session.{Session}
use Rattle.saned_requests.specs.Holding.{with_lease_back, cancelled_lease, given_back, on_word}
use Rattle.saned_core.specs.declared.session_slot.SessionSlot.{SessionSlot}
use Rattle.saned_core.specs.DaemonStates.{is_slot_number, on_session_slot, session_slot_of, session_in, session_let_go, with_session_slot}
use Rattle.world_refines.specs.WorldRefinement.{IsBelow, IsFaithful, IsFaithfulLease, IsFaithfulPlace, IsFaithfulSessionSlot, IsFaithfulSession, IsFaithfulSlot, IsFaithfulPage}

-- ---- a device

pub left_true : (b : Bool) (pages : List HeldPage) → AllByRecursion IsFaithfulPage pages → AllByRecursion IsFaithfulPage (left_behind b pages)
left_true false pages h = h
left_true true [] h = h
left_true true (p ∷ pages) h = h.1

cancelled_true : (phase : Phase) (s : DeviceState) → IsFaithful s → IsFaithful (cancelled_in phase s)
cancelled_true (AtRest c) s h = h
cancelled_true (Between n) s h = left_true (feeds s) s.pages h
cancelled_true (Reading pass given) s h = left_true (feeds s) s.pages h

pub cancel_true : (s : DeviceState) → IsFaithful s → IsFaithful (after_cancel s)
cancel_true s h = cancelled_true s.phase s h

-- ---- leases and places

pub slot_true : (t : Table) (k : ℕ) (slot : Slot DeviceState) → IsFaithfulSlot slot → AllByRecursion IsFaithfulPlace t → AllByRecursion IsFaithfulPlace (with_slot t k slot)
unfolding with_slot
slot_true [] k slot s h = h
slot_true (p ∷ t) zero slot s h = (s, h.1)
slot_true (p ∷ t) (suc k) slot s h = (h.0, slot_true t k slot s h.1)

give_by : (t : Table) (l : Lease DeviceState) (b : Bool) → IsFaithful l.device → AllByRecursion IsFaithfulPlace t → AllByRecursion IsFaithfulPlace (if b then with_slot t l.place (In (after_cancel l.device)) else t)
give_by t l true s h = slot_true t l.place (In (after_cancel l.device)) (cancel_true l.device s) h
give_by t l false s h = h

pub back_true : (t : Table) (lease : Option (Lease DeviceState)) → IsFaithfulLease lease → AllByRecursion IsFaithfulPlace t → AllByRecursion IsFaithfulPlace (with_lease_back t lease)
unfolding after_give_back
back_true t None s h = h
back_true t (Some l) s h = give_by t l (awaits l.device.info.name l.place t) s h

pub given_true : (t : Table) (held : List (Option (Lease DeviceState))) → AllByRecursion IsFaithfulLease held → AllByRecursion IsFaithfulPlace t → AllByRecursion IsFaithfulPlace (given_back t held)
given_true t [] s h = h
given_true t (lease ∷ held) s h = given_true (with_lease_back t lease) held s.1 (back_true t lease s.0 h)

pub let_go_true : (t : Table) (session : Option (Session DeviceState)) → IsFaithfulSession session → AllByRecursion IsFaithfulPlace t → AllByRecursion IsFaithfulPlace (session_let_go t session)
let_go_true t None s h = h
let_go_true t (Some session) s h = given_true t session.held s h

cancelled_lease_true : (lease : Option (Lease DeviceState)) → IsFaithfulLease lease → IsFaithfulLease (cancelled_lease lease)
cancelled_lease_true None h = h
cancelled_lease_true (Some l) h = cancel_true l.device h

pub word_true : (f : Option (Lease DeviceState) → Option (Lease DeviceState)) (held : List (Option (Lease DeviceState))) (w : ℕ) → ((lease : Option (Lease DeviceState)) → IsFaithfulLease lease → IsFaithfulLease (f lease)) → AllByRecursion IsFaithfulLease held → AllByRecursion IsFaithfulLease (on_word f held w)
unfolding on_word
word_true f [] w keeps h = h
word_true f (lease ∷ held) zero keeps h = (keeps lease h.0, h.1)
word_true f (lease ∷ held) (suc w) keeps h = (h.0, word_true f held w keeps h.1)

pub cancelled_word_true : (held : List (Option (Lease DeviceState))) (w : ℕ) → AllByRecursion IsFaithfulLease held → AllByRecursion IsFaithfulLease (on_word cancelled_lease held w)
cancelled_word_true held w h = word_true cancelled_lease held w cancelled_lease_true h

-- ---- slots

abbrev pub TakesSlot : Type 0
TakesSlot = List (Option (SessionSlot DeviceState))

-- what holds of a slot holds of what becomes of it
becomes : (P : Option (SessionSlot DeviceState) → Type 0) (f : SessionSlot DeviceState → Option (SessionSlot DeviceState)) (slot : Option (SessionSlot DeviceState)) → P None → ((s : SessionSlot DeviceState) → P (Some s) → P (f s)) → P slot → P (option_and_then f slot)
becomes P f None none keeps h = none
becomes P f (Some s) none keeps h = keeps s h

on_slot_by : (P : Option (SessionSlot DeviceState) → Type 0) (f : SessionSlot DeviceState → Option (SessionSlot DeviceState)) (n : ℕ) (slot : Option (SessionSlot DeviceState)) (slots : TakesSlot) (b : Bool) → P None → ((s : SessionSlot DeviceState) → P (Some s) → P (f s)) → P slot → AllByRecursion P slots → AllByRecursion P (on_session_slot f n slots)
    → AllByRecursion P (if b then option_and_then f slot ∷ slots else slot ∷ on_session_slot f n slots)
on_slot_by P f n slot slots true none keeps h more later = (becomes P f slot none keeps h, more)
on_slot_by P f n slot slots false none keeps h more later = (h, later)

pub on_slot_all : (P : Option (SessionSlot DeviceState) → Type 0) (f : SessionSlot DeviceState → Option (SessionSlot DeviceState)) (n : ℕ) (slots : TakesSlot) → P None → ((s : SessionSlot DeviceState) → P (Some s) → P (f s)) → AllByRecursion P slots → AllByRecursion P (on_session_slot f n slots)
unfolding on_session_slot
on_slot_all P f n [] none keeps h = h
on_slot_all P f n (slot ∷ slots) none keeps h = on_slot_by P f n slot slots (is_slot_number n slot) none keeps h.0 h.1 (on_slot_all P f n slots none keeps h.1)

pub with_slot_all : (P : Option (SessionSlot DeviceState) → Type 0) (slots : TakesSlot) (new : SessionSlot DeviceState) → P (Some new) → AllByRecursion P slots → AllByRecursion P (with_session_slot slots new)
unfolding with_session_slot
with_slot_all P [] new s h = h
with_slot_all P (None ∷ slots) new s h = (s, h.1)
with_slot_all P (Some slot ∷ slots) new s h = (h.0, with_slot_all P slots new s h.1)

-- the slot of a number is one of them
found_by : (P : Option (SessionSlot DeviceState) → Type 0) (x y : Option (SessionSlot DeviceState)) (b : Bool) → P x → P y → P (if b then x else y)
found_by P x y true h k = h
found_by P x y false h k = k

pub slot_all : (P : Option (SessionSlot DeviceState) → Type 0) (slots : TakesSlot) (n : ℕ) → P None → AllByRecursion P slots → P (session_slot_of slots n)
unfolding session_slot_of
slot_all P [] n none h = none
slot_all P (slot ∷ slots) n none h = found_by P slot (session_slot_of slots n) (is_slot_number n slot) h.0 (slot_all P slots n none h.1)

pub session_true : (slot : Option (SessionSlot DeviceState)) → IsFaithfulSessionSlot slot → IsFaithfulSession (session_in slot)
session_true None h = tt
session_true (Some slot) h = h

below_more : (n m : ℕ) (slot : Option (SessionSlot DeviceState)) → n ≤ m → IsBelow n slot → IsBelow m slot
below_more n m None l h = tt
below_more n m (Some slot) l h = omega (arith, l, h)

pub all_below_more : (n m : ℕ) (slots : TakesSlot) → n ≤ m → AllByRecursion (IsBelow n) slots → AllByRecursion (IsBelow m) slots
all_below_more n m [] l h = tt
all_below_more n m (slot ∷ slots) l h = (below_more n m slot l h.0, all_below_more n m slots l h.1)
