-- Replies are taken off a session: they are gone, and its slot with the last of them where the session is over.
use Rattle.std.specs.Prelude.{if◌then◌else◌, is_some, min}
use Rattle.std.specs.Option.{option_and_then}
use Rattle.std.proofs.Common.{◌≡◌, ◌≢◌, ◌⊎◌, inl, inr, ◌∙◌, ℕ, zero, suc, ◌==◌, List, [], ◌∷◌, Option, Some, None, Bool, true, false, refl, sym, ap, subst, length, take, drop, slice_get, eqb-true, arith}
use Rattle.std.proofs.lemmas.Bool.{eqb-false}
use Rattle.device_api.specs.State.{DeviceState}
use Rattle.saned_requests.specs.declared.session.Session.{Session as RequestSession}
use Rattle.saned_core.specs.declared.session_slot.SessionSlot.{SessionSlot}
use Rattle.saned_core.specs.declared.session_slot.SessionId.{SessionId}
use Rattle.saned_core.specs.DaemonStates.{Core, after_reply_bytes, after_taken, is_slot_number, on_session_slot, replies_in, replies_of, session_slot_of, session_in, slot_if_open}
use Rattle.saned_core.specs.Feeding.{input_in}
use Rattle.saned_core.proofs.Apart.{apart}
use Rattle.system_model.specs.Devices.{Make}
use Rattle.system_model.specs.AbstractDevices.{AbstractDevice}
use Rattle.system_model.specs.AbstractSessions.{AbstractSession}
use Rattle.system_model.specs.SystemStates.{JobState}
use Rattle.daemon_refines.specs.Cores.{SessionRefines}
use Rattle.daemon_refines.proofs.SessionEndings.{same_tables}
use Rattle.daemon_refines.proofs.Moved.{unsome}
use Rattle.daemon_refines.proofs.OtherSessions.{leaves_all, leaves_same}
use Rattle.event_world.specs.JobEvents as world
use Rattle.event_world.specs.JobEvents.{bytes_not_delivered, delivered_bytes}
use Rattle.event_world.specs.declared.endpoint.Endpoint.{Endpoint}
use Rattle.event_world.specs.Worlds.{WorldCore}
use Rattle.world_refines.specs.GhostStates.{Ghost}
use Rattle.world_refines.specs.WorldRefinement.{IsBelow, IsFaithfulSessionSlot, IsServed, WorldRefines, session_by}
use Rattle.world_refines.specs.ClientDeliveries.{asking_left}
use Rattle.world_refines.proofs.state.Faithful.{on_slot_all}
use Rattle.world_refines.proofs.state.EndpointSlots.{Replaces, Single, later, replaces_kept}
use Rattle.world_refines.proofs.state.Sees.{Leaves}
use Rattle.world_refines.proofs.state.Taking.{same_ruled, same_session, served_table}

-- ---- the bytes

take_some : (k : ℕ) (xs : List ℕ) → drop (length (take k xs)) xs ≡ drop k xs
take_some zero xs = refl
take_some (suc k) [] = refl
take_some (suc k) (x ∷ xs) = take_some k xs

pub taken_left : (n : ℕ) (bytes : List ℕ) → drop (length (delivered_bytes n bytes)) bytes ≡ bytes_not_delivered n bytes
taken_left n bytes = take_some (min n 4096) bytes

-- ---- a slot

standing_number : (session : Option (RequestSession DeviceState)) (replies : List ℕ) (slot new : SessionSlot DeviceState) → slot_if_open session replies slot ≡ Some new → new.number ≡ slot.number
standing_number (Some s) replies slot new e = ap (λ (x : SessionSlot DeviceState). x.number) (sym (unsome slot new e))
standing_number None [] slot new e = absurd (let clash : None ≡ Some new = e in cc)
standing_number None (b ∷ bytes) slot new e = ap (λ (x : SessionSlot DeviceState). x.number) (sym (unsome slot new e))

pub taken_number : (c : ℕ) (slot new : SessionSlot DeviceState) → after_taken c slot ≡ Some new → new.number ≡ slot.number
taken_number c slot new e = standing_number slot.session (drop c slot.replies) (after_reply_bytes c slot) new e

pub standing_all : (P : Option (SessionSlot DeviceState) → Type 0) (session : Option (RequestSession DeviceState)) (replies : List ℕ) (slot : SessionSlot DeviceState) → P None → P (Some slot) → P (slot_if_open session replies slot)
standing_all P (Some s) replies slot none some = some
standing_all P None [] slot none some = none
standing_all P None (b ∷ bytes) slot none some = some

-- ---- the slot of a number

none_by : (x : Option (SessionSlot DeviceState)) (slots : List (Option (SessionSlot DeviceState))) (n : ℕ) (b : Bool) → is_slot_number n x ≡ b → ((slot : SessionSlot DeviceState) → x ≡ Some slot → slot.number ≢ n) → session_slot_of slots n ≡ None → (if b then x else session_slot_of slots n) ≡ None
none_by None slots n true e other more = refl
none_by (Some slot) slots n true e other more = absurd (other slot refl (eqb-true slot.number n e))
none_by x slots n false e other more = more

-- there is none, where each has another
none_of : (slots : List (Option (SessionSlot DeviceState))) (n : ℕ) → ((k : ℕ) (slot : SessionSlot DeviceState) → slice_get slots k ≡ Some (Some slot) → slot.number ≢ n) → session_slot_of slots n ≡ None
unfolding session_slot_of
none_of [] n other = refl
none_of (x ∷ slots) n other = none_by x slots n (is_slot_number n x) refl (λ slot e. other zero slot (ap Some e)) (none_of slots n (λ k slot at. other (suc k) slot at))

-- the other slots are of other numbers
others_of : (slot : SessionSlot DeviceState) (slots : List (Option (SessionSlot DeviceState))) (n : ℕ) → slot.number ≡ n → Single (Some slot ∷ slots) → (k : ℕ) (s : SessionSlot DeviceState) → slice_get slots k ≡ Some (Some s) → s.number ≢ n
others_of slot slots n is single k s at same = let clash : zero ≡ suc k = single zero (suc k) slot s refl at (is ∙ sym same) in omega (arith, clash)

number_test : (b : Bool) (s : SessionSlot DeviceState) (n : ℕ) → s.number ≡ n → (s.number == n) ≡ b → (s.number == n) ≡ true
number_test true s n e t = t
number_test false s n e t = absurd (eqb-false s.number n t e)

number_is : (s : SessionSlot DeviceState) (n : ℕ) → s.number ≡ n → is_slot_number n (Some s) ≡ true
number_is s n e = number_test (s.number == n) s n e refl

slot_by_number : (n : ℕ) (slot : SessionSlot DeviceState) (new : Option (SessionSlot DeviceState)) (slots : List (Option (SessionSlot DeviceState))) → ((s : SessionSlot DeviceState) → new ≡ Some s → s.number ≡ n) → session_slot_of slots n ≡ None → session_slot_of (new ∷ slots) n ≡ new
unfolding session_slot_of
slot_by_number n slot None slots number none = none
slot_by_number n slot (Some s) slots number none = rw (number_is s n (number s refl)) refl

found_by : (c n : ℕ) (x : Option (SessionSlot DeviceState)) (slots : List (Option (SessionSlot DeviceState))) (b : Bool) → is_slot_number n x ≡ b → Single (x ∷ slots) → session_slot_of (on_session_slot (after_taken c) n slots) n ≡ option_and_then (after_taken c) (session_slot_of slots n) →
    session_slot_of (if b then option_and_then (after_taken c) x ∷ slots else x ∷ on_session_slot (after_taken c) n slots) n ≡ option_and_then (after_taken c) (if b then x else session_slot_of slots n)
unfolding session_slot_of
found_by c n None slots true e single more = absurd (let clash : false ≡ true = e in cc)
found_by c n (Some slot) slots true e single more =
    let is : slot.number ≡ n = eqb-true slot.number n e in
    slot_by_number n slot (after_taken c slot) slots (λ s taken. taken_number c slot s taken ∙ is) (none_of slots n (others_of slot slots n is single))
found_by c n x slots false e single more = rw e more

pub found_taken : (c n : ℕ) (slots : List (Option (SessionSlot DeviceState))) → Single slots → session_slot_of (on_session_slot (after_taken c) n slots) n ≡ option_and_then (after_taken c) (session_slot_of slots n)
unfolding session_slot_of on_session_slot
found_taken c n [] single = refl
found_taken c n (x ∷ slots) single = found_by c n x slots (is_slot_number n x) refl single (found_taken c n slots (later x slots single))

-- ---- what is left of it

replies_standing : (session : Option (RequestSession DeviceState)) (replies : List ℕ) (slot : SessionSlot DeviceState) → slot.replies ≡ replies → replies_in (slot_if_open session replies slot) ≡ replies
replies_standing (Some s) replies slot e = e
replies_standing None [] slot e = refl
replies_standing None (b ∷ bytes) slot e = e

session_standing : (session : Option (RequestSession DeviceState)) (replies : List ℕ) (slot : SessionSlot DeviceState) → slot.session ≡ session → session_in (slot_if_open session replies slot) ≡ session
session_standing (Some s) replies slot e = e
session_standing None [] slot e = refl
session_standing None (b ∷ bytes) slot e = e

input_standing : (session : Option (RequestSession DeviceState)) (replies : List ℕ) (slot : SessionSlot DeviceState) → input_in (slot_if_open session replies slot) ≡ asking_left (is_some session) replies slot.input.rest
input_standing (Some s) replies slot = refl
input_standing None [] slot = refl
input_standing None (b ∷ bytes) slot = refl

asking_none : (b : Bool) (bytes : List ℕ) → [] ≡ asking_left b bytes []
asking_none true bytes = refl
asking_none false [] = refl
asking_none false (x ∷ bytes) = refl

abbrev no_bytes : List ℕ
no_bytes = []

drop_none : (c : ℕ) → drop c no_bytes ≡ no_bytes
drop_none zero = refl
drop_none (suc c) = refl

replies_taken : (c : ℕ) (o : Option (SessionSlot DeviceState)) → replies_in (option_and_then (after_taken c) o) ≡ drop c (replies_in o)
replies_taken c None = sym (drop_none c)
replies_taken c (Some slot) = replies_standing slot.session (drop c slot.replies) (after_reply_bytes c slot) refl

session_taken : (c : ℕ) (o : Option (SessionSlot DeviceState)) → session_in (option_and_then (after_taken c) o) ≡ session_in o
session_taken c None = refl
session_taken c (Some slot) = session_standing slot.session (drop c slot.replies) (after_reply_bytes c slot) refl

input_taken : (c : ℕ) (o : Option (SessionSlot DeviceState)) → input_in (option_and_then (after_taken c) o) ≡ asking_left (is_some (session_in o)) (drop c (replies_in o)) (input_in o)
input_taken c None = asking_none false (drop c [])
input_taken c (Some slot) = input_standing slot.session (drop c slot.replies) (after_reply_bytes c slot)

-- ---- the daemon then

pub taken_replies : (n : ℕ) (d : Core) (k : ℕ) → Single d.slots → replies_of (world.without_taken k n d) k ≡ bytes_not_delivered n (replies_of d k)
taken_replies n d k single =
    let c = length (delivered_bytes n (replies_of d k)) in
    ap replies_in (found_taken c k d.slots single) ∙ (replies_taken c (session_slot_of d.slots k) ∙ taken_left n (replies_of d k))

pub taken_session : (n : ℕ) (d : Core) (k : ℕ) → Single d.slots → session_in (session_slot_of (world.without_taken k n d).slots k) ≡ session_in (session_slot_of d.slots k)
taken_session n d k single = let c = length (delivered_bytes n (replies_of d k)) in ap session_in (found_taken c k d.slots single) ∙ session_taken c (session_slot_of d.slots k)

pub taken_input : (n : ℕ) (d : Core) (k : ℕ) → Single d.slots → input_in (session_slot_of (world.without_taken k n d).slots k) ≡ asking_left (is_some (session_in (session_slot_of d.slots k))) (bytes_not_delivered n (replies_of d k)) (input_in (session_slot_of d.slots k))
taken_input n d k single =
    let c = length (delivered_bytes n (replies_of d k)) in
    ap input_in (found_taken c k d.slots single) ∙ (input_taken c (session_slot_of d.slots k) ∙ ap (λ (bytes : List ℕ). asking_left (is_some (session_in (session_slot_of d.slots k))) bytes (input_in (session_slot_of d.slots k))) (taken_left n (replies_of d k)))

pub replaces_taken : (n : ℕ) (link : Option SessionId) (d : Core) (k : ℕ) → Replaces link link d (world.without_taken k n d)
replaces_taken n link d k = let c = length (delivered_bytes n (replies_of d k)) in replaces_kept (after_taken c) link d k (taken_number c)

pub leaves_taken : (t : Ghost) (w : WorldCore) (i n : ℕ) (p : Endpoint) (id : SessionId) (device : ℕ → AbstractDevice) → WorldRefines t w → slice_get w.endpoints i ≡ Some p → ((k : ℕ) → device k ≡ t.system.device k) →
    Leaves i t.system.make (Some id) w.daemon (world.without_taken id.number n w.daemon) t.system.device device
leaves_taken t w i n p id device h at same =
    let d = w.daemon in
    let c = length (delivered_bytes n (replies_of d id.number)) in
    let own = served_table i t.system.make d p.link (t.system.job i).served t.system.device (session_by i t.system.device (t.system.job i)) (h.endpoints i p at).served in
    record {
      users = refl;
      infos = refl;
      opened = omega arith;
      below = on_slot_all (IsBelow d.opened) (after_taken c) id.number d.slots tt (λ s b. standing_all (IsBelow d.opened) s.session (drop c s.replies) (after_reply_bytes c s) tt b) h.slots;
      faithful = record { lying = h.faithful.lying; lent = on_slot_all IsFaithfulSessionSlot (after_taken c) id.number d.slots tt (λ s b. standing_all IsFaithfulSessionSlot s.session (drop c s.replies) (after_reply_bytes c s) tt b) h.faithful.lent };
      slots = λ m other low. apart d.slots (after_taken c) id.number m (taken_number c) (λ x. other (sym x));
      held = own.held;
      shows = same_tables i t.system.make own.held d.registry t.system.device device same own.shows;
      others = leaves_same i d.registry d.registry t.system.device t.system.device device same (leaves_all i d.registry t.system.device);
    }

-- its session goes on where it did
pub served_taken : (i n : ℕ) (make : ℕ → Make) (d : Core) (id : SessionId) (served : Bool) (table device : ℕ → AbstractDevice) (p : JobState) (s : AbstractSession) → Single d.slots → ((k : ℕ) → device k ≡ table k) → s ≡ session_by i device p →
    IsServed i make d (Some id) served table (session_by i table p) → IsServed i make (world.without_taken id.number n d) (Some id) served device s
served_taken i n make d id true table device p s single same is h =
    let e = world.without_taken id.number n d in
    let there : SessionRefines i make e id.number table (session_by i table p) = record { session = h.session; stands = taken_session n d id.number single ∙ h.stands; shows = h.shows; begun = h.begun } in
    subst (λ (x : AbstractSession). SessionRefines i make e id.number device x) (sym (is ∙ same_ruled i table device p same)) (same_session i make e id.number table device _ same there)
served_taken i n make d id false table device p s single same is h = (taken_session n d id.number single ∙ h.0, same_tables i make [] d.registry table device same h.1)

-- it goes on just where the model has it served
pub served_some : (i : ℕ) (make : ℕ → Make) (d : Core) (id : SessionId) (served : Bool) (device : ℕ → AbstractDevice) (s : AbstractSession) → IsServed i make d (Some id) served device s → is_some (session_in (session_slot_of d.slots id.number)) ≡ served
served_some i make d id true device s h = ap is_some h.stands
served_some i make d id false device s h = ap is_some h.0
