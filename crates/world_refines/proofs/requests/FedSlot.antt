-- The event of a delivery to the daemon: by what becomes of the session.
use Rattle.std.specs.List.{AllByRecursion}
use Rattle.std.proofs.Common.{◌≡◌, inl, ◌∙◌, ℕ, ◌<◌, List, [], ◌∷◌, ◌++◌, Option, Some, None, refl, sym, ap, subst, map, slice_get, arith}
use Rattle.device_api.specs.State.{DeviceState}
use Rattle.dispatch.specs.Table.{Table}
use Rattle.saned_requests.specs.declared.session.Session.{Session as RequestSession}
use Rattle.saned_requests.specs.RequestAnswers.{RequestContext}
use Rattle.saned_core.specs.declared.session_slot.Fed.{Fed}
use Rattle.saned_core.specs.declared.session_slot.Fed.TheVariants.{Standing, Over, Starved}
use Rattle.saned_core.specs.declared.session_slot.SessionSlot.{SessionSlot}
use Rattle.saned_core.specs.declared.session_slot.SessionId.{SessionId}
use Rattle.saned_core.specs.DaemonStates.{Core, on_session_slot, replies_in, session_slot_of, session_in, slot_if_open}
use Rattle.saned_core.specs.Feeding.{input_in}
use Rattle.saned_core.specs.Inside.{slot_after_feed, slot_or_none_after_feed}
use Rattle.system_model.specs.Devices.{Make}
use Rattle.system_model.specs.AbstractDevices.{AbstractDevice}
use Rattle.daemon_refines.specs.ContextRefinement.{TableRefines}
use Rattle.daemon_refines.specs.OtherSessions.{LeavesOthers}
use Rattle.daemon_refines.proofs.Changes.{Held}
use Rattle.daemon_refines.proofs.Cores.{own_slot}
use Rattle.saned_core.proofs.Apart.{apart}
use Rattle.world_refines.specs.WorldRefinement.{AreFaithful, IsBelow, IsFaithfulLease, IsFaithfulPlace, IsFaithfulSessionSlot, info_at}
use Rattle.world_refines.proofs.state.Faithful.{TakesSlot, on_slot_all}
use Rattle.world_refines.proofs.state.EndpointSlots.{Replaces, Single, was_on}
use Rattle.world_refines.proofs.state.Sees.{Leaves}
use Rattle.world_refines.proofs.requests.Sent.{gone_slot}

-- ---- the slot

standing_number : (o : Option (RequestSession DeviceState)) (replies : List ℕ) (slot new : SessionSlot DeviceState) → slot_if_open o replies slot ≡ Some new → new ≡ slot
standing_number (Some s) replies slot new e = sym (unsome_slot slot new e)
  where
    unsome_slot : (a b : SessionSlot DeviceState) → Some a ≡ Some b → a ≡ b
    unsome_slot a b e = cc
standing_number None [] slot new e = absurd (let clash : None ≡ Some new = e in cc)
standing_number None (b ∷ bytes) slot new e = sym (unsome_slot slot new e)
  where
    unsome_slot : (a b : SessionSlot DeviceState) → Some a ≡ Some b → a ≡ b
    unsome_slot a b e = cc

fed_is : (fed : Fed) (d : RequestContext) (rest text : List ℕ) (slot new : SessionSlot DeviceState) → slot_or_none_after_feed fed d rest text slot ≡ Some new → new ≡ slot_after_feed fed d.session rest text slot
fed_is fed d rest text slot new e = standing_number (slot_after_feed fed d.session rest text slot).session (slot_after_feed fed d.session rest text slot).replies (slot_after_feed fed d.session rest text slot) new e

fed_number : (fed : Fed) (d : RequestContext) (rest text : List ℕ) (slot : SessionSlot DeviceState) → (slot_after_feed fed d.session rest text slot).number ≡ slot.number
fed_number Standing d rest text slot = refl
fed_number Over d rest text slot = refl
fed_number Starved d rest text slot = refl

pub keeps_number : (fed : Fed) (d : RequestContext) (rest text : List ℕ) (slot new : SessionSlot DeviceState) → slot_or_none_after_feed fed d rest text slot ≡ Some new → new.number ≡ slot.number
keeps_number fed d rest text slot new e = ap (λ (s : SessionSlot DeviceState). s.number) (fed_is fed d rest text slot new e) ∙ fed_number fed d rest text slot

-- what is so of the slot, or of none, is so of what comes of it
so_by : (P : Option (SessionSlot DeviceState) → Type 0) (o : Option (RequestSession DeviceState)) (replies : List ℕ) (slot : SessionSlot DeviceState) → P None → P (Some slot) → P (slot_if_open o replies slot)
so_by P (Some s) replies slot none some = some
so_by P None [] slot none some = none
so_by P None (b ∷ bytes) slot none some = some

so_after : (P : Option (SessionSlot DeviceState) → Type 0) (fed : Fed) (d : RequestContext) (rest text : List ℕ) (slot : SessionSlot DeviceState) → P None → P (Some (slot_after_feed fed d.session rest text slot)) → P (slot_or_none_after_feed fed d rest text slot)
so_after P fed d rest text slot none some = so_by P (slot_after_feed fed d.session rest text slot).session (slot_after_feed fed d.session rest text slot).replies (slot_after_feed fed d.session rest text slot) none some

below_after : (fed : Fed) (d : RequestContext) (rest text : List ℕ) (n : ℕ) (slot : SessionSlot DeviceState) → IsBelow n (Some slot) → IsBelow n (slot_or_none_after_feed fed d rest text slot)
below_after fed d rest text n slot h = so_after (IsBelow n) fed d rest text slot tt (subst (λ (k : ℕ). k < n) (sym (fed_number fed d rest text slot)) h)

-- the session that goes on is true to its pages
abbrev pub HeldTrue : Fed → RequestContext → Type 0
HeldTrue Standing d = AllByRecursion IsFaithfulLease d.session.held
HeldTrue Over d = Unit {0}
HeldTrue Starved d = Unit {0}

true_slot : (fed : Fed) (d : RequestContext) (rest text : List ℕ) (slot : SessionSlot DeviceState) → HeldTrue fed d → IsFaithfulSessionSlot (Some (slot_after_feed fed d.session rest text slot))
true_slot Standing d rest text slot h = h
true_slot Over d rest text slot h = tt
true_slot Starved d rest text slot h = tt

true_after : (fed : Fed) (d : RequestContext) (rest text : List ℕ) (slot : SessionSlot DeviceState) → HeldTrue fed d → IsFaithfulSessionSlot (slot_or_none_after_feed fed d rest text slot)
true_after fed d rest text slot h = so_after IsFaithfulSessionSlot fed d rest text slot tt (true_slot fed d rest text slot h)

-- ---- a session that is over: its slot has its replies alone, or there is none

pub record IsOverSlot (o : Option (SessionSlot DeviceState)) (down : List ℕ) : Type 0 where
  pub session : session_in o ≡ None
  pub input : input_in o ≡ []
  pub replies : replies_in o ≡ down

over_at : (replies : List ℕ) (slot : SessionSlot DeviceState) → slot.session ≡ None → slot.input.rest ≡ [] → slot.replies ≡ replies → IsOverSlot (slot_if_open None replies slot) replies
over_at [] slot none input is = record { session = refl; input = refl; replies = refl }
over_at (b ∷ bytes) slot none input is = record { session = none; input = input; replies = is }

abbrev pub IsNotOn : Fed → Type 0
IsNotOn Standing = ⊥
IsNotOn Over = Unit {0}
IsNotOn Starved = Unit {0}

abbrev pub left_down : Fed → List ℕ → List ℕ → List ℕ
left_down Standing down text = down ++ text
left_down Over down text = down ++ text
left_down Starved down text = []

over_after : (fed : Fed) (d : RequestContext) (rest text : List ℕ) (slot : SessionSlot DeviceState) → IsNotOn fed → IsOverSlot (slot_or_none_after_feed fed d rest text slot) (left_down fed slot.replies text)
over_after Standing d rest text slot off = absurd off
over_after Over d rest text slot off = over_at (slot.replies ++ text) (slot_after_feed Over d.session rest text slot) refl refl refl
over_after Starved d rest text slot off = over_at [] (slot_after_feed Starved d.session rest text slot) refl refl refl

over_found : (f : SessionSlot DeviceState → Option (SessionSlot DeviceState)) (n : ℕ) (slots : TakesSlot) (slot : SessionSlot DeviceState) (o : Option (SessionSlot DeviceState)) → Single slots → session_slot_of slots n ≡ Some slot → f slot ≡ o → ((new : SessionSlot DeviceState) → f slot ≡ Some new → new.number ≡ slot.number) → session_slot_of (on_session_slot f n slots) n ≡ o
over_found f n slots slot None single is e keeps = gone_slot f n slots slot single is e
over_found f n slots slot (Some new) single is e keeps = own_slot f n slots slot new is e (keeps new e)

pub slot_over : (fed : Fed) (d : RequestContext) (rest text : List ℕ) (n : ℕ) (slots : TakesSlot) (slot : SessionSlot DeviceState) → IsNotOn fed → Single slots → session_slot_of slots n ≡ Some slot → IsOverSlot (session_slot_of (on_session_slot (slot_or_none_after_feed fed d rest text) n slots) n) (left_down fed slot.replies text)
slot_over fed d rest text n slots slot off single is =
    let found = over_found (slot_or_none_after_feed fed d rest text) n slots slot (slot_or_none_after_feed fed d rest text slot) single is refl (λ new e. keeps_number fed d rest text slot new e) in
    subst (λ (o : Option (SessionSlot DeviceState)). IsOverSlot o (left_down fed slot.replies text)) (sym found) (over_after fed d rest text slot off)

pub slot_on : (d : RequestContext) (rest text : List ℕ) (n : ℕ) (slots : TakesSlot) (slot : SessionSlot DeviceState) → session_slot_of slots n ≡ Some slot → session_slot_of (on_session_slot (slot_or_none_after_feed Standing d rest text) n slots) n ≡ Some (slot_after_feed Standing d.session rest text slot)
slot_on d rest text n slots slot is = own_slot (slot_or_none_after_feed Standing d rest text) n slots slot (slot_after_feed Standing d.session rest text slot) is refl refl

-- ---- what is left to others

pub leaves_fed : (i : ℕ) (make : ℕ → Make) (d e : Core) (id : SessionId) (table device : ℕ → AbstractDevice) (fed : Fed) (context : RequestContext) (rest text : List ℕ) (registry : Table) → e ≡ record d { slots = e.slots; registry = e.registry; stream = e.stream } → e.slots ≡ on_session_slot (slot_or_none_after_feed fed context rest text) id.number d.slots → e.registry ≡ registry →
    AllByRecursion (IsBelow d.opened) d.slots → AreFaithful d → map info_at registry ≡ map info_at d.registry → AllByRecursion IsFaithfulPlace registry → HeldTrue fed context → (held : Held) → TableRefines i make held registry device → LeavesOthers i d.registry registry table device →
    Leaves i make (Some id) d e table device
leaves_fed i make d e id table device fed context rest text registry others slots is below faithful infos lying held_true held shows leaves =
    record {
      users = ap (λ (c : Core). c.users) others;
      infos = ap (map info_at) is ∙ infos;
      opened = let same : e.opened ≡ d.opened = ap (λ (c : Core). c.opened) others in omega (arith, same);
      below = subst (λ (x : ℕ). AllByRecursion (IsBelow x) e.slots) (sym (ap (λ (c : Core). c.opened) others)) (subst (AllByRecursion (IsBelow d.opened)) (sym slots) (on_slot_all (IsBelow d.opened) (slot_or_none_after_feed fed context rest text) id.number d.slots tt (λ s b. below_after fed context rest text d.opened s b) below));
      faithful = record {
        lying = subst (AllByRecursion IsFaithfulPlace) (sym is) lying;
        lent = subst (AllByRecursion IsFaithfulSessionSlot) (sym slots) (on_slot_all IsFaithfulSessionSlot (slot_or_none_after_feed fed context rest text) id.number d.slots tt (λ s b. true_after fed context rest text s held_true) faithful.lent);
      };
      slots = λ m other low. ap (λ (x : TakesSlot). session_slot_of x m) slots ∙ apart d.slots (slot_or_none_after_feed fed context rest text) id.number m (keeps_number fed context rest text) (λ x. other (sym x));
      held = held;
      shows = subst (λ (t : Table). TableRefines i make held t device) (sym is) shows;
      others = subst (λ (t : Table). LeavesOthers i d.registry t table device) (sym is) leaves;
    }

pub replaces_fed : (fed : Fed) (context : RequestContext) (rest text : List ℕ) (link : Option SessionId) (d e : Core) (n : ℕ) → e.slots ≡ on_session_slot (slot_or_none_after_feed fed context rest text) n d.slots → Replaces link link d e
replaces_fed fed context rest text link d e n is =
    record { place = 0; each = λ k s at. inl (was_on (slot_or_none_after_feed fed context rest text) n d.slots (keeps_number fed context rest text) k s (subst (λ (x : TakesSlot). slice_get x k ≡ Some (Some s)) is at)); still = λ id o. inl o }
