-- A session that is opened.
use Rattle.std.specs.Prelude.{if◌then◌else◌, ◌==◌, ◌||◌}
use Rattle.std.specs.List.{AllByRecursion}
use Rattle.std.proofs.Common.{◌≡◌, ◌≢◌, inr, ◌∙◌, ℕ, ◌<◌, ◌+◌, List, [], ◌∷◌, Option, Some, None, Bool, true, false, cond, eqb, refl, sym, ap, subst, arith}
use Rattle.std.proofs.lemmas.Bool.{ne_eqb}
use Rattle.std.proofs.lemmas.Bool.Decides.{nat_tests}
use Rattle.device_api.specs.State.{DeviceState}
use Rattle.saned_requests.specs.Holding.{fresh_session}
use Rattle.saned_core.specs.declared.session_slot.SessionSlot.{SessionSlot}
use Rattle.saned_core.specs.declared.session_slot.SessionId.{SessionId}
use Rattle.saned_core.specs.DaemonStates.{Core, new_session_slot, is_closed, all_slots_taken, is_slot_number, after_open_session, session_slot_of, session_in, with_session_slot}
use Rattle.system_model.specs.AbstractMessages.{Challenge}
use Rattle.system_model.specs.Devices.{Make}
use Rattle.system_model.specs.AbstractDevices.{AbstractDevice, is_held_by}
use Rattle.system_model.specs.Daemon.{TransferState, Quiet}
use Rattle.system_model.specs.SystemStates.{JobState}
use Rattle.system_model.specs.AbstractSessions.{AbstractSession, one_word_session, only_word}
use Rattle.daemon_refines.specs.ContextRefinement.{ContextRefines, TableRefines}
use Rattle.daemon_refines.specs.Cores.{SessionRefines}
use Rattle.saned_core.specs.Feeding.{core_context}
use Rattle.daemon_refines.proofs.Beginning.{openings_show}
use Rattle.daemon_refines.proofs.SessionEndings.{same_tables}
use Rattle.daemon_refines.proofs.OtherSessions.{leaves_all, leaves_same}
use Rattle.world_refines.specs.WorldRefinement.{AreFaithful, IsBelow, IsFaithfulSessionSlot, session_by}
use Rattle.world_refines.proofs.state.Faithful.{all_below_more, with_slot_all}
use Rattle.world_refines.proofs.state.Sees.{Leaves}
use Rattle.world_refines.proofs.state.Taking.{same_session}

-- ---- its slot

pub other_slot : (slots : List (Option (SessionSlot DeviceState))) (new : SessionSlot DeviceState) (m : ℕ) → is_slot_number m (Some new) ≡ false → session_slot_of (with_session_slot slots new) m ≡ session_slot_of slots m
unfolding session_slot_of with_session_slot
other_slot [] new m e = refl
other_slot (None ∷ slots) new m e = rw e refl
other_slot (Some s ∷ slots) new m e = ap (λ (x : Option (SessionSlot DeviceState)). if is_slot_number m (Some s) then Some s else x) (other_slot slots new m e)

below_other : (s : SessionSlot DeviceState) (n : ℕ) → s.number < n → is_slot_number n (Some s) ≡ false
below_other s n low = grind (arith, nat_tests)

own_slot : (slots : List (Option (SessionSlot DeviceState))) (new : SessionSlot DeviceState) (n : ℕ) → all_slots_taken slots ≡ false → AllByRecursion (IsBelow n) slots → is_slot_number n (Some new) ≡ true → session_slot_of (with_session_slot slots new) n ≡ Some new
unfolding session_slot_of with_session_slot
own_slot [] new n full below e = absurd (let clash : true ≡ false = full in cc)
own_slot (None ∷ slots) new n full below e = rw e refl
own_slot (Some s ∷ slots) new n full below e = ap (λ (b : Bool). if b then Some s else session_slot_of (with_session_slot slots new) n) (below_other s n below.0) ∙ own_slot slots new n full below.1 e

not_full : (b c : Bool) → (b || c) ≡ false → c ≡ false
not_full true c e = absurd (let clash : true ≡ false = e in cc)
not_full false c e = e

pub fresh_there : (d : Core) (port n : ℕ) → is_closed d ≡ false → AllByRecursion (IsBelow d.opened) d.slots → n ≡ d.opened → session_slot_of (after_open_session d port).slots n ≡ Some (new_session_slot d.strings d.opened port)
fresh_there d port n closed below e =
    subst (λ (k : ℕ). session_slot_of (after_open_session d port).slots k ≡ Some (new_session_slot d.strings d.opened port)) (sym e)
    (own_slot d.slots (new_session_slot d.strings d.opened port) d.opened (not_full (d.opened == 18446744073709551615) (all_slots_taken d.slots) closed) below (let same : (d.opened == d.opened) ≡ true = grind (arith, nat_tests) in same))

-- ---- what it leaves

pub number_other : (d : Core) (port m : ℕ) → m < d.opened → is_slot_number m (Some (new_session_slot d.strings d.opened port)) ≡ false
number_other d port m low = let apart : (d.opened == m) ≡ false = grind (arith, nat_tests) in apart

pub leaves_opened : (i : ℕ) (make : ℕ → Make) (d : Core) (port : ℕ) (table device : ℕ → AbstractDevice) → AllByRecursion (IsBelow d.opened) d.slots → AreFaithful d → ((k : ℕ) → device k ≡ table k) → TableRefines i make [] d.registry table → Leaves i make None d (after_open_session d port) table device
leaves_opened i make d port table device below faithful same h =
    record {
      users = refl;
      infos = refl;
      opened = omega arith;
      below = with_slot_all (IsBelow (d.opened + 1)) d.slots (new_session_slot d.strings d.opened port) (omega arith) (all_below_more d.opened (d.opened + 1) d.slots (omega arith) below);
      faithful = record { lying = faithful.lying; lent = with_slot_all IsFaithfulSessionSlot d.slots (new_session_slot d.strings d.opened port) (tt, (tt, (tt, (tt, tt)))) faithful.lent };
      slots = λ m other low. other_slot d.slots (new_session_slot d.strings d.opened port) m (number_other d port m low);
      held = [];
      shows = same_tables i make [] d.registry table device same h;
      others = leaves_same i d.registry d.registry table table device same (leaves_all i d.registry table);
    }

-- ---- what it shows

no_word : (d w : ℕ) (b : Bool) → eqb w 0 ≡ b → only_word false d w ≡ None
no_word d w true e = ap (λ (x : Bool). cond {A = Option ℕ} x None None) e
no_word d w false e = ap (λ (x : Bool). cond {A = Option ℕ} x None None) e

fresh_shows : (i : ℕ) (make : ℕ → Make) (d : Core) (port : ℕ) (table : ℕ → AbstractDevice) (wants : ℕ) → TableRefines i make [] d.registry table → ContextRefines i make (core_context (after_open_session d port) (fresh_session d.strings port)) table (one_word_session false wants Quiet None)
fresh_shows i make d port table wants h =
    let o = openings_show i make d.strings port d.registry d.stream table h in
    record { words = λ w. no_word wants w (eqb w 0) refl ∙ o.words w; four = o.four; transfer = refl; frame = tt; awaited = o.awaited; devices = o.devices }

not_held : (i : ℕ) (h : Option ℕ) → h ≢ Some i → is_held_by i h ≡ false
not_held i None n = refl
not_held i (Some j) n = ne_eqb j i (λ e. n (ap (λ (x : ℕ). Some x) e))

pub fresh_served : (i : ℕ) (make : ℕ → Make) (d : Core) (port : ℕ) (id : SessionId) (table device : ℕ → AbstractDevice) (p : JobState) → is_closed d ≡ false → AllByRecursion (IsBelow d.opened) d.slots → id.number ≡ d.opened → ((k : ℕ) → device k ≡ table k) →
    (table p.session.job.wants).holder ≢ Some i → p.session.transfer ≡ Quiet → p.session.awaited ≡ None → TableRefines i make [] d.registry table → SessionRefines i make (after_open_session d port) id.number device (session_by i device p)
fresh_served i make d port id table device p closed below number same free quiet none h =
    let wants = p.session.job.wants in
    let ruled : session_by i device p ≡ one_word_session false wants Quiet None =
    ap (λ (x : AbstractDevice). one_word_session (is_held_by i x.holder) wants p.session.transfer p.session.awaited) (same wants)
    ∙ (ap (λ (x : Bool). one_word_session x wants p.session.transfer p.session.awaited) (not_held i (table wants).holder free)
    ∙ (ap (λ (x : TransferState). one_word_session false wants x p.session.awaited) quiet ∙ ap (λ (x : Option Challenge). one_word_session false wants Quiet x) none)) in
    subst (λ (s : AbstractSession). SessionRefines i make (after_open_session d port) id.number device s) (sym ruled)
    (same_session i make (after_open_session d port) id.number table device (one_word_session false wants Quiet None) same (record {
      session = fresh_session d.strings port;
      stands = ap session_in (fresh_there d port id.number closed below number);
      shows = fresh_shows i make d port table wants h;
      begun = inr refl;
    }))
