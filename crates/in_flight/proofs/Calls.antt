-- What a call does to a daemon it does to the other one.
use Rattle.std.specs.Prelude.{if◌then◌else◌, ◌==◌, ◌||◌}
use Rattle.std.specs.Option.{option_and_then}
use Rattle.std.proofs.Common.{◌≡◌, ◌≢◌, ◌∙◌, ◌⊎◌, inl, inr, ℕ, ◌+◌, List, [], ◌++◌, append_assoc, Option, Some, None, Bool, true, false, length, take, refl, sym, ap, subst, arith}
use Rattle.std.proofs.Math.Seq.{take-append_seam}
use Rattle.std.proofs.lemmas.Bool.Decides.{nat_tests}
use Rattle.device_api.specs.State.{DeviceState}
use Rattle.dispatch.specs.Table.{Table}
use Rattle.saned_requests.specs.declared.session.Session.{Session}
use Rattle.saned_core.specs.declared.session_slot.DataStep.{DataStep}
use Rattle.saned_core.specs.DaemonLimits.{HasDaemonLimits}
use Rattle.saned_core.specs.DaemonStates.{Core, after_connected, after_lost, after_open_session, after_taken, all_slots_taken, frame_in, is_closed, new_session_slot, no_more, on_session, on_session_slot, replies_in, session_in, session_let_go, session_slot_of, with_session}
use Rattle.saned_core.specs.Turns.{Turns, TurnsSessions}
use Rattle.saned_core.proofs.Apart.{apart}
use Rattle.saned_core.proofs.DaemonLimits.{limits_connected, limits_ended, limits_lost, limits_opened, limits_taken, limits_turned}
use Rattle.in_flight.specs.InFlight.{CanFollow, DataConnectionsAreAlike, DeliveriesAreUnseen, DiffersInFlight, EndsAreAlike, FramesAreAlike, DataLossesAreAlike, NothingIsInFlight, OpensAreAlike, SlotDiffersInFlight, TakesAreUnseen, TurnsAreAlike, undelivered_with}
use Rattle.in_flight.proofs.Alike.{gone_alike, keeps_none, keeps_on, keeps_taken, keeps_with, on_alike, taken_here, taken_there, with_alike}
use Rattle.in_flight.proofs.Slots.{Change, KeepsNumber, Slot, Slots, decide, none_free, opened_other, opened_own, own_slot, unused}

abbrev pub Flying : Type 0
Flying = ℕ → List ℕ

-- ---- the bytes of one session

pub own_flying : (n m : ℕ) (bytes : List ℕ) (flying : Flying) → m ≡ n → undelivered_with n bytes flying m ≡ bytes
own_flying n m bytes flying e = let same : (m == n) ≡ true = grind (arith, nat_tests) in ap (λ (b : Bool). if b then bytes else flying m) same

pub other_flying : (n m : ℕ) (bytes : List ℕ) (flying : Flying) → m ≢ n → undelivered_with n bytes flying m ≡ flying m
other_flying n m bytes flying e = let off : (m == n) ≡ false = grind (arith, nat_tests) in ap (λ (b : Bool). if b then bytes else flying m) off

-- one session differs by other bytes, and the others by theirs
pub by_number : (n : ℕ) (bytes : List ℕ) (flying : Flying) (a b : Slots) → SlotDiffersInFlight bytes (session_slot_of a n) (session_slot_of b n) → ((m : ℕ) → m ≢ n → SlotDiffersInFlight (flying m) (session_slot_of a m) (session_slot_of b m))
    → (m : ℕ) → SlotDiffersInFlight (undelivered_with n bytes flying m) (session_slot_of a m) (session_slot_of b m)
by_number n bytes flying a b own others m = by (decide m n)
  where
    by : (m ≡ n) ⊎ (m ≢ n) → SlotDiffersInFlight (undelivered_with n bytes flying m) (session_slot_of a m) (session_slot_of b m)
    by (inl on) = subst (λ (l : List ℕ). SlotDiffersInFlight l (session_slot_of a m) (session_slot_of b m)) (sym (own_flying n m bytes flying on)) (subst (λ (k : ℕ). SlotDiffersInFlight bytes (session_slot_of a k) (session_slot_of b k)) (sym on) own)
    by (inr off) = subst (λ (l : List ℕ). SlotDiffersInFlight l (session_slot_of a m) (session_slot_of b m)) (sym (other_flying n m bytes flying off)) (others m off)

-- it differs by the same bytes as before
pub by_same : (n : ℕ) (flying : Flying) (a b : Slots) → SlotDiffersInFlight (flying n) (session_slot_of a n) (session_slot_of b n) → ((m : ℕ) → m ≢ n → SlotDiffersInFlight (flying m) (session_slot_of a m) (session_slot_of b m))
    → (m : ℕ) → SlotDiffersInFlight (flying m) (session_slot_of a m) (session_slot_of b m)
by_same n flying a b own others m = by (decide m n)
  where
    by : (m ≡ n) ⊎ (m ≢ n) → SlotDiffersInFlight (flying m) (session_slot_of a m) (session_slot_of b m)
    by (inl on) = subst (λ (k : ℕ). SlotDiffersInFlight (flying k) (session_slot_of a k) (session_slot_of b k)) (sym on) own
    by (inr off) = others m off

-- ---- one slot changes in both

pub own_changed : (f : Change) (n : ℕ) (bytes : List ℕ) (d e : Core) → KeepsNumber f → HasDaemonLimits d → HasDaemonLimits e → SlotDiffersInFlight bytes (option_and_then f (session_slot_of d.slots n)) (option_and_then f (session_slot_of e.slots n))
    → SlotDiffersInFlight bytes (session_slot_of (on_session_slot f n d.slots) n) (session_slot_of (on_session_slot f n e.slots) n)
own_changed f n bytes d e keeps here there own = rw (own_slot f n d.opened d.slots keeps here.1, own_slot f n e.opened e.slots keeps there.1) own

pub others_changed : (f : Change) (n : ℕ) (flying : Flying) (d e : Core) → KeepsNumber f → DiffersInFlight flying d e → (m : ℕ) → m ≢ n → SlotDiffersInFlight (flying m) (session_slot_of (on_session_slot f n d.slots) m) (session_slot_of (on_session_slot f n e.slots) m)
others_changed f n flying d e keeps h m off = rw (apart d.slots f n m keeps (λ same. off (sym same)), apart e.slots f n m keeps (λ same. off (sym same))) (h.sessions m)

changed : (f : Change) (n : ℕ) (bytes : List ℕ) (flying : Flying) (d e : Core) → KeepsNumber f → DiffersInFlight flying d e → SlotDiffersInFlight bytes (option_and_then f (session_slot_of d.slots n)) (option_and_then f (session_slot_of e.slots n))
    → (m : ℕ) → SlotDiffersInFlight (undelivered_with n bytes flying m) (session_slot_of (on_session_slot f n d.slots) m) (session_slot_of (on_session_slot f n e.slots) m)
changed f n bytes flying d e keeps h own =
    by_number n bytes flying (on_session_slot f n d.slots) (on_session_slot f n e.slots) (own_changed f n bytes d e keeps h.limits h.limits_there own) (others_changed f n flying d e keeps h)

changed_same : (f : Change) (n : ℕ) (flying : Flying) (d e : Core) → KeepsNumber f → DiffersInFlight flying d e → SlotDiffersInFlight (flying n) (option_and_then f (session_slot_of d.slots n)) (option_and_then f (session_slot_of e.slots n))
    → (m : ℕ) → SlotDiffersInFlight (flying m) (session_slot_of (on_session_slot f n d.slots) m) (session_slot_of (on_session_slot f n e.slots) m)
changed_same f n flying d e keeps h own =
    by_same n flying (on_session_slot f n d.slots) (on_session_slot f n e.slots) (own_changed f n (flying n) d e keeps h.limits h.limits_there own) (others_changed f n flying d e keeps h)

-- ---- the calls

pub nothing_first : NothingIsInFlight
nothing_first d limits = record {
  registry = refl;
  users = refl;
  strings = refl;
  stream = refl;
  opened = refl;
  sessions = λ n. record { session = refl; input = λ s at. refl; replies = refl };
  limits = limits;
  limits_there = limits;
}

pub takes_unseen : TakesAreUnseen
takes_unseen flying d e n bytes h front =
    let f = after_taken (length bytes) in
    let keeps = keeps_taken (length bytes) in
    record {
      registry = h.registry;
      users = h.users;
      strings = h.strings;
      stream = h.stream;
      opened = h.opened;
      sessions = by_number n (flying n ++ bytes) flying (on_session_slot f n d.slots) e.slots
          (subst (λ (x : Option Slot). SlotDiffersInFlight (flying n ++ bytes) x (session_slot_of e.slots n)) (sym (own_slot f n d.opened d.slots keeps h.limits.1))
          (taken_here (flying n) bytes (session_slot_of d.slots n) (session_slot_of e.slots n) front (h.sessions n)))
          (λ m off. subst (λ (x : Option Slot). SlotDiffersInFlight (flying m) x (session_slot_of e.slots m)) (sym (apart d.slots f n m keeps (λ same. off (sym same)))) (h.sessions m));
      limits = limits_taken d n (length bytes) h.limits;
      limits_there = h.limits_there;
    }

pub deliveries_unseen : DeliveriesAreUnseen
deliveries_unseen flying d e n piece rest h waits =
    let f = after_taken (length piece) in
    let keeps = keeps_taken (length piece) in
    let x = session_slot_of d.slots n in
    let y = session_slot_of e.slots n in
    let now : SlotDiffersInFlight (piece ++ rest) x y = subst (λ (l : List ℕ). SlotDiffersInFlight l x y) waits (h.sessions n) in (
      ap (take (length piece)) (now.replies ∙ append_assoc piece rest (replies_in x)) ∙ take-append_seam piece (rest ++ replies_in x),
      record {
        registry = h.registry;
        users = h.users;
        strings = h.strings;
        stream = h.stream;
        opened = h.opened;
        sessions = by_number n rest flying d.slots (on_session_slot f n e.slots)
            (subst (λ (z : Option Slot). SlotDiffersInFlight rest x z) (sym (own_slot f n e.opened e.slots keeps h.limits_there.1)) (taken_there piece rest x y now))
            (λ m off. subst (λ (z : Option Slot). SlotDiffersInFlight (flying m) (session_slot_of d.slots m) z) (sym (apart e.slots f n m keeps (λ same. off (sym same)))) (h.sessions m));
        limits = h.limits;
        limits_there = limits_taken e n (length piece) h.limits_there;
      },
    )

pub frames_alike : FramesAreAlike
frames_alike flying d e n h = ap (λ (o : Option (Session DeviceState)). frame_in o) (h.sessions n).session

pub connections_alike : DataConnectionsAreAlike
connections_alike flying d e n h = record {
  registry = h.registry;
  users = h.users;
  strings = h.strings;
  stream = h.stream;
  opened = h.opened;
  sessions = changed_same (on_session after_connected) n flying d e (keeps_on after_connected) h (on_alike after_connected (flying n) (session_slot_of d.slots n) (session_slot_of e.slots n) (h.sessions n));
  limits = limits_connected d n h.limits;
  limits_there = limits_connected e n h.limits_there;
}

pub losses_alike : DataLossesAreAlike
losses_alike flying d e n h = record {
  registry = h.registry;
  users = h.users;
  strings = h.strings;
  stream = h.stream;
  opened = h.opened;
  sessions = changed_same (on_session after_lost) n flying d e (keeps_on after_lost) h (on_alike after_lost (flying n) (session_slot_of d.slots n) (session_slot_of e.slots n) (h.sessions n));
  limits = limits_lost d n h.limits;
  limits_there = limits_lost e n h.limits_there;
}

pub ends_alike : EndsAreAlike
ends_alike flying d e n h = record {
  registry = ap (λ (o : Option (Session DeviceState)). session_let_go e.registry o) (h.sessions n).session ∙ ap (λ (t : Table). session_let_go t (session_in (session_slot_of d.slots n))) h.registry;
  users = h.users;
  strings = h.strings;
  stream = h.stream;
  opened = h.opened;
  sessions = changed no_more n [] flying d e keeps_none h (gone_alike (session_slot_of d.slots n) (session_slot_of e.slots n));
  limits = limits_ended d n h.limits;
  limits_there = limits_ended e n h.limits_there;
}

-- ---- a turn

turns_by : (o : Option (Session DeviceState)) (flying : Flying) (d e d_new : Core) (n : ℕ) (step : DataStep) (buf : List ℕ) → session_in (session_slot_of d.slots n) ≡ o → DiffersInFlight flying d e → Turns n d step d_new buf → TurnsSessions o n d.slots step d_new.slots buf
    → CanFollow flying d_new (λ e_new. Turns n e step e_new buf)
turns_by None flying d e d_new n step buf at h turned t =
    let is : d_new ≡ d = turned.others ∙ ap (λ (l : Slots). record d { slots = l }) t.1 in
    record {
      e_new = e;
      call = record { slots = subst (λ (o : Option (Session DeviceState)). TurnsSessions o n e.slots step e.slots buf) (sym ((h.sessions n).session ∙ at)) (t.0, refl); others = refl };
      differs = subst (λ (x : Core). DiffersInFlight flying x e) (sym is) h;
    }
turns_by (Some s) flying d e d_new n step buf at h turned t =
    let f = with_session t.0 in
    let there : Core = record e { slots = on_session_slot f n e.slots } in
    let is : d_new ≡ record d { slots = on_session_slot f n d.slots } = turned.others ∙ ap (λ (l : Slots). record d { slots = l }) t.2 in
    let follows : Turns n e step there buf = record { slots = subst (λ (o : Option (Session DeviceState)). TurnsSessions o n e.slots step there.slots buf) (sym ((h.sessions n).session ∙ at)) (t.0, t.1, refl); others = refl } in
    let both : DiffersInFlight flying (record d { slots = on_session_slot f n d.slots }) there = record {
      registry = h.registry;
      users = h.users;
      strings = h.strings;
      stream = h.stream;
      opened = h.opened;
      sessions = changed_same f n flying d e (keeps_with t.0) h (with_alike t.0 (flying n) (session_slot_of d.slots n) (session_slot_of e.slots n) s at (h.sessions n));
      limits = subst HasDaemonLimits is (limits_turned n d step d_new buf turned h.limits);
      limits_there = limits_turned n e step there buf follows h.limits_there;
    } in
    record { e_new = there; call = follows; differs = subst (λ (x : Core). DiffersInFlight flying x there) (sym is) both }

pub turns_alike : TurnsAreAlike
turns_alike flying d e d_new n step buf h turned = turns_by (session_in (session_slot_of d.slots n)) flying d e d_new n step buf refl h turned turned.slots

-- ---- another session

has_room : (d : Core) → is_closed d ≡ false → all_slots_taken d.slots ≡ false
has_room d e = by (d.opened == 18446744073709551615) e
  where
    by : (b : Bool) → (b || all_slots_taken d.slots) ≡ false → all_slots_taken d.slots ≡ false
    by true h = absurd (let wrong : true ≡ false = h in cc)
    by false h = h

opened_slot : (d : Core) (port : ℕ) → HasDaemonLimits d → is_closed d ≡ false → session_slot_of (after_open_session d port).slots d.opened ≡ Some (new_session_slot d.strings d.opened port)
opened_slot d port limits room = opened_own d.slots (new_session_slot d.strings d.opened port) (has_room d room) (unused d.opened d.slots limits.1)

pub opens_alike : OpensAreAlike
opens_alike flying d e port h here there = record {
  registry = h.registry;
  users = h.users;
  strings = h.strings;
  stream = h.stream;
  opened = ap (λ (k : ℕ). k + 1) h.opened;
  sessions = by_same d.opened flying (after_open_session d port).slots (after_open_session e port).slots own others;
  limits = limits_opened d port h.limits;
  limits_there = limits_opened e port h.limits_there;
}
  where
    new : Slot
    new = new_session_slot d.strings d.opened port

    none_here : session_slot_of d.slots d.opened ≡ None
    none_here = none_free d.opened d.slots (unused d.opened d.slots h.limits.1)

    none_there : session_slot_of e.slots d.opened ≡ None
    none_there = ap (session_slot_of e.slots) (sym h.opened) ∙ none_free e.opened e.slots (unused e.opened e.slots h.limits_there.1)

    same : new_session_slot e.strings e.opened port ≡ new
    same = rw (h.strings, h.opened) refl

    nothing : [] ≡ flying d.opened ++ []
    nothing = sym (ap (λ (x : Option Slot). replies_in x) none_there) ∙ (h.sessions d.opened).replies ∙ ap (λ (x : Option Slot). flying d.opened ++ replies_in x) none_here

    own : SlotDiffersInFlight (flying d.opened) (session_slot_of (after_open_session d port).slots d.opened) (session_slot_of (after_open_session e port).slots d.opened)
    own = rw (opened_slot d port h.limits here, ap (session_slot_of (after_open_session e port).slots) (sym h.opened) ∙ opened_slot e port h.limits_there there ∙ ap (λ (s : Slot). Some s) same) (record { session = refl; input = λ s at. refl; replies = nothing })

    others : (m : ℕ) → m ≢ d.opened → SlotDiffersInFlight (flying m) (session_slot_of (after_open_session d port).slots m) (session_slot_of (after_open_session e port).slots m)
    others m off = rw (opened_other d.slots new m off, opened_other e.slots (new_session_slot e.strings e.opened port) m (λ on. off (on ∙ h.opened))) (h.sessions m)
