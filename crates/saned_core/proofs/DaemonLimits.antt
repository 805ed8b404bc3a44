-- Each call leaves the sessions' numbers apart.
use Rattle.std.proofs.Common.{◌≡◌, ◌≢◌, ◌<◌, ◌+◌, ◌∙◌, ℕ, List, [], ◌∷◌, Option, Some, None, Bool, true, false, cond, refl, sym, ap, subst, arith, length}
use Rattle.std.specs.Option.{option_map, option_and_then}
use Rattle.std.specs.List.{list_any}
use Rattle.device_api.specs.State.{DeviceState}
use Rattle.page_picture.specs.Source.{SourceState}
use Rattle.dispatch.specs.Table.{Table}
use Rattle.saned_requests.specs.declared.session.Session.{Session}
use Rattle.saned_core.specs.declared.session_slot.SessionSlot.{SessionSlot}
use Rattle.saned_core.specs.declared.session_slot.Fed.{Fed}
use Rattle.saned_core.specs.declared.session_slot.DataStep.{DataStep}
use Rattle.saned_core.specs.DaemonStates.{Core, is_slot_number, session_slot_of, session_in, session_of, on_session_slot, on_session, with_session, with_session_slot, after_taken, after_reply_bytes, no_more, new_session_slot, after_connected, after_lost, after_open_session, after_end_session}
use Rattle.saned_core.specs.Feeding.{Feeds}
use Rattle.saned_core.specs.Turns.{Turns, TurnsSessions}
use Rattle.saned_core.specs.Loading.{holds, on_first, slot_with_page, core_after_load}
use Rattle.saned_core.proofs.Apart.{KeepsNumber, feed_keeps, if_stands, some_number}
use Rattle.saned_core.proofs.FeedCases.{feeds_in}
use Rattle.saned_core.specs.DaemonLimits.{IsOtherSlot, IsFree, HaveOwnNumbers, HasDaemonLimits}

abbrev Place : Type 0
Place = Option (SessionSlot DeviceState)

-- ---- each place keeps its session's number, or is free

abbrev IsKept : Place → Place → Type 0
IsKept old None = Unit {0}
IsKept None (Some new) = ⊥
IsKept (Some old) (Some new) = new.number ≡ old.number

abbrev AreKept : List Place → List Place → Type 0
AreKept [] [] = Unit {0}
AreKept [] (new ∷ news) = ⊥
AreKept (old ∷ olds) [] = ⊥
AreKept (old ∷ olds) (new ∷ news) = IsKept old new × AreKept olds news

kept_place : (slot : Place) → IsKept slot slot
kept_place None = tt
kept_place (Some slot) = refl

kept_all : (slots : List Place) → AreKept slots slots
kept_all [] = tt
kept_all (slot ∷ slots) = (kept_place slot, kept_all slots)

other_kept : (n : ℕ) (old new : Place) → IsKept old new → IsOtherSlot n old → IsOtherSlot n new
other_kept n old None k o = tt
other_kept n None (Some new) k o = absurd k
other_kept n (Some old) (Some new) k o = λ e. o (sym k ∙ e)

free_kept : (n : ℕ) (olds news : List Place) → AreKept olds news → IsFree n olds → IsFree n news
free_kept n [] [] k f = tt
free_kept n [] (new ∷ news) k f = absurd k
free_kept n (old ∷ olds) [] k f = tt
free_kept n (old ∷ olds) (new ∷ news) k f = (other_kept n old new k.0 f.0, free_kept n olds news k.1 f.1)

apart_kept : (after_open_session : ℕ) (olds news : List Place) → AreKept olds news → HaveOwnNumbers after_open_session olds → HaveOwnNumbers after_open_session news
apart_kept after_open_session [] [] k a = tt
apart_kept after_open_session [] (new ∷ news) k a = absurd k
apart_kept after_open_session (old ∷ olds) [] k a = tt
apart_kept after_open_session (None ∷ olds) (None ∷ news) k a = apart_kept after_open_session olds news k.1 a
apart_kept after_open_session (Some old ∷ olds) (None ∷ news) k a = apart_kept after_open_session olds news k.1 a.2
apart_kept after_open_session (None ∷ olds) (Some new ∷ news) k a = absurd k.0
apart_kept after_open_session (Some old ∷ olds) (Some new ∷ news) k a = (
  subst (λ (n : ℕ). n < after_open_session) (sym k.0) a.0,
  subst (λ (n : ℕ). IsFree n news) (sym k.0) (free_kept old.number olds news k.1 a.1),
  apart_kept after_open_session olds news k.1 a.2,
)

length_kept : (olds news : List Place) → AreKept olds news → length news ≡ length olds
length_kept [] [] k = refl
length_kept [] (new ∷ news) k = absurd k
length_kept (old ∷ olds) [] k = absurd k
length_kept (old ∷ olds) (new ∷ news) k = omega (arith, length_kept olds news k.1)

limits_kept : (old new : Core) → new.opened ≡ old.opened → AreKept old.slots new.slots → HasDaemonLimits old → HasDaemonLimits new
limits_kept old new e k h = (
  length_kept old.slots new.slots k ∙ h.0,
  subst (λ (n : ℕ). HaveOwnNumbers n new.slots) (sym e) (apart_kept old.opened old.slots new.slots k h.1),
)

-- ---- one slot

kept_by : (slot : SessionSlot DeviceState) (new : Place) → ((s : SessionSlot DeviceState) → new ≡ Some s → s.number ≡ slot.number) → IsKept (Some slot) new
kept_by slot None k = tt
kept_by slot (Some s) k = k s refl

kept_at : (f : SessionSlot DeviceState → Place) (slot : Place) → KeepsNumber f → IsKept slot (option_and_then f slot)
kept_at f None k = tt
kept_at f (Some slot) k = kept_by slot (f slot) (λ s e. k slot s e)

kept_if : (b : Bool) (slot new : Place) (slots news : List Place) → IsKept slot new → AreKept slots news → AreKept (slot ∷ slots) (cond b (new ∷ slots) (slot ∷ news))
kept_if true slot new slots news one more = (one, kept_all slots)
kept_if false slot new slots news one more = (kept_place slot, more)

kept_on : (f : SessionSlot DeviceState → Place) (n : ℕ) (slots : List Place) → KeepsNumber f → AreKept slots (on_session_slot f n slots)
unfolding on_session_slot
kept_on f n [] k = tt
kept_on f n (slot ∷ slots) k = kept_if (is_slot_number n slot) slot (option_and_then f slot) slots (on_session_slot f n slots) (kept_at f slot k) (kept_on f n slots k)

kept_first : (p : Place → Bool) (f : Place → Place) (slots : List Place) → ((slot : Place) → IsKept slot (f slot)) → AreKept slots (on_first p f slots)
unfolding on_first
kept_first p f [] k = tt
kept_first p f (slot ∷ slots) k = kept_if (p slot) slot (f slot) slots (on_first p f slots) (k slot) (kept_first p f slots k)

-- ---- what the calls do to a slot

on_keeps : (f : Session DeviceState → Session DeviceState) → KeepsNumber (on_session f)
on_keeps f slot new e = some_number (record slot { session = option_map f slot.session }) new e

with_keeps : (session : Session DeviceState) → KeepsNumber (with_session session)
with_keeps session slot new e = some_number (record slot { session = Some session }) new e

take_keeps : (count : ℕ) → KeepsNumber (after_taken count)
take_keeps count slot new e = if_stands (after_reply_bytes count slot) new e

none_keeps : KeepsNumber no_more
none_keeps slot new e = absurd (let clash : None ≡ Some new = e in cc)

with_kept : (name : List ℕ) (source : SourceState) (slot : Place) → IsKept slot (slot_with_page name source slot)
with_kept name source None = tt
with_kept name source (Some slot) = refl

-- ---- another session

more_apart : (n : ℕ) (slots : List Place) → HaveOwnNumbers n slots → HaveOwnNumbers (n + 1) slots
more_apart n [] a = tt
more_apart n (None ∷ slots) a = more_apart n slots a
more_apart n (Some slot ∷ slots) a = (omega (arith, a.0), a.1, more_apart n slots a.2)

unused : (n : ℕ) (slots : List Place) → HaveOwnNumbers n slots → IsFree n slots
unused n [] a = tt
unused n (None ∷ slots) a = (tt, unused n slots a)
unused n (Some slot ∷ slots) a = (λ e. omega (arith, e, a.0), unused n slots a.2)

free_with : (n : ℕ) (slots : List Place) (new : SessionSlot DeviceState) → new.number ≢ n → IsFree n slots → IsFree n (with_session_slot slots new)
unfolding with_session_slot
free_with n [] new o f = tt
free_with n (None ∷ slots) new o f = (o, f.1)
free_with n (Some slot ∷ slots) new o f = (f.0, free_with n slots new o f.1)

apart_with : (n : ℕ) (slots : List Place) (new : SessionSlot DeviceState) → new.number ≡ n → HaveOwnNumbers n slots → HaveOwnNumbers (n + 1) (with_session_slot slots new)
unfolding with_session_slot
apart_with n [] new e a = tt
apart_with n (None ∷ slots) new e a = (omega (arith, e), subst (λ (k : ℕ). IsFree k slots) (sym e) (unused n slots a), more_apart n slots a)
apart_with n (Some slot ∷ slots) new e a = (omega (arith, a.0), free_with slot.number slots new (λ q. omega (arith, q, e, a.0)) a.1, apart_with n slots new e a.2)

length_with : (slots : List Place) (new : SessionSlot DeviceState) → length (with_session_slot slots new) ≡ length slots
unfolding with_session_slot
length_with [] new = refl
length_with (None ∷ slots) new = refl
length_with (Some slot ∷ slots) new = omega (arith, length_with slots new)

-- ---- the calls

pub limits_new : (d : Core) → d.slots ≡ None ∷ None ∷ None ∷ None ∷ None ∷ None ∷ None ∷ None ∷ [] → HasDaemonLimits d
limits_new d e = (ap (λ (l : List Place). length l) e, subst (λ (l : List Place). HaveOwnNumbers d.opened l) (sym e) tt)

pub limits_opened : (d : Core) (port : ℕ) → HasDaemonLimits d → HasDaemonLimits (after_open_session d port)
limits_opened d port h = (length_with d.slots (new_session_slot d.strings d.opened port) ∙ h.0, apart_with d.opened d.slots (new_session_slot d.strings d.opened port) refl h.1)

kept_fed : (o : Option (Session DeviceState)) (n : ℕ) (old : Core) (piece : List ℕ) (fed : Fed) (new : Core) → session_of old n ≡ o → Feeds n old piece fed new → AreKept old.slots new.slots
kept_fed None n old piece fed new at f = subst (λ (d : Core). AreKept old.slots d.slots) (sym (f.idle at).1) (kept_all old.slots)
kept_fed (Some s) n old piece fed new at f =
    let g = feeds_in n old piece fed new s at f in
    subst (λ (l : List Place). AreKept old.slots l) (sym g.slots_is) (kept_on _ n old.slots (feed_keeps fed g.context g.rest g.text))

pub limits_fed : (n : ℕ) (old : Core) (piece : List ℕ) (fed : Fed) (new : Core) → Feeds n old piece fed new → HasDaemonLimits old → HasDaemonLimits new
limits_fed n old piece fed new f h = limits_kept old new (ap (λ (d : Core). d.opened) f.others.rest) (kept_fed (session_of old n) n old piece fed new refl f) h

kept_turned : (o : Option (Session DeviceState)) (n : ℕ) (slots : List Place) (step : DataStep) (news : List Place) (buf : List ℕ) → TurnsSessions o n slots step news buf → AreKept slots news
kept_turned None n slots step news buf t = subst (λ (l : List Place). AreKept slots l) (sym t.1) (kept_all slots)
kept_turned (Some s) n slots step news buf t = subst (λ (l : List Place). AreKept slots l) (sym t.2) (kept_on _ n slots (with_keeps t.0))

pub limits_turned : (n : ℕ) (old : Core) (step : DataStep) (new : Core) (buf : List ℕ) → Turns n old step new buf → HasDaemonLimits old → HasDaemonLimits new
limits_turned n old step new buf t h =
    limits_kept old new (ap (λ (d : Core). d.opened) t.others) (kept_turned (session_in (session_slot_of old.slots n)) n old.slots step new.slots buf t.slots) h

pub limits_connected : (d : Core) (n : ℕ) → HasDaemonLimits d → HasDaemonLimits (record d { slots = on_session_slot (on_session after_connected) n d.slots })
limits_connected d n h = limits_kept d (record d { slots = on_session_slot (on_session after_connected) n d.slots }) refl (kept_on _ n d.slots (on_keeps after_connected)) h

pub limits_lost : (d : Core) (n : ℕ) → HasDaemonLimits d → HasDaemonLimits (record d { slots = on_session_slot (on_session after_lost) n d.slots })
limits_lost d n h = limits_kept d (record d { slots = on_session_slot (on_session after_lost) n d.slots }) refl (kept_on _ n d.slots (on_keeps after_lost)) h

pub limits_taken : (d : Core) (n count : ℕ) → HasDaemonLimits d → HasDaemonLimits (record d { slots = on_session_slot (after_taken count) n d.slots })
limits_taken d n count h = limits_kept d (record d { slots = on_session_slot (after_taken count) n d.slots }) refl (kept_on _ n d.slots (take_keeps count)) h

pub limits_ended : (d : Core) (n : ℕ) → HasDaemonLimits d → HasDaemonLimits (after_end_session d n)
limits_ended d n h = limits_kept d (after_end_session d n) refl (kept_on _ n d.slots none_keeps) h

loaded_if : (b : Bool) (d : Core) (name : List ℕ) (source : SourceState) (registry : Table) → HasDaemonLimits d
    → HasDaemonLimits (cond b (record d { slots = on_first (holds name) (slot_with_page name source) d.slots }) (record d { registry = registry }))
loaded_if true d name source registry h = limits_kept d (record d { slots = on_first (holds name) (slot_with_page name source) d.slots }) refl (kept_first (holds name) (slot_with_page name source) d.slots (with_kept name source)) h
loaded_if false d name source registry h = h

pub limits_loaded : (d : Core) (name : List ℕ) (source : SourceState) → HasDaemonLimits d → HasDaemonLimits (core_after_load d name source)
limits_loaded d name source h = loaded_if (list_any (holds name) d.slots) d name source _ h

pub limits_unplugged : (d : Core) (registry : Table) → HasDaemonLimits d → HasDaemonLimits (record d { registry = registry })
limits_unplugged d registry h = h
