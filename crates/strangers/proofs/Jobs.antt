-- The jobs of a world stand behind a call for a stranger's session.
use Rattle.std.proofs.Common.{◌≡◌, ◌≢◌, ◌∙◌, ◌⊎◌, inl, inr, ℕ, ◌≤◌, ◌<◌, List, [], ◌∷◌, Bool, true, false, Option, Some, None, refl, sym, ap, subst, eqb, length, slice_get, arith}
use Rattle.std.proofs.lemmas.Option.{slice_get_within}
use Rattle.option_desc.specs.declared.descriptor.Descriptor.{Descriptor}
use Rattle.device_api.specs.State.{DeviceState}
use Rattle.dispatch.specs.declared.table.place.Place.{Place}
use Rattle.dispatch.specs.declared.table.place.Slot.{Slot}
use Rattle.dispatch.specs.declared.table.place.Slot.TheVariants.{In, Out, Gone}
use Rattle.dispatch.specs.Table.{Table}
use Rattle.saned_core.specs.declared.session_slot.SessionId.{SessionId}
use Rattle.saned_core.specs.DaemonStates.{Core, session_slot_of}
use Rattle.system_model.specs.AbstractMessages.{AbstractRequest, Set}
use Rattle.system_model.specs.Devices.{Make, descriptors_in_force}
use Rattle.system_model.specs.AbstractDevices.{AbstractDevice}
use Rattle.system_model.specs.AbstractSessions.{AbstractSession}
use Rattle.system_model.specs.SystemStates.{SystemState, device_for, make_for, wanted_place}
use Rattle.system_model.specs.Invariants.{Invariant}
use Rattle.system_model.proofs.OtherJobs.{Same, kept_exchanges, same_self}
use Rattle.daemon_refines.specs.ContextRefinement.{PlaceRefines, SlotRefines, TableRefines}
use Rattle.daemon_refines.specs.OtherSessions.{IsHeldByNoOther, LeavesOthers, LeavesPlace}
use Rattle.daemon_refines.proofs.Changes.{Held}
use Rattle.in_flight.proofs.Slots.{decide}
use Rattle.event_world.specs.declared.endpoint.Endpoint.{Endpoint}
use Rattle.event_world.specs.Worlds.{WorldCore}
use Rattle.world_refines.specs.GhostStates.{Ghost}
use Rattle.world_refines.specs.Speaks.{SetsAsHeld}
use Rattle.world_refines.proofs.state.Strangers.{sits_same}
use Rattle.strangers.specs.LeavingJobs.{IsStrangers, JobsStand, LeavesJobs, ghost_with, with_devices}
use Rattle.strangers.proofs.Leaving.{AllFit, AllLeft, left_fit}

-- what a call for session n of client i leaves
pub record Left (i : ℕ) (make : ℕ → Make) (n : ℕ) (d e : Core) (table device : ℕ → AbstractDevice) : Type 0 where
  pub held : Held
  pub shows : TableRefines i make held e.registry device
  pub others : LeavesOthers i d.registry e.registry table device
  pub slots : (m : ℕ) → m ≢ n → session_slot_of e.slots m ≡ session_slot_of d.slots m
  pub uses : AllLeft i make table device

-- ---- a device, as another client sees it

held_by_other : (i j : ℕ) (h : Option ℕ) → j ≢ i → IsHeldByNoOther i h → h ≡ Some j → ⊥
held_by_other i j h n own e = n (subst (IsHeldByNoOther i) e own)

same_by : (i j : ℕ) (old new : AbstractDevice) (at now : Option (Place DeviceState)) → j ≢ i → LeavesPlace i old new at now → Same j old new
same_by i j old new at now n (inl same) = subst (λ (d : AbstractDevice). Same j old d) (sym same.0) (same_self j old)
same_by i j old new at now n (inr own) = record { held = λ e. absurd (held_by_other i j old.holder n own.0 e); free = λ free e. held_by_other i j new.holder n own.1 e }

stays_by : (i j : ℕ) (old new : AbstractDevice) (at now : Option (Place DeviceState)) → j ≢ i → LeavesPlace i old new at now → old.holder ≡ Some j → new ≡ old
stays_by i j old new at now n (inl same) e = same.0
stays_by i j old new at now n (inr own) e = absurd (held_by_other i j old.holder n own.0 e)

-- a device that is not listed is held by nobody
unheld_slot : (i : ℕ) (make : Make) (held : Held) (k : ℕ) (dev : AbstractDevice) (name : List ℕ) (slot : Slot DeviceState) → SlotRefines i make held k dev name slot → dev.listed ≡ false → dev.holder ≡ None
unheld_slot i make held k dev name Gone h e = h.1
unheld_slot i make held k dev name (In s) h e = ap (λ (d : AbstractDevice). d.holder) h.0
unheld_slot i make held k dev name Out h e = absurd (let clash : true ≡ false = sym h.0 ∙ e in cc)

unheld : (i : ℕ) (make : Make) (held : Held) (k : ℕ) (dev : AbstractDevice) (at : Option (Place DeviceState)) → PlaceRefines i make held k dev at → dev.listed ≡ false → dev.holder ≡ None
unheld i make held k dev None h e = h.1
unheld i make held k dev (Some p) h e = unheld_slot i make held k dev p.info.name p.slot h e

nobodys : (j : ℕ) (old new : AbstractDevice) → old.holder ≡ None → new.holder ≡ None → Same j old new
nobodys j old new a b = record { held = λ e. absurd (let clash : None ≡ Some j = sym a ∙ e in cc); free = λ free e. let clash : None ≡ Some j = sym b ∙ e in absurd (cc) }

-- ---- the system

-- what each client by the model sees of the device that its job wants
abbrev AllSame : SystemState → (ℕ → AbstractDevice) → Type 0
AllSame s device = (j : ℕ) → Same j (device_for s j) (device (wanted_place s j))

all_same : (t : Ghost) (w : WorldCore) (i n : ℕ) (held : Held) (e : Core) (device : ℕ → AbstractDevice) → (device_for t.system i).listed ≡ false → TableRefines i t.system.make held w.daemon.registry t.system.device → Left i t.system.make n w.daemon e t.system.device device → AllSame t.system device
all_same t w i n held e device nowhere shown l j = by (decide j i)
  where
    by : (j ≡ i) ⊎ (j ≢ i) → Same j (device_for t.system j) (device (wanted_place t.system j))
    by (inr off) = let k = wanted_place t.system j in same_by i j (t.system.device k) (device k) (slice_get w.daemon.registry k) (slice_get e.registry k) off (l.others.places k)
    by (inl same) =
        subst (λ (x : ℕ). Same x (device_for t.system x) (device (wanted_place t.system x))) (sym same)
        (let k = wanted_place t.system i in
        nobodys i (t.system.device k) (device k) (unheld i (t.system.make k) held k (t.system.device k) (slice_get w.daemon.registry k) (shown.places k) nowhere)
        (unheld i (t.system.make k) l.held k (device k) (slice_get e.registry k) (l.shows.places k) (l.others.listed k ∙ nowhere)))

sound_with : (s : SystemState) (device : ℕ → AbstractDevice) → Invariant s → AllSame s device → AllFit s.make device → Invariant (with_devices device s)
sound_with s device h same fit = record {
  exchanges = λ j. kept_exchanges j (make_for s j) (s.job j) (device_for s j) (device (wanted_place s j)) (s.job j).client.stage (same j) (h.exchanges j);
  pages = λ j. h.pages j;
  fit = fit;
}

sets_same : (i : ℕ) (k : Make) (known : List Descriptor) (dev new : AbstractDevice) (todo : List AbstractRequest) → Same i dev new → SetsAsHeld i k known dev todo → SetsAsHeld i k known new todo
sets_same i k known dev new [] s h = tt
sets_same i k known dev new (Set n value ∷ todo) s h = let e = s.held h.0 in (e.0, h.1 ∙ ap (descriptors_in_force k) (sym e.1), h.2)
sets_same i k known dev new (q ∷ todo) s h = h

-- ---- all jobs

abbrev pub AreApart : WorldCore → ℕ → Type 0
AreApart w n = (j : ℕ) (endpoint : Endpoint) (id : SessionId) → slice_get w.endpoints j ≡ Some endpoint → endpoint.link ≡ Some id → id.number ≢ n

pub jobs_left : (t : Ghost) (w : WorldCore) (i n : ℕ) (e : Core) (device : ℕ → AbstractDevice) → length w.endpoints ≤ i → (device_for t.system i).listed ≡ false → {held : Held} → TableRefines i t.system.make held w.daemon.registry t.system.device → AreApart w n → JobsStand t w → Left i t.system.make n w.daemon e t.system.device device → LeavesJobs t w i n e device
jobs_left t w i n e device beyond nowhere {held = held} shown apart h l = record {
  stands = record {
    sound = sound_with t.system device h.sound same (left_fit i t.system.make t.system.device device l.uses h.sound.fit);
    asks = λ j. sets_same j (make_for t.system j) (t.system.job j).client.known (device_for t.system j) (device (wanted_place t.system j)) (t.system.job j).todo (same j) (h.asks j);
    endpoints = λ j endpoint at. sits_same t i j n w.daemon e device endpoint (other j endpoint at) (λ id is. apart j endpoint id at is) (record { held = l.held; shows = l.shows; others = l.others; slots = l.slots }) (h.endpoints j endpoint at);
  };
  slots = l.slots;
  held = λ k j off e_held. stays_by i j (t.system.device k) (device k) (slice_get w.daemon.registry k) (slice_get e.registry k) off (l.others.places k) e_held;
  others = l.others;
  uses = l.uses;
}
  where
    same : AllSame t.system device
    same = all_same t w i n held e device nowhere shown l

    other : (j : ℕ) (endpoint : Endpoint) → slice_get w.endpoints j ≡ Some endpoint → j ≢ i
    other j endpoint at e_same = let low = slice_get_within w.endpoints j endpoint at in omega (arith, low, beyond, e_same)

pub leaves_jobs : (t : Ghost) (w : WorldCore) (i n : ℕ) (s : AbstractSession) (e : Core) (device : ℕ → AbstractDevice) → JobsStand t w → IsStrangers t w i n s → Left i t.system.make n w.daemon e t.system.device device → LeavesJobs t w i n e device
leaves_jobs t w i n s e device h st l = jobs_left t w i n e device st.beyond st.nowhere st.sits.shows.devices st.apart h l
