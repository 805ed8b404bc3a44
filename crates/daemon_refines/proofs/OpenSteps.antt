-- OPEN and AUTHORIZE: the free word, the place of a name, and a device that is handed out.
use Rattle.std.proofs.Common.{inl, inr, ◌⊎◌, ◌≡◌, ◌≢◌, ◌∙◌, ◌<◌, ℕ, zero, suc, List, [], ◌∷◌, Bool, true, false, Option, Some, None, option_map, refl, sym, ap, subst, eqb, eqb-true, cond, length, slice_get, get_or, arith}
use Rattle.std.specs.Prelude.{Ok}
use Rattle.std.proofs.lemmas.Bool.{eqb-false}
use Rattle.std.proofs.lemmas.List.Quantifiers.{position-Some}
use Rattle.sane_fixed.specs.declared.device_info.DeviceInfo.{DeviceInfo}
use Rattle.device_api.specs.State.{DeviceState, after_reset}
use Rattle.device_api.proofs.SameLaws.{reset_same}
use Rattle.dispatch.specs.declared.table.place.Slot.{Slot}
use Rattle.dispatch.specs.declared.table.place.Slot.TheVariants.{In, Out, Gone}
use Rattle.dispatch.specs.declared.table.place.Place.{Place}
use Rattle.dispatch.specs.declared.table.place.Lease.{Lease}
use Rattle.dispatch.specs.Table.{IsLeaseOf, Table, find_name, device_in as slot_held, held_at, is_named, with_slot}
use Rattle.saned_requests.specs.Holding.{free_word, held_by, on_word}
use Rattle.saned_requests.specs.RequestAnswers.{RequestContext, reply_of_take}
use Rattle.system_model.specs.Devices.{Make}
use Rattle.system_model.specs.AbstractDevices.{AbstractDevice, is_held_by}
use Rattle.system_model.specs.Daemon.{TransferState, AnswerEffect}
use Rattle.system_model.specs.SystemStates.{with_entry}
use Rattle.system_model.specs.AbstractSessions.{AbstractSession, least_free_word as free_of, open_effect, or_word, words_after}
use Rattle.daemon_refines.specs.ContextRefinement.{TransferRefines, ContextRefines, LeaseRefines, SlotRefines, abstract_device}
use Rattle.daemon_refines.proofs.FramesAreRead.{frame_beside}
use Rattle.daemon_refines.proofs.Changes.{Held, changed, shown_as, shown_by}
use Rattle.daemon_refines.proofs.SessionEndings.{same_tables}
use Rattle.daemon_refines.proofs.WordsAndPlaces.{on_length, on_other, put_other, put_same, with_new}
use Rattle.daemon_refines.proofs.Moved.{nothing_awaited, place_in, put_elsewhere, put_there, unsome}
use Rattle.daemon_refines.proofs.Scanning.{made_reset}

-- the least free word, by both
or_at : (p q : Option ℕ) (n : ℕ) (later : Option ℕ) → p ≡ q → or_word p n later ≡ or_word q n later
or_at p q n later e = ap (λ (x : Option ℕ). or_word x n later) e

pub free_same : (held : Held) (words : ℕ → Option ℕ) → length held ≡ 4 → ((w : ℕ) → words w ≡ place_in (held_by held w)) → free_of words ≡ free_word held
unfolding held_by
free_same [] words n e = absurd (omega (arith, n))
free_same (a ∷ []) words n e = absurd (omega (arith, n))
free_same (a ∷ b ∷ []) words n e = absurd (omega (arith, n))
free_same (a ∷ b ∷ c ∷ []) words n e = absurd (omega (arith, n))
free_same (None ∷ b ∷ c ∷ f ∷ []) words n e = or_at (words 0) None 0 _ (e 0)
free_same (Some a ∷ None ∷ c ∷ f ∷ []) words n e = or_at (words 0) _ 0 _ (e 0) ∙ or_at (words 1) _ 1 _ (e 1)
free_same (Some a ∷ Some b ∷ None ∷ f ∷ []) words n e = or_at (words 0) _ 0 _ (e 0) ∙ or_at (words 1) _ 1 _ (e 1) ∙ or_at (words 2) _ 2 _ (e 2)
free_same (Some a ∷ Some b ∷ Some c ∷ None ∷ []) words n e = or_at (words 0) _ 0 _ (e 0) ∙ or_at (words 1) _ 1 _ (e 1) ∙ or_at (words 2) _ 2 _ (e 2) ∙ or_at (words 3) _ 3 _ (e 3)
free_same (Some a ∷ Some b ∷ Some c ∷ Some f ∷ []) words n e = or_at (words 0) _ 0 _ (e 0) ∙ or_at (words 1) _ 1 _ (e 1) ∙ or_at (words 2) _ 2 _ (e 2) ∙ or_at (words 3) _ 3 _ (e 3)
free_same (a ∷ b ∷ c ∷ f ∷ g ∷ held) words n e = absurd (omega (arith, n))

free_is : (held : Held) (w : ℕ) → length held ≡ 4 → free_word held ≡ Some w → (held_by held w ≡ None) × (w < 4)
unfolding held_by
free_is [] w n e = absurd (omega (arith, n))
free_is (a ∷ []) w n e = absurd (omega (arith, n))
free_is (a ∷ b ∷ []) w n e = absurd (omega (arith, n))
free_is (a ∷ b ∷ c ∷ []) w n e = absurd (omega (arith, n))
free_is (None ∷ b ∷ c ∷ f ∷ []) w n e = subst (λ (v : ℕ). (held_by (None ∷ b ∷ c ∷ f ∷ []) v ≡ None) × (v < 4)) (unsome 0 w e) (refl, omega arith)
free_is (Some a ∷ None ∷ c ∷ f ∷ []) w n e = subst (λ (v : ℕ). (held_by (Some a ∷ None ∷ c ∷ f ∷ []) v ≡ None) × (v < 4)) (unsome 1 w e) (refl, omega arith)
free_is (Some a ∷ Some b ∷ None ∷ f ∷ []) w n e = subst (λ (v : ℕ). (held_by (Some a ∷ Some b ∷ None ∷ f ∷ []) v ≡ None) × (v < 4)) (unsome 2 w e) (refl, omega arith)
free_is (Some a ∷ Some b ∷ Some c ∷ None ∷ []) w n e = subst (λ (v : ℕ). (held_by (Some a ∷ Some b ∷ Some c ∷ None ∷ []) v ≡ None) × (v < 4)) (unsome 3 w e) (refl, omega arith)
free_is (Some a ∷ Some b ∷ Some c ∷ Some f ∷ []) w n e = absurd (let clash : None ≡ Some w = e in cc)
free_is (a ∷ b ∷ c ∷ f ∷ g ∷ held) w n e = absurd (omega (arith, n))

on_vacant : (f : Option (Lease DeviceState) → Option (Lease DeviceState)) (held : Held) (w : ℕ) → w < length held → held_by held w ≡ None → held_by (on_word f held w) w ≡ f None
unfolding held_by on_word
on_vacant f [] w n e = absurd (omega arith)
on_vacant f (h ∷ held) zero n e = ap f e
on_vacant f (h ∷ held) (suc w) n e = on_vacant f held w (omega arith) e

-- what stands in the place of a name
record PlaceAt (t : Table) (k : ℕ) : Type 0 where
  place : Place DeviceState
  at : slice_get t k ≡ Some place
  is : (d : Place DeviceState) → get_or t k d ≡ place

place_at : (t : Table) (k : ℕ) → k < length t → PlaceAt t k
place_at [] k n = absurd (omega arith)
place_at (p ∷ t) zero n = record { place = p; at = refl; is = λ d. refl }
place_at (p ∷ t) (suc k) n = let more = place_at t k (omega arith) in record { place = more.place; at = more.at; is = more.is }

-- a device that is in, or out
pub record FoundSlot (t : Table) (k : ℕ) : Type 0 where
  pub place : Place DeviceState
  pub at : slice_get t k ≡ Some place
  pub slot : ((s : DeviceState) × (place.slot ≡ In s)) ⊎ (place.slot ≡ Out)

named_slot : (name : List ℕ) (p : Place DeviceState) (slot : Slot DeviceState) → p.slot ≡ slot → is_named name p ≡ true → ((s : DeviceState) × (p.slot ≡ In s)) ⊎ (p.slot ≡ Out)
named_slot name p (In s) e h = inl (s, e)
named_slot name p Out e h = inr e
named_slot name p Gone e h =
    let clash : false ≡ true = sym (ap (λ (x : Slot DeviceState). is_named name (record { info = p.info; slot = x })) e) ∙ h in absurd (cc)

pub found_slot : (name : List ℕ) (t : Table) (k : ℕ) → find_name name t ≡ Some k → FoundSlot t k
found_slot name [] k e = absurd (let clash : None ≡ Some k = e in cc)
found_slot name (q ∷ t) k e =
    let f = position-Some (is_named name) (q ∷ t) k q e in
    let at = place_at (q ∷ t) k f.0 in
    record { place = at.place; at = at.at; slot = named_slot name at.place at.place.slot refl (ap (is_named name) (sym (at.is q)) ∙ f.1) }

-- the device there
abbrev held_in : Option (Place DeviceState) → Option DeviceState
held_in None = None
held_in (Some p) = slot_held p.slot

held_is : (o : Option (Place DeviceState)) → elim o [ Some p ↦ slot_held p.slot | None ↦ None ] ≡ held_in o
held_is None = refl
held_is (Some p) = refl

pub held_there : (t : Table) (k : ℕ) (p : Place DeviceState) (slot : Slot DeviceState) → slice_get t k ≡ Some p → p.slot ≡ slot → held_at t k ≡ slot_held slot
unfolding held_at
held_there t k p slot at e = held_is (slice_get t k) ∙ ap held_in at ∙ ap slot_held e

-- the device comes to a free word
with_word : (old new : Held) (words : ℕ → Option ℕ) (w p : ℕ) (m : Lease DeviceState) → ((v : ℕ) → words v ≡ place_in (held_by old v)) → held_by new w ≡ Some m → m.place ≡ p → ((v : ℕ) → v ≢ w → held_by new v ≡ held_by old v) →
    (v : ℕ) (b : Bool) → eqb v w ≡ b → cond b (Some p) (words v) ≡ place_in (held_by new v)
with_word old new words w p m seen_words is place others v true e = sym (ap (λ (x : ℕ). place_in (held_by new x)) (eqb-true v w e) ∙ ap place_in is ∙ ap (λ (x : ℕ). Some x) place)
with_word old new words w p m seen_words is place others v false e = seen_words v ∙ ap place_in (sym (others v (eqb-false v w e)))

abbrev pub lease_of : ℕ → DeviceState → Lease DeviceState
lease_of p st = record { device = after_reset st; place = p }

-- a place whose device is in is no place of a lease
pub in_or_out : (t : Table) (p : ℕ) (at : Place DeviceState) (st : DeviceState) (n : Lease DeviceState) → n.place ≡ p → slice_get t p ≡ Some at → at.slot ≡ In st → IsLeaseOf n t → ⊥
in_or_out t p at st n same there in_it own =
    let one : own.place ≡ at = unsome own.place at (sym own.at ∙ ap (slice_get t) same ∙ there) in
    let clash : Out ≡ In st = sym own.out ∙ ap (λ (x : Place DeviceState). x.slot) one ∙ in_it in
    absurd (cc)

pub hand_out : (i : ℕ) (make : ℕ → Make) (d : RequestContext) (table : ℕ → AbstractDevice) (s : AbstractSession) (w p : ℕ) (at : Place DeviceState) (st : DeviceState) (dev : AbstractDevice) → ContextRefines i make d table (record s { awaited = None }) → d.session.awaited ≡ None → free_word d.session.held ≡ Some w →
    slice_get d.registry p ≡ Some at → at.slot ≡ In st → dev ≡ abstract_device (Some i) (after_reset st) →
    ContextRefines i make (reply_of_take d w (Ok (lease_of p st))).1 (with_entry table p dev) (record { words = with_entry s.words w (Some p); transfer = s.transfer; framed = s.framed; awaited = None })
hand_out i make d table s w p at st dev old none free there in_it is =
    let vacant = free_is d.session.held w old.four free in
    let l = lease_of p st in
    let held = on_word (λ _. Some l) d.session.held w in
    let registry = with_slot d.registry p Out in
    let shown : SlotRefines i (make p) d.session.held p (table p) at.info.name (In st) = shown_by i (make p) d.session.held p (table p) (slice_get d.registry p) at (In st) there in_it (old.devices.places p) in
    let now_held : held_by held w ≡ Some l = on_vacant (λ _. Some l) d.session.held w (omega (arith, vacant.1, old.four)) vacant.0 in
    let now_there : with_entry table p dev p ≡ abstract_device (Some i) (after_reset st) = put_there table p dev ∙ is in
    let now_at : slice_get registry p ≡ Some (with_new at Out) = put_same d.registry p at Out there in
    let lease : IsLeaseOf l registry = record { place = with_new at Out; at = now_at; out = refl; name = ap (λ (x : DeviceInfo). x.name) (reset_same st).info ∙ shown.2 } in
    record {
      words = λ v. with_word d.session.held held s.words w p l old.words now_held refl (λ u n. on_other (λ _. Some l) d.session.held w u n) v (eqb v w) refl;
      four = on_length (λ _. Some l) d.session.held w ∙ old.four;
      transfer = old.transfer;
      awaited = nothing_awaited held registry (with_entry table p dev) d.session.awaited None none refl;
      frame = frame_beside d.session.transfer d.session.held held w vacant.0 (λ v n. on_other (λ _. Some l) d.session.held w v n) old.frame;
      devices = changed i make d.session.held d.registry table w p held registry (with_entry table p dev) old.devices (record {
        others = λ v n. on_other (λ _. Some l) d.session.held w v n;
        alone = λ v n away h same. in_or_out d.registry p at st n same there in_it (old.devices.leases v n h).own;
        was = λ n h. absurd (let clash : None ≡ Some n = sym vacant.0 ∙ h in cc);
        tables = λ k away. put_elsewhere table p dev k away;
        slots = λ k away. put_other d.registry p k Out away;
        now = λ n h. subst (λ (x : Lease DeviceState). (x.place ≡ p) × LeaseRefines i make registry (with_entry table p dev) x) (unsome l n (sym now_held ∙ h)) (refl, record { device = now_there; made = made_reset (make p) st shown.1; own = lease });
        here = shown_as i (make p) held p (with_entry table p dev p) (slice_get registry p) (with_new at Out) Out now_at refl (ap (λ (x : AbstractDevice). x.listed) now_there, inl (record { word = w; lease = l; stands = now_held; place = refl }));
      });
    }

-- nothing was handed out
pub no_more : (h : Bool) → cond h false h ≡ false
no_more true = refl
no_more false = refl

pub put_self : (table : ℕ → AbstractDevice) (p k : ℕ) (dev : AbstractDevice) (b : Bool) → eqb k p ≡ b → dev ≡ table p → cond b dev (table k) ≡ table k
put_self table p k dev true e is = is ∙ sym (ap table (eqb-true k p e))
put_self table p k dev false e is = refl

pub opened_unchanged : (i : ℕ) (make : ℕ → Make) (d : RequestContext) (table : ℕ → AbstractDevice) (s : AbstractSession) (w p : ℕ) (v : AnswerEffect) → ContextRefines i make d table (record s { awaited = None }) → d.session.awaited ≡ None → v.device ≡ table p → v.transfer ≡ s.transfer → v.awaited ≡ None →
    ContextRefines i make d (open_effect i table s w p (is_held_by i (table p).holder) v).table (open_effect i table s w p (is_held_by i (table p).holder) v).session
opened_unchanged i make d table s w p v old none device transfer sent =
    let no : cond (is_held_by i (table p).holder) false (is_held_by i v.device.holder) ≡ false = ap (λ (x : AbstractDevice). cond (is_held_by i (table p).holder) false (is_held_by i x.holder)) device ∙ no_more (is_held_by i (table p).holder) in
    record {
      words = λ u. ap (λ (b : Bool). words_after b s.words w p u) no ∙ old.words u;
      four = old.four;
      transfer = subst (λ (c : TransferState). TransferRefines d.session.transfer c s.framed) (sym transfer) old.transfer;
      awaited = nothing_awaited d.session.held d.registry (with_entry table p v.device) d.session.awaited (option_map (λ c. (c, p)) v.awaited) none (ap (option_map (λ c. (c, p))) sent);
      frame = old.frame;
      devices = same_tables i make d.session.held d.registry table (with_entry table p v.device) (λ k. put_self table p k v.device (eqb k p) refl device) old.devices;
    }
