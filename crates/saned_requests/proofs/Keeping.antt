-- How a request moves leases, and that none is lost.
use Rattle.std.proofs.Common.{◌≡◌, ◌≢◌, ◌⊎◌, ℕ, zero, suc, ◌<◌, List, [], ◌∷◌, length, true, Option, Some, None, Ok, refl, ap, subst, ◌∙◌, sym, arith, inl, inr, position, get_or}
use Rattle.std.proofs.lemmas.List.Quantifiers.{position-Some}
use Rattle.sane_fixed.specs.declared.device_info.DeviceInfo.{DeviceInfo}
use Rattle.device_api.specs.State.{DeviceState, after_cancel}
use Rattle.dispatch.specs.declared.table.place.Lease.{Lease}
use Rattle.dispatch.specs.declared.table.place.Slot.TheVariants.{In}
use Rattle.dispatch.specs.Table.{Table, IsLeaseOf, take_answer, after_take, after_give_back, with_slot}
use Rattle.dispatch.proofs.Names.{sound_take, sound_back, lease_in_again}
use Rattle.dispatch.proofs.Leases.{is_lease, other_place, lasts_take, lasts_back}
use Rattle.saned_requests.specs.Holding.{held_by, on_word, with_device, is_free}
use Rattle.saned_requests.specs.RequestAnswers.{RequestContext}
use Rattle.saned_requests.specs.LeaseLaws.{HoldsWell, IsElsewhere, KeepsLeases}

-- ---- words

pub same_word : (v w : ℕ) → (v ≡ w) ⊎ (v ≢ w)
same_word zero zero = inl refl
same_word zero (suc w) = inr (λ e. absurd (omega (arith, e)))
same_word (suc v) zero = inr (λ e. absurd (omega (arith, e)))
same_word (suc v) (suc w) = elim (same_word v w) [ inl e ↦ inl (ap suc e) | inr n ↦ inr (λ e. n (omega (arith, e))) ]

other_word : (f : Option (Lease DeviceState) → Option (Lease DeviceState)) (held : List (Option (Lease DeviceState))) (v w : ℕ) → v ≢ w → held_by (on_word f held w) v ≡ held_by held v
unfolding held_by on_word
other_word f [] v w n = refl
other_word f (h ∷ held) zero zero n = absurd (n refl)
other_word f (h ∷ held) zero (suc w) n = refl
other_word f (h ∷ held) (suc v) zero n = refl
other_word f (h ∷ held) (suc v) (suc w) n = other_word f held v w (λ e. n (ap suc e))

-- what stands at a word that was written
written : (x : Option (Lease DeviceState)) (held : List (Option (Lease DeviceState))) (w : ℕ) (m : Lease DeviceState) → held_by (on_word (λ _. x) held w) w ≡ Some m → x ≡ Some m
unfolding held_by on_word
written x [] w m e = absurd (cc)
written x (h ∷ held) zero m e = e
written x (h ∷ held) (suc w) m e = written x held w m e

-- a word that stood for something stands for what is written
there : (x : Option (Lease DeviceState)) (held : List (Option (Lease DeviceState))) (w : ℕ) (l : Lease DeviceState) → held_by held w ≡ Some l → held_by (on_word (λ _. x) held w) w ≡ x
unfolding held_by on_word
there x [] w l e = absurd (cc)
there x (h ∷ held) zero l e = refl
there x (h ∷ held) (suc w) l e = there x held w l e

pub same_length : (f : Option (Lease DeviceState) → Option (Lease DeviceState)) (held : List (Option (Lease DeviceState))) (w : ℕ) → length (on_word f held w) ≡ length held
unfolding on_word
same_length f [] w = refl
same_length f (h ∷ held) zero = refl
same_length f (h ∷ held) (suc w) = ap suc (same_length f held w)

-- a change of what stands there, as a write of it
pub at_word : (f : Option (Lease DeviceState) → Option (Lease DeviceState)) (held : List (Option (Lease DeviceState))) (w : ℕ) → on_word f held w ≡ on_word (λ _. f (held_by held w)) held w
unfolding held_by on_word
at_word f [] w = refl
at_word f (h ∷ held) zero = refl
at_word f (h ∷ held) (suc w) = ap (λ (x : List (Option (Lease DeviceState))). h ∷ x) (at_word f held w)

free_there : (held : List (Option (Lease DeviceState))) (w : ℕ) → w < length held → is_free (get_or held w None) ≡ true → held_by held w ≡ None
unfolding held_by
free_there [] w n e = absurd (omega arith)
free_there (None ∷ held) zero n e = refl
free_there (Some l ∷ held) zero n e = absurd (cc)
free_there (h ∷ held) (suc w) n e = free_there held w (omega arith) e

pub free_own : (held : List (Option (Lease DeviceState))) (w : ℕ) → position is_free held ≡ Some w → held_by held w ≡ None
free_own held w e = let p = position-Some is_free held w None e in free_there held w p.0 p.1

-- ---- moves of leases

-- how a request moves them: not at all; a device of a word changes; one goes back; one is taken for a free word
pub data Moves (held : List (Option (Lease DeviceState))) (t : Table) (after : List (Option (Lease DeviceState))) (u : Table) : Type 0 where
  Still : after ≡ held → u ≡ t → Moves held t after u
  Moved : (w : ℕ) (l : Lease DeviceState) (s : DeviceState) → held_by held w ≡ Some l → s.info ≡ l.device.info → after ≡ on_word (λ _. with_device l s) held w → u ≡ t → Moves held t after u
  Closed : (w : ℕ) (l : Lease DeviceState) → held_by held w ≡ Some l → after ≡ on_word (λ _. None) held w → u ≡ after_give_back t l → Moves held t after u
  Opened : (w : ℕ) (l : Lease DeviceState) (name : List ℕ) → held_by held w ≡ None → take_answer t name ≡ Ok l → after ≡ on_word (λ _. Some l) held w → u ≡ after_take t name → Moves held t after u

moved_lease : (t : Table) (l : Lease DeviceState) (s : DeviceState) → s.info ≡ l.device.info → IsLeaseOf l t → IsLeaseOf (record l { device = s }) t
moved_lease t l s e of = record { place = of.place; at = of.at; out = of.out; name = ap (λ (i : DeviceInfo). i.name) e ∙ of.name }

pub some_is : (l m : Lease DeviceState) → Some l ≡ Some m → l ≡ m
some_is l m e = cc

both : (l : Lease DeviceState) (o : Option (Lease DeviceState)) → o ≡ None → o ≡ Some l → ⊥
both l o e f = let x : None ≡ Some l = sym e ∙ f in absurd (cc)

-- a device of a word changes

moved_from : (held : List (Option (Lease DeviceState))) (w : ℕ) (l : Lease DeviceState) (s : DeviceState) (v : ℕ) (m : Lease DeviceState) → held_by held w ≡ Some l → held_by (on_word (λ _. with_device l s) held w) v ≡ Some m
    → (o : Lease DeviceState) × (held_by held v ≡ Some o) × (o.place ≡ m.place)
moved_from held w l s v m e f = elim (same_word v w) [
  | inl same ↦
      let now : Some (record l { device = s }) ≡ Some m = written (with_device l s) held w m (subst (λ (x : ℕ). held_by (on_word (λ _. with_device l s) held w) x ≡ Some m) same f) in
      (l, subst (λ (x : ℕ). held_by held x ≡ Some l) (sym same) e, ap (λ (x : Lease DeviceState). x.place) (some_is (record l { device = s }) m now))
  | inr n ↦ (m, sym (other_word (λ _. with_device l s) held v w n) ∙ f, refl)
]

moved_own : (held : List (Option (Lease DeviceState))) (t : Table) (w : ℕ) (l : Lease DeviceState) (s : DeviceState) → held_by held w ≡ Some l → s.info ≡ l.device.info → HoldsWell t held → HoldsWell t (on_word (λ _. with_device l s) held w)
moved_own held t w l s e i h = record {
  sound = h.sound;
  leases = λ v m f. elim (same_word v w) [
    | inl same ↦
        let now : Some (record l { device = s }) ≡ Some m = written (with_device l s) held w m (subst (λ (x : ℕ). held_by (on_word (λ _. with_device l s) held w) x ≡ Some m) same f) in
        subst (λ (x : Lease DeviceState). IsLeaseOf x t) (some_is (record l { device = s }) m now) (moved_lease t l s i (h.leases w l e))
    | inr n ↦ h.leases v m (sym (other_word (λ _. with_device l s) held v w n) ∙ f)
  ];
  apart = λ v x m n f g d.
      let a = moved_from held w l s v m e f in
      let b = moved_from held w l s x n e g in
      λ p. h.apart v x a.0 b.0 a.1 b.1 d (a.2 ∙ (p ∙ sym b.2));
}

-- one goes back

closed_from : (held : List (Option (Lease DeviceState))) (w v : ℕ) (m : Lease DeviceState) → held_by (on_word (λ _. None) held w) v ≡ Some m → (v ≢ w) × (held_by held v ≡ Some m)
closed_from held w v m f = elim (same_word v w) [
  | inl same ↦ absurd (let now : None ≡ Some m = written None held w m (subst (λ (x : ℕ). held_by (on_word (λ _. None) held w) x ≡ Some m) same f) in cc)
  | inr n ↦ (n, sym (other_word (λ _. None) held v w n) ∙ f)
]

closed_own : (held : List (Option (Lease DeviceState))) (t : Table) (w : ℕ) (l : Lease DeviceState) → held_by held w ≡ Some l → HoldsWell t held → HoldsWell (after_give_back t l) (on_word (λ _. None) held w)
closed_own held t w l e h = record {
  sound = sound_back t l h.sound;
  leases = λ v m f. let a = closed_from held w v m f in lasts_back t m l (h.leases v m a.1) (h.apart v w m l a.1 e a.0);
  apart = λ v x m n f g d. let a = closed_from held w v m f in let b = closed_from held w x n g in h.apart v x m n a.1 b.1 d;
}

-- one is taken

opened_own : (held : List (Option (Lease DeviceState))) (t : Table) (w : ℕ) (l : Lease DeviceState) (name : List ℕ) → take_answer t name ≡ Ok l → HoldsWell t held → HoldsWell (after_take t name) (on_word (λ _. Some l) held w)
opened_own held t w l name a h = record {
  sound = sound_take t name h.sound;
  leases = λ v m f. elim (same_word v w) [
    | inl same ↦ subst (λ (x : Lease DeviceState). IsLeaseOf x (after_take t name)) (some_is l m (at v m same f)) (is_lease t name l h.sound a)
    | inr n ↦ lasts_take t name m (h.leases v m (old v m n f))
  ];
  apart = λ v x m n f g d. elim (same_word v w) [
    | inl same ↦ elim (same_word x w) [
      | inl too ↦ absurd (d (same ∙ sym too))
      | inr other ↦ λ p. other_place t name n l (h.leases x n (old x n other g)) a (sym p ∙ sym (ap (λ (y : Lease DeviceState). y.place) (some_is l m (at v m same f))))
    ]
    | inr other ↦ elim (same_word x w) [
      | inl too ↦ λ p. other_place t name m l (h.leases v m (old v m other f)) a (p ∙ sym (ap (λ (y : Lease DeviceState). y.place) (some_is l n (at x n too g))))
      | inr either ↦ h.apart v x m n (old v m other f) (old x n either g) d
    ]
  ];
}
  where
    at : (v : ℕ) (m : Lease DeviceState) → v ≡ w → held_by (on_word (λ _. Some l) held w) v ≡ Some m → Some l ≡ Some m
    at v m same f = written (Some l) held w m (subst (λ (x : ℕ). held_by (on_word (λ _. Some l) held w) x ≡ Some m) same f)

    old : (v : ℕ) (m : Lease DeviceState) → v ≢ w → held_by (on_word (λ _. Some l) held w) v ≡ Some m → held_by held v ≡ Some m
    old v m n f = sym (other_word (λ _. Some l) held v w n) ∙ f

-- ---- what moves keep

keeps_words : (held : List (Option (Lease DeviceState))) (t : Table) (after : List (Option (Lease DeviceState))) (u : Table) → Moves held t after u → length after ≡ length held
keeps_words held t after u (Still e f) = ap length e
keeps_words held t after u (Moved w l s e i a f) = ap length a ∙ same_length (λ _. with_device l s) held w
keeps_words held t after u (Closed w l e a f) = ap length a ∙ same_length (λ _. None) held w
keeps_words held t after u (Opened w l name e r a f) = ap length a ∙ same_length (λ _. Some l) held w

keeps_own : (held : List (Option (Lease DeviceState))) (t : Table) (after : List (Option (Lease DeviceState))) (u : Table) → Moves held t after u → HoldsWell t held → HoldsWell u after
keeps_own held t after u (Still e f) h = rw (e, f) h
keeps_own held t after u (Moved w l s e i a f) h = rw (a, f) (moved_own held t w l s e i h)
keeps_own held t after u (Closed w l e a f) h = rw (a, f) (closed_own held t w l e h)
keeps_own held t after u (Opened w l name e r a f) h = rw (a, f) (opened_own held t w l name r h)

keeps_others : (held : List (Option (Lease DeviceState))) (t : Table) (after : List (Option (Lease DeviceState))) (u : Table) (m : Lease DeviceState) → Moves held t after u → HoldsWell t held → IsElsewhere m t held → IsElsewhere m u after
keeps_others held t after u m (Still e f) h o = rw (e, f) o
keeps_others held t after u m (Moved w l s e i a f) h o = rw (a, f) (record {
  lease = o.lease;
  apart = λ v n g p. let b = moved_from held w l s v n e g in o.apart v b.0 b.1 (b.2 ∙ p);
})
keeps_others held t after u m (Closed w l e a f) h o = rw (a, f) (record {
  lease = lasts_back t m l o.lease (λ p. o.apart w l e (sym p));
  apart = λ v n g. let b = closed_from held w v n g in o.apart v n b.1;
})
keeps_others held t after u m (Opened w l name e r a f) h o = rw (a, f) (record {
  lease = lasts_take t name m o.lease;
  apart = λ v n g. elim (same_word v w) [
    | inl same ↦ λ p.
        let now : Some l ≡ Some n = written (Some l) held w n (subst (λ (x : ℕ). held_by (on_word (λ _. Some l) held w) x ≡ Some n) same g) in
        other_place t name m l o.lease r (sym p ∙ sym (ap (λ (y : Lease DeviceState). y.place) (some_is l n now)))
    | inr other ↦ o.apart v n (sym (other_word (λ _. Some l) held v w other) ∙ g)
  ];
})

-- a lease stays with its word, or its device is in its place again
none_lost : (held : List (Option (Lease DeviceState))) (t : Table) (after : List (Option (Lease DeviceState))) (u : Table) (v : ℕ) (k : Lease DeviceState) → Moves held t after u → HoldsWell t held → held_by held v ≡ Some k
    → ((m : Lease DeviceState) × (held_by after v ≡ Some m) × (m.place ≡ k.place)) ⊎ (u ≡ with_slot t k.place (In (after_cancel k.device)))
none_lost held t after u v k (Still e f) h g = inl (k, ap (λ (x : List (Option (Lease DeviceState))). held_by x v) e ∙ g, refl)
none_lost held t after u v k (Moved w l s e i a f) h g = elim (same_word v w) [
  | inl same ↦
      let own : Some l ≡ Some k = sym e ∙ subst (λ (x : ℕ). held_by held x ≡ Some k) same g in
      inl (record l { device = s }, ap (λ (x : List (Option (Lease DeviceState))). held_by x v) a ∙ subst (λ (x : ℕ). held_by (on_word (λ _. with_device l s) held w) x ≡ with_device l s) (sym same) (there (with_device l s) held w l e), ap (λ (x : Lease DeviceState). x.place) (some_is l k own))
  | inr n ↦ inl (k, ap (λ (x : List (Option (Lease DeviceState))). held_by x v) a ∙ (other_word (λ _. with_device l s) held v w n ∙ g), refl)
]
none_lost held t after u v k (Closed w l e a f) h g = elim (same_word v w) [
  | inl same ↦
      let own : l ≡ k = some_is l k (sym e ∙ subst (λ (x : ℕ). held_by held x ≡ Some k) same g) in
      inr (f ∙ (lease_in_again t l (h.leases w l e) ∙ ap (λ (x : Lease DeviceState). with_slot t x.place (In (after_cancel x.device))) own))
  | inr n ↦ inl (k, ap (λ (x : List (Option (Lease DeviceState))). held_by x v) a ∙ (other_word (λ _. None) held v w n ∙ g), refl)
]
none_lost held t after u v k (Opened w l name e r a f) h g = elim (same_word v w) [
  | inl same ↦ absurd (both k (held_by held w) e (subst (λ (x : ℕ). held_by held x ≡ Some k) same g))
  | inr n ↦ inl (k, ap (λ (x : List (Option (Lease DeviceState))). held_by x v) a ∙ (other_word (λ _. Some l) held v w n ∙ g), refl)
]

pub keeps_leases : (d new : RequestContext) → Moves d.session.held d.registry new.session.held new.registry → KeepsLeases d new
keeps_leases d new m = record {
  words = keeps_words d.session.held d.registry new.session.held new.registry m;
  own = keeps_own d.session.held d.registry new.session.held new.registry m;
  others = λ l h o. keeps_others d.session.held d.registry new.session.held new.registry l m h o;
  none_lost = λ w l h e. none_lost d.session.held d.registry new.session.held new.registry w l m h e;
}
