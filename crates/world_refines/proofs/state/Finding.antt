-- The place that is listed under a name, and a registry of which one device is taken out.
use Rattle.std.specs.Prelude.{cond, nat_eq}
use Rattle.std.specs.List.{position_from}
use Rattle.std.specs.Cmp.Lexicographic.{pointwise}
use Rattle.std.proofs.Common.{◌≡◌, ◌≢◌, ◌⊎◌, inl, inr, ◌∙◌, ℕ, zero, suc, ◌<◌, ◌+◌, List, [], ◌∷◌, Option, Some, None, Bool, true, false, eqb-true, refl, sym, ap, subst, map, length, slice_get, get_or, arith}
use Rattle.std.proofs.lemmas.Bool.{eq-eqb}
use Rattle.std.specs.Bool.{Decides}
use Rattle.std.proofs.lemmas.Slice.Eq.{slice_eq-Decides}
use Rattle.std.proofs.lemmas.List.Quantifiers.{position-Some}
use Rattle.std.proofs.lemmas.Iterator.Adapters.{position_from-zero}
use Rattle.device_api.specs.State.{DeviceState}
use Rattle.dispatch.specs.declared.table.place.Place.{Place}
use Rattle.dispatch.specs.declared.table.place.Slot.{Slot}
use Rattle.dispatch.specs.declared.table.place.Slot.TheVariants.{In, Out, Gone}
use Rattle.dispatch.specs.Table.{Table, find_name, is_named, with_slot}
use Rattle.system_model.specs.AbstractDevices.{AbstractDevice}
use Rattle.system_model.specs.SystemStates.{with_entry}
use Rattle.system_model.specs.Transitions.{without_listing}
use Rattle.daemon_refines.specs.ContextRefinement.{NamesPlace}
use Rattle.daemon_refines.proofs.WordsAndPlaces.{put_other, put_same}
use Rattle.daemon_refines.proofs.Moved.{put_elsewhere, put_there, unsome}
use Rattle.daemon_refines.proofs.OtherSessions.{IsThere}
use Rattle.world_refines.specs.GhostStates.{name_at}
use Rattle.world_refines.specs.WorldRefinement.{HaveDifferentNames, info_at}
use Rattle.world_refines.proofs.state.ListEntries.{is_same}

pub same_texts : (a b : List ℕ) → Decides (pointwise nat_eq a b) (a ≡ b)
same_texts a b = slice_eq-Decides (λ x y. (eqb-true x y, eq-eqb x y)) a b _ refl

-- ---- a place that is found

pub record FoundPlace (t : Table) (name : List ℕ) (k : ℕ) : Type 0 where
  pub place : Place DeviceState
  pub at : slice_get t k ≡ Some place
  pub name_is : place.info.name ≡ name
  pub is_there : IsThere place.slot

named_by : (name : List ℕ) (p : Place DeviceState) (slot : Slot DeviceState) → p.slot ≡ slot → is_named name p ≡ true → (p.info.name ≡ name) × IsThere slot
named_by name p (In s) e h = ((same_texts p.info.name name).0 (sym (ap (λ (x : Slot DeviceState). is_named name (record { info = p.info; slot = x })) e) ∙ h), tt)
named_by name p Out e h = ((same_texts p.info.name name).0 (sym (ap (λ (x : Slot DeviceState). is_named name (record { info = p.info; slot = x })) e) ∙ h), tt)
named_by name p Gone e h = absurd (let clash : false ≡ true = sym (ap (λ (x : Slot DeviceState). is_named name (record { info = p.info; slot = x })) e) ∙ h in cc)

is_named_by : (name : List ℕ) (p : Place DeviceState) (slot : Slot DeviceState) → p.slot ≡ slot → p.info.name ≡ name → IsThere slot → is_named name p ≡ true
is_named_by name p (In s) e same h = ap (λ (x : Slot DeviceState). is_named name (record { info = p.info; slot = x })) e ∙ (same_texts p.info.name name).1 same
is_named_by name p Out e same h = ap (λ (x : Slot DeviceState). is_named name (record { info = p.info; slot = x })) e ∙ (same_texts p.info.name name).1 same
is_named_by name p Gone e same h = absurd h

there_at : (t : Table) (k : ℕ) (d : Place DeviceState) → k < length t → slice_get t k ≡ Some (get_or t k d)
there_at [] k d low = absurd (omega (arith, low))
there_at (p ∷ t) zero d low = refl
there_at (p ∷ t) (suc k) d low = there_at t k d (omega (arith, low))

pub found_place : (t : Table) (name : List ℕ) (k : ℕ) → find_name name t ≡ Some k → FoundPlace t name k
found_place [] name k e = absurd (let clash : None ≡ Some k = e in cc)
found_place (q ∷ t) name k e =
    let f = position-Some (is_named name) (q ∷ t) k q e in
    let p = get_or (q ∷ t) k q in
    let n = named_by name p p.slot refl f.1 in
    record { place = p; at = there_at (q ∷ t) k q f.0; name_is = n.0; is_there = n.1 }

-- ---- and one that is there is found

none_by : (test : Place DeviceState → Bool) (n : ℕ) (x : Place DeviceState) (xs : Table) (b : Bool) → test x ≡ b → cond (test x) (Some n) (position_from test (n + 1) xs) ≡ None → (test x ≡ false) × (position_from test (n + 1) xs ≡ None)
none_by test n x xs true e h = absurd (let clash : Some n ≡ None = sym (ap (λ (b : Bool). cond b (Some n) (position_from test (n + 1) xs)) e) ∙ h in cc)
none_by test n x xs false e h = (e, sym (ap (λ (b : Bool). cond b (Some n) (position_from test (n + 1) xs)) e) ∙ h)

none_from : (test : Place DeviceState → Bool) (n : ℕ) (xs : Table) (k : ℕ) (x : Place DeviceState) → position_from test n xs ≡ None → slice_get xs k ≡ Some x → test x ≡ false
none_from test n [] k x h at = absurd (let clash : None ≡ Some x = at in cc)
none_from test n (y ∷ xs) zero x h at = subst (λ (z : Place DeviceState). test z ≡ false) (unsome y x at) (none_by test n y xs (test y) refl h).0
none_from test n (y ∷ xs) (suc k) x h at = none_from test (n + 1) xs k x (none_by test n y xs (test y) refl h).1 at

not_found : (t : Table) (name : List ℕ) (k : ℕ) (p : Place DeviceState) → find_name name t ≡ None → slice_get t k ≡ Some p → is_named name p ≡ false
not_found t name k p h at = none_from (is_named name) 0 t k p (sym (position_from-zero (is_named name) t) ∙ h) at

pub names_at : (t : Table) (k : ℕ) (p : Place DeviceState) → slice_get t k ≡ Some p → name_at (map info_at t) k ≡ Some p.info.name
names_at [] k p e = absurd (let clash : None ≡ Some p = e in cc)
names_at (q ∷ t) zero p e = ap (λ (x : Place DeviceState). Some x.info.name) (unsome q p e)
names_at (q ∷ t) (suc k) p e = names_at t k p e

find_by : (t : Table) (name : List ℕ) (k : ℕ) (p : Place DeviceState) (o : Option ℕ) → find_name name t ≡ o → HaveDifferentNames (map info_at t) → slice_get t k ≡ Some p → p.info.name ≡ name → IsThere p.slot → o ≡ Some k
find_by t name k p None e apart at same there =
    absurd (let clash : true ≡ false = sym (is_named_by name p p.slot refl same there) ∙ not_found t name k p e at in cc)
find_by t name k p (Some j) e apart at same there =
    let f = found_place t name j e in
    let is : j ≡ k = apart j k name (names_at t j f.place f.at ∙ ap (λ (x : List ℕ). Some x) f.name_is) (names_at t k p at ∙ ap (λ (x : List ℕ). Some x) same) in
    ap (λ (x : ℕ). Some x) is

pub find_there : (t : Table) (name : List ℕ) (k : ℕ) (p : Place DeviceState) → HaveDifferentNames (map info_at t) → slice_get t k ≡ Some p → p.info.name ≡ name → IsThere p.slot → find_name name t ≡ Some k
find_there t name k p apart at same there = find_by t name k p (find_name name t) refl apart at same there

-- ---- a device is taken out

-- who is named stays so
listed_out : (table : ℕ → AbstractDevice) (d k : ℕ) → (k ≡ d) ⊎ (k ≢ d) → (k ≢ d → (table k).listed ≡ false) → (with_entry table d (without_listing (table d)) k).listed ≡ false
listed_out table d k (inl e) h = subst (λ (x : ℕ). (with_entry table d (without_listing (table d)) x).listed ≡ false) (sym e) (ap (λ (x : AbstractDevice). x.listed) (put_there table d (without_listing (table d))))
listed_out table d k (inr n) h = ap (λ (x : AbstractDevice). x.listed) (put_elsewhere table d (without_listing (table d)) k n) ∙ h n

was_listed : (t : Table) (name : List ℕ) (d k : ℕ) (table : ℕ → AbstractDevice) (o : Option ℕ) → find_name name t ≡ o → find_name name (with_slot t d Gone) ≡ None → k ≢ d → NamesPlace o table k → (table k).listed ≡ false
was_listed t name d k table None e now n h = h
was_listed t name d k table (Some j) e now n h =
    let f = found_place t name j e in
    let away : j ≢ d = λ same. n (sym h ∙ same) in
    absurd (let clash : true ≡ false = sym (is_named_by name f.place f.place.slot refl f.name_is f.is_there) ∙ not_found (with_slot t d Gone) name j f.place now (put_other t d j Gone away ∙ f.at) in cc)

not_gone : (t : Table) (d j : ℕ) (p q : Place DeviceState) → slice_get t d ≡ Some p → slice_get (with_slot t d Gone) j ≡ Some q → IsThere q.slot → j ≢ d
not_gone t d j p q at now there = λ same.
    let gone : Some (record p { slot = Gone }) ≡ Some q = sym (put_same t d p Gone at) ∙ (ap (slice_get (with_slot t d Gone)) (sym same) ∙ now) in
    subst (λ (x : Place DeviceState). IsThere x.slot) (sym (unsome (record p { slot = Gone }) q gone)) there

pub names_out : (t : Table) (name : List ℕ) (d k : ℕ) (p : Place DeviceState) (table : ℕ → AbstractDevice) (o : Option ℕ) → find_name name (with_slot t d Gone) ≡ o → HaveDifferentNames (map info_at t) → slice_get t d ≡ Some p → NamesPlace (find_name name t) table k → NamesPlace o (with_entry table d (without_listing (table d))) k
names_out t name d k p table None e apart at h = listed_out table d k (is_same k d) (λ n. was_listed t name d k table (find_name name t) refl e n h)
names_out t name d k p table (Some j) e apart at h =
    let f = found_place (with_slot t d Gone) name j e in
    let away = not_gone t d j p f.place at f.at f.is_there in
    let found : find_name name t ≡ Some j = find_there t name j f.place apart (sym (put_other t d j Gone away) ∙ f.at) f.name_is f.is_there in
    subst (λ (x : Option ℕ). NamesPlace x table k) found h
