use Rattle.std.proofs.Common.{◌≡◌, ℕ, ◌<◌, ◌≤◌, List, [], ◌∷◌, ◌++◌, map, take, drop, length, Option, Some, None, Bool, true, false, cond, ◌&&◌, refl, ap, ◌∙◌, sym, arith, not, zero, suc, slice_get, slice_set, slice_index_or, Ok, Err}
use Rattle.std.specs.List.{prefix_len}
use Rattle.std.specs.Option.{option_map, OnSome}
use Rattle.std.specs.Prelude.{nat_eq}
use Rattle.std.specs.Cmp.Lexicographic.{pointwise}
use Rattle.std.proofs.lemmas.List.{length-map}
use Rattle.std.proofs.lemmas.Option.{slice_get-map, slice_get_within}
use Rattle.std.proofs.Math.Seq.{take-append_seam}
use Rattle.device_api.specs.State.{DeviceState, after_reset, after_cancel}
use Rattle.sane_fixed.specs.declared.status.Status.TheVariants.{DeviceBusy, Inval}
use Rattle.dispatch.specs.declared.table.place.Slot.{Slot}
use Rattle.dispatch.specs.declared.table.place.Slot.TheVariants.{In, Out, Gone}
use Rattle.dispatch.specs.declared.table.place.Place.{Place}
use Rattle.dispatch.specs.Table.{seen_slot, seen_place, table, is_named, is_out, awaits, awaits_in, find_name, device_in, held_at, with_slot, take_answer, after_take, unplug_answer, after_unplug, after_give_back, filled_places, vacant_table, fresh_table, fresh_place, Table, take_at, take_of, after_take_answer, unplug_at, unplug_of, unplugged_at, unplugged_of}
use Rattle.sane_fixed.specs.declared.device_info.DeviceInfo.{DeviceInfo}

prefix_len-map : {X Y : Type 0} (f : X → Y) (p : Y → Bool) (q : X → Bool) → ((x : X) → p (f x) ≡ q x) → (xs : List X) → prefix_len p (map f xs) ≡ prefix_len q xs
prefix_len-map f p q h [] = refl
prefix_len-map f p q h (x ∷ xs) = rw (h x, prefix_len-map f p q h xs)

named-seen : {D S : Type 0} (f : D → S) (name : List ℕ) (own : DeviceInfo) (s : Slot D) → is_named name (seen_place f (record { info = own; slot = s })) ≡ is_named name (record { info = own; slot = s })
named-seen f name own (In d) = refl
named-seen f name own Out = refl
named-seen f name own Gone = refl

-- a name is found at the same place, however the devices are seen
pub find_name-table : {D S : Type 0} (f : D → S) (name : List ℕ) (ps : List (Place D)) → find_name name (table f ps) ≡ find_name name ps
unfolding table
find_name-table f name ps =
    let e = prefix_len-map (seen_place f) (λ (x : Place _). not (is_named name x)) (λ (x : Place _). not (is_named name x)) (λ x. ap not (named-seen f name x.info x.slot)) ps in
    rw (e, length-map ps (seen_place f))

pub held-seen : {D S : Type 0} (f : D → S) (s : Slot D) → device_in (seen_slot f s) ≡ option_map f (device_in s)
held-seen f (In d) = refl
held-seen f Out = refl
held-seen f Gone = refl

pub held_at-table : {D S : Type 0} (f : D → S) (ps : List (Place D)) (k : ℕ) → held_at (table f ps) k ≡ option_map f (held_at ps k)
unfolding held_at table
held_at-table f [] k = refl
held_at-table f (p ∷ ps) zero = held-seen f p.slot
held_at-table f (p ∷ ps) (suc k) = held_at-table f ps k

pub with_slot-table : {D S : Type 0} (f : D → S) (ps : List (Place D)) (k : ℕ) (s : Slot D) → with_slot (table f ps) k (seen_slot f s) ≡ table f (with_slot ps k s)
unfolding with_slot table
with_slot-table f [] k s = refl
with_slot-table f (p ∷ ps) zero s = refl
with_slot-table f (p ∷ ps) (suc k) s = ap (λ qs. seen_place f p ∷ qs) (with_slot-table f ps k s)

-- a write of a place is the write of its slot, where the name stays
pub slice_set-with_slot : {D : Type 0} (ps : List (Place D)) (k : ℕ) (p : Place D) (s : Slot D) → slice_get ps k ≡ Some p → slice_set ps k (record { info = p.info; slot = s }) ≡ with_slot ps k s
unfolding with_slot
slice_set-with_slot [] k p s h = refl
slice_set-with_slot (q ∷ ps) zero p s h = let e : q ≡ p = cc in ap (λ (x : Place _). record x { slot = s } ∷ ps) (sym e)
slice_set-with_slot (q ∷ ps) (suc k) p s h = ap (λ xs. q ∷ xs) (slice_set-with_slot ps k p s h)

-- what a take does where no place has the name
pub take_unknown : {D : Type 0} (f : D → DeviceState) (ps : List (Place D)) (name : List ℕ) → find_name name ps ≡ None → (take_answer (table f ps) name ≡ Err Inval) × (after_take (table f ps) name ≡ table f ps)
unfolding take_answer after_take
take_unknown f ps name h =
    let t : Table = table f ps in
    let a : take_at t (find_name name t) ≡ Err Inval = ap (take_at t) (find_name-table f name ps ∙ h) in
    (a, ap (after_take_answer t) a)

-- where the device is out
pub take_busy : {D : Type 0} (f : D → DeviceState) (ps : List (Place D)) (name : List ℕ) (k : ℕ) → find_name name ps ≡ Some k → held_at ps k ≡ None → (take_answer (table f ps) name ≡ Err DeviceBusy) × (after_take (table f ps) name ≡ table f ps)
unfolding take_answer after_take
take_busy f ps name k h o =
    let t : Table = table f ps in
    let a : take_at t (find_name name t) ≡ Err DeviceBusy = ap (take_at t) (find_name-table f name ps ∙ h) ∙ ap (take_of k) (held_at-table f ps k ∙ ap (option_map f) o) in
    (a, ap (after_take_answer t) a)

-- where it is in
pub take_gives : {D : Type 0} (f : D → DeviceState) (ps : List (Place D)) (name : List ℕ) (k : ℕ) (d : D) → find_name name ps ≡ Some k → held_at ps k ≡ Some d → (take_answer (table f ps) name ≡ Ok (record { device = after_reset (f d); place = k })) × (after_take (table f ps) name ≡ table f (with_slot ps k Out))
unfolding take_answer after_take
take_gives f ps name k d h o =
    let t : Table = table f ps in
    let a : take_at t (find_name name t) ≡ Ok (record { device = after_reset (f d); place = k }) = ap (take_at t) (find_name-table f name ps ∙ h) ∙ ap (take_of k) (held_at-table f ps k ∙ ap (option_map f) o) in
    (a, ap (after_take_answer t) a ∙ with_slot-table f ps k Out)

-- the same of an unplug
pub unplug_unknown : {D : Type 0} (f : D → DeviceState) (ps : List (Place D)) (name : List ℕ) → find_name name ps ≡ None → (unplug_answer (table f ps) name ≡ Err Inval) × (after_unplug (table f ps) name ≡ table f ps)
unfolding unplug_answer after_unplug
unplug_unknown f ps name h =
    let t : Table = table f ps in
    let e = find_name-table f name ps ∙ h in
    (ap (unplug_at t) e, ap (unplugged_at t) e)

pub unplug_busy : {D : Type 0} (f : D → DeviceState) (ps : List (Place D)) (name : List ℕ) (k : ℕ) → find_name name ps ≡ Some k → held_at ps k ≡ None → (unplug_answer (table f ps) name ≡ Err DeviceBusy) × (after_unplug (table f ps) name ≡ table f ps)
unfolding unplug_answer after_unplug
unplug_busy f ps name k h o =
    let t : Table = table f ps in
    let e = find_name-table f name ps ∙ h in
    let a = held_at-table f ps k ∙ ap (option_map f) o in
    (ap (unplug_at t) e ∙ ap unplug_of a, ap (unplugged_at t) e ∙ ap (unplugged_of t k) a)

pub unplug_gives : {D : Type 0} (f : D → DeviceState) (ps : List (Place D)) (name : List ℕ) (k : ℕ) (d : D) → find_name name ps ≡ Some k → held_at ps k ≡ Some d → (unplug_answer (table f ps) name ≡ Ok (f d)) × (after_unplug (table f ps) name ≡ table f (with_slot ps k Gone))
unfolding unplug_answer after_unplug
unplug_gives f ps name k d h o =
    let t : Table = table f ps in
    let e = find_name-table f name ps ∙ h in
    let a = held_at-table f ps k ∙ ap (option_map f) o in
    (ap (unplug_at t) e ∙ ap unplug_of a, ap (unplugged_at t) e ∙ ap (unplugged_of t k) a ∙ with_slot-table f ps k Gone)

out-seen : {D S : Type 0} (f : D → S) (s : Slot D) → is_out (seen_slot f s) ≡ is_out s
out-seen f (In d) = refl
out-seen f Out = refl
out-seen f Gone = refl

awaits-seen : {D S : Type 0} (f : D → S) (name : List ℕ) (o : Option (Place D)) → awaits_in name (option_map (seen_place f) o) ≡ awaits_in name o
awaits-seen f name None = refl
awaits-seen f name (Some p) = ap (λ b. b && pointwise nat_eq p.info.name name) (out-seen f p.slot)

pub awaits-table : {D S : Type 0} (f : D → S) (name : List ℕ) (k : ℕ) (ps : List (Place D)) → awaits name k (table f ps) ≡ awaits name k ps
unfolding awaits table
awaits-table f name k ps = ap (awaits_in name) (slice_get-map (seen_place f) ps k) ∙ awaits-seen f name (slice_get ps k)

-- there is such a place
pub awaits_within : {D : Type 0} (name : List ℕ) (k : ℕ) (ps : List (Place D)) → awaits name k ps ≡ true → k < length ps
unfolding awaits
awaits_within name k ps e = pick (slice_get ps k) refl e
  where
    pick : (o : Option (Place _)) → slice_get ps k ≡ o → awaits_in name o ≡ true → k < length ps
    pick (Some p) at h = slice_get_within ps k p at
    pick None at h = absurd (cc)

pub give_back_is : {D : Type 0} (f : D → DeviceState) (ps : List (Place D)) (k : ℕ) (d : D) (s : DeviceState) → f d ≡ after_cancel s → awaits s.info.name k ps ≡ true → table f (with_slot ps k (In d)) ≡ after_give_back (table f ps) (record { device = s; place = k })
unfolding after_give_back
give_back_is f ps k d s h e =
    let seen : awaits s.info.name k (table f ps) ≡ true = awaits-table f s.info.name k ps ∙ e in
    sym (with_slot-table f ps k (In d)) ∙ ap (λ (x : DeviceState). with_slot (table f ps) k (In x)) h
    ∙ sym (ap (λ b. cond b (with_slot (table f ps) k (In (after_cancel s))) (table f ps)) seen)

pub no_lease_is : {D : Type 0} (f : D → DeviceState) (ps : List (Place D)) (k : ℕ) (s : DeviceState) → awaits s.info.name k ps ≡ false → table f ps ≡ after_give_back (table f ps) (record { device = s; place = k })
unfolding after_give_back
no_lease_is f ps k s e =
    let seen : awaits s.info.name k (table f ps) ≡ false = awaits-table f s.info.name k ps ∙ e in
    sym (ap (λ b. cond b (with_slot (table f ps) k (In (after_cancel s))) (table f ps)) seen)

-- what a write of a slot does to a list
pub slice_set_slot : {D : Type 0} (ps : List (Place D)) (k : ℕ) (d : Place D) (s : Slot D) → slice_set ps k (record { info = (slice_index_or ps k d).info; slot = s }) ≡ with_slot ps k s
unfolding with_slot
slice_set_slot [] k d s = refl
slice_set_slot (p ∷ ps) zero d s = refl
slice_set_slot (p ∷ ps) (suc k) d s = ap (λ xs. p ∷ xs) (slice_set_slot ps k d s)

-- what a read of a slot finds
pub held_slot : {D : Type 0} (ps : List (Place D)) (k : ℕ) (d : Place D) → k < length ps → device_in (slice_index_or ps k d).slot ≡ held_at ps k
unfolding held_at
held_slot [] k d h = absurd (omega arith)
held_slot (p ∷ ps) zero d h = refl
held_slot (p ∷ ps) (suc k) d h = held_slot ps k d (omega arith)

-- a write of what is there
pub with_slot_same : {D : Type 0} (ps : List (Place D)) (k : ℕ) (d : Place D) → with_slot ps k (slice_index_or ps k d).slot ≡ ps
unfolding with_slot
with_slot_same [] k d = refl
with_slot_same (p ∷ ps) zero d = refl
with_slot_same (p ∷ ps) (suc k) d = ap (λ xs. p ∷ xs) (with_slot_same ps k d)

pub on_some_weaker : {T P Q : Type 0} (o : Option T) → (P → Q) → OnSome o P → OnSome o Q
on_some_weaker (Some x) f h = f h
on_some_weaker None f h = h

pub write_slot : {D : Type 0} (ps : List (Place D)) (k : ℕ) (p : Place D) (s : Slot D) → p ≡ slice_index_or ps k p → slice_set ps k (record { info = p.info; slot = s }) ≡ with_slot ps k s
write_slot ps k p s e = ap (λ (q : Place _). slice_set ps k (record { info = q.info; slot = s })) e ∙ slice_set_slot ps k p s

pub read_slot : {D : Type 0} (ps : List (Place D)) (k : ℕ) (p : Place D) → k < length ps → p ≡ slice_index_or ps k p → device_in p.slot ≡ held_at ps k
read_slot ps k p h e = ap (λ (q : Place _). device_in q.slot) e ∙ held_slot ps k p h

pub with_slot-twice : {D : Type 0} (ps : List (Place D)) (k : ℕ) (s t : Slot D) → with_slot (with_slot ps k s) k t ≡ with_slot ps k t
unfolding with_slot
with_slot-twice [] k s t = refl
with_slot-twice (p ∷ ps) zero s t = refl
with_slot-twice (p ∷ ps) (suc k) s t = ap (λ xs. p ∷ xs) (with_slot-twice ps k s t)

pub filled-none : {D : Type 0} (ps : List (Place D)) → filled_places ps [] ≡ ps
filled-none [] = refl
filled-none (p ∷ ps) = refl

pub filled-push : {D : Type 0} (ps : List (Place D)) (ds : List D) (d : D) → length ds < length ps → filled_places (with_slot ps (length ds) (In d)) ds ≡ filled_places ps (ds ++ d ∷ [])
unfolding with_slot
filled-push [] ds d h = absurd (omega arith)
filled-push (p ∷ ps) [] d h = ap (λ xs. record { info = p.info; slot = In d } ∷ xs) (sym (filled-none ps))
filled-push (p ∷ ps) (e ∷ ds) d h = ap (λ xs. record { info = p.info; slot = In e } ∷ xs) (filled-push ps ds d (omega arith))

pub length-vacant : (D : Type 0) (ss : List DeviceState) → length (vacant_table {D = D} ss) ≡ length ss
length-vacant D [] = refl
length-vacant D (s ∷ ss) = ap (λ (n : ℕ). suc n) (length-vacant D ss)

pub length-filled : {D : Type 0} (ps : List (Place D)) (ds : List D) → length (filled_places ps ds) ≡ length ps
length-filled [] ds = refl
length-filled (p ∷ ps) [] = refl
length-filled (p ∷ ps) (d ∷ ds) = ap (λ (n : ℕ). suc n) (length-filled ps ds)

pub fresh_is : {D : Type 0} (f : D → DeviceState) (ss : List DeviceState) (ds : List D) → map f ds ≡ map after_reset ss → table f (filled_places (vacant_table ss) ds) ≡ fresh_table ss
unfolding table
fresh_is f [] ds h = refl
fresh_is f (s ∷ ss) [] h = absurd (cc)
fresh_is f (s ∷ ss) (d ∷ ds) h =
    let both : f d ∷ map f ds ≡ after_reset s ∷ map after_reset ss = h in
    let first : f d ≡ after_reset s = cc in
    let others : map f ds ≡ map after_reset ss = cc in
    ap (λ (x : DeviceState). record { info = s.info; slot = In x } ∷ table f (filled_places (vacant_table ss) ds)) first ∙ ap (λ (xs : List (Place DeviceState)). fresh_place s ∷ xs) (fresh_is f ss ds others)

-- a slice that was lent from a vector, put back
pub put_back : {X : Type 0} (n : ℕ) (xs new : List X) → n ≡ length xs → length new ≡ length xs → take n (new ++ drop (length new) xs) ≡ new
put_back n xs new e h = rw (e, ← h) (take-append_seam new _)

pub with_slot_past : {D : Type 0} (ps : List (Place D)) (k : ℕ) (s : Slot D) → length ps ≤ k → with_slot ps k s ≡ ps
unfolding with_slot
with_slot_past [] k s h = refl
with_slot_past (p ∷ ps) zero s h = absurd (omega arith)
with_slot_past (p ∷ ps) (suc k) s h = ap (λ xs. p ∷ xs) (with_slot_past ps k s (omega arith))
