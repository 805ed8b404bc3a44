-- A load by the places, and by the devices as they are seen.
use Rattle.std.proofs.Common.{◌≡◌, ℕ, ◌<◌, List, [], ◌∷◌, length, Option, Some, None, refl, ap, ◌∙◌, sym, arith, zero, suc, slice_get, slice_set, slice_index_or, Err}
use Rattle.page_picture.specs.Source.{SourceState}
use Rattle.device_api.specs.State.{DeviceState}
use Rattle.sane_fixed.specs.declared.status.Status.TheVariants.{Inval}
use Rattle.dispatch.specs.declared.table.place.Slot.{Slot}
use Rattle.dispatch.specs.declared.table.place.Place.{Place}
use Rattle.dispatch.specs.Table.{Table, table, seen_slot, seen_place, find_name, load_answer, table_after_load, load_at, loaded_at, slot_load, load_of, loaded_slot, with_loaded}
use Rattle.dispatch.proofs.Tables.{find_name-table}

pub load_unknown : {D : Type 0} (f : D → DeviceState) (ps : List (Place D)) (name : List ℕ) → find_name name ps ≡ None → load_answer (table f ps) name ≡ Err Inval
unfolding load_answer
load_unknown f ps name h =
    let t : Table = table f ps in
    ap (load_at t) (find_name-table f name ps ∙ h)

pub after_load_unknown : {D : Type 0} (f : D → DeviceState) (ps : List (Place D)) (name : List ℕ) (source : SourceState) → find_name name ps ≡ None → table_after_load (table f ps) name source ≡ table f ps
unfolding table_after_load
after_load_unknown f ps name source h =
    let t : Table = table f ps in
    ap (λ (o : Option ℕ). loaded_at t o source) (find_name-table f name ps ∙ h)

slot_load-table : {D : Type 0} (f : D → DeviceState) (ps : List (Place D)) (k : ℕ) (p : Place D) → k < length ps → p ≡ slice_index_or ps k p → slot_load (slice_get (table f ps) k) ≡ load_of (seen_slot f p.slot)
unfolding table
slot_load-table f [] k p h e = absurd (omega arith)
slot_load-table f (q ∷ ps) zero p h e = ap (λ (x : Place _). load_of (seen_slot f x.slot)) (sym e)
slot_load-table f (q ∷ ps) (suc k) p h e = slot_load-table f ps k p (omega arith) e

with_loaded-table : {D : Type 0} (f : D → DeviceState) (ps : List (Place D)) (k : ℕ) (p : Place D) (s : Slot D) (source : SourceState) → p ≡ slice_index_or ps k p → seen_slot f s ≡ loaded_slot (seen_slot f p.slot) source → table f (slice_set ps k (record { info = p.info; slot = s })) ≡ with_loaded (table f ps) k source
unfolding table with_loaded
with_loaded-table f [] k p s source e h = refl
with_loaded-table f (q ∷ ps) zero p s source e h = ap (λ (x : Slot DeviceState). record { info = p.info; slot = x } ∷ table f ps) h ∙ ap (λ (x : Place _). record { info = x.info; slot = loaded_slot (seen_slot f x.slot) source } ∷ table f ps) e
with_loaded-table f (q ∷ ps) (suc k) p s source e h = ap (λ (x : Table). seen_place f q ∷ x) (with_loaded-table f ps k p s source e h)

pub load_answer_is : {D : Type 0} (f : D → DeviceState) (ps : List (Place D)) (name : List ℕ) (k : ℕ) (p : Place D) → find_name name ps ≡ Some k → k < length ps → p ≡ slice_index_or ps k p → load_answer (table f ps) name ≡ load_of (seen_slot f p.slot)
unfolding load_answer
load_answer_is f ps name k p h n e =
    let t : Table = table f ps in
    ap (load_at t) (find_name-table f name ps ∙ h) ∙ slot_load-table f ps k p n e

pub after_load_is : {D : Type 0} (f : D → DeviceState) (ps : List (Place D)) (name : List ℕ) (k : ℕ) (p : Place D) (s : Slot D) (source : SourceState) → find_name name ps ≡ Some k → p ≡ slice_index_or ps k p → seen_slot f s ≡ loaded_slot (seen_slot f p.slot) source → table f (slice_set ps k (record { info = p.info; slot = s })) ≡ table_after_load (table f ps) name source
unfolding table_after_load
after_load_is f ps name k p s source h e q =
    let t : Table = table f ps in
    with_loaded-table f ps k p s source e q ∙ sym (ap (λ (o : Option ℕ). loaded_at t o source) (find_name-table f name ps ∙ h))
