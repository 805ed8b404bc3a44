-- Device words, by the leases and by the devices as they are seen.
use Rattle.std.proofs.Common.{◌≡◌, ℕ, ◌<◌, ◌≤◌, List, [], ◌∷◌, length, Option, None, refl, ap, ◌∙◌, sym, arith, zero, suc, slice_set, slice_index_or}
use Rattle.std.specs.Option.{option_map}
use Rattle.device_api.specs.State.{DeviceState}
use Rattle.dispatch.specs.declared.table.place.Lease.{Lease}
use Rattle.dispatch.specs.Table.{seen_lease}
use Rattle.saned_requests.specs.Holding.{seen_held, held_by, on_word}

-- what a word stands for, as it is seen
pub held_by-seen : {D S : Type 0} (f : D → S) (held : List (Option (Lease D))) (word : ℕ) (h : Option (Lease D)) → word < length held → h ≡ slice_index_or held word h → held_by (seen_held f held) word ≡ option_map (seen_lease f) h
unfolding held_by
held_by-seen f [] word h n e = absurd (omega arith)
held_by-seen f (x ∷ held) zero h n e = ap (option_map (seen_lease f)) (sym e)
held_by-seen f (x ∷ held) (suc word) h n e = held_by-seen f held word h (omega arith) e

pub held_by-past : {D S : Type 0} (f : D → S) (held : List (Option (Lease D))) (word : ℕ) → length held ≤ word → held_by (seen_held f held) word ≡ None
unfolding held_by
held_by-past f [] word n = refl
held_by-past f (x ∷ held) zero n = absurd (omega arith)
held_by-past f (x ∷ held) (suc word) n = held_by-past f held word (omega arith)

-- a write of a word
pub on_word-seen : {D S : Type 0} (f : D → S) (g : Option (Lease S) → Option (Lease S)) (held : List (Option (Lease D))) (word : ℕ) (h new : Option (Lease D)) → word < length held → h ≡ slice_index_or held word h → option_map (seen_lease f) new ≡ g (option_map (seen_lease f) h)
    → seen_held f (slice_set held word new) ≡ on_word g (seen_held f held) word
unfolding on_word
on_word-seen f g [] word h new n e q = absurd (omega arith)
on_word-seen f g (x ∷ held) zero h new n e q = ap (λ (y : Option (Lease _)). y ∷ seen_held f held) (q ∙ ap (λ (y : Option (Lease _)). g (option_map (seen_lease f) y)) e)
on_word-seen f g (x ∷ held) (suc word) h new n e q = ap (λ (ys : List (Option (Lease _))). option_map (seen_lease f) x ∷ ys) (on_word-seen f g held word h new (omega arith) e q)

pub on_word-past : {D S : Type 0} (f : D → S) (g : Option (Lease S) → Option (Lease S)) (held : List (Option (Lease D))) (word : ℕ) → length held ≤ word → on_word g (seen_held f held) word ≡ seen_held f held
unfolding on_word
on_word-past f g [] word n = refl
on_word-past f g (x ∷ held) zero n = absurd (omega arith)
on_word-past f g (x ∷ held) (suc word) n = ap (λ (ys : List (Option (Lease _))). option_map (seen_lease f) x ∷ ys) (on_word-past f g held word (omega arith))

-- the same, by the leases alone
pub held_by-own : {D : Type 0} (held : List (Option (Lease D))) (word : ℕ) (h : Option (Lease D)) → word < length held → h ≡ slice_index_or held word h → held_by held word ≡ h
unfolding held_by
held_by-own [] word h n e = absurd (omega arith)
held_by-own (x ∷ held) zero h n e = sym e
held_by-own (x ∷ held) (suc word) h n e = held_by-own held word h (omega arith) e

pub held_by-own_past : {D : Type 0} (held : List (Option (Lease D))) (word : ℕ) → length held ≤ word → held_by held word ≡ None
unfolding held_by
held_by-own_past [] word n = refl
held_by-own_past (x ∷ held) zero n = absurd (omega arith)
held_by-own_past (x ∷ held) (suc word) n = held_by-own_past held word (omega arith)

-- nothing written where nothing stands
pub on_word-none : (held : List (Option (Lease DeviceState))) (word : ℕ) → held_by held word ≡ None → on_word (λ _. None) held word ≡ held
unfolding on_word held_by
on_word-none [] word e = refl
on_word-none (h ∷ held) zero e = ap (λ (x : Option (Lease DeviceState)). x ∷ held) (sym e)
on_word-none (h ∷ held) (suc word) e = ap (λ (x : List (Option (Lease DeviceState))). h ∷ x) (on_word-none held word e)

-- what stands there written again
pub on_word-same : (held : List (Option (Lease DeviceState))) (word : ℕ) (h : Option (Lease DeviceState)) → held_by held word ≡ h → on_word (λ _. h) held word ≡ held
unfolding on_word held_by
on_word-same [] word h e = refl
on_word-same (x ∷ held) zero h e = ap (λ (y : Option (Lease DeviceState)). y ∷ held) (sym e)
on_word-same (x ∷ held) (suc word) h e = ap (λ (y : List (Option (Lease DeviceState))). x ∷ y) (on_word-same held word h e)
