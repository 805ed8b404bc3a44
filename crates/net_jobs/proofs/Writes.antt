-- Bytes that are written piece by piece.
use Rattle.std.specs.Prelude.{Option}
use Rattle.std.proofs.Common.{◌≡◌, ◌∙◌, ℕ, ◌+◌, ◌<◌, ◌≤◌, List, length, take, drop, refl, sym, ap, subst, arith}
use Rattle.std.specs.Io.KnownBytes.{Appends}
use Rattle.std.proofs.KnownBytes.{Appends-trans, Appends-nil}
use Rattle.std.proofs.lemmas.List.{length-drop, take_all, drop-drop, take-take}
use Rattle.std.proofs.Math.Seq.{take-add}
use Rattle.net_client.specs.ClientStates.{ClientState}
use Rattle.net_jobs.specs.Inside.{WritesTo}

pub none_written : (first : List ℕ) (contents : Option (List ℕ)) → WritesTo first contents contents first
none_written first contents = record { at = 0; within = omega arith; left_is = refl; written = Appends-nil contents }

pub more_written : (first : List ℕ) (before old new : Option (List ℕ)) (left after bytes : List ℕ) (n : ℕ) → WritesTo first before old left → n ≤ length left → bytes ≡ take n left → after ≡ drop n left
    → Appends old new bytes → WritesTo first before new after
more_written first before old new left after bytes n w within bytes_is after_is wrote = record {
  at = w.at + n;
  within = omega (arith, ap length w.left_is, length-drop w.at first, within, w.within);
  left_is = after_is ∙ ap (drop n) w.left_is ∙ drop-drop n w.at first;
  written = subst (Appends before new) (sym (take-add w.at n first)) (Appends-trans before old new (take w.at first) (take n (drop w.at first)) w.written (subst (Appends old new) (bytes_is ∙ ap (take n) w.left_is) wrote));
}

pub all_written : (first : List ℕ) (before contents : Option (List ℕ)) (left : List ℕ) → WritesTo first before contents left → length left ≡ 0 → Appends before contents first
all_written first before contents left w none = subst (Appends before contents) (take_all w.at first (omega (arith, ap length w.left_is, length-drop w.at first, none))) w.written

pub stopped_short : (first : List ℕ) (before old new : Option (List ℕ)) (left bytes : List ℕ) (n k : ℕ) → WritesTo first before old left → n ≤ length left → bytes ≡ take n left → k < n → Appends old new (take k bytes)
    → (m : ℕ) × (m < length first) × Appends before new (take m first)
stopped_short first before old new left bytes n k w within bytes_is less wrote = (
  w.at + k,
  omega (arith, ap length w.left_is, length-drop w.at first, within, w.within, less),
  subst (Appends before new) (sym (take-add w.at k first)) (Appends-trans before old new (take w.at first) (take k (drop w.at first)) w.written (subst (Appends old new) (ap (take k) bytes_is ∙ take-take k n left (omega arith) ∙ ap (take k) w.left_is) wrote)),
)

pub only_out : (first now new : ClientState) (left : List ℕ) → now ≡ record first { out = now.out } → new ≡ record now { out = left } → new ≡ record first { out = new.out }
only_out first now new left a b =
    b ∙ ap (λ (v : ClientState). record v { out = left }) a ∙ ap (λ (l : List ℕ). record first { out = l }) (sym (ap (λ (v : ClientState). v.out) b))
