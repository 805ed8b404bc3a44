-- Tables of words and bytes.
use Rattle.std.proofs.Common.{◌≡◌, ◌<◌, ◌+◌, ◌∙◌, sym, ℕ, List, length, arith}
use Rattle.std.specs.Prelude.{slice_index}
use Rattle.std.specs.List.{range_with_len}
use Rattle.std.proofs.lemmas.List.{ext_get_or}
use Rattle.std.proofs.lemmas.List.FromFn.{get_or-range_with_len, length-range_with_len}
use Rattle.device_api.specs.Values.{identity}

pub is_identity : (table : List ℕ) → length table ≡ 256 → ((i : ℕ) → i < 256 → slice_index table i ≡ i) → table ≡ identity
unfolding identity
is_identity table size each =
    ext_get_or 0 table (range_with_len 0 256) (size ∙ sym (length-range_with_len 0 256))
    (λ i h. let within : i < 256 = omega arith in
    let same : 0 + i ≡ i = omega arith in
    each i within ∙ sym (get_or-range_with_len 0 256 i 0 within ∙ same))
