use Rattle.std.proofs.Common.{◌≡◌, ℕ, ◌<◌, ◌+◌, ◌*◌, ◌%◌, true, false}
use Rattle.std.specs.Prelude.{slice_index}
use Rattle.scan_frames.specs.Inside.{IsGrayRow}
use Rattle.scan_frames.proofs.gray_rows.are_gray.Given as goal

abbrev pub invariant-loop-i : goal.invariant-loop-i
invariant-loop-i l = record {
  gray : l.same ≡ true → (i : ℕ) → i < l.i → (i % 3 ≡ 2 → ⊥) → slice_index l.fn.row (3 * l.dot + i) ≡ slice_index l.fn.row (3 * l.dot + i + 1);
  other : l.same ≡ false → IsGrayRow l.fn.row → ⊥;
}
