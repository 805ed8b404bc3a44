use Rattle.std.proofs.Common.{◌≡◌, ◌<◌, ℕ, true, false}
use Rattle.std.specs.Prelude.{slice_index}
use Rattle.scan_frames.proofs.line.is_same.Given as goal

abbrev pub invariant-loop-v : goal.invariant-loop-v
invariant-loop-v l = record {
  same : l.same ≡ true → (v : ℕ) → v < l.v → slice_index l.fn.table v ≡ v;
  other : l.same ≡ false → ((v : ℕ) → v < 256 → slice_index l.fn.table v ≡ v) → ⊥;
}
