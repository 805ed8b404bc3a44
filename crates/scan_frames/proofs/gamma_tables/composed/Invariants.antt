use Rattle.std.proofs.Common.{◌≡◌, ◌<◌, ℕ, length, slice_index}
use Rattle.scan_frames.proofs.gamma_tables.composed.Given as goal

abbrev pub invariant-loop-v : goal.invariant-loop-v
invariant-loop-v l = record {
  size : length l.table ≡ 256;
  here : (i : ℕ) → i < l.v → slice_index l.table i ≡ slice_index l.fn.channel (slice_index l.fn.gamma i);
}
