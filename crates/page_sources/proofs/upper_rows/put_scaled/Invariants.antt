use Rattle.std.proofs.Common.{◌≡◌, ℕ, ◌<◌, ◌+◌, ◌*◌, ◌/◌, length}
use Rattle.std.specs.Prelude.{slice_index}
use Rattle.page_sources.proofs.upper_rows.put_scaled.Given as goal

abbrev pub invariant-loop-n : goal.invariant-loop-n
invariant-loop-n l = record {
  size : length l.part ≡ length l.fn.part;
  each : (j : ℕ) → j < 8 * l.n → slice_index l.part j ≡ (256 * slice_index l.bytes (2 * j) + slice_index l.bytes (2 * j + 1)) * 65535 / l.maxval / 256;
}

abbrev pub invariant-loop-j : goal.invariant-loop-j
invariant-loop-j l = record {
  size : length l.part ≡ length l.fn.part;
  each : (j : ℕ) → j < l.j → slice_index l.part j ≡ (256 * slice_index l.bytes (2 * j) + slice_index l.bytes (2 * j + 1)) * 65535 / l.maxval / 256;
}
