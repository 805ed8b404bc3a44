use Rattle.std.proofs.Common.{◌≡◌, ℕ, ◌<◌, ◌*◌, ◌/◌, length}
use Rattle.std.specs.Prelude.{slice_index}
use Rattle.page_sources.proofs.upper_rows.put_bytes.Given as goal

abbrev pub invariant-loop-j : goal.invariant-loop-j
invariant-loop-j l = record {
  size : length l.part ≡ length l.fn.part;
  each : (j : ℕ) → j < l.j → slice_index l.part j ≡ slice_index l.bytes j * 65535 / l.maxval / 256;
}
