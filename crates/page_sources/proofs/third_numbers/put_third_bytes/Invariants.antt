use Rattle.std.proofs.Common.{◌≡◌, ℕ, ◌<◌, ◌+◌, ◌*◌, length}
use Rattle.std.specs.Prelude.{slice_index}
use Rattle.page_sources.proofs.third_numbers.put_third_bytes.Given as goal

abbrev pub invariant-loop-n : goal.invariant-loop-n
invariant-loop-n l = record {
  size : length l.part ≡ length l.fn.part;
  each : (i : ℕ) → i < 16 * l.n → slice_index l.part i ≡ slice_index l.bytes (l.at + 3 * i);
}

abbrev pub invariant-loop-i : goal.invariant-loop-i
invariant-loop-i l = record {
  size : length l.part ≡ length l.fn.part;
  each : (j : ℕ) → j < l.i → slice_index l.part j ≡ slice_index l.bytes (l.at + 3 * j);
}
