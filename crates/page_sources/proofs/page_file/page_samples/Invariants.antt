use Rattle.std.proofs.Common.{◌≡◌, ℕ, ◌<◌, length, slice_index}
use Rattle.page_sources.specs.Inside.{page_number}
use Rattle.page_sources.proofs.page_file.page_samples.Given as goal

abbrev pub invariant-loop-j : goal.invariant-loop-j
invariant-loop-j l = record {
  size : length l.samples.items ≡ l.j;
  each : (j : ℕ) → j < l.j → slice_index l.samples.items j ≡ page_number l.header l.raster j;
}
