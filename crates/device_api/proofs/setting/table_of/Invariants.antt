use Rattle.std.proofs.Common.{◌≡◌, ◌<◌, ℕ, pos, get_or, length}
use Rattle.std.specs.Prelude.{slice_index, unsigned_abs}
use Rattle.device_api.proofs.setting.table_of.Given as goal

abbrev pub invariant-loop-i : goal.invariant-loop-i
invariant-loop-i l = record {
  size : length l.table ≡ 256;
  each : (j : ℕ) → j < l.i → slice_index l.table j ≡ unsigned_abs (get_or l.words j (pos 0));
}
