use Rattle.std.proofs.Common.{◌≡◌, ℕ, ◌<◌}
use Rattle.std.specs.Prelude.{slice_index}
use Rattle.scan_frames.specs.Inside.{bits_in}
use Rattle.scan_frames.proofs.line.put_run_bits.Given as goal

abbrev pub invariant-loop-b : goal.invariant-loop-b
invariant-loop-b l = (i : ℕ) → i < l.b → slice_index l.line i ≡ bits_in l.fn.scene l.fn.row l.fn.places l.channel i
