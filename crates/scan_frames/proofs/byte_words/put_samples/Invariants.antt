use Rattle.std.proofs.Common.{◌≡◌, ℕ, ◌<◌, ◌≤◌, ◌*◌}
use Rattle.std.specs.Prelude.{slice_index}
use Rattle.sane_fixed.specs.declared.byte_order.ByteOrder.TheVariants.{Little, Big}
use Rattle.scan_frames.specs.declared.setup.Packing.TheVariants.{Words}
use Rattle.scan_frames.specs.Inside.{HasSample}
use Rattle.scan_frames.proofs.byte_words.put_samples.Given as goal

abbrev pub invariant-loop-i : goal.invariant-loop-i
invariant-loop-i l = record {
  here : (n : ℕ) → n < l.i → HasSample Words Little l.line n (slice_index l.fn.samples n);
  behind : (j : ℕ) → 2 * l.i ≤ j → slice_index l.line j ≡ slice_index l.fn.line j;
}

abbrev pub invariant-loop-i-2 : goal.invariant-loop-i-2
invariant-loop-i-2 l = record {
  here : (n : ℕ) → n < l.i → HasSample Words Big l.line n (slice_index l.fn.samples n);
  behind : (j : ℕ) → 2 * l.i ≤ j → slice_index l.line j ≡ slice_index l.fn.line j;
}
