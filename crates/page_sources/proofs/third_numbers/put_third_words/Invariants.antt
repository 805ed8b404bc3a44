use Rattle.std.proofs.Common.{◌≡◌, ℕ, ◌<◌, ◌+◌, ◌*◌, length}
use Rattle.std.specs.Prelude.{slice_index}
use Rattle.page_sources.proofs.third_numbers.put_third_words.Given as goal

abbrev pub invariant-loop-n : goal.invariant-loop-n
invariant-loop-n l = record {
  size : length l.part ≡ length l.fn.part;
  first : (x : ℕ) → x < 8 * l.n → slice_index l.part (2 * x) ≡ slice_index l.bytes (l.at + 6 * x);
  second : (x : ℕ) → x < 8 * l.n → slice_index l.part (2 * x + 1) ≡ slice_index l.bytes (l.at + 6 * x + 1);
}

abbrev pub invariant-loop-x : goal.invariant-loop-x
invariant-loop-x l = record {
  size : length l.part ≡ length l.fn.part;
  first : (x : ℕ) → x < l.x → slice_index l.part (2 * x) ≡ slice_index l.bytes (l.at + 6 * x);
  second : (x : ℕ) → x < l.x → slice_index l.part (2 * x + 1) ≡ slice_index l.bytes (l.at + 6 * x + 1);
}
