use Rattle.std.proofs.Common.{◌≡◌, ◌+◌, ◌*◌, ◌%◌, ◌^◌, length, take}
use Rattle.md5_auth.specs.Challenges.{digits_from}
use Rattle.md5_auth.proofs.challenges.next_digits.Given as goal

abbrev pub invariant-loop-i : goal.invariant-loop-i
invariant-loop-i l = record {
  size : length l.digits ≡ 32;
  written : take (8 * l.i) l.digits ≡ digits_from l.initial.words.key l.initial.words.stream l.initial.words.word_pos l.i;
  words : l.words ≡ record l.initial.words { word_pos = (l.initial.words.word_pos + l.i) % 2 ^ 68 };
}
