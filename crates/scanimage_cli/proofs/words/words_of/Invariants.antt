use Rattle.std.proofs.Common.{◌≤◌, ◌-◌}
use Rattle.scanimage_cli.proofs.WordLists.{AreFirstWords}
use Rattle.scanimage_cli.proofs.words.words_of.Given as goal

abbrev pub invariant-loop-i : goal.invariant-loop-i
invariant-loop-i g l = record {
  begun : 1 ≤ l.i;
  first : AreFirstWords (g.W.WordSource.words l.env) (l.i - 1) l.words.items;
}
