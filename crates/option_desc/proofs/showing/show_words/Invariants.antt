use Rattle.option_desc.proofs.ShownLaws.{ShownBelow}
use Rattle.option_desc.proofs.showing.show_words.Given as goal

abbrev pub invariant-loop-i : goal.invariant-loop-i
invariant-loop-i l = ShownBelow l.kind l.words l.i l.joined.items
