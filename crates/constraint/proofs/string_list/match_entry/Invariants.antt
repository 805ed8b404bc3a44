use Rattle.constraint.proofs.EntryLaws.{Searched}
use Rattle.constraint.proofs.string_list.match_entry.Given as goal

abbrev pub invariant-loop-i : goal.invariant-loop-i
invariant-loop-i l = Searched l.entries l.text l.i l.beginning
