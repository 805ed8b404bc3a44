use Rattle.std.proofs.Common.{◌≡◌, pos, take, fold, get_or}
use Rattle.constraint.specs.NearestComputed.{closer}
use Rattle.constraint.proofs.word_list.nearest_of.Given as goal

abbrev pub invariant-loop-entry : goal.invariant-loop-entry
invariant-loop-entry l = l.nearest ≡ fold (closer l.word) (get_or l.entries 0 (pos 0)) (take l.entry-index l.entries)
