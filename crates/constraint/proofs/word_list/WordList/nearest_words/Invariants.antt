use Rattle.constraint.specs.Nearest.{NearestInList}
use Rattle.constraint.specs.NearestComputed.{nearest_in_list}
use Rattle.constraint.proofs.PlaceLaws.{PutBelow}
use Rattle.constraint.proofs.word_list.WordList.nearest_words.Given as goal

abbrev pub invariant-loop-word : goal.invariant-loop-word
invariant-loop-word l = PutBelow (NearestInList l.self) (nearest_in_list l.self) l.initial.words l.words l.word-index l.differs
