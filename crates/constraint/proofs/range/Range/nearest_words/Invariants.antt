use Rattle.constraint.specs.Nearest.{NearestInRange}
use Rattle.constraint.specs.NearestComputed.{nearest_in_range}
use Rattle.constraint.proofs.PlaceLaws.{PutBelow}
use Rattle.constraint.proofs.range.Range.nearest_words.Given as goal

abbrev pub invariant-loop-word : goal.invariant-loop-word
invariant-loop-word l = PutBelow (NearestInRange l.self) (nearest_in_range l.self) l.initial.words l.words l.word-index l.differs
