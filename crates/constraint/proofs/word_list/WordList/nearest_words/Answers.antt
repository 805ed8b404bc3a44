use Rattle.std.proofs.Common.{◌≡◌, ◌≤◌, ◌<◌, ℤ, pos, length, get_or, set, ◌||◌, ◌∙◌, sym, ap, subst, rules, FitsSigned, w32, arith, to_z, of_z}
use Rattle.std.proofs.lemmas.Int.{to_z-of_z}
use Rattle.std.proofs.lemmas.List.{get_or_default}
use Rattle.constraint.specs.Nearest.{NearestInList, FlagsDifference}
use Rattle.constraint.specs.NearestComputed.{nearest_in_list}
use Rattle.constraint.proofs.PlaceLaws.{PutBelow, PutBelow-none, PutBelow-more, PutAll-below}
use Rattle.constraint.proofs.word_list.WordList.nearest_words.Goals as goal

pub loop-word-init : goal.loop-word-init
loop-word-init c = PutBelow-none (NearestInList c.args.self.now) (nearest_in_list c.args.self.now) c.args.words.now

pub loop-word-preserved : goal.loop-word-preserved
loop-word-preserved c =
    let word : ℤ = get_or c.loop-word.words c.loop-word.word-index (pos 0) in
    let fits : FitsSigned w32 word = search rules in
    let is : to_z w32 (of_z w32 word) ≡ word = to_z-of_z w32 word fits in
    let found : FitsSigned w32 c.nearest_word-nearest.result.0 = search rules in
    let stored : to_z w32 (of_z w32 c.nearest_word-nearest.result.0) ≡ c.nearest_word-nearest.result.0 = to_z-of_z w32 c.nearest_word-nearest.result.0 found in
    let within : c.loop-word.word-index < length c.loop-word.words = omega arith in
    let value = subst (λ z. c.nearest_word-nearest.result.0 ≡ nearest_in_list c.args.self.now z) is c.nearest_word-nearest.ensures.value in
    let nearest = subst (λ z. NearestInList c.args.self.now z c.nearest_word-nearest.result.0) is c.nearest_word-nearest.ensures.nearest in
    let differs = subst (λ z. FlagsDifference c.nearest_word-nearest.result.1 z c.nearest_word-nearest.result.0) is c.nearest_word-nearest.ensures.differs in
    rw stored (PutBelow-more (NearestInList c.args.self.now) (nearest_in_list c.args.self.now) c.args.words.now c.loop-word.words c.loop-word.word-index c.loop-word.differs c.nearest_word-nearest.result.1 word c.nearest_word-nearest.result.0
    c.loop-word-test.true c.loop-word.invariant (get_or_default c.loop-word.words c.loop-word.word-index (pos 0) word within) value nearest differs)

pub returns : goal.returns
returns c =
    let end : length c.args.words.now ≤ c.loop-word.word-index = c.loop-word-test.false in
    let all = PutAll-below (NearestInList c.args.self.now) (nearest_in_list c.args.self.now) c.args.words.now c.loop-word.words c.loop-word.word-index c.loop-word.differs end c.loop-word.invariant in
    record { nearest = all.nearest; differs = all.differs_is; value = all.value }
