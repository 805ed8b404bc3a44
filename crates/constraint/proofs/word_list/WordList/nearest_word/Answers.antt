use Rattle.std.proofs.Common.{◌≡◌, ◌≤◌, List, ℤ, length, ◌∙◌, sym, ap, subst, rules, FitsSigned, w32}
use Rattle.std.proofs.lemmas.Int.{to_z-of_z}
use Rattle.constraint.specs.Nearest.{NearestInList}
use Rattle.constraint.specs.NearestComputed.{nearest_in_list}
use Rattle.constraint.proofs.ListLaws.{NearestInList-nearest_in_list}
use Rattle.constraint.proofs.word_list.WordList.nearest_word.Goals as goal

pub returns-clause-nearest : goal.returns-clause-nearest
returns-clause-nearest c =
    let found : FitsSigned w32 c.nearest_of-nearest.result = search rules in
    let asked : FitsSigned w32 c.args.word = search rules in
    let list : c.as_slice.result.now ≡ c.args.self.now = c.as_slice.ensures.value ∙ c.self.view_is in
    let some : 1 ≤ length c.args.self.now = subst (λ (l : List ℤ). 1 ≤ length l) c.self.view_is c.self.invariant.some in
    let value = to_z-of_z w32 c.nearest_of-nearest.result found ∙ c.nearest_of-nearest.ensures ∙ ap (nearest_in_list c.as_slice.result.now) (to_z-of_z w32 c.args.word asked) ∙ ap (λ l. nearest_in_list l c.args.word) list in
    subst (NearestInList c.args.self.now c.args.word) (sym value) (NearestInList-nearest_in_list c.args.self.now c.args.word some)
