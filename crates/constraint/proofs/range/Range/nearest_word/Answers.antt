use Rattle.std.proofs.Common.{◌≡◌, ◌∙◌, sym, ap, subst, rules, FitsSigned, w32}
use Rattle.std.proofs.lemmas.Int.{to_z-of_z}
use Rattle.constraint.specs.Nearest.{NearestInRange}
use Rattle.constraint.proofs.RangeLaws.{NearestInRange-nearest_in_range}
use Rattle.constraint.proofs.range.Range.nearest_word.Goals as goal

pub returns-clause-nearest : goal.returns-clause-nearest
returns-clause-nearest c =
    let found : FitsSigned w32 c.nearest-nearest.result = search rules in
    let asked : FitsSigned w32 c.args.word = search rules in
    let value = simp to_z-of_z at c.nearest-nearest.ensures.value in
    rw (to_z-of_z w32 c.nearest-nearest.result found, value) (NearestInRange-nearest_in_range c.args.self.now c.args.word c.nearest-nearest.ensures.keeps)
