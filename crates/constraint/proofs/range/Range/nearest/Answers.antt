use Rattle.std.proofs.Common.{◌≡◌, ◌≤◌, ◌<◌, ◌^◌, ◌*◌, ◌-ℤ◌, ◌+ℤ◌, pos, ap, ◌∙◌, sym, subst, rules, arith, FitsSigned, w32, w64, to_z, of_z}
use Rattle.std.proofs.lemmas.Int.{to_z-of_z}
use Rattle.constraint.specs.Admitted.{Bounds}
use Rattle.constraint.specs.NearestComputed.{height, nearest_in_range, steps_to, step_of}
use Rattle.constraint.proofs.RangeLaws.{added, added_fits, added_back, in_64}
use Rattle.constraint.proofs.range.Range.nearest.Goals as goal

pub overflow_add-result : goal.overflow_add-result
overflow_add-result c =
    let low : FitsSigned w32 c.self.inside.min = search rules in
    subst (FitsSigned w64) (sym (added c.self.inside.min c.from.result c.offset.result low c.from.ensures c.offset.ensures.below)) (added_fits c.self.inside.min c.offset.result low c.offset.ensures.below)

pub overflow_cast-result-2 : goal.overflow_cast-result-2
overflow_cast-result-2 c =
    let low : FitsSigned w32 c.self.inside.min = search rules in
    let sum = added c.self.inside.min c.from.result c.offset.result low c.from.ensures c.offset.ensures.below in
    let min_is = ap (λ (b : Bounds). b.min) c.self.view_is in
    subst (FitsSigned w32) (sym (ap (λ z. to_z w64 (of_z w64 z)) (sum ∙ ap (λ z. z +ℤ pos c.offset.result) min_is) ∙ in_64 (c.args.self.now.min +ℤ pos c.offset.result) c.offset.ensures.fits)) c.offset.ensures.fits

pub returns-clause-value : goal.returns-clause-value
unfolding nearest_in_range
returns-clause-value c =
    let low : FitsSigned w32 c.self.inside.min = search rules in
    let asked : FitsSigned w32 c.args.word = search rules in
    let sum = added c.self.inside.min c.from.result c.offset.result low c.from.ensures c.offset.ensures.below in
    let min_is = ap (λ (b : Bounds). b.min) c.self.view_is in
    let steps = c.offset.ensures.value ∙ ap (λ z. steps_to c.args.self.now z * step_of c.args.self.now) (to_z-of_z w32 c.args.word asked) in
    ap (λ z. to_z w32 (of_z w32 (to_z w64 (of_z w64 z)))) (sum ∙ ap (λ z. z +ℤ pos c.offset.result) min_is)
    ∙ added_back (c.args.self.now.min +ℤ pos c.offset.result) c.offset.ensures.fits
    ∙ ap (λ n. c.args.self.now.min +ℤ pos n) steps
