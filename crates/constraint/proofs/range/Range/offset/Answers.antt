use Rattle.std.proofs.Common.{◌*◌, ap, ◌∙◌, rules, max, FitsSigned, w32}
use Rattle.std.specs.Prelude.{unsigned_abs}
use Rattle.std.proofs.lemmas.Int.{to_z-of_z}
use Rattle.constraint.specs.Admitted.{Bounds}
use Rattle.constraint.proofs.RangeLaws.{IsOffset-computed}
use Rattle.constraint.proofs.range.Range.offset.Goals as goal

pub returns : goal.returns
returns c =
    let low : FitsSigned w32 c.self.inside.min = search rules in
    let high : FitsSigned w32 c.self.inside.max = search rules in
    let quant : FitsSigned w32 c.self.inside.quant = search rules in
    let asked : FitsSigned w32 c.args.word = search rules in
    let range : Bounds = record { min = c.self.inside.min; max = c.self.inside.max; quant = c.self.inside.quant } in
    let step = c.from-step.ensures ∙ c.max.ensures ∙ ap (λ n. max n 1) (c.unsigned_abs.ensures.value ∙ ap unsigned_abs (to_z-of_z w32 c.self.inside.quant quant)) in
    let wanted = simp to_z-of_z at c.height.ensures.value in
    let room = simp to_z-of_z at c.height-2.ensures.value in
    let is = IsOffset-computed range c.args.self.now c.args.word _ c.from-step.result c.from-wanted.result c.from-room.result c.self.view_is c.self.invariant low high step (c.from-wanted.ensures ∙ wanted) (c.from-room.ensures ∙ room) (ap (λ n. n * c.from-step.result) c.min.ensures) in
    record { value = is.value; fits = is.fits; below = is.below }
