use Rattle.std.proofs.Common.{ℕ, ◌<◌, ◌*◌, ◌%◌, ◌∙◌, get_or, arith, sym, ap, subst, w16}
use Rattle.std.proofs.lemmas.List.{length-map}
use Rattle.std.proofs.lemmas.Simd.{below_from_Fits, Each1-get_or}
use Rattle.vector_lanes.proofs.Lanes.{cast_lane, length-splat, product_fits}
use Rattle.vector_lanes.proofs.words.products.Goals as goal

pub returns-clause-size : goal.returns-clause-size
returns-clause-size c = length-splat _ _ c.from.result (length-map c.args.numbers _ ∙ c.requires)

pub returns-clause-each : goal.returns-clause-each
returns-clause-each c i less =
    let v = c.args.numbers in
    let within = subst (λ (n : ℕ). i < n) (sym c.requires) less in
    let fits = Each1-get_or (λ x. x < 65536) v i 0 within (below_from_Fits w16 v c.fits-numbers.1) in
    let few : c.args.factor < 65536 = omega arith in
    cast_lane _ _ v c.from.result i c.requires less ∙ (ap (λ (f : ℕ). get_or v i 0 * f % 4294967296) c.from.ensures ∙ product_fits (get_or v i 0) c.args.factor fits few)
