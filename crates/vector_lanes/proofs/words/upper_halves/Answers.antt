use Rattle.std.proofs.Common.{ℕ, ◌<◌, ◌∙◌, sym, subst, w32}
use Rattle.std.proofs.lemmas.List.{get_or-map}
use Rattle.std.proofs.lemmas.Simd.{below_from_Fits, Each1-get_or}
use Rattle.vector_lanes.proofs.Lanes.{shifted, shifted_lane, shifted_fit, length-shifted}
use Rattle.vector_lanes.proofs.words.upper_halves.Goals as goal

pub overflow_cast-result : goal.overflow_cast-result
overflow_cast-result c =
    let v = c.args.numbers in
    let small = below_from_Fits w32 v c.fits-numbers.1 in
    shifted_fit v c.requires (λ i less. Each1-get_or (λ x. x < 4294967296) v i 0 (subst (λ (n : ℕ). i < n) (sym c.requires) less) small)

pub returns-clause-each : goal.returns-clause-each
returns-clause-each c i less =
    let v = c.args.numbers in
    let within = subst (λ (n : ℕ). i < n) (sym (length-shifted v c.requires)) less in
    get_or-map _ (shifted v) i 0 0 within ∙ shifted_lane v i c.requires less
