use Rattle.std.proofs.Common.{ℕ, ◌<◌, ◌/◌, ◌%◌, ◌∙◌, get_or, arith, sym, ap, subst, w16}
use Rattle.std.proofs.lemmas.Simd.{below_from_Fits, Each1-get_or}
use Rattle.vector_lanes.proofs.Lanes.{turned_lane, length-turned}
use Rattle.vector_lanes.proofs.words.turned.Goals as goal

pub returns-clause-size : goal.returns-clause-size
returns-clause-size c = length-turned c.args.numbers c.requires

pub returns-clause-lower : goal.returns-clause-lower
returns-clause-lower c i less =
    let v = c.args.numbers in
    let within = subst (λ (n : ℕ). i < n) (sym c.requires) less in
    let fits : get_or v i 0 < 65536 = Each1-get_or (λ x. x < 65536) v i 0 within (below_from_Fits w16 v c.fits-numbers.1) in
    ap (λ (x : ℕ). x % 256) (turned_lane v i c.requires less) ∙ omega (arith, fits)

pub returns-clause-upper : goal.returns-clause-upper
returns-clause-upper c i less =
    let v = c.args.numbers in
    let within = subst (λ (n : ℕ). i < n) (sym c.requires) less in
    let fits : get_or v i 0 < 65536 = Each1-get_or (λ x. x < 65536) v i 0 within (below_from_Fits w16 v c.fits-numbers.1) in
    ap (λ (x : ℕ). x / 256) (turned_lane v i c.requires less) ∙ omega (arith, fits)
