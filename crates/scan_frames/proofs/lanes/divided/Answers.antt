use Rattle.std.proofs.Common.{ℕ, ◌<◌, ◌∙◌, arith, sym, subst}
use Rattle.std.proofs.lemmas.List.{length-map, get_or-map}
use Rattle.std.proofs.lemmas.Simd.{Each1-all, Each2-splat}
use Rattle.scan_frames.proofs.Eights.{quotients, quotient_lane, quotients_fit, length-quotients}
use Rattle.scan_frames.proofs.lanes.divided.Goals as goal

pub nonzero_div-result : goal.nonzero_div-result
nonzero_div-result c = Each2-splat (λ (a b : ℕ). 0 < b) c.args.numbers 8 125 (Each1-all (λ (a : ℕ). 0 < 125) (λ a. omega arith) c.args.numbers)

pub overflow_cast-result : goal.overflow_cast-result
overflow_cast-result c = quotients_fit c.args.numbers c.requires.size c.requires.limit

pub returns-clause-size : goal.returns-clause-size
returns-clause-size c = length-map (quotients c.args.numbers) _ ∙ length-quotients c.args.numbers c.requires.size

pub returns-clause-each : goal.returns-clause-each
returns-clause-each c i less =
    let v = c.args.numbers in
    let within = subst (λ (n : ℕ). i < n) (sym (length-quotients v c.requires.size)) less in
    get_or-map _ (quotients v) i 0 0 within ∙ quotient_lane v i c.requires.size less
