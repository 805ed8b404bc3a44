use Rattle.std.proofs.Common.{ℕ, ◌<◌, ◌∙◌, sym, subst}
use Rattle.std.proofs.lemmas.List.{length-map, get_or-map}
use Rattle.scan_frames.proofs.Eights.{shifted, shifted_lane, shifted_fit, length-shifted}
use Rattle.scan_frames.proofs.lanes.shortened.Goals as goal

pub overflow_cast-result : goal.overflow_cast-result
overflow_cast-result c = shifted_fit c.args.sums c.requires.size c.requires.limit

pub returns-clause-size : goal.returns-clause-size
returns-clause-size c = length-map (shifted c.args.sums) _ ∙ length-shifted c.args.sums c.requires.size

pub returns-clause-each : goal.returns-clause-each
returns-clause-each c i less =
    let v = c.args.sums in
    let within = subst (λ (n : ℕ). i < n) (sym (length-shifted v c.requires.size)) less in
    get_or-map _ (shifted v) i 0 0 within ∙ shifted_lane v i c.requires.size less
