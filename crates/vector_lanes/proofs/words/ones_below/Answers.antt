use Rattle.std.proofs.Common.{Bool, ◌≡◌, ◌∙◌, cond, ltb, length, get_or, ap, sym, w16}
use Rattle.std.specs.Simd.Lanes.{zip2, sel_l}
use Rattle.std.proofs.lemmas.Simd.{tops_compared, length-zip2, length-sel_l}
use Rattle.vector_lanes.proofs.Lanes.{ones, nones, tested_lane, lt_holds, lt_fails}
use Rattle.vector_lanes.proofs.words.ones_below.Goals as goal

pub returns-clause-size : goal.returns-clause-size
returns-clause-size c =
    let a = c.args.numbers in
    let b = c.args.others in
    let long : length (zip2 ltb a b) ≡ 8 = length-zip2 ltb a b (c.requires.numbers ∙ sym c.requires.others) ∙ c.requires.numbers in
    ap (λ ms. length (sel_l ms ones nones)) (tops_compared w16 ltb a b) ∙ (length-sel_l (zip2 ltb a b) ones nones long long ∙ long)

pub returns-clause-below : goal.returns-clause-below
returns-clause-below c i less low =
    let a = c.args.numbers in
    let b = c.args.others in
    ap (λ ms. get_or (sel_l ms ones nones) i 0) (tops_compared w16 ltb a b)
    ∙ (tested_lane a b i c.requires.numbers c.requires.others less ∙ ap (λ (t : Bool). cond t 1 0) (lt_holds (get_or a i 0) (get_or b i 0) low))

pub returns-clause-other : goal.returns-clause-other
returns-clause-other c i less high =
    let a = c.args.numbers in
    let b = c.args.others in
    ap (λ ms. get_or (sel_l ms ones nones) i 0) (tops_compared w16 ltb a b)
    ∙ (tested_lane a b i c.requires.numbers c.requires.others less ∙ ap (λ (t : Bool). cond t 1 0) (lt_fails (get_or a i 0) (get_or b i 0) high))
