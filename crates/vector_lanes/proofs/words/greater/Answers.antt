use Rattle.std.proofs.Common.{ℕ, ◌≡◌, ◌≤◌, ◌⊎◌, ◌∙◌, ltb, length, get_or, ap, sym, subst, w16}
use Rattle.std.specs.Simd.Lanes.{sel_l}
use Rattle.std.proofs.lemmas.Simd.{tops_compared}
use Rattle.vector_lanes.proofs.Lanes.{chosen_lane, length-chosen, greater_first, greater_second, greater_one}
use Rattle.vector_lanes.proofs.words.greater.Goals as goal

pub returns-clause-size : goal.returns-clause-size
returns-clause-size c =
    let a = c.args.numbers in
    let b = c.args.others in
    ap (λ ms. length (sel_l ms b a)) (tops_compared w16 ltb a b)
    ∙ length-chosen 8 a b b a c.requires.numbers c.requires.others c.requires.others c.requires.numbers

pub returns-clause-first : goal.returns-clause-first
returns-clause-first c i less =
    let a = c.args.numbers in
    let b = c.args.others in
    let lane = ap (λ ms. get_or (sel_l ms b a) i 0) (tops_compared w16 ltb a b)
    ∙ chosen_lane 8 a b b a i c.requires.numbers c.requires.others c.requires.others c.requires.numbers less in
    subst (λ (v : ℕ). get_or a i 0 ≤ v) (sym lane) (greater_first (get_or a i 0) (get_or b i 0))

pub returns-clause-second : goal.returns-clause-second
returns-clause-second c i less =
    let a = c.args.numbers in
    let b = c.args.others in
    let lane = ap (λ ms. get_or (sel_l ms b a) i 0) (tops_compared w16 ltb a b)
    ∙ chosen_lane 8 a b b a i c.requires.numbers c.requires.others c.requires.others c.requires.numbers less in
    subst (λ (v : ℕ). get_or b i 0 ≤ v) (sym lane) (greater_second (get_or a i 0) (get_or b i 0))

pub returns-clause-one : goal.returns-clause-one
returns-clause-one c i less =
    let a = c.args.numbers in
    let b = c.args.others in
    let lane = ap (λ ms. get_or (sel_l ms b a) i 0) (tops_compared w16 ltb a b)
    ∙ chosen_lane 8 a b b a i c.requires.numbers c.requires.others c.requires.others c.requires.numbers less in
    subst (λ (v : ℕ). (v ≡ get_or a i 0) ⊎ (v ≡ get_or b i 0)) (sym lane) (greater_one (get_or a i 0) (get_or b i 0))
