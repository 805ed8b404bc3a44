use Rattle.std.proofs.Common.{ℕ, ◌≡◌, ◌<◌, ◌+◌, ◌*◌, ◌∙◌, get_or, arith, sym, ap}
use Rattle.std.specs.Prelude.{slice_index}
use Rattle.std.proofs.lemmas.Simd.{length-zip2}
use Rattle.scan_frames.proofs.Eights.{sum_lane}
use Rattle.scan_frames.proofs.lanes.sums_of.Goals as goal

pub returns-clause-size : goal.returns-clause-size
returns-clause-size c =
    let red = c.products-red.ensures.size in
    let green = c.products-green.ensures.size in
    let blue = c.products-blue.ensures.size in
    let both = length-zip2 _ c.products-red.result c.products-green.result (red ∙ sym green) ∙ red in
    length-zip2 _ _ c.products-blue.result (both ∙ sym blue) ∙ both

pub returns-clause-each : goal.returns-clause-each
returns-clause-each c i less =
    let row = c.args.row.now in
    let at = c.args.at in
    let k = at + 3 * i in
    let second : at + 1 + 3 * i ≡ k + 1 = omega arith in
    let third : at + 2 + 3 * i ≡ k + 2 = omega arith in
    let red : get_or c.products-red.result i 0 ≡ 299 * get_or row k 0 = c.products-red.ensures.each i less ∙ (ap (λ (v : ℕ). v * 299) (c.eight.ensures.each i less) ∙ omega arith) in
    let green : get_or c.products-green.result i 0 ≡ 587 * get_or row (k + 1) 0 = c.products-green.ensures.each i less ∙ (ap (λ (v : ℕ). v * 587) (c.eight-2.ensures.each i less ∙ ap (slice_index row) second) ∙ omega arith) in
    let blue : get_or c.products-blue.result i 0 ≡ 114 * get_or row (k + 2) 0 = c.products-blue.ensures.each i less ∙ (ap (λ (v : ℕ). v * 114) (c.eight-3.ensures.each i less ∙ ap (slice_index row) third) ∙ omega arith) in
    let r : get_or row k 0 < 65536 = (c.type_inv.row k).fits in
    let g : get_or row (k + 1) 0 < 65536 = (c.type_inv.row (k + 1)).fits in
    let b : get_or row (k + 2) 0 < 65536 = (c.type_inv.row (k + 2)).fits in
    sum_lane c.products-red.result c.products-green.result c.products-blue.result i c.products-red.ensures.size c.products-green.ensures.size c.products-blue.ensures.size less
    ∙ omega (arith, red, green, blue, r, g, b)
