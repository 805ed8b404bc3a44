use Rattle.std.proofs.Common.{ℕ, ◌≡◌, ◌<◌, ◌≤◌, ◌+◌, ◌*◌, ◌/◌, ◌%◌, ◌∙◌, length, replicate, get_or, arith, sym, ap, subst}
use Rattle.std.specs.Simd.Lanes.{zip2}
use Rattle.vector_lanes.proofs.Lanes.{splat_lane, length-splat, lane_of_two, length-of_two, product_small}
use Rattle.page_sources.proofs.EightLemmas.{carry_is, parts_scaled}
use Rattle.page_sources.proofs.eights.scaled.Goals as goal

pub ones_below-requires-clause-numbers : goal.ones_below-requires-clause-numbers
ones_below-requires-clause-numbers c =
    length-of_two _ _ _ (length-splat _ c.args.numbers _ c.requires.size) c.upper_halves-rest.ensures.size

pub returns-clause-size : goal.returns-clause-size
returns-clause-size c =
    let up = length-splat _ c.args.numbers _ c.requires.size in
    length-of_two _ _ _ up (length-of_two _ _ _ c.upper_halves.ensures.size c.ones_below.ensures.size)

pub returns-clause-each : goal.returns-clause-each
returns-clause-each c i less =
    let v = c.args.numbers in
    let m = c.args.scaling.now in
    let parts = c.parts-parts.result in
    let n = get_or v i 0 in
    let u = parts.upper in
    let d = parts.middle in
    let l = parts.lower in
    let rest = c.upper_halves-rest.result in
    let middle = zip2 (λ a b. a * b % 65536) v (replicate 8 d) in
    let sums = zip2 (λ a b. (a + b) % 65536) middle rest in
    let high = c.upper_halves.result in
    let ones = c.ones_below.result in
    let carried = zip2 (λ a b. (a + b) % 65536) high ones in
    let upper = zip2 (λ a b. a * b % 65536) v (replicate 8 u) in
    let long_middle : length middle ≡ 8 = length-splat (λ a b. a * b % 65536) v d c.requires.size in
    let long_upper : length upper ≡ 8 = length-splat (λ a b. a * b % 65536) v u c.requires.size in
    let long_carried : length carried ≡ 8 = length-of_two (λ a b. (a + b) % 65536) high ones c.upper_halves.ensures.size c.ones_below.ensures.size in
    let rest_is : get_or rest i 0 ≡ n * l / 65536 = c.upper_halves-rest.ensures.each i less ∙ ap (λ (p : ℕ). p / 65536) (c.products.ensures.each i less) in
    let high_is : get_or high i 0 ≡ n * d / 65536 = c.upper_halves.ensures.each i less ∙ ap (λ (p : ℕ). p / 65536) (c.products-2.ensures.each i less) in
    let middle_is : get_or middle i 0 ≡ n * d % 65536 = splat_lane (λ a b. a * b % 65536) v d i c.requires.size less in
    let upper_is : get_or upper i 0 ≡ n * u % 65536 = splat_lane (λ a b. a * b % 65536) v u i c.requires.size less in
    let sum_is : get_or sums i 0 ≡ (get_or middle i 0 + get_or rest i 0) % 65536 = lane_of_two (λ a b. (a + b) % 65536) middle rest i long_middle c.upper_halves-rest.ensures.size less in
    let sum_of : get_or sums i 0 ≡ (n * d % 65536 + get_or rest i 0) % 65536 = sum_is ∙ ap (λ (k : ℕ). (k + get_or rest i 0) % 65536) middle_is in
    let carried_is : get_or carried i 0 ≡ (get_or high i 0 + get_or ones i 0) % 65536 = lane_of_two (λ a b. (a + b) % 65536) high ones i c.upper_halves.ensures.size c.ones_below.ensures.size less in
    let whole : get_or (zip2 (λ a b. (a + b) % 65536) upper carried) i 0 ≡ (get_or upper i 0 + get_or carried i 0) % 65536 = lane_of_two (λ a b. (a + b) % 65536) upper carried i long_upper long_carried less in
    let limit : n ≤ m = c.requires.limit i less in
    let most : m ≤ 65535 = c.parts-parts.ensures.most in
    let few : n < 65536 = omega (arith, limit, most) in
    let light : l < 65536 = omega arith in
    let product : n * l ≤ 4294836225 = product_small n l few light in
    let small : get_or rest i 0 < 65536 = omega (arith, rest_is, product) in
    let one : get_or ones i 0 ≡ (n * d % 65536 + get_or rest i 0) / 65536 = carry_is (n * d) (get_or rest i 0) (get_or ones i 0) small
    (λ low. c.ones_below.ensures.below i less (subst (λ (k : ℕ). k < get_or rest i 0) (sym sum_of) low))
    (λ more. c.ones_below.ensures.other i less (subst (λ (k : ℕ). get_or rest i 0 ≤ k) (sym sum_of) more)) in
    let one_is : get_or ones i 0 ≡ (n * d % 65536 + n * l / 65536) / 65536 = one ∙ ap (λ (k : ℕ). (n * d % 65536 + k) / 65536) rest_is in
    let scaled = parts_scaled n m u d l (get_or ones i 0) c.parts-parts.ensures.some c.parts-parts.ensures.most (c.requires.limit i less) c.parts-parts.ensures.factor one_is in
    whole ∙ (ap (λ (k : ℕ). (k + get_or carried i 0) % 65536) upper_is
    ∙ (ap (λ (k : ℕ). (n * u % 65536 + k) % 65536) (carried_is ∙ ap (λ (k : ℕ). (k + get_or ones i 0) % 65536) high_is) ∙ scaled))
