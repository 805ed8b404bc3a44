use Rattle.std.proofs.Common.{◌+◌, ◌*◌, ◌/◌, ◌%◌, ◌<◌, ◌≡◌, ◌++◌, ◌∙◌, get_or, arith, refl, w16}
use Rattle.std.specs.Simd.Lanes.{digits_l, number_l}
use Rattle.std.proofs.lemmas.List.{get_or_append_left}
use Rattle.std.proofs.lemmas.Simd.{get_or_narrower, below_from_Fits, Each1-get_or}
use Rattle.vector_lanes.proofs.Lanes.{eighth}
use Rattle.vector_lanes.proofs.words.upper_bytes.Goals as goal

pub returns-clause-each : goal.returns-clause-each
returns-clause-each c =
    let v = c.args.numbers in
    let bytes = digits_l 256 16 (number_l 65536 v) in
    let small = below_from_Fits w16 v c.fits-numbers.1 in
    eighth (λ j. get_or (bytes ++ bytes) (2 * j + 1) 0) (λ j. get_or v j 0 / 256) (λ j less.
    let part : get_or bytes (2 * j + 1) 0 ≡ get_or v j 0 / 256 % 256 = get_or_narrower 65536 2 256 16 v j 1 refl small (omega arith) (omega (arith, less)) in
    let fits : get_or v j 0 < 65536 = Each1-get_or (λ x. x < 65536) v j 0 (omega (arith, less, c.requires)) small in
    let whole : get_or v j 0 / 256 % 256 ≡ get_or v j 0 / 256 = omega (arith, fits) in
    get_or_append_left bytes bytes 0 (2 * j + 1) (omega (arith, less)) ∙ (part ∙ whole))
