use Rattle.std.proofs.Common.{ℕ, ◌≡◌, ◌<◌, ◌+◌, ◌*◌, ◌/◌, ◌%◌, ◌∙◌, get_or, arith, refl, sym, ap, subst, w16}
use Rattle.std.specs.Simd.Lanes.{digits_l, number_l}
use Rattle.std.proofs.lemmas.Simd.{get_or_narrower, below_from_Fits, Each1-get_or}
use Rattle.vector_lanes.proofs.words.bytes_of.Goals as goal

pub returns-clause-lower : goal.returns-clause-lower
returns-clause-lower c i less =
    let v = c.args.numbers in
    let bytes = digits_l 256 16 (number_l 65536 v) in
    let small = below_from_Fits w16 v c.fits-numbers.1 in
    let part : get_or bytes (2 * i + 0) 0 ≡ get_or v i 0 / 1 % 256 = get_or_narrower 65536 2 256 16 v i 0 refl small (omega arith) (omega (arith, less)) in
    let place : 2 * i ≡ 2 * i + 0 = omega arith in
    ap (λ (j : ℕ). get_or bytes j 0) place ∙ (part ∙ omega arith)

pub returns-clause-upper : goal.returns-clause-upper
returns-clause-upper c i less =
    let v = c.args.numbers in
    let bytes = digits_l 256 16 (number_l 65536 v) in
    let small = below_from_Fits w16 v c.fits-numbers.1 in
    let within = subst (λ (n : ℕ). i < n) (sym c.requires) less in
    let fits : get_or v i 0 < 65536 = Each1-get_or (λ x. x < 65536) v i 0 within small in
    let part : get_or bytes (2 * i + 1) 0 ≡ get_or v i 0 / 256 % 256 = get_or_narrower 65536 2 256 16 v i 1 refl small (omega arith) (omega (arith, less)) in
    part ∙ omega (arith, fits)
