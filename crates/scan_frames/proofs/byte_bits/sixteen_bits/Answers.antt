use Rattle.std.proofs.Common.{◌≡◌, ◌+◌, ◌-◌, ◌*◌, ◌/◌, ◌%◌, ◌^◌, ◌<◌, ◌∙◌, ap, arith}
use Rattle.std.specs.Prelude.{slice_index}
use Rattle.scan_frames.specs.Inside.{black}
use Rattle.scan_frames.proofs.ByteRows.{blacks_of}
use Rattle.scan_frames.proofs.Eights.{lower_bits, upper_bits}
use Rattle.scan_frames.proofs.byte_bits.sixteen_bits.Goals as goal

pub returns-clause-lower : goal.returns-clause-lower
returns-clause-lower c =
    let bytes = c.args.bytes.now in
    let n = c.args.n in
    let lanes = c.black_lanes.result in
    lower_bits lanes ∙ blacks_of bytes (2 * n) (λ j. lanes / 2 ^ (7 - j) % 2) (omega arith) (λ j less.
    let lane : 7 - j < 16 = omega arith in
    let place : 16 * n + 8 * ((7 - j) / 8) + (7 - (7 - j) % 8) ≡ 8 * (2 * n) + j = omega (arith, less) in
    c.black_lanes.ensures.each (7 - j) lane ∙ ap black (c.mirrored.ensures.each (7 - j) lane ∙ ap (slice_index bytes) place))

pub returns-clause-upper : goal.returns-clause-upper
returns-clause-upper c =
    let bytes = c.args.bytes.now in
    let n = c.args.n in
    let lanes = c.black_lanes.result in
    upper_bits lanes c.black_lanes.ensures.limit ∙ blacks_of bytes (2 * n + 1) (λ j. lanes / 2 ^ (15 - j) % 2) (omega arith) (λ j less.
    let lane : 15 - j < 16 = omega arith in
    let place : 16 * n + 8 * ((15 - j) / 8) + (7 - (15 - j) % 8) ≡ 8 * (2 * n + 1) + j = omega (arith, less) in
    c.black_lanes.ensures.each (15 - j) lane ∙ ap black (c.mirrored.ensures.each (15 - j) lane ∙ ap (slice_index bytes) place))
