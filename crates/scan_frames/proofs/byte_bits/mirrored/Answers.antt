use Rattle.std.proofs.Common.{◌≡◌, ◌+◌, ◌-◌, ◌*◌, ◌/◌, ◌%◌, ◌∙◌, get_or, ap, arith}
use Rattle.std.specs.Simd.Lanes.{chunk}
use Rattle.std.proofs.lemmas.Simd.{length-chunk, get_or-chunk}
use Rattle.scan_frames.proofs.Eights.{mirrored_lane}
use Rattle.scan_frames.proofs.byte_bits.mirrored.Goals as goal

pub returns-clause-each : goal.returns-clause-each
returns-clause-each c i less =
    let bytes = c.args.bytes.now in
    let at = c.args.at in
    let place : at + (8 * (i / 8) + (7 - i % 8)) ≡ at + 8 * (i / 8) + (7 - i % 8) = omega arith in
    mirrored_lane (chunk at 16 bytes) i (length-chunk at 16 bytes c.requires) less
    ∙ (get_or-chunk at 16 bytes (8 * (i / 8) + (7 - i % 8)) 0 (omega (arith, less)) ∙ ap (λ k. get_or bytes k 0) place)
