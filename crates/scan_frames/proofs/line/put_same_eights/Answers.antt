use Rattle.std.proofs.Common.{◌≤◌, ◌+◌, ◌*◌, ◌∙◌, length, refl, arith}
use Rattle.scan_frames.proofs.Grays.{darks_are_bits}
use Rattle.scan_frames.proofs.line.put_same_eights.Goals as goal

pub returns-clause-here : goal.returns-clause-here
returns-clause-here c b less =
    let many : 8 * b + 8 ≤ length c.args.places.now = omega arith in
    c.put_darks.ensures.here b less ∙ darks_are_bits c.args.scene.now c.args.row.now c.args.places.now c.args.channel c.args.first b c.requires.depth c.requires.gray (c.if-not-is_same.ensures.same refl) c.requires.even c.requires.run c.requires.places (λ j. (c.type_inv.row j).fits) many
