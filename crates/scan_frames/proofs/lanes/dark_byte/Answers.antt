use Rattle.std.proofs.Common.{◌≡◌, ◌+◌, ◌*◌, ◌/◌, ◌%◌, ◌^◌, ◌<◌, ◌∙◌, ap, arith}
use Rattle.std.specs.Prelude.{slice_index}
use Rattle.scan_frames.specs.Inside.{dark}
use Rattle.scan_frames.proofs.Lines.{binary_same}
use Rattle.scan_frames.proofs.lanes.dark_byte.Goals as goal

pub returns : goal.returns
returns c =
    let row = c.args.row.now in
    let at = c.args.at in
    c.leftmost_first.ensures ∙ binary_same (λ j. c.dark_lanes.result / 2 ^ (3 * j % 8) % 2) (λ j. dark (slice_index row (at + 3 * j))) 8 (λ j less.
    let lane : 3 * j % 8 < 8 = omega arith in
    let place : at + 3 * (3 * (3 * j % 8) % 8) ≡ at + 3 * j = omega (arith, less) in
    c.dark_lanes.ensures.each (3 * j % 8) lane ∙ ap dark (c.mixed.ensures.each (3 * j % 8) lane ∙ ap (slice_index row) place))
