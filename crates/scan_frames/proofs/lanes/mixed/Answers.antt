use Rattle.std.proofs.Common.{◌+◌, ◌*◌, ◌%◌, ◌++◌, get_or, arith}
use Rattle.std.specs.Simd.Lanes.{chunk}
use Rattle.vector_lanes.proofs.Lanes.{eighth}
use Rattle.scan_frames.proofs.Eights.{of_load}
use Rattle.scan_frames.proofs.lanes.mixed.Goals as goal

pub returns-clause-each : goal.returns-clause-each
returns-clause-each c =
    let row = c.args.row.now in
    let at = c.args.at in
    eighth (λ j. get_or (chunk at 32 row ++ chunk at 32 row) (3 * (3 * j % 8)) 0) (λ j. get_or row (at + 3 * (3 * j % 8)) 0) (λ j less. of_load at 32 row c.requires (3 * (3 * j % 8)) (omega (arith, less)))
