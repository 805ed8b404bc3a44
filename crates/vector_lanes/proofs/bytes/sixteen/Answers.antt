use Rattle.std.proofs.lemmas.Simd.{length-chunk, get_or-chunk}
use Rattle.vector_lanes.proofs.bytes.sixteen.Goals as goal

pub returns-clause-size : goal.returns-clause-size
returns-clause-size c = length-chunk c.args.at 16 c.args.bytes.now c.requires

pub returns-clause-each : goal.returns-clause-each
returns-clause-each c i less = get_or-chunk c.args.at 16 c.args.bytes.now i 0 less
