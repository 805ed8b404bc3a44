use Rattle.std.proofs.Common.{◌*◌, ◌%◌, ◌∙◌, arith}
use Rattle.vector_lanes.proofs.Lanes.{splat_lane, length-splat}
use Rattle.vector_lanes.proofs.words.raised.Goals as goal

pub returns-clause-size : goal.returns-clause-size
returns-clause-size c = length-splat (λ a b. a * b % 65536) c.args.numbers c.args.factor c.requires.size

pub returns-clause-each : goal.returns-clause-each
returns-clause-each c i less =
    let small = c.requires.limit i less in
    splat_lane (λ a b. a * b % 65536) c.args.numbers c.args.factor i c.requires.size less ∙ omega (arith, small)
