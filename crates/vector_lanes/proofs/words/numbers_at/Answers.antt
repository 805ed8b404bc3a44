use Rattle.std.proofs.Common.{arith}
use Rattle.vector_lanes.proofs.words.numbers_at.Goals as goal

pub returns-clause-each : goal.returns-clause-each
returns-clause-each c i less =
    omega (arith, c.loaded.ensures.lower i less, c.loaded.ensures.upper i less, c.turned.ensures.lower i less, c.turned.ensures.upper i less)
