use Rattle.std.proofs.Common.{drop, ◌∙◌, ap, rules}
use Rattle.saned_serve.proofs.Ranges.{range_on, fits_range}
use Rattle.saned_serve.proofs.pending.PendingBytes.write_to.Goals as goal

pub returns-in-Moved-clause-rest : goal.returns-in-Moved-clause-rest
returns-in-Moved-clause-rest g c =
    range_on c.self.inside.room.items c.self.inside.from c.self.inside.to c.in-Moved.n
    (fits_range c.self.inside.room.items c.self.inside.from c.self.inside.to c.in-Moved.n c.self.invariant.0 (search rules))
    ∙ ap (drop c.in-Moved.n) c.self.view_is
