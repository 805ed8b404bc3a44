use Rattle.std.proofs.Common.{rules}
use Rattle.worked_worlds.proofs.HandShow.{table_told}
use Rattle.worked_worlds.proofs.hand_shows.table_of.Goals as goal

pub returns-clause-ok : goal.returns-clause-ok
returns-clause-ok g c =
    table_told _ c.in-Some-Done.field-0.now c.in-Some-Done.reports c.in-Some.table.items
    (let a = c.in-Some-Done.field-0-is in let b = c.in-Some-Done.reports-is in search rules)
    (let a = c.in-Some.ensures in let b = c.as_slice.ensures in search rules)
    c.in-Some-Done.ensures.kept
