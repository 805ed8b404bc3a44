use Rattle.worked_worlds.proofs.Worked.{says_done}
use Rattle.worked_worlds.proofs.ends.is_done.Goals as goal

pub returns-in-Some-Done : goal.returns-in-Some-Done
returns-in-Some-Done g c = λ yes. says_done _ c.in-Some-Done.field-0.now c.in-Some-Done.field-0-0 c.in-Some-Done.field-0-is c.in-Some-Done.ensures.is c.in-Some-Done.ensures.kept
