use Rattle.worked_worlds.proofs.TwoFlatbeds.{told_nobody}
use Rattle.worked_worlds.proofs.dots.nobody.Goals as goal

pub returns-in-Ok : goal.returns-in-Ok
returns-in-Ok c = told_nobody c.in-Ok.users c.in-Ok.ensures.found
