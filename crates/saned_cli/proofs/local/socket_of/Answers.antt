use Rattle.std.proofs.Common.{Some, ap, refl}
use Rattle.saned_cli.specs.NetViews.TakesOrCloses.{GivesOne, HasNoMemory}
use Rattle.saned_cli.proofs.local.socket_of.Goals as goal

pub returns-in-Ok : goal.returns-in-Ok
returns-in-Ok g c = GivesOne _ refl (ap (λ n. Some n) c.take-conn.ensures.number) c.take-conn.ensures.told

pub returns-in-Err : goal.returns-in-Err
returns-in-Err g c = HasNoMemory _ refl refl c.close.ensures
