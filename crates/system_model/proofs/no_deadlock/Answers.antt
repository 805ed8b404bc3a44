use Rattle.system_model.proofs.NextMoves.{nobody_is_stuck}
use Rattle.system_model.proofs.no_deadlock.Goals as goal

pub returns : goal.returns
returns c = nobody_is_stuck
