use Rattle.std.proofs.Common.{rules}
use Rattle.saned_serve.proofs.link_slots.rooms_for.Goals as goal

pub loop-init : goal.loop-init
loop-init c = search rules

pub loop-preserved : goal.loop-preserved
loop-preserved c = search rules

pub returns : goal.returns
returns c = search rules
