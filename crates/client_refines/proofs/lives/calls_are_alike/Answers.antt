use Rattle.client_refines.proofs.SilentCalls.{made_alike, cancelled_alike, lost_alike, connected_unseen}
use Rattle.client_refines.proofs.lives.calls_are_alike.Goals as goal

pub returns-clause-made : goal.returns-clause-made
returns-clause-made c = made_alike

pub returns-clause-cancelled : goal.returns-clause-cancelled
returns-clause-cancelled c = cancelled_alike

pub returns-clause-lost : goal.returns-clause-lost
returns-clause-lost c = lost_alike

pub returns-clause-connected : goal.returns-clause-connected
returns-clause-connected c = connected_unseen
