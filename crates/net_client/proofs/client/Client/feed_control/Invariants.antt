use Rattle.std.proofs.Common.{length}
use Rattle.frame_join.specs.FrameHistory.{JoinHistory}
use Rattle.net_client.specs.ClientStates.{ClientRepresents}
use Rattle.net_client.specs.ReplyPieces.{HasHeard}
use Rattle.net_client.proofs.client.Client.feed_control.Given as goal

abbrev pub invariant-loop-self : goal.invariant-loop-self
invariant-loop-self l = (past : JoinHistory) → ClientRepresents past l.fn.self → HasHeard l.fn.self past l.piece l.self

abbrev pub decreases-loop-self : goal.decreases-loop-self
decreases-loop-self l = length l.self.input.rest
