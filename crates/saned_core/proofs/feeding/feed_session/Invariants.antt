use Rattle.std.proofs.Common.{◌≡◌, None, length}
use Rattle.saned_requests.specs.RequestAnswers.{request_context}
use Rattle.saned_core.specs.Inside.{GoesSoFar}
use Rattle.saned_core.proofs.feeding.feed_session.Given as goal

abbrev pub invariant-loop-request : goal.invariant-loop-request
invariant-loop-request g l = record {
  fault : l.input.fault ≡ None;
  so_far : GoesSoFar (record { users = l.users; context = request_context g.D.Device.state l.fn.session l.fn.registry l.fn.challenger; before = l.fn.input.rest; piece = l.piece }) l.fn.replies (record { context = request_context g.D.Device.state l.session l.registry l.challenger; rest = l.input.rest; text = l.replies });
}

abbrev pub decreases-loop-request : goal.decreases-loop-request
decreases-loop-request g l = length l.input.rest
