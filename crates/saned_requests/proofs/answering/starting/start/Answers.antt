use Rattle.std.proofs.Common.{refl, ap}
use Rattle.saned_requests.specs.Holding.{seen_held}
use Rattle.saned_requests.specs.RequestAnswers.{request_context, with_held}
use Rattle.saned_requests.proofs.answering.starting.start.Goals as goal

pub returns-clause-ok : goal.returns-clause-ok
returns-clause-ok g c = λ registry stream. record {
  reply = c.in_ok-reply.reply;
  transfer = c.in_ok-reply.transfer;
  held = with_held (request_context g.D.Device.state c.args.session.now registry stream) (seen_held g.D.Device.state c.start_held.new.held);
  starts = record {
    lease = c.start_held.ensures.lease;
    starts = rw c.in_ok-reply.was at c.start_held.ensures.starts;
    new_is = ap (with_held (request_context g.D.Device.state c.args.session.now registry stream)) c.start_held.ensures.new_is;
  };
  gives = (refl, refl);
}
