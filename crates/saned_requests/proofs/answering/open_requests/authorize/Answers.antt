use Rattle.saned_requests.specs.RequestAnswers.{request_context}
use Rattle.saned_requests.proofs.Opening.{authorizes_yes, authorizes_no}
use Rattle.saned_requests.proofs.answering.open_requests.authorize.Goals as goal
use Rattle.saned_requests.proofs.answering.open_requests.authorize.Goals.{then-may_open, else-may_open}

pub returns : goal.returns
returns g c = λ stream. elim c.if-may_open.branch [
  | then-may_open w ↦ rw (w.session-is, w.registry-is, w.reply-is) (authorizes_yes c.args.users.now (request_context g.D.Device.state c.args.session.now c.args.registry.now stream) c.args.awaited c.args.resource c.args.user c.args.password c.may_open.result w.take_device-reply.result (request_context g.D.Device.state w.take_device-reply.new.session w.take_device-reply.new.registry stream) c.may_open.ensures w.if-may_open.true c.requires (rw w.as_bytes.ensures.bytes at (w.take_device-reply.ensures stream)))
  | else-may_open w ↦ rw (w.session-is, w.registry-is, w.reply-is) (authorizes_no c.args.users.now (request_context g.D.Device.state c.args.session.now c.args.registry.now stream) c.args.awaited c.args.resource c.args.user c.args.password c.may_open.result w.refusal-reply.result c.may_open.ensures w.if-may_open.false c.requires w.refusal-reply.ensures)
]
