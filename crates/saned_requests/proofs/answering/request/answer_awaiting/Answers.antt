use Rattle.saned_requests.specs.RequestAnswers.{request_context}
use Rattle.saned_requests.proofs.RequestKinds.{authorizes_awaiting}
use Rattle.saned_requests.proofs.answering.request.answer_awaiting.Goals as goal

pub returns-in-Authorize : goal.returns-in-Authorize
returns-in-Authorize g c = λ stream. rw c.in-Authorize.is (authorizes_awaiting c.args.users.now (request_context g.D.Device.state c.args.session.now c.args.registry.now stream) c.args.awaited c.in-Authorize.resource c.in-Authorize.user c.in-Authorize.password _ _ (c.authorize.ensures stream))
