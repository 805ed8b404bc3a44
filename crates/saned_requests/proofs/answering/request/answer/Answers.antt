use Rattle.std.proofs.Common.{◌∙◌, sym}
use Rattle.saned_requests.specs.RequestAnswers.{request_context}
use Rattle.saned_requests.proofs.RequestKinds.{answers_first, answers_awaiting}
use Rattle.saned_requests.proofs.answering.request.answer.Goals as goal

pub returns-then-not-session-clause-ok : goal.returns-then-not-session-clause-ok
returns-then-not-session-clause-ok g c = answers_first c.args.users.now (request_context g.D.Device.state c.args.session.now c.args.registry.now c.args.challenger.now) c.args.request _ _ c.if-not-session.true (c.answer_first.ensures c.args.registry.now c.args.challenger.now)

pub returns-in-Some-clause-ok : goal.returns-in-Some-clause-ok
returns-in-Some-clause-ok g c = answers_awaiting c.args.users.now (request_context g.D.Device.state c.args.session.now c.args.registry.now c.args.challenger.now) c.in-Some.awaited c.args.request _ _ c.if-not-session.false (sym c.replace.ensures.value ∙ c.in-Some.is) (c.answer_awaiting.ensures c.args.challenger.now)
