use Rattle.std.proofs.Common.{◌∙◌, sym, ap}
use Rattle.std.specs.Option.{option_map}
use Rattle.dispatch.specs.Table.{seen_lease}
use Rattle.saned_requests.specs.RequestAnswers.{request_context}
use Rattle.saned_requests.proofs.Contexts.{closes, closes_nothing}
use Rattle.saned_requests.proofs.answering.word_replies.close.Goals as goal

pub returns-in_default : goal.returns-in_default
returns-in_default g c = λ stream. closes_nothing (request_context g.D.Device.state c.args.session.now c.args.registry.now stream) c.args.word _ (sym c.take_word.ensures.lease ∙ ap (option_map (seen_lease g.D.Device.state)) c.in_default.is) c.take_word.ensures.held

pub returns : goal.returns
returns g c = λ stream. closes (request_context g.D.Device.state c.args.session.now c.args.registry.now stream) c.args.word (seen_lease g.D.Device.state c.in-Some.lease) _ _ _ (sym c.take_word.ensures.lease ∙ ap (option_map (seen_lease g.D.Device.state)) c.in-Some.is) c.take_word.ensures.held c.off-session.ensures c.give_back.ensures
