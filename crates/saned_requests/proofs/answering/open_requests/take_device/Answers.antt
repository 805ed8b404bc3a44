use Rattle.std.proofs.Common.{◌≡◌, ◌∙◌, sym, ap, None}
use Rattle.std.specs.Option.{option_map}
use Rattle.dispatch.specs.Table.{seen_lease, seen_take, after_take, table}
use Rattle.sane_fixed.specs.declared.status.Status.TheVariants.{Good}
use Rattle.wire_message.specs.declared.message.Reply.TheVariants as replies
use Rattle.saned_requests.specs.Holding.{with_lease_back}
use Rattle.saned_requests.specs.RequestAnswers.{request_context}
use Rattle.saned_requests.proofs.Opening.{takes_no_word, takes_refused, takes}
use Rattle.saned_requests.proofs.answering.open_requests.take_device.Goals as goal

pub returns-in_default : goal.returns-in_default
returns-in_default g c = λ stream. takes_no_word (request_context g.D.Device.state c.args.session.now c.args.registry.now stream) c.args.name.now _ (sym c.free_word.ensures.word ∙ c.in_default.is) c.refusal.ensures

pub returns-in-Err : goal.returns-in-Err
returns-in-Err g c = λ stream. takes_refused (request_context g.D.Device.state c.args.session.now c.args.registry.now stream) c.args.name.now c.in-Some.word c.in-Err.status _ _ (sym c.free_word.ensures.word ∙ c.in-Some.is) (sym (ap (seen_take g.D.Device.state) c.in-Err.is) ∙ c.take.ensures.answer) c.take.ensures.after c.refusal-in-Err.ensures

pub returns-in-Ok : goal.returns-in-Ok
returns-in-Ok g c = λ stream.
    let old : option_map (seen_lease g.D.Device.state) c.put_word-old.result ≡ None = c.put_word-old.ensures.old ∙ c.in-Some.ensures.free in
    let registry : table g.D.Device.state c.give_back.new.registry ≡ after_take (table g.D.Device.state c.args.registry.now) c.args.name.now = c.give_back.ensures ∙ ap (with_lease_back (table g.D.Device.state c.take.new.self)) old ∙ c.take.ensures.after in
    takes (request_context g.D.Device.state c.args.session.now c.args.registry.now stream) c.args.name.now c.in-Some.word (seen_lease g.D.Device.state c.in-Ok.lease) _ _ _ (sym c.free_word.ensures.word ∙ c.in-Some.is) (sym (ap (seen_take g.D.Device.state) c.in-Ok.is) ∙ c.take.ensures.answer) c.put_word-old.ensures.new registry (ap (replies.Open Good c.in-Some.word) c.no_text.ensures)
