use Rattle.std.proofs.Common.{◌≡◌, ◌∙◌, sym, ap, true, is_some, List, ℕ}
use Rattle.sane_fixed.specs.declared.status.Status.TheVariants.{Good}
use Rattle.wire_message.specs.declared.message.Reply.TheVariants as replies
use Rattle.saned_requests.specs.declared.request_answer.RequestAnswer.TheVariants.{One}
use Rattle.saned_requests.specs.Holding.{seen_held, free_word}
use Rattle.saned_requests.specs.RequestAnswers.{request_context}
use Rattle.saned_requests.proofs.Opening.{has_word, opens_no_word, opens_unknown, opens_now, opens_asking, drew}
use Rattle.saned_requests.proofs.answering.open_requests.open.Goals as goal

pub returns-then-is_none-clause-ok : goal.returns-then-is_none-clause-ok
returns-then-is_none-clause-ok g c = opens_no_word c.args.users.now (request_context g.D.Device.state c.args.session.now c.args.registry.now c.args.challenger.now) c.args.name _ c.free_word.result c.is_none.result c.free_word.ensures.word c.is_none.ensures c.if-is_none.true (ap One c.refusal.ensures)

pub returns-then-not-lists-clause-ok : goal.returns-then-not-lists-clause-ok
returns-then-not-lists-clause-ok g c =
    let word : is_some (free_word (seen_held g.D.Device.state c.args.session.now.held)) ≡ true = ap is_some (sym c.free_word.ensures.word) ∙ has_word c.free_word.result c.is_none.result c.is_none.ensures c.if-is_none.false in
    opens_unknown c.args.users.now (request_context g.D.Device.state c.args.session.now c.args.registry.now c.args.challenger.now) c.args.name _ word (sym (rw c.as_bytes.ensures.bytes at c.lists.ensures) ∙ c.if-not-lists.true) (ap One c.refusal-then-not-lists.ensures)

pub returns-then-not-needs-clause-ok : goal.returns-then-not-needs-clause-ok
returns-then-not-needs-clause-ok g c =
    let word : is_some (free_word (seen_held g.D.Device.state c.args.session.now.held)) ≡ true = ap is_some (sym c.free_word.ensures.word) ∙ has_word c.free_word.result c.is_none.result c.is_none.ensures c.if-is_none.false in
    opens_now c.args.users.now (request_context g.D.Device.state c.args.session.now c.args.registry.now c.args.challenger.now) c.args.name c.backend_of-backend.result.now c.take_device.result _ c.needs.result word (sym (rw c.as_bytes.ensures.bytes at c.lists.ensures) ∙ c.if-not-lists.false) (rw c.as_bytes-2.ensures.bytes at c.backend_of-backend.ensures) c.needs.ensures c.if-not-needs.true (rw c.as_bytes-then-not-needs.ensures.bytes at c.take_device.ensures c.args.challenger.now)

pub returns-clause-ok : goal.returns-clause-ok
returns-clause-ok g c =
    let word : is_some (free_word (seen_held g.D.Device.state c.args.session.now.held)) ≡ true = ap is_some (sym c.free_word.ensures.word) ∙ has_word c.free_word.result c.is_none.result c.is_none.ensures c.if-is_none.false in
    opens_asking c.args.users.now (request_context g.D.Device.state c.args.session.now c.args.registry.now c.args.challenger.now) c.args.name c.backend_of-backend.result.now c.in_ok-challenge.challenge c.in_ok-resource.resource c.next.new.self _ c.needs.result word (sym (rw c.as_bytes.ensures.bytes at c.lists.ensures) ∙ c.if-not-lists.false) (rw c.as_bytes-2.ensures.bytes at c.backend_of-backend.ensures) c.needs.ensures c.if-not-needs.false
    (λ seed k given. (c.in_ok-challenge.ensures.text seed k given, c.in_ok-challenge.ensures.ok seed k given)) (rw c.as_bytes-3.ensures.bytes at c.in_ok-resource.ensures) (ap (λ (x : List ℕ). replies.Open Good 0 x) c.in_ok-try_clone.ensures.equal)

pub returns-in_err-resource-clause-err : goal.returns-in_err-resource-clause-err
returns-in_err-resource-clause-err g c = drew _ (request_context g.D.Device.state c.args.session.now c.args.registry.now c.args.challenger.now) c.in_ok-challenge.challenge c.next.new.self (λ seed k given. (c.in_ok-challenge.ensures.text seed k given, c.in_ok-challenge.ensures.ok seed k given))

pub returns-in_err-try_clone-clause-err : goal.returns-in_err-try_clone-clause-err
returns-in_err-try_clone-clause-err g c = drew _ (request_context g.D.Device.state c.args.session.now c.args.registry.now c.args.challenger.now) c.in_ok-challenge.challenge c.next.new.self (λ seed k given. (c.in_ok-challenge.ensures.text seed k given, c.in_ok-challenge.ensures.ok seed k given))
