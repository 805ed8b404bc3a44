-- What a request context is after a close.
use Rattle.std.proofs.Common.{◌≡◌, ℕ, List, Option, Some, None, refl, ap, ◌∙◌, sym}
use Rattle.device_api.specs.State.{DeviceState}
use Rattle.dispatch.specs.declared.table.place.Lease.{Lease}
use Rattle.dispatch.specs.Table.{Table, after_give_back}
use Rattle.wire_message.specs.declared.message.Reply.TheVariants as replies
use Rattle.saned_requests.specs.declared.request_answer.RequestAnswer.TheVariants.{One}
use Rattle.saned_requests.specs.declared.session.DataPhase.{DataPhase}
use Rattle.saned_requests.specs.Holding.{held_by, on_word}
use Rattle.saned_requests.specs.RequestAnswers.{RequestContext, IsContextOutcome, with_held, close, close_lease, data_phase_off}
use Rattle.saned_requests.proofs.LeaseWords.{on_word-none}

pub closes_nothing : (d : RequestContext) (word : ℕ) (held : List (Option (Lease DeviceState))) → held_by d.session.held word ≡ None → held ≡ on_word (λ _. None) d.session.held word → IsContextOutcome (close d word) (One replies.Close) (with_held d held)
closes_nothing d word held e h =
    let same : held ≡ d.session.held = h ∙ on_word-none d.session.held word e in
    (refl, ap (with_held d) same ∙ sym (ap (close_lease d word) e))

pub closes : (d : RequestContext) (word : ℕ) (lease : Lease DeviceState) (held : List (Option (Lease DeviceState))) (transfer : DataPhase) (registry : Table)
    → held_by d.session.held word ≡ Some lease → held ≡ on_word (λ _. None) d.session.held word → transfer ≡ data_phase_off d.session.transfer word → registry ≡ after_give_back d.registry lease
    → IsContextOutcome (close d word) (One replies.Close) (record d { session = record d.session { held = held; transfer = transfer }; registry = registry })
closes d word lease held transfer registry e h c r =
    let make : List (Option (Lease DeviceState)) → DataPhase → Table → RequestContext = λ x y z. record d { session = record d.session { held = x; transfer = y }; registry = z } in
    (refl, ap (λ x. make x transfer registry) h ∙ ap (λ y. make (on_word (λ _. None) d.session.held word) y registry) c ∙ ap (λ z. make (on_word (λ _. None) d.session.held word) (data_phase_off d.session.transfer word) z) r ∙ sym (ap (close_lease d word) e))
