-- What private functions alone promise.
use Rattle.std.specs.Prelude.{◌≡◌, ◌⊎◌, List}
use Rattle.rand_chacha.specs.ChaCha.{ChaCha}
use Rattle.device_api.specs.State.{DeviceState}
use Rattle.dispatch.specs.declared.table.place.Place.{Place}
use Rattle.saned_requests.specs.declared.request_answer.RequestAnswer.{RequestAnswer}
use Rattle.saned_requests.specs.declared.session.Session.{Session}
use Rattle.saned_requests.specs.RequestAnswers.{ContextOutcome, IsContextOutcome, RequestContext, request_context}

-- A request that bears on its session alone: whatever the table is, and whence challenges come, what is said and what
-- becomes of the session is the rule's outcome.
abbrev pub GoesBy : {D : Type 0} → (D → DeviceState) → (RequestContext → ContextOutcome) → Session D → RequestAnswer
    → Session D → Type 0
GoesBy {D} state rule was said now = (registry : List (Place D)) (stream : ChaCha)
    → IsContextOutcome (rule (request_context state was registry stream)) said
    (request_context state now registry stream)

-- likewise of a change of the session: nothing was done, or all of it
abbrev pub StaysOrGoesBy : {D : Type 0} → (D → DeviceState) → (RequestContext → RequestContext) → Session D → Session D
    → Type 0
StaysOrGoesBy {D} state change was now = (registry : List (Place D)) (stream : ChaCha)
    → (request_context state now registry stream ≡ request_context state was registry stream)
    ⊎ (request_context state now registry stream ≡ change (request_context state was registry stream))
