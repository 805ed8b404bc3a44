-- What laws of this crate say.
use Rattle.std.specs.Prelude.{◌≡◌, ◌≢◌, ◌++◌, ℕ, List, Option, Some, true}
use Rattle.device_api.specs.State.{DeviceState}
use Rattle.wire_format.specs.Lawful.{SpellsFront}
use Rattle.wire_format.specs.Limit.{limited_format}
use Rattle.wire_message.specs.Message.{message_limit, request as request_format}
use Rattle.wire_message.specs.declared.message.Request.{Request as AnyRequest}
use Rattle.saned_requests.specs.declared.request_answer.RequestAnswer.{RequestAnswer as AnySaid}
use Rattle.saned_core.specs.declared.session_slot.SessionSlot.{SessionSlot as ASlot}
use Rattle.saned_core.specs.DaemonStates.{session_slot_of, on_session_slot}
use Rattle.saned_requests.specs.RequestAnswers.{RequestContext, Answers}
use Rattle.saned_core.specs.Feeding.{FedPiece, FeedProgress, AnsweredSoFar, SaysAll, session_goes_on, replies_to}

-- one more request is answered on the context that those before it left
abbrev pub OneMoreIsAnswered : Type 0
OneMoreIsAnswered =
    (fed : FedPiece) (now : FeedProgress) (new : RequestContext) (left more : List ℕ) (q : AnyRequest) (said : AnySaid)
    → AnsweredSoFar fed now → SpellsFront (limited_format message_limit request_format) now.rest left q
    → Answers fed.users now.context q said new → session_goes_on said ≡ true → SaysAll (replies_to said) more
    → AnsweredSoFar fed (record { context = new; rest = left; text = now.text ++ more })

-- what is done to one session changes no other one
abbrev pub SessionsAreIndependent : Type 0
SessionsAreIndependent =
    (slots : List (Option (ASlot DeviceState))) (f : ASlot DeviceState → Option (ASlot DeviceState)) (n m : ℕ)
    → ((slot new : ASlot DeviceState) → f slot ≡ Some new → new.number ≡ slot.number) → n ≢ m
    → session_slot_of (on_session_slot f n slots) m ≡ session_slot_of slots m
