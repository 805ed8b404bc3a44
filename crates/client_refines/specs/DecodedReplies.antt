-- What a reply of the wire is to the model, at each thing that a client may wait for.
use Rattle.std.specs.Prelude.{ℕ, ◌≡◌, nat_lt, true, Option, Some, None, List, [], ◌∷◌, map, length}
use Rattle.sane_fixed.specs.declared.status.Status.{Status}
use Rattle.sane_fixed.specs.declared.status.Status.TheVariants as statuses
use Rattle.sane_fixed.specs.declared.info.Info.{Info}
use Rattle.option_desc.specs.declared.value.Value.{Value}
use Rattle.sane_fixed.specs.declared.device_info.DeviceInfo.{DeviceInfo}
use Rattle.md5_auth.specs.ChallengeReading.{challenge_of}
use Rattle.wire_message.specs.declared.message.Reply.{Reply}
use Rattle.wire_message.specs.declared.message.Reply.TheVariants as replies
use Rattle.scan_job.specs.declared.outcome.Why.{Why}
use Rattle.scan_job.specs.declared.outcome.Why.TheVariants as whys
use Rattle.client_replies.specs.declared.progress.Progress.{Progress}
use Rattle.client_replies.specs.declared.progress.Progress.TheVariants as stages
use Rattle.client_replies.specs.ReplyTurns.{of_kind}
use Rattle.client_replies.specs.GivenValues.{given_like, wire_value_in}
use Rattle.system_model.specs.AbstractMessages as words
use Rattle.system_model.specs.Devices.{abstract_info}

-- **decoded reply (`DecodedReply`, `decoded_reply_at`)**: what a reply of the wire is to the model, by what the client
-- waits for. It is an answer, or the word of AUTHORIZE, which goes before one, or a request for the password itself,
-- for which the client has no word. A reply of another shape than the awaited one answers what nobody asked. So does a
-- reply while none is awaited.
pub data DecodedReply : Type 0 where
  Before : DecodedReply
  Says : (answer : words.AbstractReply) → DecodedReply
  Demands : DecodedReply

-- a reply of another shape than what is awaited, or while none is awaited: an answer to what nobody asked
abbrev pub mismatched_reply : DecodedReply
mismatched_reply = Says words.Acked

abbrev pub reply_if_good : Status → words.AbstractReply → DecodedReply
reply_if_good statuses.Good answer = Says answer
reply_if_good status answer = Says (words.Refused status)

-- a resource with a challenge in it is what the model calls a challenge; one with none asks for the password
abbrev pub challenge_reply : List ℕ → Option (List ℕ) → DecodedReply
challenge_reply resource None = Demands
challenge_reply resource (Some challenge) = Says (words.Challenged resource)

abbrev pub opened_reply : Status → List ℕ → DecodedReply
opened_reply status [] = reply_if_good status words.Opened
opened_reply status (b ∷ bytes) = challenge_reply (b ∷ bytes) (challenge_of (b ∷ bytes))

-- where no resource may be
abbrev pub reply_without_resource : List ℕ → DecodedReply → DecodedReply
reply_without_resource [] decoded = decoded
reply_without_resource (b ∷ bytes) decoded = mismatched_reply

abbrev pub gave_or_acked : Option Value → Info → words.AbstractReply
gave_or_acked None info = words.Acked
gave_or_acked (Some value) info = words.Gave value (abstract_info info)

abbrev pub got_or_acked : Option Value → words.AbstractReply
got_or_acked None = words.Acked
got_or_acked (Some value) = words.Got value

abbrev pub decoded_reply_at : (DeviceInfo → ℕ) → Progress → Reply → DecodedReply
decoded_reply_at place stages.Greeting (replies.Init status version) = reply_if_good status words.Greeted
decoded_reply_at place stages.Greeting reply = mismatched_reply
decoded_reply_at place stages.Listing (replies.GetDevices status devices) =
    reply_if_good status (words.Listed (map place devices))
decoded_reply_at place stages.Listing reply = mismatched_reply
decoded_reply_at place stages.Opening (replies.Open status word resource) = opened_reply status resource
decoded_reply_at place stages.Opening reply = mismatched_reply
decoded_reply_at place (stages.Allowing resource answer) replies.Authorize = Before
decoded_reply_at place (stages.Allowing resource answer) reply = mismatched_reply
decoded_reply_at place stages.Reopening (replies.Open status word resource) = opened_reply status resource
decoded_reply_at place stages.Reopening reply = mismatched_reply
decoded_reply_at place stages.Describing (replies.GetOptionDescriptors descriptors) = Says (words.Described descriptors)
decoded_reply_at place stages.Describing reply = mismatched_reply
decoded_reply_at place (stages.Putting n kind name asked) (replies.ControlOption status info given value resource) =
    reply_without_resource resource
    (reply_if_good status (gave_or_acked (of_kind kind given (given_like asked value)) info))
decoded_reply_at place (stages.Putting n kind name asked) reply = mismatched_reply
decoded_reply_at place (stages.Getting n kind size) (replies.ControlOption status info given value resource) =
    reply_without_resource resource
    (reply_if_good status (got_or_acked (of_kind kind given (wire_value_in kind value))))
decoded_reply_at place (stages.Getting n kind size) reply = mismatched_reply
decoded_reply_at place (stages.Starting first) (replies.Start status port order resource) =
    reply_without_resource resource (reply_if_good status (words.Begun order))
decoded_reply_at place (stages.Starting first) reply = mismatched_reply
decoded_reply_at place (stages.Shaping port order) (replies.GetParameters status params) =
    reply_if_good status (words.Shaped params)
decoded_reply_at place (stages.Shaping port order) reply = mismatched_reply
decoded_reply_at place progress reply = mismatched_reply

-- an array of a message has at most 1,024 elements
abbrev pub HasShortArray : Reply → Type 0
HasShortArray (replies.GetOptionDescriptors descriptors) = nat_lt (length descriptors) 1025 ≡ true
HasShortArray reply = Unit {0}

abbrev pub IsShortAt : Progress → Reply → Type 0
IsShortAt stages.Describing reply = HasShortArray reply
IsShortAt progress reply = Unit {0}
