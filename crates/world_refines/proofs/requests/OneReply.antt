-- The shape of what the daemon says: one reply to a request, and to AUTHORIZE its word and then the reply of OPEN.
use Rattle.std.specs.Prelude.{Err, Ok, Result, if◌then◌else◌, ◌==◌}
use Rattle.std.proofs.Common.{◌≡◌, ◌⊎◌, inl, inr, ◌∙◌, ℕ, ◌/◌, List, [], Bool, true, false, Option, Some, None, refl, sym, ap}
use Rattle.md5_auth.specs.declared.users.Entry.{Entry}
use Rattle.wire_message.specs.declared.message.Request.{Request as Asked}
use Rattle.wire_message.specs.declared.message.Request.TheVariants as requests
use Rattle.wire_message.specs.declared.message.Reply.{Reply as Wire}
use Rattle.wire_message.specs.declared.message.Reply.TheVariants as replies
use Rattle.sane_fixed.specs.declared.status.Status.{Status}
use Rattle.sane_fixed.specs.declared.status.Status.TheVariants as statuses
use Rattle.device_api.specs.State.{DeviceState}
use Rattle.dispatch.specs.declared.table.place.Lease.{Lease}
use Rattle.dispatch.specs.Table.{find_name, take_answer}
use Rattle.saned_requests.specs.declared.session.AwaitedAuthorization.{AwaitedAuthorization}
use Rattle.saned_requests.specs.declared.request_answer.RequestAnswer.{RequestAnswer}
use Rattle.saned_requests.specs.declared.request_answer.RequestAnswer.TheVariants.{One, Two, Last}
use Rattle.saned_requests.specs.Holding.{free_word}
use Rattle.saned_requests.specs.RequestAnswers.{Answers, AnswersAwaiting, AnswersBy, AnswersFree, AnswersGreeted, RequestContext, IsContextOutcome, OpensAt, reply_if_allowed, first_answer, without_awaited, take_into, reply_of_take}
use Rattle.saned_core.specs.Feeding.{session_goes_on}

abbrev pub HasShape : Asked → RequestAnswer → Type 0
HasShape (requests.Authorize resource user password) said = (r : Wire) × (said ≡ Two replies.Authorize r)
HasShape q said = (r : Wire) × (said ≡ One r)

abbrev pub IsOne : RequestAnswer → Type 0
IsOne said = (r : Wire) × (said ≡ One r)

never_last : (said : RequestAnswer) (r : Option Wire) → said ≡ Last r → session_goes_on said ≡ true → ⊥
never_last said r e on = let clash : false ≡ true = sym (ap session_goes_on e) ∙ on in absurd (cc)

greeting_one : (b : Bool) (x y : Wire) (said : RequestAnswer) → said ≡ (if b then One x else Last (Some y)) → session_goes_on said ≡ true → IsOne said
greeting_one true x y said e on = (x, e)
greeting_one false x y said e on = absurd (never_last said (Some y) e on)

opens_one : (users : List Entry) (d : RequestContext) (name : List ℕ) (free place : Option ℕ) (said : RequestAnswer) (new : RequestContext) → OpensAt users d name free place said new → IsOne said
opens_one users d name None place said new g = (_, g.0)
opens_one users d name (Some word) None said new g = (_, g.0)
opens_one users d name (Some word) (Some place) said new (inl asks) = (_, asks.said_is)
opens_one users d name (Some word) (Some place) said new (inr now) = (_, now.taken.0)

free_shape : (users : List Entry) (d : RequestContext) (q : Asked) (said : RequestAnswer) (new : RequestContext) → AnswersFree users d q said new → session_goes_on said ≡ true → HasShape q said
free_shape users d (requests.Init version user) said new g on = greeting_one (version / 16777216 == 1) _ _ said g.0 on
free_shape users d (requests.Open name) said new g on = opens_one users d name (free_word d.session.held) (find_name name d.registry) said new g
free_shape users d (requests.Start w) said new g on = (_, g.gives.0)
free_shape users d (requests.Authorize resource user password) said new g on = absurd (never_last said None g.0 on)
free_shape users d requests.Exit said new g on = absurd (never_last said None g.0 on)
free_shape users d q said new g on = (_, g.0)

awaiting_shape : (users : List Entry) (d : RequestContext) (awaited : AwaitedAuthorization) (q : Asked) (said : RequestAnswer) (new : RequestContext) → AnswersAwaiting users d awaited q said new → session_goes_on said ≡ true → HasShape q said
awaiting_shape users d awaited (requests.Authorize resource user password) said new g on = (_, g.gives.0)
awaiting_shape users d awaited q said new g on = absurd (never_last said None g.0 on)

greeted_shape : (users : List Entry) (d : RequestContext) (a : Option AwaitedAuthorization) (q : Asked) (said : RequestAnswer) (new : RequestContext) → AnswersGreeted users d a q said new → session_goes_on said ≡ true → HasShape q said
greeted_shape users d None q said new g on = free_shape users d q said new g on
greeted_shape users d (Some awaited) q said new g on = awaiting_shape users d awaited q said new g on

first_shape : (d : RequestContext) (q : Asked) (said : RequestAnswer) (new : RequestContext) → IsContextOutcome (first_answer d q) said new → session_goes_on said ≡ true → HasShape q said
first_shape d (requests.Init version user) said new g on = greeting_one (version / 16777216 == 1) _ _ said g.0 on
first_shape d q said new g on = absurd (never_last said None g.0 on)

by_shape : (users : List Entry) (d : RequestContext) (b : Bool) (q : Asked) (said : RequestAnswer) (new : RequestContext) → AnswersBy b users d q said new → session_goes_on said ≡ true → HasShape q said
by_shape users d true q said new g on = greeted_shape users d d.session.awaited q said new g on
by_shape users d false q said new g on = first_shape d q said new g on

pub said_shape : (users : List Entry) (d : RequestContext) (q : Asked) (said : RequestAnswer) (new : RequestContext) → Answers users d q said new → session_goes_on said ≡ true → HasShape q said
said_shape users d q said new g on = by_shape users d d.session.greeted q said new g on

pub either_shape : (q : Asked) (said : RequestAnswer) → HasShape q said → IsOne said ⊎ ((resource user password : List ℕ) × (r : Wire) × (q ≡ requests.Authorize resource user password) × (said ≡ Two replies.Authorize r))
either_shape (requests.Authorize resource user password) said h = inr (resource, user, password, h.0, refl, h.1)
either_shape q said h = inl h

-- ---- the reply of OPEN behind AUTHORIZE's word

-- it is a refusal, or has the least free word
pub record IsOpenReply (d : RequestContext) (w : Wire) : Type 0 where
  pub status : Status
  pub word : ℕ
  pub is : w ≡ replies.Open status word []
  pub least : (word ≡ 0) ⊎ (free_word d.session.held ≡ Some word)

took_is : (d : RequestContext) (word : ℕ) (taken : Result (Lease DeviceState) Status) → free_word d.session.held ≡ Some word → IsOpenReply d (reply_of_take d word taken).0
took_is d word (Ok lease) e = record { status = statuses.Good; word = word; is = refl; least = inr e }
took_is d word (Err status) e = record { status = status; word = 0; is = refl; least = inl refl }

into_is : (d : RequestContext) (name : List ℕ) (free : Option ℕ) → free_word d.session.held ≡ free → IsOpenReply d (take_into d name free).0
into_is d name None e = record { status = statuses.Unsupported; word = 0; is = refl; least = inl refl }
into_is d name (Some word) e = took_is d word (take_answer d.registry name) e

answered_is : (allowed : Bool) (d : RequestContext) (name : List ℕ) → IsOpenReply d (reply_if_allowed allowed d name).0
answered_is true d name = into_is d name (free_word d.session.held) refl
answered_is false d name = record { status = statuses.AccessDenied; word = 0; is = refl; least = inl refl }

authorize_reply : (users : List Entry) (d : RequestContext) (a : Option AwaitedAuthorization) (resource user password : List ℕ) (said : RequestAnswer) (new : RequestContext) (r : Wire) → AnswersGreeted users d a (requests.Authorize resource user password) said new → said ≡ Two replies.Authorize r → IsOpenReply d r
authorize_reply users d None resource user password said new r g e = absurd (let clash : Two replies.Authorize r ≡ Last None = sym e ∙ g.0 in cc)
authorize_reply users d (Some awaited) resource user password said new r g e =
    let o = answered_is g.allowed (without_awaited d) awaited.name in
    let both : Two replies.Authorize r ≡ Two replies.Authorize (reply_if_allowed g.allowed (without_awaited d) awaited.name).0 = sym e ∙ g.gives.0 in
    let same : r ≡ (reply_if_allowed g.allowed (without_awaited d) awaited.name).0 = cc in
    record { status = o.status; word = o.word; is = same ∙ o.is; least = o.least }

by_reply : (users : List Entry) (d : RequestContext) (b : Bool) (resource user password : List ℕ) (said : RequestAnswer) (new : RequestContext) (r : Wire) → AnswersBy b users d (requests.Authorize resource user password) said new → said ≡ Two replies.Authorize r → IsOpenReply d r
by_reply users d true resource user password said new r g e = authorize_reply users d d.session.awaited resource user password said new r g e
by_reply users d false resource user password said new r g e = absurd (let clash : Two replies.Authorize r ≡ Last None = sym e ∙ g.0 in cc)

pub open_reply : (users : List Entry) (d : RequestContext) (resource user password : List ℕ) (said : RequestAnswer) (new : RequestContext) (r : Wire) → Answers users d (requests.Authorize resource user password) said new → said ≡ Two replies.Authorize r → IsOpenReply d r
open_reply users d resource user password said new r g e = by_reply users d d.session.greeted resource user password said new r g e
