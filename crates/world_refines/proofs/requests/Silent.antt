-- What the daemon says as a session ends, and what of an answer is never too long.
use Rattle.std.proofs.Common.{◌≡◌, ◌∙◌, ℕ, List, [], Bool, true, false, Option, Some, None, refl, ap}
use Rattle.md5_auth.specs.declared.users.Entry.{Entry}
use Rattle.wire_message.specs.declared.message.Request.{Request as Asked}
use Rattle.wire_message.specs.declared.message.Request.TheVariants as requests
use Rattle.saned_requests.specs.declared.session.AwaitedAuthorization.{AwaitedAuthorization}
use Rattle.saned_requests.specs.declared.request_answer.RequestAnswer.{RequestAnswer}
use Rattle.saned_requests.specs.declared.request_answer.RequestAnswer.TheVariants.{Last}
use Rattle.saned_requests.specs.Holding.{free_word}
use Rattle.saned_requests.specs.RequestAnswers.{Answers, AnswersAwaiting, AnswersBy, AnswersFree, AnswersGreeted, RequestContext, IsContextOutcome, first_answer, greeting}
use Rattle.dispatch.specs.Table.{find_name}
use Rattle.saned_core.specs.Feeding.{session_goes_on, replies_to}
use Rattle.daemon_refines.proofs.Greeted.{goes, open_ends}

-- ---- nothing is said as it ends

-- INIT is of the daemon's own version
abbrev pub IsOwnInit : Asked → Type 0
IsOwnInit (requests.Init version user) = version ≡ 16777219
IsOwnInit q = Unit {0}

nothing : (said : RequestAnswer) → said ≡ Last None → replies_to said ≡ []
nothing said e = ap replies_to e

init_goes : (version : ℕ) (said : RequestAnswer) → version ≡ 16777219 → said ≡ greeting version → session_goes_on said ≡ false → ⊥
init_goes version said own is off = goes said (greeting 16777219) (is ∙ ap greeting own) refl off

free_silent : (users : List Entry) (d : RequestContext) (q : Asked) (said : RequestAnswer) (new : RequestContext) → IsOwnInit q → AnswersFree users d q said new → session_goes_on said ≡ false → replies_to said ≡ []
free_silent users d (requests.Init version user) said new own g off = absurd (init_goes version said own g.0 off)
free_silent users d (requests.Open name) said new own g off = absurd (open_ends users d name (free_word d.session.held) (find_name name d.registry) said new g off)
free_silent users d (requests.Start w) said new own g off = absurd (goes said _ g.gives.0 refl off)
free_silent users d (requests.Authorize resource user password) said new own g off = nothing said g.0
free_silent users d requests.Exit said new own g off = nothing said g.0
free_silent users d q said new own g off = absurd (goes said _ g.0 refl off)

awaiting_silent : (users : List Entry) (d : RequestContext) (aw : AwaitedAuthorization) (q : Asked) (said : RequestAnswer) (new : RequestContext) → AnswersAwaiting users d aw q said new → session_goes_on said ≡ false → replies_to said ≡ []
awaiting_silent users d aw (requests.Authorize resource user password) said new g off = absurd (goes said _ g.gives.0 refl off)
awaiting_silent users d aw q said new g off = nothing said g.0

greeted_silent : (users : List Entry) (d : RequestContext) (a : Option AwaitedAuthorization) (q : Asked) (said : RequestAnswer) (new : RequestContext) → IsOwnInit q → AnswersGreeted users d a q said new → session_goes_on said ≡ false → replies_to said ≡ []
greeted_silent users d None q said new own g off = free_silent users d q said new own g off
greeted_silent users d (Some aw) q said new own g off = awaiting_silent users d aw q said new g off

first_silent : (d : RequestContext) (q : Asked) (said : RequestAnswer) (new : RequestContext) → IsOwnInit q → IsContextOutcome (first_answer d q) said new → session_goes_on said ≡ false → replies_to said ≡ []
first_silent d (requests.Init version user) said new own g off = absurd (init_goes version said own g.0 off)
first_silent d q said new own g off = nothing said g.0

by_silent : (users : List Entry) (d : RequestContext) (b : Bool) (q : Asked) (said : RequestAnswer) (new : RequestContext) → IsOwnInit q → AnswersBy b users d q said new → session_goes_on said ≡ false → replies_to said ≡ []
by_silent users d true q said new own g off = greeted_silent users d d.session.awaited q said new own g off
by_silent users d false q said new own g off = first_silent d q said new own g off

pub ends_silent : (users : List Entry) (d : RequestContext) (q : Asked) (said : RequestAnswer) (new : RequestContext) → IsOwnInit q → Answers users d q said new → session_goes_on said ≡ false → replies_to said ≡ []
ends_silent users d q said new own g off = by_silent users d d.session.greeted q said new own g off
