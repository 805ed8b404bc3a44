-- What is answered to each request, from what is answered to those of a kind.
use Rattle.std.proofs.Common.{◌≡◌, ℕ, Bool, true, false, List, Option, Some, Result, Ok, Err, ap, subst, sym}
use Rattle.std.specs.Prelude.{IfOk, IfErr, OnErr}
use Rattle.md5_auth.specs.declared.users.Entry.{Entry}
use Rattle.wire_message.specs.declared.message.Request.{Request}
use Rattle.saned_requests.specs.declared.request_answer.RequestAnswer.{RequestAnswer}
use Rattle.saned_requests.specs.declared.session.AwaitedAuthorization.{AwaitedAuthorization}
use Rattle.saned_requests.specs.RequestAnswers.{RequestContext, IsContextOutcome, Authorizes, with_awaited, first_answer, Answers, AnswersBy, AnswersGreeted, AnswersAwaiting}

-- at one table and one stream what holds at all
pub if_ok_at : {A E B C : Type 0} (P : A → B → C → Type 0) (r : Result A E) (b : B) (c : C) → IfOk r (λ a. (y : B) (z : C) → P a y z) → IfOk r (λ a. P a b c)
if_ok_at P (Ok a) b c h = h b c
if_ok_at P (Err e) b c h = tt

pub on_err_at : {A E B C : Type 0} (P : B → C → Type 0) (r : Result A E) (b : B) (c : C) → OnErr r ((y : B) (z : C) → P y z) → OnErr r (P b c)
on_err_at P (Ok a) b c h = tt
on_err_at P (Err e) b c h = h b c

pub if_err_at : {A E B C : Type 0} (P : B → C → Type 0) (r : Result A E) (b : B) (c : C) → IfErr r (λ _. (y : B) (z : C) → P y z) → OnErr r (P b c)
if_err_at P (Ok a) b c h = tt
if_err_at P (Err e) b c h = h b c

-- ---- by what the session awaits

pub authorizes_awaiting : (users : List Entry) (d : RequestContext) (awaited : AwaitedAuthorization) (resource user password : List ℕ) (said : RequestAnswer) (new : RequestContext) → Authorizes users d awaited resource user password said new → Authorizes users (with_awaited d awaited) awaited resource user password said new
authorizes_awaiting users d awaited resource user password said new a = record { allowed = a.allowed; yes_where = a.yes_where; no_where = a.no_where; gives = a.gives }

pub answers_first : (users : List Entry) (d : RequestContext) (request : Request) (said : RequestAnswer) (new : RequestContext) → d.session.greeted ≡ false → IsContextOutcome (first_answer d request) said new → Answers users d request said new
answers_first users d request said new e h = subst (λ (b : Bool). AnswersBy b users d request said new) (sym e) h

pub answers_awaiting : (users : List Entry) (d : RequestContext) (awaited : AwaitedAuthorization) (request : Request) (said : RequestAnswer) (new : RequestContext) → d.session.greeted ≡ true → d.session.awaited ≡ Some awaited → AnswersAwaiting users (with_awaited d awaited) awaited request said new → Answers users d request said new
answers_awaiting users d awaited request said new g e h =
    let same : with_awaited d awaited ≡ d = ap (λ (x : Option AwaitedAuthorization). record d { session = record d.session { awaited = x } }) (sym e) in
    let there : AnswersAwaiting users d awaited request said new = subst (λ (x : RequestContext). AnswersAwaiting users x awaited request said new) same h in
    subst (λ (b : Bool). AnswersBy b users d request said new) (sym g) (subst (λ (o : Option AwaitedAuthorization). AnswersGreeted users d o request said new) (sym e) there)
