-- A session that was greeted stays so, and one that ends keeps its words until they go back.
use Rattle.std.proofs.Common.{inl, inr, ◌≡◌, ◌∙◌, ℕ, List, Bool, true, false, Option, Some, None, refl, sym, ap}
use Rattle.std.specs.Prelude.{Result, Ok, Err}
use Rattle.sane_fixed.specs.declared.status.Status.{Status as Code}
use Rattle.md5_auth.specs.declared.users.Entry.{Entry}
use Rattle.device_api.specs.State.{DeviceState}
use Rattle.dispatch.specs.declared.table.place.Lease.{Lease}
use Rattle.dispatch.specs.Table.{find_name, take_answer}
use Rattle.wire_message.specs.declared.message.Request.{Request as Asked}
use Rattle.wire_message.specs.declared.message.Request.TheVariants as requests
use Rattle.saned_requests.specs.declared.session.AwaitedAuthorization.{AwaitedAuthorization}
use Rattle.saned_requests.specs.declared.request_answer.RequestAnswer.{RequestAnswer}
use Rattle.saned_requests.specs.Holding.{free_word, held_by}
use Rattle.saned_requests.specs.RequestAnswers.{Answers, AnswersAwaiting, AnswersBy, AnswersFree, AnswersGreeted, RequestContext, IsContextOutcome, OpensAt, reply_if_allowed, cancel_held, close_lease, first_answer, greet, without_awaited, take_device, take_into, reply_of_take}
use Rattle.saned_core.specs.Feeding.{session_goes_on}

abbrev pub is_greeted : RequestContext → Bool
is_greeted d = d.session.greeted

-- ---- it stays greeted

as_before : (d e new : RequestContext) → new ≡ e → is_greeted e ≡ is_greeted d → is_greeted d ≡ true → is_greeted new ≡ true
as_before d e new n same h = ap is_greeted n ∙ same ∙ h

took_greeted : (d : RequestContext) (w : ℕ) (r : Result (Lease DeviceState) Code) → is_greeted (reply_of_take d w r).1 ≡ is_greeted d
took_greeted d w (Ok l) = refl
took_greeted d w (Err e) = refl

into_greeted : (d : RequestContext) (name : List ℕ) (o : Option ℕ) → is_greeted (take_into d name o).1 ≡ is_greeted d
into_greeted d name None = refl
into_greeted d name (Some w) = took_greeted d w (take_answer d.registry name)

answered_greeted : (b : Bool) (d : RequestContext) (name : List ℕ) → is_greeted (reply_if_allowed b d name).1 ≡ is_greeted d
answered_greeted true d name = into_greeted d name (free_word d.session.held)
answered_greeted false d name = refl

open_greeted : (users : List Entry) (d : RequestContext) (name : List ℕ) (free found : Option ℕ) (said : RequestAnswer) (new : RequestContext) → OpensAt users d name free found said new → is_greeted d ≡ true → is_greeted new ≡ true
open_greeted users d name None found said new g h = as_before d d new g.1 refl h
open_greeted users d name (Some w) None said new g h = as_before d d new g.1 refl h
open_greeted users d name (Some w) (Some k) said new (inl asks) h = ap is_greeted asks.new_is ∙ h
open_greeted users d name (Some w) (Some k) said new (inr now) h = as_before d (take_device d name).1 new now.taken.1 (into_greeted d name (free_word d.session.held)) h

close_greeted : (d : RequestContext) (w : ℕ) (o : Option (Lease DeviceState)) → is_greeted (close_lease d w o) ≡ is_greeted d
close_greeted d w None = refl
close_greeted d w (Some l) = refl

cancel_greeted : (d : RequestContext) (w : ℕ) (o : Option (Lease DeviceState)) → is_greeted (cancel_held d w o) ≡ is_greeted d
cancel_greeted d w None = refl
cancel_greeted d w (Some l) = refl

free_greeted : (users : List Entry) (d : RequestContext) (q : Asked) (said : RequestAnswer) (new : RequestContext) → AnswersFree users d q said new → is_greeted d ≡ true → is_greeted new ≡ true
free_greeted users d (requests.Init version user) said new g h = ap is_greeted g.1
free_greeted users d (requests.Open name) said new g h = open_greeted users d name (free_word d.session.held) (find_name name d.registry) said new g h
free_greeted users d (requests.Close w) said new g h = as_before d (close_lease d w (held_by d.session.held w)) new g.1 (close_greeted d w (held_by d.session.held w)) h
free_greeted users d (requests.ControlOption w n action kind value) said new g h = ap is_greeted g.1 ∙ h
free_greeted users d (requests.Start w) said new g h = ap is_greeted g.gives.1 ∙ ap is_greeted g.starts.new_is ∙ h
free_greeted users d (requests.Cancel w) said new g h = as_before d (cancel_held d w (held_by d.session.held w)) new g.1 (cancel_greeted d w (held_by d.session.held w)) h
free_greeted users d q said new g h = as_before d d new g.1 refl h

awaiting_greeted : (users : List Entry) (d : RequestContext) (aw : AwaitedAuthorization) (q : Asked) (said : RequestAnswer) (new : RequestContext) → AnswersAwaiting users d aw q said new → is_greeted d ≡ true → is_greeted new ≡ true
awaiting_greeted users d aw (requests.Authorize resource user password) said new g h = ap is_greeted g.gives.1 ∙ answered_greeted g.allowed (without_awaited d) aw.name ∙ h
awaiting_greeted users d aw q said new g h = as_before d d new g.1 refl h

pub stays_greeted : (users : List Entry) (d : RequestContext) (a : Option AwaitedAuthorization) (q : Asked) (said : RequestAnswer) (new : RequestContext) → AnswersGreeted users d a q said new → is_greeted d ≡ true → is_greeted new ≡ true
stays_greeted users d None q said new g h = free_greeted users d q said new g h
stays_greeted users d (Some aw) q said new g h = awaiting_greeted users d aw q said new g h

-- ---- an end leaves the words and the registry

pub record SameWords (d new : RequestContext) : Type 0 where
  pub held : new.session.held ≡ d.session.held
  pub registry : new.registry ≡ d.registry

pub same_words : (d e new : RequestContext) → new ≡ e → e.session.held ≡ d.session.held → e.registry ≡ d.registry → SameWords d new
same_words d e new n held registry = record { held = ap (λ (x : RequestContext). x.session.held) n ∙ held; registry = ap (λ (x : RequestContext). x.registry) n ∙ registry }

-- what goes on is no end
pub goes : (said other : RequestAnswer) → said ≡ other → session_goes_on other ≡ true → session_goes_on said ≡ false → ⊥
goes said other e on no_more = let clash : true ≡ false = sym on ∙ sym (ap session_goes_on e) ∙ no_more in absurd (cc)

pub open_ends : (users : List Entry) (d : RequestContext) (name : List ℕ) (free found : Option ℕ) (said : RequestAnswer) (new : RequestContext) → OpensAt users d name free found said new → session_goes_on said ≡ false → ⊥
open_ends users d name None found said new g off = goes said _ g.0 refl off
open_ends users d name (Some w) None said new g off = goes said _ g.0 refl off
open_ends users d name (Some w) (Some k) said new (inl asks) off = goes said _ asks.said_is refl off
open_ends users d name (Some w) (Some k) said new (inr now) off = goes said _ now.taken.0 refl off

free_ends : (users : List Entry) (d : RequestContext) (q : Asked) (said : RequestAnswer) (new : RequestContext) → AnswersFree users d q said new → session_goes_on said ≡ false → SameWords d new
free_ends users d (requests.Init version user) said new g off = same_words d (greet d version).1 new g.1 refl refl
free_ends users d (requests.Open name) said new g off = absurd (open_ends users d name (free_word d.session.held) (find_name name d.registry) said new g off)
free_ends users d (requests.Close w) said new g off = absurd (goes said _ g.0 refl off)
free_ends users d (requests.ControlOption w n action kind value) said new g off = absurd (goes said _ g.0 refl off)
free_ends users d (requests.Start w) said new g off = absurd (goes said _ g.gives.0 refl off)
free_ends users d (requests.Cancel w) said new g off = absurd (goes said _ g.0 refl off)
free_ends users d q said new g off = same_words d d new g.1 refl refl

awaiting_ends : (users : List Entry) (d : RequestContext) (aw : AwaitedAuthorization) (q : Asked) (said : RequestAnswer) (new : RequestContext) → AnswersAwaiting users d aw q said new → session_goes_on said ≡ false → SameWords d new
awaiting_ends users d aw (requests.Authorize resource user password) said new g off = absurd (goes said _ g.gives.0 refl off)
awaiting_ends users d aw q said new g off = same_words d d new g.1 refl refl

greeted_ends : (users : List Entry) (d : RequestContext) (a : Option AwaitedAuthorization) (q : Asked) (said : RequestAnswer) (new : RequestContext) → AnswersGreeted users d a q said new → session_goes_on said ≡ false → SameWords d new
greeted_ends users d None q said new g off = free_ends users d q said new g off
greeted_ends users d (Some aw) q said new g off = awaiting_ends users d aw q said new g off

first_ends : (d : RequestContext) (q : Asked) (said : RequestAnswer) (new : RequestContext) → IsContextOutcome (first_answer d q) said new → SameWords d new
first_ends d (requests.Init version user) said new g = same_words d (greet d version).1 new g.1 refl refl
first_ends d q said new g = same_words d d new g.1 refl refl

by_ends : (users : List Entry) (d : RequestContext) (b : Bool) (q : Asked) (said : RequestAnswer) (new : RequestContext) → AnswersBy b users d q said new → session_goes_on said ≡ false → SameWords d new
by_ends users d true q said new g off = greeted_ends users d d.session.awaited q said new g off
by_ends users d false q said new g off = first_ends d q said new g

pub answers_end : (users : List Entry) (d : RequestContext) (q : Asked) (said : RequestAnswer) (new : RequestContext) → Answers users d q said new → session_goes_on said ≡ false → SameWords d new
answers_end users d q said new g off = by_ends users d d.session.greeted q said new g off
