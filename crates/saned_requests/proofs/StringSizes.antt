-- No request changes how string values are sent to its session.
use Rattle.std.proofs.Common.{◌≡◌, ◌∙◌, ℕ, List, Bool, true, false, Option, Some, None, Result, Ok, Err, refl, ap, inl, inr}
use Rattle.sane_fixed.specs.declared.status.Status.{Status}
use Rattle.md5_auth.specs.declared.users.Entry.{Entry}
use Rattle.device_api.specs.State.{DeviceState}
use Rattle.dispatch.specs.declared.table.place.Lease.{Lease}
use Rattle.dispatch.specs.Table.{find_name, take_answer}
use Rattle.wire_message.specs.declared.message.Request.{Request}
use Rattle.wire_message.specs.declared.message.Request.TheVariants as requests
use Rattle.saned_requests.specs.declared.request_answer.RequestAnswer.{RequestAnswer}
use Rattle.saned_requests.specs.declared.session.AwaitedAuthorization.{AwaitedAuthorization}
use Rattle.saned_requests.specs.Holding.{held_by, free_word}
use Rattle.saned_requests.specs.RequestAnswers.{RequestContext, take_device, take_into, reply_of_take, OpensAt, without_awaited, reply_if_allowed, close_lease, cancel_held, AnswersFree, AnswersAwaiting, AnswersGreeted, AnswersBy, Answers, first_answer, OutOfMemoryFree, OutOfMemoryGreeted, OutOfMemoryBy, OutOfMemoryAt, RequestOutOfMemory}
use Rattle.saned_requests.specs.RequestAnswers.RequestOutOfMemory.{Under, All}

abbrev pub Same : RequestContext → RequestContext → Type 0
Same d new = new.session.strings ≡ d.session.strings

pub is_same : (d e new : RequestContext) → new ≡ e → Same d e → Same d new
is_same d e new n s = ap (λ (x : RequestContext). x.session.strings) n ∙ s

take_same : (d : RequestContext) (word : ℕ) (r : Result (Lease DeviceState) Status) → Same d (reply_of_take d word r).1
take_same d word (Ok lease) = refl
take_same d word (Err status) = refl

into_same : (d : RequestContext) (name : List ℕ) (o : Option ℕ) → Same d (take_into d name o).1
into_same d name None = refl
into_same d name (Some word) = take_same d word (take_answer d.registry name)

opens_same : (users : List Entry) (d new : RequestContext) (name : List ℕ) (said : RequestAnswer) (o p : Option ℕ) → OpensAt users d name o p said new → Same d new
opens_same users d new name said None p g = is_same d d new g.1 refl
opens_same users d new name said (Some w) None g = is_same d d new g.1 refl
opens_same users d new name said (Some w) (Some k) (inl asks) = ap (λ (x : RequestContext). x.session.strings) asks.new_is
opens_same users d new name said (Some w) (Some k) (inr now) = is_same d (take_device d name).1 new now.taken.1 (into_same d name (free_word d.session.held))

allowed_same : (d : RequestContext) (name : List ℕ) (b : Bool) → Same d (reply_if_allowed b (without_awaited d) name).1
allowed_same d name true = into_same (without_awaited d) name (free_word d.session.held)
allowed_same d name false = refl

close_same : (d : RequestContext) (w : ℕ) (h : Option (Lease DeviceState)) → Same d (close_lease d w h)
close_same d w None = refl
close_same d w (Some l) = refl

cancel_same : (d : RequestContext) (w : ℕ) (h : Option (Lease DeviceState)) → Same d (cancel_held d w h)
cancel_same d w None = refl
cancel_same d w (Some l) = refl

free_same : (users : List Entry) (d new : RequestContext) (q : Request) (said : RequestAnswer) → AnswersFree users d q said new → Same d new
free_same users d new (requests.Init version user) said g = ap (λ (x : RequestContext). x.session.strings) g.1
free_same users d new (requests.Open name) said g = opens_same users d new name said (free_word d.session.held) (find_name name d.registry) g
free_same users d new (requests.Close w) said g = is_same d (close_lease d w (held_by d.session.held w)) new g.1 (close_same d w (held_by d.session.held w))
free_same users d new (requests.ControlOption w n action kind value) said g = ap (λ (x : RequestContext). x.session.strings) g.1
free_same users d new (requests.Start w) said g = ap (λ (x : RequestContext). x.session.strings) g.gives.1 ∙ ap (λ (x : RequestContext). x.session.strings) g.starts.new_is
free_same users d new (requests.Cancel w) said g = is_same d (cancel_held d w (held_by d.session.held w)) new g.1 (cancel_same d w (held_by d.session.held w))
free_same users d new q said g = is_same d d new g.1 refl

awaiting_same : (users : List Entry) (d new : RequestContext) (awaited : AwaitedAuthorization) (q : Request) (said : RequestAnswer) → AnswersAwaiting users d awaited q said new → Same d new
awaiting_same users d new awaited (requests.Authorize resource user password) said g = is_same d (reply_if_allowed g.allowed (without_awaited d) awaited.name).1 new g.gives.1 (allowed_same d awaited.name g.allowed)
awaiting_same users d new awaited q said g = is_same d d new g.1 refl

first_same : (d new : RequestContext) (q : Request) → new ≡ (first_answer d q).1 → Same d new
first_same d new (requests.Init version user) n = ap (λ (x : RequestContext). x.session.strings) n
first_same d new q n = is_same d d new n refl

greeted_same : (users : List Entry) (d new : RequestContext) (o : Option AwaitedAuthorization) (q : Request) (said : RequestAnswer) → AnswersGreeted users d o q said new → Same d new
greeted_same users d new None q said g = free_same users d new q said g
greeted_same users d new (Some awaited) q said g = awaiting_same users d new awaited q said g

by_same : (users : List Entry) (d new : RequestContext) (b : Bool) (q : Request) (said : RequestAnswer) → AnswersBy b users d q said new → Same d new
by_same users d new false q said g = first_same d new q g.1
by_same users d new true q said g = greeted_same users d new d.session.awaited q said g

pub answers_same : (users : List Entry) (d new : RequestContext) (q : Request) (said : RequestAnswer) → Answers users d q said new → Same d new
answers_same users d new q said g = by_same users d new d.session.greeted q said g

-- ---- out of memory

memory_free : (d new : RequestContext) (q : Request) → OutOfMemoryFree d q new → Same d new
memory_free d new (requests.Init version user) g = absurd g
memory_free d new (requests.Open name) (inl g) = is_same d d new g refl
memory_free d new (requests.Open name) (inr g) = ap (λ (x : RequestContext). x.session.strings) g.3
memory_free d new (requests.Close w) g = absurd g
memory_free d new (requests.ControlOption w n action kind value) (inl g) = is_same d d new g refl
memory_free d new (requests.ControlOption w n action kind value) (inr g) = ap (λ (x : RequestContext). x.session.strings) g
memory_free d new (requests.GetParameters w) g = absurd g
memory_free d new (requests.Start w) g = ap (λ (x : RequestContext). x.session.strings) g.new_is
memory_free d new (requests.Cancel w) g = absurd g
memory_free d new (requests.Authorize resource user password) g = absurd g
memory_free d new requests.Exit g = absurd g
memory_free d new q g = is_same d d new g refl

memory_greeted : (d new : RequestContext) (o : Option AwaitedAuthorization) (q : Request) → OutOfMemoryGreeted d o q new → Same d new
memory_greeted d new None q g = memory_free d new q g
memory_greeted d new (Some awaited) q g = absurd g

memory_by : (d new : RequestContext) (b : Bool) (q : Request) → OutOfMemoryBy b d q new → Same d new
memory_by d new false q g = absurd g
memory_by d new true q g = memory_greeted d new d.session.awaited q g

pub memory_same : (users : List Entry) (d new : RequestContext) (q : Request) → RequestOutOfMemory users d q new → Same d new
memory_same users d new q (Under g) = memory_by d new d.session.greeted q g
memory_same users d new q (All said g) = answers_same users d new q said g
