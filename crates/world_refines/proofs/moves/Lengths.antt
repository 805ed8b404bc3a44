-- How long what is on the way can be: requests, replies, records, and what a delivery leaves of it.
use Rattle.std.specs.Int.{to_be_bytes, w32}
use Rattle.std.specs.Prelude.{min}
use Rattle.std.proofs.lemmas.List.{length-take}
use Rattle.std.proofs.Common.{◌≡◌, ◌≢◌, ◌∙◌, ℕ, suc, ◌+◌, ◌*◌, ◌≤◌, ◌<◌, List, [], ◌∷◌, Some, refl, ap, subst, length, length-append, arith}
use Rattle.wire_format.specs.Limit.{limited_format}
use Rattle.wire_message.specs.declared.message.Request.{Request as Asked}
use Rattle.wire_message.specs.declared.message.Reply.{Reply as Answer}
use Rattle.net_client.specs.Sending.{requests_text}
use Rattle.net_client.specs.ReplyPieces.{IsReply}
use Rattle.data_records.specs.Records.{counted_record}
use Rattle.sane_fixed.specs.declared.device_info.DeviceInfo.{DeviceInfo}
use Rattle.option_desc.specs.declared.descriptor.Descriptor.{Descriptor}
use Rattle.client_replies.specs.declared.progress.JobTarget.{JobTarget}
use Rattle.client_replies.specs.declared.progress.Progress.{Progress}
use Rattle.client_replies.specs.declared.progress.Progress.TheVariants as stages
use Rattle.client_replies.specs.ProtocolStates.{target_of}
use Rattle.client_refines.specs.RequestRefinement.{AreRequests, asks_of}
use Rattle.scan_job.specs.declared.job.Job.{Job}
use Rattle.system_model.specs.AbstractMessages.{AbstractReply, AbstractRequest}
use Rattle.system_model.specs.Client as model
use Rattle.system_model.specs.Variant.{exchange_cost}
use Rattle.event_world.specs.JobEvents.{bytes_not_delivered, delivered_bytes}
use Rattle.world_refines.specs.Wires.{SpellsAwaitedReply, SpellsAsked, SpellsReplies}
use Rattle.world_refines.proofs.requests.Cut.{sent}
use Rattle.world_refines.proofs.requests.RequestDeliveries.{moved_left}
use Rattle.world_refines.proofs.requests.Within.{request_within}

-- ---- requests

texts_within : (qs : List Asked) (text : List ℕ) → requests_text qs ≡ Some text → length text ≤ 1048576 * length qs
texts_within [] text e = let none : [] ≡ text = cc in let zero_long : 0 ≡ length text = ap (λ (l : List ℕ). length l) none in omega (arith, zero_long)
texts_within (q ∷ qs) text e =
    let first = sent q qs text e in
    let front : length first.front ≤ 1048576 = request_within first.front q first.spelled in
    let back : length first.back ≤ 1048576 * length qs = texts_within qs first.back first.others in
    let whole : length text ≡ length first.front + length first.back = ap (λ (l : List ℕ). length l) first.whole ∙ length-append first.front first.back in
    omega (arith, front, back, whole)

as_many : (target : JobTarget) (known : List Descriptor) (qs : List Asked) (asked : List AbstractRequest) → AreRequests target qs (asks_of 0 known asked) → length qs ≡ length asked
as_many target known [] [] are = refl
as_many target known [] (r ∷ asked) are = absurd are
as_many target known (q ∷ qs) [] are = absurd are
as_many target known (q ∷ qs) (r ∷ asked) are = ap suc (as_many target known qs asked are.1)

asked_within : (job : Job) (m : model.ClientView) (asked : List AbstractRequest) (text : List ℕ) → length asked ≤ 2 → SpellsAsked job m asked text → length text ≤ exchange_cost
asked_within job m asked text few s =
    let long : length text ≤ 1048576 * length s.requests = texts_within s.requests text s.text in
    let same : length s.requests ≡ length asked = as_many (target_of job) m.known s.requests asked s.same in
    omega (arith, few, long, same)

asked_one : (g : model.AbstractProgress) → length (model.request_awaited g) ≤ 2
asked_one model.Greeting = omega arith
asked_one model.Listing = omega arith
asked_one model.Opening = omega arith
asked_one (model.Allowing challenge) = omega arith
asked_one (model.Describing bytes_not_delivered) = omega arith
asked_one (model.Putting n value requested bytes_not_delivered) = omega arith
asked_one (model.Getting n bytes_not_delivered) = omega arith
asked_one model.Starting = omega arith
asked_one model.Shaping = omega arith
asked_one (model.Imaging params heard) = omega arith

bye_two : (task : model.AbstractTask) → length (model.abstract_goodbye task) ≤ 2
bye_two model.List_ = omega arith
bye_two model.Show = omega arith
bye_two model.SetOnly = omega arith
bye_two model.Scan = omega arith
bye_two (model.Batch n) = omega arith

sends_two : (task : model.AbstractTask) (st : model.JobStage) → length (model.requests_sent task st) ≤ 2
sends_two task model.Idle = omega arith
sends_two task (model.Running g) = asked_one g
sends_two task model.Done = bye_two task
sends_two task (model.Ended status why) = omega arith

-- what a client asks for as it comes into a stage
pub sends_within : (job : Job) (m : model.ClientView) (task : model.AbstractTask) (st : model.JobStage) (text : List ℕ) → SpellsAsked job m (model.requests_sent task st) text → length text ≤ exchange_cost
sends_within job m task st text s = asked_within job m (model.requests_sent task st) text (sends_two task st) s

pub first_within : (job : Job) (m : model.ClientView) (r : AbstractRequest) (text : List ℕ) → SpellsAsked job m (r ∷ []) text → length text ≤ exchange_cost
first_within job m r text s = asked_within job m (r ∷ []) text (omega arith) s

-- ---- replies

reply_within : (progress : Progress) (text : List ℕ) (r : Answer) → IsReply progress text r → length text ≤ 1048576
unfolding limited_format
reply_within progress text r is = is.spelled.0

comes_within : (place : DeviceInfo → ℕ) (progress : Progress) (r : AbstractReply) (text : List ℕ) → SpellsAwaitedReply place progress r text → length text ≤ exchange_cost
comes_within place (stages.Allowing resource answer) r text c =
    let front : length c.front ≤ 1048576 = reply_within (stages.Allowing resource answer) c.front _ c.word in
    let back : length c.back ≤ 1048576 = reply_within stages.Reopening c.back c.tells.answer c.tells.is in
    let whole : length text ≡ length c.front + length c.back = ap (λ (l : List ℕ). length l) c.text_is ∙ length-append c.front c.back in
    omega (arith, front, back, whole)
comes_within place progress r text c = let all : length text ≤ 1048576 = reply_within progress text c.answer c.is in omega (arith, all)

-- what is due to a client
pub told_within : (place : DeviceInfo → ℕ) (progress : Progress) (due : List AbstractReply) (text : List ℕ) → SpellsReplies place progress due text → length text ≤ exchange_cost
told_within place progress [] text s = let none : length text ≡ 0 = ap (λ (l : List ℕ). length l) s in omega (arith, none)
told_within place progress (r ∷ []) text s = comes_within place progress r text s
told_within place progress (r ∷ q ∷ due) text s = absurd s

pub none_told : (place : DeviceInfo → ℕ) (progress : Progress) (due : List AbstractReply) (text : List ℕ) → due ≡ [] → SpellsReplies place progress due text → length text ≡ 0
none_told place progress due text none s = ap (λ (l : List ℕ). length l) (subst (λ (rs : List AbstractReply). SpellsReplies place progress rs text) none s)

-- ---- records

pub counted_long : (body : List ℕ) → length (counted_record body) ≡ 4 + length body
counted_long body = length-append (to_be_bytes w32 (length body)) body

-- ---- what is delivered

some_moved : (n : ℕ) (bytes : List ℕ) → bytes ≢ [] → 0 < n → 1 ≤ length (delivered_bytes n bytes)
some_moved n [] some positive = absurd (some refl)
some_moved n (b ∷ bytes) some positive = let long = length-take (min n 4096) (b ∷ bytes) in let more : length (b ∷ bytes) ≡ suc (length bytes) = refl in omega (arith, positive, long, more)

pub less_left : (n : ℕ) (bytes : List ℕ) → bytes ≢ [] → 0 < n → length (bytes_not_delivered n bytes) + 1 ≤ length bytes
less_left n bytes some positive =
    let whole : length bytes ≡ length (delivered_bytes n bytes) + length (bytes_not_delivered n bytes) = ap (λ (l : List ℕ). length l) (moved_left n bytes) ∙ length-append (delivered_bytes n bytes) (bytes_not_delivered n bytes) in
    let one : 1 ≤ length (delivered_bytes n bytes) = some_moved n bytes some positive in
    omega (arith, whole, one)
