-- The request that a client wrote is the one that it waits for: a request of the model has one spelling as a request of the wire.
use Rattle.std.specs.Prelude.{Any, map, slice_get}
use Rattle.std.proofs.Common.{◌≡◌, ◌∙◌, ℕ, suc, List, [], ◌∷◌, ◌++◌, Option, Some, None, true, refl, sym, ap, subst, arith}
use Rattle.frame_join.specs.FrameHistory.{JoinHistory}
use Rattle.page_picture.specs.Shows.{Frame}
use Rattle.sane_fixed.specs.declared.device_info.DeviceInfo.{DeviceInfo}
use Rattle.option_desc.specs.declared.descriptor.Descriptor.{Descriptor}
use Rattle.option_desc.specs.declared.value.Value.{Value}
use Rattle.md5_auth.specs.ChallengeReading.{answer_of}
use Rattle.wire_message.specs.WireValues.{wire_of}
use Rattle.wire_message.specs.declared.message.ControlAction.TheVariants as actions
use Rattle.wire_message.specs.declared.message.Request.{Request as WireRequest}
use Rattle.wire_message.specs.declared.message.Request.TheVariants as requests
use Rattle.scan_job.specs.declared.outcome.Outcome.{Outcome}
use Rattle.scan_job.specs.declared.outcome.Outcome.TheVariants as outcomes
use Rattle.client_replies.specs.Asking.{request_for}
use Rattle.client_replies.specs.GivenValues.{blank_value}
use Rattle.client_replies.specs.ProtocolStates.{is_running, target_of}
use Rattle.client_replies.specs.declared.progress.JobTarget.{JobTarget}
use Rattle.client_replies.specs.declared.progress.Notes.{Notes}
use Rattle.client_replies.specs.declared.progress.Progress.{Progress}
use Rattle.client_replies.specs.declared.progress.Progress.TheVariants as stages
use Rattle.client_refines.specs.ClientRefinement.{OutcomeRefines, task_of}
use Rattle.client_refines.specs.RequestRefinement.{AreRequests, AsksAt, IsRequest, asks_of, request_list}
use Rattle.client_refines.proofs.Asking.{asks_alike}
use Rattle.system_model.specs.AbstractMessages.{AbstractRequest}
use Rattle.system_model.specs.AbstractMessages as words
use Rattle.system_model.specs.Client.{AbstractJob, AbstractProgress, JobStage, Idle, Running, Done, Ended, ClientView, request_awaited, requests_sent}
use Rattle.system_model.specs.SystemStates.{device_for, make_for}
use Rattle.system_model.specs.Transitions.{IsUnderWay}
use Rattle.event_world.specs.declared.endpoint.Endpoint.{Endpoint}
use Rattle.event_world.specs.Worlds.{WorldCore}
use Rattle.world_refines.specs.GhostStates.{Ghost, place_of_info}
use Rattle.world_refines.specs.WorldRefinement.{WorldRefines, client_at_greeting}
use Rattle.world_refines.proofs.requests.Waiting.{Silent, Unturned, none_asked, runs_by, waits_there, woken}

-- ---- one spelling

init_is : (target : JobTarget) (word : ℕ) (known : List Descriptor) (q : WireRequest) → IsRequest target word known q words.Init → q ≡ requests.Init 16777219 target.user
init_is target word known (requests.Init version user) (a, b) = ap (λ (v : ℕ). requests.Init v user) a ∙ ap (λ (u : List ℕ). requests.Init 16777219 u) b
init_is target word known (requests.ControlOption device option actions.GetValue kind value) is = absurd is
init_is target word known q is = absurd is

list_is : (target : JobTarget) (word : ℕ) (known : List Descriptor) (q : WireRequest) → IsRequest target word known q words.GetDevices → q ≡ requests.GetDevices
list_is target word known requests.GetDevices is = refl
list_is target word known (requests.ControlOption device option actions.GetValue kind value) is = absurd is
list_is target word known q is = absurd is

open_is : (target : JobTarget) (word : ℕ) (known : List Descriptor) (q : WireRequest) → IsRequest target word known q words.Open → q ≡ requests.Open target.device
open_is target word known (requests.Open name) is = ap (λ (n : List ℕ). requests.Open n) is
open_is target word known (requests.ControlOption device option actions.GetValue kind value) is = absurd is
open_is target word known q is = absurd is

-- an AUTHORIZE, with the answer to its resource
abbrev pub Answered : JobTarget → List ℕ → WireRequest → Type 0
Answered target challenge q = (answer : List ℕ) × (answer_of challenge target.password ≡ Some answer) × (q ≡ requests.Authorize challenge target.user answer)

pub allow_is : (target : JobTarget) (word : ℕ) (known : List Descriptor) (challenge : List ℕ) (q : WireRequest) → IsRequest target word known q (words.Authorize challenge) → Answered target challenge q
allow_is target word known challenge (requests.Authorize resource user answer) (a, b, c) = (
  answer,
  subst (λ (r : List ℕ). answer_of r target.password ≡ Some answer) a c,
  ap (λ (r : List ℕ). requests.Authorize r user answer) a ∙ ap (λ (u : List ℕ). requests.Authorize challenge u answer) b,
)
allow_is target word known challenge (requests.ControlOption device option actions.GetValue kind value) is = absurd is
allow_is target word known challenge q is = absurd is

describe_is : (target : JobTarget) (word : ℕ) (known : List Descriptor) (q : WireRequest) → IsRequest target word known q words.Describe → q ≡ requests.GetOptionDescriptors word
describe_is target word known (requests.GetOptionDescriptors device) is = ap (λ (d : ℕ). requests.GetOptionDescriptors d) is
describe_is target word known (requests.ControlOption device option actions.GetValue kind value) is = absurd is
describe_is target word known q is = absurd is

-- a GET, and a SET, of an option by its descriptor
abbrev Gets : ℕ → List Descriptor → ℕ → WireRequest → Type 0
Gets word known n q = (desc : Descriptor) × (slice_get known n ≡ Some desc) × (q ≡ requests.ControlOption word n actions.GetValue desc.kind (blank_value desc.kind desc.size))

abbrev Sets : ℕ → List Descriptor → ℕ → Value → WireRequest → Type 0
Sets word known n asked q = (desc : Descriptor) × (slice_get known n ≡ Some desc) × (q ≡ requests.ControlOption word n actions.SetValue desc.kind (wire_of asked))

get_is : (target : JobTarget) (word : ℕ) (known : List Descriptor) (n : ℕ) (q : WireRequest) → IsRequest target word known q (words.Get n) → Gets word known n q
get_is target word known n (requests.ControlOption device option actions.GetValue kind value) is = (
  is.desc,
  is.stands,
  ap (λ (d : ℕ). requests.ControlOption d option actions.GetValue kind value) is.device_is
      ∙ (ap (λ (o : ℕ). requests.ControlOption word o actions.GetValue kind value) is.number
      ∙ (ap (λ k. requests.ControlOption word n actions.GetValue k value) is.kind_is ∙ ap (λ v. requests.ControlOption word n actions.GetValue is.desc.kind v) is.value_is)),
)
get_is target word known n q is = absurd is

set_is : (target : JobTarget) (word : ℕ) (known : List Descriptor) (n : ℕ) (asked : Value) (q : WireRequest) → IsRequest target word known q (words.Set n asked) → Sets word known n asked q
set_is target word known n asked (requests.ControlOption device option actions.SetValue kind value) is = (
  is.desc,
  is.stands,
  ap (λ (d : ℕ). requests.ControlOption d option actions.SetValue kind value) is.device_is
      ∙ (ap (λ (o : ℕ). requests.ControlOption word o actions.SetValue kind value) is.number
      ∙ (ap (λ k. requests.ControlOption word n actions.SetValue k value) is.kind_is ∙ ap (λ v. requests.ControlOption word n actions.SetValue is.desc.kind v) is.value_is)),
)
set_is target word known n asked q is = absurd is

shape_is : (target : JobTarget) (word : ℕ) (known : List Descriptor) (q : WireRequest) → IsRequest target word known q words.Parameters → q ≡ requests.GetParameters word
shape_is target word known (requests.GetParameters device) is = ap (λ (d : ℕ). requests.GetParameters d) is
shape_is target word known (requests.ControlOption device option actions.GetValue kind value) is = absurd is
shape_is target word known q is = absurd is

start_is : (target : JobTarget) (word : ℕ) (known : List Descriptor) (q : WireRequest) → IsRequest target word known q words.Start → q ≡ requests.Start word
start_is target word known (requests.Start device) is = ap (λ (d : ℕ). requests.Start d) is
start_is target word known (requests.ControlOption device option actions.GetValue kind value) is = absurd is
start_is target word known q is = absurd is

cancel_is : (target : JobTarget) (word : ℕ) (known : List Descriptor) (q : WireRequest) → IsRequest target word known q words.Cancel → q ≡ requests.Cancel word
cancel_is target word known (requests.Cancel device) is = ap (λ (d : ℕ). requests.Cancel d) is
cancel_is target word known (requests.ControlOption device option actions.GetValue kind value) is = absurd is
cancel_is target word known q is = absurd is

close_is : (target : JobTarget) (word : ℕ) (known : List Descriptor) (q : WireRequest) → IsRequest target word known q words.Close → q ≡ requests.Close word
close_is target word known (requests.Close device) is = ap (λ (d : ℕ). requests.Close d) is
close_is target word known (requests.ControlOption device option actions.GetValue kind value) is = absurd is
close_is target word known q is = absurd is

exit_is : (target : JobTarget) (word : ℕ) (known : List Descriptor) (q : WireRequest) → IsRequest target word known q words.Exit → q ≡ requests.Exit
exit_is target word known requests.Exit is = refl
exit_is target word known (requests.ControlOption device option actions.GetValue kind value) is = absurd is
exit_is target word known q is = absurd is

same_some : {X : Type 0} (o : Option X) (x y : X) → o ≡ Some x → o ≡ Some y → x ≡ y
same_some o x y a b = let both : Some x ≡ Some y = sym a ∙ b in cc

pub same_request : (target : JobTarget) (word : ℕ) (known : List Descriptor) (r : AbstractRequest) (a b : WireRequest) → IsRequest target word known a r → IsRequest target word known b r → a ≡ b
same_request target word known words.Init a b x y = init_is target word known a x ∙ sym (init_is target word known b y)
same_request target word known words.GetDevices a b x y = list_is target word known a x ∙ sym (list_is target word known b y)
same_request target word known words.Open a b x y = open_is target word known a x ∙ sym (open_is target word known b y)
same_request target word known (words.Authorize challenge) a b x y =
    let f = allow_is target word known challenge a x in
    let g = allow_is target word known challenge b y in
    f.2 ∙ (ap (λ (answer : List ℕ). requests.Authorize challenge target.user answer) (same_some (answer_of challenge target.password) f.0 g.0 f.1 g.1) ∙ sym g.2)
same_request target word known words.Describe a b x y = describe_is target word known a x ∙ sym (describe_is target word known b y)
same_request target word known (words.Get n) a b x y =
    let f = get_is target word known n a x in
    let g = get_is target word known n b y in
    f.2 ∙ (ap (λ (d : Descriptor). requests.ControlOption word n actions.GetValue d.kind (blank_value d.kind d.size)) (same_some (slice_get known n) f.0 g.0 f.1 g.1) ∙ sym g.2)
same_request target word known (words.Set n asked) a b x y =
    let f = set_is target word known n asked a x in
    let g = set_is target word known n asked b y in
    f.2 ∙ (ap (λ (d : Descriptor). requests.ControlOption word n actions.SetValue d.kind (wire_of asked)) (same_some (slice_get known n) f.0 g.0 f.1 g.1) ∙ sym g.2)
same_request target word known words.Parameters a b x y = shape_is target word known a x ∙ sym (shape_is target word known b y)
same_request target word known words.Start a b x y = start_is target word known a x ∙ sym (start_is target word known b y)
same_request target word known words.Cancel a b x y = cancel_is target word known a x ∙ sym (cancel_is target word known b y)
same_request target word known words.Close a b x y = close_is target word known a x ∙ sym (close_is target word known b y)
same_request target word known words.Exit a b x y = exit_is target word known a x ∙ sym (exit_is target word known b y)

-- ---- what is waited for is what was written

-- the request that begins the wait is that of the model
record Wrote (target : JobTarget) (word : ℕ) (known : List Descriptor) (o : Option WireRequest) (q : AbstractRequest) : Type 0 where
  request : WireRequest
  there : o ≡ Some request
  is : IsRequest target word known request q

first_of : (target : JobTarget) (word : ℕ) (known : List Descriptor) (o : Option WireRequest) (q : AbstractRequest) (rest : List AbstractRequest) → AreRequests target (request_list o) (asks_of word known (q ∷ rest)) → Wrote target word known o q
first_of target word known None q rest asks = absurd asks
first_of target word known (Some request) q rest asks = record { request = request; there = refl; is = asks.0 }

wrote : (target : JobTarget) (word : ℕ) (known : List Descriptor) (progress : Progress) (o : Option WireRequest) (q : AbstractRequest) (rest : List AbstractRequest) → Silent progress → Unturned progress → AsksAt target word known progress o (q ∷ rest) → Wrote target word known o q
wrote target word known stages.Reopening o q rest silent unturned asks = absurd (silent refl)
wrote target word known stages.Turning o q rest silent unturned asks = absurd (unturned refl)
wrote target word known progress o q rest silent unturned asks = first_of target word known o q rest asks

-- of a client that reads as a view of the model that runs
by_outcome : (place : DeviceInfo → ℕ) (target : JobTarget) (job : AbstractJob) (pages : List (List Frame)) (o : Outcome) (progress : Progress) (notes : Notes) (past : JoinHistory) (m : ClientView) (g : AbstractProgress) (q : AbstractRequest) (rest : List AbstractRequest) → m.stage ≡ Running g → q ∷ rest ≡ request_awaited g → Silent progress → Unturned progress → (is_running o ≡ true → notes.word ≡ 0) →
    OutcomeRefines place target job pages o progress notes past m → Wrote target 0 m.known (request_for target notes.word progress) q
by_outcome place target job pages outcomes.Running progress notes past m g q rest at e silent unturned word h =
    let alike = (asks_alike target job progress notes past m h.1 h.2 h.0.descriptors).requests in
    let sent : requests_sent (task_of target.task) m.stage ≡ q ∷ rest = ap (requests_sent (task_of target.task)) at ∙ sym e in
    let asks : AsksAt target notes.word m.known progress (request_for target notes.word progress) (q ∷ rest) = subst (AsksAt target notes.word m.known progress (request_for target notes.word progress)) sent alike in
    wrote target 0 m.known progress (request_for target notes.word progress) q rest silent unturned (subst (λ (w : ℕ). AsksAt target w m.known progress (request_for target notes.word progress) (q ∷ rest)) (word refl) asks)
by_outcome place target job pages (outcomes.Done reports) progress notes past m g q rest at e silent unturned word h = absurd (let clash : Done ≡ Running g = sym h.stage ∙ at in cc)
by_outcome place target job pages (outcomes.Ended status why) progress notes past m g q rest at e silent unturned word h = absurd (let clash : Ended status why ≡ Running g = sym h ∙ at in cc)

knows : (stage : JobStage) (m : ClientView) (g : AbstractProgress) → stage ≡ Running g → (client_at_greeting stage m).known ≡ m.known
knows Idle m g e = absurd (let clash : Idle ≡ Running g = e in cc)
knows (Running g) m h e = refl
knows Done m g e = refl
knows (Ended status why) m g e = refl

-- what the client of that endpoint wrote, by what is asked of the model
found_at : (t : Ghost) (w : WorldCore) (i : ℕ) (p : Endpoint) (q : AbstractRequest) (rest : List AbstractRequest) → WorldRefines t w → slice_get w.endpoints i ≡ Some p → IsUnderWay (t.system.job i).client.stage → (t.system.job i).todo ≡ q ∷ rest →
    Wrote (target_of (t.jobs i)) 0 (t.system.job i).client.known (request_for (target_of (t.jobs i)) p.client.notes.word p.client.progress) q
found_at t w i p q rest h at on todo =
    let s = h.endpoints i p at in
    let me = t.system.job i in
    let r = runs_by i (make_for t.system i) me (device_for t.system i) me.client.stage q rest refl on (h.sound.exchanges i) todo in
    let silent : Silent p.client.progress = λ e. none_asked me.todo rest q (s.waits.silent e) todo in
    let m = client_at_greeting me.client.stage me.client in
    let found = by_outcome (place_of_info t.infos) (target_of (t.jobs i)) me.session.job (map (λ (x : JoinHistory). x.ended) (t.pages i)) p.client.outcome p.client.progress p.client.notes (t.history i) m r.progress q rest (woken me.client.stage me.client r.progress r.stage refl) r.asked silent s.waits.unturned s.exchanges.word s.exchanges.reads.stands in
    subst (λ (k : List Descriptor). Wrote (target_of (t.jobs i)) 0 k (request_for (target_of (t.jobs i)) p.client.notes.word p.client.progress) q) (knows me.client.stage me.client r.progress r.stage) found

-- in the world in front of an answer the request that is answered is the one that its client waits for
pub asked_there : (t : Ghost) (w : WorldCore) (i : ℕ) (p : Endpoint) (q : AbstractRequest) (rest : List AbstractRequest) (request : WireRequest) → WorldRefines t w → slice_get w.endpoints i ≡ Some p → IsUnderWay (t.system.job i).client.stage → (t.system.job i).todo ≡ q ∷ rest →
    IsRequest (target_of (t.jobs i)) 0 (t.system.job i).client.known request q → request_for (target_of (t.jobs i)) p.client.notes.word p.client.progress ≡ Some request
asked_there t w i p q rest request h at on todo is =
    let found = found_at t w i p q rest h at on todo in
    found.there ∙ ap (λ (x : WireRequest). Some x) (same_request (target_of (t.jobs i)) 0 (t.system.job i).client.known q found.request request found.is is)

-- and there is one
pub wrote_there : (t : Ghost) (w : WorldCore) (i : ℕ) (q : AbstractRequest) (rest : List AbstractRequest) → WorldRefines t w → IsUnderWay (t.system.job i).client.stage → (t.system.job i).todo ≡ q ∷ rest → (request : WireRequest) × IsRequest (target_of (t.jobs i)) 0 (t.system.job i).client.known request q
wrote_there t w i q rest h on todo =
    let p = waits_there t w i q rest h on todo in
    let found = found_at t w i p.0 q rest h p.1 on todo in
    (found.request, found.is)

-- one of these, in the midst of them
pub any_amid : {X : Type 0} (P : X → Type 0) (front back : List X) (x : X) → P x → Any P (front ++ x ∷ back)
any_amid P [] back x p = (0, x, omega arith, refl, p)
any_amid P (y ∷ front) back x p = let r = any_amid P front back x p in (suc r.0, r.1, omega (arith, r.2), r.3, r.4)
