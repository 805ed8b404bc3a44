-- What a job is refused with INVAL: a device that is not listed, or what it asked for once it had opened its device.
use Rattle.std.specs.Prelude.{eqb, slice_get}
use Rattle.std.specs.List.{AllByRecursion}
use Rattle.std.proofs.Common.{◌≡◌, ◌≢◌, ◌∙◌, ◌⊎◌, inl, inr, ℕ, List, [], ◌∷◌, ◌++◌, Bool, true, false, Option, Some, None, refl, sym, ap, subst, eqb-true}
use Rattle.sane_fixed.specs.declared.status.Status.{Status}
use Rattle.sane_fixed.specs.declared.status.Status.TheVariants as codes
use Rattle.sane_fixed.specs.declared.status.Status.TheVariants.{IoError, Inval, NoMem}
use Rattle.scan_job.specs.declared.job.Job.{Job}
use Rattle.scan_job.specs.declared.outcome.Why.{Why}
use Rattle.scan_job.specs.declared.outcome.Why.TheVariants.{Answer, Lost, Memory, Cancelled}
use Rattle.system_model.specs.AbstractMessages.{AbstractReply, AbstractRequest, Challenge, Init, GetDevices, Open, Authorize, Greeted, Listed, Opened, Challenged, Described, Got, Gave, Shaped, Begun, Acked, Refused, same_text}
use Rattle.system_model.specs.AbstractDevices.{AbstractDevice, is_held_by, without_first}
use Rattle.system_model.specs.Actions
use Rattle.system_model.specs.Actions.{Action, answer_next, job_after_action, served_by}
use Rattle.system_model.specs.Client.{AbstractJob, AbstractProgress, ClientView, JobStage, AbstractTask, Idle, Running, Done, Ended, Greeting, Listing, Opening, Allowing, Describing, Putting, Getting, Starting, Shaping, Imaging, request_awaited}
use Rattle.system_model.specs.ClientReplies.{client_after_bytes, finish_in, hear_at, hear_in, stage_after_stop}
use Rattle.system_model.specs.Daemon.{Environment, FailureCounts, TransferState, allow, answer, answer_awaited, answer_if, hand_out_device, open_listed, take_listed}
use Rattle.system_model.specs.Devices.{Make}
use Rattle.system_model.specs.Invariants.{StageInvariant}
use Rattle.system_model.specs.SystemStates.{JobState, SystemState, device_for, listed_devices, make_for}
use Rattle.system_model.specs.Transitions.{By, IsActionEnabled, IsEnabled, IsHistory, IsUnderWay, Loads, Transition, Unplugs, Uses, after_all, after_transition}
use Rattle.event_world.specs.Worlds.{WorldCore}
use Rattle.world_refines.specs.FailedSources.{AllAlong}
use Rattle.scan_world.specs.Histories.{History}
use Rattle.scan_world.proofs.Along.{Here, Laws}
use Rattle.scan_world.proofs.Begun.{party_stays}
use Rattle.scan_world.proofs.Lists.{In, in_either}
use Rattle.scan_world.proofs.Pages.{IsOfOne}
use Rattle.scan_world.proofs.Rows.{WasUnlisted}
use Rattle.scan_world.proofs.moments.Entries.{own_party}
use Rattle.scan_world.proofs.moments.Judged.{Front, here_then, not_listed}
use Rattle.scan_world.proofs.moments.Moments.{AnsweredSo}
use Rattle.scan_world.proofs.moments.Opened.{IsOpened, KeptAt, OpenedAt, OpenedSo, one_step, under_so}
use Rattle.scan_world.proofs.moments.Requests.{IsOpening}

-- it is refused with INVAL
abbrev Denied : List AbstractReply → Type 0
Denied told = In (Refused Inval) told

-- ---- OPEN and AUTHORIZE

one_reply : {X : Type 0} (r : AbstractReply) → (Refused Inval ≡ r → X) → Denied (r ∷ []) → X
one_reply r from (inl same) = from same
one_reply r from (inr none) = absurd none

hand_denied : {X : Type 0} (i : ℕ) (k : Make) (dev : AbstractDevice) (c : TransferState) (o : Option ℕ) → Denied (hand_out_device i k dev c o).told → X
hand_denied i k dev c None d = one_reply Opened (λ e. absurd (let clash : Refused Inval ≡ Opened = e in cc)) d
hand_denied i k dev c (Some j) d = one_reply (Refused codes.DeviceBusy) (λ e. absurd (let clash : Refused Inval ≡ Refused codes.DeviceBusy = e in cc)) d

open_denied : (i : ℕ) (k : Make) (dev : AbstractDevice) (c : TransferState) (challenge : Challenge) (listed guarded : Bool) → dev.listed ≡ listed → Denied (open_listed i k dev c challenge listed guarded).told → dev.listed ≡ false
open_denied i k dev c challenge false guarded e d = e
open_denied i k dev c challenge true true e d = one_reply (Challenged challenge) (λ s. absurd (let clash : Refused Inval ≡ Challenged challenge = s in cc)) d
open_denied i k dev c challenge true false e d = hand_denied i k dev c dev.holder d

take_denied : (i : ℕ) (k : Make) (dev : AbstractDevice) (c : TransferState) (listed : Bool) → dev.listed ≡ listed → Denied (take_listed i k dev c listed).told → dev.listed ≡ false
take_denied i k dev c false e d = e
take_denied i k dev c true e d = hand_denied i k dev c dev.holder d

allow_denied : (i : ℕ) (k : Make) (dev : AbstractDevice) (c : TransferState) (a b : Bool) → Denied (allow i k dev c a b).told → dev.listed ≡ false
allow_denied i k dev c true true d = take_denied i k dev c dev.listed refl d
allow_denied i k dev c true false d = one_reply (Refused codes.AccessDenied) (λ s. absurd (let clash : Refused Inval ≡ Refused codes.AccessDenied = s in cc)) d
allow_denied i k dev c false b d = one_reply (Refused codes.AccessDenied) (λ s. absurd (let clash : Refused Inval ≡ Refused codes.AccessDenied = s in cc)) d

if_denied : (b : Bool) (i : ℕ) (k : Make) (dev : AbstractDevice) (c : TransferState) (x : Environment) (q : AbstractRequest) → IsOpening q → Denied (answer_if b i k dev c x q).told → dev.listed ≡ false
if_denied true i k dev c x Open o d = open_denied i k dev c x.challenge dev.listed x.guarded refl d
if_denied false i k dev c x Open o d = open_denied i k dev c x.challenge dev.listed x.guarded refl d
if_denied true i k dev c x (Authorize challenge) o d = absurd d
if_denied false i k dev c x (Authorize challenge) o d = absurd d
if_denied b i k dev c x q o d = absurd o

awaited_denied : (i : ℕ) (k : Make) (dev : AbstractDevice) (c : TransferState) (x : Environment) (sent : Challenge) (q : AbstractRequest) → IsOpening q → Denied (answer_awaited i k dev c x sent q).told → dev.listed ≡ false
awaited_denied i k dev c x sent Open o d = absurd d
awaited_denied i k dev c x sent (Authorize challenge) o d = allow_denied i k dev c (same_text challenge sent) (x.allows sent) d
awaited_denied i k dev c x sent q o d = absurd o

answer_denied : (i : ℕ) (k : Make) (dev : AbstractDevice) (c : TransferState) (a : Option Challenge) (x : Environment) (q : AbstractRequest) → IsOpening q → Denied (answer i k dev c a x q).told → dev.listed ≡ false
answer_denied i k dev c None x q o d = if_denied (is_held_by i dev.holder) i k dev c x q o d
answer_denied i k dev c (Some sent) x q o d = awaited_denied i k dev c x sent q o d

init_if : {X : Type 0} (b : Bool) (i : ℕ) (k : Make) (dev : AbstractDevice) (c : TransferState) (x : Environment) → Denied (answer_if b i k dev c x Init).told → X
init_if true i k dev c x d = one_reply Greeted (λ s. absurd (let clash : Refused Inval ≡ Greeted = s in cc)) d
init_if false i k dev c x d = one_reply Greeted (λ s. absurd (let clash : Refused Inval ≡ Greeted = s in cc)) d

init_denied : {X : Type 0} (i : ℕ) (k : Make) (dev : AbstractDevice) (c : TransferState) (a : Option Challenge) (x : Environment) → Denied (answer i k dev c a x Init).told → X
init_denied i k dev c None x d = init_if (is_held_by i dev.holder) i k dev c x d
init_denied i k dev c (Some sent) x d = absurd d

list_if : {X : Type 0} (b : Bool) (i : ℕ) (k : Make) (dev : AbstractDevice) (c : TransferState) (x : Environment) → Denied (answer_if b i k dev c x GetDevices).told → X
list_if true i k dev c x d = one_reply (Listed x.listed) (λ s. absurd (let clash : Refused Inval ≡ Listed x.listed = s in cc)) d
list_if false i k dev c x d = one_reply (Listed x.listed) (λ s. absurd (let clash : Refused Inval ≡ Listed x.listed = s in cc)) d

list_denied : {X : Type 0} (i : ℕ) (k : Make) (dev : AbstractDevice) (c : TransferState) (a : Option Challenge) (x : Environment) → Denied (answer i k dev c a x GetDevices).told → X
list_denied i k dev c None x d = list_if (is_held_by i dev.holder) i k dev c x d
list_denied i k dev c (Some sent) x d = absurd d

-- ---- what a client that runs asks for

head_is : (q r : AbstractRequest) (rest : List AbstractRequest) → q ∷ rest ≡ r ∷ [] → r ≡ q
head_is q r rest e = let both : q ∷ rest ≡ r ∷ [] = e in cc

-- of this request, where it was refused so
abbrev Of : ℕ → Make → List ℕ → JobState → AbstractDevice → Challenge → Option FailureCounts → Type 0 → AbstractRequest → Type 0
Of i k ds p dev challenge fault X q = Denied (served_by i k ds p dev challenge fault q).told → X

progress_denied : (X F : Type 0) (i : ℕ) (k : Make) (ds : List ℕ) (p : JobState) (dev : AbstractDevice) (challenge : Challenge) (fault : Option FailureCounts) (g : AbstractProgress) (q : AbstractRequest) (rest : List AbstractRequest) → q ∷ rest ≡ request_awaited g → OpenedAt F p.session.job.task (Running g) → (F → X) → (IsOpening q → dev.listed ≡ false → X) → Of i k ds p dev challenge fault X q
progress_denied X F i k ds p dev challenge fault Greeting q rest e o f g d = subst (Of i k ds p dev challenge fault X) (head_is q Init rest e) (λ there. init_denied i k dev p.session.transfer p.session.awaited _ there) d
progress_denied X F i k ds p dev challenge fault Listing q rest e o f g d = subst (Of i k ds p dev challenge fault X) (head_is q GetDevices rest e) (λ there. list_denied i k dev p.session.transfer p.session.awaited _ there) d
progress_denied X F i k ds p dev challenge fault Opening q rest e o f g d =
    let opens : IsOpening q = subst IsOpening (head_is q Open rest e) tt in
    g opens (answer_denied i k dev p.session.transfer p.session.awaited _ q opens d)
progress_denied X F i k ds p dev challenge fault (Allowing sent) q rest e o f g d =
    let opens : IsOpening q = subst IsOpening (head_is q (Authorize sent) rest e) tt in
    g opens (answer_denied i k dev p.session.transfer p.session.awaited _ q opens d)
progress_denied X F i k ds p dev challenge fault (Describing left) q rest e o f g d = f o
progress_denied X F i k ds p dev challenge fault (Putting n value requested left) q rest e o f g d = f o
progress_denied X F i k ds p dev challenge fault (Getting n left) q rest e o f g d = f o
progress_denied X F i k ds p dev challenge fault Starting q rest e o f g d = f o
progress_denied X F i k ds p dev challenge fault Shaping q rest e o f g d = f o
progress_denied X F i k ds p dev challenge fault (Imaging params heard) q rest e o f g d = f o

none_left : {X : Type 0} (p : JobState) (q : AbstractRequest) (rest : List AbstractRequest) → p.todo ≡ q ∷ rest → p.todo ≡ [] → X
none_left p q rest e none = absurd (let clash : q ∷ rest ≡ [] = sym e ∙ none in cc)

told_denied : (X F : Type 0) (i : ℕ) (k : Make) (ds : List ℕ) (p : JobState) (dev : AbstractDevice) (challenge : Challenge) (fault : Option FailureCounts) (stage : JobStage) (q : AbstractRequest) (rest : List AbstractRequest) → StageInvariant i k p dev stage → IsUnderWay stage → p.todo ≡ q ∷ rest → OpenedAt F p.session.job.task stage → (F → X) → (IsOpening q → dev.listed ≡ false → X) → Of i k ds p dev challenge fault X q
told_denied X F i k ds p dev challenge fault Idle q rest inv on e o f g d = none_left p q rest e inv.1
told_denied X F i k ds p dev challenge fault (Running s) q rest (inl r) on e o f g d = progress_denied X F i k ds p dev challenge fault s q rest (sym e ∙ r.todo) o f g d
told_denied X F i k ds p dev challenge fault (Running s) q rest (inr (inl r)) on e o f g d = none_left p q rest e r.todo
told_denied X F i k ds p dev challenge fault (Running s) q rest (inr (inr r)) on e o f g d = none_left p q rest e r.todo
told_denied X F i k ds p dev challenge fault Done q rest inv on e o f g d = absurd on
told_denied X F i k ds p dev challenge fault (Ended status why) q rest inv on e o f g d = absurd on

-- ---- how it ends

-- where it ended with INVAL
abbrev pub EndsIf : (Why → Type 0) → JobStage → Type 0
EndsIf X (Ended status why) = status ≡ Inval → X why
EndsIf X stage = Unit {0}

ends_any : (X : Why → Type 0) (stage : JobStage) → ((why : Why) → X why) → EndsIf X stage
ends_any X (Ended status why) x = λ e. x why
ends_any X Idle x = tt
ends_any X (Running g) x = tt
ends_any X Done x = tt

not_inval : {X : Type 0} → IoError ≡ Inval → X
not_inval e = absurd (cc)

-- it has not opened its device yet
abbrev IsEarly : AbstractProgress → Type 0
IsEarly Greeting = Unit {0}
IsEarly Listing = Unit {0}
IsEarly Opening = Unit {0}
IsEarly (Allowing challenge) = Unit {0}
IsEarly g = ⊥

early_heard : (X : Why → Type 0) (g : AbstractProgress) (job : AbstractJob) (m : ClientView) (r : AbstractReply) → IsEarly g → (Refused Inval ≡ r → X Answer) → EndsIf X (hear_at g job m r).stage
early_heard X Greeting job m Greeted early from = tt
early_heard X Greeting job m (Listed devices) early from = λ e. absurd (not_inval e)
early_heard X Greeting job m Opened early from = λ e. absurd (not_inval e)
early_heard X Greeting job m (Challenged challenge) early from = λ e. absurd (not_inval e)
early_heard X Greeting job m (Described descriptors) early from = λ e. absurd (not_inval e)
early_heard X Greeting job m (Got value) early from = λ e. absurd (not_inval e)
early_heard X Greeting job m (Gave value info) early from = λ e. absurd (not_inval e)
early_heard X Greeting job m (Shaped params) early from = λ e. absurd (not_inval e)
early_heard X Greeting job m (Begun order) early from = λ e. absurd (not_inval e)
early_heard X Greeting job m Acked early from = λ e. absurd (not_inval e)
early_heard X Greeting job m (Refused status) early from = λ e. from (ap Refused (sym e))
early_heard X Listing job m Greeted early from = λ e. absurd (not_inval e)
early_heard X Listing job m (Listed devices) early from = tt
early_heard X Listing job m Opened early from = λ e. absurd (not_inval e)
early_heard X Listing job m (Challenged challenge) early from = λ e. absurd (not_inval e)
early_heard X Listing job m (Described descriptors) early from = λ e. absurd (not_inval e)
early_heard X Listing job m (Got value) early from = λ e. absurd (not_inval e)
early_heard X Listing job m (Gave value info) early from = λ e. absurd (not_inval e)
early_heard X Listing job m (Shaped params) early from = λ e. absurd (not_inval e)
early_heard X Listing job m (Begun order) early from = λ e. absurd (not_inval e)
early_heard X Listing job m Acked early from = λ e. absurd (not_inval e)
early_heard X Listing job m (Refused status) early from = λ e. from (ap Refused (sym e))
early_heard X Opening job m Greeted early from = λ e. absurd (not_inval e)
early_heard X Opening job m (Listed devices) early from = λ e. absurd (not_inval e)
early_heard X Opening job m Opened early from = tt
early_heard X Opening job m (Challenged challenge) early from = tt
early_heard X Opening job m (Described descriptors) early from = λ e. absurd (not_inval e)
early_heard X Opening job m (Got value) early from = λ e. absurd (not_inval e)
early_heard X Opening job m (Gave value info) early from = λ e. absurd (not_inval e)
early_heard X Opening job m (Shaped params) early from = λ e. absurd (not_inval e)
early_heard X Opening job m (Begun order) early from = λ e. absurd (not_inval e)
early_heard X Opening job m Acked early from = λ e. absurd (not_inval e)
early_heard X Opening job m (Refused status) early from = λ e. from (ap Refused (sym e))
early_heard X (Allowing answered) job m Greeted early from = λ e. absurd (not_inval e)
early_heard X (Allowing answered) job m (Listed devices) early from = λ e. absurd (not_inval e)
early_heard X (Allowing answered) job m Opened early from = tt
early_heard X (Allowing answered) job m (Challenged challenge) early from = tt
early_heard X (Allowing answered) job m (Described descriptors) early from = λ e. absurd (not_inval e)
early_heard X (Allowing answered) job m (Got value) early from = λ e. absurd (not_inval e)
early_heard X (Allowing answered) job m (Gave value info) early from = λ e. absurd (not_inval e)
early_heard X (Allowing answered) job m (Shaped params) early from = λ e. absurd (not_inval e)
early_heard X (Allowing answered) job m (Begun order) early from = λ e. absurd (not_inval e)
early_heard X (Allowing answered) job m Acked early from = λ e. absurd (not_inval e)
early_heard X (Allowing answered) job m (Refused status) early from = λ e. from (ap Refused (sym e))
early_heard X (Describing left) job m r early from = absurd early
early_heard X (Putting n value requested left) job m r early from = absurd early
early_heard X (Getting n left) job m r early from = absurd early
early_heard X Starting job m r early from = absurd early
early_heard X Shaping job m r early from = absurd early
early_heard X (Imaging params heard) job m r early from = absurd early

heard : (X : Why → Type 0) (F : Type 0) (g : AbstractProgress) (job : AbstractJob) (m : ClientView) (r : AbstractReply) → OpenedAt F job.task (Running g) → (F → (why : Why) → X why) → (Refused Inval ≡ r → X Answer) → EndsIf X (hear_at g job m r).stage
heard X F Greeting job m r o f from = early_heard X Greeting job m r tt from
heard X F Listing job m r o f from = early_heard X Listing job m r tt from
heard X F Opening job m r o f from = early_heard X Opening job m r tt from
heard X F (Allowing answered) job m r o f from = early_heard X (Allowing answered) job m r tt from
heard X F (Describing left) job m r o f from = ends_any X (hear_at (Describing left) job m r).stage (f o)
heard X F (Putting n value requested left) job m r o f from = ends_any X (hear_at (Putting n value requested left) job m r).stage (f o)
heard X F (Getting n left) job m r o f from = ends_any X (hear_at (Getting n left) job m r).stage (f o)
heard X F Starting job m r o f from = ends_any X (hear_at Starting job m r).stage (f o)
heard X F Shaping job m r o f from = ends_any X (hear_at Shaping job m r).stage (f o)
heard X F (Imaging params got) job m r o f from = ends_any X (hear_at (Imaging params got) job m r).stage (f o)

-- what is so of its end, and of the replies that are due to it
abbrev pub EndsSo : (Why → Type 0) → JobState → Type 0
EndsSo X p = EndsIf X p.client.stage × (Denied p.due → X Answer)

heard_in : (X : Why → Type 0) (F : Type 0) (stage : JobStage) (job : AbstractJob) (m : ClientView) (r : AbstractReply) → m.stage ≡ stage → OpenedAt F job.task stage → (F → (why : Why) → X why) → (Refused Inval ≡ r → X Answer) → EndsIf X stage → EndsIf X (hear_in stage job m r).stage
heard_in X F Idle job m r at o f from e = subst (EndsIf X) (sym at) e
heard_in X F (Running g) job m r at o f from e = heard X F g job m r o f from
heard_in X F Done job m r at o f from e = subst (EndsIf X) (sym at) e
heard_in X F (Ended status why) job m r at o f from e = subst (EndsIf X) (sym at) e

read_on : (X : Why → Type 0) (F : Type 0) (task : AbstractTask) (stage : JobStage) (m : ClientView) (bytes : List ℕ) → m.stage ≡ stage → OpenedAt F task stage → (F → (why : Why) → X why) → EndsIf X stage → EndsIf X (client_after_bytes stage m bytes).stage
read_on X F task (Running (Imaging params got)) m bytes at o f e = ends_any X (client_after_bytes (Running (Imaging params got)) m bytes).stage (f o)
read_on X F task Idle m bytes at o f e = subst (EndsIf X) (sym at) e
read_on X F task (Running Greeting) m bytes at o f e = subst (EndsIf X) (sym at) e
read_on X F task (Running Listing) m bytes at o f e = subst (EndsIf X) (sym at) e
read_on X F task (Running Opening) m bytes at o f e = subst (EndsIf X) (sym at) e
read_on X F task (Running (Allowing challenge)) m bytes at o f e = subst (EndsIf X) (sym at) e
read_on X F task (Running (Describing left)) m bytes at o f e = subst (EndsIf X) (sym at) e
read_on X F task (Running (Putting n value requested left)) m bytes at o f e = subst (EndsIf X) (sym at) e
read_on X F task (Running (Getting n left)) m bytes at o f e = subst (EndsIf X) (sym at) e
read_on X F task (Running Starting) m bytes at o f e = subst (EndsIf X) (sym at) e
read_on X F task (Running Shaping) m bytes at o f e = subst (EndsIf X) (sym at) e
read_on X F task Done m bytes at o f e = subst (EndsIf X) (sym at) e
read_on X F task (Ended status why) m bytes at o f e = subst (EndsIf X) (sym at) e

finished_so : (X : Why → Type 0) (F : Type 0) (task : AbstractTask) (stage : JobStage) (m : ClientView) (status : Status) → m.stage ≡ stage → OpenedAt F task stage → (F → (why : Why) → X why) → EndsIf X stage → EndsIf X (finish_in stage task m status).stage
finished_so X F task (Running (Imaging params got)) m status at o f e = ends_any X (finish_in (Running (Imaging params got)) task m status).stage (f o)
finished_so X F task Idle m status at o f e = subst (EndsIf X) (sym at) e
finished_so X F task (Running Greeting) m status at o f e = subst (EndsIf X) (sym at) e
finished_so X F task (Running Listing) m status at o f e = subst (EndsIf X) (sym at) e
finished_so X F task (Running Opening) m status at o f e = subst (EndsIf X) (sym at) e
finished_so X F task (Running (Allowing challenge)) m status at o f e = subst (EndsIf X) (sym at) e
finished_so X F task (Running (Describing left)) m status at o f e = subst (EndsIf X) (sym at) e
finished_so X F task (Running (Putting n value requested left)) m status at o f e = subst (EndsIf X) (sym at) e
finished_so X F task (Running (Getting n left)) m status at o f e = subst (EndsIf X) (sym at) e
finished_so X F task (Running Starting) m status at o f e = subst (EndsIf X) (sym at) e
finished_so X F task (Running Shaping) m status at o f e = subst (EndsIf X) (sym at) e
finished_so X F task Done m status at o f e = subst (EndsIf X) (sym at) e
finished_so X F task (Ended was why) m status at o f e = subst (EndsIf X) (sym at) e

stopped_so : (X : Why → Type 0) (status : Status) (why : Why) (stage : JobStage) → (status ≡ Inval → X why) → EndsIf X stage → EndsIf X (stage_after_stop status why stage)
stopped_so X status why Idle from e = from
stopped_so X status why (Running g) from e = from
stopped_so X status why Done from e = e
stopped_so X status why (Ended earlier reason) from e = e

-- ---- one step

answers_end : (X : Why → Type 0) (i : ℕ) (k : Make) (ds : List ℕ) (p : JobState) (dev : AbstractDevice) (challenge : Challenge) (fault : Option FailureCounts) (qs : List AbstractRequest) → p.todo ≡ qs → ((q : AbstractRequest) (rest : List AbstractRequest) → p.todo ≡ q ∷ rest → Of i k ds p dev challenge fault (X Answer) q) → EndsSo X p → EndsSo X (answer_next i k ds p dev challenge fault qs)
answers_end X i k ds p dev challenge fault [] todo from e = e
answers_end X i k ds p dev challenge fault (q ∷ rest) todo from e = (
  e.0,
  λ among. elim (in_either p.due (served_by i k ds p dev challenge fault q).told (Refused Inval) among) [
    | inl old ↦ e.1 old
    | inr new ↦ from q rest todo new
  ],
)

hears_end : (X : Why → Type 0) (F : Type 0) (p : JobState) (r : AbstractReply) → ((rest : List AbstractReply) × (p.due ≡ r ∷ rest)) → OpenedAt F p.session.job.task p.client.stage → (F → (why : Why) → X why) → EndsSo X p → EndsIf X (hear_in p.client.stage p.session.job p.client r).stage × (Denied (without_first p.due) → X Answer)
hears_end X F p r (rest, is) o f e = (
  heard_in X F p.client.stage p.session.job p.client r refl o f (λ same. e.1 (subst Denied (sym is) (inl same))) e.0,
  λ among. e.1 (subst Denied (sym is) (inr (subst Denied (ap without_first is) among))),
)

own_end : (X : Why → Type 0) (F : Type 0) (i : ℕ) (k : Make) (ds : List ℕ) (p : JobState) (dev : AbstractDevice) (x : Action) → IsActionEnabled i k p dev x → ((challenge : Challenge) (fault : Option FailureCounts) → x ≡ Actions.Answers challenge fault → (q : AbstractRequest) (rest : List AbstractRequest) → p.todo ≡ q ∷ rest → Of i k ds p dev challenge fault (X Answer) q) → OpenedAt F p.session.job.task p.client.stage → (F → (why : Why) → X why) → EndsSo X p → EndsSo X (job_after_action i k ds p dev x)
own_end X F i k ds p dev Actions.Connects may from o f e = (tt, e.1)
own_end X F i k ds p dev (Actions.Answers challenge fault) may from o f e = answers_end X i k ds p dev challenge fault p.todo refl (from challenge fault refl) e
own_end X F i k ds p dev (Actions.Hears reply) may from o f e = hears_end X F p reply may.1 o f e
own_end X F i k ds p dev Actions.Dials may from o f e = e
own_end X F i k ds p dev (Actions.Turns bytes) may from o f e = e
own_end X F i k ds p dev Actions.TurnsLast may from o f e = e
own_end X F i k ds p dev (Actions.TurnsNamed status) may from o f e = e
own_end X F i k ds p dev Actions.TurnsShort may from o f e = e
own_end X F i k ds p dev (Actions.TurnsFault fault) may from o f e = e
own_end X F i k ds p dev Actions.TurnsOff may from o f e = e
own_end X F i k ds p dev (Actions.Reads bytes) may from o f e = (read_on X F p.session.job.task p.client.stage p.client bytes refl o f e.0, e.1)
own_end X F i k ds p dev (Actions.Finishes status) may from o f e = (finished_so X F p.session.job.task p.client.stage p.client status refl o f e.0, e.1)
own_end X F i k ds p dev (Actions.Loses memory) may from o f e = (stopped_so X IoError Lost p.client.stage (λ s. not_inval s) e.0, λ none. absurd none)
own_end X F i k ds p dev (Actions.LosesImage memory) may from o f e = (stopped_so X IoError Lost p.client.stage (λ s. not_inval s) e.0, e.1)
own_end X F i k ds p dev (Actions.Breaks memory) may from o f e = (e.0, λ none. absurd none)
own_end X F i k ds p dev Actions.RunsOutOfMemory may from o f e = (stopped_so X NoMem Memory p.client.stage (λ s. absurd (let clash : NoMem ≡ Inval = s in cc)) e.0, e.1)
own_end X F i k ds p dev Actions.Stops may from o f e = (stopped_so X codes.Cancelled Cancelled p.client.stage (λ s. absurd (let clash : codes.Cancelled ≡ Inval = s in cc)) e.0, e.1)

-- ---- all steps

-- it had opened its device, or is answered that this was not listed as it asked for it
abbrev pub IsFound : History → WorldCore → ℕ → Job → Why → Type 0
IsFound h w i job why = IsOpened h w i job ⊎ ((why ≡ Answer) × WasUnlisted h w i job)

-- while it runs, of the replies too
abbrev EndsKept : (Why → Type 0) → JobState → JobStage → Type 0
EndsKept X p Idle = EndsSo X p
EndsKept X p (Running g) = EndsSo X p
EndsKept X p Done = Unit {0}
EndsKept X p (Ended status why) = EndsIf X (Ended status why)

abbrev EndsNow : (Why → Type 0) → JobState → Type 0
EndsNow X p = EndsKept X p p.client.stage

ends_of : (X : Why → Type 0) (p : JobState) (stage : JobStage) → p.client.stage ≡ stage → EndsSo X p → EndsKept X p stage
ends_of X p Idle at e = e
ends_of X p (Running g) at e = e
ends_of X p Done at e = tt
ends_of X p (Ended status why) at e = subst (EndsIf X) at e.0

under_way : (X : Why → Type 0) (p : JobState) (stage : JobStage) → IsUnderWay stage → EndsKept X p stage → EndsSo X p
under_way X p Idle on e = e
under_way X p (Running g) on e = e
under_way X p Done on e = absurd on
under_way X p (Ended status why) on e = absurd on

under_end : (h : History) (w : WorldCore) (i : ℕ) (job : Job) (s : SystemState) (x : Action) → Here h i job s → IsUnderWay (s.job i).client.stage → AnsweredSo h w job s (By i x) → IsEnabled s (By i x) → OpenedSo (IsOpened h w i job) (s.job i) → EndsSo (IsFound h w i job) (s.job i) → EndsNow (IsFound h w i job) ((after_transition s (By i x)).job i)
under_end h w i job s x e on so may o ends =
    let X = IsFound h w i job in
    let F = IsOpened h w i job in
    let p = s.job i in
    let then_is = own_end X F i (make_for s i) (listed_devices s) p (device_for s i) x may (λ challenge fault is q rest todo.
    let front : Front h w job s i = ((challenge, fault), (subst (λ (y : Action). AnsweredSo h w job s (By i y)) is so) on) in
    told_denied (X Answer) F i (make_for s i) (listed_devices s) p (device_for s i) challenge fault p.client.stage q rest (e.sound.exchanges i) on todo o.0 (λ opened. inl opened) (λ opens off. inr (refl, not_listed h w i job s e on front (q, rest, todo, opens) off))) o.0 (λ opened why. inl opened) ends in
    subst (EndsNow X) (sym (own_party s i x)) (ends_of X (job_after_action i (make_for s i) (listed_devices s) p (device_for s i) x) _ refl then_is)

over_end : Laws → (X : Why → Type 0) (s : SystemState) (i : ℕ) (x : Action) (stage : JobStage) → (s.job i).client.stage ≡ stage → (IsUnderWay stage → ⊥) → IsEnabled s (By i x) → EndsKept X (s.job i) stage → EndsNow X ((after_transition s (By i x)).job i)
over_end laws X s i x Idle at off may k = absurd (off tt)
over_end laws X s i x (Running g) at off may k = absurd (off tt)
over_end laws X s i x Done at off may k =
    let stays : ((after_transition s (By i x)).job i).client.stage ≡ Done = ap (λ (m : ClientView). m.stage) (laws.last s i x may (λ on. off (subst IsUnderWay at on))) ∙ at in
    subst (EndsKept X ((after_transition s (By i x)).job i)) (sym stays) tt
over_end laws X s i x (Ended status why) at off may k =
    let stays : ((after_transition s (By i x)).job i).client.stage ≡ Ended status why = ap (λ (m : ClientView). m.stage) (laws.last s i x may (λ on. off (subst IsUnderWay at on))) ∙ at in
    subst (EndsKept X ((after_transition s (By i x)).job i)) (sym stays) k

own_ends : Laws → (h : History) (w : WorldCore) (i : ℕ) (job : Job) (s : SystemState) (x : Action) (stage : JobStage) → (s.job i).client.stage ≡ stage → Here h i job s → AnsweredSo h w job s (By i x) → IsEnabled s (By i x) → KeptAt h w i job s → EndsKept (IsFound h w i job) (s.job i) stage → EndsNow (IsFound h w i job) ((after_transition s (By i x)).job i)
own_ends laws h w i job s x Idle at e so may o k =
    let on : IsUnderWay (s.job i).client.stage = subst IsUnderWay (sym at) tt in
    under_end h w i job s x e on so may (under_so (IsOpened h w i job) (s.job i) (s.job i).client.stage on o) k
own_ends laws h w i job s x (Running g) at e so may o k =
    let on : IsUnderWay (s.job i).client.stage = subst IsUnderWay (sym at) tt in
    under_end h w i job s x e on so may (under_so (IsOpened h w i job) (s.job i) (s.job i).client.stage on o) k
own_ends laws h w i job s x Done at e so may o k = over_end laws (IsFound h w i job) s i x Done at (λ on. on) may k
own_ends laws h w i job s x (Ended status why) at e so may o k = over_end laws (IsFound h w i job) s i x (Ended status why) at (λ on. on) may k

abbrev EndsAt : History → WorldCore → ℕ → Job → SystemState → Type 0
EndsAt h w i job s = EndsNow (IsFound h w i job) (s.job i)

by_end : Laws → (h : History) (w : WorldCore) (i : ℕ) (job : Job) (s : SystemState) (j : ℕ) (x : Action) (b : Bool) → eqb i j ≡ b → Here h i job s → AnsweredSo h w job s (By j x) → IsEnabled s (By j x) → KeptAt h w i job s → EndsAt h w i job s → EndsAt h w i job (after_transition s (By j x))
by_end laws h w i job s j x false e here so may o k = subst (EndsNow (IsFound h w i job)) (sym (party_stays s j x i e)) k
by_end laws h w i job s j x true e here so may o k =
    subst (λ (n : ℕ). AnsweredSo h w job s (By n x) → IsEnabled s (By n x) → EndsAt h w i job (after_transition s (By n x))) (eqb-true i j e)
    (λ r l. own_ends laws h w i job s x (s.job i).client.stage refl here r l o k) so may

one_end : Laws → (h : History) (w : WorldCore) (i : ℕ) (job : Job) (s : SystemState) (x : Transition) → Here h i job s → AnsweredSo h w job s x → IsEnabled s x → KeptAt h w i job s → EndsAt h w i job s → EndsAt h w i job (after_transition s x)
one_end laws h w i job s (By j x) here so may o k = by_end laws h w i job s j x (eqb i j) refl here so may o k
one_end laws h w i job s (Loads d page) here so may o k = k
one_end laws h w i job s (Unplugs d) here so may o k = k
one_end laws h w i job s (Uses u d shown left) here so may o k = k

all_end : Laws → (h : History) (w : WorldCore) (i : ℕ) (job : Job) (xs : List Transition) (s : SystemState) → Here h i job s → AllByRecursion (IsOfOne h) xs → AllAlong (AnsweredSo h w job) s xs → IsHistory s xs → KeptAt h w i job s → EndsAt h w i job s → EndsAt h w i job (after_all s xs)
all_end laws h w i job [] s e of so may o k = k
all_end laws h w i job (x ∷ xs) s e of so may o k =
    all_end laws h w i job xs (after_transition s x) (here_then laws h w i job s x e of.0 may.0) of.1 so.1 may.1 (one_step laws h w i job s x e so.0 may.0 o) (one_end laws h w i job s x e so.0 may.0 o k)

-- a job that ended with INVAL had opened its device, or that was not listed as it asked for it
pub was_found : Laws → (h : History) (w : WorldCore) (i : ℕ) (job : Job) (steps : List Transition) (s : SystemState) → Here h i job s → AllByRecursion (IsOfOne h) steps → AllAlong (AnsweredSo h w job) s steps → IsHistory s steps → KeptAt h w i job s → EndsAt h w i job s →
    (why : Why) → ((after_all s steps).job i).client.stage ≡ Ended Inval why → IsFound h w i job why
was_found laws h w i job steps s e of so may opened ends why ended =
    subst (EndsKept (IsFound h w i job) ((after_all s steps).job i)) ended (all_end laws h w i job steps s e of so may opened ends) refl
