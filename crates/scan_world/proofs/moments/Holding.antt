-- By the model: what a client that runs asks for leaves it the device that it holds, and so does what others do.
use Rattle.std.specs.Prelude.{eqb, if◌then◌else◌}
use Rattle.std.proofs.Common.{◌≡◌, ◌≢◌, ◌∙◌, ◌⊎◌, inl, inr, ℕ, List, [], ◌∷◌, Bool, true, false, Option, Some, None, refl, sym, ap, subst, eqb-true}
use Rattle.page_picture.specs.Shows.{Frame}
use Rattle.device_api.specs.Kinds.{Page}
use Rattle.option_desc.specs.declared.value.Value.{Value}
use Rattle.sane_fixed.specs.declared.device_info.DeviceInfo.{DeviceInfo}
use Rattle.event_world.specs.declared.event.Event.{Event}
use Rattle.event_world.specs.declared.event.JobEvent.{JobEvent}
use Rattle.event_world.specs.declared.event.JobEvent.TheVariants as events
use Rattle.system_model.specs.AbstractMessages.{AbstractRequest, Challenge, Init, GetDevices, Open, Authorize, Describe, Get, Set, Start, Parameters, Close, Exit}
use Rattle.system_model.specs.AbstractDevices.{AbstractDevice, ScanPhase, Resting, Between, Reading, is_held_by, is_resting, put_down}
use Rattle.system_model.specs.Actions as actions
use Rattle.system_model.specs.Actions.{Action, device_after, device_after_answer, environment_of, image_off}
use Rattle.system_model.specs.Client.{AbstractProgress, ClientView, JobStage, Idle, Running, Done, Ended, Greeting, Listing, Opening, Allowing, Describing, Putting, Getting, Starting, Shaping, Imaging, request_awaited}
use Rattle.system_model.specs.Daemon.{AnswerEffect, Environment, FailureCounts, TransferState, Quiet, Waiting, Streaming, Ending, answer, answer_if, begin_page, begin_pass, get_reply, hand_out_device, open_listed, put_reply, refuse, serve, set_reply, start_at, start_effect, start_or_fail, start_page}
use Rattle.system_model.specs.Devices.{Make, AbstractAcceptedSet, accept_value, has_readable_value, picture_frames}
use Rattle.system_model.specs.Invariants.{StageInvariant}
use Rattle.system_model.specs.Sync.{InSync, Pauses, Ready}
use Rattle.system_model.specs.SystemStates.{JobState, SessionView, SystemState, device_for, listed_devices, make_for, wanted_place}
use Rattle.system_model.specs.Transitions.{By, IsEnabled, IsHistory, IsUnderWay, Loads, Transition, Unplugs, Uses, after_all, after_transition}
use Rattle.system_model.proofs.Treats.{same_treated, treats}
use Rattle.scan_world.proofs.Traced.{ActionOf, AreOf, StepOf, no_use}
use Rattle.scan_world.proofs.moments.Others.{decide}

-- ---- an answer

abbrev Same : AbstractDevice → AnswerEffect → Type 0
Same dev e = e.device.holder ≡ dev.holder

get_same : (k : Make) (dev : AbstractDevice) (c : TransferState) (n : ℕ) (b : Bool) → Same dev (get_reply k dev c n b)
get_same k dev c n true = refl
get_same k dev c n false = refl

put_same : (dev : AbstractDevice) (c : TransferState) (o : Option AbstractAcceptedSet) → Same dev (put_reply dev c o)
put_same dev c None = refl
put_same dev c (Some put) = refl

set_same : (k : Make) (dev : AbstractDevice) (c : TransferState) (n : ℕ) (value : Value) (b : Bool) → Same dev (set_reply k dev c n value b)
set_same k dev c n value true = put_same dev c (accept_value k dev.options n value)
set_same k dev c n value false = refl

page_same : (k : Make) (dev : AbstractDevice) (c : TransferState) (page : Page) (frames : List Frame) → Same dev (begin_page k dev c page frames)
page_same k dev c page [] = refl
page_same k dev c page (f ∷ more) = refl

pass_same : (k : Make) (dev : AbstractDevice) (c : TransferState) (frames : List Frame) → Same dev (begin_pass k dev c frames)
pass_same k dev c [] = refl
pass_same k dev c (f ∷ more) = refl

tray_same : (k : Make) (dev : AbstractDevice) (c : TransferState) (again : Bool) (tray : List Page) → Same dev (start_page k dev c again tray)
tray_same k dev c again [] = refl
tray_same k dev c again (page ∷ tray) = page_same k dev c page (picture_frames k dev.options page)

phase_same : (k : Make) (dev : AbstractDevice) (c : TransferState) (again : Bool) (phase : ScanPhase) → Same dev (start_at k dev c again phase)
phase_same k dev c again Resting = tray_same k dev c again dev.tray
phase_same k dev c again (Between last more) = pass_same k dev c more
phase_same k dev c again (Reading frame rest more) = refl

fail_same : (k : Make) (dev : AbstractDevice) (c : TransferState) (again : Bool) (fault : Option FailureCounts) → Same dev (start_or_fail k dev c again fault)
fail_same k dev c again None = phase_same k dev c again dev.phase
fail_same k dev c again (Some fault) = refl

start_same : (k : Make) (dev : AbstractDevice) (x : Environment) (c : TransferState) → Same dev (start_effect k dev x c)
start_same k dev x Quiet = fail_same k dev Quiet x.again x.fault
start_same k dev x Waiting = refl
start_same k dev x Streaming = refl
start_same k dev x Ending = refl

hand_held : (i : ℕ) (k : Make) (dev : AbstractDevice) (c : TransferState) (o : Option ℕ) → dev.holder ≡ Some i → (hand_out_device i k dev c o).device.holder ≡ Some i
hand_held i k dev c None h = refl
hand_held i k dev c (Some j) h = h

open_held : (i : ℕ) (k : Make) (dev : AbstractDevice) (c : TransferState) (challenge : Challenge) (listed guarded : Bool) → dev.holder ≡ Some i → (open_listed i k dev c challenge listed guarded).device.holder ≡ Some i
open_held i k dev c challenge false guarded h = h
open_held i k dev c challenge true true h = h
open_held i k dev c challenge true false h = hand_held i k dev c dev.holder h

-- it gives nothing back
abbrev Leaves : AbstractRequest → Type 0
Leaves (Authorize challenge) = ⊥
Leaves Close = ⊥
Leaves Exit = ⊥
Leaves q = Unit {0}

serve_held : (i : ℕ) (k : Make) (dev : AbstractDevice) (c : TransferState) (x : Environment) (q : AbstractRequest) → Leaves q → dev.holder ≡ Some i → (serve i k dev c x q).device.holder ≡ Some i
serve_held i k dev c x Open l h = open_held i k dev c x.challenge dev.listed x.guarded h
serve_held i k dev c x (Authorize challenge) l h = absurd l
serve_held i k dev c x (Get n) l h = get_same k dev c n (has_readable_value k dev.options n) ∙ h
serve_held i k dev c x (Set n value) l h = set_same k dev c n value (is_resting dev.phase) ∙ h
serve_held i k dev c x Start l h = start_same k dev x c ∙ h
serve_held i k dev c x Close l h = absurd l
serve_held i k dev c x Exit l h = absurd l
serve_held i k dev c x q l h = h

refuse_held : (i : ℕ) (k : Make) (dev : AbstractDevice) (c : TransferState) (x : Environment) (q : AbstractRequest) → dev.holder ≡ Some i → (refuse i k dev c x q).device.holder ≡ Some i
refuse_held i k dev c x Open h = open_held i k dev c x.challenge dev.listed x.guarded h
refuse_held i k dev c x q h = h

if_held : (b : Bool) (i : ℕ) (k : Make) (dev : AbstractDevice) (c : TransferState) (x : Environment) (q : AbstractRequest) → Leaves q → dev.holder ≡ Some i → (answer_if b i k dev c x q).device.holder ≡ Some i
if_held true i k dev c x q l h = serve_held i k dev c x q l h
if_held false i k dev c x q l h = refuse_held i k dev c x q h

-- ---- what a client that runs asks for, where it holds its device

-- no answer to a challenge is awaited, and the request gives nothing back
abbrev Asks : SessionView → AbstractRequest → Type 0
Asks b q = (b.awaited ≡ None) × Leaves q

starting : (i : ℕ) (k : Make) (b : SessionView) (m : ClientView) (dev : AbstractDevice) → Ready i k b m dev ⊎ Pauses i k b m dev → b.awaited ≡ None
starting i k b m dev (inl r) = r.still.awaited
starting i k b m dev (inr r) = r.still.awaited

first_is : (q r : AbstractRequest) (rest : List AbstractRequest) → q ∷ rest ≡ r ∷ [] → Leaves r → Leaves q
first_is q r rest e l = let same : r ≡ q = (let both : q ∷ rest ≡ r ∷ [] = e in cc) in subst Leaves same l

asks : (i : ℕ) (k : Make) (b : SessionView) (m : ClientView) (dev : AbstractDevice) (g : AbstractProgress) (q : AbstractRequest) (rest : List AbstractRequest) → InSync i k b m dev g → dev.holder ≡ Some i → q ∷ rest ≡ request_awaited g → Asks b q
asks i k b m dev Greeting q rest s h e = absurd (s.free h)
asks i k b m dev Listing q rest s h e = absurd (s.0.free h)
asks i k b m dev Opening q rest s h e = absurd (s.0.free h)
asks i k b m dev (Allowing challenge) q rest s h e = absurd (s.0.free h)
asks i k b m dev (Describing left) q rest s h e = (s.1.still.awaited, first_is q Describe rest e tt)
asks i k b m dev (Putting n value requested left) q rest s h e = (s.settles.still.awaited, first_is q (Set n value) rest e tt)
asks i k b m dev (Getting n left) q rest s h e = (s.still.awaited, first_is q (Get n) rest e tt)
asks i k b m dev Starting q rest s h e = (starting i k b m dev s, first_is q Start rest e tt)
asks i k b m dev Shaping q rest s h e = (s.awaited, first_is q Parameters rest e tt)
asks i k b m dev (Imaging params heard) q rest s h e = absurd (let clash : q ∷ rest ≡ [] = e in cc)

none_asked : (p : JobState) (q : AbstractRequest) (rest : List AbstractRequest) → p.todo ≡ q ∷ rest → p.todo ≡ [] → ⊥
none_asked p q rest e none = let clash : q ∷ rest ≡ [] = sym e ∙ none in cc

next_asks : (i : ℕ) (k : Make) (p : JobState) (dev : AbstractDevice) (stage : JobStage) (q : AbstractRequest) (rest : List AbstractRequest) → StageInvariant i k p dev stage → IsUnderWay stage → dev.holder ≡ Some i → p.todo ≡ q ∷ rest → Asks p.session q
next_asks i k p dev Idle q rest inv on h e = absurd (none_asked p q rest e inv.1)
next_asks i k p dev (Running g) q rest (inl r) on h e = asks i k p.session p.client dev g q rest r.in_sync h (sym e ∙ r.todo)
next_asks i k p dev (Running g) q rest (inr (inl r)) on h e = absurd (none_asked p q rest e r.todo)
next_asks i k p dev (Running g) q rest (inr (inr r)) on h e = absurd (none_asked p q rest e r.todo)
next_asks i k p dev Done q rest inv on h e = absurd on
next_asks i k p dev (Ended status why) q rest inv on h e = absurd on

next_held : (i : ℕ) (k : Make) (ds : List ℕ) (p : JobState) (dev : AbstractDevice) (challenge : Challenge) (fault : Option FailureCounts) (qs : List AbstractRequest) → StageInvariant i k p dev p.client.stage → IsUnderWay p.client.stage → dev.holder ≡ Some i → p.todo ≡ qs → (device_after_answer i k ds p dev challenge fault qs).holder ≡ Some i
next_held i k ds p dev challenge fault [] inv on h e = h
next_held i k ds p dev challenge fault (q ∷ rest) inv on h e =
    let a = next_asks i k p dev p.client.stage q rest inv on h e in
    let x = environment_of p.session ds challenge fault in
    subst (λ (awaited : Option Challenge). (answer i k dev p.session.transfer awaited x q).device.holder ≡ Some i) (sym a.0) (if_held (is_held_by i dev.holder) i k dev p.session.transfer x q a.1 h)

pub answer_holds : (s : SystemState) (i : ℕ) (challenge : Challenge) (fault : Option FailureCounts) → StageInvariant i (make_for s i) (s.job i) (device_for s i) (s.job i).client.stage → IsUnderWay (s.job i).client.stage → (device_for s i).holder ≡ Some i → (device_after i (make_for s i) (listed_devices s) (s.job i) (device_for s i) (actions.Answers challenge fault)).holder ≡ Some i
answer_holds s i challenge fault inv on h = next_held i (make_for s i) (listed_devices s) (s.job i) (device_for s i) challenge fault (s.job i).todo inv on h refl

-- ---- any other action

-- it neither answers nor ends its session
abbrev Spares : Action → Type 0
Spares (actions.Answers challenge fault) = ⊥
Spares (actions.Loses memory) = ⊥
Spares (actions.Breaks memory) = ⊥
Spares x = Unit {0}

down_if : (b : Bool) (dev : AbstractDevice) → (if b then put_down dev else dev).holder ≡ dev.holder
down_if true dev = refl
down_if false dev = refl

image_same : (i : ℕ) (c : TransferState) (dev : AbstractDevice) → (image_off i c dev).holder ≡ dev.holder
image_same i Quiet dev = refl
image_same i Waiting dev = refl
image_same i Streaming dev = down_if (is_held_by i dev.holder) dev
image_same i Ending dev = refl

own_same : (i : ℕ) (k : Make) (ds : List ℕ) (p : JobState) (dev : AbstractDevice) (x : Action) → Spares x → (device_after i k ds p dev x).holder ≡ dev.holder
own_same i k ds p dev (actions.Answers challenge fault) spares = absurd spares
own_same i k ds p dev (actions.Loses memory) spares = absurd spares
own_same i k ds p dev (actions.Breaks memory) spares = absurd spares
own_same i k ds p dev (actions.LosesImage memory) spares = image_same i p.session.transfer dev
own_same i k ds p dev (actions.Turns bytes) spares = refl
own_same i k ds p dev actions.TurnsLast spares = refl
own_same i k ds p dev (actions.TurnsNamed status) spares = refl
own_same i k ds p dev actions.TurnsShort spares = refl
own_same i k ds p dev (actions.TurnsFault fault) spares = refl
own_same i k ds p dev x spares = refl

-- an event of a job that connects it, delivers its requests, or takes its connection
abbrev pub Turns : JobEvent → Type 0
Turns events.Connect = Unit {0}
Turns (events.ToDaemon n) = Unit {0}
Turns events.LoseControl = Unit {0}
Turns y = ⊥

spared_by : (y : JobEvent) (x : Action) → ActionOf y x → (Turns y → ⊥) → Spares x
spared_by events.Connect x of not = absurd (not tt)
spared_by (events.ToDaemon n) x of not = absurd (not tt)
spared_by events.LoseControl x of not = absurd (not tt)
spared_by (events.ToClient n) (actions.Hears reply) of not = tt
spared_by (events.ToClient n) actions.RunsOutOfMemory of not = tt
spared_by (events.ToClient n) x of not = absurd of
spared_by events.DataConnect actions.Dials of not = tt
spared_by events.DataConnect x of not = absurd of
spared_by events.DataTurn (actions.Turns bytes) of not = tt
spared_by events.DataTurn actions.TurnsLast of not = tt
spared_by events.DataTurn actions.TurnsShort of not = tt
spared_by events.DataTurn (actions.TurnsNamed status) of not = tt
spared_by events.DataTurn (actions.TurnsFault fault) of not = tt
spared_by events.DataTurn actions.TurnsOff of not = tt
spared_by events.DataTurn (actions.LosesImage true) of not = tt
spared_by events.DataTurn x of not = absurd of
spared_by (events.DataToClient n) (actions.Reads bytes) of not = tt
spared_by (events.DataToClient n) (actions.Finishes status) of not = tt
spared_by (events.DataToClient n) actions.RunsOutOfMemory of not = tt
spared_by (events.DataToClient n) x of not = absurd of
spared_by events.LoseImage (actions.LosesImage false) of not = tt
spared_by events.LoseImage x of not = absurd of
spared_by events.Cancel actions.Stops of not = tt
spared_by events.Cancel x of not = absurd of

-- ---- a step

-- the device of a place behind an action of client j
abbrev pub Behind : SystemState → ℕ → Action → ℕ → AbstractDevice
Behind s j x k = (after_transition s (By j x)).device k

pub apart : (s : SystemState) (j : ℕ) (x : Action) (k : ℕ) → eqb k (wanted_place s j) ≡ false → Behind s j x k ≡ s.device k
apart s j x k e = rw e refl

pub there : (s : SystemState) (j : ℕ) (x : Action) (k : ℕ) → eqb k (wanted_place s j) ≡ true → Behind s j x k ≡ device_after j (make_for s j) (listed_devices s) (s.job j) (device_for s j) x
there s j x k e = rw e refl

action_holds : (s : SystemState) (j i : ℕ) (x : Action) (k : ℕ) → IsEnabled s (By j x) → (j ≢ i) ⊎ Spares x → (s.device k).holder ≡ Some i → (Behind s j x k).holder ≡ Some i
action_holds s j i x k may how h = by (eqb k (wanted_place s j)) refl how
  where
    new : AbstractDevice
    new = device_after j (make_for s j) (listed_devices s) (s.job j) (device_for s j) x

    by : (b : Bool) → eqb k (wanted_place s j) ≡ b → (j ≢ i) ⊎ Spares x → (Behind s j x k).holder ≡ Some i
    by false e how = ap (λ (dev : AbstractDevice). dev.holder) (apart s j x k e) ∙ h
    by true e (inl other) =
        let own : (device_for s j).holder ≡ Some i = ap (λ (n : ℕ). (s.device n).holder) (sym (eqb-true k (wanted_place s j) e)) ∙ h in
        let same = same_treated j i (make_for s j) (device_for s j) new (λ is. other (sym is)) (treats j (make_for s j) (listed_devices s) (s.job j) (device_for s j) x may) in
        ap (λ (dev : AbstractDevice). dev.holder) (there s j x k e) ∙ (same.held own).0
    by true e (inr spares) =
        let own : (device_for s j).holder ≡ Some i = ap (λ (n : ℕ). (s.device n).holder) (sym (eqb-true k (wanted_place s j) e)) ∙ h in
        ap (λ (dev : AbstractDevice). dev.holder) (there s j x k e) ∙ (own_same j (make_for s j) (listed_devices s) (s.job j) (device_for s j) x spares ∙ own)

laid_holds : (s : SystemState) (d k i : ℕ) (page : Page) → (s.device k).holder ≡ Some i → ((after_transition s (Loads d page)).device k).holder ≡ Some i
laid_holds s d k i page h = by (eqb k d) refl
  where
    by : (b : Bool) → eqb k d ≡ b → ((after_transition s (Loads d page)).device k).holder ≡ Some i
    by false e = rw e h
    by true e = rw e (ap (λ (n : ℕ). (s.device n).holder) (sym (eqb-true k d e)) ∙ h)

unplugged_holds : (s : SystemState) (d k i : ℕ) → IsEnabled s (Unplugs d) → (s.device k).holder ≡ Some i → ((after_transition s (Unplugs d)).device k).holder ≡ Some i
unplugged_holds s d k i may h = by (eqb k d) refl
  where
    by : (b : Bool) → eqb k d ≡ b → ((after_transition s (Unplugs d)).device k).holder ≡ Some i
    by false e = rw e h
    by true e = absurd (let clash : None ≡ Some i = sym may.1 ∙ (ap (λ (n : ℕ). (s.device n).holder) (sym (eqb-true k d e)) ∙ h) in cc)

-- what an event may do to what client i holds: each action of it is another's, or spares that
abbrev pub SparesAll : List DeviceInfo → Event → ℕ → Type 0
SparesAll infos e i = (j : ℕ) (x : Action) → StepOf infos e (By j x) → (j ≢ i) ⊎ Spares x

step_holds : (infos : List DeviceInfo) (e : Event) (s : SystemState) (x : Transition) (k i : ℕ) → StepOf infos e x → SparesAll infos e i → IsEnabled s x → (s.device k).holder ≡ Some i → ((after_transition s x).device k).holder ≡ Some i
step_holds infos e s (By j x) k i of spares may h = action_holds s j i x k may (spares j x of) h
step_holds infos e s (Loads d page) k i of spares may h = laid_holds s d k i page h
step_holds infos e s (Unplugs d) k i of spares may h = unplugged_holds s d k i may h
step_holds infos e s (Uses u d shown left) k i of spares may h = absurd (no_use infos e u d shown left of)

pub steps_hold : (infos : List DeviceInfo) (e : Event) (xs : List Transition) (s : SystemState) (k i : ℕ) → AreOf infos e xs → SparesAll infos e i → IsHistory s xs → (s.device k).holder ≡ Some i → ((after_all s xs).device k).holder ≡ Some i
steps_hold infos e [] s k i of spares may h = h
steps_hold infos e (x ∷ xs) s k i of spares may h = steps_hold infos e xs (after_transition s x) k i of.1 spares may.1 (step_holds infos e s x k i of.0 spares may.0 h)

-- an event of another job, or one that turns nothing
pub own_or_spares : (i j : ℕ) (y : JobEvent) → (j ≢ i) ⊎ (Turns y → ⊥) → (n : ℕ) (x : Action) → (n ≡ j) × ActionOf y x → (n ≢ i) ⊎ Spares x
own_or_spares i j y (inl other) n x of = inl (λ is. other (sym of.0 ∙ is))
own_or_spares i j y (inr not) n x of = inr (spared_by y x of.1 not)
