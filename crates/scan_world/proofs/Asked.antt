-- A challenge is sent for a guarded device alone.
use Rattle.std.proofs.Common.{◌≡◌, ◌∙◌, ℕ, List, [], ◌∷◌, Bool, true, false, Option, Some, None, refl, sym}
use Rattle.page_picture.specs.Shows.{Frame}
use Rattle.system_model.specs.AbstractMessages.{Challenge, AbstractRequest, Open, Authorize, Get, Set, Start}
use Rattle.device_api.specs.Kinds.{Page}
use Rattle.system_model.specs.Devices.{Make, AbstractAcceptedSet, accept_value, has_readable_value, picture_frames}
use Rattle.system_model.specs.AbstractDevices.{AbstractDevice, ScanPhase, Resting, Between, Reading, is_held_by, is_resting}
use Rattle.system_model.specs.Daemon.{AnswerEffect, Environment, FailureCounts, TransferState, Quiet, Waiting, Streaming, Ending, allow, answer, answer_awaited, answer_if, begin_page, begin_pass, get_reply, hand_out_device, open_listed, put_reply, refuse, serve, set_reply, start_at, start_effect, start_or_fail, start_page, take_listed}
use Rattle.system_model.specs.AbstractMessages.{same_text}
use Rattle.system_model.specs.SystemStates.{JobState}
use Rattle.system_model.specs.Actions
use Rattle.system_model.specs.Actions.{Action, answer_next, environment_of, job_after_action}

-- a challenge is awaited only where the device is guarded
abbrev AsksIf : Bool → AnswerEffect → Type 0
AsksIf guarded v = (c : Challenge) → v.awaited ≡ Some c → guarded ≡ true

none : (guarded : Bool) (v : AnswerEffect) → v.awaited ≡ None → AsksIf guarded v
none guarded v e = λ c is. absurd (let clash : None ≡ Some c = sym e ∙ is in cc)

-- ---- what each request is answered with

hand_none : (i : ℕ) (k : Make) (dev : AbstractDevice) (c : TransferState) (o : Option ℕ) → (hand_out_device i k dev c o).awaited ≡ None
hand_none i k dev c None = refl
hand_none i k dev c (Some j) = refl

take_none : (i : ℕ) (k : Make) (dev : AbstractDevice) (c : TransferState) (b : Bool) → (take_listed i k dev c b).awaited ≡ None
take_none i k dev c false = refl
take_none i k dev c true = hand_none i k dev c dev.holder

open_asks : (i : ℕ) (k : Make) (dev : AbstractDevice) (c : TransferState) (challenge : Challenge) (listed guarded : Bool) → AsksIf guarded (open_listed i k dev c challenge listed guarded)
open_asks i k dev c challenge false guarded = none guarded (open_listed i k dev c challenge false guarded) refl
open_asks i k dev c challenge true true = λ x is. refl
open_asks i k dev c challenge true false = none false (open_listed i k dev c challenge true false) (hand_none i k dev c dev.holder)

allow_none : (i : ℕ) (k : Make) (dev : AbstractDevice) (c : TransferState) (a b : Bool) → (allow i k dev c a b).awaited ≡ None
allow_none i k dev c true true = take_none i k dev c dev.listed
allow_none i k dev c true false = refl
allow_none i k dev c false b = refl

get_none : (k : Make) (dev : AbstractDevice) (c : TransferState) (n : ℕ) (b : Bool) → (get_reply k dev c n b).awaited ≡ None
get_none k dev c n true = refl
get_none k dev c n false = refl

put_none : (dev : AbstractDevice) (c : TransferState) (o : Option AbstractAcceptedSet) → (put_reply dev c o).awaited ≡ None
put_none dev c None = refl
put_none dev c (Some put) = refl

set_none : (k : Make) (dev : AbstractDevice) (c : TransferState) (n : ℕ) (value : _) (b : Bool) → (set_reply k dev c n value b).awaited ≡ None
set_none k dev c n value true = put_none dev c (accept_value k dev.options n value)
set_none k dev c n value false = refl

page_none : (k : Make) (dev : AbstractDevice) (c : TransferState) (page : Page) (frames : List Frame) → (begin_page k dev c page frames).awaited ≡ None
page_none k dev c page [] = refl
page_none k dev c page (f ∷ more) = refl

pass_none : (k : Make) (dev : AbstractDevice) (c : TransferState) (frames : List Frame) → (begin_pass k dev c frames).awaited ≡ None
pass_none k dev c [] = refl
pass_none k dev c (f ∷ more) = refl

first_none : (k : Make) (dev : AbstractDevice) (c : TransferState) (again : Bool) (tray : List Page) → (start_page k dev c again tray).awaited ≡ None
first_none k dev c again [] = refl
first_none k dev c again (page ∷ tray) = page_none k dev c page (picture_frames k dev.options page)

at_none : (k : Make) (dev : AbstractDevice) (c : TransferState) (again : Bool) (phase : ScanPhase) → (start_at k dev c again phase).awaited ≡ None
at_none k dev c again Resting = first_none k dev c again dev.tray
at_none k dev c again (Between last more) = pass_none k dev c more
at_none k dev c again (Reading frame rest more) = refl

fail_none : (k : Make) (dev : AbstractDevice) (c : TransferState) (again : Bool) (fault : Option FailureCounts) → (start_or_fail k dev c again fault).awaited ≡ None
fail_none k dev c again None = at_none k dev c again dev.phase
fail_none k dev c again (Some fault) = refl

start_none : (k : Make) (dev : AbstractDevice) (x : Environment) (c : TransferState) → (start_effect k dev x c).awaited ≡ None
start_none k dev x Quiet = fail_none k dev Quiet x.again x.fault
start_none k dev x Waiting = refl
start_none k dev x Streaming = refl
start_none k dev x Ending = refl

serve_asks : (i : ℕ) (k : Make) (dev : AbstractDevice) (c : TransferState) (x : Environment) (q : AbstractRequest) → AsksIf x.guarded (serve i k dev c x q)
serve_asks i k dev c x Open = open_asks i k dev c x.challenge dev.listed x.guarded
serve_asks i k dev c x (Get n) = none x.guarded (serve i k dev c x (Get n)) (get_none k dev c n (has_readable_value k dev.options n))
serve_asks i k dev c x (Set n value) = none x.guarded (serve i k dev c x (Set n value)) (set_none k dev c n value (is_resting dev.phase))
serve_asks i k dev c x Start = none x.guarded (serve i k dev c x Start) (start_none k dev x c)
serve_asks i k dev c x q = none x.guarded (serve i k dev c x q) refl

refuse_asks : (i : ℕ) (k : Make) (dev : AbstractDevice) (c : TransferState) (x : Environment) (q : AbstractRequest) → AsksIf x.guarded (refuse i k dev c x q)
refuse_asks i k dev c x Open = open_asks i k dev c x.challenge dev.listed x.guarded
refuse_asks i k dev c x q = none x.guarded (refuse i k dev c x q) refl

held_asks : (b : Bool) (i : ℕ) (k : Make) (dev : AbstractDevice) (c : TransferState) (x : Environment) (q : AbstractRequest) → AsksIf x.guarded (answer_if b i k dev c x q)
held_asks true i k dev c x q = serve_asks i k dev c x q
held_asks false i k dev c x q = refuse_asks i k dev c x q

awaited_none : (i : ℕ) (k : Make) (dev : AbstractDevice) (c : TransferState) (x : Environment) (sent : Challenge) (q : AbstractRequest) → (answer_awaited i k dev c x sent q).awaited ≡ None
awaited_none i k dev c x sent (Authorize challenge) = allow_none i k dev c (same_text challenge sent) (x.allows sent)
awaited_none i k dev c x sent q = refl

answer_asks : (i : ℕ) (k : Make) (dev : AbstractDevice) (c : TransferState) (awaited : Option Challenge) (x : Environment) (q : AbstractRequest) → AsksIf x.guarded (answer i k dev c awaited x q)
answer_asks i k dev c None x q = held_asks (is_held_by i dev.holder) i k dev c x q
answer_asks i k dev c (Some sent) x q = none x.guarded (answer i k dev c (Some sent) x q) (awaited_none i k dev c x sent q)

-- ---- what stands of a job

abbrev pub AsksGuarded : JobState → Type 0
AsksGuarded p = (c : Challenge) → p.session.awaited ≡ Some c → p.session.job.guarded ≡ true

next_asks : (i : ℕ) (k : Make) (ds : List ℕ) (p : JobState) (dev : AbstractDevice) (challenge : Challenge) (fault : Option FailureCounts) (qs : List AbstractRequest) → AsksGuarded p → AsksGuarded (answer_next i k ds p dev challenge fault qs)
next_asks i k ds p dev challenge fault [] h = h
next_asks i k ds p dev challenge fault (q ∷ rest) h = λ c is. answer_asks i k dev p.session.transfer p.session.awaited (environment_of p.session ds challenge fault) q c is

pub asks_then : (i : ℕ) (k : Make) (ds : List ℕ) (p : JobState) (dev : AbstractDevice) (x : Action) → AsksGuarded p → AsksGuarded (job_after_action i k ds p dev x)
asks_then i k ds p dev Actions.Connects h = h
asks_then i k ds p dev (Actions.Answers challenge fault) h = next_asks i k ds p dev challenge fault p.todo h
asks_then i k ds p dev (Actions.Hears reply) h = h
asks_then i k ds p dev Actions.Dials h = h
asks_then i k ds p dev (Actions.Turns bytes) h = h
asks_then i k ds p dev Actions.TurnsLast h = h
asks_then i k ds p dev (Actions.TurnsNamed status) h = h
asks_then i k ds p dev Actions.TurnsShort h = h
asks_then i k ds p dev (Actions.TurnsFault fault) h = h
asks_then i k ds p dev Actions.TurnsOff h = h
asks_then i k ds p dev (Actions.Reads bytes) h = h
asks_then i k ds p dev (Actions.Finishes status) h = h
asks_then i k ds p dev (Actions.Loses memory) h = h
asks_then i k ds p dev (Actions.LosesImage memory) h = h
asks_then i k ds p dev (Actions.Breaks memory) h = h
asks_then i k ds p dev Actions.RunsOutOfMemory h = h
asks_then i k ds p dev Actions.Stops h = h
