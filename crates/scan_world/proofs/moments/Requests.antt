-- Which request each cause is met at: a device is asked for by OPEN or AUTHORIZE, a page by START, and a list by GET_DEVICES.
use Rattle.std.specs.List.{AllByRecursion}
use Rattle.std.proofs.Common.{◌≡◌, ℕ, List, [], ◌∷◌, Bool, true, false, Option, Some, None, refl, eqb}
use Rattle.page_picture.specs.Shows.{Frame}
use Rattle.device_api.specs.Kinds.{Page}
use Rattle.system_model.specs.AbstractMessages.{Challenge, AbstractRequest, GetDevices, Open, Authorize, Get, Set, Start, same_text}
use Rattle.system_model.specs.AbstractDevices.{AbstractDevice, Begin, ScanPhase, Resting, Between, Reading, is_held_by, is_resting}
use Rattle.system_model.specs.Causes.{Cause, SourceFailed, HadNoPicture, TrayRanOut, TrayWasEmpty, WasUnlisted, WasHeld, Disallowed}
use Rattle.system_model.specs.Daemon.{AnswerEffect, Environment, FailureCounts, TransferState, Quiet, Waiting, Streaming, Ending, allow, answer, answer_awaited, answer_if, begin_page, begin_pass, empty_cause, get_reply, hand_out_device, held_cause, open_listed, put_reply, refuse, serve, set_reply, start_at, start_effect, start_or_fail, start_page, take_listed}
use Rattle.system_model.specs.Devices.{Make, AbstractAcceptedSet, accept_value, has_readable_value, picture_frames}

abbrev pub IsOpening : AbstractRequest → Type 0
IsOpening Open = Unit {0}
IsOpening (Authorize challenge) = Unit {0}
IsOpening q = ⊥

-- the cause is met at this request, of a device that stands so
abbrev pub MetAt : AbstractDevice → AbstractRequest → Cause → Type 0
MetAt dev q WasUnlisted = IsOpening q
MetAt dev q WasHeld = IsOpening q
MetAt dev q Disallowed = IsOpening q
MetAt dev q HadNoPicture = q ≡ Start
MetAt dev q TrayWasEmpty = q ≡ Start
MetAt dev q TrayRanOut = (q ≡ Start) × (dev.phase ≡ Resting)
MetAt dev q SourceFailed = q ≡ Start
MetAt dev q c = Unit {0}

-- a page is begun at a START, of a device at rest: it is the first in the tray, and the options are those in force
abbrev pub BeginsAt : AbstractDevice → AbstractRequest → List Begin → Type 0
BeginsAt dev q [] = Unit {0}
BeginsAt dev q (b ∷ more) = (q ≡ Start) × (dev.phase ≡ Resting) × ((later : List Page) × (dev.tray ≡ b.page ∷ later)) × (more ≡ [])

-- so is an effect, and where it shows devices they were asked for
abbrev MeetsAt : AbstractRequest → AbstractDevice → AnswerEffect → Type 0
MeetsAt q dev v = AllByRecursion (MetAt dev q) v.causes × ((ds : List ℕ) → v.shown ≡ Some ds → q ≡ GetDevices) × BeginsAt dev q v.begun

shows_none : (q : AbstractRequest) (ds : List ℕ) → ◌≡◌ {A = Option (List ℕ)} None (Some ds) → q ≡ GetDevices
shows_none q ds e = absurd (let clash : ◌≡◌ {A = Option (List ℕ)} None (Some ds) = e in cc)

-- ---- OPEN and AUTHORIZE

held_met : (dev : AbstractDevice) (q : AbstractRequest) → IsOpening q → (b : Bool) → AllByRecursion (MetAt dev q) (held_cause b)
held_met dev q opening true = tt
held_met dev q opening false = (opening, tt)

hand_met : (q : AbstractRequest) → IsOpening q → (i : ℕ) (k : Make) (dev : AbstractDevice) (c : TransferState) (o : Option ℕ) → MeetsAt q dev (hand_out_device i k dev c o)
hand_met q opening i k dev c None = (tt, shows_none q, tt)
hand_met q opening i k dev c (Some j) = (held_met dev q opening (eqb j i), shows_none q, tt)

take_met : (q : AbstractRequest) → IsOpening q → (i : ℕ) (k : Make) (dev : AbstractDevice) (c : TransferState) (b : Bool) → MeetsAt q dev (take_listed i k dev c b)
take_met q opening i k dev c false = ((opening, tt), shows_none q, tt)
take_met q opening i k dev c true = hand_met q opening i k dev c dev.holder

open_met : (i : ℕ) (k : Make) (dev : AbstractDevice) (c : TransferState) (challenge : Challenge) (listed guarded : Bool) → MeetsAt Open dev (open_listed i k dev c challenge listed guarded)
open_met i k dev c challenge false guarded = ((tt, tt), shows_none Open, tt)
open_met i k dev c challenge true true = (tt, shows_none Open, tt)
open_met i k dev c challenge true false = hand_met Open tt i k dev c dev.holder

allow_met : (challenge : Challenge) (i : ℕ) (k : Make) (dev : AbstractDevice) (c : TransferState) (a b : Bool) → MeetsAt (Authorize challenge) dev (allow i k dev c a b)
allow_met challenge i k dev c true true = take_met (Authorize challenge) tt i k dev c dev.listed
allow_met challenge i k dev c true false = ((tt, tt), shows_none (Authorize challenge), tt)
allow_met challenge i k dev c false b = (tt, shows_none (Authorize challenge), tt)

-- ---- GET and SET

get_met : (k : Make) (dev : AbstractDevice) (c : TransferState) (n : ℕ) (b : Bool) → MeetsAt (Get n) dev (get_reply k dev c n b)
get_met k dev c n true = (tt, shows_none (Get n), tt)
get_met k dev c n false = (tt, shows_none (Get n), tt)

put_met : (n : ℕ) (value : _) (dev : AbstractDevice) (c : TransferState) (o : Option AbstractAcceptedSet) → MeetsAt (Set n value) dev (put_reply dev c o)
put_met n value dev c None = (tt, shows_none (Set n value), tt)
put_met n value dev c (Some put) = (tt, shows_none (Set n value), tt)

set_met : (k : Make) (dev : AbstractDevice) (c : TransferState) (n : ℕ) (value : _) (b : Bool) → MeetsAt (Set n value) dev (set_reply k dev c n value b)
set_met k dev c n value true = put_met n value dev c (accept_value k dev.options n value)
set_met k dev c n value false = (tt, shows_none (Set n value), tt)

-- ---- START

page_met : (k : Make) (dev : AbstractDevice) (c : TransferState) (page : Page) (later : List Page) (frames : List Frame) → dev.phase ≡ Resting → dev.tray ≡ page ∷ later → MeetsAt Start dev (begin_page k dev c page frames)
page_met k dev c page later [] rests is = ((refl, tt), shows_none Start, tt)
page_met k dev c page later (f ∷ more) rests is = (tt, shows_none Start, (refl, rests, (later, is), refl))

pass_met : (k : Make) (dev : AbstractDevice) (c : TransferState) (frames : List Frame) → MeetsAt Start dev (begin_pass k dev c frames)
pass_met k dev c [] = (tt, shows_none Start, tt)
pass_met k dev c (f ∷ more) = (tt, shows_none Start, tt)

empty_met : (dev : AbstractDevice) (again : Bool) → dev.phase ≡ Resting → MetAt dev Start (empty_cause again)
empty_met dev true rests = (refl, rests)
empty_met dev false rests = refl

tray_met : (k : Make) (dev : AbstractDevice) (c : TransferState) (again : Bool) (tray : List Page) → dev.phase ≡ Resting → dev.tray ≡ tray → MeetsAt Start dev (start_page k dev c again tray)
tray_met k dev c again [] rests is = ((empty_met dev again rests, tt), shows_none Start, tt)
tray_met k dev c again (page ∷ tray) rests is = page_met k dev c page tray (picture_frames k dev.options page) rests is

phase_met : (k : Make) (dev : AbstractDevice) (c : TransferState) (again : Bool) (phase : ScanPhase) → dev.phase ≡ phase → MeetsAt Start dev (start_at k dev c again phase)
phase_met k dev c again Resting is = tray_met k dev c again dev.tray is refl
phase_met k dev c again (Between last more) is = pass_met k dev c more
phase_met k dev c again (Reading frame rest more) is = (tt, shows_none Start, tt)

fail_met : (k : Make) (dev : AbstractDevice) (c : TransferState) (again : Bool) (fault : Option FailureCounts) → MeetsAt Start dev (start_or_fail k dev c again fault)
fail_met k dev c again None = phase_met k dev c again dev.phase refl
fail_met k dev c again (Some fault) = ((refl, tt), shows_none Start, tt)

start_met : (k : Make) (dev : AbstractDevice) (x : Environment) (c : TransferState) → MeetsAt Start dev (start_effect k dev x c)
start_met k dev x Quiet = fail_met k dev Quiet x.again x.fault
start_met k dev x Waiting = (tt, shows_none Start, tt)
start_met k dev x Streaming = (tt, shows_none Start, tt)
start_met k dev x Ending = (tt, shows_none Start, tt)

-- ---- every request

serve_met : (i : ℕ) (k : Make) (dev : AbstractDevice) (c : TransferState) (x : Environment) (q : AbstractRequest) → MeetsAt q dev (serve i k dev c x q)
serve_met i k dev c x GetDevices = (tt, λ ds e. refl, tt)
serve_met i k dev c x Open = open_met i k dev c x.challenge dev.listed x.guarded
serve_met i k dev c x (Get n) = get_met k dev c n (has_readable_value k dev.options n)
serve_met i k dev c x (Set n value) = set_met k dev c n value (is_resting dev.phase)
serve_met i k dev c x Start = start_met k dev x c
serve_met i k dev c x q = (tt, shows_none q, tt)

refuse_met : (i : ℕ) (k : Make) (dev : AbstractDevice) (c : TransferState) (x : Environment) (q : AbstractRequest) → MeetsAt q dev (refuse i k dev c x q)
refuse_met i k dev c x GetDevices = (tt, λ ds e. refl, tt)
refuse_met i k dev c x Open = open_met i k dev c x.challenge dev.listed x.guarded
refuse_met i k dev c x q = (tt, shows_none q, tt)

awaited_met : (i : ℕ) (k : Make) (dev : AbstractDevice) (c : TransferState) (x : Environment) (sent : Challenge) (q : AbstractRequest) → MeetsAt q dev (answer_awaited i k dev c x sent q)
awaited_met i k dev c x sent GetDevices = (tt, λ ds e. refl, tt)
awaited_met i k dev c x sent (Authorize challenge) = allow_met challenge i k dev c (same_text challenge sent) (x.allows sent)
awaited_met i k dev c x sent q = (tt, shows_none q, tt)

if_met : (b : Bool) (i : ℕ) (k : Make) (dev : AbstractDevice) (c : TransferState) (x : Environment) (q : AbstractRequest) → MeetsAt q dev (answer_if b i k dev c x q)
if_met true i k dev c x q = serve_met i k dev c x q
if_met false i k dev c x q = refuse_met i k dev c x q

pub answers_met : (i : ℕ) (k : Make) (dev : AbstractDevice) (c : TransferState) (awaited : Option Challenge) (x : Environment) (q : AbstractRequest) → AllByRecursion (MetAt dev q) (answer i k dev c awaited x q).causes × ((ds : List ℕ) → (answer i k dev c awaited x q).shown ≡ Some ds → q ≡ GetDevices) × BeginsAt dev q (answer i k dev c awaited x q).begun
answers_met i k dev c None x q = if_met (is_held_by i dev.holder) i k dev c x q
answers_met i k dev c (Some sent) x q = awaited_met i k dev c x sent q
