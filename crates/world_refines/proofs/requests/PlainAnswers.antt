-- Answers that ask for no AUTHORIZE: all but those to an OPEN of a listed device that is guarded. No refusal has the status GOOD.
use Rattle.std.proofs.Common.{◌≡◌, ◌≢◌, ◌⊎◌, inl, inr, ◌∙◌, ℕ, List, [], ◌∷◌, Bool, true, false, cond, Option, Some, None, refl, sym, ap}
use Rattle.sane_fixed.specs.declared.status.Status.TheVariants.{Good, DeviceBusy, Inval, NoDocs, IoError}
use Rattle.sane_fixed.specs.declared.status.Status.TheVariants.{AccessDenied}
use Rattle.option_desc.specs.declared.value.Value.{Value}
use Rattle.page_picture.specs.Shows.{Frame}
use Rattle.system_model.specs.AbstractMessages.{Authorize, Challenge, Challenged, Exit, Get, Open, Parameters, Refused, AbstractReply, AbstractRequest, Set, Start, same_text}
use Rattle.device_api.specs.Kinds.{Page}
use Rattle.system_model.specs.Devices.{Make, AbstractAcceptedSet, picture_frames, accept_value, has_readable_value}
use Rattle.system_model.specs.AbstractDevices.{Between, AbstractDevice, ScanPhase, Reading, Resting, is_held_by, is_resting, device_let_go, put_back}
use Rattle.system_model.specs.Daemon.{Environment, TransferState, Ending, FailureCounts, Quiet, AnswerEffect, Streaming, Waiting, allow, answer, answer_awaited, answer_if, begin_page, begin_pass, get_reply, open_listed, session_over_effect, put_reply, reply_effect, set_reply, start_at, start_or_fail, start_page, start_effect, hand_out_device, take_listed}

abbrev pub IsPlain : List AbstractReply → Type 0
IsPlain [] = Unit {0}
IsPlain (Challenged challenge ∷ told) = ⊥
IsPlain (Refused status ∷ told) = status ≢ Good
IsPlain (reply ∷ told) = Unit {0}

pub record Plain (v : AnswerEffect) : Type 0 where
  pub told : IsPlain v.told
  pub awaited : v.awaited ≡ None

busy : DeviceBusy ≢ Good
busy = λ e. cc

inval : Inval ≢ Good
inval = λ e. cc

no_docs : NoDocs ≢ Good
no_docs = λ e. cc

io_error : IoError ≢ Good
io_error = λ e. cc

denied : AccessDenied ≢ Good
denied = λ e. cc

take_plain : (i : ℕ) (k : Make) (dev : AbstractDevice) (c : TransferState) (h : Option ℕ) → Plain (hand_out_device i k dev c h)
take_plain i k dev c None = record { told = tt; awaited = refl }
take_plain i k dev c (Some j) = record { told = busy; awaited = refl }

take_listed_plain : (i : ℕ) (k : Make) (dev : AbstractDevice) (c : TransferState) (listed : Bool) → Plain (take_listed i k dev c listed)
take_listed_plain i k dev c false = record { told = inval; awaited = refl }
take_listed_plain i k dev c true = take_plain i k dev c dev.holder

pub open_plain : (i : ℕ) (k : Make) (dev : AbstractDevice) (c : TransferState) (challenge : Challenge) (listed guarded : Bool) → (listed ≡ true → guarded ≡ true → ⊥) → Plain (open_listed i k dev c challenge listed guarded)
open_plain i k dev c challenge false guarded n = record { told = inval; awaited = refl }
open_plain i k dev c challenge true true n = absurd (n refl refl)
open_plain i k dev c challenge true false n = take_plain i k dev c dev.holder

allow_plain : (i : ℕ) (k : Make) (dev : AbstractDevice) (c : TransferState) (same allowed : Bool) → Plain (allow i k dev c same allowed)
allow_plain i k dev c true true = take_listed_plain i k dev c dev.listed
allow_plain i k dev c true false = record { told = denied; awaited = refl }
allow_plain i k dev c false allowed = record { told = denied; awaited = refl }

get_plain : (k : Make) (dev : AbstractDevice) (c : TransferState) (n : ℕ) (b : Bool) → Plain (get_reply k dev c n b)
get_plain k dev c n true = record { told = tt; awaited = refl }
get_plain k dev c n false = record { told = inval; awaited = refl }

put_plain : (dev : AbstractDevice) (c : TransferState) (o : Option AbstractAcceptedSet) → Plain (put_reply dev c o)
put_plain dev c None = record { told = inval; awaited = refl }
put_plain dev c (Some put) = record { told = tt; awaited = refl }

set_plain : (k : Make) (dev : AbstractDevice) (c : TransferState) (n : ℕ) (value : Value) (b : Bool) → Plain (set_reply k dev c n value b)
set_plain k dev c n value true = put_plain dev c (accept_value k dev.options n value)
set_plain k dev c n value false = record { told = busy; awaited = refl }

page_plain : (k : Make) (dev : AbstractDevice) (c : TransferState) (page : Page) (frames : List Frame) → Plain (begin_page k dev c page frames)
page_plain k dev c page [] = record { told = inval; awaited = refl }
page_plain k dev c page (f ∷ more) = record { told = tt; awaited = refl }

pass_plain : (k : Make) (dev : AbstractDevice) (c : TransferState) (frames : List Frame) → Plain (begin_pass k dev c frames)
pass_plain k dev c [] = record { told = inval; awaited = refl }
pass_plain k dev c (f ∷ more) = record { told = tt; awaited = refl }

tray_plain : (k : Make) (dev : AbstractDevice) (c : TransferState) (again : Bool) (tray : List Page) → Plain (start_page k dev c again tray)
tray_plain k dev c again [] = record { told = no_docs; awaited = refl }
tray_plain k dev c again (page ∷ tray) = page_plain k dev c page (picture_frames k dev.options page)

at_plain : (k : Make) (dev : AbstractDevice) (c : TransferState) (again : Bool) (phase : ScanPhase) → Plain (start_at k dev c again phase)
at_plain k dev c again Resting = tray_plain k dev c again dev.tray
at_plain k dev c again (Between last more) = pass_plain k dev c more
at_plain k dev c again (Reading frame rest more) = record { told = busy; awaited = refl }

fail_plain : (k : Make) (dev : AbstractDevice) (c : TransferState) (again : Bool) (fault : Option FailureCounts) → Plain (start_or_fail k dev c again fault)
fail_plain k dev c again None = at_plain k dev c again dev.phase
fail_plain k dev c again (Some fault) = record { told = io_error; awaited = refl }

start_plain : (k : Make) (dev : AbstractDevice) (x : Environment) (c : TransferState) → Plain (start_effect k dev x c)
start_plain k dev x Quiet = fail_plain k dev Quiet x.again x.fault
start_plain k dev x Waiting = record { told = busy; awaited = refl }
start_plain k dev x Streaming = record { told = busy; awaited = refl }
start_plain k dev x Ending = record { told = busy; awaited = refl }

if_plain : (b : Bool) (i : ℕ) (k : Make) (dev : AbstractDevice) (c : TransferState) (x : Environment) (q : AbstractRequest) → (q ≡ Open → dev.listed ≡ true → x.guarded ≡ true → ⊥) → Plain (answer_if b i k dev c x q)
if_plain true i k dev c x Open n = open_plain i k dev c x.challenge dev.listed x.guarded (n refl)
if_plain true i k dev c x (Get o) n = get_plain k dev c o (has_readable_value k dev.options o)
if_plain true i k dev c x (Set o value) n = set_plain k dev c o value (is_resting dev.phase)
if_plain true i k dev c x Start n = start_plain k dev x c
if_plain true i k dev c x q n = record { told = tt; awaited = refl }
if_plain false i k dev c x Open n = open_plain i k dev c x.challenge dev.listed x.guarded (n refl)
if_plain false i k dev c x (Get o) n = record { told = inval; awaited = refl }
if_plain false i k dev c x (Set o value) n = record { told = inval; awaited = refl }
if_plain false i k dev c x Parameters n = record { told = inval; awaited = refl }
if_plain false i k dev c x Start n = record { told = inval; awaited = refl }
if_plain false i k dev c x q n = record { told = tt; awaited = refl }

awaited_plain : (i : ℕ) (k : Make) (dev : AbstractDevice) (c : TransferState) (x : Environment) (sent : Challenge) (q : AbstractRequest) → Plain (answer_awaited i k dev c x sent q)
awaited_plain i k dev c x sent (Authorize challenge) = allow_plain i k dev c (same_text challenge sent) (x.allows sent)
awaited_plain i k dev c x sent q = record { told = tt; awaited = refl }

pub answer_plain : (i : ℕ) (k : Make) (dev : AbstractDevice) (c : TransferState) (awaited : Option Challenge) (x : Environment) (q : AbstractRequest) → (q ≡ Open → awaited ≡ None → dev.listed ≡ true → x.guarded ≡ true → ⊥) → Plain (answer i k dev c awaited x q)
answer_plain i k dev c None x q n = if_plain (is_held_by i dev.holder) i k dev c x q (λ e. n e refl)
answer_plain i k dev c (Some sent) x q n = awaited_plain i k dev c x sent q

-- ---- an OPEN of a listed device that is guarded

open_asks : (i : ℕ) (k : Make) (dev : AbstractDevice) (c : TransferState) (challenge : Challenge) (listed guarded : Bool) → listed ≡ true → guarded ≡ true → open_listed i k dev c challenge listed guarded ≡ record (reply_effect (Challenged challenge) dev c) { awaited = Some challenge }
open_asks i k dev c challenge true true e f = refl
open_asks i k dev c challenge true false e f = absurd (let clash : false ≡ true = f in cc)
open_asks i k dev c challenge false guarded e f = absurd (let clash : false ≡ true = e in cc)

opens_asks : (b : Bool) (i : ℕ) (k : Make) (dev : AbstractDevice) (c : TransferState) (x : Environment) → dev.listed ≡ true → x.guarded ≡ true → answer_if b i k dev c x Open ≡ record (reply_effect (Challenged x.challenge) dev c) { awaited = Some x.challenge }
opens_asks true i k dev c x e f = open_asks i k dev c x.challenge dev.listed x.guarded e f
opens_asks false i k dev c x e f = open_asks i k dev c x.challenge dev.listed x.guarded e f

pub answer_asks : (i : ℕ) (k : Make) (dev : AbstractDevice) (c : TransferState) (awaited : Option Challenge) (x : Environment) → awaited ≡ None → dev.listed ≡ true → x.guarded ≡ true → answer i k dev c awaited x Open ≡ record (reply_effect (Challenged x.challenge) dev c) { awaited = Some x.challenge }
answer_asks i k dev c awaited x none e f = ap (λ (a : Option Challenge). answer i k dev c a x Open) none ∙ opens_asks (is_held_by i dev.holder) i k dev c x e f

-- ---- an end: the device is let go

-- something is told, and the session goes on
abbrev pub IsTold : List AbstractReply → Type 0
IsTold [] = ⊥
IsTold (reply ∷ told) = Unit {0}

abbrev pub TellsOn : AnswerEffect → Type 0
TellsOn v = (v.goes_on ≡ true) × IsTold v.told

abbrev pub Ends : ℕ → AbstractDevice → AnswerEffect → Type 0
Ends i dev v = TellsOn v ⊎ (v ≡ session_over_effect (device_let_go i dev))

take_ends : (i : ℕ) (k : Make) (dev : AbstractDevice) (c : TransferState) (h : Option ℕ) → TellsOn (hand_out_device i k dev c h)
take_ends i k dev c None = (refl, tt)
take_ends i k dev c (Some j) = (refl, tt)

take_listed_ends : (i : ℕ) (k : Make) (dev : AbstractDevice) (c : TransferState) (listed : Bool) → TellsOn (take_listed i k dev c listed)
take_listed_ends i k dev c false = (refl, tt)
take_listed_ends i k dev c true = take_ends i k dev c dev.holder

open_ends : (i : ℕ) (k : Make) (dev : AbstractDevice) (c : TransferState) (challenge : Challenge) (listed guarded : Bool) → TellsOn (open_listed i k dev c challenge listed guarded)
open_ends i k dev c challenge false guarded = (refl, tt)
open_ends i k dev c challenge true true = (refl, tt)
open_ends i k dev c challenge true false = take_ends i k dev c dev.holder

allow_ends : (i : ℕ) (k : Make) (dev : AbstractDevice) (c : TransferState) (same allowed : Bool) → TellsOn (allow i k dev c same allowed)
allow_ends i k dev c true true = take_listed_ends i k dev c dev.listed
allow_ends i k dev c true false = (refl, tt)
allow_ends i k dev c false allowed = (refl, tt)

get_ends : (k : Make) (dev : AbstractDevice) (c : TransferState) (n : ℕ) (b : Bool) → TellsOn (get_reply k dev c n b)
get_ends k dev c n true = (refl, tt)
get_ends k dev c n false = (refl, tt)

put_ends : (dev : AbstractDevice) (c : TransferState) (o : Option AbstractAcceptedSet) → TellsOn (put_reply dev c o)
put_ends dev c None = (refl, tt)
put_ends dev c (Some put) = (refl, tt)

set_ends : (k : Make) (dev : AbstractDevice) (c : TransferState) (n : ℕ) (value : Value) (b : Bool) → TellsOn (set_reply k dev c n value b)
set_ends k dev c n value true = put_ends dev c (accept_value k dev.options n value)
set_ends k dev c n value false = (refl, tt)

page_ends : (k : Make) (dev : AbstractDevice) (c : TransferState) (page : Page) (frames : List Frame) → TellsOn (begin_page k dev c page frames)
page_ends k dev c page [] = (refl, tt)
page_ends k dev c page (f ∷ more) = (refl, tt)

pass_ends : (k : Make) (dev : AbstractDevice) (c : TransferState) (frames : List Frame) → TellsOn (begin_pass k dev c frames)
pass_ends k dev c [] = (refl, tt)
pass_ends k dev c (f ∷ more) = (refl, tt)

tray_ends : (k : Make) (dev : AbstractDevice) (c : TransferState) (again : Bool) (tray : List Page) → TellsOn (start_page k dev c again tray)
tray_ends k dev c again [] = (refl, tt)
tray_ends k dev c again (page ∷ tray) = page_ends k dev c page (picture_frames k dev.options page)

at_ends : (k : Make) (dev : AbstractDevice) (c : TransferState) (again : Bool) (phase : ScanPhase) → TellsOn (start_at k dev c again phase)
at_ends k dev c again Resting = tray_ends k dev c again dev.tray
at_ends k dev c again (Between last more) = pass_ends k dev c more
at_ends k dev c again (Reading frame rest more) = (refl, tt)

fail_ends : (k : Make) (dev : AbstractDevice) (c : TransferState) (again : Bool) (fault : Option FailureCounts) → TellsOn (start_or_fail k dev c again fault)
fail_ends k dev c again None = at_ends k dev c again dev.phase
fail_ends k dev c again (Some fault) = (refl, tt)

start_ends : (k : Make) (dev : AbstractDevice) (x : Environment) (c : TransferState) → TellsOn (start_effect k dev x c)
start_ends k dev x Quiet = fail_ends k dev Quiet x.again x.fault
start_ends k dev x Waiting = (refl, tt)
start_ends k dev x Streaming = (refl, tt)
start_ends k dev x Ending = (refl, tt)

held_over : (i : ℕ) (dev : AbstractDevice) (b : Bool) → is_held_by i dev.holder ≡ b → session_over_effect (cond b (put_back dev) dev) ≡ session_over_effect (device_let_go i dev)
held_over i dev b e = ap (λ (x : Bool). session_over_effect (cond x (put_back dev) dev)) (sym e)

if_ends : (b : Bool) (i : ℕ) (k : Make) (dev : AbstractDevice) (c : TransferState) (x : Environment) (q : AbstractRequest) → is_held_by i dev.holder ≡ b → Ends i dev (answer_if b i k dev c x q)
if_ends true i k dev c x Open e = inl (open_ends i k dev c x.challenge dev.listed x.guarded)
if_ends true i k dev c x (Authorize challenge) e = inr (held_over i dev true e)
if_ends true i k dev c x (Get o) e = inl (get_ends k dev c o (has_readable_value k dev.options o))
if_ends true i k dev c x (Set o value) e = inl (set_ends k dev c o value (is_resting dev.phase))
if_ends true i k dev c x Start e = inl (start_ends k dev x c)
if_ends true i k dev c x Exit e = inr (held_over i dev true e)
if_ends true i k dev c x q e = inl (refl, tt)
if_ends false i k dev c x Open e = inl (open_ends i k dev c x.challenge dev.listed x.guarded)
if_ends false i k dev c x (Authorize challenge) e = inr (held_over i dev false e)
if_ends false i k dev c x Exit e = inr (held_over i dev false e)
if_ends false i k dev c x q e = inl (refl, tt)

awaited_ends : (i : ℕ) (k : Make) (dev : AbstractDevice) (c : TransferState) (x : Environment) (sent : Challenge) (q : AbstractRequest) → Ends i dev (answer_awaited i k dev c x sent q)
awaited_ends i k dev c x sent (Authorize challenge) = inl (allow_ends i k dev c (same_text challenge sent) (x.allows sent))
awaited_ends i k dev c x sent q = inr refl

-- an answer behind which the session does not go on is its end
pub answer_ends : (i : ℕ) (k : Make) (dev : AbstractDevice) (c : TransferState) (awaited : Option Challenge) (x : Environment) (q : AbstractRequest) → Ends i dev (answer i k dev c awaited x q)
answer_ends i k dev c None x q = if_ends (is_held_by i dev.holder) i k dev c x q refl
answer_ends i k dev c (Some sent) x q = awaited_ends i k dev c x sent q
