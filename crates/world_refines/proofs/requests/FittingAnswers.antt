-- What may be answered to a request: each answer of the model is one to what was asked.
use Rattle.std.proofs.Common.{◌≡◌, ℕ, List, [], ◌∷◌, Bool, true, false, Option, Some, None, refl}
use Rattle.option_desc.specs.declared.value.Value.{Value}
use Rattle.page_picture.specs.Shows.{Frame}
use Rattle.system_model.specs.AbstractMessages.{Acked, Authorize, Begun, Cancel, Challenge, Challenged, Close, Describe, Described, Gave, Get, GetDevices, Got, Greeted, Init, Listed, Open, Opened, Parameters, Refused, AbstractReply, AbstractRequest, Set, Shaped, Start, same_text}
use Rattle.device_api.specs.Kinds.{Page}
use Rattle.system_model.specs.Devices.{Make, AbstractAcceptedSet, picture_frames, accept_value, has_readable_value, readable_value}
use Rattle.system_model.specs.AbstractDevices.{Between, AbstractDevice, ScanPhase, Reading, Resting, is_held_by, is_resting}
use Rattle.system_model.specs.Daemon.{Environment, TransferState, Ending, FailureCounts, Quiet, Streaming, Waiting, allow, answer, answer_awaited, answer_if, begin_page, begin_pass, get_reply, open_listed, put_reply, refuse, serve, set_reply, start_at, start_or_fail, start_page, start_effect, hand_out_device, take_listed}

-- a value that was given is that of a put
pub record IsPut (k : Make) (dev : AbstractDevice) (n : ℕ) (asked given : Value) : Type 0 where
  pub put : AbstractAcceptedSet
  pub is : accept_value k dev.options n asked ≡ Some put
  pub given_is : given ≡ put.given

abbrev pub FitsTo : Make → AbstractDevice → Environment → AbstractRequest → AbstractReply → Type 0
FitsTo k dev x Init Greeted = Unit {0}
FitsTo k dev x GetDevices (Listed ds) = ds ≡ x.listed
FitsTo k dev x Open Opened = Unit {0}
FitsTo k dev x Open (Challenged c) = Unit {0}
FitsTo k dev x Open (Refused s) = Unit {0}
FitsTo k dev x (Authorize c) Opened = Unit {0}
FitsTo k dev x (Authorize c) (Refused s) = Unit {0}
FitsTo k dev x Describe (Described ds) = Unit {0}
FitsTo k dev x (Get n) (Got v) = (v ≡ readable_value k dev.options n) × (has_readable_value k dev.options n ≡ true)
FitsTo k dev x (Get n) (Refused s) = Unit {0}
FitsTo k dev x (Set n asked) (Gave given info) = IsPut k dev n asked given
FitsTo k dev x (Set n asked) (Refused s) = Unit {0}
FitsTo k dev x Parameters (Shaped params) = Unit {0}
FitsTo k dev x Parameters (Refused s) = Unit {0}
FitsTo k dev x Start (Begun order) = Unit {0}
FitsTo k dev x Start (Refused s) = Unit {0}
FitsTo k dev x Cancel Acked = Unit {0}
FitsTo k dev x Close Acked = Unit {0}
FitsTo k dev x q a = ⊥

abbrev pub AllFit : Make → AbstractDevice → Environment → AbstractRequest → List AbstractReply → Type 0
AllFit k dev x q [] = Unit {0}
AllFit k dev x q (a ∷ told) = FitsTo k dev x q a

-- ---- taken

take_open : (i : ℕ) (k : Make) (dev : AbstractDevice) (c : TransferState) (x : Environment) (h : Option ℕ) → AllFit k dev x Open (hand_out_device i k dev c h).told
take_open i k dev c x None = tt
take_open i k dev c x (Some j) = tt

open_fits : (i : ℕ) (k : Make) (dev : AbstractDevice) (c : TransferState) (x : Environment) (challenge : Challenge) (listed guarded : Bool) → AllFit k dev x Open (open_listed i k dev c challenge listed guarded).told
open_fits i k dev c x challenge false guarded = tt
open_fits i k dev c x challenge true true = tt
open_fits i k dev c x challenge true false = take_open i k dev c x dev.holder

take_allow : (i : ℕ) (k : Make) (dev : AbstractDevice) (c : TransferState) (x : Environment) (answer : Challenge) (h : Option ℕ) → AllFit k dev x (Authorize answer) (hand_out_device i k dev c h).told
take_allow i k dev c x answer None = tt
take_allow i k dev c x answer (Some j) = tt

listed_allow : (i : ℕ) (k : Make) (dev : AbstractDevice) (c : TransferState) (x : Environment) (answer : Challenge) (listed : Bool) → AllFit k dev x (Authorize answer) (take_listed i k dev c listed).told
listed_allow i k dev c x answer false = tt
listed_allow i k dev c x answer true = take_allow i k dev c x answer dev.holder

allow_fits : (i : ℕ) (k : Make) (dev : AbstractDevice) (c : TransferState) (x : Environment) (answer : Challenge) (same allowed : Bool) → AllFit k dev x (Authorize answer) (allow i k dev c same allowed).told
allow_fits i k dev c x answer true true = listed_allow i k dev c x answer dev.listed
allow_fits i k dev c x answer true false = tt
allow_fits i k dev c x answer false allowed = tt

-- ---- values

get_fits : (k : Make) (dev : AbstractDevice) (c : TransferState) (x : Environment) (n : ℕ) (b : Bool) → has_readable_value k dev.options n ≡ b → AllFit k dev x (Get n) (get_reply k dev c n b).told
get_fits k dev c x n true e = (refl, e)
get_fits k dev c x n false e = tt

put_fits : (k : Make) (dev : AbstractDevice) (c : TransferState) (x : Environment) (n : ℕ) (v : Value) (o : Option AbstractAcceptedSet) → accept_value k dev.options n v ≡ o → AllFit k dev x (Set n v) (put_reply dev c o).told
put_fits k dev c x n v None e = tt
put_fits k dev c x n v (Some put) e = record { put = put; is = e; given_is = refl }

set_fits : (k : Make) (dev : AbstractDevice) (c : TransferState) (x : Environment) (n : ℕ) (v : Value) (b : Bool) → AllFit k dev x (Set n v) (set_reply k dev c n v b).told
set_fits k dev c x n v true = put_fits k dev c x n v (accept_value k dev.options n v) refl
set_fits k dev c x n v false = tt

-- ---- a start

page_fits : (k : Make) (dev : AbstractDevice) (c : TransferState) (x : Environment) (page : Page) (fs : List Frame) → AllFit k dev x Start (begin_page k dev c page fs).told
page_fits k dev c x page [] = tt
page_fits k dev c x page (f ∷ fs) = tt

tray_fits : (k : Make) (dev : AbstractDevice) (c : TransferState) (x : Environment) (again : Bool) (tray : List Page) → AllFit k dev x Start (start_page k dev c again tray).told
tray_fits k dev c x again [] = tt
tray_fits k dev c x again (page ∷ tray) = page_fits k dev c x page (picture_frames k dev.options page)

pass_fits : (k : Make) (dev : AbstractDevice) (c : TransferState) (x : Environment) (fs : List Frame) → AllFit k dev x Start (begin_pass k dev c fs).told
pass_fits k dev c x [] = tt
pass_fits k dev c x (f ∷ fs) = tt

at_fits : (k : Make) (dev : AbstractDevice) (c : TransferState) (x : Environment) (again : Bool) (ph : ScanPhase) → AllFit k dev x Start (start_at k dev c again ph).told
at_fits k dev c x again Resting = tray_fits k dev c x again dev.tray
at_fits k dev c x again (Between last more) = pass_fits k dev c x more
at_fits k dev c x again (Reading frame rest more) = tt

fail_fits : (k : Make) (dev : AbstractDevice) (c : TransferState) (x : Environment) (again : Bool) (fault : Option FailureCounts) → AllFit k dev x Start (start_or_fail k dev c again fault).told
fail_fits k dev c x again None = at_fits k dev c x again dev.phase
fail_fits k dev c x again (Some fault) = tt

start_fits : (k : Make) (dev : AbstractDevice) (c : TransferState) (x : Environment) → AllFit k dev x Start (start_effect k dev x c).told
start_fits k dev Quiet x = fail_fits k dev Quiet x x.again x.fault
start_fits k dev Waiting x = tt
start_fits k dev Streaming x = tt
start_fits k dev Ending x = tt

-- ---- any request

serve_fits : (i : ℕ) (k : Make) (dev : AbstractDevice) (c : TransferState) (x : Environment) (q : AbstractRequest) → AllFit k dev x q (serve i k dev c x q).told
serve_fits i k dev c x GetDevices = refl
serve_fits i k dev c x Open = open_fits i k dev c x x.challenge dev.listed x.guarded
serve_fits i k dev c x (Get n) = get_fits k dev c x n (has_readable_value k dev.options n) refl
serve_fits i k dev c x (Set n value) = set_fits k dev c x n value (is_resting dev.phase)
serve_fits i k dev c x Start = start_fits k dev c x
serve_fits i k dev c x q = tt

refuse_fits : (i : ℕ) (k : Make) (dev : AbstractDevice) (c : TransferState) (x : Environment) (q : AbstractRequest) → AllFit k dev x q (refuse i k dev c x q).told
refuse_fits i k dev c x GetDevices = refl
refuse_fits i k dev c x Open = open_fits i k dev c x x.challenge dev.listed x.guarded
refuse_fits i k dev c x q = tt

if_fits : (b : Bool) (i : ℕ) (k : Make) (dev : AbstractDevice) (c : TransferState) (x : Environment) (q : AbstractRequest) → AllFit k dev x q (answer_if b i k dev c x q).told
if_fits true i k dev c x q = serve_fits i k dev c x q
if_fits false i k dev c x q = refuse_fits i k dev c x q

awaited_fits : (i : ℕ) (k : Make) (dev : AbstractDevice) (c : TransferState) (x : Environment) (sent : Challenge) (q : AbstractRequest) → AllFit k dev x q (answer_awaited i k dev c x sent q).told
awaited_fits i k dev c x sent (Authorize challenge) = allow_fits i k dev c x challenge (same_text challenge sent) (x.allows sent)
awaited_fits i k dev c x sent q = tt

pub answer_fits : (i : ℕ) (k : Make) (dev : AbstractDevice) (c : TransferState) (awaited : Option Challenge) (x : Environment) (q : AbstractRequest) → AllFit k dev x q (answer i k dev c awaited x q).told
answer_fits i k dev c None x q = if_fits (is_held_by i dev.holder) i k dev c x q
answer_fits i k dev c (Some sent) x q = awaited_fits i k dev c x sent q
