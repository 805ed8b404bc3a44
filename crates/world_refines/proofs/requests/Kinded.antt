-- What the model tells of each request, where the session goes on.
use Rattle.std.proofs.Common.{◌≡◌, ℕ, List, [], ◌∷◌, Bool, true, false, Option, Some, None, refl}
use Rattle.option_desc.specs.declared.value.Value.{Value}
use Rattle.page_picture.specs.Shows.{Frame}
use Rattle.system_model.specs.AbstractMessages.{Acked, Authorize, Begun, Cancel, Challenge, Challenged, Close, Describe, Described, Gave, Get, GetDevices, Got, Greeted, Init, Listed, Open, Opened, Parameters, Refused, AbstractReply, AbstractRequest, Set, Shaped, Start, same_text}
use Rattle.device_api.specs.Kinds.{Page}
use Rattle.system_model.specs.Devices.{Make, OptionsInForce, AbstractAcceptedSet, picture_frames, accept_value, has_readable_value, readable_value}
use Rattle.system_model.specs.AbstractDevices.{Between, AbstractDevice, ScanPhase, Reading, Resting, is_held_by, is_resting}
use Rattle.system_model.specs.Daemon.{Environment, TransferState, Ending, FailureCounts, Quiet, Streaming, Waiting, allow, answer, answer_awaited, answer_if, begin_page, begin_pass, get_reply, open_listed, put_reply, set_reply, start_at, start_or_fail, start_page, start_effect, hand_out_device, take_listed}

-- this is told of the request, by these options and these devices that are listed
abbrev pub IsFor : Make → OptionsInForce → List ℕ → AbstractRequest → AbstractReply → Type 0
IsFor k o ds Init Greeted = Unit {0}
IsFor k o ds GetDevices (Listed devices) = devices ≡ ds
IsFor k o ds Open Opened = Unit {0}
IsFor k o ds Open (Challenged challenge) = Unit {0}
IsFor k o ds Open (Refused status) = Unit {0}
IsFor k o ds (Authorize challenge) Opened = Unit {0}
IsFor k o ds (Authorize challenge) (Refused status) = Unit {0}
IsFor k o ds Describe (Described descriptors) = Unit {0}
IsFor k o ds (Get n) (Got value) = (has_readable_value k o n ≡ true) × (value ≡ readable_value k o n)
IsFor k o ds (Get n) (Refused status) = Unit {0}
IsFor k o ds (Set n asked) (Gave given info) = (put : AbstractAcceptedSet) × (accept_value k o n asked ≡ Some put) × (given ≡ put.given)
IsFor k o ds (Set n asked) (Refused status) = Unit {0}
IsFor k o ds Parameters (Shaped params) = Unit {0}
IsFor k o ds Parameters (Refused status) = Unit {0}
IsFor k o ds Start (Begun order) = Unit {0}
IsFor k o ds Start (Refused status) = Unit {0}
IsFor k o ds Cancel Acked = Unit {0}
IsFor k o ds Close Acked = Unit {0}
IsFor k o ds q reply = ⊥

-- so is the first of what is told
abbrev pub AreFor : Make → OptionsInForce → List ℕ → AbstractRequest → List AbstractReply → Type 0
AreFor k o ds q [] = Unit {0}
AreFor k o ds q (reply ∷ told) = IsFor k o ds q reply

take_open : (k : Make) (o : OptionsInForce) (ds : List ℕ) (i : ℕ) (dev : AbstractDevice) (c : TransferState) (h : Option ℕ) → AreFor k o ds Open (hand_out_device i k dev c h).told
take_open k o ds i dev c None = tt
take_open k o ds i dev c (Some j) = tt

take_authorize : (k : Make) (o : OptionsInForce) (ds : List ℕ) (challenge : Challenge) (i : ℕ) (dev : AbstractDevice) (c : TransferState) (h : Option ℕ) → AreFor k o ds (Authorize challenge) (hand_out_device i k dev c h).told
take_authorize k o ds challenge i dev c None = tt
take_authorize k o ds challenge i dev c (Some j) = tt

listed_authorize : (k : Make) (o : OptionsInForce) (ds : List ℕ) (challenge : Challenge) (i : ℕ) (dev : AbstractDevice) (c : TransferState) (listed : Bool) → AreFor k o ds (Authorize challenge) (take_listed i k dev c listed).told
listed_authorize k o ds challenge i dev c false = tt
listed_authorize k o ds challenge i dev c true = take_authorize k o ds challenge i dev c dev.holder

open_for : (k : Make) (o : OptionsInForce) (ds : List ℕ) (i : ℕ) (dev : AbstractDevice) (c : TransferState) (challenge : Challenge) (listed guarded : Bool) → AreFor k o ds Open (open_listed i k dev c challenge listed guarded).told
open_for k o ds i dev c challenge false guarded = tt
open_for k o ds i dev c challenge true true = tt
open_for k o ds i dev c challenge true false = take_open k o ds i dev c dev.holder

allow_for : (k : Make) (o : OptionsInForce) (ds : List ℕ) (challenge : Challenge) (i : ℕ) (dev : AbstractDevice) (c : TransferState) (same allowed : Bool) → AreFor k o ds (Authorize challenge) (allow i k dev c same allowed).told
allow_for k o ds challenge i dev c true true = listed_authorize k o ds challenge i dev c dev.listed
allow_for k o ds challenge i dev c true false = tt
allow_for k o ds challenge i dev c false allowed = tt

get_for : (k : Make) (dev : AbstractDevice) (ds : List ℕ) (c : TransferState) (n : ℕ) (b : Bool) → has_readable_value k dev.options n ≡ b → AreFor k dev.options ds (Get n) (get_reply k dev c n b).told
get_for k dev ds c n true e = (e, refl)
get_for k dev ds c n false e = tt

put_for : (k : Make) (dev : AbstractDevice) (ds : List ℕ) (c : TransferState) (n : ℕ) (asked : Value) (o : Option AbstractAcceptedSet) → accept_value k dev.options n asked ≡ o → AreFor k dev.options ds (Set n asked) (put_reply dev c o).told
put_for k dev ds c n asked None e = tt
put_for k dev ds c n asked (Some put) e = (put, e, refl)

set_for : (k : Make) (dev : AbstractDevice) (ds : List ℕ) (c : TransferState) (n : ℕ) (asked : Value) (b : Bool) → AreFor k dev.options ds (Set n asked) (set_reply k dev c n asked b).told
set_for k dev ds c n asked true = put_for k dev ds c n asked (accept_value k dev.options n asked) refl
set_for k dev ds c n asked false = tt

page_for : (k : Make) (o : OptionsInForce) (ds : List ℕ) (dev : AbstractDevice) (c : TransferState) (page : Page) (frames : List Frame) → AreFor k o ds Start (begin_page k dev c page frames).told
page_for k o ds dev c page [] = tt
page_for k o ds dev c page (f ∷ more) = tt

pass_for : (k : Make) (o : OptionsInForce) (ds : List ℕ) (dev : AbstractDevice) (c : TransferState) (frames : List Frame) → AreFor k o ds Start (begin_pass k dev c frames).told
pass_for k o ds dev c [] = tt
pass_for k o ds dev c (f ∷ more) = tt

tray_for : (k : Make) (o : OptionsInForce) (ds : List ℕ) (dev : AbstractDevice) (c : TransferState) (again : Bool) (tray : List Page) → AreFor k o ds Start (start_page k dev c again tray).told
tray_for k o ds dev c again [] = tt
tray_for k o ds dev c again (page ∷ tray) = page_for k o ds dev c page (picture_frames k dev.options page)

at_for : (k : Make) (o : OptionsInForce) (ds : List ℕ) (dev : AbstractDevice) (c : TransferState) (again : Bool) (phase : ScanPhase) → AreFor k o ds Start (start_at k dev c again phase).told
at_for k o ds dev c again Resting = tray_for k o ds dev c again dev.tray
at_for k o ds dev c again (Between last more) = pass_for k o ds dev c more
at_for k o ds dev c again (Reading frame rest more) = tt

fail_for : (k : Make) (o : OptionsInForce) (ds : List ℕ) (dev : AbstractDevice) (c : TransferState) (again : Bool) (fault : Option FailureCounts) → AreFor k o ds Start (start_or_fail k dev c again fault).told
fail_for k o ds dev c again None = at_for k o ds dev c again dev.phase
fail_for k o ds dev c again (Some fault) = tt

start_for : (k : Make) (o : OptionsInForce) (ds : List ℕ) (dev : AbstractDevice) (x : Environment) (c : TransferState) → AreFor k o ds Start (start_effect k dev x c).told
start_for k o ds dev x Quiet = fail_for k o ds dev Quiet x.again x.fault
start_for k o ds dev x Waiting = tt
start_for k o ds dev x Streaming = tt
start_for k o ds dev x Ending = tt

if_for : (b : Bool) (i : ℕ) (k : Make) (dev : AbstractDevice) (c : TransferState) (x : Environment) (q : AbstractRequest) → AreFor k dev.options x.listed q (answer_if b i k dev c x q).told
if_for true i k dev c x GetDevices = refl
if_for true i k dev c x Open = open_for k dev.options x.listed i dev c x.challenge dev.listed x.guarded
if_for true i k dev c x (Get n) = get_for k dev x.listed c n (has_readable_value k dev.options n) refl
if_for true i k dev c x (Set n value) = set_for k dev x.listed c n value (is_resting dev.phase)
if_for true i k dev c x Start = start_for k dev.options x.listed dev x c
if_for true i k dev c x q = tt
if_for false i k dev c x GetDevices = refl
if_for false i k dev c x Open = open_for k dev.options x.listed i dev c x.challenge dev.listed x.guarded
if_for false i k dev c x q = tt

awaited_for : (i : ℕ) (k : Make) (dev : AbstractDevice) (c : TransferState) (x : Environment) (sent : Challenge) (q : AbstractRequest) → AreFor k dev.options x.listed q (answer_awaited i k dev c x sent q).told
awaited_for i k dev c x sent (Authorize challenge) = allow_for k dev.options x.listed challenge i dev c (same_text challenge sent) (x.allows sent)
awaited_for i k dev c x sent q = tt

pub answer_for : (i : ℕ) (k : Make) (dev : AbstractDevice) (c : TransferState) (awaited : Option Challenge) (x : Environment) (q : AbstractRequest) → AreFor k dev.options x.listed q (answer i k dev c awaited x q).told
answer_for i k dev c None x q = if_for (is_held_by i dev.holder) i k dev c x q
answer_for i k dev c (Some sent) x q = awaited_for i k dev c x sent q
