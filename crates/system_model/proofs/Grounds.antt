-- EACH CAUSE THAT AN ANSWER ADDS IS SO.
use Rattle.std.proofs.Common.{◌≡◌, ℕ, List, [], ◌∷◌, Bool, true, false, Option, Some, None, refl, eqb}
use Rattle.std.proofs.lemmas.Bool.{eqb-false}
use Rattle.page_picture.specs.Shows.{Frame}
use Rattle.option_desc.specs.declared.value.Value.{Value}
use Rattle.system_model.specs.AbstractMessages.{same_text, Challenge, AbstractRequest, Open, Authorize, Get, Set, Start}
use Rattle.device_api.specs.Kinds.{Page}
use Rattle.system_model.specs.Devices.{Make, AbstractAcceptedSet, has_readable_value, picture_frames, accept_value}
use Rattle.system_model.specs.AbstractDevices.{AbstractDevice, ScanPhase, Resting, Between, Reading, is_held_by, is_resting}
use Rattle.system_model.specs.Daemon.{TransferState, Quiet, Waiting, Streaming, Ending, Environment, FailureCounts, answer_if, answer_awaited, held_cause, hand_out_device, take_listed, open_listed, allow, get_reply, put_reply, set_reply, begin_page, begin_pass, start_page, start_at, start_or_fail, start_effect, serve, refuse}
use Rattle.system_model.specs.Grounds.{HaveGrounds}
use Rattle.system_model.specs.ModelPromises.{CausesAreGrounded}

held_ground : (i j : ℕ) (k : Make) (dev : AbstractDevice) (a : Option Challenge) (x : Environment) (b : Bool) → dev.holder ≡ Some j → eqb j i ≡ b → HaveGrounds i k dev a x (held_cause b)
held_ground i j k dev a x true h e = tt
held_ground i j k dev a x false h e = ((j, h, eqb-false j i e), tt)

take_ground : (i : ℕ) (k : Make) (dev : AbstractDevice) (c : TransferState) (a : Option Challenge) (x : Environment) (h : Option ℕ) → dev.holder ≡ h → HaveGrounds i k dev a x (hand_out_device i k dev c h).causes
take_ground i k dev c a x None h = tt
take_ground i k dev c a x (Some j) h = held_ground i j k dev a x (eqb j i) h refl

take_listed_ground : (i : ℕ) (k : Make) (dev : AbstractDevice) (c : TransferState) (a : Option Challenge) (x : Environment) (listed : Bool) → dev.listed ≡ listed → HaveGrounds i k dev a x (take_listed i k dev c listed).causes
take_listed_ground i k dev c a x false l = (l, tt)
take_listed_ground i k dev c a x true l = take_ground i k dev c a x dev.holder refl

open_ground : (i : ℕ) (k : Make) (dev : AbstractDevice) (c : TransferState) (a : Option Challenge) (x : Environment) (challenge : Challenge) (listed guarded : Bool) → dev.listed ≡ listed →
    HaveGrounds i k dev a x (open_listed i k dev c challenge listed guarded).causes
open_ground i k dev c a x challenge false guarded l = (l, tt)
open_ground i k dev c a x challenge true true l = tt
open_ground i k dev c a x challenge true false l = take_ground i k dev c a x dev.holder refl

allow_ground : (i : ℕ) (k : Make) (dev : AbstractDevice) (c : TransferState) (x : Environment) (sent : Challenge) (same allowed : Bool) → x.allows sent ≡ allowed → HaveGrounds i k dev (Some sent) x (allow i k dev c same allowed).causes
allow_ground i k dev c x sent true true e = take_listed_ground i k dev c (Some sent) x dev.listed refl
allow_ground i k dev c x sent true false e = ((sent, refl, e), tt)
allow_ground i k dev c x sent false allowed e = tt

get_ground : (i : ℕ) (k : Make) (dev : AbstractDevice) (c : TransferState) (a : Option Challenge) (x : Environment) (n : ℕ) (b : Bool) → HaveGrounds i k dev a x (get_reply k dev c n b).causes
get_ground i k dev c a x n true = tt
get_ground i k dev c a x n false = tt

put_ground : (i : ℕ) (k : Make) (dev : AbstractDevice) (c : TransferState) (a : Option Challenge) (x : Environment) (o : Option AbstractAcceptedSet) → HaveGrounds i k dev a x (put_reply dev c o).causes
put_ground i k dev c a x None = tt
put_ground i k dev c a x (Some o) = tt

set_ground : (i : ℕ) (k : Make) (dev : AbstractDevice) (c : TransferState) (a : Option Challenge) (x : Environment) (n : ℕ) (v : Value) (b : Bool) → HaveGrounds i k dev a x (set_reply k dev c n v b).causes
set_ground i k dev c a x n v true = put_ground i k dev c a x (accept_value k dev.options n v)
set_ground i k dev c a x n v false = tt

page_ground : (i : ℕ) (k : Make) (dev : AbstractDevice) (c : TransferState) (a : Option Challenge) (x : Environment) (page : Page) (tray : List Page) (fs : List Frame) → dev.phase ≡ Resting → dev.tray ≡ page ∷ tray → picture_frames k dev.options page ≡ fs →
    HaveGrounds i k dev a x (begin_page k dev c page fs).causes
page_ground i k dev c a x page tray [] p t e = ((page, tray, p, t, e), tt)
page_ground i k dev c a x page tray (f ∷ more) p t e = tt

empty_ground : (i : ℕ) (k : Make) (dev : AbstractDevice) (c : TransferState) (a : Option Challenge) (x : Environment) (b : Bool) → dev.tray ≡ [] → x.again ≡ b → HaveGrounds i k dev a x (start_page k dev c b []).causes
empty_ground i k dev c a x true t e = ((t, e), tt)
empty_ground i k dev c a x false t e = ((t, e), tt)

tray_ground : (i : ℕ) (k : Make) (dev : AbstractDevice) (c : TransferState) (a : Option Challenge) (x : Environment) (tray : List Page) → dev.phase ≡ Resting → dev.tray ≡ tray → HaveGrounds i k dev a x (start_page k dev c x.again tray).causes
tray_ground i k dev c a x [] p t = empty_ground i k dev c a x x.again t refl
tray_ground i k dev c a x (page ∷ tray) p t = page_ground i k dev c a x page tray (picture_frames k dev.options page) p t refl

pass_ground : (i : ℕ) (k : Make) (dev : AbstractDevice) (c : TransferState) (a : Option Challenge) (x : Environment) (fs : List Frame) → HaveGrounds i k dev a x (begin_pass k dev c fs).causes
pass_ground i k dev c a x [] = tt
pass_ground i k dev c a x (f ∷ more) = tt

at_ground : (i : ℕ) (k : Make) (dev : AbstractDevice) (c : TransferState) (a : Option Challenge) (x : Environment) (ph : ScanPhase) → dev.phase ≡ ph → HaveGrounds i k dev a x (start_at k dev c x.again ph).causes
at_ground i k dev c a x Resting p = tray_ground i k dev c a x dev.tray p refl
at_ground i k dev c a x (Between last more) p = pass_ground i k dev c a x more
at_ground i k dev c a x (Reading f rest more) p = tt

fail_ground : (i : ℕ) (k : Make) (dev : AbstractDevice) (c : TransferState) (a : Option Challenge) (x : Environment) (fault : Option FailureCounts) → x.fault ≡ fault → HaveGrounds i k dev a x (start_or_fail k dev c x.again fault).causes
fail_ground i k dev c a x None e = at_ground i k dev c a x dev.phase refl
fail_ground i k dev c a x (Some f) e = ((f, e), tt)

start_ground : (i : ℕ) (k : Make) (dev : AbstractDevice) (c : TransferState) (a : Option Challenge) (x : Environment) → HaveGrounds i k dev a x (start_effect k dev x c).causes
start_ground i k dev Quiet a x = fail_ground i k dev Quiet a x x.fault refl
start_ground i k dev Waiting a x = tt
start_ground i k dev Streaming a x = tt
start_ground i k dev Ending a x = tt

serve_ground : (i : ℕ) (k : Make) (dev : AbstractDevice) (c : TransferState) (a : Option Challenge) (x : Environment) (q : AbstractRequest) → HaveGrounds i k dev a x (serve i k dev c x q).causes
serve_ground i k dev c a x Open = open_ground i k dev c a x x.challenge dev.listed x.guarded refl
serve_ground i k dev c a x (Get n) = get_ground i k dev c a x n (has_readable_value k dev.options n)
serve_ground i k dev c a x (Set n v) = set_ground i k dev c a x n v (is_resting dev.phase)
serve_ground i k dev c a x Start = start_ground i k dev c a x
serve_ground i k dev c a x q = tt

refuse_ground : (i : ℕ) (k : Make) (dev : AbstractDevice) (c : TransferState) (a : Option Challenge) (x : Environment) (q : AbstractRequest) → HaveGrounds i k dev a x (refuse i k dev c x q).causes
refuse_ground i k dev c a x Open = open_ground i k dev c a x x.challenge dev.listed x.guarded refl
refuse_ground i k dev c a x q = tt

if_ground : (b : Bool) (i : ℕ) (k : Make) (dev : AbstractDevice) (c : TransferState) (a : Option Challenge) (x : Environment) (q : AbstractRequest) → HaveGrounds i k dev a x (answer_if b i k dev c x q).causes
if_ground true i k dev c a x q = serve_ground i k dev c a x q
if_ground false i k dev c a x q = refuse_ground i k dev c a x q

awaited_ground : (i : ℕ) (k : Make) (dev : AbstractDevice) (c : TransferState) (x : Environment) (sent : Challenge) (q : AbstractRequest) → HaveGrounds i k dev (Some sent) x (answer_awaited i k dev c x sent q).causes
awaited_ground i k dev c x sent (Authorize challenge) = allow_ground i k dev c x sent (same_text challenge sent) (x.allows sent) refl
awaited_ground i k dev c x sent q = tt

pub causes_grounded : CausesAreGrounded
causes_grounded i k dev c None x q = if_ground (is_held_by i dev.holder) i k dev c None x q
causes_grounded i k dev c (Some sent) x q = awaited_ground i k dev c x sent q
