-- WHERE A REPLY IS WAITED FOR, NO DATA STREAM.
use Rattle.std.proofs.Common.{◌≡◌, ℕ, List, [], ◌∷◌, Bool, true, false, Option, Some, None, subst, sym, inl, inr}
use Rattle.page_picture.specs.Shows.{Frame}
use Rattle.option_desc.specs.declared.value.Value.{Value}
use Rattle.system_model.specs.AbstractMessages.{same_text, Challenge, AbstractRequest, Open, Authorize, Get, Set, Start, Cancel, Close, Exit}
use Rattle.device_api.specs.Kinds.{Page}
use Rattle.system_model.specs.Devices.{Make, AbstractAcceptedSet, has_readable_value, picture_frames, accept_value}
use Rattle.system_model.specs.Client.{ClientView, AbstractProgress, Greeting, Listing, Opening, Allowing, Describing, Putting, Getting, Starting, Shaping, Imaging, request_awaited}
use Rattle.system_model.specs.AbstractDevices.{AbstractDevice, ScanPhase, Resting, Between, Reading, is_held_by, is_resting}
use Rattle.system_model.specs.Daemon.{TransferState, Quiet, Waiting, Streaming, Ending, Environment, FailureCounts, answer, answer_if, hand_out_device, take_listed, open_listed, allow, get_reply, put_reply, set_reply, begin_page, begin_pass, start_page, start_at, start_or_fail, start_effect, serve, refuse, cancelled_transfer}
use Rattle.system_model.specs.SystemStates.{SessionView}
use Rattle.system_model.specs.Sync.{InSync}
use Rattle.system_model.specs.Invariants.{IsCalm}

quiet_calm : (c : TransferState) → c ≡ Quiet → IsCalm c
quiet_calm c e = subst IsCalm (sym e) tt

pub calm_sync : (i : ℕ) (k : Make) (b : SessionView) (m : ClientView) (dev : AbstractDevice) (g : AbstractProgress) (q : AbstractRequest) → request_awaited g ≡ q ∷ [] → InSync i k b m dev g → IsCalm b.transfer
calm_sync i k b m dev Greeting q e h = quiet_calm b.transfer h.transfer
calm_sync i k b m dev Listing q e h = quiet_calm b.transfer h.0.transfer
calm_sync i k b m dev Opening q e h = quiet_calm b.transfer h.0.transfer
calm_sync i k b m dev (Allowing c) q e h = quiet_calm b.transfer h.0.transfer
calm_sync i k b m dev (Describing left) q e h = quiet_calm b.transfer h.1.still.transfer
calm_sync i k b m dev (Putting n v w left) q e h = quiet_calm b.transfer h.settles.still.transfer
calm_sync i k b m dev (Getting n left) q e h = quiet_calm b.transfer h.still.transfer
calm_sync i k b m dev Starting q e (inl h) = quiet_calm b.transfer h.still.transfer
calm_sync i k b m dev Starting q e (inr h) = quiet_calm b.transfer h.still.transfer
calm_sync i k b m dev Shaping q e h = subst IsCalm (sym h.transfer) tt
calm_sync i k b m dev (Imaging params heard) q e h = absurd (cc e)

take_calm : (i : ℕ) (k : Make) (dev : AbstractDevice) (c : TransferState) (h : Option ℕ) → IsCalm c → IsCalm (hand_out_device i k dev c h).transfer
take_calm i k dev c None z = z
take_calm i k dev c (Some j) z = z

take_listed_calm : (i : ℕ) (k : Make) (dev : AbstractDevice) (c : TransferState) (listed : Bool) → IsCalm c → IsCalm (take_listed i k dev c listed).transfer
take_listed_calm i k dev c false z = z
take_listed_calm i k dev c true z = take_calm i k dev c dev.holder z

open_calm : (i : ℕ) (k : Make) (dev : AbstractDevice) (c : TransferState) (challenge : Challenge) (listed guarded : Bool) → IsCalm c → IsCalm (open_listed i k dev c challenge listed guarded).transfer
open_calm i k dev c challenge false guarded z = z
open_calm i k dev c challenge true true z = z
open_calm i k dev c challenge true false z = take_calm i k dev c dev.holder z

allow_calm : (i : ℕ) (k : Make) (dev : AbstractDevice) (c : TransferState) (same allowed : Bool) → IsCalm c → IsCalm (allow i k dev c same allowed).transfer
allow_calm i k dev c true true z = take_listed_calm i k dev c dev.listed z
allow_calm i k dev c true false z = z
allow_calm i k dev c false allowed z = z

get_calm : (k : Make) (dev : AbstractDevice) (c : TransferState) (n : ℕ) (x : Bool) → IsCalm c → IsCalm (get_reply k dev c n x).transfer
get_calm k dev c n true z = z
get_calm k dev c n false z = z

put_calm : (dev : AbstractDevice) (c : TransferState) (o : Option AbstractAcceptedSet) → IsCalm c → IsCalm (put_reply dev c o).transfer
put_calm dev c None z = z
put_calm dev c (Some o) z = z

set_calm : (k : Make) (dev : AbstractDevice) (c : TransferState) (n : ℕ) (v : Value) (x : Bool) → IsCalm c → IsCalm (set_reply k dev c n v x).transfer
set_calm k dev c n v true z = put_calm dev c (accept_value k dev.options n v) z
set_calm k dev c n v false z = z

page_calm : (k : Make) (dev : AbstractDevice) (page : Page) (fs : List Frame) → IsCalm (begin_page k dev Quiet page fs).transfer
page_calm k dev page [] = tt
page_calm k dev page (f ∷ more) = tt

tray_calm : (k : Make) (dev : AbstractDevice) (again : Bool) (tray : List Page) → IsCalm (start_page k dev Quiet again tray).transfer
tray_calm k dev again [] = tt
tray_calm k dev again (page ∷ tray) = page_calm k dev page (picture_frames k dev.options page)

pass_calm : (k : Make) (dev : AbstractDevice) (fs : List Frame) → IsCalm (begin_pass k dev Quiet fs).transfer
pass_calm k dev [] = tt
pass_calm k dev (f ∷ more) = tt

at_calm : (k : Make) (dev : AbstractDevice) (again : Bool) (ph : ScanPhase) → IsCalm (start_at k dev Quiet again ph).transfer
at_calm k dev again Resting = tray_calm k dev again dev.tray
at_calm k dev again (Between last more) = pass_calm k dev more
at_calm k dev again (Reading f rest more) = tt

fail_calm : (k : Make) (dev : AbstractDevice) (again : Bool) (fault : Option FailureCounts) → IsCalm (start_or_fail k dev Quiet again fault).transfer
fail_calm k dev again None = at_calm k dev again dev.phase
fail_calm k dev again (Some f) = tt

start_calm : (k : Make) (dev : AbstractDevice) (x : Environment) (c : TransferState) → IsCalm c → IsCalm (start_effect k dev x c).transfer
start_calm k dev x Quiet z = fail_calm k dev x.again x.fault
start_calm k dev x Waiting z = tt
start_calm k dev x Streaming z = z
start_calm k dev x Ending z = z

cut_calm : (c : TransferState) → IsCalm c → IsCalm (cancelled_transfer c)
cut_calm Quiet z = tt
cut_calm Waiting z = tt
cut_calm Streaming z = absurd z
cut_calm Ending z = z

serve_calm : (i : ℕ) (k : Make) (dev : AbstractDevice) (c : TransferState) (x : Environment) (q : AbstractRequest) → IsCalm c → IsCalm (serve i k dev c x q).transfer
serve_calm i k dev c x Open z = open_calm i k dev c x.challenge dev.listed x.guarded z
serve_calm i k dev c x (Get n) z = get_calm k dev c n (has_readable_value k dev.options n) z
serve_calm i k dev c x (Set n v) z = set_calm k dev c n v (is_resting dev.phase) z
serve_calm i k dev c x Start z = start_calm k dev x c z
serve_calm i k dev c x Cancel z = cut_calm c z
serve_calm i k dev c x Close z = cut_calm c z
serve_calm i k dev c x (Authorize challenge) z = tt
serve_calm i k dev c x Exit z = tt
serve_calm i k dev c x q z = z

refuse_calm : (i : ℕ) (k : Make) (dev : AbstractDevice) (c : TransferState) (x : Environment) (q : AbstractRequest) → IsCalm c → IsCalm (refuse i k dev c x q).transfer
refuse_calm i k dev c x Open z = open_calm i k dev c x.challenge dev.listed x.guarded z
refuse_calm i k dev c x (Authorize challenge) z = tt
refuse_calm i k dev c x Exit z = tt
refuse_calm i k dev c x q z = z

if_calm : (b : Bool) (i : ℕ) (k : Make) (dev : AbstractDevice) (c : TransferState) (x : Environment) (q : AbstractRequest) → IsCalm c → IsCalm (answer_if b i k dev c x q).transfer
if_calm true i k dev c x q z = serve_calm i k dev c x q z
if_calm false i k dev c x q z = refuse_calm i k dev c x q z

pub calm_answer : (i : ℕ) (k : Make) (dev : AbstractDevice) (c : TransferState) (a : Option Challenge) (x : Environment) (q : AbstractRequest) → IsCalm c → IsCalm (answer i k dev c a x q).transfer
calm_answer i k dev c None x q z = if_calm (is_held_by i dev.holder) i k dev c x q z
calm_answer i k dev c (Some sent) x (Authorize challenge) z = allow_calm i k dev c (same_text challenge sent) (x.allows sent) z
calm_answer i k dev c (Some sent) x q z = tt
