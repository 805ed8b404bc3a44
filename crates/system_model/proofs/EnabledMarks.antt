-- THE MARKS OF A STEP ARE LEGAL.
use Rattle.std.proofs.Common.{◌≡◌, ◌∙◌, ℕ, List, [], ◌∷◌, Bool, true, false, Option, Some, None, refl, sym, subst, ap, cond}
use Rattle.page_picture.specs.Shows.{Frame}
use Rattle.option_desc.specs.declared.value.Value.{Value}
use Rattle.system_model.specs.AbstractMessages.{same_text, Challenge, AbstractRequest, Open, Authorize, Get, Set, Start, Cancel, Close, Exit}
use Rattle.device_api.specs.Kinds.{Model, Page, after_start, is_feeder}
use Rattle.system_model.specs.Devices.{Make, AbstractAcceptedSet, has_readable_value, picture_frames, accept_value}
use Rattle.system_model.specs.AbstractDevices.{without_first, AbstractDevice, ScanPhase, Resting, Between, Reading, is_held_by, is_resting, put_back, device_let_go, phase_after_frame, ended_phase, read_on}
use Rattle.system_model.specs.Daemon.{TransferState, Quiet, Waiting, Streaming, Ending, Environment, FailureCounts, answer, answer_if, answer_awaited, hand_out_device, take_listed, open_listed, allow, get_reply, put_reply, set_reply, begin_page, begin_pass, start_page, start_at, start_or_fail, start_effect}
use Rattle.system_model.specs.SystemStates.{JobState, SystemState, with_entry, listed_devices, wanted_place, make_for, device_for}
use Rattle.system_model.specs.Actions
use Rattle.system_model.specs.Actions.{Action, environment_of, device_after, device_after_answer, image_off}
use Rattle.system_model.specs.Transitions.{By, Loads, Unplugs, Uses, IsActionEnabled, with_page_laid_in, without_listing}
use Rattle.system_model.specs.Marks.{Mark, DeviceView, is_busy, device_view, MayMark, view_after_mark, MarksLead}
use Rattle.system_model.specs.StepMarks.{rested_if, left_marks, page_marks, tray_marks, pass_marks, start_marks, fault_marks, starts_marks, take_marks, open_marks, allow_marks, answer_marks, awaited_marks, request_marks, next_marks, lost_marks, off_marks, action_marks, marks, touched_device}
use Rattle.system_model.specs.Marks
use Rattle.system_model.specs.ModelPromises.{MarksAreEnabled}
use Rattle.system_model.proofs.OtherJobs.{put_same}
use Rattle.system_model.proofs.Treats.{is_held}
use Rattle.device_api.specs.State.{left_behind}
use Rattle.device_api.proofs.KindLaws.{start_leaves}

-- a busy flag that is the same
busy_same : (s : DeviceView) (b : Bool) → s.busy ≡ b → s ≡ record s { busy = b }
busy_same s b e = ap (λ (x : Bool). record s { busy = x }) e

rest_goes : (s : DeviceView) (i d : ℕ) (b : Bool) → s.holder ≡ Some i → s.busy ≡ b → MarksLead s (rested_if b i d) (record s { busy = false })
rest_goes s i d true h e = ((h, e), refl)
rest_goes s i d false h e = busy_same s false e

leave_goes : (s : DeviceView) (i d : ℕ) (b : Bool) → s.holder ≡ Some i → s.busy ≡ b → MarksLead s (left_marks b i d) (record s { holder = None; busy = false })
leave_goes s i d true h e = ((h, e), ((h, refl), refl))
leave_goes s i d false h e = ((h, e), ap (λ (x : Bool). record s { holder = None; busy = x }) e)

-- A device goes by marks to another.
abbrev pub Leads : Make → AbstractDevice → List Mark → AbstractDevice → Type 0
Leads k dev ms new = MarksLead (device_view k dev) ms (device_view k new)

-- a device that nobody holds is at rest
abbrev pub IsDown : AbstractDevice → Type 0
IsDown dev = dev.holder ≡ None → dev.phase ≡ Resting

take_goes : (i d : ℕ) (k : Make) (dev : AbstractDevice) (c : TransferState) (listed_devices : Bool) (h : Option ℕ) → IsDown dev → dev.listed ≡ listed_devices → dev.holder ≡ h → listed_devices ≡ true → Leads k dev (take_marks i d listed_devices h) (hand_out_device i k dev c h).device
take_goes i d k dev c false h z l e t = cc
take_goes i d k dev c true None z l e t = ((l, e, ap is_busy (z e)), busy_same (view_after_mark (device_view k dev) (Marks.Took i d)) false (ap is_busy (z e)))
take_goes i d k dev c true (Some j) z l e t = refl

take_listed_goes : (i d : ℕ) (k : Make) (dev : AbstractDevice) (c : TransferState) (listed_devices : Bool) → IsDown dev → dev.listed ≡ listed_devices → Leads k dev (take_marks i d listed_devices dev.holder) (take_listed i k dev c listed_devices).device
take_listed_goes i d k dev c false z l = refl
take_listed_goes i d k dev c true z l = take_goes i d k dev c true dev.holder z l refl refl

open_goes : (i d : ℕ) (k : Make) (dev : AbstractDevice) (c : TransferState) (challenge : Challenge) (listed_devices guarded : Bool) → IsDown dev → dev.listed ≡ listed_devices →
    Leads k dev (open_marks i d dev guarded) (open_listed i k dev c challenge listed_devices guarded).device
open_goes i d k dev c challenge false true z l = refl
open_goes i d k dev c challenge false false z l = rw l refl
open_goes i d k dev c challenge true true z l = refl
open_goes i d k dev c challenge true false z l = take_goes i d k dev c dev.listed dev.holder z refl refl l

allow_goes : (i d : ℕ) (k : Make) (dev : AbstractDevice) (c : TransferState) (same allowed : Bool) → IsDown dev → Leads k dev (allow_marks i d dev same allowed) (allow i k dev c same allowed).device
allow_goes i d k dev c true true z = take_listed_goes i d k dev c dev.listed z refl
allow_goes i d k dev c true false z = refl
allow_goes i d k dev c false allowed z = refl

get_slot : (k : Make) (dev : AbstractDevice) (c : TransferState) (n : ℕ) (x : Bool) → Leads k dev [] (get_reply k dev c n x).device
get_slot k dev c n true = refl
get_slot k dev c n false = refl

put_slot : (k : Make) (dev : AbstractDevice) (c : TransferState) (o : Option AbstractAcceptedSet) → Leads k dev [] (put_reply dev c o).device
put_slot k dev c None = refl
put_slot k dev c (Some o) = refl

set_slot : (k : Make) (dev : AbstractDevice) (c : TransferState) (n : ℕ) (v : Value) (x : Bool) → Leads k dev [] (set_reply k dev c n v x).device
set_slot k dev c n v true = put_slot k dev c (accept_value k dev.options n v)
set_slot k dev c n v false = refl

first_left : (feeder : Bool) (tray : List Page) → cond feeder (without_first tray) tray ≡ left_behind feeder tray
first_left true [] = refl
first_left true (page ∷ tray) = refl
first_left false tray = refl

takes_first : (m : Model) (tray : List Page) → cond (is_feeder m) (without_first tray) tray ≡ after_start m tray
takes_first m tray = first_left (is_feeder m) tray ∙ sym (start_leaves m tray)

page_goes : (i d : ℕ) (k : Make) (dev : AbstractDevice) (c : TransferState) (page : Page) (tray : List Page) (fs : List Frame) → dev.holder ≡ Some i → dev.phase ≡ Resting → dev.tray ≡ page ∷ tray →
    Leads k dev (page_marks i d (record { page = page; options = dev.options }) fs) (begin_page k dev c page fs).device
page_goes i d k dev c page tray [] h p t = refl
page_goes i d k dev c page tray (f ∷ more) h p t =
    ((h, ap is_busy p, (tray, t)), ap (λ (x : List Page). record (device_view k dev) { busy = true; tray = x }) (takes_first k.model dev.tray))

tray_goes : (i d : ℕ) (k : Make) (dev : AbstractDevice) (c : TransferState) (again : Bool) (tray : List Page) → dev.holder ≡ Some i → dev.phase ≡ Resting → dev.tray ≡ tray →
    Leads k dev (tray_marks i d k dev tray) (start_page k dev c again tray).device
tray_goes i d k dev c again [] h p t = refl
tray_goes i d k dev c again (page ∷ tray) h p t = page_goes i d k dev c page tray (picture_frames k dev.options page) h p t

pass_goes : (i d : ℕ) (k : Make) (dev : AbstractDevice) (c : TransferState) (last : Frame) (fs : List Frame) → dev.holder ≡ Some i → dev.phase ≡ Between last fs → Leads k dev (pass_marks i d fs) (begin_pass k dev c fs).device
pass_goes i d k dev c last [] h p = ((h, ap is_busy p), refl)
pass_goes i d k dev c last (f ∷ more) h p = busy_same (device_view k dev) true (ap is_busy p)

start_goes : (i d : ℕ) (k : Make) (dev : AbstractDevice) (c : TransferState) (again : Bool) (ph : ScanPhase) → dev.holder ≡ Some i → dev.phase ≡ ph → Leads k dev (start_marks i d k dev ph) (start_at k dev c again ph).device
start_goes i d k dev c again Resting h p = tray_goes i d k dev c again dev.tray h p refl
start_goes i d k dev c again (Between last more) h p = pass_goes i d k dev c last more h p
start_goes i d k dev c again (Reading f rest more) h p = refl

fault_goes : (i d : ℕ) (k : Make) (dev : AbstractDevice) (c : TransferState) (again : Bool) (fault : Option FailureCounts) → dev.holder ≡ Some i → Leads k dev (fault_marks i d k dev fault) (start_or_fail k dev c again fault).device
fault_goes i d k dev c again None h = start_goes i d k dev c again dev.phase h refl
fault_goes i d k dev c again (Some f) h = rest_goes (device_view k dev) i d (is_busy dev.phase) h refl

starts_goes : (i d : ℕ) (k : Make) (dev : AbstractDevice) (x : Environment) (c : TransferState) → dev.holder ≡ Some i → Leads k dev (starts_marks i d k dev x.fault c) (start_effect k dev x c).device
starts_goes i d k dev x Quiet h = fault_goes i d k dev Quiet x.again x.fault h
starts_goes i d k dev x Waiting h = refl
starts_goes i d k dev x Streaming h = refl
starts_goes i d k dev x Ending h = refl

answer_goes : (b : Bool) (i d : ℕ) (k : Make) (dev : AbstractDevice) (c : TransferState) (x : Environment) (q : AbstractRequest) → (b ≡ true → dev.holder ≡ Some i) → IsDown dev → Leads k dev (answer_marks b i d k dev c x q) (answer_if b i k dev c x q).device
answer_goes true i d k dev c x Open h z = open_goes i d k dev c x.challenge dev.listed x.guarded z refl
answer_goes true i d k dev c x (Authorize challenge) h z = leave_goes (device_view k dev) i d (is_busy dev.phase) (h refl) refl
answer_goes true i d k dev c x (Get n) h z = get_slot k dev c n (has_readable_value k dev.options n)
answer_goes true i d k dev c x (Set n v) h z = set_slot k dev c n v (is_resting dev.phase)
answer_goes true i d k dev c x Start h z = starts_goes i d k dev x c (h refl)
answer_goes true i d k dev c x Cancel h z = rest_goes (device_view k dev) i d (is_busy dev.phase) (h refl) refl
answer_goes true i d k dev c x Close h z = leave_goes (device_view k dev) i d (is_busy dev.phase) (h refl) refl
answer_goes true i d k dev c x Exit h z = leave_goes (device_view k dev) i d (is_busy dev.phase) (h refl) refl
answer_goes true i d k dev c x q h z = refl
answer_goes false i d k dev c x Open h z = open_goes i d k dev c x.challenge dev.listed x.guarded z refl
answer_goes false i d k dev c x q h z = refl

lost_goes : (b : Bool) (i d : ℕ) (k : Make) (dev : AbstractDevice) → (b ≡ true → dev.holder ≡ Some i) → Leads k dev (lost_marks b i d dev) (cond b (put_back dev) dev)
lost_goes true i d k dev h = leave_goes (device_view k dev) i d (is_busy dev.phase) (h refl) refl
lost_goes false i d k dev h = refl

lets_go : (i d : ℕ) (k : Make) (dev : AbstractDevice) → Leads k dev (lost_marks (is_held_by i dev.holder) i d dev) (device_let_go i dev)
lets_go i d k dev = lost_goes (is_held_by i dev.holder) i d k dev (is_held i dev.holder)

awaited_goes : (i d : ℕ) (k : Make) (dev : AbstractDevice) (c : TransferState) (x : Environment) (sent : Challenge) (q : AbstractRequest) → IsDown dev → Leads k dev (awaited_marks i d dev x sent q) (answer_awaited i k dev c x sent q).device
awaited_goes i d k dev c x sent (Authorize challenge) z = allow_goes i d k dev c (same_text challenge sent) (x.allows sent) z
awaited_goes i d k dev c x sent q z = lets_go i d k dev

pub request_goes : (i d : ℕ) (k : Make) (dev : AbstractDevice) (c : TransferState) (a : Option Challenge) (x : Environment) (q : AbstractRequest) → IsDown dev → Leads k dev (request_marks i d k dev c a x q) (answer i k dev c a x q).device
request_goes i d k dev c None x q z = answer_goes (is_held_by i dev.holder) i d k dev c x q (is_held i dev.holder) z
request_goes i d k dev c (Some sent) x q z = awaited_goes i d k dev c x sent q z

next_goes : (i d : ℕ) (k : Make) (places : List ℕ) (p : JobState) (dev : AbstractDevice) (challenge : Challenge) (fault : Option FailureCounts) (qs : List AbstractRequest) → IsDown dev →
    Leads k dev (next_marks i d k places p dev challenge fault qs) (device_after_answer i k places p dev challenge fault qs)
next_goes i d k places p dev challenge fault [] z = refl
next_goes i d k places p dev challenge fault (q ∷ rest) z = request_goes i d k dev p.session.transfer p.session.awaited (environment_of p.session places challenge fault) q z

pub image_goes : (i d : ℕ) (k : Make) (c : TransferState) (b : Bool) (dev : AbstractDevice) → is_held_by i dev.holder ≡ b → Leads k dev (off_marks b c i d dev) (image_off i c dev)
image_goes i d k Quiet true dev e = refl
image_goes i d k Waiting true dev e = refl
image_goes i d k Streaming true dev e = rw e (rest_goes (device_view k dev) i d (is_busy dev.phase) (is_held i dev.holder e) refl)
image_goes i d k Ending true dev e = refl
image_goes i d k Quiet false dev e = refl
image_goes i d k Waiting false dev e = refl
image_goes i d k Streaming false dev e = rw e refl
image_goes i d k Ending false dev e = refl

ends_goes : (i d : ℕ) (k : Make) (dev : AbstractDevice) (f : Frame) (rest : List ℕ) (more : List Frame) (ph : ScanPhase) → dev.holder ≡ Some i → dev.phase ≡ Reading f rest more → ph ≡ phase_after_frame f more →
    Leads k dev (rested_if (is_resting ph) i d) (record dev { phase = ph })
ends_goes i d k dev f rest [] ph h p e = rw e ((h, ap is_busy p), refl)
ends_goes i d k dev f rest (g ∷ more) ph h p e = rw e (busy_same (device_view k dev) true (ap is_busy p))

reads_slot : (k : Make) (dev : AbstractDevice) (f : Frame) (rest bytes : List ℕ) (more : List Frame) → dev.phase ≡ Reading f rest more → Leads k dev [] (record dev { phase = read_on dev.phase bytes })
reads_slot k dev f rest bytes more p = busy_same (device_view k dev) true (ap is_busy p) ∙ sym (ap (λ (x : ScanPhase). device_view k (record dev { phase = read_on x bytes })) p)

pub action_goes : (i d : ℕ) (k : Make) (places : List ℕ) (p : JobState) (dev : AbstractDevice) (x : Action) → IsDown dev → IsActionEnabled i k p dev x → Leads k dev (action_marks i d k places p dev x) (device_after i k places p dev x)
action_goes i d k places p dev (Actions.Answers challenge fault) z l = next_goes i d k places p dev challenge fault p.todo z
action_goes i d k places p dev (Actions.Turns bytes) z l = reads_slot k dev l.0 _ bytes l.2 l.3.reads.2
action_goes i d k places p dev Actions.TurnsLast z l = ends_goes i d k dev l.0 [] l.1 _ l.2.1 l.2.2 (ap ended_phase l.2.2)
action_goes i d k places p dev Actions.TurnsShort z l = ends_goes i d k dev l.0 l.1 l.2 _ l.3.1 l.3.2 (ap ended_phase l.3.2)
action_goes i d k places p dev (Actions.TurnsNamed status) z l = ((l.3.1, ap is_busy l.3.2), refl)
action_goes i d k places p dev (Actions.TurnsFault fault) z l = ((l.3.1, ap is_busy l.3.2), refl)
action_goes i d k places p dev (Actions.Loses memory) z l = lets_go i d k dev
action_goes i d k places p dev (Actions.LosesImage memory) z l = image_goes i d k p.session.transfer (is_held_by i dev.holder) dev refl
action_goes i d k places p dev (Actions.Breaks memory) z l = lets_go i d k dev
action_goes i d k places p dev x z l = refl

at_put : (s : SystemState) (w : ℕ) (dev : AbstractDevice) (ms : List Mark) → Leads (s.make w) (s.device w) ms dev → Leads (s.make w) (s.device w) ms (with_entry s.device w dev w)
at_put s w dev ms h = subst (λ (x : AbstractDevice). Leads (s.make w) (s.device w) ms x) (sym (put_same s.device w dev)) h

pub marks_legal : MarksAreEnabled
marks_legal s (By i x) h l =
    at_put s (wanted_place s i) _ _ (action_goes i (wanted_place s i) (make_for s i) (listed_devices s) (s.job i) (device_for s i) x (let f = h.fit (wanted_place s i) in f.laid_down) l)
marks_legal s (Loads d page) h l = at_put s d (with_page_laid_in (s.make d) page (s.device d)) (marks s (Loads d page)) ((l.0, ap is_busy l.1, l.2), refl)
marks_legal s (Unplugs d) h l = at_put s d (without_listing (s.device d)) (marks s (Unplugs d)) (l, refl)
marks_legal s (Uses i d shown left) h l = at_put s d left shown l.1.leads
