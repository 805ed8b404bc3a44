-- WHAT IS NOTED OF A JOB IS WHAT ITS STEPS SHOW.
use Rattle.std.proofs.Common.{◌≡◌, ◌∙◌, ◌⊎◌, ℕ, List, [], ◌∷◌, ◌++◌, Bool, true, false, Option, Some, None, refl, sym, ap, subst, inl, inr}
use Rattle.std.proofs.lemmas.List.{append-nil}
use Rattle.option_desc.specs.declared.value.Value.{Value}
use Rattle.page_picture.specs.Shows.{Frame}
use Rattle.system_model.specs.AbstractMessages.{same_text, Challenge, AbstractRequest, GetDevices, Open, Authorize, Get, Set, Start, Cancel, Close, Exit}
use Rattle.device_api.specs.Kinds.{Page}
use Rattle.system_model.specs.Devices.{Make, AbstractAcceptedSet, has_readable_value, picture_frames, accept_value}
use Rattle.system_model.specs.AbstractDevices.{AbstractDevice, ScanPhase, Resting, Between, Reading, Begin, is_held_by, is_resting}
use Rattle.system_model.specs.Daemon.{TransferState, Quiet, Waiting, Streaming, Ending, Environment, FailureCounts, AnswerEffect, answer, answer_if, answer_awaited, hand_out_device, take_listed, open_listed, allow, get_reply, put_reply, set_reply, begin_page, begin_pass, start_page, start_at, start_or_fail, start_effect}
use Rattle.system_model.specs.SystemStates.{JobState, listed_devices, wanted_place, make_for, device_for}
use Rattle.system_model.specs.Actions
use Rattle.system_model.specs.Actions.{Action, first_noted, environment_of, answer_next, served_by, job_after_action}
use Rattle.system_model.specs.Transitions.{By}
use Rattle.system_model.specs.Marks.{Mark, is_busy, starts_in}
use Rattle.system_model.specs.StepMarks.{rested_if, left_marks, page_marks, tray_marks, pass_marks, start_marks, fault_marks, starts_marks, take_marks, open_marks, allow_marks, answer_marks, awaited_marks, request_marks, next_marks, lost_marks, off_marks, action_marks, marks}
use Rattle.system_model.specs.ModelPromises.{NotesAreTrue}
use Rattle.system_model.proofs.OtherJobs.{put_same}

-- an answer notes the starts of these marks, and shows these devices or none
abbrev Notes : AnswerEffect → List Mark → List ℕ → Type 0
Notes v ms ds = (v.begun ≡ starts_in ms) × ((v.shown ≡ None) ⊎ (v.shown ≡ Some ds))

rested_none : (b : Bool) (i d : ℕ) → [] ≡ starts_in (rested_if b i d)
rested_none true i d = refl
rested_none false i d = refl

left_none : (b : Bool) (i d : ℕ) → [] ≡ starts_in (left_marks b i d)
left_none true i d = refl
left_none false i d = refl

lost_none : (b : Bool) (i d : ℕ) (dev : AbstractDevice) → [] ≡ starts_in (lost_marks b i d dev)
lost_none true i d dev = left_none (is_busy dev.phase) i d
lost_none false i d dev = refl

off_none : (b : Bool) (c : TransferState) (i d : ℕ) (dev : AbstractDevice) → [] ≡ starts_in (off_marks b c i d dev)
off_none true Quiet i d dev = refl
off_none true Waiting i d dev = refl
off_none true Streaming i d dev = rested_none (is_busy dev.phase) i d
off_none true Ending i d dev = refl
off_none false c i d dev = refl

take_notes : (i d : ℕ) (k : Make) (dev : AbstractDevice) (c : TransferState) (listed_devices : Bool) (h : Option ℕ) (ds : List ℕ) → Notes (hand_out_device i k dev c h) (take_marks i d listed_devices h) ds
take_notes i d k dev c true None ds = (refl, inl refl)
take_notes i d k dev c true (Some j) ds = (refl, inl refl)
take_notes i d k dev c false None ds = (refl, inl refl)
take_notes i d k dev c false (Some j) ds = (refl, inl refl)

take_listed_notes : (i d : ℕ) (k : Make) (dev : AbstractDevice) (c : TransferState) (listed_devices : Bool) (ds : List ℕ) → Notes (take_listed i k dev c listed_devices) (take_marks i d listed_devices dev.holder) ds
take_listed_notes i d k dev c true ds = take_notes i d k dev c true dev.holder ds
take_listed_notes i d k dev c false ds = (refl, inl refl)

none_taken : (i d : ℕ) (listed_devices : Bool) (h : Option ℕ) → [] ≡ starts_in (take_marks i d listed_devices h)
none_taken i d false h = refl
none_taken i d true None = refl
none_taken i d true (Some j) = refl

open_notes : (i d : ℕ) (k : Make) (dev : AbstractDevice) (c : TransferState) (challenge : Challenge) (listed_devices guarded : Bool) (ds : List ℕ) → Notes (open_listed i k dev c challenge listed_devices guarded) (open_marks i d dev guarded) ds
open_notes i d k dev c challenge false true ds = (refl, inl refl)
open_notes i d k dev c challenge false false ds = (none_taken i d dev.listed dev.holder, inl refl)
open_notes i d k dev c challenge true true ds = (refl, inl refl)
open_notes i d k dev c challenge true false ds = take_notes i d k dev c dev.listed dev.holder ds

allow_notes : (i d : ℕ) (k : Make) (dev : AbstractDevice) (c : TransferState) (same allowed : Bool) (ds : List ℕ) → Notes (allow i k dev c same allowed) (allow_marks i d dev same allowed) ds
allow_notes i d k dev c true true ds = take_listed_notes i d k dev c dev.listed ds
allow_notes i d k dev c true false ds = (refl, inl refl)
allow_notes i d k dev c false allowed ds = (refl, inl refl)

get_notes : (k : Make) (dev : AbstractDevice) (c : TransferState) (n : ℕ) (b : Bool) (ds : List ℕ) → Notes (get_reply k dev c n b) [] ds
get_notes k dev c n true ds = (refl, inl refl)
get_notes k dev c n false ds = (refl, inl refl)

put_notes : (dev : AbstractDevice) (c : TransferState) (o : Option AbstractAcceptedSet) (ds : List ℕ) → Notes (put_reply dev c o) [] ds
put_notes dev c None ds = (refl, inl refl)
put_notes dev c (Some o) ds = (refl, inl refl)

set_notes : (k : Make) (dev : AbstractDevice) (c : TransferState) (n : ℕ) (v : Value) (b : Bool) (ds : List ℕ) → Notes (set_reply k dev c n v b) [] ds
set_notes k dev c n v true ds = put_notes dev c (accept_value k dev.options n v) ds
set_notes k dev c n v false ds = (refl, inl refl)

page_notes : (i d : ℕ) (k : Make) (dev : AbstractDevice) (c : TransferState) (page : Page) (fs : List Frame) (ds : List ℕ) → Notes (begin_page k dev c page fs) (page_marks i d (record { page = page; options = dev.options }) fs) ds
page_notes i d k dev c page [] ds = (refl, inl refl)
page_notes i d k dev c page (f ∷ more) ds = (refl, inl refl)

tray_notes : (i d : ℕ) (k : Make) (dev : AbstractDevice) (c : TransferState) (again : Bool) (tray : List Page) (ds : List ℕ) → Notes (start_page k dev c again tray) (tray_marks i d k dev tray) ds
tray_notes i d k dev c again [] ds = (refl, inl refl)
tray_notes i d k dev c again (page ∷ tray) ds = page_notes i d k dev c page (picture_frames k dev.options page) ds

pass_notes : (i d : ℕ) (k : Make) (dev : AbstractDevice) (c : TransferState) (fs : List Frame) (ds : List ℕ) → Notes (begin_pass k dev c fs) (pass_marks i d fs) ds
pass_notes i d k dev c [] ds = (refl, inl refl)
pass_notes i d k dev c (f ∷ more) ds = (refl, inl refl)

at_notes : (i d : ℕ) (k : Make) (dev : AbstractDevice) (c : TransferState) (again : Bool) (ph : ScanPhase) (ds : List ℕ) → Notes (start_at k dev c again ph) (start_marks i d k dev ph) ds
at_notes i d k dev c again Resting ds = tray_notes i d k dev c again dev.tray ds
at_notes i d k dev c again (Between last more) ds = pass_notes i d k dev c more ds
at_notes i d k dev c again (Reading f rest more) ds = (refl, inl refl)

fault_notes : (i d : ℕ) (k : Make) (dev : AbstractDevice) (c : TransferState) (again : Bool) (fault : Option FailureCounts) (ds : List ℕ) → Notes (start_or_fail k dev c again fault) (fault_marks i d k dev fault) ds
fault_notes i d k dev c again None ds = at_notes i d k dev c again dev.phase ds
fault_notes i d k dev c again (Some f) ds = (rested_none (is_busy dev.phase) i d, inl refl)

start_notes : (i d : ℕ) (k : Make) (dev : AbstractDevice) (x : Environment) (c : TransferState) (ds : List ℕ) → Notes (start_effect k dev x c) (starts_marks i d k dev x.fault c) ds
start_notes i d k dev x Quiet ds = fault_notes i d k dev Quiet x.again x.fault ds
start_notes i d k dev x Waiting ds = (refl, inl refl)
start_notes i d k dev x Streaming ds = (refl, inl refl)
start_notes i d k dev x Ending ds = (refl, inl refl)

if_notes : (b : Bool) (i d : ℕ) (k : Make) (dev : AbstractDevice) (c : TransferState) (x : Environment) (q : AbstractRequest) → Notes (answer_if b i k dev c x q) (answer_marks b i d k dev c x q) x.listed
if_notes true i d k dev c x GetDevices = (refl, inr refl)
if_notes true i d k dev c x Open = open_notes i d k dev c x.challenge dev.listed x.guarded x.listed
if_notes true i d k dev c x (Authorize challenge) = (left_none (is_busy dev.phase) i d, inl refl)
if_notes true i d k dev c x (Get n) = get_notes k dev c n (has_readable_value k dev.options n) x.listed
if_notes true i d k dev c x (Set n v) = set_notes k dev c n v (is_resting dev.phase) x.listed
if_notes true i d k dev c x Start = start_notes i d k dev x c x.listed
if_notes true i d k dev c x Cancel = (rested_none (is_busy dev.phase) i d, inl refl)
if_notes true i d k dev c x Close = (left_none (is_busy dev.phase) i d, inl refl)
if_notes true i d k dev c x Exit = (left_none (is_busy dev.phase) i d, inl refl)
if_notes true i d k dev c x q = (refl, inl refl)
if_notes false i d k dev c x GetDevices = (refl, inr refl)
if_notes false i d k dev c x Open = open_notes i d k dev c x.challenge dev.listed x.guarded x.listed
if_notes false i d k dev c x q = (refl, inl refl)

awaited_notes : (i d : ℕ) (k : Make) (dev : AbstractDevice) (c : TransferState) (x : Environment) (sent : Challenge) (q : AbstractRequest) → Notes (answer_awaited i k dev c x sent q) (awaited_marks i d dev x sent q) x.listed
awaited_notes i d k dev c x sent (Authorize challenge) = allow_notes i d k dev c (same_text challenge sent) (x.allows sent) x.listed
awaited_notes i d k dev c x sent q = (lost_none (is_held_by i dev.holder) i d dev, inl refl)

answer_notes : (i d : ℕ) (k : Make) (dev : AbstractDevice) (c : TransferState) (a : Option Challenge) (x : Environment) (q : AbstractRequest) → Notes (answer i k dev c a x q) (request_marks i d k dev c a x q) x.listed
answer_notes i d k dev c None x q = if_notes (is_held_by i dev.holder) i d k dev c x q
answer_notes i d k dev c (Some sent) x q = awaited_notes i d k dev c x sent q

-- WHAT AN ACTION NOTES
abbrev NotedAt : JobState → JobState → List Mark → List ℕ → Type 0
NotedAt p q ms ds = (q.session.started ≡ p.session.started ++ starts_in ms) × ((es : List ℕ) → p.session.shown ≡ None → q.session.shown ≡ Some es → es ≡ ds)

shown_is : (new old : Option (List ℕ)) (ds es : List ℕ) → (new ≡ None) ⊎ (new ≡ Some ds) → old ≡ None → first_noted new old ≡ Some es → es ≡ ds
shown_is None None ds es h o e = cc
shown_is None (Some y) ds es h o e = cc
shown_is (Some x) None ds es (inl h) o e = cc
shown_is (Some x) None ds es (inr h) o e = cc
shown_is (Some x) (Some y) ds es h o e = cc

next_noted : (i d : ℕ) (k : Make) (ds : List ℕ) (p : JobState) (dev : AbstractDevice) (challenge : Challenge) (fault : Option FailureCounts) (qs : List AbstractRequest) →
    NotedAt p (answer_next i k ds p dev challenge fault qs) (next_marks i d k ds p dev challenge fault qs) ds
next_noted i d k ds p dev challenge fault [] = (sym (append-nil p.session.started), λ es n e. cc (n, e))
next_noted i d k ds p dev challenge fault (q ∷ rest) =
    let v = served_by i k ds p dev challenge fault q in
    let a = answer_notes i d k dev p.session.transfer p.session.awaited (environment_of p.session ds challenge fault) q in
    (ap (λ (bs : List Begin). p.session.started ++ bs) a.0, λ es n e. shown_is v.shown p.session.shown ds es a.1 n e)

nothing : (p q : JobState) (ms : List Mark) (ds : List ℕ) → [] ≡ starts_in ms → q.session.started ≡ p.session.started → q.session.shown ≡ p.session.shown → NotedAt p q ms ds
nothing p q ms ds m s h = (s ∙ sym (append-nil p.session.started) ∙ ap (λ (bs : List Begin). p.session.started ++ bs) m, λ es n e. cc (n, e, h))

action_noted : (i d : ℕ) (k : Make) (ds : List ℕ) (p : JobState) (dev : AbstractDevice) (x : Action) → NotedAt p (job_after_action i k ds p dev x) (action_marks i d k ds p dev x) ds
action_noted i d k ds p dev (Actions.Answers challenge fault) = next_noted i d k ds p dev challenge fault p.todo
action_noted i d k ds p dev Actions.TurnsLast = nothing p (job_after_action i k ds p dev Actions.TurnsLast) (action_marks i d k ds p dev Actions.TurnsLast) ds (rested_none _ i d) refl refl
action_noted i d k ds p dev Actions.TurnsShort = nothing p (job_after_action i k ds p dev Actions.TurnsShort) (action_marks i d k ds p dev Actions.TurnsShort) ds (rested_none _ i d) refl refl
action_noted i d k ds p dev (Actions.TurnsNamed status) = nothing p (job_after_action i k ds p dev (Actions.TurnsNamed status)) (action_marks i d k ds p dev (Actions.TurnsNamed status)) ds refl refl refl
action_noted i d k ds p dev (Actions.TurnsFault fault) = nothing p (job_after_action i k ds p dev (Actions.TurnsFault fault)) (action_marks i d k ds p dev (Actions.TurnsFault fault)) ds refl refl refl
action_noted i d k ds p dev (Actions.Loses memory) = nothing p (job_after_action i k ds p dev (Actions.Loses memory)) (action_marks i d k ds p dev (Actions.Loses memory)) ds (lost_none (is_held_by i dev.holder) i d dev) refl refl
action_noted i d k ds p dev (Actions.LosesImage memory) =
    nothing p (job_after_action i k ds p dev (Actions.LosesImage memory)) (action_marks i d k ds p dev (Actions.LosesImage memory)) ds (off_none (is_held_by i dev.holder) p.session.transfer i d dev) refl refl
action_noted i d k ds p dev (Actions.Breaks memory) = nothing p (job_after_action i k ds p dev (Actions.Breaks memory)) (action_marks i d k ds p dev (Actions.Breaks memory)) ds (lost_none (is_held_by i dev.holder) i d dev) refl refl
action_noted i d k ds p dev x = nothing p (job_after_action i k ds p dev x) [] ds refl refl refl

pub notes_true : NotesAreTrue
notes_true s i x =
    subst (λ (q : JobState). NotedAt (s.job i) q (marks s (By i x)) (listed_devices s)) (sym (put_same s.job i (job_after_action i (make_for s i) (listed_devices s) (s.job i) (device_for s i) x)))
    (action_noted i (wanted_place s i) (make_for s i) (listed_devices s) (s.job i) (device_for s i) x)
