-- The marks that an action shows are those of its client and of its device.
use Rattle.std.specs.List.{AllByRecursion}
use Rattle.std.proofs.Common.{ℕ, List, [], ◌∷◌, Bool, true, false, Option, Some, None, refl}
use Rattle.page_picture.specs.Shows.{Frame}
use Rattle.system_model.specs.AbstractMessages.{same_text, Challenge, AbstractRequest, Open, Authorize, Start, Cancel, Close, Exit}
use Rattle.device_api.specs.Kinds.{Page}
use Rattle.system_model.specs.Devices.{Make, picture_frames}
use Rattle.system_model.specs.AbstractDevices.{AbstractDevice, ScanPhase, Resting, Between, Reading, Begin, ended_phase, is_held_by, is_resting}
use Rattle.system_model.specs.Daemon.{TransferState, Quiet, Waiting, Streaming, Ending, Environment, FailureCounts}
use Rattle.system_model.specs.SystemStates.{JobState}
use Rattle.system_model.specs.Actions
use Rattle.system_model.specs.Actions.{Action, environment_of}
use Rattle.system_model.specs.Marks.{Mark, IsMarkOf, is_busy}
use Rattle.system_model.specs.StepMarks.{rested_if, left_marks, page_marks, tray_marks, pass_marks, start_marks, fault_marks, starts_marks, take_marks, open_marks, allow_marks, answer_marks, awaited_marks, request_marks, next_marks, lost_marks, off_marks, action_marks}

abbrev pub AreMarksOf : ℕ → ℕ → List Mark → Type 0
AreMarksOf i d ms = AllByRecursion (IsMarkOf i d) ms

pub rested_mine : (b : Bool) (i d : ℕ) → AreMarksOf i d (rested_if b i d)
rested_mine true i d = ((refl, refl), tt)
rested_mine false i d = tt

pub left_mine : (b : Bool) (i d : ℕ) → AreMarksOf i d (left_marks b i d)
left_mine true i d = ((refl, refl), ((refl, refl), tt))
left_mine false i d = ((refl, refl), tt)

pub lost_mine : (b : Bool) (i d : ℕ) (dev : AbstractDevice) → AreMarksOf i d (lost_marks b i d dev)
lost_mine true i d dev = left_mine (is_busy dev.phase) i d
lost_mine false i d dev = tt

pub off_mine : (b : Bool) (c : TransferState) (i d : ℕ) (dev : AbstractDevice) → AreMarksOf i d (off_marks b c i d dev)
off_mine true Quiet i d dev = tt
off_mine true Waiting i d dev = tt
off_mine true Streaming i d dev = rested_mine (is_busy dev.phase) i d
off_mine true Ending i d dev = tt
off_mine false c i d dev = tt

pub take_mine : (i d : ℕ) (listed : Bool) (h : Option ℕ) → AreMarksOf i d (take_marks i d listed h)
take_mine i d false h = tt
take_mine i d true None = ((refl, refl), tt)
take_mine i d true (Some j) = tt

pub open_mine : (i d : ℕ) (dev : AbstractDevice) (guarded : Bool) → AreMarksOf i d (open_marks i d dev guarded)
open_mine i d dev true = tt
open_mine i d dev false = take_mine i d dev.listed dev.holder

pub allow_mine : (i d : ℕ) (dev : AbstractDevice) (same allowed : Bool) → AreMarksOf i d (allow_marks i d dev same allowed)
allow_mine i d dev true true = take_mine i d dev.listed dev.holder
allow_mine i d dev true false = tt
allow_mine i d dev false allowed = tt

page_mine : (i d : ℕ) (begin : Begin) (fs : List Frame) → AreMarksOf i d (page_marks i d begin fs)
page_mine i d begin [] = tt
page_mine i d begin (f ∷ more) = ((refl, refl), tt)

tray_mine : (i d : ℕ) (k : Make) (dev : AbstractDevice) (tray : List Page) → AreMarksOf i d (tray_marks i d k dev tray)
tray_mine i d k dev [] = tt
tray_mine i d k dev (page ∷ tray) = page_mine i d (record { page = page; options = dev.options }) (picture_frames k dev.options page)

pass_mine : (i d : ℕ) (fs : List Frame) → AreMarksOf i d (pass_marks i d fs)
pass_mine i d [] = ((refl, refl), tt)
pass_mine i d (f ∷ more) = tt

start_mine : (i d : ℕ) (k : Make) (dev : AbstractDevice) (ph : ScanPhase) → AreMarksOf i d (start_marks i d k dev ph)
start_mine i d k dev Resting = tray_mine i d k dev dev.tray
start_mine i d k dev (Between last more) = pass_mine i d more
start_mine i d k dev (Reading f rest more) = tt

fault_mine : (i d : ℕ) (k : Make) (dev : AbstractDevice) (fault : Option FailureCounts) → AreMarksOf i d (fault_marks i d k dev fault)
fault_mine i d k dev None = start_mine i d k dev dev.phase
fault_mine i d k dev (Some f) = rested_mine (is_busy dev.phase) i d

starts_mine : (i d : ℕ) (k : Make) (dev : AbstractDevice) (fault : Option FailureCounts) (c : TransferState) → AreMarksOf i d (starts_marks i d k dev fault c)
starts_mine i d k dev fault Quiet = fault_mine i d k dev fault
starts_mine i d k dev fault Waiting = tt
starts_mine i d k dev fault Streaming = tt
starts_mine i d k dev fault Ending = tt

pub answer_mine : (b : Bool) (i d : ℕ) (k : Make) (dev : AbstractDevice) (c : TransferState) (x : Environment) (q : AbstractRequest) → AreMarksOf i d (answer_marks b i d k dev c x q)
answer_mine true i d k dev c x Open = open_mine i d dev x.guarded
answer_mine true i d k dev c x (Authorize challenge) = left_mine (is_busy dev.phase) i d
answer_mine true i d k dev c x Start = starts_mine i d k dev x.fault c
answer_mine true i d k dev c x Cancel = rested_mine (is_busy dev.phase) i d
answer_mine true i d k dev c x Close = left_mine (is_busy dev.phase) i d
answer_mine true i d k dev c x Exit = left_mine (is_busy dev.phase) i d
answer_mine true i d k dev c x q = tt
answer_mine false i d k dev c x Open = open_mine i d dev x.guarded
answer_mine false i d k dev c x q = tt

awaited_mine : (i d : ℕ) (dev : AbstractDevice) (x : Environment) (sent : Challenge) (q : AbstractRequest) → AreMarksOf i d (awaited_marks i d dev x sent q)
awaited_mine i d dev x sent (Authorize challenge) = allow_mine i d dev (same_text challenge sent) (x.allows sent)
awaited_mine i d dev x sent q = lost_mine (is_held_by i dev.holder) i d dev

pub request_mine : (i d : ℕ) (k : Make) (dev : AbstractDevice) (c : TransferState) (a : Option Challenge) (x : Environment) (q : AbstractRequest) → AreMarksOf i d (request_marks i d k dev c a x q)
request_mine i d k dev c None x q = answer_mine (is_held_by i dev.holder) i d k dev c x q
request_mine i d k dev c (Some sent) x q = awaited_mine i d dev x sent q

next_mine : (i d : ℕ) (k : Make) (ds : List ℕ) (p : JobState) (dev : AbstractDevice) (challenge : Challenge) (fault : Option FailureCounts) (qs : List AbstractRequest) → AreMarksOf i d (next_marks i d k ds p dev challenge fault qs)
next_mine i d k ds p dev challenge fault [] = tt
next_mine i d k ds p dev challenge fault (q ∷ rest) = request_mine i d k dev p.session.transfer p.session.awaited (environment_of p.session ds challenge fault) q

pub action_mine : (i d : ℕ) (k : Make) (ds : List ℕ) (p : JobState) (dev : AbstractDevice) (x : Action) → AreMarksOf i d (action_marks i d k ds p dev x)
action_mine i d k ds p dev (Actions.Answers challenge fault) = next_mine i d k ds p dev challenge fault p.todo
action_mine i d k ds p dev Actions.TurnsLast = rested_mine (is_resting (ended_phase dev.phase)) i d
action_mine i d k ds p dev Actions.TurnsShort = rested_mine (is_resting (ended_phase dev.phase)) i d
action_mine i d k ds p dev (Actions.TurnsNamed status) = ((refl, refl), tt)
action_mine i d k ds p dev (Actions.TurnsFault fault) = ((refl, refl), tt)
action_mine i d k ds p dev (Actions.Loses memory) = lost_mine (is_held_by i dev.holder) i d dev
action_mine i d k ds p dev (Actions.LosesImage memory) = off_mine (is_held_by i dev.holder) p.session.transfer i d dev
action_mine i d k ds p dev (Actions.Breaks memory) = lost_mine (is_held_by i dev.holder) i d dev
action_mine i d k ds p dev x = tt
