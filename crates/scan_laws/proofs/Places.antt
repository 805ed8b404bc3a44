-- A scan goes through its passes, one frame after another.
use Rattle.std.proofs.Common.{◌≡◌, ◌≢◌, ◌-◌, ◌⊎◌, inl, inr, ◌<◌, ◌≤◌, ◌+◌, ◌++◌, ◌∙◌, sym, ap, subst, refl, ℕ, zero, suc, Bool, true, false, List, [], ◌∷◌, take, drop, drop_of_length-le, arith}
use Rattle.std.specs.Prelude.{nat_lt, ◌==◌, if◌then◌else◌, Option, Some, None, Result, Ok, Err}
use Rattle.std.proofs.lemmas.Bool.{eqb-true, eq-eqb}
use Rattle.std.proofs.lemmas.Bool.Decides.{nat_tests}
use Rattle.std.proofs.lemmas.List.{take-append-drop, drop-drop}
use Rattle.sane_fixed.specs.declared.status.Status.{Status}
use Rattle.sane_fixed.specs.declared.status.Status.TheVariants.{Good, Unsupported, Cancelled, DeviceBusy, Inval, Eof, Jammed, NoDocs, CoverOpen, IoError, NoMem, AccessDenied}
use Rattle.page_picture.specs.Page.{PageView}
use Rattle.page_picture.specs.Shows.{Frame}
use Rattle.scan_frames.specs.Frames.{has_picture, last_pass, frame_of, frames_of, payload, takes_colors}
use Rattle.scan_frames.specs.declared.setup.Setup.{Setup}
use Rattle.scan_frames.proofs.Passes.{count}
use Rattle.device_api.specs.State.{DeviceState, HeldPage, HasStopped, Phase, Starts, StartsFrame, StartsIn, StartsOn, Reads, ReadsIn, ReadsOn, FrameReads, GivesBytes, read_status_at, after_pass, after_read_status, after_cancel, after_reset, after_set, cancelled_in, goes_to, is_at_rest, is_reading, next_pass, page_of, set_answer, steady_of, after_stop, stopped_in, with_failures, with_phase}
use Rattle.device_api.specs.Values.{option_set}
use Rattle.option_desc.specs.declared.value.Value.{Value}
use Rattle.sane_fixed.specs.declared.info.Info.{Info}
use Rattle.device_api.specs.State.Phase.{AtRest, Between, Reading}
use Rattle.device_api.proofs.RunLaws.{length-payload}
use Rattle.scan_laws.specs.Passes.{IsPhaseOf, IsInScan, ScanPlace, Giving, place_at_begin, ended_first, place_waiting, place_giving, scan_place_in, place_of, BeginsFrame, GivesOn, EndsWhole, EndsEmpty}

-- ---- phases

at_rest_in : (t : DeviceState) (c : Bool) → t.phase ≡ AtRest c → IsInScan t
at_rest_in t c e = record { phase = subst (λ (p : Phase). IsPhaseOf p t.setup (page_of t)) (sym e) tt; page = λ moves. absurd (let clash : true ≡ false = sym (ap is_at_rest e) ∙ moves in cc) }

phase_of : (t other : DeviceState) → t ≡ other → t.phase ≡ other.phase
phase_of t other is = ap (λ (d : DeviceState). d.phase) is

stops_at_rest : (phase : Phase) (s : DeviceState) → (stopped_in phase s).phase ≡ AtRest false
stops_at_rest (AtRest c) s = refl
stops_at_rest (Between ended) s = refl
stops_at_rest (Reading pass given) s = refl

stopped_in_scan : (s t : DeviceState) → t ≡ after_stop s → IsInScan t
stopped_in_scan s t is = at_rest_in t false (phase_of t (after_stop s) is ∙ stops_at_rest s.phase s)

failed_in_scan : (s t : DeviceState) → HasStopped s t → IsInScan t
failed_in_scan s t h = stopped_in_scan (with_failures s h.failures) t h.after

-- while a scan is under way there is a page
abbrev HasPage : DeviceState → Type 0
HasPage s = s.pages ≢ []

phase_after : (s t : DeviceState) (phase : Phase) → HasPage s → t ≡ with_phase s phase → IsPhaseOf phase s.setup (page_of s) → IsInScan t
phase_after s t phase some is h = subst (λ (d : DeviceState). IsInScan d) (sym is) (record { phase = h; page = λ e. some })

phase_on : (s t : DeviceState) (phase : Phase) → HasPage s → t ≡ goes_to s phase → IsPhaseOf phase s.setup (page_of s) → IsInScan t
phase_on s t (AtRest c) some is h = at_rest_in t c (phase_of t (goes_to s (AtRest c)) is)
phase_on s t (Between ended) some is h = phase_after s t (Between ended) some is h
phase_on s t (Reading pass given) some is h = phase_after s t (Reading pass given) some is h

pass_after : (s : Setup) (page : PageView) (pass : ℕ) → has_picture s page ≡ true → IsPhaseOf (after_pass s pass) s page
pass_after s page pass there = by_last (nat_lt pass (last_pass s)) refl
  where
    by_last : (b : Bool) → nat_lt pass (last_pass s) ≡ b → IsPhaseOf (if b then Between (pass + 1) else AtRest false) s page
    by_last true e = (there, omega arith, let less : pass < last_pass s = grind (arith, nat_tests) in omega arith)
    by_last false e = tt

told_after : (s : Setup) (page : PageView) (pass : ℕ) (status : Status) → has_picture s page ≡ true → IsPhaseOf (after_read_status s pass status) s page
told_after s page pass Eof there = pass_after s page pass there
told_after s page pass _ there = tt

on_in : (s t : DeviceState) (pass given : ℕ) (result : Result ℕ Status) (buf : List ℕ) → HasPage s → has_picture s.setup (page_of s) ≡ true → pass ≤ last_pass s.setup → s.setup.told ≡ None → ReadsOn s pass given result t buf → IsInScan t
on_in s t pass given (Ok n) buf some there few untold h = phase_after s t (Reading pass (given + n)) some h.after (there, few, h.left, λ told. absurd (told untold))
on_in s t pass given (Err Eof) buf some there few untold h = phase_on s t (after_pass s.setup pass) some h.1 (pass_after s.setup (page_of s) pass there)
on_in s t pass given (Err IoError) buf some there few untold h = failed_in_scan s t h.1
on_in s t pass given (Err Good) buf some there few untold h = absurd h
on_in s t pass given (Err Unsupported) buf some there few untold h = absurd h
on_in s t pass given (Err Cancelled) buf some there few untold h = absurd h
on_in s t pass given (Err DeviceBusy) buf some there few untold h = absurd h
on_in s t pass given (Err Inval) buf some there few untold h = absurd h
on_in s t pass given (Err Jammed) buf some there few untold h = absurd h
on_in s t pass given (Err NoDocs) buf some there few untold h = absurd h
on_in s t pass given (Err CoverOpen) buf some there few untold h = absurd h
on_in s t pass given (Err NoMem) buf some there few untold h = absurd h
on_in s t pass given (Err AccessDenied) buf some there few untold h = absurd h

-- what is not told at a byte is told at none
untold : (told : Option Status) (given : ℕ) (b : Bool) → (given == 0) ≡ b → (told ≢ None → given ≡ 0) → (if b then told else None) ≡ None → told ≡ None
untold told given true e first n = n
untold None given false e first n = refl
untold (Some status) given false e first n = let z : given ≡ 0 = first (λ x. cc) in let y : (given == 0) ≡ true = eq-eqb given 0 z in absurd cc

frame_in : (told : Option Status) (s t : DeviceState) (pass given : ℕ) (result : Result ℕ Status) (buf : List ℕ) → read_status_at s.setup.told given ≡ told → (s.setup.told ≢ None → given ≡ 0) → HasPage s → has_picture s.setup (page_of s) ≡ true → pass ≤ last_pass s.setup
    → FrameReads told s pass given result t buf → IsInScan t
frame_in None s t pass given result buf at first some there few h = on_in s t pass given result buf some there few (untold s.setup.told given (given == 0) refl first at) h
frame_in (Some status) s t pass given result buf at first some there few h = phase_on s t (after_read_status s.setup pass status) some h.1 (told_after s.setup (page_of s) pass status there)

same_in : (s t : DeviceState) → IsInScan s → t ≡ s → IsInScan t
same_in s t is e = subst (λ (d : DeviceState). IsInScan d) (sym e) is

some_page : (s : DeviceState) (phase : Phase) → IsInScan s → s.phase ≡ phase → is_at_rest phase ≡ false → HasPage s
some_page s phase is at moves = is.page (ap is_at_rest at ∙ moves)

phase_in : (phase : Phase) (s t : DeviceState) (result : Result ℕ Status) (buf : List ℕ) → s.phase ≡ phase → IsInScan s → IsPhaseOf phase s.setup (page_of s) → ReadsIn phase s result t buf → IsInScan t
phase_in (AtRest c) s t result buf at scan is h = same_in s t scan h.1
phase_in (Between ended) s t result buf at scan is h = same_in s t scan h.1
phase_in (Reading pass given) s t result buf at scan is h =
    frame_in (read_status_at s.setup.told given) s t pass given result buf refl is.3 (some_page s (Reading pass given) scan at refl) is.0 is.1 h

pub read_in : (s t : DeviceState) (result : Result ℕ Status) (buf : List ℕ) → IsInScan s → Reads s result t buf → IsInScan t
read_in s t result buf is h = phase_in s.phase s t result buf refl is is.phase h

-- a start
next_few : (phase : Phase) (s : Setup) (page : PageView) → is_reading phase ≡ false → IsPhaseOf phase s page → next_pass phase ≤ last_pass s
next_few (AtRest c) s page idle is = omega arith
next_few (Between ended) s page idle is = is.2
next_few (Reading pass given) s page idle is = absurd (let clash : true ≡ false = idle in cc)

frame_started : (s t : DeviceState) (result : Result Unit Status) → HasPage s → next_pass s.phase ≤ last_pass s.setup → StartsFrame s result t → IsInScan t
frame_started s t (Ok _) some few h = phase_after s t (Reading (next_pass s.phase) 0) some h.1 (h.0, few, omega arith, λ told. refl)
frame_started s t (Err Inval) some few h = stopped_in_scan s t h.1
frame_started s t (Err IoError) some few h = failed_in_scan s t h.1
frame_started s t (Err NoMem) some few h = stopped_in_scan s t h.1
frame_started s t (Err Good) some few h = absurd h
frame_started s t (Err Unsupported) some few h = absurd h
frame_started s t (Err Cancelled) some few h = absurd h
frame_started s t (Err DeviceBusy) some few h = absurd h
frame_started s t (Err Eof) some few h = absurd h
frame_started s t (Err Jammed) some few h = absurd h
frame_started s t (Err NoDocs) some few h = absurd h
frame_started s t (Err CoverOpen) some few h = absurd h
frame_started s t (Err AccessDenied) some few h = absurd h

on_started : (pages : List HeldPage) (s t : DeviceState) (result : Result Unit Status) → s.pages ≡ pages → next_pass s.phase ≤ last_pass s.setup → StartsOn pages s result t → IsInScan t
on_started [] s t result e few h = stopped_in_scan s t h.1
on_started (held ∷ pages) s t result e few h = frame_started s t result (λ none. let clash : [] ≡ held ∷ pages = sym none ∙ e in cc) few h

started_in : (phase : Phase) (s t : DeviceState) (result : Result Unit Status) → s.phase ≡ phase → IsInScan s → StartsIn phase s result t → IsInScan t
started_in (AtRest c) s t result at scan h = on_started s.pages s t result refl (next_few s.phase s.setup (page_of s) (ap is_reading at) scan.phase) h
started_in (Between ended) s t result at scan h = on_started s.pages s t result refl (next_few s.phase s.setup (page_of s) (ap is_reading at) scan.phase) h
started_in (Reading pass given) s t result at scan h = same_in s t scan h.1

pub start_in : (s t : DeviceState) (result : Result Unit Status) → IsInScan s → Starts s result t → IsInScan t
start_in s t result scan h = started_in s.phase s t result refl scan h

-- at rest all is well
cancelled_at : (phase : Phase) (s : DeviceState) → s.phase ≡ phase → IsInScan (cancelled_in phase s)
cancelled_at (AtRest c) s at = at_rest_in s c at
cancelled_at (Between ended) s at = at_rest_in _ true refl
cancelled_at (Reading pass given) s at = at_rest_in _ true refl

pub cancel_in : (s : DeviceState) → IsInScan (after_cancel s)
cancel_in s = cancelled_at s.phase s refl

pub reset_in : (s : DeviceState) → IsInScan (after_reset s)
reset_in s = at_rest_in _ false refl

set_at : (phase : Phase) (s : DeviceState) (n : ℕ) (asked given : Value) (info : Info) → s.phase ≡ phase → (if is_at_rest phase then option_set s.setup n asked else Err DeviceBusy) ≡ Ok (given, info) → IsInScan (after_set s n given)
set_at (AtRest c) s n asked given info at e = at_rest_in _ c at
set_at (Between ended) s n asked given info at e = absurd (let clash : Err DeviceBusy ≡ Ok (given, info) = e in cc)
set_at (Reading pass so_far) s n asked given info at e = absurd (let clash : Err DeviceBusy ≡ Ok (given, info) = e in cc)

pub set_in : (s : DeviceState) (n : ℕ) (asked given : Value) (info : Info) → set_answer s n asked ≡ Ok (given, info) → IsInScan (after_set s n given)
set_in s n asked given info e = set_at s.phase s n asked given info refl e

-- ---- frames

passes : Bool → (ℕ → Frame) → List Frame
passes three f = if three then f 0 ∷ f 1 ∷ f 2 ∷ [] else f 0 ∷ []

last : Bool → ℕ
last three = if three then 2 else 0

from_pass : (three : Bool) (f : ℕ → Frame) (pass : ℕ) → pass ≤ last three → drop pass (passes three f) ≡ f pass ∷ drop (pass + 1) (passes three f)
unfolding passes last
from_pass true f zero h = refl
from_pass true f (suc zero) h = refl
from_pass true f (suc (suc zero)) h = refl
from_pass true f (suc (suc (suc pass))) h = absurd (omega arith)
from_pass false f zero h = refl
from_pass false f (suc pass) h = absurd (omega arith)

-- the frames from a pass on
pub frames_from : (s : Setup) (page : PageView) (pass : ℕ) → pass ≤ last_pass s → drop pass (frames_of s page) ≡ frame_of s page pass ∷ drop (pass + 1) (frames_of s page)
unfolding passes last
frames_from s page pass few = from_pass (takes_colors s.scene.kind s.scene.mode) (frame_of s page) pass few

none_behind : (s : Setup) (page : PageView) (pass : ℕ) → last_pass s ≤ pass → drop (pass + 1) (frames_of s page) ≡ []
none_behind s page pass all = drop_of_length-le (frames_of s page) (let n = count s page in omega arith)

-- the place in a pass
reading_at : (s : Setup) (page : PageView) (pass given : ℕ) → pass ≤ last_pass s → scan_place_in (Reading pass given) (frames_of s page) ≡ Giving (frame_of s page pass) (drop given (payload s page pass)) (drop (pass + 1) (frames_of s page))
reading_at s page pass given few = ap (λ (fs : List Frame). place_giving fs given) (frames_from s page pass few)

-- the place behind it
behind_at : (s : Setup) (page : PageView) (pass : ℕ) → pass ≤ last_pass s → scan_place_in (after_pass s pass) (frames_of s page) ≡ place_waiting (frame_of s page pass) (drop (pass + 1) (frames_of s page))
behind_at s page pass few = by_last (nat_lt pass (last_pass s)) refl
  where
    by_last : (b : Bool) → nat_lt pass (last_pass s) ≡ b → scan_place_in (if b then Between (pass + 1) else AtRest false) (frames_of s page) ≡ place_waiting (frame_of s page pass) (drop (pass + 1) (frames_of s page))
    by_last true e = let n : pass + 1 - 1 ≡ pass = omega arith in rw n (ap ended_first (frames_from s page pass few))
    by_last false e = sym (ap (λ (fs : List Frame). place_waiting (frame_of s page pass) fs) (none_behind s page pass (grind (arith, nat_tests))))

place_is : (s t : DeviceState) (phase : Phase) → t ≡ with_phase s phase → place_of t ≡ scan_place_in phase (frames_of s.setup (page_of s))
place_is s t phase is = ap (λ (d : DeviceState). place_of d) is

place_on : (s t : DeviceState) (phase : Phase) → t ≡ goes_to s phase → place_of t ≡ scan_place_in phase (frames_of s.setup (page_of s))
place_on s t (AtRest c) is = ap (λ (d : DeviceState). place_of d) is
place_on s t (Between ended) is = place_is s t (Between ended) is
place_on s t (Reading pass given) is = place_is s t (Reading pass given) is

-- ---- a start

first_begins : (fs : List Frame) → place_giving fs 0 ≡ place_at_begin fs
first_begins [] = refl
first_begins (f ∷ more) = refl

begins_at : (last : Frame) (fs all : List Frame) (f : Frame) (more : List Frame) (new : ScanPlace) → fs ≡ f ∷ more → new ≡ place_giving fs 0 → BeginsFrame (place_waiting last fs) all new
begins_at last fs all f more new e is =
    let here : new ≡ place_at_begin (f ∷ more) = is ∙ first_begins fs ∙ ap place_at_begin e in
    subst (λ (gs : List Frame). BeginsFrame (place_waiting last gs) all new) (sym e) here

-- between two passes the frame that ended is the one before
waits_at : (s : Setup) (page : PageView) (ended : ℕ) → 1 ≤ ended → ended ≤ last_pass s → scan_place_in (Between ended) (frames_of s page) ≡ place_waiting (frame_of s page (ended - 1)) (drop ended (frames_of s page))
waits_at s page ended some few =
    let n : ended - 1 + 1 ≡ ended = omega arith in
    ap ended_first (frames_from s page (ended - 1) (omega arith)) ∙ ap (λ (k : ℕ). place_waiting (frame_of s page (ended - 1)) (drop k (frames_of s page))) n

frame_of_start : (pages : List HeldPage) (s t : DeviceState) → StartsOn pages s (Ok tt) t → StartsFrame s (Ok tt) t
frame_of_start [] s t h = absurd (let clash : Ok tt ≡ Err NoDocs = h.0 in cc)
frame_of_start (held ∷ pages) s t h = h

start_at : (phase : Phase) (s t : DeviceState) → IsPhaseOf phase s.setup (page_of s) → StartsIn phase s (Ok tt) t → s.phase ≡ phase → BeginsFrame (scan_place_in phase (frames_of s.setup (page_of s))) (frames_of s.setup (page_of s)) (place_of t)
start_at (AtRest c) s t is h at =
    let begun = frame_of_start s.pages s t h in
    place_is s t (Reading (next_pass s.phase) 0) begun.1 ∙ ap (λ (p : Phase). place_giving (drop (next_pass p) (frames_of s.setup (page_of s))) 0) at ∙ first_begins (frames_of s.setup (page_of s))
start_at (Between ended) s t is h at =
    let begun = frame_of_start s.pages s t h in
    let fs = frames_of s.setup (page_of s) in
    let here : place_of t ≡ place_giving (drop ended fs) 0 = place_is s t (Reading (next_pass s.phase) 0) begun.1 ∙ ap (λ (p : Phase). place_giving (drop (next_pass p) fs) 0) at in
    let last = frame_of s.setup (page_of s) (ended - 1) in
    subst (λ (p : ScanPlace). BeginsFrame p fs (place_of t)) (sym (waits_at s.setup (page_of s) ended is.1 is.2))
    (begins_at last (drop ended fs) fs (frame_of s.setup (page_of s) ended) (drop (ended + 1) fs) (place_of t) (frames_from s.setup (page_of s) ended is.2) here)
start_at (Reading pass given) s t is h at = absurd cc

pub start_begins : (s t : DeviceState) → IsInScan s → Starts s (Ok tt) t → BeginsFrame (place_of s) (frames_of s.setup (page_of s)) (place_of t)
start_begins s t is h = start_at s.phase s t is.phase h refl

-- ---- a read

gave : (told : Option Status) (s t : DeviceState) (pass given n : ℕ) (buf : List ℕ) → FrameReads told s pass given (Ok n) t buf → GivesBytes s pass given n t buf
gave None s t pass given n buf h = h
gave (Some status) s t pass given n buf h = absurd (let clash : Ok n ≡ Err status = h.0 in cc)

read_at : (phase : Phase) (s t : DeviceState) (n : ℕ) (buf : List ℕ) → IsPhaseOf phase s.setup (page_of s) → steady_of s ≡ true → ReadsIn phase s (Ok n) t buf → GivesOn (scan_place_in phase (frames_of s.setup (page_of s))) (take n buf) (place_of t)
read_at (AtRest c) s t n buf is steady h = absurd (let clash : Ok n ≡ Err (if c then Cancelled else Inval) = h.0 in cc)
read_at (Between ended) s t n buf is steady h = absurd (let clash : Ok n ≡ Err Inval = h.0 in cc)
read_at (Reading pass given) s t n buf is steady h =
    let g = gave (read_status_at s.setup.told given) s t pass given n buf h in
    let all = payload s.setup (page_of s) pass in
    let more = drop (pass + 1) (frames_of s.setup (page_of s)) in
    let rest : drop given all ≡ take n buf ++ drop (given + n) all =
    sym (take-append-drop n (drop given all)) ∙ ap (λ (xs : List ℕ). xs ++ drop n (drop given all)) (sym (g.bytes steady)) ∙ ap (λ (xs : List ℕ). take n buf ++ xs) (drop-drop n given all) in
    let now : place_of t ≡ Giving (frame_of s.setup (page_of s) pass) (drop (given + n) all) more =
    place_is s t (Reading pass (given + n)) g.after ∙ reading_at s.setup (page_of s) pass (given + n) is.1 in
    subst (λ (p : ScanPlace). GivesOn p (take n buf) (place_of t)) (sym (reading_at s.setup (page_of s) pass given is.1)) (drop (given + n) all, rest, now)

pub read_gives : (s t : DeviceState) (n : ℕ) (buf : List ℕ) → IsInScan s → steady_of s ≡ true → Reads s (Ok n) t buf → GivesOn (place_of s) (take n buf) (place_of t)
read_gives s t n buf is steady h = read_at s.phase s t n buf is.phase steady h

-- ---- the end of a frame

-- what is told at the first byte stands at no other
told_first : (told : Option Status) (given : ℕ) (status : Status) (b : Bool) → (given == 0) ≡ b → (if b then told else None) ≡ Some status → (given ≡ 0) × (told ≡ Some status)
told_first told given status true e h = (eqb-true given 0 e, h)
told_first told given status false e h = absurd cc

end_in : (o : Option Status) (s t : DeviceState) (pass given : ℕ) (buf : List ℕ) → pass ≤ last_pass s.setup → read_status_at s.setup.told given ≡ o → FrameReads o s pass given (Err Eof) t buf
    → EndsWhole (scan_place_in (Reading pass given) (frames_of s.setup (page_of s))) (place_of t) ⊎ ((s.setup.told ≡ Some Eof) × EndsEmpty (scan_place_in (Reading pass given) (frames_of s.setup (page_of s))) (place_of t))
end_in None s t pass given buf few told h =
    let all = payload s.setup (page_of s) pass in
    let nothing : drop given all ≡ [] = drop_of_length-le all (let size = length-payload s.setup (page_of s) pass in let end = h.0 in omega arith) in
    let now : place_of t ≡ place_waiting (frame_of s.setup (page_of s) pass) (drop (pass + 1) (frames_of s.setup (page_of s))) = place_on s t (after_pass s.setup pass) h.1 ∙ behind_at s.setup (page_of s) pass few in
    inl (subst (λ (p : ScanPlace). EndsWhole p (place_of t)) (sym (reading_at s.setup (page_of s) pass given few)) (nothing, now))
end_in (Some status) s t pass given buf few told h =
    let same : status ≡ Eof = (let e : Err Eof ≡ Err status = h.0 in cc) in
    let at = told_first s.setup.told given status (given == 0) refl told in
    let all = payload s.setup (page_of s) pass in
    let now : place_of t ≡ place_waiting (frame_of s.setup (page_of s) pass) (drop (pass + 1) (frames_of s.setup (page_of s))) =
    place_on s t (after_read_status s.setup pass status) h.1 ∙ ap (λ (st : Status). scan_place_in (after_read_status s.setup pass st) (frames_of s.setup (page_of s))) same ∙ behind_at s.setup (page_of s) pass few in
    inr (at.1 ∙ ap (λ st. Some st) same, subst (λ (p : ScanPlace). EndsEmpty p (place_of t)) (sym (reading_at s.setup (page_of s) pass given few)) (ap (λ n. drop n all) at.0, now))

end_at : (phase : Phase) (s t : DeviceState) (buf : List ℕ) → IsPhaseOf phase s.setup (page_of s) → ReadsIn phase s (Err Eof) t buf
    → EndsWhole (scan_place_in phase (frames_of s.setup (page_of s))) (place_of t) ⊎ ((s.setup.told ≡ Some Eof) × EndsEmpty (scan_place_in phase (frames_of s.setup (page_of s))) (place_of t))
end_at (AtRest true) s t buf is h = absurd (let clash : Err Eof ≡ Err Cancelled = h.0 in cc)
end_at (AtRest false) s t buf is h = absurd (let clash : Err Eof ≡ Err Inval = h.0 in cc)
end_at (Between ended) s t buf is h = absurd (let clash : Err Eof ≡ Err Inval = h.0 in cc)
end_at (Reading pass given) s t buf is h = end_in (read_status_at s.setup.told given) s t pass given buf is.1 refl h

pub read_ends : (s t : DeviceState) (buf : List ℕ) → IsInScan s → Reads s (Err Eof) t buf → EndsWhole (place_of s) (place_of t) ⊎ ((s.setup.told ≡ Some Eof) × EndsEmpty (place_of s) (place_of t))
read_ends s t buf is h = end_at s.phase s t buf is.phase h
