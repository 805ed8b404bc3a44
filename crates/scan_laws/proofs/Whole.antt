-- A scan shows the picture of its first start, whatever is called.
use Rattle.std.proofs.Common.{◌≡◌, ◌⊎◌, inl, inr, ◌<◌, ◌≤◌, ◌+◌, ◌-◌, ◌++◌, ◌∙◌, sym, ap, subst, refl, ℕ, zero, suc, Bool, true, false, List, [], ◌∷◌, take, drop, drop_of_length-le, append_assoc, arith}
use Rattle.std.specs.Prelude.{nat_lt, ◌==◌, if◌then◌else◌, Option, Some, None, Result, Ok, Err, slice_get}
use Rattle.std.proofs.lemmas.Bool.{false≢true, eqb-true}
use Rattle.std.proofs.lemmas.Bool.Decides.{nat_tests}
use Rattle.std.proofs.lemmas.List.{take-append-drop, drop-drop, append-nil}
use Rattle.sane_fixed.specs.declared.status.Status.{Status}
use Rattle.sane_fixed.specs.declared.status.Status.TheVariants.{Good, Unsupported, Cancelled, DeviceBusy, Inval, Eof, Jammed, NoDocs, CoverOpen, IoError, NoMem, AccessDenied}
use Rattle.std.specs.Prelude.{All}
use Rattle.std.proofs.lemmas.List.Elements.{All-head}
use Rattle.page_picture.specs.Page.{IsPageView, PageView}
use Rattle.scan_frames.specs.Frames.{has_picture, last_pass, frame_of, frames_of, params_at, payload, takes_colors}
use Rattle.scan_frames.specs.declared.setup.Setup.{Setup}
use Rattle.page_picture.specs.Shows.{Frame}
use Rattle.scan_frames.proofs.Passes.{each}
use Rattle.scan_frames.proofs.Zeros.{ends_in_zeros}
use Rattle.device_api.specs.ScannerLimits.{HasLimits, IsHeldPage}
use Rattle.device_api.specs.State.{DeviceState, Phase, Starts, StartsIn, StartsFrame, Reads, ReadsIn, ReadsOn, FrameReads, read_status_at, after_pass, after_read_status, HasStopped, HeldPage, StartsOn, first_page, goes_to, is_at_rest, page_of, params_in, params_of, reported_pass, steady_of, after_stop, stopped_in, with_failures, with_phase}
use Rattle.device_api.specs.State.Phase.{AtRest, Between, Reading}
use Rattle.device_api.proofs.RunLaws.{length-payload}
use Rattle.scan_laws.specs.ScanRuns.{DeviceCall, Start, Read, Set, Load, Cancel, Reset, Makes, ScanGoesOn, heard_after, heard_in, IsHeardIn, last_started, FrameIsHeard, IsOfScan, ShowsOne}
use Rattle.scan_laws.proofs.Meant.{means_and_shows}

-- ---- what was heard, by the phase

abbrev IsHeard : Phase → Setup → PageView → List ℕ → Type 0
IsHeard (AtRest _) s page heard = ⊥
IsHeard (Between zero) s page heard = ⊥
IsHeard (Between (suc pass)) s page heard = (suc pass ≤ last_pass s) × ((heard ≡ payload s page pass) ⊎ ((s.told ≡ Some Eof) × (heard ≡ [])))
IsHeard (Reading pass given) s page heard = (pass ≤ last_pass s) × (heard ++ drop given (payload s page pass) ≡ payload s page pass) × (given ≡ 0 → heard ≡ [])

-- the scan of `first` under way
record IsUnder (first now : DeviceState) (heard : List ℕ) : Type 0 where
  now_is : now ≡ with_phase first now.phase
  heard_is : IsHeard now.phase first.setup (page_of first) heard

comes_to : (first new : DeviceState) (phase : Phase) (heard : List ℕ) → new ≡ with_phase first phase → IsHeard phase first.setup (page_of first) heard → IsUnder first new heard
comes_to first new phase heard is h =
    let phase_is : new.phase ≡ phase = ap (λ (d : DeviceState). d.phase) is in
    record {
      now_is = is ∙ ap (λ (p : Phase). with_phase first p) (sym phase_is);
      heard_is = subst (λ (p : Phase). IsHeard p first.setup (page_of first) heard) (sym phase_is) h;
    }

-- the call brought it to rest
at_rest : {A : Type 0} (new : DeviceState) (cancelled : Bool) → new.phase ≡ AtRest cancelled → is_at_rest new.phase ≡ false → A
at_rest new cancelled at moves = absurd (false≢true (sym moves ∙ ap is_at_rest at))

phase_of : (new : DeviceState) (other : DeviceState) → new ≡ other → new.phase ≡ other.phase
phase_of new other is = ap (λ (d : DeviceState). d.phase) is

stops_at_rest : (phase : Phase) (s : DeviceState) → (stopped_in phase s).phase ≡ AtRest false
stops_at_rest (AtRest c) s = refl
stops_at_rest (Between ended) s = refl
stops_at_rest (Reading pass given) s = refl

stopped_rests : {A : Type 0} (s new : DeviceState) → new ≡ after_stop s → is_at_rest new.phase ≡ false → A
stopped_rests s new is moves = at_rest new false (phase_of new (after_stop s) is ∙ stops_at_rest s.phase s) moves

failed_rests : {A : Type 0} (s new : DeviceState) → HasStopped s new → is_at_rest new.phase ≡ false → A
failed_rests s new h moves = stopped_rests (with_failures s h.failures) new h.after moves

-- ---- a start

frame_starts : (first new : DeviceState) (result : Result Unit Status) (heard : List ℕ) (pass : ℕ) → suc pass ≤ last_pass first.setup → StartsFrame (with_phase first (Between (suc pass))) result new → is_at_rest new.phase ≡ false → IsUnder first new (heard_after heard (Start result))
frame_starts first new (Ok _) heard pass few h moves = comes_to first new (Reading (suc pass) 0) [] h.1 (few, refl, λ e. refl)
frame_starts first new (Err Inval) heard pass few h moves = stopped_rests (with_phase first (Between (suc pass))) new h.1 moves
frame_starts first new (Err IoError) heard pass few h moves = failed_rests _ new h.1 moves
frame_starts first new (Err NoMem) heard pass few h moves = stopped_rests (with_phase first (Between (suc pass))) new h.1 moves
frame_starts first new (Err Good) heard pass few h moves = absurd h
frame_starts first new (Err Unsupported) heard pass few h moves = absurd h
frame_starts first new (Err Cancelled) heard pass few h moves = absurd h
frame_starts first new (Err DeviceBusy) heard pass few h moves = absurd h
frame_starts first new (Err Eof) heard pass few h moves = absurd h
frame_starts first new (Err Jammed) heard pass few h moves = absurd h
frame_starts first new (Err NoDocs) heard pass few h moves = absurd h
frame_starts first new (Err CoverOpen) heard pass few h moves = absurd h
frame_starts first new (Err AccessDenied) heard pass few h moves = absurd h

on_starts : (pages : List HeldPage) (first new : DeviceState) (result : Result Unit Status) (heard : List ℕ) (pass : ℕ) → suc pass ≤ last_pass first.setup → StartsOn pages (with_phase first (Between (suc pass))) result new → is_at_rest new.phase ≡ false → IsUnder first new (heard_after heard (Start result))
on_starts [] first new result heard pass few h moves = stopped_rests (with_phase first (Between (suc pass))) new h.1 moves
on_starts (held ∷ pages) first new result heard pass few h moves = frame_starts first new result heard pass few h moves

-- a start while a frame is read
busy_start : (first new : DeviceState) (result : Result Unit Status) (heard : List ℕ) (pass given : ℕ) → IsHeard (Reading pass given) first.setup (page_of first) heard → (result ≡ Err DeviceBusy) × (new ≡ with_phase first (Reading pass given)) → IsUnder first new (heard_after heard (Start result))
busy_start first new (Ok _) heard pass given at h = absurd (let clash : Ok tt ≡ Err DeviceBusy = h.0 in cc)
busy_start first new (Err _) heard pass given at h = comes_to first new (Reading pass given) heard h.1 at

-- ---- a read

-- a pass ended, and another is to come
pass_ends : (first new : DeviceState) (pass given : ℕ) (heard : List ℕ) → new ≡ goes_to (with_phase first (Reading pass given)) (after_pass first.setup pass) → (heard ≡ payload first.setup (page_of first) pass) ⊎ ((first.setup.told ≡ Some Eof) × (heard ≡ [])) → is_at_rest new.phase ≡ false → IsUnder first new heard
pass_ends first new pass given heard is h moves = by_last (nat_lt pass (last_pass first.setup)) refl is
  where
    by_last : (b : Bool) → nat_lt pass (last_pass first.setup) ≡ b → new ≡ goes_to (with_phase first (Reading pass given)) (if b then Between (pass + 1) else AtRest false) → IsUnder first new heard
    by_last true e at =
        let next : pass + 1 ≡ suc pass = omega arith in
        comes_to first new (Between (suc pass)) heard (at ∙ ap (λ (n : ℕ). with_phase first (Between n)) next) (let less : pass < last_pass first.setup = grind (arith, nat_tests) in omega arith, h)
    by_last false e at = at_rest new false (phase_of new _ at) moves

on_reads : (first new : DeviceState) (pass given : ℕ) (result : Result ℕ Status) (buf heard : List ℕ) → steady_of first ≡ true → IsHeard (Reading pass given) first.setup (page_of first) heard → ReadsOn (with_phase first (Reading pass given)) pass given result new buf → is_at_rest new.phase ≡ false → IsUnder first new (heard_after heard (Read result buf))
on_reads first new pass given (Ok n) buf heard steady at h moves =
    let all = payload first.setup (page_of first) pass in
    let some = h.some in
    let more : (heard ++ take n buf) ++ drop (given + n) all ≡ heard ++ drop given all =
    append_assoc heard (take n buf) (drop (given + n) all)
    ∙ ap (λ (xs : List ℕ). heard ++ xs) (ap (λ (xs : List ℕ). xs ++ drop (given + n) all) (h.bytes steady)
    ∙ ap (λ (xs : List ℕ). take n (drop given all) ++ xs) (sym (drop-drop n given all)) ∙ take-append-drop n (drop given all)) in
    comes_to first new (Reading pass (given + n)) (heard ++ take n buf) h.after (at.0, more ∙ at.1, λ e. absurd (omega (arith, some, e)))
on_reads first new pass given (Err Eof) buf heard steady at h moves =
    let all = payload first.setup (page_of first) pass in
    let nothing : drop given all ≡ [] = drop_of_length-le all (let size = length-payload first.setup (page_of first) pass in let end = h.0 in omega (arith, size, end)) in
    pass_ends first new pass given heard h.1 (inl (sym (append-nil heard) ∙ ap (λ (xs : List ℕ). heard ++ xs) (sym nothing) ∙ at.1)) moves
on_reads first new pass given (Err IoError) buf heard steady at h moves = failed_rests _ new h.1 moves
on_reads first new pass given (Err Good) buf heard steady at h moves = absurd h
on_reads first new pass given (Err Unsupported) buf heard steady at h moves = absurd h
on_reads first new pass given (Err Cancelled) buf heard steady at h moves = absurd h
on_reads first new pass given (Err DeviceBusy) buf heard steady at h moves = absurd h
on_reads first new pass given (Err Inval) buf heard steady at h moves = absurd h
on_reads first new pass given (Err Jammed) buf heard steady at h moves = absurd h
on_reads first new pass given (Err NoDocs) buf heard steady at h moves = absurd h
on_reads first new pass given (Err CoverOpen) buf heard steady at h moves = absurd h
on_reads first new pass given (Err NoMem) buf heard steady at h moves = absurd h
on_reads first new pass given (Err AccessDenied) buf heard steady at h moves = absurd h

-- what is told in place of bytes stands before the first
told_first : (told : Option Status) (given : ℕ) (status : Status) (b : Bool) → (given == 0) ≡ b → (if b then told else None) ≡ Some status → (given ≡ 0) × (told ≡ Some status)
told_first told given status true e h = (eqb-true given 0 e, h)
told_first told given status false e h = absurd cc

told_ends : (first new : DeviceState) (pass given : ℕ) (status : Status) (heard : List ℕ) → heard ≡ [] → first.setup.told ≡ Some status → new ≡ goes_to (with_phase first (Reading pass given)) (after_read_status first.setup pass status) → is_at_rest new.phase ≡ false → IsUnder first new heard
told_ends first new pass given Eof heard none told is moves = pass_ends first new pass given heard is (inr (told, none)) moves
told_ends first new pass given _ heard none told is moves = at_rest new false (phase_of new _ is) moves

frame_reads : (o : Option Status) (first new : DeviceState) (pass given : ℕ) (result : Result ℕ Status) (buf heard : List ℕ) → read_status_at first.setup.told given ≡ o → steady_of first ≡ true → IsHeard (Reading pass given) first.setup (page_of first) heard
    → FrameReads o (with_phase first (Reading pass given)) pass given result new buf → is_at_rest new.phase ≡ false → IsUnder first new (heard_after heard (Read result buf))
frame_reads None first new pass given result buf heard told steady at h moves = on_reads first new pass given result buf heard steady at h moves
frame_reads (Some status) first new pass given (Ok n) buf heard told steady at h moves = absurd (let clash : Ok n ≡ Err status = h.0 in cc)
frame_reads (Some status) first new pass given (Err other) buf heard told steady at h moves =
    let is = told_first first.setup.told given status (given == 0) refl told in
    told_ends first new pass given status heard (at.2 is.0) is.1 h.1 moves

-- a read between passes
idle_read : (first new : DeviceState) (phase : Phase) (result : Result ℕ Status) (buf heard : List ℕ) → IsHeard phase first.setup (page_of first) heard → (result ≡ Err Inval) × (new ≡ with_phase first phase) → IsUnder first new (heard_after heard (Read result buf))
idle_read first new phase (Ok n) buf heard at h = absurd (let clash : Ok n ≡ Err Inval = h.0 in cc)
idle_read first new phase (Err _) buf heard at h = comes_to first new phase heard h.1 at

-- ---- any call

step : (phase : Phase) (call : DeviceCall) (first new : DeviceState) (heard : List ℕ) → steady_of first ≡ true → IsHeard phase first.setup (page_of first) heard → Makes (with_phase first phase) call new → is_at_rest new.phase ≡ false → IsUnder first new (heard_after heard call)
step (AtRest c) call first new heard steady at h moves = absurd at
step (Between zero) call first new heard steady at h moves = absurd at
step (Between (suc pass)) (Start result) first new heard steady at h moves = on_starts first.pages first new result heard pass at.0 h moves
step (Between (suc pass)) (Read result buf) first new heard steady at h moves = idle_read first new (Between (suc pass)) result buf heard at h
step (Between (suc pass)) (Set n asked (Ok given)) first new heard steady at h moves = absurd (let clash : Err DeviceBusy ≡ Ok given = h.0 in cc)
step (Between (suc pass)) (Set n asked (Err _)) first new heard steady at h moves = comes_to first new (Between (suc pass)) heard h at
step (Between (suc pass)) (Load source true) first new heard steady at h moves = absurd (false≢true h.0)
step (Between (suc pass)) (Load source false) first new heard steady at h moves = comes_to first new (Between (suc pass)) heard h.1 at
step (Between (suc pass)) Cancel first new heard steady at h moves = at_rest new true (phase_of new _ h) moves
step (Between (suc pass)) Reset first new heard steady at h moves = at_rest new false (phase_of new _ h) moves
step (Reading pass given) (Start result) first new heard steady at h moves = busy_start first new result heard pass given at h
step (Reading pass given) (Read result buf) first new heard steady at h moves = frame_reads (read_status_at first.setup.told given) first new pass given result buf heard refl steady at h moves
step (Reading pass given) (Set n asked (Ok given_now)) first new heard steady at h moves = absurd (let clash : Err DeviceBusy ≡ Ok given_now = h.0 in cc)
step (Reading pass given) (Set n asked (Err _)) first new heard steady at h moves = comes_to first new (Reading pass given) heard h at
step (Reading pass given) (Load source true) first new heard steady at h moves = absurd (false≢true h.0)
step (Reading pass given) (Load source false) first new heard steady at h moves = comes_to first new (Reading pass given) heard h.1 at
step (Reading pass given) Cancel first new heard steady at h moves = at_rest new true (phase_of new _ h) moves
step (Reading pass given) Reset first new heard steady at h moves = at_rest new false (phase_of new _ h) moves

runs : (calls : List DeviceCall) (first now end : DeviceState) (heard : List ℕ) → steady_of first ≡ true → IsUnder first now heard → ScanGoesOn now calls end → IsUnder first end (heard_in heard calls)
runs [] first now end heard steady u h = subst (λ (d : DeviceState). IsUnder first d heard) (sym h) u
runs (call ∷ calls) first now end heard steady u h =
    let made : Makes (with_phase first now.phase) call h.0 = subst (λ (d : DeviceState). Makes d call h.0) u.now_is h.1 in
    runs calls first h.0 end (heard_after heard call) steady (step now.phase call first h.0 heard steady u.heard_is made h.2) h.3

-- ---- the first start, and what is shown

frame_of_start : (pages : List HeldPage) (first begun : DeviceState) → StartsOn pages first (Ok tt) begun → StartsFrame first (Ok tt) begun
frame_of_start [] first begun h = absurd (let clash : Ok tt ≡ Err NoDocs = h.0 in cc)
frame_of_start (held ∷ pages) first begun h = h

first_start : (phase : Phase) (first begun : DeviceState) → first.phase ≡ phase → is_at_rest phase ≡ true → StartsIn phase first (Ok tt) begun → (has_picture first.setup (page_of first) ≡ true) × IsUnder first begun []
first_start (AtRest c) first begun at rest h =
    let begins = frame_of_start first.pages first begun h in
    (begins.0, comes_to first begun (Reading 0 0) [] (begins.1 ∙ ap (λ (p : Phase). with_phase first (Reading (next p) 0)) at) (omega arith, refl, λ e. refl))
  where
    next : Phase → ℕ
    next (AtRest _) = 0
    next (Between ended) = ended
    next (Reading pass _) = pass
first_start (Between n) first begun at rest h = absurd (false≢true rest)
first_start (Reading p g) first begun at rest h = absurd (false≢true rest)

-- what is told and heard in a phase is of a frame of the scan
record IsOfFrame (first : DeviceState) (phase : Phase) (heard : List ℕ) : Type 0 where
  pass : ℕ
  few : pass ≤ last_pass first.setup
  is_started : last_started phase ≡ pass
  told : params_at first.setup (page_of first) (reported_pass phase) ≡ params_at first.setup (page_of first) pass
  is_heard : IsHeardIn phase first.setup.told heard (frame_of first.setup (page_of first) pass)

of_frame : (phase : Phase) (first : DeviceState) (heard : List ℕ) → IsHeard phase first.setup (page_of first) heard → IsOfFrame first phase heard
of_frame (AtRest c) first heard h = absurd h
of_frame (Between zero) first heard h = absurd h
of_frame (Between (suc pass)) first heard h =
    let back : suc pass - 1 ≡ pass = omega arith in
    record { pass = pass; few = let low = h.0 in omega arith; is_started = back; told = ap (λ (n : ℕ). params_at first.setup (page_of first) n) back; is_heard = h.1 }
of_frame (Reading pass given) first heard h = record { pass = pass; few = h.0; is_started = refl; told = refl; is_heard = (drop given (payload first.setup (page_of first) pass), h.1) }

-- ---- the end of a frame

last_rests : (s : Setup) (page : PageView) (pass : ℕ) (phase : Phase) → pass ≤ last_pass s → phase ≡ after_pass s pass → is_at_rest phase ≡ (params_at s page pass).last_frame
last_rests s page pass phase few is = ap is_at_rest is ∙ by_last (nat_lt pass (last_pass s)) refl
  where
    by_last : (b : Bool) → nat_lt pass (last_pass s) ≡ b → is_at_rest (if b then Between (pass + 1) else AtRest false) ≡ (last_pass s == pass)
    by_last true e = let less : pass < last_pass s = grind (arith, nat_tests) in let apart : (last_pass s == pass) ≡ false = grind (arith, nat_tests) in sym apart
    by_last false e = let all : last_pass s ≤ pass = grind (arith, nat_tests) in let same : (last_pass s == pass) ≡ true = grind (arith, nat_tests) in sym same

phase_gone : (s : DeviceState) (phase : Phase) → (goes_to s phase).phase ≡ phase
phase_gone s (AtRest c) = refl
phase_gone s (Between ended) = refl
phase_gone s (Reading pass given) = refl

-- how a read of the pass comes to its end
record EndsPass (first after : DeviceState) (pass : ℕ) (heard : List ℕ) : Type 0 where
  is_heard : (heard ≡ payload first.setup (page_of first) pass) ⊎ ((first.setup.told ≡ Some Eof) × (heard ≡ []))
  phase_is : after.phase ≡ after_pass first.setup pass

ends_by : (o : Option Status) (first after : DeviceState) (pass given : ℕ) (buf heard : List ℕ) → read_status_at first.setup.told given ≡ o → IsHeard (Reading pass given) first.setup (page_of first) heard → FrameReads o (with_phase first (Reading pass given)) pass given (Err Eof) after buf → EndsPass first after pass heard
ends_by None first after pass given buf heard told at h =
    let all = payload first.setup (page_of first) pass in
    let nothing : drop given all ≡ [] = drop_of_length-le all (let size = length-payload first.setup (page_of first) pass in let end = h.0 in omega (arith, size, end)) in
    record { is_heard = inl (sym (append-nil heard) ∙ ap (λ (xs : List ℕ). heard ++ xs) (sym nothing) ∙ at.1); phase_is = phase_of after _ h.1 ∙ phase_gone (with_phase first (Reading pass given)) (after_pass first.setup pass) }
ends_by (Some status) first after pass given buf heard told at h =
    let same : status ≡ Eof = (let e : Err Eof ≡ Err status = h.0 in cc) in
    let is = told_first first.setup.told given status (given == 0) refl told in
    record { is_heard = inr (is.1 ∙ ap (λ st. Some st) same, at.2 is.0); phase_is = phase_of after _ h.1 ∙ phase_gone (with_phase first (Reading pass given)) (after_read_status first.setup pass status) ∙ ap (λ (st : Status). after_read_status first.setup pass st) same }

ends_in : (phase : Phase) (first after : DeviceState) (buf heard : List ℕ) → IsHeard phase first.setup (page_of first) heard → ReadsIn phase (with_phase first phase) (Err Eof) after buf → FrameIsHeard (frames_of first.setup (page_of first)) (with_phase first phase) after heard
ends_in (AtRest c) first after buf heard at h = absurd at
ends_in (Between n) first after buf heard at h = absurd (let clash : Err Eof ≡ Err Inval = h.0 in cc)
ends_in (Reading pass given) first after buf heard at h =
    let e = ends_by (read_status_at first.setup.told given) first after pass given buf heard refl at h in
    record {
      frame = frame_of first.setup (page_of first) pass;
      in_place = each first.setup (page_of first) pass at.0;
      is_heard = e.is_heard;
      rests = last_rests first.setup (page_of first) pass after.phase at.0 e.phase_is;
    }

-- ---- the scan

-- a page whose source is steady is there
steady_told : (pages : List HeldPage) (s : Setup) (pass : ℕ) → (first_page pages).steady ≡ true → params_in pages s pass ≡ params_at s (first_page pages).page pass
steady_told [] s pass steady = absurd (false≢true steady)
steady_told (held ∷ pages) s pass steady = refl

steady_sheet : (pages : List HeldPage) → All IsHeldPage pages → (first_page pages).steady ≡ true → IsPageView (first_page pages).page
steady_sheet [] all steady = absurd (false≢true steady)
steady_sheet (held ∷ pages) all steady = (All-head IsHeldPage held pages all).view steady

is_of_scan : (first now : DeviceState) (heard : List ℕ) → steady_of first ≡ true → IsUnder first now heard → IsOfScan (frames_of first.setup (page_of first)) now heard
is_of_scan first now heard steady u =
    let f = of_frame now.phase first heard u.heard_is in
    let setup : now.setup ≡ first.setup = ap (λ (d : DeviceState). d.setup) u.now_is in
    record {
      frame = frame_of first.setup (page_of first) f.pass;
      in_place = ap (λ (n : ℕ). slice_get (frames_of first.setup (page_of first)) n) f.is_started ∙ each first.setup (page_of first) f.pass f.few;
      told = ap (λ (d : DeviceState). params_of d) u.now_is ∙ steady_told first.pages first.setup (reported_pass now.phase) steady ∙ f.told;
      order = ap (λ (s : Setup). s.order) setup;
      is_heard = subst (λ o. IsHeardIn now.phase o heard (frame_of first.setup (page_of first) f.pass)) (sym (ap (λ (s : Setup). s.told) setup)) f.is_heard;
    }

ends_frame : (first now after : DeviceState) (buf heard : List ℕ) → IsUnder first now heard → Reads now (Err Eof) after buf → FrameIsHeard (frames_of first.setup (page_of first)) now after heard
ends_frame first now after buf heard u end =
    let here : Reads (with_phase first now.phase) (Err Eof) after buf = subst (λ (d : DeviceState). Reads d (Err Eof) after buf) u.now_is end in
    subst (λ (d : DeviceState). FrameIsHeard (frames_of first.setup (page_of first)) d after heard) (sym u.now_is) (ends_in now.phase first after buf heard u.heard_is here)

-- a frame of the list is that of its pass
of_pass : (three : Bool) (f : ℕ → Frame) (pass : ℕ) (g : Frame) → slice_get (if three then f 0 ∷ f 1 ∷ f 2 ∷ [] else f 0 ∷ []) pass ≡ Some g → g ≡ f pass
of_pass true f zero g e = let same : Some (f 0) ≡ Some g = e in cc
of_pass true f (suc zero) g e = let same : Some (f 1) ≡ Some g = e in cc
of_pass true f (suc (suc zero)) g e = let same : Some (f 2) ≡ Some g = e in cc
of_pass true f (suc (suc (suc n))) g e = absurd (let clash : None ≡ Some g = e in cc)
of_pass false f zero g e = let same : Some (f 0) ≡ Some g = e in cc
of_pass false f (suc n) g e = absurd (let clash : None ≡ Some g = e in cc)

pub shows_one : (first begun : DeviceState) → HasLimits first → steady_of first ≡ true → is_at_rest first.phase ≡ true → Starts first (Ok tt) begun → ShowsOne first begun
shows_one first begun limits steady rest start =
    let began = first_start first.phase first begun refl rest start in
    let meant = means_and_shows first.setup (page_of first) limits.setup (steady_sheet first.pages limits.pages steady) began.0 in
    record {
      frames = frames_of first.setup (page_of first);
      picture = meant.0;
      means = meant.1;
      shows = meant.2;
      passes = λ pass f e. ap (λ (g : Frame). g.params.format) (of_pass (takes_colors first.setup.scene.kind first.setup.scene.mode) (frame_of first.setup (page_of first)) pass f e);
      zeros = λ pass. ends_in_zeros first.setup (page_of first) pass limits.setup.limits;
      so_far = λ now calls run. is_of_scan first now (heard_in [] calls) steady (runs calls first begun now [] steady began.1 run);
      ends = λ now after calls buf run end. ends_frame first now after buf (heard_in [] calls) (runs calls first begun now [] steady began.1 run) end;
    }
