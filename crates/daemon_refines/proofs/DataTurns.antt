-- A turn of the data connection.
use Rattle.std.proofs.Common.{inl, inr, ◌⊎◌, ◌≡◌, ◌≢◌, ◌∙◌, ◌<◌, ◌≤◌, ◌+◌, ◌++◌, ℕ, zero, suc, List, [], ◌∷◌, Bool, true, false, Option, Some, None, option_map, refl, sym, ap, subst, take, drop, length, arith, ◌-◌}
use Rattle.std.proofs.lemmas.List.{drop-drop, length-drop, length-take-le, take-append-drop}
use Rattle.std.specs.Prelude.{Result, Ok, Err, ◌==◌, if◌then◌else◌}
use Rattle.sane_fixed.specs.declared.status.Status.TheVariants.{Good, Eof}
use Rattle.sane_fixed.specs.declared.status.Status.{Status}
use Rattle.sane_fixed.specs.declared.status.Status.TheVariants as code
use Rattle.page_picture.specs.Shows.{Frame}
use Rattle.daemon_refines.specs.Failures.{HasBytesLeft}
use Rattle.scan_frames.specs.Frames.{frame_of, frames_of, pass_length, payload}
use Rattle.scan_frames.specs.declared.setup.Setup.{Setup}
use Rattle.device_api.specs.ScannerLimits.{IsAllowed}
use Rattle.device_api.specs.State.{DeviceState, FrameReads, GivesBytes, HasStopped, Phase as AnyPhase, Reads, ReadsIn, ReadsOn, after_pass, after_read_status, failures_of, feeds, goes_to, is_at_rest, left_behind, page_of, read_status_at, with_phase}
use Rattle.device_api.specs.State.Phase.{AtRest as Rest, Between as Amid, Reading as Read}
use Rattle.device_api.proofs.RunLaws.{length-payload}
use Rattle.device_api.proofs.SameLaws.{read_same}
use Rattle.scan_laws.specs.Passes as scan
use Rattle.scan_laws.proofs.Places.{read_ends, read_in}
use Rattle.system_model.specs.Devices.{Make, read_status_of}
use Rattle.system_model.specs.AbstractDevices.{ScanPhase, Resting, Reading, phase_after_frame, ended_phase, read_on, without_prefix}
use Rattle.system_model.specs.Daemon.{Streaming}
use Rattle.system_model.specs.SystemStates.{JobState}
use Rattle.system_model.specs.Transitions.{ReadsFrameOf}
use Rattle.system_model.specs.Actions.{Turns, TurnsFault, TurnsLast, TurnsNamed, TurnsShort}
use Rattle.daemon_refines.specs.ContextRefinement.{IsMade, pages_to_come, phase_at, abstract_device, abstract_device_as, page_views, tray_of}
use Rattle.daemon_refines.specs.DataRefinement.{TurnServed, TurnsAgree}
use Rattle.daemon_refines.proofs.Sources.{failing_is_fallible, first_source, read_sources}
use Rattle.daemon_refines.proofs.Scanning.{reads_at}
use Rattle.daemon_refines.proofs.ScannerStarts.{failed_is, failed_setup, is_fault, setup_of}

-- ---- what a read leaves as it was

goes_setup : (phase : AnyPhase) (s : DeviceState) → (goes_to s phase).setup ≡ s.setup
goes_setup (Rest c) s = refl
goes_setup (Amid ended) s = refl
goes_setup (Read pass given) s = refl

on_setup : (s t : DeviceState) (pass given : ℕ) (r : Result ℕ Status) (buf : List ℕ) → ReadsOn s pass given r t buf → t.setup ≡ s.setup
on_setup s t pass given (Ok n) buf h = setup_of s t _ h.after refl
on_setup s t pass given (Err code.Eof) buf h = setup_of s t _ h.1 (goes_setup (after_pass s.setup pass) s)
on_setup s t pass given (Err code.IoError) buf h = failed_setup s t h.1
on_setup s t pass given (Err code.Good) buf h = absurd h
on_setup s t pass given (Err code.Unsupported) buf h = absurd h
on_setup s t pass given (Err code.Cancelled) buf h = absurd h
on_setup s t pass given (Err code.DeviceBusy) buf h = absurd h
on_setup s t pass given (Err code.Inval) buf h = absurd h
on_setup s t pass given (Err code.Jammed) buf h = absurd h
on_setup s t pass given (Err code.NoDocs) buf h = absurd h
on_setup s t pass given (Err code.CoverOpen) buf h = absurd h
on_setup s t pass given (Err code.NoMem) buf h = absurd h
on_setup s t pass given (Err code.AccessDenied) buf h = absurd h

frame_setup : (told : Option Status) (s t : DeviceState) (pass given : ℕ) (r : Result ℕ Status) (buf : List ℕ) → FrameReads told s pass given r t buf → t.setup ≡ s.setup
frame_setup None s t pass given r buf h = on_setup s t pass given r buf h
frame_setup (Some status) s t pass given r buf h = setup_of s t _ h.1 (goes_setup (after_read_status s.setup pass status) s)

in_setup : (phase : AnyPhase) (s t : DeviceState) (r : Result ℕ Status) (buf : List ℕ) → ReadsIn phase s r t buf → t.setup ≡ s.setup
in_setup (Rest c) s t r buf h = setup_of s t s h.1 refl
in_setup (Amid ended) s t r buf h = setup_of s t s h.1 refl
in_setup (Read pass given) s t r buf h = frame_setup (read_status_at s.setup.told given) s t pass given r buf h

pub made_read : (k : Make) (s t : DeviceState) (r : Result ℕ Status) (buf : List ℕ) → IsMade k s → Reads s r t buf → IsMade k t
made_read k s t r buf made h =
    let same = read_same s t r buf h in
    record {
      sources = read_sources s t r buf h k made.sources;
      kind = made.kind ∙ sym same.setup.kind;
      order = made.order ∙ sym same.setup.order;
      allowed = subst (λ (o : Setup). IsAllowed o) (sym (in_setup s.phase s t r buf h)) made.allowed;
      in_scan = read_in s t r buf made.in_scan h;
    }

-- ---- where the device is

reading_place : (s : DeviceState) (pass given : ℕ) → s.phase ≡ Read pass given → scan.IsPhaseOf (Read pass given) s.setup (page_of s) →
    scan.place_of s ≡ scan.Giving (frame_of s.setup (page_of s) pass) (drop given (frame_of s.setup (page_of s) pass).payload) (drop (pass + 1) (frames_of s.setup (page_of s)))
reading_place s pass given at is = ap (λ (p : AnyPhase). scan.scan_place_in p (frames_of s.setup (page_of s))) at ∙ reads_at s.setup (page_of s) pass given is.1

goes_seen : (phase : AnyPhase) (holder : Option ℕ) (s : DeviceState) → abstract_device_as holder s.setup (page_views (left_behind (feeds s) s.pages)) (phase_at (scan.place_of (goes_to s phase))) ≡ abstract_device holder (goes_to s phase)
goes_seen (Rest c) holder s = refl
goes_seen (Amid ended) holder s = refl
goes_seen (Read pass given) holder s = refl

-- a device that was read, with the phase behind it
goes_is : (holder : Option ℕ) (s after : DeviceState) (pass given : ℕ) (phase : AnyPhase) (q : ScanPhase) → s.phase ≡ Read pass given → after ≡ goes_to s phase → phase_at (scan.place_of after) ≡ q → abstract_device_as holder s.setup (tray_of s) q ≡ abstract_device holder after
goes_is holder s after pass given phase q at is e =
    ap (λ (p : AnyPhase). abstract_device_as holder s.setup (page_views (pages_to_come p s)) q) at
    ∙ ap (λ (x : ScanPhase). abstract_device_as holder s.setup (page_views (left_behind (feeds s) s.pages)) x) (sym e ∙ ap (λ (d : DeviceState). phase_at (scan.place_of d)) is)
    ∙ goes_seen phase holder s ∙ sym (ap (λ (d : DeviceState). abstract_device holder d) is)

waits_phase : (last : Frame) (more : List Frame) → phase_at (scan.place_waiting last more) ≡ phase_after_frame last more
waits_phase last [] = refl
waits_phase last (f ∷ more) = refl

-- ---- what the options name

told_none : (k : Make) (s : Setup) → s.told ≡ None → read_status_of k s ≡ None
unfolding read_status_of
told_none k s e = e

told_some : (k : Make) (s : Setup) (status : Status) → s.told ≡ Some status → read_status_of k s ≡ Some status
unfolding read_status_of
told_some k s status e = e

-- a status that is named comes at the first read
none_told : (b : Bool) → ◌≡◌ {A = Option Status} (if b then None else None) None
none_told true = refl
none_told false = refl

at_first : (told : Option Status) (given : ℕ) → (told ≢ None → given ≡ 0) → read_status_at told given ≡ told
at_first None given first = none_told (given == 0)
at_first (Some status) given first = ap (λ (n : ℕ). read_status_at (Some status) n) (first (λ e. let clash : Some status ≡ None = e in cc))

-- ---- bytes

some_taken : (n : ℕ) (window : List ℕ) → 0 < n → n ≤ length window → take n window ≢ []
some_taken zero window h n e = absurd (omega arith)
some_taken (suc n) [] h m e = absurd (omega arith)
some_taken (suc n) (x ∷ window) h m e = let clash : x ∷ take n window ≡ [] = e in absurd (cc)

without_front : (bytes meant left : List ℕ) → length bytes ≡ length meant → without_prefix bytes (meant ++ left) ≡ left
without_front [] [] left e = refl
without_front [] (m ∷ meant) left e = absurd (omega arith)
without_front (b ∷ bytes) [] left e = absurd (omega arith)
without_front (b ∷ bytes) (m ∷ meant) left e = without_front bytes meant left (omega arith)

-- ---- a device that is read by client i, in a pass of this frame

record IsRead (k : Make) (p : JobState) (s : DeviceState) (pass given : ℕ) (f : Frame) (rest : List ℕ) (more : List Frame) : Type 0 where
  made : IsMade k s
  at : s.phase ≡ Read pass given
  streams : p.session.transfer ≡ Streaming
  place : scan.place_of s ≡ scan.Giving f rest more
  -- so much of the pass is still to be given, and where the device is once more of it is
  left : rest ≡ drop given (payload s.setup (page_of s) pass)
  behind : (m : ℕ) → scan.place_of (with_phase s (Read pass m)) ≡ scan.Giving f (drop m (payload s.setup (page_of s) pass)) more

abbrev Ended : DeviceState → DeviceState → Frame → List ℕ → List Frame → Type 0
Ended s after f rest more = scan.EndsWhole (scan.Giving f rest more) (scan.place_of after) ⊎ ((s.setup.told ≡ Some code.Eof) × scan.EndsEmpty (scan.Giving f rest more) (scan.place_of after))

streaming : (i : ℕ) (k : Make) (p : JobState) (s : DeviceState) (pass given : ℕ) (f : Frame) (rest : List ℕ) (more : List Frame) → IsRead k p s pass given f rest more → ReadsFrameOf i p (abstract_device (Some i) s) f rest more
streaming i k p s pass given f rest more is = (is.streams, refl, ap phase_at is.place)

gives_turn : (i : ℕ) (k : Make) (listed : List ℕ) (p : JobState) (s after : DeviceState) (pass given n : ℕ) (window : List ℕ) (f : Frame) (rest : List ℕ) (more : List Frame) → IsRead k p s pass given f rest more → s.setup.told ≡ None →
    GivesBytes s pass given n after window → IsMade k after → TurnServed i k listed p s (Ok n) after window
gives_turn i k listed p s after pass given n window f rest more is told g made =
    let all = payload s.setup (page_of s) pass in
    let bytes = take n window in
    let meant = take n rest in
    let left = drop n rest in
    let whole : length all ≡ pass_length s.setup (page_of s) pass = length-payload s.setup (page_of s) pass in
    let long : length rest ≡ pass_length s.setup (page_of s) pass - given = ap length is.left ∙ (length-drop given all ∙ ap (λ (m : ℕ). m - given) whole) in
    let many : length bytes ≡ length meant =
    length-take-le n window g.room ∙ sym (length-take-le n rest (let inside = g.left in omega (arith, long, inside))) in
    let some = some_taken n window g.some g.room in
    let here : scan.place_of s ≡ scan.Giving f (meant ++ left) more = is.place ∙ ap (λ (r : List ℕ). scan.Giving f r more) (sym (take-append-drop n rest)) in
    let rest_is : drop (given + n) all ≡ left = sym (drop-drop n given all) ∙ ap (drop n) (sym is.left) in
    let there : scan.place_of after ≡ scan.Giving f left more = ap scan.place_of g.after ∙ (is.behind (given + n) ∙ ap (λ (r : List ℕ). scan.Giving f r more) rest_is) in
    record {
      action = Turns bytes;
      is = refl;
      may = (
        f,
        left,
        more,
        record {
          meant = meant;
          as_many = many;
          same = λ steady. g.bytes ((first_source k s.pages (is.made.in_scan.page (ap is_at_rest is.at)) is.made.sources).steady steady) ∙ ap (take n) (sym is.left);
          reads = (is.streams, refl, ap phase_at here);
        },
        told_none k s.setup told,
        some,
      );
      device = ap (λ (q : scan.ScanPlace). abstract_device_as (Some i) s.setup (tray_of s) (read_on (phase_at q) bytes)) here ∙ ap (λ (r : List ℕ). abstract_device_as (Some i) s.setup (tray_of s) (Reading f r more)) (without_front bytes meant left many)
          ∙ goes_is (Some i) s after pass given (Read pass (given + n)) (Reading f left more) is.at g.after (ap phase_at there);
      made = made;
      counted = tt;
    }

failed_turn : (i : ℕ) (k : Make) (listed : List ℕ) (p : JobState) (s after : DeviceState) (window : List ℕ) (pass given : ℕ) (f : Frame) (rest : List ℕ) (more : List Frame) → IsRead k p s pass given f rest more → given < pass_length s.setup (page_of s) pass → s.setup.told ≡ None → HasStopped s after → IsMade k after → TurnServed i k listed p s (Err code.IoError) after window
failed_turn i k listed p s after window pass given f rest more is some told h made =
    record {
      action = TurnsFault (record { before = failures_of s; after = h.failures });
      is = refl;
      may = (f, rest, more, streaming i k p s pass given f rest more is, (failing_is_fallible k s is.made (is.made.in_scan.page (ap is_at_rest is.at)) h.can_fail, is_fault (failures_of s) h.failures h.counted));
      device = failed_is (Some i) s after h;
      made = made;
      counted = record { stopped = h; left = subst (HasBytesLeft s) (sym is.at) (some, told); before = refl; after = refl };
    }

-- an end, with the phase behind it
ended_device : (i : ℕ) (k : Make) (p : JobState) (s after : DeviceState) (pass given : ℕ) (f : Frame) (rest : List ℕ) (more : List Frame) (phase : AnyPhase) → IsRead k p s pass given f rest more → after ≡ goes_to s phase → scan.place_of after ≡ scan.place_waiting f more →
    record (abstract_device (Some i) s) { phase = ended_phase (abstract_device (Some i) s).phase } ≡ abstract_device (Some i) after
ended_device i k p s after pass given f rest more phase is now e =
    ap (λ (q : scan.ScanPlace). abstract_device_as (Some i) s.setup (tray_of s) (ended_phase (phase_at q))) is.place ∙ goes_is (Some i) s after pass given phase (phase_after_frame f more) is.at now (ap phase_at e ∙ waits_phase f more)

last_turn : (i : ℕ) (k : Make) (listed : List ℕ) (p : JobState) (s after : DeviceState) (window : List ℕ) (pass given : ℕ) (f : Frame) (rest : List ℕ) (more : List Frame) (phase : AnyPhase) → IsRead k p s pass given f rest more → s.setup.told ≡ None → after ≡ goes_to s phase → IsMade k after →
    Ended s after f rest more → TurnServed i k listed p s (Err code.Eof) after window
last_turn i k listed p s after window pass given f rest more phase is told now made (inl h) =
    record {
      action = TurnsLast;
      is = refl;
      may = (f, more, (is.streams, refl, ap phase_at (is.place ∙ ap (λ (r : List ℕ). scan.Giving f r more) h.0)), told_none k s.setup told);
      device = ended_device i k p s after pass given f rest more phase is now h.1;
      made = made;
      counted = tt;
    }
last_turn i k listed p s after window pass given f rest more phase is told now made (inr h) = let clash : None ≡ Some code.Eof = sym told ∙ h.0 in absurd (cc)

behind_end : (s after : DeviceState) (f : Frame) (rest : List ℕ) (more : List Frame) → Ended s after f rest more → scan.place_of after ≡ scan.place_waiting f more
behind_end s after f rest more (inl e) = e.1
behind_end s after f rest more (inr e) = e.1.1

short_turn : (i : ℕ) (k : Make) (listed : List ℕ) (p : JobState) (s after : DeviceState) (window : List ℕ) (pass given : ℕ) (f : Frame) (rest : List ℕ) (more : List Frame) (phase : AnyPhase) → IsRead k p s pass given f rest more → s.setup.told ≡ Some code.Eof → after ≡ goes_to s phase → IsMade k after →
    Ended s after f rest more → TurnServed i k listed p s (Err code.Eof) after window
short_turn i k listed p s after window pass given f rest more phase is told now made h =
    record {
      action = TurnsShort;
      is = refl;
      may = (f, rest, more, streaming i k p s pass given f rest more is, told_some k s.setup code.Eof told);
      device = ended_device i k p s after pass given f rest more phase is now (behind_end s after f rest more h);
      made = made;
      counted = tt;
    }

named_turn : (i : ℕ) (k : Make) (listed : List ℕ) (p : JobState) (s after : DeviceState) (window : List ℕ) (pass given : ℕ) (status : Status) (f : Frame) (rest : List ℕ) (more : List Frame) → IsRead k p s pass given f rest more → s.setup.told ≡ Some status → after ≡ goes_to s (Rest false) → IsMade k after →
    status ≢ Eof → status ≢ Good → TurnServed i k listed p s (Err status) after window
named_turn i k listed p s after window pass given status f rest more is told now made n m =
    record {
      action = TurnsNamed status;
      is = refl;
      may = (f, rest, more, streaming i k p s pass given f rest more is, told_some k s.setup status told, n, m);
      device = goes_is (Some i) s after pass given (Rest false) Resting is.at now (ap (λ (d : DeviceState). phase_at (scan.place_of d)) now);
      made = made;
      counted = tt;
    }

-- ---- by what was answered

ended_by : (k : Make) (p : JobState) (s after : DeviceState) (window : List ℕ) (pass given : ℕ) (f : Frame) (rest : List ℕ) (more : List Frame) → IsRead k p s pass given f rest more → Reads s (Err code.Eof) after window → Ended s after f rest more
ended_by k p s after window pass given f rest more is r =
    subst (λ (q : scan.ScanPlace). scan.EndsWhole q (scan.place_of after) ⊎ ((s.setup.told ≡ Some code.Eof) × scan.EndsEmpty q (scan.place_of after))) is.place (read_ends s after window is.made.in_scan r)

turn_on : (i : ℕ) (k : Make) (listed : List ℕ) (p : JobState) (s after : DeviceState) (pass given : ℕ) (answer : Result ℕ Status) (window : List ℕ) (f : Frame) (rest : List ℕ) (more : List Frame) → IsRead k p s pass given f rest more → s.setup.told ≡ None →
    Reads s answer after window → ReadsOn s pass given answer after window → TurnServed i k listed p s answer after window
turn_on i k listed p s after pass given (Ok n) window f rest more is told r h =
    gives_turn i k listed p s after pass given n window f rest more is told h (made_read k s after (Ok n) window is.made r)
turn_on i k listed p s after pass given (Err code.Eof) window f rest more is told r h =
    last_turn i k listed p s after window pass given f rest more (after_pass s.setup pass) is told h.1 (made_read k s after (Err code.Eof) window is.made r) (ended_by k p s after window pass given f rest more is r)
turn_on i k listed p s after pass given (Err code.IoError) window f rest more is told r h = failed_turn i k listed p s after window pass given f rest more is h.0 told h.1 (made_read k s after (Err code.IoError) window is.made r)
turn_on i k listed p s after pass given (Err code.Good) window f rest more is told r h = absurd h
turn_on i k listed p s after pass given (Err code.Unsupported) window f rest more is told r h = absurd h
turn_on i k listed p s after pass given (Err code.Cancelled) window f rest more is told r h = absurd h
turn_on i k listed p s after pass given (Err code.DeviceBusy) window f rest more is told r h = absurd h
turn_on i k listed p s after pass given (Err code.Inval) window f rest more is told r h = absurd h
turn_on i k listed p s after pass given (Err code.Jammed) window f rest more is told r h = absurd h
turn_on i k listed p s after pass given (Err code.NoDocs) window f rest more is told r h = absurd h
turn_on i k listed p s after pass given (Err code.CoverOpen) window f rest more is told r h = absurd h
turn_on i k listed p s after pass given (Err code.NoMem) window f rest more is told r h = absurd h
turn_on i k listed p s after pass given (Err code.AccessDenied) window f rest more is told r h = absurd h

turn_told : (i : ℕ) (k : Make) (listed : List ℕ) (p : JobState) (s after : DeviceState) (pass given : ℕ) (status : Status) (window : List ℕ) (f : Frame) (rest : List ℕ) (more : List Frame) → IsRead k p s pass given f rest more → s.setup.told ≡ Some status →
    Reads s (Err status) after window → after ≡ goes_to s (after_read_status s.setup pass status) → TurnServed i k listed p s (Err status) after window
turn_told i k listed p s after pass given code.Eof window f rest more is told r now =
    short_turn i k listed p s after window pass given f rest more (after_pass s.setup pass) is told now (made_read k s after (Err code.Eof) window is.made r) (ended_by k p s after window pass given f rest more is r)
turn_told i k listed p s after pass given code.Good window f rest more is told r now = absurd (is.made.allowed.told told)
turn_told i k listed p s after pass given code.Unsupported window f rest more is told r now = named_turn i k listed p s after window pass given code.Unsupported f rest more is told now (made_read k s after (Err code.Unsupported) window is.made r) (λ e. cc) (λ e. cc)
turn_told i k listed p s after pass given code.Cancelled window f rest more is told r now = named_turn i k listed p s after window pass given code.Cancelled f rest more is told now (made_read k s after (Err code.Cancelled) window is.made r) (λ e. cc) (λ e. cc)
turn_told i k listed p s after pass given code.DeviceBusy window f rest more is told r now = named_turn i k listed p s after window pass given code.DeviceBusy f rest more is told now (made_read k s after (Err code.DeviceBusy) window is.made r) (λ e. cc) (λ e. cc)
turn_told i k listed p s after pass given code.Inval window f rest more is told r now = named_turn i k listed p s after window pass given code.Inval f rest more is told now (made_read k s after (Err code.Inval) window is.made r) (λ e. cc) (λ e. cc)
turn_told i k listed p s after pass given code.Jammed window f rest more is told r now = named_turn i k listed p s after window pass given code.Jammed f rest more is told now (made_read k s after (Err code.Jammed) window is.made r) (λ e. cc) (λ e. cc)
turn_told i k listed p s after pass given code.NoDocs window f rest more is told r now = named_turn i k listed p s after window pass given code.NoDocs f rest more is told now (made_read k s after (Err code.NoDocs) window is.made r) (λ e. cc) (λ e. cc)
turn_told i k listed p s after pass given code.CoverOpen window f rest more is told r now = named_turn i k listed p s after window pass given code.CoverOpen f rest more is told now (made_read k s after (Err code.CoverOpen) window is.made r) (λ e. cc) (λ e. cc)
turn_told i k listed p s after pass given code.IoError window f rest more is told r now = named_turn i k listed p s after window pass given code.IoError f rest more is told now (made_read k s after (Err code.IoError) window is.made r) (λ e. cc) (λ e. cc)
turn_told i k listed p s after pass given code.NoMem window f rest more is told r now = named_turn i k listed p s after window pass given code.NoMem f rest more is told now (made_read k s after (Err code.NoMem) window is.made r) (λ e. cc) (λ e. cc)
turn_told i k listed p s after pass given code.AccessDenied window f rest more is told r now = named_turn i k listed p s after window pass given code.AccessDenied f rest more is told now (made_read k s after (Err code.AccessDenied) window is.made r) (λ e. cc) (λ e. cc)

by_told : (i : ℕ) (k : Make) (listed : List ℕ) (p : JobState) (s after : DeviceState) (pass given : ℕ) (answer : Result ℕ Status) (window : List ℕ) (f : Frame) (rest : List ℕ) (more : List Frame) (told : Option Status) → IsRead k p s pass given f rest more → s.setup.told ≡ told →
    Reads s answer after window → FrameReads told s pass given answer after window → TurnServed i k listed p s answer after window
by_told i k listed p s after pass given answer window f rest more None is told r h = turn_on i k listed p s after pass given answer window f rest more is told r h
by_told i k listed p s after pass given answer window f rest more (Some status) is told r h =
    subst (λ (a : Result ℕ Status). TurnServed i k listed p s a after window) (sym h.0)
    (turn_told i k listed p s after pass given status window f rest more is told (subst (λ (a : Result ℕ Status). Reads s a after window) h.0 r) h.1)

pub turns_agree : TurnsAgree
turns_agree i k listed p s after pass given answer window made at c r =
    let is : scan.IsPhaseOf (Read pass given) s.setup (page_of s) = subst (λ (q : AnyPhase). scan.IsPhaseOf q s.setup (page_of s)) at made.in_scan.phase in
    let read : FrameReads (read_status_at s.setup.told given) s pass given answer after window = subst (λ (q : AnyPhase). ReadsIn q s answer after window) at r in
    by_told i k listed p s after pass given answer window _ _ _ s.setup.told (record {
      made = made;
      at = at;
      streams = c;
      place = reading_place s pass given at is;
      left = refl;
      behind = λ m. reads_at s.setup (page_of s) pass m is.1;
    }) refl r
    (subst (λ (t : Option Status). FrameReads t s pass given answer after window) (at_first s.setup.told given is.3) read)
