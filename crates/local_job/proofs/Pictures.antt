-- A scan whose passes were joined: what is told of it after one more pass.
use Rattle.std.proofs.Common.{◌≡◌, ℕ, ◌+◌, ◌*◌, ◌/◌, ◌<◌, ◌≤◌, ◌^◌, List, [], ◌∷◌, ◌++◌, Option, Some, None, Bool, true, false, length, take, refl, sym, ap, ◌∙◌, subst, arith, ◌⊎◌, inl, inr, length-append}
use Rattle.std.specs.Prelude.{if◌then◌else◌, nat_lt, slice_index, get_or, OnOk, OnErr, IfOk, IfErr}
use Rattle.std.proofs.Math.Seq.{take-length}
use Rattle.std.proofs.lemmas.Bool.{eqb-true, ltb-false, ltb-true}
use Rattle.std.proofs.Math.Nat.{div-le_of_le-mul}
use Rattle.netpbm.specs.Picture.{Picture}
use Rattle.frame_join.proofs.GivenKept.{NoneBefore}
use Rattle.std.proofs.Common.{Result, Ok, Err}
use Rattle.page_picture.specs.Page.{PageView, IsPageView}
use Rattle.page_picture.specs.Meaning.{meaning_of, picture_of}
use Rattle.page_picture.specs.Shows.{Frame, ShowsFrames}
use Rattle.scan_frames.specs.Frames.{IsSetup, has_picture, frames_of, payload, pass_length, params_at, lines_in_params, if_picture, bytes_per_line, last_pass, width_of, height_of}
use Rattle.scan_frames.specs.declared.setup.Setup.{Setup}
use Rattle.device_api.specs.ScannerLimits.{HasLimits}
use Rattle.device_api.specs.State.{DeviceState, Phase, AtRest, Between, Reading, is_reading, with_phase, after_pass, params_of, params_in, reported_pass, goes_to, next_pass, HeldPage, Starts, StartsIn, StartsOn, StartsFrame, page_of, steady_of}
use Rattle.device_api.proofs.KindLaws.{lines_or_none}
use Rattle.device_api.proofs.RunLaws.{length-payload}
use Rattle.frame_join.specs.FrameHistory.{JoinHistory, IsJoined, after_pull, is_accepted, is_full, is_full_at, is_joined}
use Rattle.frame_join.specs.JoinStates.{JoinState, Represents}
use Rattle.page_picture.specs.Page.{IsShaped}
use Rattle.sane_fixed.specs.declared.status.Status.{Status}
use Rattle.sane_fixed.specs.declared.status.Status.TheVariants.{Good, Unsupported, Cancelled as CancelledStatus, DeviceBusy, Inval, Eof, Jammed, NoDocs, CoverOpen, IoError, NoMem, AccessDenied}
use Rattle.scan_job.specs.declared.outcome.Why.{Why}
use Rattle.scan_job.specs.declared.outcome.Why.TheVariants.{Answer, Cancelled, Lost, Malformed, Short, Long, Setting, Plain, Memory, Sink}
use Rattle.device_api.specs.ScannerLimits.{IsAllowed}
use Rattle.frame_join.specs.AloneFrame.{most_bytes}
use Rattle.scan_laws.specs.Joins.{TakesAll}
use Rattle.scan_job.specs.declared.stop.Stop.{Stop}
use Rattle.local_job.specs.ScanCauses.{IsCause, ScanHasCause}
use Rattle.local_job.specs.LocalStops.{stop_by_status}
use Rattle.scan_job.specs.Stops.{no_memory, failed_output}
use Rattle.local_job.specs.Inside.{JoinIsDrainedTo, bytes_of_pass, frames_came, AreOfPasses, IsAllOrNone, IsReadTo, FrameEndsAs, JoinsFrame, JoinIsBetween, HasJoined, HasScannedPass}
use Rattle.scan_job.specs.FileOutputs.{StopsShort}
use Rattle.std.specs.Prelude.{◌≢◌}
use Rattle.sane_fixed.specs.declared.params.Params.{Params}
use Rattle.local_job.proofs.Lets.{cause_before, failed, of_failure, of_nothing, of_stop, some_shaped, some_told, steady_sheet}
use Rattle.local_job.specs.FrameReading.{KeepsDevice, IsScanned}
use Rattle.local_job.proofs.FrameReads.{so_far}
use Rattle.std.proofs.Common.{suc}
use Rattle.local_job.proofs.JoinedPasses.{begun, not_joined, more_come, was_last, accepted_next, taken_at, full_with, all_frames, frames_more, right_more}

meaning_is : (s : Setup) (page : PageView) → has_picture s page ≡ true → meaning_of page s.scene ≡ Some (picture_of page s.scene (width_of s, height_of s page))
meaning_is s page there = rw there refl

-- ---- a pass that is full has all its bytes

by_told : {P : Type 0} (told : Option ℕ) (height line size all : ℕ) → (told ≡ Some height) ⊎ (told ≡ None) → all ≡ height * line → is_full_at told line size ≡ true → (size ≡ all) ⊎ ((size ≡ 0) × P) → size ≡ all
by_told told height line size all (inl known) e full either = eqb-true size (height * line) (sym (ap (λ (t : Option ℕ). is_full_at t line size) known) ∙ full) ∙ sym e
by_told told height line size all (inr untold) e full (inl is) = is
by_told told height line size all (inr untold) e full (inr none) =
    let nothing : size / line ≡ 0 = ap (λ (n : ℕ). n / line) none.0 ∙ (let least : 0 / line ≤ 0 = div-le_of_le-mul line (omega arith) in omega (arith, least)) in
    absurd (let clash : false ≡ true = rw (untold, nothing) at full in cc)

full_size : (s : Setup) (page : PageView) (pass given : ℕ) (bytes : List ℕ) → has_picture s page ≡ true → is_full (bytes_of_pass s page pass bytes) ≡ true → length bytes ≡ given
    → (given ≡ pass_length s page pass) ⊎ ((given ≡ 0) × (s.told ≡ Some Eof)) → given ≡ pass_length s page pass
full_size s page pass given bytes there full count either =
    let params = params_at s page pass in
    let lines : params.lines ≡ lines_in_params s.scene.kind (height_of s page) = ap (λ (b : Bool). if b then lines_in_params s.scene.kind (height_of s page) else Some 0) there in
    let line : params.bytes_per_line ≡ bytes_per_line s pass = ap (λ (b : Bool). if_picture b (bytes_per_line s pass)) there in
    let told : is_full_at (lines_in_params s.scene.kind (height_of s page)) (bytes_per_line s pass) given ≡ true =
    ap (λ (n : ℕ). is_full_at (lines_in_params s.scene.kind (height_of s page)) (bytes_per_line s pass) n) (sym count)
    ∙ ap (λ (n : ℕ). is_full_at (lines_in_params s.scene.kind (height_of s page)) n (length bytes)) (sym line)
    ∙ ap (λ (l : Option ℕ). is_full_at l params.bytes_per_line (length bytes)) (sym lines) ∙ full in
    by_told (lines_in_params s.scene.kind (height_of s page)) (height_of s page) (bytes_per_line s pass) given (pass_length s page pass) (lines_or_none s.scene.kind (height_of s page)) refl told either

whole_bytes : (s : DeviceState) (pass given : ℕ) (bytes : List ℕ) → has_picture s.setup (page_of s) ≡ true → is_full (bytes_of_pass s.setup (page_of s) pass bytes) ≡ true → length bytes ≡ given
    → IsAllOrNone s pass given → ((steady_of s) ≡ true → bytes ≡ take given (payload s.setup (page_of s) pass)) → (steady_of s) ≡ true → bytes ≡ payload s.setup (page_of s) pass
whole_bytes s pass given bytes there full count either right steady =
    let all = payload s.setup (page_of s) pass in
    let size : given ≡ length all = full_size s.setup (page_of s) pass given bytes there full count either ∙ sym (length-payload s.setup (page_of s) pass) in
    right steady ∙ ap (λ (n : ℕ). take n all) size ∙ take-length all

-- ---- the passes so far, on the scanner before and after it started one

pub on_device : (old new : DeviceState) (phase : Phase) (pass : ℕ) (first contents : Option (List ℕ)) (join : JoinState) → new ≡ with_phase old phase → HasJoined old pass first join contents → HasJoined new pass first join contents
on_device old new phase pass first contents join is j =
    let here : HasJoined (with_phase old phase) pass first join contents =
    record { passes = j.passes; count = j.count; more = j.more; right = same old phase 0 j.passes j.right; given = j.given; stands = j.stands; taken = j.taken } in
    subst (λ (s : DeviceState). HasJoined s pass first join contents) (sym is) here
  where
    same : (s : DeviceState) (phase : Phase) (n : ℕ) (passes : List (List ℕ)) → AreOfPasses s n passes → AreOfPasses (with_phase s phase) n passes
    same s phase n [] are = are
    same s phase n (a ∷ more) are = (are.0, same s phase (suc n) more are.1)

-- back from the phase that a start gave
pub with_old : (old new : DeviceState) (phase : Phase) → new ≡ with_phase old phase → old ≡ with_phase new old.phase
with_old old new phase is = ap (λ (s : DeviceState). with_phase s old.phase) (sym is)

-- what was given so far is no whole file
pub stops : (s : DeviceState) (pass : ℕ) (first contents : Option (List ℕ)) (join : JoinState) → NoneBefore
    → HasJoined s pass first join contents → StopsShort first contents
stops s pass first contents join law j =
    let few : length j.passes ≤ last_pass s.setup = omega (arith, j.count, j.more) in
    record {
      text = j.given;
      taken = j.taken;
      none = law _ join j.stands (λ joined. let clash : Ok false ≡ Ok true = ap (λ (b : Bool). Ok b) (sym (not_joined s.setup (page_of s) j.passes few)) ∙ joined in absurd (cc));
    }

-- the history in which the frame of the pass has begun
abbrev pub underway : (s : DeviceState) (pass : ℕ) (passes : List (List ℕ)) (given : List ℕ) → JoinHistory
underway s pass passes given = record { ended = frames_came s.setup (page_of s) 0 passes; under = Some (bytes_of_pass s.setup (page_of s) pass []); fault = None; given = given }

-- ---- after one more pass

-- the history with the pass ended
abbrev more_ended : (s : DeviceState) (passes : List (List ℕ)) (bytes given : List ℕ) → JoinHistory
more_ended s passes bytes given = record { ended = frames_came s.setup (page_of s) 0 (passes ++ bytes ∷ []); under = None; fault = None; given = given }

abbrev Law : Type 0
Law = (setup : Setup) (page : PageView) → IsSetup setup → IsPageView page → ((i : ℕ) → slice_index setup.scene.gamma i < 2 ^ 8) → ((k i : ℕ) → slice_index (get_or setup.scene.channel_gamma k []) i < 2 ^ 8) → has_picture setup page ≡ true
    → ShowsFrames (frames_of setup page) (picture_of page setup.scene (width_of setup, height_of setup page))

-- the frames that came are a picture: its file is there
all_scanned : (s : DeviceState) (passes : List (List ℕ)) (bytes given : List ℕ) (first contents : Option (List ℕ)) (join : JoinState) → HasLimits s → has_picture s.setup (page_of s) ≡ true → Law
    → ((q : JoinHistory) (j : JoinState) → Represents q j → IsJoined q → (p : Picture) × ShowsFrames q.ended p)
    → length passes ≤ last_pass s.setup → AreOfPasses s 0 (passes ++ bytes ∷ []) → is_joined (frames_came s.setup (page_of s) 0 (passes ++ bytes ∷ [])) ≡ true
    → JoinIsDrainedTo (more_ended s passes bytes given) first join contents → IsScanned s first contents
all_scanned s passes bytes given first contents join limits there law shows few right joined d =
    let past : JoinHistory = more_ended s passes bytes given in
    let is : IsJoined past = ap (λ (b : Bool). Ok b) joined in
    let shown = shows (after_pull d.bytes past) join d.stands is in
    record {
      text = past.given ++ d.bytes;
      taken = d.taken;
      whole = (shown.0, (d.denotes is shown.0 shown.1).denotes);
      picture = λ steady.
          let p = picture_of (page_of s) s.setup.scene (width_of s.setup, height_of s.setup (page_of s)) in
          let of_scan : ShowsFrames (frames_of s.setup (page_of s)) p = law s.setup (page_of s) limits.setup.limits (steady_sheet s.pages limits.pages steady) limits.setup.gamma limits.setup.channel_gamma there in
          let of_frames : ShowsFrames past.ended p = subst (λ (fs : List Frame). ShowsFrames fs p) (sym (all_frames s passes bytes few joined right steady)) of_scan in
          rw (meaning_is s.setup (page_of s) there) (d.denotes is p of_frames);
    }

-- one more is to come
more_joined : (s : DeviceState) (pass : ℕ) (passes : List (List ℕ)) (bytes given : List ℕ) (first contents : Option (List ℕ)) (join : JoinState)
    → length passes ≡ pass → length passes ≤ last_pass s.setup → AreOfPasses s 0 (passes ++ bytes ∷ []) → is_joined (frames_came s.setup (page_of s) 0 (passes ++ bytes ∷ [])) ≡ false
    → JoinIsDrainedTo (more_ended s passes bytes given) first join contents → HasJoined s (pass + 1) first join contents
more_joined s pass passes bytes given first contents join count few right waits d =
    let more = more_come s.setup (page_of s) passes bytes few waits in
    record {
      passes = passes ++ bytes ∷ [];
      count = omega (arith, length-append passes (bytes ∷ []), count);
      more = omega (arith, more, count);
      right = right;
      given = given ++ d.bytes;
      stands = d.stands;
      taken = d.taken;
    }

-- the phase behind a pass that is not the last
goes_between : (s : DeviceState) (pass : ℕ) (b : Bool) → nat_lt pass (last_pass s.setup) ≡ b → pass < last_pass s.setup → after_pass s.setup pass ≡ Between (pass + 1)
goes_between s pass true e less = ap (λ (b : Bool). if b then Between (pass + 1) else AtRest false) e
goes_between s pass false e less = absurd (omega (arith, less, ltb-false pass (last_pass s.setup) e))

-- and behind the last one
goes_to_rest : (s : DeviceState) (pass : ℕ) (b : Bool) → nat_lt pass (last_pass s.setup) ≡ b → last_pass s.setup ≤ pass → after_pass s.setup pass ≡ AtRest false
goes_to_rest s pass false e last = ap (λ (b : Bool). if b then Between (pass + 1) else AtRest false) e
goes_to_rest s pass true e last = absurd (omega (arith, last, ltb-true pass (last_pass s.setup) e))

by_whole : (is_whole : Bool) (s new : DeviceState) (pass : ℕ) (passes : List (List ℕ)) (bytes given : List ℕ) (first contents : Option (List ℕ)) (join : JoinState) → HasLimits s → has_picture s.setup (page_of s) ≡ true → Law
    → ((q : JoinHistory) (j : JoinState) → Represents q j → IsJoined q → (p : Picture) × ShowsFrames q.ended p)
    → length passes ≡ pass → pass ≤ last_pass s.setup → AreOfPasses s 0 (passes ++ bytes ∷ []) → is_joined (frames_came s.setup (page_of s) 0 (passes ++ bytes ∷ [])) ≡ is_whole
    → new.phase ≡ after_pass s.setup pass → (d : JoinIsDrainedTo (more_ended s passes bytes given) first join contents) → HasScannedPass s pass is_whole first (record { device = new; join = join; contents = contents })
by_whole true s new pass passes bytes given first contents join limits there law shows count few right joined phase d =
    let last : last_pass s.setup ≤ length passes = was_last s.setup (page_of s) passes bytes (omega (arith, count, few)) joined in (
      phase ∙ goes_to_rest s pass (nat_lt pass (last_pass s.setup)) refl (omega (arith, count, last)),
      all_scanned s passes bytes given first contents join limits there law shows (omega (arith, count, few)) right joined d,
    )
by_whole false s new pass passes bytes given first contents join limits there law shows count few right joined phase d =
    let j = more_joined s pass passes bytes given first contents join count (omega (arith, count, few)) right joined d in
    (phase ∙ goes_between s pass (nat_lt pass (last_pass s.setup)) refl (omega (arith, j.more)), j)

-- what a pass that was read to its end and joined leaves
pub pass_scanned : (is_whole : Bool) (s new : DeviceState) (pass given : ℕ) (passes : List (List ℕ)) (out : List ℕ) (first before contents : Option (List ℕ)) (mid join : JoinState) → HasLimits s → has_picture s.setup (page_of s) ≡ true → Law
    → ((q : JoinHistory) (j : JoinState) → Represents q j → IsJoined q → (p : Picture) × ShowsFrames q.ended p)
    → length passes ≡ pass → pass ≤ last_pass s.setup → AreOfPasses s 0 passes → new.phase ≡ after_pass s.setup pass → IsAllOrNone s pass given
    → (r : IsReadTo s pass given (record { past = underway s pass passes out; frame = bytes_of_pass s.setup (page_of s) pass []; first = first }) (record { join = mid; contents = before }))
    → JoinsFrame (so_far (underway s pass passes out) (bytes_of_pass s.setup (page_of s) pass []) r.bytes r.feeds.given) (bytes_of_pass s.setup (page_of s) pass r.bytes) is_whole first (record { join = join; contents = contents })
    → HasScannedPass s pass is_whole first (record { device = new; join = join; contents = contents })
pass_scanned is_whole s new pass given passes out first before contents mid join limits there law shows count few right phase either r e =
    let frames : frames_came s.setup (page_of s) 0 passes ++ bytes_of_pass s.setup (page_of s) pass r.bytes ∷ [] ≡ frames_came s.setup (page_of s) 0 (passes ++ r.bytes ∷ []) = frames_more s.setup (page_of s) pass passes r.bytes count in
    let joined : is_joined (frames_came s.setup (page_of s) 0 (passes ++ r.bytes ∷ [])) ≡ is_whole = subst (λ (fs : List Frame). is_joined fs ≡ is_whole) frames e.joined in
    let drained : JoinIsDrainedTo (more_ended s passes r.bytes r.feeds.given) first join contents =
    subst (λ (fs : List Frame). JoinIsDrainedTo (record { ended = fs; under = None; fault = None; given = r.feeds.given }) first join contents) frames e.drained in
    let all : AreOfPasses s 0 (passes ++ r.bytes ∷ []) = right_more s pass passes r.bytes count right (whole_bytes s pass given r.bytes there e.full r.count either r.right) in
    by_whole is_whole s new pass passes r.bytes r.feeds.given first contents join limits there law shows count few all joined phase drained

-- the same on the scanner before it started the pass
pub before_start : (is_whole : Bool) (old mid new : DeviceState) (phase : Phase) (pass : ℕ) (first contents : Option (List ℕ)) (join : JoinState) → mid ≡ with_phase old phase
    → HasScannedPass mid pass is_whole first (record { device = new; join = join; contents = contents }) → HasScannedPass old pass is_whole first (record { device = new; join = join; contents = contents })
before_start true old mid new phase pass first contents join is scanned =
    let now : IsScanned (with_phase old phase) first contents = subst (λ (s : DeviceState). IsScanned s first contents) is scanned.1 in
    (scanned.0, record { text = now.text; taken = now.taken; whole = now.whole; picture = now.picture })
before_start false old mid new phase pass first contents join is scanned = (scanned.0, on_device mid old old.phase (pass + 1) first contents join (with_old old mid phase is) scanned.1)

-- no frame is read behind the end of one
pub reads_no_more : (setup : Setup) (pass : ℕ) (phase : Phase) → phase ≡ after_pass setup pass → is_reading phase ≡ false
reads_no_more setup pass phase is = ap is_reading is ∙ by_last (nat_lt pass (last_pass setup))
  where
    by_last : (b : Bool) → is_reading (if b then Between (pass + 1) else AtRest false) ≡ false
    by_last true = refl
    by_last false = refl

pub on_ok_const : {T E P : Type 0} (r : Result T E) → P → OnOk r P
on_ok_const (Ok x) h = h
on_ok_const (Err e) h = tt

pub if_ok_map : {T E : Type 0} {P Q : T → Type 0} (r : Result T E) → ((x : T) → P x → Q x) → IfOk r P → IfOk r Q
if_ok_map (Ok x) f h = f x h
if_ok_map (Err e) f h = tt

pub if_err_map : {T E : Type 0} {P Q : E → Type 0} (r : Result T E) → ((e : E) → P e → Q e) → IfErr r P → IfErr r Q
if_err_map (Ok x) f h = tt
if_err_map (Err e) f h = f e h

pub on_err_map : {T E P Q : Type 0} (r : Result T E) → (P → Q) → OnErr r P → OnErr r Q
on_err_map (Ok x) f h = h
on_err_map (Err e) f h = f h

-- what is told of a frame that is read
pub told_in : (s : DeviceState) (pass : ℕ) → s.phase ≡ Reading pass 0 → s.pages ≢ [] → params_of s ≡ params_at s.setup (page_of s) pass
told_in s pass at some = ap (λ (phase : Phase). params_in s.pages s.setup (reported_pass phase)) at ∙ some_told s.pages s.setup pass some

-- the frame of the pass has begun on the scanner that reads it
pub begun_on : (s : DeviceState) (pass : ℕ) (passes : List (List ℕ)) (given : List ℕ) (join : JoinState) → s.phase ≡ Reading pass 0 → s.pages ≢ []
    → Represents (begun (record { ended = frames_came s.setup (page_of s) 0 passes; under = None; fault = None; given = given }) (params_of s) s.setup.order) join → Represents (underway s pass passes given) join
begun_on s pass passes given join at some stood =
    subst (λ (params : Params). Represents (begun (record { ended = frames_came s.setup (page_of s) 0 passes; under = None; fault = None; given = given }) params s.setup.order) join) (told_in s pass at some) stood

-- ---- what ends a scan

pub cause_of_memory : (stop : Stop) (old new : DeviceState) → stop ≡ no_memory → ScanHasCause stop old new
cause_of_memory stop old new is = subst (λ (s : Stop). ScanHasCause s old new) (sym is) refl

pub cause_of_output : (stop : Stop) (old new : DeviceState) → stop ≡ failed_output → ScanHasCause stop old new
cause_of_output stop old new is = subst (λ (s : Stop). ScanHasCause s old new) (sym is) refl

-- what refuses a start
refused_start : (status : Status) (old new : DeviceState) → StartsFrame old (Err status) new → has_picture old.setup (page_of old) ≡ true → ScanHasCause (stop_by_status status) old new
refused_start Inval old new starts there = absurd (let clash : true ≡ false = sym there ∙ starts.0 in cc)
refused_start IoError old new starts there = inr (refl, failed old new starts.1)
refused_start NoMem old new starts there = refl
refused_start Good old new starts there = absurd starts
refused_start Unsupported old new starts there = absurd starts
refused_start CancelledStatus old new starts there = absurd starts
refused_start DeviceBusy old new starts there = absurd starts
refused_start Eof old new starts there = absurd starts
refused_start Jammed old new starts there = absurd starts
refused_start NoDocs old new starts there = absurd starts
refused_start CoverOpen old new starts there = absurd starts
refused_start AccessDenied old new starts there = absurd starts

on_start : (pages : List HeldPage) (status : Status) (old new : DeviceState) → pages ≢ [] → StartsOn pages old (Err status) new → StartsFrame old (Err status) new
on_start [] status old new some starts = absurd (some refl)
on_start (held ∷ pages) status old new some starts = starts

start_by : (phase : Phase) (status : Status) (old new : DeviceState) → is_reading phase ≡ false → old.pages ≢ [] → StartsIn phase old (Err status) new → StartsFrame old (Err status) new
start_by (AtRest c) status old new rest some starts = on_start old.pages status old new some starts
start_by (Between n) status old new rest some starts = on_start old.pages status old new some starts
start_by (Reading p n) status old new rest some starts = absurd (let clash : true ≡ false = rest in cc)

pub start_cause : (status : Status) (old new : DeviceState) → is_reading old.phase ≡ false → Starts old (Err status) new → old.pages ≢ [] → has_picture old.setup (page_of old) ≡ true → ScanHasCause (stop_by_status status) old new
start_cause status old new rest starts some there = refused_start status old new (start_by old.phase status old new rest some starts) there

-- a start that is refused, by what stands in its way
no_picture_by : (status : Status) (old new : DeviceState) → StartsFrame old (Err status) new → has_picture old.setup (page_of old) ≡ false → stop_by_status status ≡ stop_by_status Inval
no_picture_by Inval old new starts none = refl
no_picture_by IoError old new starts none = absurd (let clash : true ≡ false = sym starts.0 ∙ none in cc)
no_picture_by NoMem old new starts none = absurd (let clash : true ≡ false = sym starts.0 ∙ none in cc)
no_picture_by Good old new starts none = absurd starts
no_picture_by Unsupported old new starts none = absurd starts
no_picture_by CancelledStatus old new starts none = absurd starts
no_picture_by DeviceBusy old new starts none = absurd starts
no_picture_by Eof old new starts none = absurd starts
no_picture_by Jammed old new starts none = absurd starts
no_picture_by NoDocs old new starts none = absurd starts
no_picture_by CoverOpen old new starts none = absurd starts
no_picture_by AccessDenied old new starts none = absurd starts

pub start_pictureless : (status : Status) (old new : DeviceState) → is_reading old.phase ≡ false → Starts old (Err status) new → old.pages ≢ [] → has_picture old.setup (page_of old) ≡ false → stop_by_status status ≡ stop_by_status Inval
start_pictureless status old new rest starts some none = no_picture_by status old new (start_by old.phase status old new rest some starts) none

on_empty : (pages : List HeldPage) (status : Status) (old new : DeviceState) → pages ≡ [] → StartsOn pages old (Err status) new → stop_by_status status ≡ stop_by_status NoDocs
on_empty [] status old new none starts = let one : Err status ≡ Err NoDocs = starts.0 in ap stop_by_status (let same : status ≡ NoDocs = cc in same)
on_empty (held ∷ pages) status old new none starts = absurd (let clash : held ∷ pages ≡ [] = none in cc)

empty_by : (phase : Phase) (status : Status) (old new : DeviceState) → is_reading phase ≡ false → old.pages ≡ [] → StartsIn phase old (Err status) new → stop_by_status status ≡ stop_by_status NoDocs
empty_by (AtRest c) status old new rest none starts = on_empty old.pages status old new none starts
empty_by (Between n) status old new rest none starts = on_empty old.pages status old new none starts
empty_by (Reading p n) status old new rest none starts = absurd (let clash : true ≡ false = rest in cc)

pub start_empty : (status : Status) (old new : DeviceState) → is_reading old.phase ≡ false → Starts old (Err status) new → old.pages ≡ [] → stop_by_status status ≡ stop_by_status NoDocs
start_empty status old new rest starts none = empty_by old.phase status old new rest none starts

-- what is kept where a start is refused
refused_keeps : (status : Status) (old new : DeviceState) → StartsFrame old (Err status) new → KeepsDevice old new
refused_keeps Inval old new starts = of_stop old new starts.1
refused_keeps IoError old new starts = of_failure old new starts.1
refused_keeps NoMem old new starts = of_stop old new starts.1
refused_keeps Good old new starts = absurd starts
refused_keeps Unsupported old new starts = absurd starts
refused_keeps CancelledStatus old new starts = absurd starts
refused_keeps DeviceBusy old new starts = absurd starts
refused_keeps Eof old new starts = absurd starts
refused_keeps Jammed old new starts = absurd starts
refused_keeps NoDocs old new starts = absurd starts
refused_keeps CoverOpen old new starts = absurd starts
refused_keeps AccessDenied old new starts = absurd starts

on_keeps : (pages : List HeldPage) (status : Status) (old new : DeviceState) → StartsOn pages old (Err status) new → KeepsDevice old new
on_keeps [] status old new starts = of_stop old new starts.1
on_keeps (held ∷ pages) status old new starts = refused_keeps status old new starts

keeps_by : (phase : Phase) (status : Status) (old new : DeviceState) → StartsIn phase old (Err status) new → KeepsDevice old new
keeps_by (AtRest c) status old new starts = on_keeps old.pages status old new starts
keeps_by (Between n) status old new starts = on_keeps old.pages status old new starts
keeps_by (Reading p n) status old new starts = of_nothing old new starts.1

pub start_keeps : (status : Status) (old new : DeviceState) → Starts old (Err status) new → KeepsDevice old new
start_keeps status old new starts = keeps_by old.phase status old new starts

-- a start that succeeds had a page
pub record HasBegun (old new : DeviceState) : Type 0 where
  pub some : old.pages ≢ []
  pub picture : has_picture old.setup (page_of old) ≡ true
  pub after : new ≡ with_phase old (Reading (next_pass old.phase) 0)

on_begun : (pages : List HeldPage) (old new : DeviceState) → old.pages ≡ pages → StartsOn pages old (Ok tt) new → HasBegun old new
on_begun [] old new is starts = absurd (let clash : Ok tt ≡ Err NoDocs = starts.0 in cc)
on_begun (held ∷ pages) old new is starts = record { some = λ none. (let clash : held ∷ pages ≡ [] = sym is ∙ none in cc); picture = starts.0; after = starts.1 }

begun_by : (phase : Phase) (old new : DeviceState) → StartsIn phase old (Ok tt) new → HasBegun old new
begun_by (AtRest c) old new starts = on_begun old.pages old new refl starts
begun_by (Between n) old new starts = on_begun old.pages old new refl starts
begun_by (Reading p n) old new starts = absurd (let clash : Ok tt ≡ Err DeviceBusy = starts.0 in cc)

pub start_begun : (old new : DeviceState) → Starts old (Ok tt) new → HasBegun old new
start_begun old new starts = begun_by old.phase old new starts

-- the frame of the next pass, on the scanner that reads it and in the join
pub record NextPass (s : DeviceState) (pass : ℕ) (passes : List (List ℕ)) (given : List ℕ) (join : JoinState) : Type 0 where
  pub between : JoinIsBetween (record { ended = frames_came s.setup (page_of s) 0 passes; under = None; fault = None; given = given }) join
  pub accepted : is_accepted (frames_came s.setup (page_of s) 0 passes) (params_of s) s.setup.order ≡ true
  pub room : pass_length s.setup (page_of s) pass ≤ most_bytes (params_at s.setup (page_of s) pass)
  pub full : (bytes : List ℕ) → length bytes ≡ pass_length s.setup (page_of s) pass → is_full (bytes_of_pass s.setup (page_of s) pass bytes) ≡ true

pub next_pass_of : (s : DeviceState) (pass : ℕ) (first contents : Option (List ℕ)) (join : JoinState) → s.phase ≡ Reading pass 0 → s.pages ≢ [] → HasLimits s → has_picture s.setup (page_of s) ≡ true
    → ((setup : Setup) (page : PageView) → IsAllowed setup → IsShaped page → has_picture setup page ≡ true → TakesAll [] (frames_of setup page))
    → (j : HasJoined s pass first join contents) → NextPass s pass j.passes j.given join
next_pass_of s pass first contents join at some limits there law j =
    let takes = law s.setup (page_of s) limits.setup (some_shaped s.pages limits.pages some) there in
    let one = taken_at s.setup (page_of s) pass takes j.more in
    let few : length j.passes ≤ last_pass s.setup = omega (arith, j.count, j.more) in
    record {
      between = record { stands = j.stands; no_fault = refl; none_under = refl; not_whole = not_joined s.setup (page_of s) j.passes few };
      accepted = ap (λ (params : Params). is_accepted (frames_came s.setup (page_of s) 0 j.passes) params s.setup.order) (told_in s pass at some) ∙ accepted_next s.setup (page_of s) pass j.passes takes j.count j.more;
      room = one.room;
      full = λ bytes size. full_with s.setup (page_of s) pass bytes one size;
    }

-- what refuses the end of the frame that was read
end_by : (s new : DeviceState) (pass given : ℕ) (bytes : List ℕ) (stop : Stop) (full : Bool) → is_full (bytes_of_pass s.setup (page_of s) pass bytes) ≡ full → FrameEndsAs full stop
    → ((bytes : List ℕ) → length bytes ≡ pass_length s.setup (page_of s) pass → is_full (bytes_of_pass s.setup (page_of s) pass bytes) ≡ true)
    → length bytes ≡ given → IsAllOrNone s pass given → ScanHasCause stop s new
end_by s new pass given bytes stop true e ends all count either = cause_of_output stop s new ends
end_by s new pass given bytes stop false e ends all count (inl whole) = absurd (let clash : false ≡ true = sym e ∙ all bytes (count ∙ whole) in cc)
end_by s new pass given bytes stop false e ends all count (inr none) = subst (λ (x : Stop). ScanHasCause x s new) (sym ends) (refl, none.1)

pub end_cause_of : (s new : DeviceState) (pass given : ℕ) (bytes : List ℕ) (stop : Stop) → FrameEndsAs (is_full (bytes_of_pass s.setup (page_of s) pass bytes)) stop
    → ((bytes : List ℕ) → length bytes ≡ pass_length s.setup (page_of s) pass → is_full (bytes_of_pass s.setup (page_of s) pass bytes) ≡ true)
    → length bytes ≡ given → IsAllOrNone s pass given → ScanHasCause stop s new
end_cause_of s new pass given bytes stop ends all count either = end_by s new pass given bytes stop (is_full (bytes_of_pass s.setup (page_of s) pass bytes)) refl ends all count either

-- between two passes the join waits
pub waiting : (s : DeviceState) (pass : ℕ) (first contents : Option (List ℕ)) (join : JoinState) → (j : HasJoined s pass first join contents)
    → JoinIsBetween (record { ended = frames_came s.setup (page_of s) 0 j.passes; under = None; fault = None; given = j.given }) join
waiting s pass first contents join j =
    let few : length j.passes ≤ last_pass s.setup = omega (arith, j.count, j.more) in
    record { stands = j.stands; no_fault = refl; none_under = refl; not_whole = not_joined s.setup (page_of s) j.passes few }

-- a start and the reads of a frame changed the phase alone, but for what a feeder lets go of
pub only_phase : (old mid new : DeviceState) (p q : Phase) → mid ≡ with_phase old p → new ≡ goes_to mid q → new ≡ goes_to old new.phase
only_phase old mid new p q is ends =
    let all : new ≡ goes_to old q = ends ∙ ap (λ (s : DeviceState). goes_to s q) is ∙ goes_from old p q in
    all ∙ ap (λ (phase : Phase). goes_to old phase) (sym (ap (λ (s : DeviceState). s.phase) all ∙ gone_to old q))
  where
    goes_from : (s : DeviceState) (p q : Phase) → goes_to (with_phase s p) q ≡ goes_to s q
    goes_from s p (AtRest c) = refl
    goes_from s p (Between n) = refl
    goes_from s p (Reading k n) = refl

    gone_to : (s : DeviceState) (q : Phase) → (goes_to s q).phase ≡ q
    gone_to s (AtRest c) = refl
    gone_to s (Between n) = refl
    gone_to s (Reading k n) = refl

-- the phase that it went to
pub went_to : (old new : DeviceState) (q : Phase) → new ≡ goes_to old q → new.phase ≡ q
went_to old new q is = ap (λ (s : DeviceState). s.phase) is ∙ gone old q
  where
    gone : (s : DeviceState) (q : Phase) → (goes_to s q).phase ≡ q
    gone s (AtRest c) = refl
    gone s (Between n) = refl
    gone s (Reading k n) = refl
