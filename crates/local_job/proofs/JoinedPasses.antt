-- The passes of a scan, joined one after another: their frames are those of the scan.
use Rattle.std.proofs.Common.{◌≡◌, ℕ, zero, suc, ◌+◌, ◌≤◌, List, [], ◌∷◌, ◌++◌, Some, None, Bool, true, false, length, refl, sym, ap, ◌∙◌, arith}
use Rattle.std.specs.Prelude.{if◌then◌else◌}
use Rattle.page_picture.specs.Page.{PageView}
use Rattle.page_picture.specs.Shows.{Frame}
use Rattle.page_picture.specs.declared.scene.Mode.{Mode}
use Rattle.page_picture.specs.declared.scene.Mode.TheVariants.{Gray, Color}
use Rattle.sane_fixed.specs.declared.byte_order.ByteOrder.{ByteOrder}
use Rattle.sane_fixed.specs.declared.params.Params.{Params}
use Rattle.std.proofs.Common.{Ok, Err, Option, subst}
use Rattle.std.proofs.lemmas.List.{append-nil}
use Rattle.scan_frames.specs.Frames.{frames_of, frame_of, payload, format_at, frame_format_of, color_at, params_at, pass_length, takes_colors, last_pass}
use Rattle.scan_frames.specs.declared.setup.Setup.{Setup}
use Rattle.scan_frames.specs.declared.setup.PassOrder.{PassOrder}
use Rattle.scan_frames.specs.declared.setup.PassOrder.TheVariants.{Rgb, Rbg, Gbr, Grb, Brg, Bgr}
use Rattle.device_api.specs.State.{DeviceState, page_of, steady_of}
use Rattle.frame_join.specs.declared.join_stage.JoinFault.TheVariants.{Shape, Short, NoMem}
use Rattle.frame_join.specs.AloneFrame.{is_alone_format}
use Rattle.frame_join.specs.FrameHistory.{JoinHistory, after_begin, after_end, answer_by, answer_of_end, with_fault, is_accepted, is_full, is_full_at, is_joined}
use Rattle.frame_join.specs.JoinStates.{JoinState}
use Rattle.frame_join.specs.AloneFrame.{most_bytes}
use Rattle.frame_join.specs.declared.join_stage.JoinFault.{JoinFault}
use Rattle.device_api.proofs.RunLaws.{length-payload}
use Rattle.scan_laws.specs.Joins.{JoinTakes, TakesAll}
use Rattle.local_job.specs.Inside.{stop_of_join, bytes_of_pass, frames_came, AreOfPasses, FrameEndsAs, JoinIsBetween}
use Rattle.scan_job.specs.Stops.{no_memory}

-- ---- a frame begins, and ends

-- the history in which a frame begins
abbrev pub begun : JoinHistory → Params → ByteOrder → JoinHistory
begun past params order = record past { under = Some (record { params = params; order = order; payload = [] }) }

begun_by : (past : JoinHistory) (params : Params) (order : ByteOrder) (accepted starved : Bool) → is_accepted past.ended params order ≡ accepted → past.fault ≡ None → past.under ≡ None → is_joined past.ended ≡ false
    → (after_begin params order starved past).fault ≡ None → after_begin params order starved past ≡ begun past params order
unfolding after_begin
begun_by past params order true true e no_fault under waits none = absurd (let clash : Some NoMem ≡ None = rw (no_fault, under, waits, e) at none in cc)
begun_by past params order true false e no_fault under waits none = rw (no_fault, under, waits, e) refl
begun_by past params order false starved e no_fault under waits none = absurd (let clash : Some Shape ≡ None = rw (no_fault, under, waits, e) at none in cc)

pub begun_well : (past : JoinHistory) (params : Params) (order : ByteOrder) (starved : Bool) → past.fault ≡ None → past.under ≡ None → is_joined past.ended ≡ false
    → (after_begin params order starved past).fault ≡ None → after_begin params order starved past ≡ begun past params order
begun_well past params order starved no_fault under waits none = begun_by past params order (is_accepted past.ended params order) starved refl no_fault under waits none

-- a frame that is accepted is refused for lack of memory alone
begin_fault : (past : JoinHistory) (params : Params) (order : ByteOrder) (starved : Bool) (fault : JoinFault) → past.fault ≡ None → (if starved then with_fault NoMem past else begun past params order).fault ≡ Some fault → stop_of_join fault ≡ no_memory
begin_fault past params order true fault no_fault e = let same : NoMem ≡ fault = cc in ap stop_of_join (sym same)
begin_fault past params order false fault no_fault e = absurd (let clash : None ≡ Some fault = sym no_fault ∙ e in cc)

begin_here : (past : JoinHistory) (join : JoinState) (params : Params) (order : ByteOrder) (starved : Bool) → JoinIsBetween past join → is_accepted past.ended params order ≡ true
    → after_begin params order starved past ≡ (if starved then with_fault NoMem past else begun past params order)
unfolding after_begin
begin_here past join params order starved is accepted =
    let none = is.no_fault in
    let under = is.none_under in
    let waits = is.not_whole in
    rw (none, under, waits, accepted) refl

pub begin_cause : (past : JoinHistory) (join : JoinState) (params : Params) (order : ByteOrder) (starved : Bool) (fault : JoinFault) → JoinIsBetween past join → is_accepted past.ended params order ≡ true
    → (after_begin params order starved past).fault ≡ Some fault → stop_of_join fault ≡ no_memory
begin_cause past join params order starved fault is accepted e =
    begin_fault past params order starved fault is.no_fault (sym (ap (λ (q : JoinHistory). q.fault) (begin_here past join params order starved is accepted)) ∙ e)

-- the history in which it ended
abbrev pub ended : JoinHistory → Frame → JoinHistory
ended past f = record past { ended = past.ended ++ f ∷ []; under = None }

ended_by : (past : JoinHistory) (f : Frame) (full is_whole : Bool) → is_full f ≡ full → past.fault ≡ None → past.under ≡ Some f → answer_of_end (after_end past) ≡ Ok is_whole
    → (is_full f ≡ true) × (after_end past ≡ ended past f) × (is_joined (past.ended ++ f ∷ []) ≡ is_whole)
unfolding after_end
ended_by past f true is_whole e no_fault under answer =
    (e, rw (no_fault, under, e) refl, (let same : Ok (is_joined (past.ended ++ f ∷ [])) ≡ Ok is_whole = rw (no_fault, under, e) at answer in cc))
ended_by past f false is_whole e no_fault under answer = absurd (let clash : Err Short ≡ Ok is_whole = rw (no_fault, under, e) at answer in cc)

pub ended_well : (past : JoinHistory) (f : Frame) (is_whole : Bool) → past.fault ≡ None → past.under ≡ Some f → answer_of_end (after_end past) ≡ Ok is_whole
    → (is_full f ≡ true) × (after_end past ≡ ended past f) × (is_joined (past.ended ++ f ∷ []) ≡ is_whole)
ended_well past f is_whole no_fault under answer = ended_by past f (is_full f) is_whole refl no_fault under answer

-- a frame that has all its bytes is not refused at its end, and another is short
end_by : (past : JoinHistory) (f : Frame) (fault : JoinFault) (full : Bool) → past.fault ≡ None → answer_of_end (if full then ended past f else with_fault Short past) ≡ Err fault → FrameEndsAs full (stop_of_join fault)
end_by past f fault true no_fault answer =
    absurd (let clash : Ok (is_joined (past.ended ++ f ∷ [])) ≡ Err fault = sym (ap (λ (o : Option JoinFault). answer_by o None (past.ended ++ f ∷ [])) no_fault) ∙ answer in cc)
end_by past f fault false no_fault answer = let same : Short ≡ fault = (let e : Err Short ≡ Err fault = answer in cc) in ap stop_of_join (sym same)

end_here : (past : JoinHistory) (f : Frame) → past.fault ≡ None → past.under ≡ Some f → after_end past ≡ (if is_full f then ended past f else with_fault Short past)
unfolding after_end
end_here past f no_fault under = rw (no_fault, under) refl

pub end_cause : (past : JoinHistory) (f : Frame) (fault : JoinFault) → past.fault ≡ None → past.under ≡ Some f → answer_of_end (after_end past) ≡ Err fault → FrameEndsAs (is_full f) (stop_of_join fault)
end_cause past f fault no_fault under answer =
    end_by past f fault (is_full f) no_fault (sym (ap (λ (q : JoinHistory). answer_of_end q) (end_here past f no_fault under)) ∙ answer)

-- ---- which frames are a picture

-- a color of a pass is no picture alone, and a frame of all channels is
no_color : (o : PassOrder) → is_alone_format (color_at o 0) ≡ false
no_color Rgb = refl
no_color Rbg = refl
no_color Gbr = refl
no_color Grb = refl
no_color Brg = refl
no_color Bgr = refl

all_channels : (m : Mode) → is_alone_format (frame_format_of m) ≡ true
all_channels Gray = refl
all_channels Color = refl

abbrev colors : Setup → Bool
colors s = takes_colors s.scene.kind s.scene.mode

-- the number of the last pass, and the first pass, by whether colors are taken one by one
last_is : (s : Setup) (t : Bool) → colors s ≡ t → last_pass s ≡ (if t then 2 else 0)
last_is s t e = ap (λ (b : Bool). if b then 2 else 0) e

one_color : (s : Setup) → colors s ≡ true → is_alone_format (format_at s 0) ≡ false
one_color s e = ap (λ (b : Bool). is_alone_format (if b then color_at s.passes 0 else frame_format_of s.scene.mode)) e ∙ no_color s.passes

one_whole : (s : Setup) → colors s ≡ false → is_alone_format (format_at s 0) ≡ true
one_whole s e = ap (λ (b : Bool). is_alone_format (if b then color_at s.passes 0 else frame_format_of s.scene.mode)) e ∙ all_channels s.scene.mode

-- where one more pass is to come, the frames so far are no picture
not_by : (s : Setup) (page : PageView) (passes : List (List ℕ)) (t : Bool) → colors s ≡ t → length passes ≤ last_pass s → is_joined (frames_came s page 0 passes) ≡ false
not_by s page [] t e more = refl
not_by s page (a ∷ []) true e more = one_color s e
not_by s page (a ∷ []) false e more = absurd (let few = last_is s false e in omega (arith, more, few))
not_by s page (a ∷ b ∷ []) t e more = refl
not_by s page (a ∷ b ∷ c ∷ rest) true e more = absurd (let few = last_is s true e in omega (arith, more, few))
not_by s page (a ∷ b ∷ c ∷ rest) false e more = absurd (let few = last_is s false e in omega (arith, more, few))

pub not_joined : (s : Setup) (page : PageView) (passes : List (List ℕ)) → length passes ≤ last_pass s → is_joined (frames_came s page 0 passes) ≡ false
not_joined s page passes more = not_by s page passes (colors s) refl more

-- where a further pass leaves no picture, one more is to come
more_by : (s : Setup) (page : PageView) (passes : List (List ℕ)) (bytes : List ℕ) (t : Bool) → colors s ≡ t → length passes ≤ last_pass s
    → is_joined (frames_came s page 0 (passes ++ bytes ∷ [])) ≡ false → length passes + 1 ≤ last_pass s
more_by s page [] bytes true e more waits = let few = last_is s true e in omega (arith, few)
more_by s page [] bytes false e more waits = absurd (let clash : true ≡ false = sym (one_whole s e) ∙ waits in cc)
more_by s page (a ∷ []) bytes true e more waits = let few = last_is s true e in omega (arith, few)
more_by s page (a ∷ []) bytes false e more waits = absurd (let few = last_is s false e in omega (arith, more, few))
more_by s page (a ∷ b ∷ []) bytes t e more waits = absurd (let clash : true ≡ false = waits in cc)
more_by s page (a ∷ b ∷ c ∷ rest) bytes t e more waits = absurd (let clash : true ≡ false = waits in cc)

pub more_come : (s : Setup) (page : PageView) (passes : List (List ℕ)) (bytes : List ℕ) → length passes ≤ last_pass s
    → is_joined (frames_came s page 0 (passes ++ bytes ∷ [])) ≡ false → length passes + 1 ≤ last_pass s
more_come s page passes bytes more waits = more_by s page passes bytes (colors s) refl more waits

-- where it makes a picture, it was the last
last_by : (s : Setup) (page : PageView) (passes : List (List ℕ)) (bytes : List ℕ) (t : Bool) → colors s ≡ t → length passes ≤ last_pass s
    → is_joined (frames_came s page 0 (passes ++ bytes ∷ [])) ≡ true → last_pass s ≤ length passes
last_by s page [] bytes true e more whole = absurd (let clash : false ≡ true = sym (one_color s e) ∙ whole in cc)
last_by s page [] bytes false e more whole = let few = last_is s false e in omega (arith, few)
last_by s page (a ∷ []) bytes t e more whole = absurd (let clash : false ≡ true = whole in cc)
last_by s page (a ∷ b ∷ []) bytes true e more whole = let few = last_is s true e in omega (arith, few)
last_by s page (a ∷ b ∷ []) bytes false e more whole = let few = last_is s false e in omega (arith, few)
last_by s page (a ∷ b ∷ c ∷ rest) bytes true e more whole = let few = last_is s true e in omega (arith, few)
last_by s page (a ∷ b ∷ c ∷ rest) bytes false e more whole = let few = last_is s false e in omega (arith, few)

pub was_last : (s : Setup) (page : PageView) (passes : List (List ℕ)) (bytes : List ℕ) → length passes ≤ last_pass s
    → is_joined (frames_came s page 0 (passes ++ bytes ∷ [])) ≡ true → last_pass s ≤ length passes
was_last s page passes bytes more whole = last_by s page passes bytes (colors s) refl more whole

pub few_passes : (s : Setup) → last_pass s ≤ 2
few_passes s = by_colors (colors s) refl
  where
    by_colors : (t : Bool) → colors s ≡ t → last_pass s ≤ 2
    by_colors true e = let few = last_is s true e in omega (arith, few)
    by_colors false e = let few = last_is s false e in omega (arith, few)

-- ---- a join takes each frame of the scan

abbrev scan_frames : Bool → Setup → PageView → List Frame
scan_frames t s page = if t then frame_of s page 0 ∷ frame_of s page 1 ∷ frame_of s page 2 ∷ [] else frame_of s page 0 ∷ []

accepted_by : (s : Setup) (page : PageView) (passes : List (List ℕ)) (t : Bool) → colors s ≡ t → TakesAll [] (scan_frames t s page) → length passes ≤ last_pass s
    → is_accepted (frames_came s page 0 passes) (params_at s page (length passes)) s.order ≡ true
accepted_by s page [] true e takes more = takes.0.accepted
accepted_by s page [] false e takes more = takes.0.accepted
accepted_by s page (a ∷ []) true e takes more = takes.1.0.accepted
accepted_by s page (a ∷ []) false e takes more = absurd (let few = last_is s false e in omega (arith, more, few))
accepted_by s page (a ∷ b ∷ []) true e takes more = takes.1.1.0.accepted
accepted_by s page (a ∷ b ∷ []) false e takes more = absurd (let few = last_is s false e in omega (arith, more, few))
accepted_by s page (a ∷ b ∷ c ∷ rest) true e takes more = absurd (let few = last_is s true e in omega (arith, more, few))
accepted_by s page (a ∷ b ∷ c ∷ rest) false e takes more = absurd (let few = last_is s false e in omega (arith, more, few))

pub accepted_next : (s : Setup) (page : PageView) (pass : ℕ) (passes : List (List ℕ)) → TakesAll [] (frames_of s page) → length passes ≡ pass → pass ≤ last_pass s → is_accepted (frames_came s page 0 passes) (params_at s page pass) s.order ≡ true
accepted_next s page pass passes takes count more =
    ap (λ (n : ℕ). is_accepted (frames_came s page 0 passes) (params_at s page n) s.order) (sym count)
    ∙ accepted_by s page passes (colors s) refl takes (omega (arith, count, more))

-- it has room for all bytes of a pass, which are all of its frame
pub record IsTakenAt (s : Setup) (page : PageView) (pass : ℕ) : Type 0 where
  pub room : pass_length s page pass ≤ most_bytes (params_at s page pass)
  pub full : is_full (frame_of s page pass) ≡ true

takes_one : (s : Setup) (page : PageView) (pass : ℕ) (before more : List Frame) → JoinTakes before (frame_of s page pass) more → IsTakenAt s page pass
takes_one s page pass before more t =
    let all : length (payload s page pass) ≤ most_bytes (params_at s page pass) = t.fits (payload s page pass) [] (append-nil (payload s page pass)) in
    record { room = subst (λ (n : ℕ). n ≤ most_bytes (params_at s page pass)) (length-payload s page pass) all; full = t.full }

taken_by : (s : Setup) (page : PageView) (pass : ℕ) (t : Bool) → colors s ≡ t → TakesAll [] (scan_frames t s page) → pass ≤ last_pass s → IsTakenAt s page pass
taken_by s page zero true e takes more = takes_one s page 0 _ _ takes.0
taken_by s page zero false e takes more = takes_one s page 0 _ _ takes.0
taken_by s page (suc zero) true e takes more = takes_one s page 1 _ _ takes.1.0
taken_by s page (suc zero) false e takes more = absurd (let few = last_is s false e in omega (arith, more, few))
taken_by s page (suc (suc zero)) true e takes more = takes_one s page 2 _ _ takes.1.1.0
taken_by s page (suc (suc zero)) false e takes more = absurd (let few = last_is s false e in omega (arith, more, few))
taken_by s page (suc (suc (suc n))) true e takes more = absurd (let few = last_is s true e in omega (arith, more, few))
taken_by s page (suc (suc (suc n))) false e takes more = absurd (let few = last_is s false e in omega (arith, more, few))

pub taken_at : (s : Setup) (page : PageView) (pass : ℕ) → TakesAll [] (frames_of s page) → pass ≤ last_pass s → IsTakenAt s page pass
taken_at s page pass takes more = taken_by s page pass (colors s) refl takes more

pub full_with : (s : Setup) (page : PageView) (pass : ℕ) (bytes : List ℕ) → IsTakenAt s page pass → length bytes ≡ pass_length s page pass → is_full (bytes_of_pass s page pass bytes) ≡ true
full_with s page pass bytes t size =
    ap (λ (n : ℕ). is_full_at (params_at s page pass).lines (params_at s page pass).bytes_per_line n) (size ∙ sym (length-payload s page pass)) ∙ t.full

-- where it makes a picture, the frames are those of the scan
same_frame : (s : Setup) (page : PageView) (pass : ℕ) (bytes : List ℕ) → bytes ≡ payload s page pass → bytes_of_pass s page pass bytes ≡ frame_of s page pass
same_frame s page pass bytes same = ap (bytes_of_pass s page pass) same

all_by : (s : DeviceState) (passes : List (List ℕ)) (bytes : List ℕ) (t : Bool) → colors s.setup ≡ t → length passes ≤ last_pass s.setup
    → is_joined (frames_came s.setup (page_of s) 0 (passes ++ bytes ∷ [])) ≡ true → AreOfPasses s 0 (passes ++ bytes ∷ []) → (steady_of s) ≡ true
    → frames_came s.setup (page_of s) 0 (passes ++ bytes ∷ []) ≡ (if t then frame_of s.setup (page_of s) 0 ∷ frame_of s.setup (page_of s) 1 ∷ frame_of s.setup (page_of s) 2 ∷ [] else frame_of s.setup (page_of s) 0 ∷ [])
all_by s [] bytes true e more joined right steady = absurd (let clash : false ≡ true = sym (one_color s.setup e) ∙ joined in cc)
all_by s [] bytes false e more joined right steady = ap (λ (f : Frame). f ∷ []) (same_frame s.setup (page_of s) 0 bytes (right.0 steady))
all_by s (a ∷ []) bytes t e more joined right steady = absurd (let clash : false ≡ true = joined in cc)
all_by s (a ∷ b ∷ []) bytes true e more joined right steady =
    ap (λ (f : Frame). f ∷ bytes_of_pass s.setup (page_of s) 1 b ∷ bytes_of_pass s.setup (page_of s) 2 bytes ∷ []) (same_frame s.setup (page_of s) 0 a (right.0 steady))
    ∙ ap (λ (f : Frame). frame_of s.setup (page_of s) 0 ∷ f ∷ bytes_of_pass s.setup (page_of s) 2 bytes ∷ []) (same_frame s.setup (page_of s) 1 b (right.1.0 steady))
    ∙ ap (λ (f : Frame). frame_of s.setup (page_of s) 0 ∷ frame_of s.setup (page_of s) 1 ∷ f ∷ []) (same_frame s.setup (page_of s) 2 bytes (right.1.1.0 steady))
all_by s (a ∷ b ∷ []) bytes false e more joined right steady = absurd (let few = last_is s.setup false e in omega (arith, more, few))
all_by s (a ∷ b ∷ c ∷ rest) bytes true e more joined right steady = absurd (let few = last_is s.setup true e in omega (arith, more, few))
all_by s (a ∷ b ∷ c ∷ rest) bytes false e more joined right steady = absurd (let few = last_is s.setup false e in omega (arith, more, few))

pub all_frames : (s : DeviceState) (passes : List (List ℕ)) (bytes : List ℕ) → length passes ≤ last_pass s.setup
    → is_joined (frames_came s.setup (page_of s) 0 (passes ++ bytes ∷ [])) ≡ true → AreOfPasses s 0 (passes ++ bytes ∷ []) → (steady_of s) ≡ true
    → frames_came s.setup (page_of s) 0 (passes ++ bytes ∷ []) ≡ frames_of s.setup (page_of s)
all_frames s passes bytes more joined right steady = all_by s passes bytes (colors s.setup) refl more joined right steady

-- ---- one more pass

frames_from : (s : Setup) (page : PageView) (n : ℕ) (passes : List (List ℕ)) (bytes : List ℕ) → frames_came s page n passes ++ bytes_of_pass s page (n + length passes) bytes ∷ [] ≡ frames_came s page n (passes ++ bytes ∷ [])
frames_from s page n [] bytes = ap (λ (k : ℕ). bytes_of_pass s page k bytes ∷ []) (omega arith)
frames_from s page n (a ∷ more) bytes =
    ap (λ (k : ℕ). bytes_of_pass s page n a ∷ (frames_came s page (suc n) more ++ bytes_of_pass s page k bytes ∷ [])) (let e : n + suc (length more) ≡ suc n + length more = omega arith in e)
    ∙ ap (λ (fs : List Frame). bytes_of_pass s page n a ∷ fs) (frames_from s page (suc n) more bytes)

pub frames_more : (s : Setup) (page : PageView) (pass : ℕ) (passes : List (List ℕ)) (bytes : List ℕ) → length passes ≡ pass → frames_came s page 0 passes ++ bytes_of_pass s page pass bytes ∷ [] ≡ frames_came s page 0 (passes ++ bytes ∷ [])
frames_more s page pass passes bytes count =
    ap (λ (k : ℕ). frames_came s page 0 passes ++ bytes_of_pass s page k bytes ∷ []) (let e : pass ≡ 0 + length passes = omega (arith, count) in e) ∙ frames_from s page 0 passes bytes

right_from : (s : DeviceState) (n : ℕ) (passes : List (List ℕ)) (bytes : List ℕ) → AreOfPasses s n passes → ((steady_of s) ≡ true → bytes ≡ payload s.setup (page_of s) (n + length passes)) → AreOfPasses s n (passes ++ bytes ∷ [])
right_from s n [] bytes are right = (λ steady. right steady ∙ ap (payload s.setup (page_of s)) (let e : n + 0 ≡ n = omega arith in e), tt)
right_from s n (a ∷ more) bytes are right =
    (are.0, right_from s (suc n) more bytes are.1 (λ steady. right steady ∙ ap (payload s.setup (page_of s)) (let e : n + suc (length more) ≡ suc n + length more = omega arith in e)))

pub right_more : (s : DeviceState) (pass : ℕ) (passes : List (List ℕ)) (bytes : List ℕ) → length passes ≡ pass → AreOfPasses s 0 passes → ((steady_of s) ≡ true → bytes ≡ payload s.setup (page_of s) pass) → AreOfPasses s 0 (passes ++ bytes ∷ [])
right_more s pass passes bytes count are right =
    right_from s 0 passes bytes are (λ steady. right steady ∙ ap (payload s.setup (page_of s)) (let e : pass ≡ 0 + length passes = omega (arith, count) in e))
