use Rattle.std.specs.Prelude.{◌≢◌}
use Rattle.std.proofs.Common.{◌≡◌, ◌∙◌, ℕ, [], sym, ap, subst, refl, true}
use Rattle.std.proofs.lemmas.Result.{err_from_is_err_and}
use Rattle.scan_frames.specs.Frames.{has_picture}
use Rattle.page_picture.specs.Shows.{Frame}
use Rattle.device_api.specs.State.{DeviceState, Reading, next_pass, with_phase, page_of}
use Rattle.frame_join.specs.FrameHistory.{JoinHistory}
use Rattle.frame_join.specs.JoinStates.{Represents}
use Rattle.local_job.specs.Inside.{bytes_of_pass, HasJoined}
use Rattle.local_job.proofs.FrameReads.{so_far}
use Rattle.local_job.proofs.Lets.{cause_before, keeps_before}
use Rattle.local_job.proofs.Pictures.{begun_on, went_to, cause_of_memory, end_cause_of, next_pass_of, on_device, only_phase, stops, underway, waiting, pass_scanned, before_start, reads_no_more, on_ok_const, if_ok_map, if_err_map, on_err_map}
use Rattle.local_job.proofs.scan.scan_pass.Goals as goal

pub returns-in_err-start_pass-clause-short : goal.returns-in_err-start_pass-clause-short
returns-in_err-start_pass-clause-short g c =
    let old : DeviceState = (goal.Device-dyn g c.args.device.now).state c.args.device.now.1 in
    let p = err_from_is_err_and c.from_residual.result c.from_residual.ensures.1 in
    rw p.1 (λ first joined. stops old (next_pass old.phase) first _ _ c.not_whole_before.ensures joined)

pub returns-in_err-begin_frame-clause-short : goal.returns-in_err-begin_frame-clause-short
returns-in_err-begin_frame-clause-short g c =
    let old : DeviceState = (goal.Device-dyn g c.args.device.now).state c.args.device.now.1 in
    let p = err_from_is_err_and c.from_residual-in_err-begin_frame.result c.from_residual-in_err-begin_frame.ensures.1 in
    rw p.1 (λ first joined. stops old (next_pass old.phase) first _ _ c.not_whole_before.ensures joined)

pub returns-in_err-read_frame-clause-short : goal.returns-in_err-read_frame-clause-short
returns-in_err-read_frame-clause-short g c =
    let old : DeviceState = (goal.Device-dyn g c.args.device.now).state c.args.device.now.1 in
    let mid : DeviceState = (goal.Device-dyn g c.args.device.now).state c.start_pass.new.device in
    let pass : ℕ = next_pass old.phase in
    let is : mid ≡ with_phase old (Reading pass 0) = c.in_ok-start_pass.ensures.started in
    let at : mid.phase ≡ Reading pass 0 = ap (λ (s : DeviceState). s.phase) is in
    let some : mid.pages ≢ [] = λ none. c.in_ok-start_pass.ensures.some (sym (ap (λ (s : DeviceState). s.pages) is) ∙ none) in
    let p = err_from_is_err_and c.from_residual-in_err-read_frame.result c.from_residual-in_err-read_frame.ensures.1 in
    rw p.1 (λ first joined.
    let j : HasJoined mid pass first c.args.join.now (g.W.Outlet.contents c.args.out.now) = on_device old mid (Reading pass 0) pass first _ _ is joined in
    let past : JoinHistory = underway mid pass j.passes j.given in
    let frame : Frame = bytes_of_pass mid.setup (page_of mid) pass [] in
    let stands : Represents past c.begin_frame.new.join = begun_on mid pass j.passes j.given _ at some (c.in_ok-begin_frame.ensures.begun _ (waiting mid pass first _ _ j)) in
    c.in_err-read_frame.ensures.short pass (record { past = past; frame = frame; first = first }) (record { at = at; inside = record { stands = stands; no_fault = refl; under = refl; taken = j.taken }; empty = refl }))

pub returns-clause-scanned : goal.returns-clause-scanned
returns-clause-scanned g c =
    let old : DeviceState = (goal.Device-dyn g c.args.device.now).state c.args.device.now.1 in
    let mid : DeviceState = (goal.Device-dyn g c.args.device.now).state c.start_pass.new.device in
    let pass : ℕ = next_pass old.phase in
    let is : mid ≡ with_phase old (Reading pass 0) = c.in_ok-start_pass.ensures.started in
    let at : mid.phase ≡ Reading pass 0 = ap (λ (s : DeviceState). s.phase) is in
    let some : mid.pages ≢ [] = λ none. c.in_ok-start_pass.ensures.some (sym (ap (λ (s : DeviceState). s.pages) is) ∙ none) in
    let new : DeviceState = (goal.Device-dyn g c.args.device.now).state c.read_frame.new.device in
    let there : has_picture mid.setup (page_of mid) ≡ true = subst (λ (s : DeviceState). has_picture s.setup (page_of s) ≡ true) (sym is) c.in_ok-start_pass.ensures.picture in
    let phase = went_to mid new _ (c.in_ok-read_frame.ensures.ended pass at) in
    if_ok_map c.end_frame.result (λ is_whole ends first joined.
    let j : HasJoined mid pass first c.args.join.now (g.W.Outlet.contents c.args.out.now) = on_device old mid (Reading pass 0) pass first _ _ is joined in
    let past : JoinHistory = underway mid pass j.passes j.given in
    let frame : Frame = bytes_of_pass mid.setup (page_of mid) pass [] in
    let stands : Represents past c.begin_frame.new.join = begun_on mid pass j.passes j.given _ at some (c.in_ok-begin_frame.ensures.begun _ (waiting mid pass first _ _ j)) in
    let read = c.in_ok-read_frame.ensures.read pass (record { past = past; frame = frame; first = first }) (record { at = at; inside = record { stands = stands; no_fault = refl; under = refl; taken = j.taken }; empty = refl }) in
    let r = read.2 in
    let e = ends first (so_far past frame r.bytes r.feeds.given) (bytes_of_pass mid.setup (page_of mid) pass r.bytes) (record { stands = r.feeds.stands; no_fault = refl; under = refl; taken = r.feeds.taken }) in
    before_start is_whole old mid new (Reading pass 0) pass first _ _ is
    (pass_scanned is_whole mid new pass read.0 j.passes j.given first _ _ _ _ c.in_ok-begin_frame.ensures.limits there c.frames_show_the_picture.ensures c.whole_shows.ensures j.count j.more j.right phase read.1 r e)) c.end_frame.ensures.ended

pub returns-clause-short : goal.returns-clause-short
returns-clause-short g c =
    let old : DeviceState = (goal.Device-dyn g c.args.device.now).state c.args.device.now.1 in
    let mid : DeviceState = (goal.Device-dyn g c.args.device.now).state c.start_pass.new.device in
    let pass : ℕ = next_pass old.phase in
    let is : mid ≡ with_phase old (Reading pass 0) = c.in_ok-start_pass.ensures.started in
    let at : mid.phase ≡ Reading pass 0 = ap (λ (s : DeviceState). s.phase) is in
    let some : mid.pages ≢ [] = λ none. c.in_ok-start_pass.ensures.some (sym (ap (λ (s : DeviceState). s.pages) is) ∙ none) in
    on_err_map c.end_frame.result (λ short first joined.
    let j : HasJoined mid pass first c.args.join.now (g.W.Outlet.contents c.args.out.now) = on_device old mid (Reading pass 0) pass first _ _ is joined in
    let past : JoinHistory = underway mid pass j.passes j.given in
    let frame : Frame = bytes_of_pass mid.setup (page_of mid) pass [] in
    let stands : Represents past c.begin_frame.new.join = begun_on mid pass j.passes j.given _ at some (c.in_ok-begin_frame.ensures.begun _ (waiting mid pass first _ _ j)) in
    let read = c.in_ok-read_frame.ensures.read pass (record { past = past; frame = frame; first = first }) (record { at = at; inside = record { stands = stands; no_fault = refl; under = refl; taken = j.taken }; empty = refl }) in
    let r = read.2 in
    short first (so_far past frame r.bytes r.feeds.given) (bytes_of_pass mid.setup (page_of mid) pass r.bytes) (record { stands = r.feeds.stands; no_fault = refl; under = refl; taken = r.feeds.taken })) c.end_frame.ensures.short

pub returns-clause-ended : goal.returns-clause-ended
returns-clause-ended g c =
    let old : DeviceState = (goal.Device-dyn g c.args.device.now).state c.args.device.now.1 in
    let mid : DeviceState = (goal.Device-dyn g c.args.device.now).state c.start_pass.new.device in
    let pass : ℕ = next_pass old.phase in
    let is : mid ≡ with_phase old (Reading pass 0) = c.in_ok-start_pass.ensures.started in
    let at : mid.phase ≡ Reading pass 0 = ap (λ (s : DeviceState). s.phase) is in
    let some : mid.pages ≢ [] = λ none. c.in_ok-start_pass.ensures.some (sym (ap (λ (s : DeviceState). s.pages) is) ∙ none) in
    on_ok_const c.end_frame.result (reads_no_more mid.setup pass _ (went_to mid ((goal.Device-dyn g c.args.device.now).state c.read_frame.new.device) _ (c.in_ok-read_frame.ensures.ended pass at)))

pub returns-clause-well : goal.returns-clause-well
returns-clause-well g c =
    let old : DeviceState = (goal.Device-dyn g c.args.device.now).state c.args.device.now.1 in
    let mid : DeviceState = (goal.Device-dyn g c.args.device.now).state c.start_pass.new.device in
    let new : DeviceState = (goal.Device-dyn g c.args.device.now).state c.read_frame.new.device in
    let pass : ℕ = next_pass old.phase in
    let is : mid ≡ with_phase old (Reading pass 0) = c.in_ok-start_pass.ensures.started in
    let at : mid.phase ≡ Reading pass 0 = ap (λ (s : DeviceState). s.phase) is in
    let some : mid.pages ≢ [] = λ none. c.in_ok-start_pass.ensures.some (sym (ap (λ (s : DeviceState). s.pages) is) ∙ none) in
    on_ok_const c.end_frame.result (only_phase old mid new (Reading pass 0) _ is (c.in_ok-read_frame.ensures.ended pass at))

pub returns-in_err-start_pass-clause-cause : goal.returns-in_err-start_pass-clause-cause
returns-in_err-start_pass-clause-cause g c =
    let p = err_from_is_err_and c.from_residual.result c.from_residual.ensures.1 in
    rw (p.1, p.2) (λ first joined some there. c.in_err-start_pass.ensures.cause some there)

pub returns-in_err-begin_frame-clause-cause : goal.returns-in_err-begin_frame-clause-cause
returns-in_err-begin_frame-clause-cause g c =
    let old : DeviceState = (goal.Device-dyn g c.args.device.now).state c.args.device.now.1 in
    let mid : DeviceState = (goal.Device-dyn g c.args.device.now).state c.start_pass.new.device in
    let pass : ℕ = next_pass old.phase in
    let is : mid ≡ with_phase old (Reading pass 0) = c.in_ok-start_pass.ensures.started in
    let at : mid.phase ≡ Reading pass 0 = ap (λ (s : DeviceState). s.phase) is in
    let some : mid.pages ≢ [] = λ none. c.in_ok-start_pass.ensures.some (sym (ap (λ (s : DeviceState). s.pages) is) ∙ none) in
    let there : has_picture mid.setup (page_of mid) ≡ true = subst (λ (s : DeviceState). has_picture s.setup (page_of s) ≡ true) (sym is) c.in_ok-start_pass.ensures.picture in
    let p = err_from_is_err_and c.from_residual-in_err-begin_frame.result c.from_residual-in_err-begin_frame.ensures.1 in
    rw (p.1, p.2) (λ first joined _ _.
    let j : HasJoined mid pass first c.args.join.now (g.W.Outlet.contents c.args.out.now) = on_device old mid (Reading pass 0) pass first _ _ is joined in
    let next = next_pass_of mid pass first _ _ at some c.begin_frame.ensures.limits there c.a_join_takes_the_frames_of_a_scan.ensures j in
    cause_of_memory _ old mid (c.in_err-begin_frame.ensures.cause _ next.between next.accepted))

pub returns-in_err-read_frame-clause-cause : goal.returns-in_err-read_frame-clause-cause
returns-in_err-read_frame-clause-cause g c =
    let old : DeviceState = (goal.Device-dyn g c.args.device.now).state c.args.device.now.1 in
    let mid : DeviceState = (goal.Device-dyn g c.args.device.now).state c.start_pass.new.device in
    let new : DeviceState = (goal.Device-dyn g c.args.device.now).state c.read_frame.new.device in
    let pass : ℕ = next_pass old.phase in
    let is : mid ≡ with_phase old (Reading pass 0) = c.in_ok-start_pass.ensures.started in
    let at : mid.phase ≡ Reading pass 0 = ap (λ (s : DeviceState). s.phase) is in
    let some : mid.pages ≢ [] = λ none. c.in_ok-start_pass.ensures.some (sym (ap (λ (s : DeviceState). s.pages) is) ∙ none) in
    let there : has_picture mid.setup (page_of mid) ≡ true = subst (λ (s : DeviceState). has_picture s.setup (page_of s) ≡ true) (sym is) c.in_ok-start_pass.ensures.picture in
    let p = err_from_is_err_and c.from_residual-in_err-read_frame.result c.from_residual-in_err-read_frame.ensures.1 in
    rw (p.1, p.2) (λ first joined _ _.
    let j : HasJoined mid pass first c.args.join.now (g.W.Outlet.contents c.args.out.now) = on_device old mid (Reading pass 0) pass first _ _ is joined in
    let next = next_pass_of mid pass first _ _ at some c.in_ok-begin_frame.ensures.limits there c.a_join_takes_the_frames_of_a_scan.ensures j in
    let past : JoinHistory = underway mid pass j.passes j.given in
    let frame : Frame = bytes_of_pass mid.setup (page_of mid) pass [] in
    let stands : Represents past c.begin_frame.new.join = begun_on mid pass j.passes j.given _ at some (c.in_ok-begin_frame.ensures.begun _ next.between) in
    cause_before old mid new (Reading pass 0) _ is
    (c.in_err-read_frame.ensures.cause pass (record { past = past; frame = frame; first = first }) (record { at = at; inside = record { stands = stands; no_fault = refl; under = refl; taken = j.taken }; empty = refl }) next.room))

pub returns-clause-cause : goal.returns-clause-cause
returns-clause-cause g c =
    let old : DeviceState = (goal.Device-dyn g c.args.device.now).state c.args.device.now.1 in
    let mid : DeviceState = (goal.Device-dyn g c.args.device.now).state c.start_pass.new.device in
    let new : DeviceState = (goal.Device-dyn g c.args.device.now).state c.read_frame.new.device in
    let pass : ℕ = next_pass old.phase in
    let is : mid ≡ with_phase old (Reading pass 0) = c.in_ok-start_pass.ensures.started in
    let at : mid.phase ≡ Reading pass 0 = ap (λ (s : DeviceState). s.phase) is in
    let some : mid.pages ≢ [] = λ none. c.in_ok-start_pass.ensures.some (sym (ap (λ (s : DeviceState). s.pages) is) ∙ none) in
    let there : has_picture mid.setup (page_of mid) ≡ true = subst (λ (s : DeviceState). has_picture s.setup (page_of s) ≡ true) (sym is) c.in_ok-start_pass.ensures.picture in
    if_err_map c.end_frame.result (λ stop cause first joined _ _.
    let j : HasJoined mid pass first c.args.join.now (g.W.Outlet.contents c.args.out.now) = on_device old mid (Reading pass 0) pass first _ _ is joined in
    let next = next_pass_of mid pass first _ _ at some c.in_ok-begin_frame.ensures.limits there c.a_join_takes_the_frames_of_a_scan.ensures j in
    let past : JoinHistory = underway mid pass j.passes j.given in
    let frame : Frame = bytes_of_pass mid.setup (page_of mid) pass [] in
    let stands : Represents past c.begin_frame.new.join = begun_on mid pass j.passes j.given _ at some (c.in_ok-begin_frame.ensures.begun _ next.between) in
    let read = c.in_ok-read_frame.ensures.read pass (record { past = past; frame = frame; first = first }) (record { at = at; inside = record { stands = stands; no_fault = refl; under = refl; taken = j.taken }; empty = refl }) in
    let r = read.2 in
    cause_before old mid new (Reading pass 0) stop is
    (end_cause_of mid new pass read.0 r.bytes stop
    (cause first (so_far past frame r.bytes r.feeds.given) (bytes_of_pass mid.setup (page_of mid) pass r.bytes) (record { stands = r.feeds.stands; no_fault = refl; under = refl; taken = r.feeds.taken }))
    next.full r.count read.1)) c.end_frame.ensures.cause

pub returns-in_err-read_frame-clause-same : goal.returns-in_err-read_frame-clause-same
returns-in_err-read_frame-clause-same g c =
    let old : DeviceState = (goal.Device-dyn g c.args.device.now).state c.args.device.now.1 in
    let mid : DeviceState = (goal.Device-dyn g c.args.device.now).state c.start_pass.new.device in
    let new : DeviceState = (goal.Device-dyn g c.args.device.now).state c.read_frame.new.device in
    keeps_before old mid new _ c.in_ok-start_pass.ensures.started c.in_err-read_frame.ensures.same

pub returns-clause-same : goal.returns-clause-same
returns-clause-same g c =
    let old : DeviceState = (goal.Device-dyn g c.args.device.now).state c.args.device.now.1 in
    let mid : DeviceState = (goal.Device-dyn g c.args.device.now).state c.start_pass.new.device in
    let new : DeviceState = (goal.Device-dyn g c.args.device.now).state c.read_frame.new.device in
    keeps_before old mid new _ c.in_ok-start_pass.ensures.started c.in_ok-read_frame.ensures.same

pub returns-in_err-start_pass-clause-none : goal.returns-in_err-start_pass-clause-none
returns-in_err-start_pass-clause-none g c =
    let p = err_from_is_err_and c.from_residual.result c.from_residual.ensures.1 in
    rw (p.1, p.2) c.in_err-start_pass.ensures.none

pub returns-in_err-start_pass-clause-output : goal.returns-in_err-start_pass-clause-output
returns-in_err-start_pass-clause-output g c =
    let p = err_from_is_err_and c.from_residual.result c.from_residual.ensures.1 in
    rw (p.1, p.2) (λ sink first joined. absurd (c.in_err-start_pass.ensures.output sink))

pub returns-in_err-begin_frame-clause-output : goal.returns-in_err-begin_frame-clause-output
returns-in_err-begin_frame-clause-output g c =
    let p = err_from_is_err_and c.from_residual-in_err-begin_frame.result c.from_residual-in_err-begin_frame.ensures.1 in
    rw (p.1, p.2) (λ sink first joined. absurd (c.in_err-begin_frame.ensures.output sink))

pub returns-in_err-read_frame-clause-output : goal.returns-in_err-read_frame-clause-output
returns-in_err-read_frame-clause-output g c =
    let old : DeviceState = (goal.Device-dyn g c.args.device.now).state c.args.device.now.1 in
    let mid : DeviceState = (goal.Device-dyn g c.args.device.now).state c.start_pass.new.device in
    let pass : ℕ = next_pass old.phase in
    let is : mid ≡ with_phase old (Reading pass 0) = c.in_ok-start_pass.ensures.started in
    let at : mid.phase ≡ Reading pass 0 = ap (λ (s : DeviceState). s.phase) is in
    let some : mid.pages ≢ [] = λ none. c.in_ok-start_pass.ensures.some (sym (ap (λ (s : DeviceState). s.pages) is) ∙ none) in
    let p = err_from_is_err_and c.from_residual-in_err-read_frame.result c.from_residual-in_err-read_frame.ensures.1 in
    rw (p.1, p.2) (λ sink first joined.
    let j : HasJoined mid pass first c.args.join.now (g.W.Outlet.contents c.args.out.now) = on_device old mid (Reading pass 0) pass first _ _ is joined in
    let past : JoinHistory = underway mid pass j.passes j.given in
    let frame : Frame = bytes_of_pass mid.setup (page_of mid) pass [] in
    let stands : Represents past c.begin_frame.new.join = begun_on mid pass j.passes j.given _ at some (c.in_ok-begin_frame.ensures.begun _ (waiting mid pass first _ _ j)) in
    c.in_err-read_frame.ensures.output sink pass (record { past = past; frame = frame; first = first }) (record { at = at; inside = record { stands = stands; no_fault = refl; under = refl; taken = j.taken }; empty = refl }))

pub returns-clause-output : goal.returns-clause-output
returns-clause-output g c =
    let old : DeviceState = (goal.Device-dyn g c.args.device.now).state c.args.device.now.1 in
    let mid : DeviceState = (goal.Device-dyn g c.args.device.now).state c.start_pass.new.device in
    let pass : ℕ = next_pass old.phase in
    let is : mid ≡ with_phase old (Reading pass 0) = c.in_ok-start_pass.ensures.started in
    let at : mid.phase ≡ Reading pass 0 = ap (λ (s : DeviceState). s.phase) is in
    let some : mid.pages ≢ [] = λ none. c.in_ok-start_pass.ensures.some (sym (ap (λ (s : DeviceState). s.pages) is) ∙ none) in
    if_err_map c.end_frame.result (λ stop output sink first joined.
    let j : HasJoined mid pass first c.args.join.now (g.W.Outlet.contents c.args.out.now) = on_device old mid (Reading pass 0) pass first _ _ is joined in
    let past : JoinHistory = underway mid pass j.passes j.given in
    let frame : Frame = bytes_of_pass mid.setup (page_of mid) pass [] in
    let stands : Represents past c.begin_frame.new.join = begun_on mid pass j.passes j.given _ at some (c.in_ok-begin_frame.ensures.begun _ (waiting mid pass first _ _ j)) in
    let read = c.in_ok-read_frame.ensures.read pass (record { past = past; frame = frame; first = first }) (record { at = at; inside = record { stands = stands; no_fault = refl; under = refl; taken = j.taken }; empty = refl }) in
    let r = read.2 in
    output sink first (so_far past frame r.bytes r.feeds.given) (bytes_of_pass mid.setup (page_of mid) pass r.bytes) (record { stands = r.feeds.stands; no_fault = refl; under = refl; taken = r.feeds.taken })) c.end_frame.ensures.output
