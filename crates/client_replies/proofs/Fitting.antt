-- What a reply makes of a job fits what was told to the join.
use Rattle.std.proofs.Common.{◌≡◌, ◌∙◌, inr, ℕ, Option, Some, None, Bool, true, false, not, List, [], refl, sym, ap}
use Rattle.std.specs.Prelude.{Ok, if◌then◌else◌}
use Rattle.sane_fixed.specs.declared.byte_order.ByteOrder.{ByteOrder}
use Rattle.sane_fixed.specs.declared.params.Params.{Params}
use Rattle.netpbm.specs.Pnm.{IsWhole}
use Rattle.page_picture.specs.Shows.{Frame}
use Rattle.frame_join.specs.declared.join_stage.JoinFault.{JoinFault}
use Rattle.frame_join.specs.declared.join_stage.JoinFault.TheVariants as faults
use Rattle.frame_join.specs.FrameHistory.{JoinHistory, after_begin_at, with_fault, after_begin, IsJoined, is_joined, is_accepted, answer_by}
use Rattle.wire_message.specs.declared.message.Reply.{Reply}
use Rattle.scan_job.specs.declared.job.Task.{Task}
use Rattle.scan_job.specs.declared.job.Task.TheVariants as tasks
use Rattle.client_replies.specs.declared.progress.JobTarget.{JobTarget}
use Rattle.client_replies.specs.declared.progress.Progress.{Progress}
use Rattle.client_replies.specs.declared.progress.Progress.TheVariants as stages
use Rattle.client_replies.specs.declared.progress.Notes.{Notes}
use Rattle.client_replies.specs.declared.progress.Next.TheVariants.{Wait}
use Rattle.client_replies.specs.ReplyTurns.{after_greeting, is_all}
use Rattle.client_replies.proofs.TurnRows.{MayShow, BeforeStart, AtOpening, AtReopening, AtDescribing, AtPutting, AtGetting, TurnRow, Stops, Greets, Lists, Challenges, Admits, Allows, Reloads, Puts, Gets, ShowsAll, SetsAll, Starts, Begins, RunsOut, Images, Misfits, turn_row}
use Rattle.client_replies.specs.ProtocolStates.{Answer, heard_at, lists, shows, is_batch, scans, suits, IsBetweenFrames, IsWithinFrame, FitsAt, FitsDone, FitsEnded, NextFits}

-- ---- where the picture is not whole

pub faulty_is_unjoined : (past : JoinHistory) (f : JoinFault) → past.fault ≡ Some f → IsJoined past → ⊥
faulty_is_unjoined past f e j =
    let clash : answer_by (Some f) past.under past.ended ≡ Ok true = ap (λ (o : Option JoinFault). answer_by o past.under past.ended) (sym e) ∙ j in cc

pub within_is_unjoined : (past : JoinHistory) → IsWithinFrame past → IsJoined past → ⊥
within_is_unjoined past w j =
    let clash : answer_by None (Some w.1.0) past.ended ≡ Ok true =
    ap (λ (o : Option JoinFault). answer_by o (Some w.1.0) past.ended) (sym w.0) ∙ ap (λ (u : Option Frame). answer_by past.fault u past.ended) (sym w.1.1) ∙ j in cc

pub between_is_unjoined : (past : JoinHistory) → IsBetweenFrames past → IsJoined past → ⊥
between_is_unjoined past b j =
    let here : answer_by None None past.ended ≡ Ok true =
    ap (λ (o : Option JoinFault). answer_by o None past.ended) (sym b.0) ∙ ap (λ (u : Option Frame). answer_by past.fault u past.ended) (sym b.1) ∙ j in
    let clash : Ok (is_joined past.ended) ≡ Ok true = here in
    let no_way : false ≡ true = sym b.2 ∙ (cc) in cc

pub ended_unjoined : (task : Task) (past : JoinHistory) → (IsJoined past → ⊥) → FitsEnded task past
ended_unjoined tasks.List past u = u
ended_unjoined tasks.Show past u = u
ended_unjoined tasks.SetOnly past u = u
ended_unjoined tasks.Scan past u = u
ended_unjoined (tasks.Batch count) past u = λ joined whole. u joined

pub done_unjoined : (task : Task) (past : JoinHistory) → scans task ≡ false → (IsJoined past → ⊥) → FitsDone task past
done_unjoined tasks.List past none u = u
done_unjoined tasks.Show past none u = u
done_unjoined tasks.SetOnly past none u = u
done_unjoined tasks.Scan past none u = absurd (let clash : true ≡ false = none in cc)
done_unjoined (tasks.Batch count) past none u = absurd (let clash : true ≡ false = none in cc)

ends : (task : Task) (past : JoinHistory) → IsBetweenFrames past → FitsEnded task past
ends task past b = ended_unjoined task past (between_is_unjoined past b)

ends_batch : (task : Task) (past : JoinHistory) → is_batch task ≡ true → (IsWhole past.given → ⊥) → FitsEnded task past
ends_batch tasks.List past e short = absurd (let clash : false ≡ true = e in cc)
ends_batch tasks.Show past e short = absurd (let clash : false ≡ true = e in cc)
ends_batch tasks.SetOnly past e short = absurd (let clash : false ≡ true = e in cc)
ends_batch tasks.Scan past e short = absurd (let clash : false ≡ true = e in cc)
ends_batch (tasks.Batch count) past e short = λ joined. short

-- what is waited for may always be given up
pub may_end : (task : Task) (progress : Progress) (past : JoinHistory) → suits task progress ≡ true → FitsAt progress past → FitsEnded task past
may_end task (stages.Imaging port opened) past s w = ended_unjoined task past (within_is_unjoined past w)
may_end task stages.Turning past s j = ends_batch task past s j.1
may_end task progress past s b = ends task past b

-- ---- the parameters of a frame

begins_by : (joined accepted : Bool) (f : Frame) (past : JoinHistory) → past.fault ≡ None → joined ≡ false
    → (if joined then past else (if not accepted then with_fault faults.Shape past else (if false then with_fault faults.NoMem past else record past { under = Some f }))).fault ≡ None
    → IsWithinFrame (if joined then past else (if not accepted then with_fault faults.Shape past else (if false then with_fault faults.NoMem past else record past { under = Some f })))
begins_by true accepted f past none free e = absurd (let clash : true ≡ false = free in cc)
begins_by false false f past none free e = absurd (let clash : Some faults.Shape ≡ None = e in cc)
begins_by false true f past none free e = (none, (f, refl))

begins : (p : Params) (o : ByteOrder) (fault : Option JoinFault) (under : Option Frame) (past : JoinHistory) → fault ≡ None → under ≡ None → past.fault ≡ None → is_joined past.ended ≡ false
    → (after_begin_at fault under p o false past).fault ≡ None → IsWithinFrame (after_begin_at fault under p o false past)
begins p o (Some x) under past e u none free calm = absurd (let clash : Some x ≡ None = e in cc)
begins p o None (Some g) past e u none free calm = absurd (let clash : Some g ≡ None = u in cc)
begins p o None None past e u none free calm = begins_by (is_joined past.ended) (is_accepted past.ended p o) (record { params = p; order = o; payload = [] }) past none free calm

begins_within : (p : Params) (o : ByteOrder) (past : JoinHistory) → IsBetweenFrames past → (after_begin p o false past).fault ≡ None → IsWithinFrame (after_begin p o false past)
unfolding after_begin
begins_within p o past b calm = begins p o past.fault past.under past b.0 b.1 b.0 b.2 calm

-- ---- each row

no_scan : (task : Task) → lists task ≡ true → scans task ≡ false
no_scan tasks.List e = refl
no_scan tasks.Show e = refl
no_scan tasks.SetOnly e = refl
no_scan tasks.Scan e = absurd (let clash : false ≡ true = e in cc)
no_scan (tasks.Batch count) e = absurd (let clash : false ≡ true = e in cc)

no_scan_shown : (task : Task) → shows task ≡ true → scans task ≡ false
no_scan_shown tasks.List e = refl
no_scan_shown tasks.Show e = refl
no_scan_shown tasks.SetOnly e = refl
no_scan_shown tasks.Scan e = absurd (let clash : false ≡ true = e in cc)
no_scan_shown (tasks.Batch count) e = absurd (let clash : false ≡ true = e in cc)

greeting : (task : Task) (past : JoinHistory) → IsBetweenFrames past → NextFits task past (Wait (after_greeting task))
greeting tasks.List past b = (refl, b)
greeting task past b = (refl, b)

no_page : (task : Task) (past : JoinHistory) (first : Bool) (file : ℕ) → IsBetweenFrames past → is_all task first file ≡ true → FitsDone task past
no_page tasks.List past first file b e = absurd (let clash : false ≡ true = e in cc)
no_page tasks.Show past first file b e = absurd (let clash : false ≡ true = e in cc)
no_page tasks.SetOnly past first file b e = absurd (let clash : false ≡ true = e in cc)
no_page tasks.Scan past first file b e = absurd (let clash : false ≡ true = e in cc)
no_page (tasks.Batch count) past first file b e = inr b

shown_at : (task : Task) (progress : Progress) → suits task progress ≡ true → MayShow task progress → shows task ≡ true
shown_at task (stages.Getting n kind size) s m = s
shown_at task progress s m = m

between_at : {progress : Progress} {r : Reply} (past : JoinHistory) → BeforeStart progress r → FitsAt progress past → IsBetweenFrames past
between_at past AtOpening b = b
between_at past AtReopening b = b
between_at past AtDescribing b = b
between_at past AtPutting b = b
between_at past AtGetting b = b

row_fits : (task : Task) (password : List ℕ) (notes : Notes) (past : JoinHistory) (progress : Progress) (r : Reply) (a : Answer) → TurnRow task password notes past progress r a → suits task progress ≡ true → FitsAt progress past → NextFits task a.history a.turn.next
row_fits task password notes past progress r a (Stops now status why f k) s b = may_end task progress past s b
row_fits task password notes past progress r a Greets s b = greeting task past b
row_fits task password notes past progress r a (Lists devices) s b = done_unjoined task past (no_scan task s) (between_is_unjoined past b)
row_fits task password notes past progress r a (Challenges x bytes answer q e) s b = (refl, between_at past q b)
row_fits task password notes past progress r a (Admits word q) s b = (refl, between_at past q b)
row_fits task password notes past progress r a Allows s b = (refl, b)
row_fits task password notes past progress r a (Reloads now q k) s b = (refl, between_at past q b)
row_fits task password notes past progress r a (Puts now n option name text asked e reads q k) s b = (refl, between_at past q b)
row_fits task password notes past progress r a (Gets now n option e m q k) s b = (shown_at task progress s m, between_at past q b)
row_fits task password notes past progress r a (ShowsAll now m q k) s b = done_unjoined task past (no_scan_shown task (shown_at task progress s m)) (between_is_unjoined past (between_at past q b))
row_fits task password notes past progress r a (SetsAll now none q k) s b = done_unjoined task past none (between_is_unjoined past (between_at past q b))
row_fits task password notes past progress r a (Starts now scanned q k) s b = (scanned, between_at past q b)
row_fits task password notes past progress r a Begins s b = (s, b)
row_fits task password notes past progress r a (RunsOut {first = first} e) s b = no_page task past first notes.file b e
row_fits task password notes past progress r a (Images {order = order} {params = params} calm) s b = (s, begins_within params order past b calm)
row_fits task password notes past progress r a (Misfits {order = order} {params = params} fault status why f e) s b = ended_unjoined task (after_begin params order false past) (faulty_is_unjoined (after_begin params order false past) fault e)

pub answer_fits : (progress : Progress) (target : JobTarget) (notes : Notes) (past : JoinHistory) (r : Reply) → suits target.task progress ≡ true → FitsAt progress past
    → NextFits target.task (heard_at progress target notes past r).history (heard_at progress target notes past r).turn.next
answer_fits progress target notes past r s b = row_fits target.task target.password notes past progress r (heard_at progress target notes past r) (turn_row progress target notes past r) s b
