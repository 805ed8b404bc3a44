-- The data of a frame, its end, and the turn to the next page.
use Rattle.std.proofs.Common.{arith, ◌≡◌, ◌∙◌, ◌+◌, ◌-◌, ℕ, suc, Option, Some, None, Bool, true, false, not, ◌&&◌, ◌||◌, List, [], ◌∷◌, ◌++◌, refl, sym, ap, subst, length, length-append, append-nil, lt-ltb, le-ltb, ltb-true, ltb-false}
use Rattle.std.specs.Prelude.{if◌then◌else◌, nat_lt, ltb, Result, Ok, Err}
use Rattle.sane_fixed.specs.declared.byte_order.ByteOrder.{ByteOrder}
use Rattle.sane_fixed.specs.declared.params.Params.{Params}
use Rattle.sane_fixed.specs.declared.status.Status.{Status}
use Rattle.sane_fixed.specs.declared.status.Status.TheVariants as statuses
use Rattle.sane_fixed.specs.declared.device_info.DeviceInfo.{DeviceInfo}
use Rattle.page_picture.specs.Shows.{Frame}
use Rattle.frame_join.specs.AloneFrame.{is_alone_format, is_known, is_shaped, most_bytes}
use Rattle.frame_join.specs.KeptFrame.{is_unknown, is_pass, goes_with}
use Rattle.frame_join.specs.declared.join_stage.JoinFault.{JoinFault}
use Rattle.frame_join.specs.declared.join_stage.JoinFault.TheVariants as faults
use Rattle.frame_join.specs.FrameHistory.{JoinHistory, empty_history, with_fault, after_feed, after_end, after_feed_at as fed_past, after_end_at as closed_past, is_joined, is_accepted, is_full, IsJoined, answer_by, answer_of_end}
use Rattle.scan_job.specs.declared.job.Task.{Task}
use Rattle.scan_job.specs.declared.job.Task.TheVariants as tasks
use Rattle.scan_job.specs.declared.outcome.Outcome.{Outcome}
use Rattle.scan_job.specs.declared.outcome.Outcome.TheVariants.{Running}
use Rattle.scan_job.specs.declared.outcome.Why.TheVariants as whys
use Rattle.client_replies.specs.declared.progress.Progress.{Progress}
use Rattle.client_replies.specs.declared.progress.Progress.TheVariants as stages
use Rattle.client_replies.specs.declared.progress.Notes.{Notes}
use Rattle.client_replies.specs.declared.progress.Next.TheVariants.{Wait, Finish}
use Rattle.client_replies.specs.ReplyTurns.{turn, page_whole, frame_joined, frame_ended_by}
use Rattle.client_replies.specs.ProtocolStates.{ProtocolState, protocol_after_turn, scans, is_batch, suits, FitsAt, protocol_of_next_page}
use Rattle.scan_job.specs.JobSize.{HasCount}
use Rattle.system_model.specs.Client as model
use Rattle.system_model.specs.ClientReplies.{client_after_bytes, reads_on, finish_in, end_frame, close_frame, close_page, after_page}
use Rattle.system_model.specs.Devices.{frame_overflows, frame_fills}
use Rattle.client_refines.specs.ClientRefinement.{task_of, IsApt, parts, wholes, Files, is_nil, KnowsAs, FrameIsShared, WaitsAs, OutcomeRefines, ClientRefines}
use Rattle.client_refines.specs.FrameRefinement.{protocol_after_bytes, protocol_after_bytes_by, BytesAreReadAlike, FramesEndAlike, PagesTurnUnseen}
use Rattle.client_refines.proofs.Sides.{Side, onto, Goes, FilesAs, ends, part_is, no_whole, pages_are, settled_reads}
use Rattle.client_replies.specs.declared.progress.JobTarget.{JobTarget}
use Rattle.client_refines.proofs.Apt.{end_later, later_apt}

running_as : (place : DeviceInfo → ℕ) (target : JobTarget) (job : model.AbstractJob) (pages : List (List Frame)) (protocol : ProtocolState) (m : model.ClientView) (progress : Progress) → protocol.outcome ≡ Running → protocol.progress ≡ progress
    → ClientRefines place target job pages protocol m → KnowsAs target.task pages protocol.notes m × WaitsAs job progress protocol.notes protocol.history m × IsApt target progress protocol.notes
running_as place target job pages protocol m progress o p r =
    subst (λ (y : Progress). KnowsAs target.task pages protocol.notes m × WaitsAs job y protocol.notes protocol.history m × IsApt target y protocol.notes) p
    (subst (λ (y : Outcome). OutcomeRefines place target job pages y protocol.progress protocol.notes protocol.history m) o r.stands)

-- ---- bytes

frame_at : Params → ByteOrder → List ℕ → Frame
frame_at params order payload = record { params = params; order = order; payload = payload }

feeds : (past : JoinHistory) (f : Frame) (bytes : List ℕ) (b : Bool) → past.fault ≡ None → past.under ≡ Some f → nat_lt (most_bytes f.params) (length f.payload + length bytes) ≡ b
    → after_feed bytes false past ≡ (if b then with_fault faults.Long past else record past { under = Some (record f { payload = f.payload ++ bytes }) })
unfolding after_feed
feeds past f bytes b c u e =
    ap (λ (o : Option JoinFault). fed_past o past.under bytes false past) c ∙ ap (λ (o : Option Frame). fed_past None o bytes false past) u
    ∙ ap (λ (t : Bool). if t then with_fault faults.Long past else record past { under = Some (record f { payload = f.payload ++ bytes }) }) e

overflows_is : (params : Params) (heard bytes : List ℕ) → frame_overflows params (heard ++ bytes) ≡ nat_lt (most_bytes params) (length heard + length bytes)
unfolding frame_overflows
overflows_is params heard bytes = ap (λ (n : ℕ). nat_lt (most_bytes params) n) (length-append heard bytes)

takes : (place : DeviceInfo → ℕ) (target : JobTarget) (job : model.AbstractJob) (pages : List (List Frame)) (protocol : ProtocolState) (m : model.ClientView) (bytes : List ℕ) (port : ℕ) (made b : Bool) (i : FrameIsShared protocol.history m)
    → protocol.outcome ≡ Running → protocol.progress ≡ stages.Imaging port made → protocol.history.fault ≡ None → Files pages protocol.history m.frames m.pages → KnowsAs target.task pages protocol.notes m
    → (past : JoinHistory) → past ≡ (if b then with_fault faults.Long protocol.history else record protocol.history { under = Some (record { params = i.params; order = m.order; payload = i.payload ++ bytes }) })
    → ClientRefines place target job pages (protocol_after_bytes_by target.task protocol past past.fault) (record m { stage = reads_on b i.params (i.payload ++ bytes) })
takes place target job pages protocol m bytes port made true i o p c f k past e =
    subst (λ (y : JoinHistory). ClientRefines place target job pages (protocol_after_bytes_by target.task protocol y y.fault) (record m { stage = reads_on true i.params (i.payload ++ bytes) })) (sym e)
    (record { files = record { part = f.part; all = f.all }; stands = refl })
takes place target job pages protocol m bytes port made false i o p c f k past e =
    subst (λ (y : JoinHistory). ClientRefines place target job pages (protocol_after_bytes_by target.task protocol y y.fault) (record m { stage = reads_on false i.params (i.payload ++ bytes) })) (sym e)
    (subst (λ (y : Option JoinFault). ClientRefines place target job pages (protocol_after_bytes_by target.task protocol (record protocol.history { under = Some (record { params = i.params; order = m.order; payload = i.payload ++ bytes }) }) y) (record m { stage = reads_on false i.params (i.payload ++ bytes) })) (sym c)
    (record {
      files = record { part = f.part; all = f.all };
      stands =
          subst (λ (y : Outcome). OutcomeRefines place target job pages y protocol.progress protocol.notes (record protocol.history { under = Some (record { params = i.params; order = m.order; payload = i.payload ++ bytes }) }) (record m { stage = reads_on false i.params (i.payload ++ bytes) })) (sym o) (
            k,
            subst (λ (y : Progress). WaitsAs job y protocol.notes (record protocol.history { under = Some (record { params = i.params; order = m.order; payload = i.payload ++ bytes }) }) (record m { stage = reads_on false i.params (i.payload ++ bytes) })) (sym p)
                (record { params = i.params; payload = i.payload ++ bytes; stage = refl; under = refl; accepted = i.accepted; part = i.part }),
            subst (λ (y : Progress). IsApt target y protocol.notes) (sym p) tt,
          );
    }))

pub bytes_alike : BytesAreReadAlike
bytes_alike place target job pages protocol m bytes image o fits r =
    let s = running_as place target job pages protocol m (stages.Imaging image.0 image.1.0) o image.1.1 r in
    let i : FrameIsShared protocol.history m = s.1 in
    let at_image : FitsAt (stages.Imaging image.0 image.1.0) protocol.history = subst (λ (y : Progress). FitsAt y protocol.history) image.1.1 fits.1 in
    let b : Bool = nat_lt (most_bytes i.params) (length i.payload + length bytes) in
    subst (λ (y : model.JobStage). ClientRefines place target job pages (protocol_after_bytes target.task protocol bytes) (client_after_bytes y m bytes)) (sym i.stage)
    (subst (λ (t : Bool). ClientRefines place target job pages (protocol_after_bytes target.task protocol bytes) (record m { stage = reads_on t i.params (i.payload ++ bytes) })) (sym (overflows_is i.params i.payload bytes))
    (takes place target job pages protocol m bytes image.0 image.1.0 b i o image.1.1 at_image.0 r.files s.0 (after_feed bytes false protocol.history)
    (feeds protocol.history (record { params = i.params; order = m.order; payload = i.payload }) bytes b at_image.0 i.under refl)))

-- ---- whether a picture is whole

one_frame : (a l x y z : Bool) → ((a && (l && x)) || ((a && (l && y)) || ((not a && z) && not l))) ≡ true → a ≡ l
one_frame true true x y z e = refl
one_frame true false x y z e = absurd (let clash : false ≡ true = e in cc)
one_frame false true x y true e = absurd (let clash : false ≡ true = e in cc)
one_frame false true x y false e = absurd (let clash : false ≡ true = e in cc)
one_frame false false x y z e = refl

not_last : (l p g : Bool) → ((p && not l) && g) ≡ true → false ≡ l
not_last false p g e = refl
not_last true true g e = absurd (let clash : false ≡ true = e in cc)
not_last true false g e = absurd (let clash : false ≡ true = e in cc)

is_last : (l p g : Bool) → ((p && l) && g) ≡ true → true ≡ l
is_last true p g e = refl
is_last false true g e = absurd (let clash : false ≡ true = e in cc)
is_last false false g e = absurd (let clash : false ≡ true = e in cc)

-- a frame that is accepted is the last of its picture where it says so
pub last_is : (ended : List Frame) (params : Params) (order : ByteOrder) (payload : List ℕ) → is_accepted ended params order ≡ true
    → is_joined (ended ++ record { params = params; order = order; payload = payload } ∷ []) ≡ params.last_frame
last_is [] params order payload e = one_frame (is_alone_format params.format) params.last_frame (is_known params.lines && is_shaped params) (is_unknown params.lines && is_shaped params) (is_known params.lines && is_shaped params) e
last_is (a ∷ []) params order payload e = not_last params.last_frame (is_pass params) (goes_with a params order) e
last_is (a ∷ b ∷ []) params order payload e = is_last params.last_frame (is_pass params) (goes_with a params order && goes_with b params order) e
last_is (a ∷ b ∷ c ∷ more) params order payload e = absurd (let clash : false ≡ true = e in cc)

-- ---- the end record

never_nil : (frames : List Frame) (f : Frame) → false ≡ is_nil (frames ++ f ∷ [])
never_nil [] f = refl
never_nil (g ∷ frames) f = refl

further_by : (p count : ℕ) (b : Bool) → nat_lt (suc p) count ≡ b → b ≡ ltb p (count - 1)
further_by p count true e = let l = ltb-true (suc p) count e in sym (lt-ltb p (count - 1) (omega arith))
further_by p count false e = let l = ltb-false (suc p) count e in sym (le-ltb p (count - 1) (omega arith))

batch_ends : (x : Side) (count : ℕ) (notes : Notes) (m : model.ClientView) (b : Bool) → HasCount (tasks.Batch count) → nat_lt notes.file count ≡ b → FilesAs x m → KnowsAs (tasks.Batch count) x.pages notes m
    → Goes x (tasks.Batch count) (turn notes (if b then Wait stages.Turning else Finish [])) (record m { stage = after_page b })
batch_ends x count notes m true h e f k =
    let l = ltb-true notes.file count e in
    let most = h.1 in
    (f, (k, (refl, lt-ltb notes.file 4294967295 (omega arith))))
batch_ends x count notes m false h e f k = (f, record { stage = refl; settings = k.answers; devices = k.none; options = tt })

page_ends : (x : Side) (task : Task) (notes : Notes) (m : model.ClientView) (p : ℕ) → HasCount task → scans task ≡ true → notes.file ≡ suc p → FilesAs x m → KnowsAs task x.pages notes m
    → Goes x task (turn notes (page_whole task notes.file)) (record m { stage = after_page (ltb p (model.further_pages (task_of task))) })
page_ends x tasks.List notes m p h s n f k = absurd (let clash : false ≡ true = s in cc)
page_ends x tasks.Show notes m p h s n f k = absurd (let clash : false ≡ true = s in cc)
page_ends x tasks.SetOnly notes m p h s n f k = absurd (let clash : false ≡ true = s in cc)
page_ends x tasks.Scan notes m p h s n f k =
    subst (λ (b : Bool). Goes x tasks.Scan (turn notes (Finish [])) (record m { stage = after_page b })) (sym (le-ltb p 0 (omega arith)))
    (f, record { stage = refl; settings = k.answers; devices = k.none; options = tt })
page_ends x (tasks.Batch count) notes m p h s n f k =
    let e : nat_lt notes.file count ≡ ltb p (count - 1) = ap (λ (i : ℕ). nat_lt i count) n ∙ further_by p count (nat_lt (suc p) count) refl in
    subst (λ (b : Bool). Goes x (tasks.Batch count) (turn notes (page_whole (tasks.Batch count) notes.file)) (record m { stage = after_page b })) e
    (batch_ends x count notes m (nat_lt notes.file count) h refl f k)

-- the frame has all its bytes, and the picture is whole or not
frame_ends : (x : Side) (task : Task) (notes : Notes) (m : model.ClientView) (f : Frame) (last : Bool) (past : JoinHistory) → x.job.task ≡ task_of task → HasCount task → scans task ≡ true → is_joined x.history.ended ≡ false
    → past.ended ≡ x.history.ended ++ f ∷ [] → is_joined (x.history.ended ++ f ∷ []) ≡ last → FilesAs x m → KnowsAs task x.pages notes m
    → Goes (onto x past) task (turn notes (frame_joined task notes.file (Ok last))) (close_page last x.job.task f m)
frame_ends x task notes m f true past t h s j e l files k =
    let pages : m.pages ≡ x.pages = pages_are x m j files in
    let number : notes.file ≡ suc (length m.pages) = k.number ∙ ap (λ (ps : List (List Frame)). suc (length ps)) (sym pages) in
    subst (λ (y : model.AbstractTask). Goes (onto x past) task (turn notes (page_whole task notes.file)) (record m { stage = after_page (ltb (length m.pages) (model.further_pages y)); frames = []; pages = m.pages ++ (m.frames ++ f ∷ []) ∷ [] })) (sym t)
    (page_ends (onto x past) task notes (record m { frames = []; pages = m.pages ++ (m.frames ++ f ∷ []) ∷ [] }) (length m.pages) h s number
    (record {
      part = sym (ap (λ (fs : List Frame). parts fs) e ∙ ap (λ (b : Bool). if b then [] else x.history.ended ++ f ∷ []) l);
      all = ap (λ (ps : List (List Frame)). ps ++ (m.frames ++ f ∷ []) ∷ []) pages ∙ ap (λ (fs : List Frame). x.pages ++ (fs ++ f ∷ []) ∷ []) (files.part ∙ part_is x.history.ended j)
          ∙ sym (ap (λ (fs : List Frame). x.pages ++ wholes fs) e ∙ ap (λ (b : Bool). x.pages ++ (if b then (x.history.ended ++ f ∷ []) ∷ [] else [])) l);
    })
    k)
frame_ends x task notes m f false past t h s j e l files k = (
  record {
    part = ap (λ (fs : List Frame). fs ++ f ∷ []) (files.part ∙ part_is x.history.ended j) ∙ sym (ap (λ (fs : List Frame). parts fs) e ∙ part_is (x.history.ended ++ f ∷ []) l);
    all = pages_are x m j files ∙ sym (ap (λ (fs : List Frame). x.pages ++ wholes fs) e ∙ ap (λ (ps : List (List Frame)). x.pages ++ ps) (no_whole (x.history.ended ++ f ∷ []) l) ∙ append-nil x.pages);
  },
  (k, (refl, never_nil m.frames f)),
)

closes : (past : JoinHistory) (f : Frame) (b : Bool) → past.fault ≡ None → past.under ≡ Some f → is_full f ≡ b
    → after_end past ≡ (if b then record past { ended = past.ended ++ f ∷ []; under = None } else with_fault faults.Short past)
unfolding after_end
closes past f b c u e =
    ap (λ (o : Option JoinFault). closed_past o past.under past) c ∙ ap (λ (o : Option Frame). closed_past None o past) u
    ∙ ap (λ (t : Bool). if t then record past { ended = past.ended ++ f ∷ []; under = None } else with_fault faults.Short past) e

fills_is : (params : Params) (order : ByteOrder) (payload : List ℕ) → frame_fills params payload ≡ is_full (record { params = params; order = order; payload = payload })
unfolding frame_fills
fills_is params order payload = refl

closes_by : (x : Side) (task : Task) (notes : Notes) (m : model.ClientView) (i : FrameIsShared x.history m) (b : Bool) (past : JoinHistory) → x.job.task ≡ task_of task → HasCount task → scans task ≡ true → x.history.fault ≡ None
    → past ≡ (if b then record x.history { ended = x.history.ended ++ record { params = i.params; order = m.order; payload = i.payload } ∷ []; under = None } else with_fault faults.Short x.history) → FilesAs x m → KnowsAs task x.pages notes m
    → Goes (onto x past) task (turn notes (frame_joined task notes.file (answer_of_end past))) (close_frame b x.job.task i.params i.payload m)
closes_by x task notes m i false past t h s c e f k =
    subst (λ (y : JoinHistory). Goes (onto x y) task (turn notes (frame_joined task notes.file (answer_of_end y))) (model.with_ending statuses.IoError whys.Short m)) (sym e)
    (record { part = f.part; all = f.all }, refl)
closes_by x task notes m i true past t h s c e f k =
    let g : Frame = record { params = i.params; order = m.order; payload = i.payload } in
    let whole : JoinHistory = record x.history { ended = x.history.ended ++ g ∷ []; under = None } in
    let l : is_joined (x.history.ended ++ g ∷ []) ≡ i.params.last_frame = last_is x.history.ended i.params m.order i.payload i.accepted in
    subst (λ (y : JoinHistory). Goes (onto x y) task (turn notes (frame_joined task notes.file (answer_of_end y))) (close_page i.params.last_frame x.job.task g m)) (sym e)
    (subst (λ (y : Result Bool JoinFault). Goes (onto x whole) task (turn notes (frame_joined task notes.file y)) (close_page i.params.last_frame x.job.task g m))
    (sym (ap (λ (o : Option JoinFault). answer_by o None (x.history.ended ++ g ∷ [])) c ∙ ap (λ (b : Bool). Ok b) l))
    (frame_ends x task notes m g i.params.last_frame whole t h s i.part refl l f k))

stays : (x : Side) (m : model.ClientView) → FilesAs x m → FilesAs (onto x x.history) m
stays x m f = record { part = f.part; all = f.all }

ends_by : (x : Side) (task : Task) (notes : Notes) (m : model.ClientView) (i : FrameIsShared x.history m) (status : Status) → x.job.task ≡ task_of task → HasCount task → scans task ≡ true → x.history.fault ≡ None → FilesAs x m → KnowsAs task x.pages notes m
    → Goes (onto x (frame_ended_by task notes.file x.history (Some status)).history) task (turn notes (frame_ended_by task notes.file x.history (Some status)).next) (end_frame status x.job.task i.params i.payload m)
ends_by x task notes m i statuses.Eof t h s c f k =
    subst (λ (b : Bool). Goes (onto x (after_end x.history)) task (turn notes (frame_joined task notes.file (answer_of_end (after_end x.history)))) (close_frame b x.job.task i.params i.payload m)) (sym (fills_is i.params m.order i.payload))
    (closes_by x task notes m i (is_full (record { params = i.params; order = m.order; payload = i.payload })) (after_end x.history) t h s c
    (closes x.history (record { params = i.params; order = m.order; payload = i.payload }) (is_full (record { params = i.params; order = m.order; payload = i.payload })) c i.under refl) f k)
ends_by x task notes m i statuses.Good t h s c f k = ends (onto x x.history) task notes m statuses.IoError whys.Malformed (stays x m f)
ends_by x task notes m i statuses.Unsupported t h s c f k = ends (onto x x.history) task notes m statuses.Unsupported whys.Answer (stays x m f)
ends_by x task notes m i statuses.Cancelled t h s c f k = ends (onto x x.history) task notes m statuses.Cancelled whys.Answer (stays x m f)
ends_by x task notes m i statuses.DeviceBusy t h s c f k = ends (onto x x.history) task notes m statuses.DeviceBusy whys.Answer (stays x m f)
ends_by x task notes m i statuses.Inval t h s c f k = ends (onto x x.history) task notes m statuses.Inval whys.Answer (stays x m f)
ends_by x task notes m i statuses.Jammed t h s c f k = ends (onto x x.history) task notes m statuses.Jammed whys.Answer (stays x m f)
ends_by x task notes m i statuses.NoDocs t h s c f k = ends (onto x x.history) task notes m statuses.NoDocs whys.Answer (stays x m f)
ends_by x task notes m i statuses.CoverOpen t h s c f k = ends (onto x x.history) task notes m statuses.CoverOpen whys.Answer (stays x m f)
ends_by x task notes m i statuses.IoError t h s c f k = ends (onto x x.history) task notes m statuses.IoError whys.Answer (stays x m f)
ends_by x task notes m i statuses.NoMem t h s c f k = ends (onto x x.history) task notes m statuses.NoMem whys.Answer (stays x m f)
ends_by x task notes m i statuses.AccessDenied t h s c f k = ends (onto x x.history) task notes m statuses.AccessDenied whys.Answer (stays x m f)

pub ends_alike : FramesEndAlike
ends_alike place target job pages protocol m n status t h e image o fits r =
    let x : Side = record { place = place; job = job; pages = pages; history = protocol.history } in
    let s = running_as place target job pages protocol m (stages.Imaging image.0 image.1.0) o image.1.1 r in
    let i : FrameIsShared protocol.history m = s.1 in
    let at_image : FitsAt (stages.Imaging image.0 image.1.0) protocol.history = subst (λ (y : Progress). FitsAt y protocol.history) image.1.1 fits.1 in
    let scan : suits target.task (stages.Imaging image.0 image.1.0) ≡ true = subst (λ (y : Progress). suits target.task y ≡ true) image.1.1 fits.0 in
    subst (λ (y : Option Status). ClientRefines place target job pages (protocol_after_turn target.task (turn protocol.notes (frame_ended_by target.task protocol.notes.file protocol.history y).next) (frame_ended_by target.task protocol.notes.file protocol.history y).history) (finish_in m.stage job.task m status)) (sym e)
    (subst (λ (y : model.JobStage). ClientRefines place target job pages (protocol_after_turn target.task (turn protocol.notes (frame_ended_by target.task protocol.notes.file protocol.history (Some status)).next) (frame_ended_by target.task protocol.notes.file protocol.history (Some status)).history) (finish_in y job.task m status)) (sym i.stage)
    (settled_reads (onto x (frame_ended_by target.task protocol.notes.file protocol.history (Some status)).history) target (turn protocol.notes (frame_ended_by target.task protocol.notes.file protocol.history (Some status)).next) _
    (ends_by x target.task protocol.notes m i status t h scan at_image.0 r.files s.0)
    (later_apt target (frame_ended_by target.task protocol.notes.file protocol.history (Some status)).next protocol.notes (end_later target protocol.notes target.task protocol.notes.file protocol.history (Some status)))))

-- ---- the next page

joined_frames : (fault : Option JoinFault) (under : Option Frame) (ended : List Frame) → answer_by fault under ended ≡ Ok true → is_joined ended ≡ true
joined_frames (Some f) under ended e = absurd (let clash : Err f ≡ Ok true = e in cc)
joined_frames None (Some f) ended e = absurd (let clash : Ok false ≡ Ok true = e in let no_way : false ≡ true = cc in cc)
joined_frames None None ended e = cc

pub turns_unseen : PagesTurnUnseen
turns_unseen place target job pages protocol m o p fits r =
    let s = running_as place target job pages protocol m stages.Turning o p r in
    let k = s.0 in
    let w = s.1 in
    let at : FitsAt stages.Turning protocol.history = subst (λ (y : Progress). FitsAt y protocol.history) p fits.1 in
    let joined : IsJoined protocol.history = at.0 in
    let batch : is_batch target.task ≡ true = subst (λ (y : Progress). suits target.task y ≡ true) p fits.0 in
    let j : is_joined protocol.history.ended ≡ true = joined_frames protocol.history.fault protocol.history.under protocol.history.ended joined in
    let none : m.frames ≡ [] = r.files.part ∙ ap (λ (b : Bool). if b then [] else protocol.history.ended) j in
    let grown : length (pages ++ protocol.history.ended ∷ []) ≡ length pages + 1 = length-append pages (protocol.history.ended ∷ []) in
    let old : protocol.notes.file ≡ suc (length pages) = k.number in
    record {
      files = record {
        part = none;
        all = r.files.all ∙ ap (λ (b : Bool). pages ++ (if b then protocol.history.ended ∷ [] else [])) j ∙ sym (append-nil (pages ++ protocol.history.ended ∷ []));
      };
      stands =
          subst (λ (y : Outcome). OutcomeRefines place target job (pages ++ protocol.history.ended ∷ []) y (protocol_of_next_page protocol).progress (protocol_of_next_page protocol).notes empty_history m) (sym o) (
            record {
              answers = k.answers;
              none = k.none;
              descriptors = k.descriptors;
              told = k.told;
              only = k.only;
              few = k.few;
              number = ap (λ (b : Bool). if b then protocol.notes.file + 1 else protocol.notes.file) w.1 ∙ (omega arith);
              alone = λ e. absurd (let clash : true ≡ false = sym batch ∙ e in cc);
            },
            (w.0, sym (ap is_nil none)),
            tt,
          );
    }
