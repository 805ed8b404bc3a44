-- START and GET_PARAMETERS.
use Rattle.std.proofs.Common.{arith, ◌≡◌, ◌∙◌, ℕ, suc, Option, Some, None, Bool, true, false, not, ◌&&◌, List, [], ◌∷◌, refl, sym, ap, subst, length, lt-ltb}
use Rattle.std.specs.Prelude.{if◌then◌else◌, nat_lt}
use Rattle.sane_fixed.specs.declared.byte_order.ByteOrder.{ByteOrder}
use Rattle.sane_fixed.specs.declared.params.Params.{Params}
use Rattle.sane_fixed.specs.declared.status.Status.{Status}
use Rattle.sane_fixed.specs.declared.status.Status.TheVariants as statuses
use Rattle.page_picture.specs.Shows.{Frame}
use Rattle.frame_join.specs.declared.join_stage.JoinFault.{JoinFault}
use Rattle.frame_join.specs.declared.join_stage.JoinFault.TheVariants as faults
use Rattle.frame_join.specs.FrameHistory.{JoinHistory, with_fault, after_begin_at, after_begin, is_joined, is_accepted}
use Rattle.wire_message.specs.declared.message.Reply.{Reply}
use Rattle.wire_message.specs.declared.message.Reply.TheVariants as replies
use Rattle.scan_job.specs.declared.job.Task.{Task}
use Rattle.scan_job.specs.declared.job.Task.TheVariants as tasks
use Rattle.scan_job.specs.declared.outcome.Why.TheVariants as whys
use Rattle.client_replies.specs.declared.progress.Progress.TheVariants as stages
use Rattle.client_replies.specs.declared.progress.Notes.{Notes}
use Rattle.client_replies.specs.declared.progress.Next.TheVariants.{Finish}
use Rattle.client_replies.specs.ReplyTurns.{turn, stop_by_answer, is_all, started_by, started_with, after_start_reply, begun_by}
use Rattle.client_replies.specs.ProtocolStates.{shows, is_batch, scans, IsBetweenFrames, reports_of, shaped_by, after_params_reply}
use Rattle.system_model.specs.AbstractMessages as words
use Rattle.system_model.specs.Client as model
use Rattle.system_model.specs.ClientReplies.{begins_frame, start_refused}
use Rattle.system_model.specs.Devices.{accepts}
use Rattle.client_refines.specs.DecodedReplies.{reply_if_good, reply_without_resource, decoded_reply_at}
use Rattle.client_refines.specs.ClientRefinement.{is_nil, KnowsAs, ShowRefines}
use Rattle.client_refines.proofs.Sides.{Side, onto, FilesAs, Goes, Hears, ends, awry_ends, refused, part_is, pages_are}

-- ---- START

-- a page is finished, and no frame of the next one
abbrev ran_out : List Frame → List (List Frame) → Bool
ran_out [] [] = false
ran_out [] (page ∷ pages) = true
ran_out (f ∷ frames) pages = false

ran_none : (frames : List Frame) → ran_out frames [] ≡ false
ran_none [] = refl
ran_none (f ∷ frames) = refl

ran_batch : (frames : List Frame) (pages : List (List Frame)) → (is_nil frames && nat_lt 1 (suc (length pages))) ≡ ran_out frames pages
ran_batch [] [] = refl
ran_batch [] (page ∷ pages) = lt-ltb 1 (suc (suc (length pages))) (omega arith)
ran_batch (f ∷ frames) pages = refl

all_is : (task : Task) (pages : List (List Frame)) (first : Bool) (file : ℕ) (frames : List Frame) → scans task ≡ true → first ≡ is_nil frames → file ≡ suc (length pages) → (is_batch task ≡ false → pages ≡ [])
    → is_all task first file ≡ ran_out frames pages
all_is tasks.List pages first file frames s e n a = absurd (let clash : false ≡ true = s in cc)
all_is tasks.Show pages first file frames s e n a = absurd (let clash : false ≡ true = s in cc)
all_is tasks.SetOnly pages first file frames s e n a = absurd (let clash : false ≡ true = s in cc)
all_is tasks.Scan pages first file frames s e n a = sym (ap (λ (ps : List (List Frame)). ran_out frames ps) (a refl) ∙ ran_none frames)
all_is (tasks.Batch count) pages first file frames s e n a = ap (λ (b : Bool). b && nat_lt 1 file) e ∙ ap (λ (i : ℕ). is_nil frames && nat_lt 1 i) n ∙ ran_batch frames pages

shows_none : (task : Task) (notes : Notes) (m : model.ClientView) → scans task ≡ true → ShowRefines (shows task) (reports_of task notes []).options m
shows_none tasks.Show notes m s = absurd (let clash : false ≡ true = s in cc)
shows_none task notes m s = tt

no_docs : (x : Side) (task : Task) (notes : Notes) (m : model.ClientView) (all : Bool) (frames : List Frame) (pages : List (List Frame)) → all ≡ ran_out frames pages → scans task ≡ true → FilesAs x m → KnowsAs task x.pages notes m
    → Goes x task (turn notes (if all then Finish [] else stop_by_answer statuses.NoDocs)) (start_refused statuses.NoDocs frames pages m)
no_docs x task notes m true [] (page ∷ pages) e s f k = (f, record { stage = refl; settings = k.answers; devices = k.none; options = shows_none task notes _ s })
no_docs x task notes m false [] (page ∷ pages) e s f k = absurd (let clash : false ≡ true = e in cc)
no_docs x task notes m true [] [] e s f k = absurd (let clash : true ≡ false = e in cc)
no_docs x task notes m true (g ∷ frames) pages e s f k = absurd (let clash : true ≡ false = e in cc)
no_docs x task notes m false [] [] e s f k = ends x task notes m statuses.NoDocs whys.Answer f
no_docs x task notes m false (g ∷ frames) pages e s f k = ends x task notes m statuses.NoDocs whys.Answer f

starts_by : (x : Side) (task : Task) (notes : Notes) (m : model.ClientView) (all : Bool) (status : Status) (port : ℕ) (order : ByteOrder) → all ≡ ran_out m.frames m.pages → scans task ≡ true → FilesAs x m → KnowsAs task x.pages notes m
    → Hears x task (turn notes (started_by all status port order)) m model.Starting (reply_if_good status (words.Begun order))
starts_by x task notes m all statuses.Good port order e s f k = (f, (k, (refl, refl)))
starts_by x task notes m all statuses.NoDocs port order e s f k = no_docs x task notes m all m.frames m.pages e s f k
starts_by x task notes m all status port order e s f k = ends x task notes m status whys.Answer f

starts_plain : (x : Side) (task : Task) (notes : Notes) (m : model.ClientView) (all : Bool) (status : Status) (port : ℕ) (order : ByteOrder) (resource : List ℕ) → all ≡ ran_out m.frames m.pages → scans task ≡ true → FilesAs x m
    → KnowsAs task x.pages notes m → Hears x task (turn notes (started_with all status port order resource)) m model.Starting (reply_without_resource resource (reply_if_good status (words.Begun order)))
starts_plain x task notes m all status port order [] e s f k = starts_by x task notes m all status port order e s f k
starts_plain x task notes m all status port order (c ∷ bytes) e s f k = awry_ends x task notes m f

pub starts : (x : Side) (task : Task) (notes : Notes) (m : model.ClientView) (first : Bool) (r : Reply) → is_joined x.history.ended ≡ false → first ≡ is_nil m.frames → scans task ≡ true → FilesAs x m → KnowsAs task x.pages notes m
    → Hears x task (turn notes (after_start_reply task first notes.file r)) m model.Starting (decoded_reply_at x.place (stages.Starting first) r)
starts x task notes m first (replies.Start status port order resource) j e s f k =
    starts_plain x task notes m (is_all task first notes.file) status port order resource
    (all_is task x.pages first notes.file m.frames s e k.number k.alone ∙ ap (λ (ps : List (List Frame)). ran_out m.frames ps) (sym (pages_are x m j f))) s f k
starts x task notes m first r j e s f k = awry_ends x task notes m f

-- ---- GET_PARAMETERS

begun_is : (past : JoinHistory) (params : Params) (order : ByteOrder) (b : Bool) → past.fault ≡ None → past.under ≡ None → is_joined past.ended ≡ false → is_accepted past.ended params order ≡ b
    → after_begin params order false past ≡ (if not b then with_fault faults.Shape past else record past { under = Some (record { params = params; order = order; payload = [] }) })
unfolding after_begin
begun_is past params order b c u j a =
    ap (λ (o : Option JoinFault). after_begin_at o past.under params order false past) c ∙ ap (λ (o : Option Frame). after_begin_at None o params order false past) u
    ∙ ap (λ (t : Bool). if t then past else (if not (is_accepted past.ended params order) then with_fault faults.Shape past else record past { under = Some (record { params = params; order = order; payload = [] }) })) j
    ∙ ap (λ (t : Bool). if not t then with_fault faults.Shape past else record past { under = Some (record { params = params; order = order; payload = [] }) }) a

accepts_is : (frames : List Frame) (params : Params) (order : ByteOrder) → accepts frames params order ≡ is_accepted frames params order
unfolding accepts
accepts_is frames params order = refl

begins : (x : Side) (task : Task) (notes : Notes) (m : model.ClientView) (params : Params) (order : ByteOrder) (port : ℕ) (b : Bool) → m.order ≡ order → x.history.fault ≡ None → is_joined x.history.ended ≡ false
    → is_accepted x.history.ended params order ≡ b → FilesAs x m → KnowsAs task x.pages notes m → (past : JoinHistory) → past ≡ (if not b then with_fault faults.Shape x.history else record x.history { under = Some (record { params = params; order = order; payload = [] }) })
    → Goes (onto x past) task (turn notes (begun_by past.fault port)) (record m { stage = begins_frame params b })
begins x task notes m params order port true o c j a f k past e =
    subst (λ (p : JoinHistory). Goes (onto x p) task (turn notes (begun_by p.fault port)) (record m { stage = begins_frame params true })) (sym e)
    (subst (λ (fault : Option JoinFault). Goes (onto x (record x.history { under = Some (record { params = params; order = order; payload = [] }) })) task (turn notes (begun_by fault port)) (record m { stage = begins_frame params true })) (sym c) (
      record { part = f.part; all = f.all },
      (
        k,
        record {
          params = params;
          payload = [];
          stage = refl;
          under = ap (λ (y : ByteOrder). Some (record { params = params; order = y; payload = [] })) (sym o);
          accepted = ap (λ (y : ByteOrder). is_accepted x.history.ended params y) o ∙ a;
          part = j;
        },
      ),
    ))
begins x task notes m params order port false o c j a f k past e =
    subst (λ (p : JoinHistory). Goes (onto x p) task (turn notes (begun_by p.fault port)) (record m { stage = begins_frame params false })) (sym e)
    (record { part = f.part; all = f.all }, refl)

shapes_by : (x : Side) (task : Task) (notes : Notes) (m : model.ClientView) (port : ℕ) (order : ByteOrder) (status : Status) (params : Params) → m.order ≡ order → IsBetweenFrames x.history → FilesAs x m → KnowsAs task x.pages notes m
    → Hears (onto x (shaped_by status port order params x.history).history) task (turn notes (shaped_by status port order params x.history).next) m model.Shaping (reply_if_good status (words.Shaped params))
shapes_by x task notes m port order statuses.Good params o b f k =
    let e : accepts m.frames params m.order ≡ is_accepted x.history.ended params order =
    accepts_is m.frames params m.order ∙ ap (λ (y : ByteOrder). is_accepted m.frames params y) o ∙ ap (λ (fs : List Frame). is_accepted fs params order) (f.part ∙ part_is x.history.ended b.2) in
    subst (λ (t : Bool). Goes (onto x (after_begin params order false x.history)) task (turn notes (begun_by (after_begin params order false x.history).fault port)) (record m { stage = begins_frame params t })) (sym e)
    (begins x task notes m params order port (is_accepted x.history.ended params order) o b.0 b.2 refl f k (after_begin params order false x.history) (begun_is x.history params order (is_accepted x.history.ended params order) b.0 b.1 b.2 refl))
shapes_by x task notes m port order status params o b f k = refused (onto x x.history) task notes m model.Shaping status (λ s. refl) (record { part = f.part; all = f.all })

pub shapes : (x : Side) (task : Task) (notes : Notes) (m : model.ClientView) (port : ℕ) (order : ByteOrder) (r : Reply) → m.order ≡ order → IsBetweenFrames x.history → FilesAs x m → KnowsAs task x.pages notes m
    → Hears (onto x (after_params_reply port order x.history r).history) task (turn notes (after_params_reply port order x.history r).next) m model.Shaping (decoded_reply_at x.place (stages.Shaping port order) r)
shapes x task notes m port order (replies.GetParameters status params) o b f k = shapes_by x task notes m port order status params o b f k
shapes x task notes m port order r o b f k = awry_ends (onto x x.history) task notes m (record { part = f.part; all = f.all })
