-- What a piece of a frame's data makes of the client of its job, and what the model makes of the job by it.
use Rattle.std.specs.Prelude.{if◌then◌else◌, min, IsSome, is_some}
use Rattle.std.proofs.Common.{◌≡◌, ◌⊎◌, inl, inr, ◌∙◌, ℕ, ◌≤◌, ◌<◌, ◌+◌, List, [], ◌∷◌, ◌++◌, Option, Some, None, Bool, true, false, refl, sym, ap, subst, map, length, append-nil, append_assoc, length-append, arith}
use Rattle.std.proofs.lemmas.List.{length-map, take-append-drop}
use Rattle.scan_job.specs.declared.outcome.Why.{Why}
use Rattle.sane_fixed.specs.declared.params.Params.{Params}
use Rattle.sane_fixed.specs.declared.status.Status.{Status}
use Rattle.sane_fixed.specs.declared.status.Status.TheVariants as statuses
use Rattle.page_picture.specs.Shows.{Frame}
use Rattle.data_records.specs.declared.records.RecordPhase.{RecordPhase}
use Rattle.data_records.specs.declared.records.RecordPhase.TheVariants as phases
use Rattle.data_records.specs.Records.{CarriesRecords, HasEnded}
use Rattle.frame_join.specs.FrameHistory.{JoinHistory, is_joined}
use Rattle.scan_job.specs.JobSize.{HasCount}
use Rattle.scan_job.specs.declared.job.Job.{Job}
use Rattle.scan_job.specs.declared.job.Task.{Task}
use Rattle.scan_job.specs.declared.outcome.Outcome.{Outcome}
use Rattle.scan_job.specs.declared.outcome.Outcome.TheVariants as outcomes
use Rattle.scan_job.specs.declared.outcome.Why.TheVariants as whys
use Rattle.scan_job.specs.declared.report.Reports.{Reports}
use Rattle.client_replies.specs.declared.progress.JobTarget.{JobTarget}
use Rattle.client_replies.specs.declared.progress.Next.{Next}
use Rattle.client_replies.specs.declared.progress.Next.TheVariants as next
use Rattle.client_replies.specs.declared.progress.Notes.{Notes}
use Rattle.client_replies.specs.declared.progress.Progress.{Progress}
use Rattle.client_replies.specs.declared.progress.Progress.TheVariants as stages
use Rattle.client_replies.specs.ProtocolStates.{ProtocolState, target_of, is_batch, is_imaging, is_receiving, is_running, is_turning, next_outcome, next_progress, scans, turns}
use Rattle.client_replies.specs.ProtocolStates as client
use Rattle.sane_fixed.specs.Status.{status_of}
use Rattle.net_client.specs.ClientStates.{ClientRepresents, ClientState, protocol_of}
use Rattle.net_client.specs.FramePieces.{Receives}
use Rattle.system_model.specs.AbstractMessages.{AbstractReply, AbstractRequest}
use Rattle.system_model.specs.Devices.{Make, frame_fills, frame_overflows}
use Rattle.system_model.specs.Client as model
use Rattle.system_model.specs.Client.{Imaging, ClientView, Running, JobStage, further_pages, requests_sent}
use Rattle.system_model.specs.Causes.{ClientOutOfMemory, IsCauseAmong, LinkOutOfMemory}
use Rattle.system_model.specs.Daemon.{TransferState}
use Rattle.system_model.specs.Actions.{Action, job_after_frame_end, with_cause}
use Rattle.system_model.specs.Actions as actions
use Rattle.system_model.specs.ClientReplies.{after_page, close_page, close_frame, end_frame, finish_in, client_after_bytes, client_after_stop}
use Rattle.system_model.specs.AbstractDevices.{AbstractDevice}
use Rattle.system_model.specs.Invariants as sound
use Rattle.system_model.specs.SystemStates.{JobState, make_for, device_for}
use Rattle.system_model.specs.Transitions.{IsImaging}
use Rattle.system_model.specs.Sync.{Images}
use Rattle.client_refines.specs.ClientRefinement.{ClientRefines, task_of, wholes}
use Rattle.client_refines.specs.RequestRefinement.{asks_of}
use Rattle.client_refines.specs.PieceRefinement as pieces
use Rattle.client_refines.specs.PieceRefinement.{RecordsBring, EndRecordRefines, EndByteRefines, ReceivesPiece, SpellsSent, SpellsSentAt}
use Rattle.client_refines.proofs.Outcomes.{outcomes_alike}
use Rattle.client_refines.proofs.PieceReceiving.{all_received}
use Rattle.client_refines.proofs.Said.{next_word}
use Rattle.event_world.specs.declared.endpoint.Image.{Image}
use Rattle.event_world.specs.declared.endpoint.Endpoint.{Endpoint}
use Rattle.event_world.specs.Endpoints.{after_move}
use Rattle.event_world.specs.FileDraining.{HasFiles, KeepsFile}
use Rattle.event_world.specs.JobEvents.{is_done, bytes_not_delivered, delivered_bytes, with_image}
use Rattle.world_refines.specs.GhostStates.{Ghost, place_of_info}
use Rattle.world_refines.specs.WorldRefinement.{HasNoEnd, KeepsFiles, EndpointClientRefines, is_laid}
use Rattle.world_refines.specs.Wires.{CarriesFlight, IsDialled, FlightMatches, FlowsAt, SpellsAsked}
use Rattle.world_refines.specs.DataDeliveries.{ReadsBytes, GhostReadsEnd, ReadsShort, open_still, read_actions}
use Rattle.world_refines.proofs.job_events.Cancelling.{laid_not, not_done, other_cause}
use Rattle.world_refines.proofs.frames.Drained.{IsTold, SaysNext, awaits_next, runs_undone}
use Rattle.world_refines.proofs.frames.Unimaged.{no_end, none_some}
use Rattle.world_refines.proofs.frames.ReadOn.{at_end, code_at, left_behind, still_there}
use Rattle.world_refines.proofs.frames.SeenSteps.{MayAll, after_each, each_then, may_read, may_then, party_reads, read_is, reading}

-- ---- what of a client stays

pub record IsKept (old new : ClientState) : Type 0 where
  pub target : new.target ≡ old.target
  pub word : new.notes.word ≡ old.notes.word
  pub input : new.input ≡ old.input
  pub over : is_running new.outcome ≡ false → new.progress ≡ stages.Over

next_over : (task : Task) (notes : Notes) (n : Next) → is_running (next_outcome task notes n) ≡ false → next_progress n ≡ stages.Over
next_over task notes (next.Wait progress) e = absurd (let clash : true ≡ false = e in cc)
next_over task notes (next.Finish devices) e = refl
next_over task notes (next.Stop status why) e = refl

received_kept : (old : ClientState) (past : JoinHistory) (piece : List ℕ) (new : ClientState) → is_running old.outcome ≡ true → Receives old past piece new → IsKept old new
received_kept old past piece new runs (inl g) =
    record {
      target = ap (λ (v : ClientState). v.target) g.rest;
      word = ap (λ (v : ClientState). v.notes.word) g.rest;
      input = ap (λ (v : ClientState). v.input) g.rest;
      over = λ e. absurd (let clash : true ≡ false = sym (ap (λ (v : ClientState). is_running v.outcome) g.rest ∙ runs) ∙ e in cc);
    }
received_kept old past piece new runs (inr (inl g)) =
    record {
      target = ap (λ (v : ClientState). v.target) g.ends.rest;
      word = ap (λ (x : ProtocolState). x.notes.word) g.ends.protocol ∙ next_word old.notes _;
      input = ap (λ (v : ClientState). v.input) g.ends.rest;
      over = λ e. ap (λ (x : ProtocolState). x.progress) g.ends.protocol ∙ next_over old.target.task old.notes _ (sym (ap (λ (x : ProtocolState). is_running x.outcome) g.ends.protocol) ∙ e);
    }
received_kept old past piece new runs (inr (inr g)) =
    record {
      target = ap (λ (v : ClientState). v.target) g.rest;
      word = ap (λ (v : ClientState). v.notes.word) g.rest;
      input = ap (λ (v : ClientState). v.input) g.rest;
      over = λ e. ap (λ (v : ClientState). v.progress) g.rest;
    }

-- ---- the frame, by the model

pub images : (i : ℕ) (k : Make) (p : JobState) (dev : AbstractDevice) (params : Params) (heard : List ℕ) → sound.StageInvariant i k p dev (Running (Imaging params heard)) → Images i k p.session p.client dev params heard
images i k p dev params heard (inl asks) = asks.in_sync
images i k p dev params heard (inr (inl told)) = absurd (told.waits refl)
images i k p dev params heard (inr (inr dead)) = absurd (dead.waits refl)

-- there are never more bytes than it may have
pub within : (i : ℕ) (k : Make) (p : JobState) (dev : AbstractDevice) (params : Params) (heard given bytes_not_delivered : List ℕ) → Images i k p.session p.client dev params heard → p.session.flight ≡ given ++ bytes_not_delivered → frame_overflows params (heard ++ given) ≡ false
within i k p dev params heard given bytes_not_delivered h f =
    let flows : given ++ (bytes_not_delivered ++ h.rest) ≡ p.session.flight ++ h.rest = sym (append_assoc given bytes_not_delivered h.rest) ∙ ap (λ (l : List ℕ). l ++ h.rest) (sym f) in
    let whole : (heard ++ given) ++ (bytes_not_delivered ++ h.rest) ≡ h.frame.payload = append_assoc heard given (bytes_not_delivered ++ h.rest) ∙ (ap (λ (l : List ℕ). heard ++ l) flows ∙ h.payload) in
    subst (λ (x : Params). frame_overflows x (heard ++ given) ≡ false) (sym h.params_are) (h.continues.proper.1 (heard ++ given) (bytes_not_delivered ++ h.rest) whole)

-- the pages before it are fewer than those of the job
pub fewer_pages : (past : JoinHistory) (pages : List JoinHistory) (all : List (List Frame)) (n : ℕ) → all ≡ map (λ (q : JoinHistory). q.ended) pages ++ wholes past.ended → length all ≤ n → n ≤ 15 → length pages < 16
fewer_pages past pages all n e most few =
    let count : length all ≡ length (map (λ (q : JoinHistory). q.ended) pages) + length (wholes past.ended) = ap (λ (x : List (List Frame)). length x) e ∙ length-append (map (λ (q : JoinHistory). q.ended) pages) (wholes past.ended) in
    let same : length (map (λ (q : JoinHistory). q.ended) pages) ≡ length pages = length-map pages (λ (q : JoinHistory). q.ended) in
    omega (arith, count, same, most, few)

-- ---- its end

-- nothing flows behind it
page_flows : (b : Bool) (c : TransferState) (progress : Progress) (phase : RecordPhase) → FlightMatches (after_page b) c progress phase None [] None
page_flows true c progress phase = record { image_is = refl; flight_is = refl; ending_is = refl }
page_flows false c progress phase = tt

close_flows : (b : Bool) (task : model.AbstractTask) (f : Frame) (m : ClientView) (c : TransferState) (progress : Progress) (phase : RecordPhase) → FlightMatches (close_page b task f m).stage c progress phase None [] None
close_flows true task f m c progress phase = page_flows _ c progress phase
close_flows false task f m c progress phase = record { image_is = refl; flight_is = refl; ending_is = refl }

frame_flows : (b : Bool) (task : model.AbstractTask) (params : Params) (heard : List ℕ) (m : ClientView) (c : TransferState) (progress : Progress) (phase : RecordPhase) → FlightMatches (close_frame b task params heard m).stage c progress phase None [] None
frame_flows true task params heard m c progress phase = close_flows params.last_frame task _ m c progress phase
frame_flows false task params heard m c progress phase = tt

end_flows : (status : Status) (task : model.AbstractTask) (params : Params) (heard : List ℕ) (m : ClientView) (c : TransferState) (progress : Progress) (phase : RecordPhase) → FlightMatches (end_frame status task params heard m).stage c progress phase None [] None
end_flows statuses.Eof task params heard m c progress phase = frame_flows (frame_fills params heard) task params heard m c progress phase
end_flows statuses.Good task params heard m c progress phase = tt
end_flows statuses.Unsupported task params heard m c progress phase = tt
end_flows statuses.Cancelled task params heard m c progress phase = tt
end_flows statuses.DeviceBusy task params heard m c progress phase = tt
end_flows statuses.Inval task params heard m c progress phase = tt
end_flows statuses.Jammed task params heard m c progress phase = tt
end_flows statuses.NoDocs task params heard m c progress phase = tt
end_flows statuses.CoverOpen task params heard m c progress phase = tt
end_flows statuses.IoError task params heard m c progress phase = tt
end_flows statuses.NoMem task params heard m c progress phase = tt
end_flows statuses.AccessDenied task params heard m c progress phase = tt

-- what is so of a client view behind an end: it knows its descriptors, is connected, and is done with a page that is whole alone
pub record IsEnd (m old : ClientView) : Type 0 where
  pub known : m.known ≡ old.known
  pub alive : m.stage ≡ model.Idle → ⊥
  pub done : m.stage ≡ model.Done → (frames : List Frame) × (m.pages ≡ old.pages ++ frames ∷ [])

page_end : (b : Bool) (m : ClientView) (f : Frame) → IsEnd (record m { stage = after_page b; frames = []; pages = m.pages ++ (m.frames ++ f ∷ []) ∷ [] }) m
page_end true m f = record { known = refl; alive = λ e. let clash : Running model.Starting ≡ model.Idle = e in absurd (cc); done = λ e. (m.frames ++ f ∷ [], refl) }
page_end false m f = record { known = refl; alive = λ e. let clash : model.Done ≡ model.Idle = e in absurd (cc); done = λ e. (m.frames ++ f ∷ [], refl) }

close_end : (b : Bool) (task : model.AbstractTask) (f : Frame) (m : ClientView) → IsEnd (close_page b task f m) m
close_end true task f m = page_end _ m f
close_end false task f m = record { known = refl; alive = λ e. let clash : Running model.Starting ≡ model.Idle = e in absurd (cc); done = λ e. let clash : Running model.Starting ≡ model.Done = e in absurd (cc) }

stopped_end : (status : Status) (why : Why) (m : ClientView) → IsEnd (record m { stage = model.Ended status why }) m
stopped_end status why m = record { known = refl; alive = λ e. let clash : model.Ended status why ≡ model.Idle = e in absurd (cc); done = λ e. let clash : model.Ended status why ≡ model.Done = e in absurd (cc) }

frame_end : (b : Bool) (task : model.AbstractTask) (params : Params) (heard : List ℕ) (m : ClientView) → IsEnd (close_frame b task params heard m) m
frame_end true task params heard m = close_end params.last_frame task _ m
frame_end false task params heard m = stopped_end statuses.IoError whys.Short m

end_end : (status : Status) (task : model.AbstractTask) (params : Params) (heard : List ℕ) (m : ClientView) → IsEnd (end_frame status task params heard m) m
end_end statuses.Eof task params heard m = frame_end (frame_fills params heard) task params heard m
end_end statuses.Good task params heard m = stopped_end statuses.IoError whys.Malformed m
end_end statuses.Unsupported task params heard m = stopped_end statuses.Unsupported whys.Answer m
end_end statuses.Cancelled task params heard m = stopped_end statuses.Cancelled whys.Answer m
end_end statuses.DeviceBusy task params heard m = stopped_end statuses.DeviceBusy whys.Answer m
end_end statuses.Inval task params heard m = stopped_end statuses.Inval whys.Answer m
end_end statuses.Jammed task params heard m = stopped_end statuses.Jammed whys.Answer m
end_end statuses.NoDocs task params heard m = stopped_end statuses.NoDocs whys.Answer m
end_end statuses.CoverOpen task params heard m = stopped_end statuses.CoverOpen whys.Answer m
end_end statuses.IoError task params heard m = stopped_end statuses.IoError whys.Answer m
end_end statuses.NoMem task params heard m = stopped_end statuses.NoMem whys.Answer m
end_end statuses.AccessDenied task params heard m = stopped_end statuses.AccessDenied whys.Answer m

-- the frames of a client that is done with a page are whole
joined_by : (b : Bool) (past : JoinHistory) (front : List (List Frame)) (x : List Frame) → is_joined past.ended ≡ b → front ++ x ∷ [] ≡ front ++ wholes past.ended → b ≡ true
joined_by true past front x e same = refl
joined_by false past front x e same =
    let none : wholes past.ended ≡ [] = ap (λ (c : Bool). if c then past.ended ∷ [] else []) e in
    let count : length front + 1 ≡ length front + length (wholes past.ended) = sym (length-append front (x ∷ [])) ∙ (ap (λ (l : List (List Frame)). length l) same ∙ length-append front (wholes past.ended)) in
    let zero_ : length (wholes past.ended) ≡ 0 = ap (λ (l : List (List Frame)). length l) none in
    absurd (omega (arith, count, zero_))

-- ---- what stands of a job whose client takes the data of a frame

pub record IsReader (t : Ghost) (i : ℕ) (p : Endpoint) (bytes : List ℕ) : Type 0 where
  pub params : Params
  pub heard : List ℕ
  pub stage : (t.system.job i).client.stage ≡ Running (Imaging params heard)
  pub images : Images i (make_for t.system i) (t.system.job i).session (t.system.job i).client (device_for t.system i) params heard
  pub few : length (t.pages i) < 16
  pub made : (t.system.job i).image ≡ true
  pub unended : HasNoEnd (t.system.job i).session.transfer (t.system.job i).session.ending
  pub runs : is_running p.client.outcome ≡ true
  pub receiving : is_receiving p.client.outcome p.client.progress ≡ true
  pub wants : client.wanted_port p.client.progress ≡ None
  pub flows : (progress : Progress) (phase : RecordPhase) (image : Option (List ℕ)) (flight : List ℕ) (ending : Option Status) → IsDialled progress phase image flight ending → FlowsAt (t.system.job i).session.transfer progress phase image flight ending
  pub carried : CarriesFlight p.client.phase bytes (t.system.job i).session.flight (t.system.job i).session.ending
  pub exchanges : EndpointClientRefines (place_of_info t.infos) (t.jobs i) (t.history i) (t.pages i) (t.system.job i) p
  pub reads : ClientRefines (place_of_info t.infos) (target_of (t.jobs i)) (t.system.job i).session.job (map (λ (q : JoinHistory). q.ended) (t.pages i)) (protocol_of p.client (t.history i)) (t.system.job i).client
  pub part : is_joined (t.history i).ended ≡ false
  pub scanning : scans (t.jobs i).task ≡ true

-- ---- what the piece leaves

-- of the job by the model, of whose data connection so much is left
pub record IsThen (me now : JobState) (open_ : Option (List ℕ)) (asks : List AbstractRequest) : Type 0 where
  pub job : now.session.job ≡ me.session.job
  pub transfer : now.session.transfer ≡ me.session.transfer
  pub awaited : now.session.awaited ≡ me.session.awaited
  pub started : now.session.started ≡ me.session.started
  pub met : IsCauseAmong LinkOutOfMemory now.session.met → IsCauseAmong LinkOutOfMemory me.session.met
  pub linked : now.linked ≡ me.linked
  pub served : now.served ≡ me.served
  pub due : now.due ≡ me.due
  pub todo : now.todo ≡ me.todo ++ asks
  pub known : now.client.known ≡ me.client.known
  pub alive : now.client.stage ≡ model.Idle → ⊥
  pub image : IsSome open_ → now.image ≡ true
  pub last : IsSome open_ → is_some now.session.ending ≡ is_some me.session.ending
  pub unended : HasNoEnd now.session.transfer now.session.ending

-- and of its client, before its file is pulled
pub record IsMid (t : Ghost) (i : ℕ) (p : Endpoint) (piece bytes_not_delivered : List ℕ) (endpoint : Endpoint) (mid : ClientState) : Type 0 where
  pub come : List Action
  pub may : MayAll (t.system.job i) come
  pub now : JobState
  pub now_is : after_each (t.system.job i) come ≡ now
  pub history : JoinHistory
  pub told : IsTold (place_of_info t.infos) (t.jobs i) (t.system.job i).session.job history (t.pages i) now.client (record endpoint { client = mid })
  pub input : mid.input ≡ p.client.input
  pub sent : List ℕ
  pub out : mid.out ≡ p.client.out ++ sent
  pub asks : List AbstractRequest
  pub says : (more : List ℕ) → SaysNext (turns mid.outcome mid.progress) (t.jobs i) now.client more → SpellsAsked (t.jobs i) now.client asks (sent ++ more)
  pub then_is : IsThen (t.system.job i) now (open_still (t.system.job i).session.ending bytes_not_delivered) asks
  pub flow : FlightMatches now.client.stage now.session.transfer (awaits_next (turns mid.outcome mid.progress) mid.progress) mid.phase (open_still (t.system.job i).session.ending bytes_not_delivered) now.session.flight now.session.ending
  pub comes : (u : Ghost) (more : List ℕ) → u.system.job i ≡ now → SaysNext (turns mid.outcome mid.progress) (t.jobs i) now.client more →
      ReadsBytes p.client.phase piece come (sent ++ more) ⊎ (GhostReadsEnd p.client.phase piece come t i u (sent ++ more) ⊎ ReadsShort p.client.phase piece come (sent ++ more))
  -- a batch is done with a page that is whole
  pub whole : is_done mid.outcome ≡ true → is_joined history.ended ≡ true

-- the endpoint whose client that is
abbrev pub handed : ℕ → Image → Endpoint → Endpoint
handed n image p = with_image (record image { bytes = bytes_not_delivered n image.bytes }) (after_move p)

files_handed : (b : Bool) (given : List ℕ) (past : JoinHistory) (pages : List JoinHistory) (n : ℕ) (image : Image) (p : Endpoint) (mid : ClientState) → b ≡ false → past.given ≡ given → (was : JoinHistory) → was.given ≡ given → KeepsFiles b was pages p → HasFiles past.given pages (record (handed n image p) { client = mid })
files_handed true given past pages n image p mid e is was was_is f = absurd (let clash : true ≡ false = e in cc)
files_handed false given past pages n image p mid e is was was_is f =
    record { file = subst (λ (l : List ℕ). KeepsFile p.out_of_memory l p.file) (was_is ∙ sym is) f.file; each = f.each; count = f.count; room = f.room }

told_mid : (t : Ghost) (i : ℕ) (p : Endpoint) (bytes : List ℕ) (n : ℕ) (image : Image) (mid : ClientState) (past : JoinHistory) (m : ClientView) → IsReader t i p bytes → IsKept p.client mid → ClientRepresents past mid → past.given ≡ (t.history i).given →
    ClientRefines (place_of_info t.infos) p.client.target (t.system.job i).session.job (map (λ (q : JoinHistory). q.ended) (t.pages i)) (protocol_of mid past) m → IsTold (place_of_info t.infos) (t.jobs i) (t.system.job i).session.job past (t.pages i) m (record (handed n image p) { client = mid })
told_mid t i p bytes n image mid past m h kept serves given r =
    record {
      task = h.exchanges.task;
      target = kept.target ∙ h.exchanges.target;
      word = λ _. kept.word ∙ h.exchanges.word h.runs;
      over = kept.over;
      serves = serves;
      reads = subst (λ (x : JobTarget). ClientRefines (place_of_info t.infos) x (t.system.job i).session.job (map (λ (q : JoinHistory). q.ended) (t.pages i)) (protocol_of mid past) m) h.exchanges.target r;
      files = files_handed (is_laid (t.jobs i).task p.client.outcome (t.history i)) (t.history i).given past (t.pages i) n image p mid (laid_not (t.jobs i).task p.client.outcome (t.history i) (not_done p.client.outcome h.runs)) given (t.history i) refl h.exchanges.files;
      finished = h.exchanges.finished;
      alone = h.exchanges.alone;
      scanned = λ e joined. h.scanning;
    }

-- ---- what is sent

spells_nothing : (job : Job) (m : ClientView) → SpellsAsked job m [] []
spells_nothing job m = record { requests = []; text = refl; same = tt }

silent : (b : Bool) (job : Job) (m : ClientView) (more : List ℕ) → b ≡ false → SaysNext b job m more → more ≡ []
silent true job m more e s = absurd (let clash : true ≡ false = e in cc)
silent false job m more e s = s

says_nothing : (b : Bool) (job : Job) (m : ClientView) (more : List ℕ) → b ≡ false → SaysNext b job m more → SpellsAsked job m [] ([] ++ more)
says_nothing b job m more e s = subst (λ (l : List ℕ). SpellsAsked job m [] l) (sym (silent b job m more e s)) (spells_nothing job m)

turns_over : (o : Outcome) (progress : Progress) → is_running o ≡ false → turns o progress ≡ false
turns_over outcomes.Running progress e = absurd (let clash : true ≡ false = e in cc)
turns_over (outcomes.Done reports) progress e = refl
turns_over (outcomes.Ended status why) progress e = refl

turns_else : (o : Outcome) (progress : Progress) → is_turning progress ≡ false → turns o progress ≡ false
turns_else outcomes.Running progress e = e
turns_else (outcomes.Done reports) progress e = refl
turns_else (outcomes.Ended status why) progress e = refl

turns_imaging : (o : Outcome) (progress : Progress) → is_receiving o progress ≡ true → turns o progress ≡ false
turns_imaging o (stages.Imaging port made) e = turns_else o (stages.Imaging port made) refl
turns_imaging o progress e = absurd (let clash : false ≡ true = e in cc)

-- what goes out at an end, and as the file of a page is taken behind it
turning_spells : (o : Outcome) (job : Job) (ruled : model.AbstractJob) (m : ClientView) (sent more : List ℕ) → (is_running o ≡ false → stages.Turning ≡ stages.Over) → SpellsSentAt (target_of job) 0 stages.Turning sent ruled m → SaysNext (turns o stages.Turning) job m more → SpellsAsked job m (requests_sent ruled.task m.stage) (sent ++ more)
turning_spells outcomes.Running job ruled m sent more over s n =
    subst (λ (l : List ℕ). SpellsAsked job m (requests_sent ruled.task m.stage) (l ++ more)) (sym s.0) (subst (λ (asks : List AbstractRequest). SpellsAsked job m asks more) (sym s.1) n)
turning_spells (outcomes.Done reports) job ruled m sent more over s n = absurd (let clash : stages.Turning ≡ stages.Over = over refl in cc)
turning_spells (outcomes.Ended status why) job ruled m sent more over s n = absurd (let clash : stages.Turning ≡ stages.Over = over refl in cc)

still_spells : (o : Outcome) (progress : Progress) (job : Job) (ruled : model.AbstractJob) (m : ClientView) (sent more : List ℕ) → is_turning progress ≡ false → SpellsSent (target_of job) sent (asks_of 0 m.known (requests_sent ruled.task m.stage)) → SaysNext (turns o progress) job m more → SpellsAsked job m (requests_sent ruled.task m.stage) (sent ++ more)
still_spells o progress job ruled m sent more e s n =
    subst (λ (l : List ℕ). SpellsAsked job m (requests_sent ruled.task m.stage) (sent ++ l)) (sym (silent (turns o progress) job m more (turns_else o progress e) n))
    (subst (λ (l : List ℕ). SpellsAsked job m (requests_sent ruled.task m.stage) l) (sym (append-nil sent)) s)

spells_both : (o : Outcome) (progress : Progress) (job : Job) (ruled : model.AbstractJob) (m : ClientView) (sent more : List ℕ) → (is_running o ≡ false → progress ≡ stages.Over) → SpellsSentAt (target_of job) 0 progress sent ruled m → SaysNext (turns o progress) job m more → SpellsAsked job m (requests_sent ruled.task m.stage) (sent ++ more)
spells_both o stages.Turning job ruled m sent more over s n = turning_spells o job ruled m sent more over s n
spells_both o progress job ruled m sent more over s n = still_spells o progress job ruled m sent more refl s n

-- ---- bytes of the frame

is_imaged : (t : Ghost) (i : ℕ) (p : Endpoint) (bytes : List ℕ) → IsReader t i p bytes → IsImaging (t.system.job i).client.stage
is_imaged t i p bytes h = (h.params, h.heard, h.stage)

goes : (t : Ghost) (i : ℕ) (p : Endpoint) (n : ℕ) (image : Image) (piece : List ℕ) (mid : ClientState) (given : List ℕ) (past : JoinHistory) → IsReader t i p image.bytes → piece ++ bytes_not_delivered n image.bytes ≡ image.bytes → IsKept p.client mid → CarriesRecords p.client.phase mid.phase piece given → mid ≡ record p.client { phase = mid.phase; join = mid.join } → (HasEnded mid.phase → ⊥) →
    ClientRepresents past mid → past.given ≡ (t.history i).given → ClientRefines (place_of_info t.infos) p.client.target (t.system.job i).session.job (map (λ (q : JoinHistory). q.ended) (t.pages i)) (protocol_of mid past) (client_after_bytes (t.system.job i).client.stage (t.system.job i).client given) → IsMid t i p piece (bytes_not_delivered n image.bytes) (handed n image p) mid
goes t i p n image piece mid given past h whole kept carries same going serves given_is r =
    let me = t.system.job i in
    let rest = bytes_not_delivered n image.bytes in
    let place = place_of_info t.infos in
    let shown : List (List Frame) = map (λ (q : JoinHistory). q.ended) (t.pages i) in
    let behind = left_behind p.client.phase mid.phase piece rest me.session.flight given me.session.ending carries (subst (λ (l : List ℕ). CarriesFlight p.client.phase l me.session.flight me.session.ending) (sym whole) h.carried) in
    let short = within i (make_for t.system i) me (device_for t.system i) h.params h.heard given behind.rest h.images behind.flight_is in
    let now : JobState = reading me h.params (h.heard ++ given) behind.rest in
    let view = read_is me.client h.params h.heard given h.stage short in
    let progress : mid.progress ≡ p.client.progress = ap (λ (v : ClientState). v.progress) same in
    let still : turns mid.outcome mid.progress ≡ false = ap (λ (v : ClientState). turns v.outcome v.progress) same ∙ turns_imaging p.client.outcome p.client.progress h.receiving in
    let there = still_there mid.phase rest behind.rest me.session.ending going behind.carried in
    record {
      come = read_actions given;
      may = may_read me given behind.rest (is_imaged t i p image.bytes h) behind.flight_is;
      now = now;
      now_is = party_reads me h.params h.heard given behind.rest h.stage behind.flight_is short;
      history = past;
      told = told_mid t i p image.bytes n image mid past now.client h kept serves given_is (subst (λ (m : ClientView). ClientRefines place p.client.target me.session.job shown (protocol_of mid past) m) view r);
      input = kept.input;
      sent = [];
      out = ap (λ (v : ClientState). v.out) same ∙ sym (append-nil p.client.out);
      asks = [];
      says = λ more s. says_nothing (turns mid.outcome mid.progress) (t.jobs i) now.client more still s;
      then_is = record {
        job = refl;
        transfer = refl;
        awaited = refl;
        started = refl;
        met = λ x. x;
        linked = refl;
        served = refl;
        due = refl;
        todo = sym (append-nil me.todo);
        known = refl;
        alive = λ e. let clash : Running (Imaging h.params (h.heard ++ given)) ≡ model.Idle = e in absurd (cc);
        image = λ _. h.made;
        last = λ _. refl;
        unended = h.unended;
      };
      flow =
          subst (λ (x : Option (List ℕ)). FlowsAt me.session.transfer (awaits_next (turns mid.outcome mid.progress) mid.progress) mid.phase x behind.rest me.session.ending) (sym there)
          (subst (λ (b : Bool). FlowsAt me.session.transfer (awaits_next b mid.progress) mid.phase (Some rest) behind.rest me.session.ending) (sym still)
          (h.flows mid.progress mid.phase (Some rest) behind.rest me.session.ending (record { wants = ap client.wanted_port progress ∙ h.wants; text = rest; image_is = refl; carried = behind.carried })));
      comes = λ u more is s. inl (record { given = given; new = mid.phase; carries = carries; steps_are = refl; silent = silent (turns mid.outcome mid.progress) (t.jobs i) now.client more still s });
      whole = λ done. absurd (runs_undone mid.outcome (ap (λ (v : ClientState). is_running v.outcome) same ∙ h.runs) done);
    }

-- ---- its end

back_none : (xs ys : List ℕ) → xs ++ ys ≡ [] → ys ≡ []
back_none [] ys e = e
back_none (x ∷ xs) ys e = absurd (let clash : x ∷ (xs ++ ys) ≡ [] = e in cc)

is_done_so : (o : Outcome) → is_done o ≡ true → (reports : Reports) × (o ≡ outcomes.Done reports)
is_done_so outcomes.Running e = absurd (let clash : false ≡ true = e in cc)
is_done_so (outcomes.Done reports) e = (reports, refl)
is_done_so (outcomes.Ended status why) e = absurd (let clash : false ≡ true = e in cc)

-- a client that is done with its frame has a page that is whole
whole_page : (t : Ghost) (i : ℕ) (p : Endpoint) (bytes : List ℕ) (mid : ClientState) (past : JoinHistory) (m : ClientView) → IsReader t i p bytes → IsEnd m (t.system.job i).client → ClientRefines (place_of_info t.infos) p.client.target (t.system.job i).session.job (map (λ (q : JoinHistory). q.ended) (t.pages i)) (protocol_of mid past) m →
    is_done mid.outcome ≡ true → is_joined past.ended ≡ true
whole_page t i p bytes mid past m h end_ r done =
    let shown : List (List Frame) = map (λ (q : JoinHistory). q.ended) (t.pages i) in
    let d = is_done_so mid.outcome done in
    let stage = ((outcomes_alike (place_of_info t.infos) p.client.target (t.system.job i).session.job shown (protocol_of mid past) m r).done d.0 d.1).stage in
    let page = end_.done stage in
    let none : wholes (t.history i).ended ≡ [] = ap (λ (b : Bool). if b then (t.history i).ended ∷ [] else []) h.part in
    let before : (t.system.job i).client.pages ≡ shown = h.reads.files.all ∙ (ap (λ (x : List (List Frame)). shown ++ x) none ∙ append-nil shown) in
    joined_by (is_joined past.ended) past shown page.0 refl (sym (ap (λ (x : List (List Frame)). x ++ page.0 ∷ []) before) ∙ (sym page.1 ∙ r.files.all))

ends : (t : Ghost) (i : ℕ) (p : Endpoint) (n : ℕ) (image : Image) (piece : List ℕ) (mid : ClientState) (given : List ℕ) (number : ℕ) (past : JoinHistory) (sent : List ℕ) → IsReader t i p image.bytes → piece ++ bytes_not_delivered n image.bytes ≡ image.bytes → IsKept p.client mid → RecordsBring p.client.phase (phases.Ended number) piece given → mid.out ≡ p.client.out ++ sent →
    EndByteRefines (place_of_info t.infos) p.client.target (t.system.job i).session.job (map (λ (q : JoinHistory). q.ended) (t.pages i)) (t.history i).given past mid (client_after_bytes (t.system.job i).client.stage (t.system.job i).client given) sent (status_of number) → IsMid t i p piece (bytes_not_delivered n image.bytes) (handed n image p) mid
ends t i p n image piece mid given number past sent h whole kept b out e =
    let me = t.system.job i in
    let rest = bytes_not_delivered n image.bytes in
    let place = place_of_info t.infos in
    let shown : List (List Frame) = map (λ (q : JoinHistory). q.ended) (t.pages i) in
    let all : b.used ++ (b.rest ++ rest) ≡ image.bytes = sym (append_assoc b.used b.rest rest) ∙ (ap (λ (l : List ℕ). l ++ rest) (sym b.whole) ∙ whole) in
    let a = at_end p.client.phase number b.used (b.rest ++ rest) me.session.flight given me.session.ending b.carries (subst (λ (l : List ℕ). CarriesFlight p.client.phase l me.session.flight me.session.ending) (sym all) h.carried) in
    let flight : me.session.flight ≡ given ++ [] = a.flight_is ∙ sym (append-nil given) in
    let short = within i (make_for t.system i) me (device_for t.system i) h.params h.heard given [] h.images flight in
    let heard = h.heard ++ given in
    let was : JobState = reading me h.params heard [] in
    let status = a.code in
    let now : JobState = job_after_frame_end was status in
    let come = read_actions given ++ actions.Finishes status ∷ [] in
    let read = party_reads me h.params h.heard given [] h.stage flight short in
    let ended = end_end status me.session.job.task h.params heard was.client in
    let is_end : IsEnd now.client me.client = record { known = ended.known; alive = ended.alive; done = ended.done } in
    let closes : EndRecordRefines place p.client.target me.session.job shown (t.history i).given past mid now.client sent =
    subst (λ (m : ClientView). EndRecordRefines place p.client.target me.session.job shown (t.history i).given past mid (finish_in m.stage me.session.job.task m status) sent) (read_is me.client h.params h.heard given h.stage short)
    (subst (λ (o : Option Status). EndByteRefines place p.client.target me.session.job shown (t.history i).given past mid (client_after_bytes me.client.stage me.client given) sent o) (ap status_of a.number ∙ code_at a.code) e) in
    let word : mid.notes.word ≡ 0 = kept.word ∙ h.exchanges.word h.runs in
    let spell : SpellsSentAt (target_of (t.jobs i)) 0 mid.progress sent me.session.job now.client =
    subst (λ (x : JobTarget). SpellsSentAt x 0 mid.progress sent me.session.job now.client) h.exchanges.target (subst (λ (w : ℕ). SpellsSentAt p.client.target w mid.progress sent me.session.job now.client) word closes.spells) in
    let shut : open_still me.session.ending rest ≡ None = ap (λ (o : Option Status). open_still o rest) a.closing_is ∙ ap (open_still (Some status)) (back_none b.rest rest a.more_is) in
    let spells : (more : List ℕ) → SaysNext (turns mid.outcome mid.progress) (t.jobs i) now.client more → SpellsAsked (t.jobs i) now.client (requests_sent me.session.job.task now.client.stage) (sent ++ more) = λ more s. spells_both mid.outcome mid.progress (t.jobs i) me.session.job now.client sent more kept.over spell s in
    record {
      come = come;
      may = may_then me (read_actions given) (actions.Finishes status ∷ []) (may_read me given [] (is_imaged t i p image.bytes h) flight) (subst (λ (q : JobState). MayAll q (actions.Finishes status ∷ [])) (sym read) (((h.params, heard, refl), refl, a.closing_is), tt));
      now = now;
      now_is = each_then me (read_actions given) (actions.Finishes status ∷ []) ∙ ap (λ (q : JobState). after_each q (actions.Finishes status ∷ [])) read;
      history = past;
      told = told_mid t i p image.bytes n image mid past now.client h kept closes.stands.serves closes.stands.given_is closes.stands.reads;
      input = kept.input;
      sent = sent;
      out = out;
      asks = requests_sent me.session.job.task now.client.stage;
      says = spells;
      then_is = record {
        job = refl;
        transfer = refl;
        awaited = refl;
        started = refl;
        met = λ x. x;
        linked = refl;
        served = refl;
        due = refl;
        todo = refl;
        known = ended.known;
        alive = ended.alive;
        image = λ some. absurd (none_some (open_still me.session.ending rest) shut some);
        last = λ some. absurd (none_some (open_still me.session.ending rest) shut some);
        unended = no_end me.session.transfer;
      };
      flow =
          subst (λ (x : Option (List ℕ)). FlightMatches now.client.stage me.session.transfer (awaits_next (turns mid.outcome mid.progress) mid.progress) mid.phase x [] None) (sym shut)
          (end_flows status me.session.job.task h.params heard was.client me.session.transfer (awaits_next (turns mid.outcome mid.progress) mid.progress) mid.phase);
      comes = λ u more is s. inr (inl (record {
        given = given;
        code = a.code;
        brings = subst (λ (x : ℕ). RecordsBring p.client.phase (phases.Ended x) piece given) a.number b;
        steps_are = refl;
        spells = subst (λ (q : JobState). SpellsAsked (t.jobs i) q.client (requests_sent me.session.job.task q.client.stage) (sent ++ more)) (sym is) (spells more s);
      }));
      whole = whole_page t i p image.bytes mid past now.client h is_end closes.stands.reads;
    }

-- ---- out of memory

starved_else : LinkOutOfMemory ≡ ClientOutOfMemory → ⊥
starved_else e = absurd (cc)

starves : (t : Ghost) (i : ℕ) (p : Endpoint) (n : ℕ) (image : Image) (piece : List ℕ) (mid : ClientState) (given more : List ℕ) (phase : RecordPhase) (past : JoinHistory) → IsReader t i p image.bytes → piece ++ bytes_not_delivered n image.bytes ≡ image.bytes → IsKept p.client mid → RecordsBring p.client.phase phase piece (given ++ more) → mid.out ≡ p.client.out →
    mid.outcome ≡ outcomes.Ended statuses.NoMem whys.Memory → ClientRepresents past mid → past.given ≡ (t.history i).given →
    ClientRefines (place_of_info t.infos) p.client.target (t.system.job i).session.job (map (λ (q : JoinHistory). q.ended) (t.pages i)) (protocol_of mid past) (client_after_stop statuses.NoMem whys.Memory (client_after_bytes (t.system.job i).client.stage (t.system.job i).client given)) → IsMid t i p piece (bytes_not_delivered n image.bytes) (handed n image p) mid
starves t i p n image piece mid given more phase past h whole kept b out outcome serves given_is r =
    let me = t.system.job i in
    let rest = bytes_not_delivered n image.bytes in
    let place = place_of_info t.infos in
    let shown : List (List Frame) = map (λ (q : JoinHistory). q.ended) (t.pages i) in
    let all : b.used ++ (b.rest ++ rest) ≡ image.bytes = sym (append_assoc b.used b.rest rest) ∙ (ap (λ (l : List ℕ). l ++ rest) (sym b.whole) ∙ whole) in
    let behind = left_behind p.client.phase phase b.used (b.rest ++ rest) me.session.flight (given ++ more) me.session.ending b.carries (subst (λ (l : List ℕ). CarriesFlight p.client.phase l me.session.flight me.session.ending) (sym all) h.carried) in
    let flight : me.session.flight ≡ given ++ (more ++ behind.rest) = behind.flight_is ∙ append_assoc given more behind.rest in
    let short = within i (make_for t.system i) me (device_for t.system i) h.params h.heard given (more ++ behind.rest) h.images flight in
    let was : JobState = reading me h.params (h.heard ++ given) (more ++ behind.rest) in
    let now : JobState = record was { client = client_after_stop statuses.NoMem whys.Memory was.client; session = with_cause was.session ClientOutOfMemory } in
    let read = party_reads me h.params h.heard given (more ++ behind.rest) h.stage flight short in
    let over : is_running mid.outcome ≡ false = ap is_running outcome in
    let still = turns_over mid.outcome mid.progress over in
    record {
      come = read_actions given ++ actions.RunsOutOfMemory ∷ [];
      may = may_then me (read_actions given) (actions.RunsOutOfMemory ∷ []) (may_read me given (more ++ behind.rest) (is_imaged t i p image.bytes h) flight) (subst (λ (q : JobState). MayAll q (actions.RunsOutOfMemory ∷ [])) (sym read) ((Imaging h.params (h.heard ++ given), refl), tt));
      now = now;
      now_is = each_then me (read_actions given) (actions.RunsOutOfMemory ∷ []) ∙ ap (λ (q : JobState). after_each q (actions.RunsOutOfMemory ∷ [])) read;
      history = past;
      told =
          told_mid t i p image.bytes n image mid past now.client h kept serves given_is
          (subst (λ (m : ClientView). ClientRefines place p.client.target me.session.job shown (protocol_of mid past) (client_after_stop statuses.NoMem whys.Memory m)) (read_is me.client h.params h.heard given h.stage short) r);
      input = kept.input;
      sent = [];
      out = out ∙ sym (append-nil p.client.out);
      asks = [];
      says = λ later s. says_nothing (turns mid.outcome mid.progress) (t.jobs i) now.client later still s;
      then_is = record {
        job = refl;
        transfer = refl;
        awaited = refl;
        started = refl;
        met = λ x. other_cause LinkOutOfMemory ClientOutOfMemory me.session.met starved_else x;
        linked = refl;
        served = refl;
        due = refl;
        todo = sym (append-nil me.todo);
        known = refl;
        alive = λ e. let clash : model.Ended statuses.NoMem whys.Memory ≡ model.Idle = e in absurd (cc);
        image = λ _. h.made;
        last = λ _. refl;
        unended = h.unended;
      };
      flow = tt;
      comes = λ u later is s. inr (inr (record { given = given; more = more; new = phase; brings = b; steps_are = refl; silent = silent (turns mid.outcome mid.progress) (t.jobs i) now.client later still s }));
      whole = λ done. absurd (let clash : false ≡ true = sym (ap is_done outcome) ∙ done in cc);
    }

-- ---- more than the frame may have: there never is

overflows_never : (t : Ghost) (i : ℕ) (p : Endpoint) (n : ℕ) (image : Image) (piece : List ℕ) (mid : ClientState) (given : List ℕ) (phase : RecordPhase) (past : JoinHistory) → IsReader t i p image.bytes → piece ++ bytes_not_delivered n image.bytes ≡ image.bytes → RecordsBring p.client.phase phase piece given → mid.outcome ≡ outcomes.Ended statuses.IoError whys.Long →
    ClientRefines (place_of_info t.infos) p.client.target (t.system.job i).session.job (map (λ (q : JoinHistory). q.ended) (t.pages i)) (protocol_of mid past) (client_after_bytes (t.system.job i).client.stage (t.system.job i).client given) → ⊥
overflows_never t i p n image piece mid given phase past h whole b outcome r =
    let me = t.system.job i in
    let rest = bytes_not_delivered n image.bytes in
    let shown : List (List Frame) = map (λ (q : JoinHistory). q.ended) (t.pages i) in
    let all : b.used ++ (b.rest ++ rest) ≡ image.bytes = sym (append_assoc b.used b.rest rest) ∙ (ap (λ (l : List ℕ). l ++ rest) (sym b.whole) ∙ whole) in
    let behind = left_behind p.client.phase phase b.used (b.rest ++ rest) me.session.flight given me.session.ending b.carries (subst (λ (l : List ℕ). CarriesFlight p.client.phase l me.session.flight me.session.ending) (sym all) h.carried) in
    let short = within i (make_for t.system i) me (device_for t.system i) h.params h.heard given behind.rest h.images behind.flight_is in
    let view = read_is me.client h.params h.heard given h.stage short in
    let runs = (outcomes_alike (place_of_info t.infos) p.client.target me.session.job shown (protocol_of mid past) (client_after_bytes me.client.stage me.client given) r).runs_by (Imaging h.params (h.heard ++ given)) (ap (λ (m : ClientView). m.stage) view) in
    let clash : true ≡ false = sym (ap is_running runs) ∙ ap is_running outcome in
    absurd (cc)

-- ---- all of it

by_received : (t : Ghost) (i : ℕ) (p : Endpoint) (n : ℕ) (image : Image) (piece : List ℕ) (mid : ClientState) → IsReader t i p image.bytes → piece ++ bytes_not_delivered n image.bytes ≡ image.bytes → IsKept p.client mid →
    ReceivesPiece (place_of_info t.infos) (t.system.job i).session.job (map (λ (q : JoinHistory). q.ended) (t.pages i)) (t.system.job i).client p.client (t.history i) piece mid → IsMid t i p piece (bytes_not_delivered n image.bytes) (handed n image p) mid
by_received t i p n image piece mid h whole kept (pieces.Goes given past carries same going s) = goes t i p n image piece mid given past h whole kept carries same going s.serves s.given_is s.reads
by_received t i p n image piece mid h whole kept (pieces.Overflows given past b out outcome s) = absurd (overflows_never t i p n image piece mid given mid.phase past h whole b outcome s.reads)
by_received t i p n image piece mid h whole kept (pieces.Ends given number past sent b out e) = ends t i p n image piece mid given number past sent h whole kept b out e
by_received t i p n image piece mid h whole kept (pieces.Starves given more phase past b out outcome s) = starves t i p n image piece mid given more phase past h whole kept b out outcome s.serves s.given_is s.reads

pub received_mid : (t : Ghost) (i : ℕ) (p : Endpoint) (n : ℕ) (image : Image) (mid : ClientState) → HasCount (t.jobs i).task → (t.system.job i).session.job.task ≡ task_of (t.jobs i).task → IsReader t i p image.bytes → Receives p.client (t.history i) (delivered_bytes n image.bytes) mid → IsMid t i p (delivered_bytes n image.bytes) (bytes_not_delivered n image.bytes) (handed n image p) mid
received_mid t i p n image mid count task h r =
    let me = t.system.job i in
    let shown : List (List Frame) = map (λ (q : JoinHistory). q.ended) (t.pages i) in
    let own : p.client.target.task ≡ (t.jobs i).task = ap (λ (x : JobTarget). x.task) h.exchanges.target in
    let received =
    all_received (place_of_info t.infos) me.session.job shown p.client mid (t.history i) (delivered_bytes n image.bytes) me.client (task ∙ ap task_of (sym own)) (subst HasCount (sym own) count) h.receiving h.exchanges.serves
    (subst (λ (x : JobTarget). ClientRefines (place_of_info t.infos) x me.session.job shown (protocol_of p.client (t.history i)) me.client) (sym h.exchanges.target) h.reads) r in
    by_received t i p n image (delivered_bytes n image.bytes) mid h (take-append-drop (min n 4096) image.bytes) (received_kept p.client (t.history i) (delivered_bytes n image.bytes) mid h.runs r) received
