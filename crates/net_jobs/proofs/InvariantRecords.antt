-- How far a job over streams is between two turns of its loop.
use Rattle.std.specs.Prelude.{ℕ, ◌≡◌, ◌≤◌, ◌⊎◌, true, false, Option, Some, None, List, [], ◌∷◌, ◌++◌, length}
use Rattle.page_picture.specs.Shows.{Frame}
use Rattle.frame_join.specs.FrameHistory.{JoinHistory}
use Rattle.data_records.specs.declared.records.RecordPhase.TheVariants as phases
use Rattle.data_records.specs.Records.{CarriesRecords}
use Rattle.scan_job.specs.declared.job.Job.{Job}
use Rattle.scan_job.specs.declared.outcome.Outcome.{Outcome}
use Rattle.client_replies.specs.declared.progress.Progress.TheVariants as stages
use Rattle.client_replies.specs.ProtocolStates.{ProtocolState, target_of, is_running, is_receiving, wanted_port}
use Rattle.net_client.specs.ClientStates.{ClientState, ClientRepresents, IsNewClient, protocol_of}
use Rattle.net_jobs.specs.JobJournal.{JobMove, MovesLead, given_by, heard_by, bytes_written_by, dialled_by}
use Rattle.net_jobs.specs.JobTraces.{TraceEvent, JobTrace, BytesMatchTrace}
use Rattle.net_jobs.specs.Inside.{ports_opened, HasReadOf, CallNotes, NotesMatch}
use Rattle.net_jobs.specs.Links.{LinkViews, Calls, HasBrought, BeginWith}
use Rattle.net_jobs.specs.Outputs.{files_text}
use Rattle.net_jobs.specs.RunPromises.{EndsBy}
use Rattle.net_jobs.proofs.ToldPorts.{ToldSoFar}

-- the bytes of the frame under way
abbrev pub came_in : Option Frame → List ℕ
came_in None = []
came_in (Some frame) = frame.payload

-- No data connection is open: each that was made gave the data of a frame that ended. A frame that waits for its connection
-- has no byte yet.
pub record BetweenFrames (coming0 coming : Option (List (List ℕ))) (streams : List (List ℕ)) (c : ClientState) (past : JoinHistory) : Type 0 where
  pub wholes : List (List ℕ)
  pub begin : BeginWith wholes streams
  pub brought : HasBrought coming0 coming wholes
  pub empty : (port : ℕ) → c.progress ≡ stages.Imaging port false → came_in past.under ≡ []

-- one is open: what was read of it are records of the bytes that the frame has
pub record WithinFrame (coming0 coming : Option (List (List ℕ))) (remaining : Option (List ℕ)) (streams : List (List ℕ)) (c : ClientState) (past : JoinHistory) : Type 0 where
  pub wholes : List (List ℕ)
  pub begin : BeginWith wholes streams
  pub whole : List ℕ
  pub brought : HasBrought coming0 coming (wholes ++ whole ∷ [])
  pub bytes : List ℕ
  pub reads : HasReadOf coming0 remaining whole bytes
  pub frame : Frame
  pub under : past.under ≡ Some frame
  pub carries : CarriesRecords phases.Head c.phase bytes frame.payload
  pub receives : is_receiving c.outcome c.progress ≡ true

abbrev pub LinkMatchesTrace : {R : Type 0} → (R → Option (List ℕ)) → Option (List (List ℕ)) → Option (List (List ℕ)) → List (List ℕ) → Option R → ClientState → JoinHistory → Type 0
LinkMatchesTrace remaining coming0 coming streams None c past = BetweenFrames coming0 coming streams c past
LinkMatchesTrace remaining coming0 coming streams (Some conn) c past = WithinFrame coming0 coming (remaining conn) streams c past

-- the client is where the trace is
pub record ClientFollowsTrace {R : Type 0} (remaining : R → Option (List ℕ)) (coming0 coming : Option (List (List ℕ))) (trace : JobTrace) (rest : List ℕ) (stream : Option R) (c : ClientState) (past : JoinHistory) : Type 0 where
  pub protocol_is : protocol_of c past ≡ trace.protocol
  pub rest_is : c.input.rest ≡ rest
  pub linked : LinkMatchesTrace remaining coming0 coming trace.streams stream c past

-- the job has ended otherwise; at most one data connection was open
pub record Falls (moves : List JobMove) (coming0 coming : Option (List (List ℕ))) (trace : JobTrace) (rest : List ℕ) (c : ClientState) : Type 0 where
  pub cause : EndsBy moves trace.protocol rest c.outcome
  pub is_over : is_running c.outcome ≡ false
  pub was_running : is_running trace.protocol.outcome ≡ true
  pub wholes : List (List ℕ)
  pub unread : List (List ℕ)
  pub begin : BeginWith wholes trace.streams
  pub brought : HasBrought coming0 coming (wholes ++ unread)
  pub few : length unread ≤ 1

-- what was given of a job's files: the pages that were turned, and the bytes of the file under way
pub record GivenFiles : Type 0 where
  pub pages : List JoinHistory
  pub bytes : List ℕ

abbrev pub no_files_given : GivenFiles
no_files_given = record { pages = []; bytes = [] }

abbrev pub more_given : GivenFiles → List ℕ → GivenFiles
more_given given bytes = record { pages = given.pages; bytes = given.bytes ++ bytes }

abbrev pub turned_given : GivenFiles → JoinHistory → GivenFiles
turned_given given page = record { pages = given.pages ++ page ∷ []; bytes = [] }

-- the ports that were asked for are those of the connections that were made, but for one that could not be made and ended the job
abbrev pub AsksPorts : List ℕ → List TraceEvent → ProtocolState → Outcome → Type 0
AsksPorts asked events protocol outcome =
    (asked ≡ ports_opened events)
    ⊎ ((port : ℕ) × (wanted_port protocol.progress ≡ Some port) × (is_running protocol.outcome ≡ true) × (is_running outcome ≡ false) × (asked ≡ port ∷ ports_opened events))

-- what a job did so far and gave of its files, and what of its requests is left to go out
pub record RunInvariant {R : Type 0} (left_of : R → Option (List ℕ)) (job : Job) (moves : List JobMove) (read_ wrote left : List ℕ) (coming0 coming : Option (List (List ℕ))) (given : GivenFiles) (stream : Option R) (c : ClientState) : Type 0 where
  pub target : c.target ≡ target_of job
  pub history : JoinHistory
  pub serves : ClientRepresents history c
  pub given_is : history.given ≡ given.bytes
  pub trace : JobTrace
  pub pages_is : trace.pages ≡ given.pages
  pub rest : List ℕ
  pub did : BytesMatchTrace job trace (record { read_ = read_; wrote = wrote; rest = rest; left = left })
  pub asked : AsksPorts (dialled_by moves) did.events trace.protocol c.outcome
  pub stands : ClientFollowsTrace left_of coming0 coming trace rest stream c history ⊎ Falls moves coming0 coming trace rest c

-- and its control connection
pub record FullRunInvariant {C R : Type 0} (views : LinkViews C) (left_of : R → Option (List ℕ)) (job : Job) (first : C) (coming0 : Option (List (List ℕ))) (given : GivenFiles) (notes : CallNotes) (control : C) (coming : Option (List (List ℕ))) (stream : Option R) (c : ClientState) : Type 0 where
  pub moves : List JobMove
  pub left : List ℕ
  pub calls : Calls views first moves control
  pub stage : RunInvariant left_of job moves (heard_by moves) (bytes_written_by moves) left coming0 coming given stream c
  pub left_is : notes.write_failed ≡ false → left ≡ c.out
  pub fresh : ClientState
  pub is_fresh : IsNewClient job fresh
  pub leads : MovesLead fresh moves c
  pub told : ToldSoFar moves c
  pub gave : files_text given.pages ++ given.bytes ≡ given_by moves
  pub notes_are : NotesMatch moves notes
