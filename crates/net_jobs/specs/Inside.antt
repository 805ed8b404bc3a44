-- What private functions promise: one turn of a job, bytes written and read, files drained, pages filed.
use Rattle.std.specs.Prelude.{ℕ, zero, suc, Bool, true, false, Option, None, Some, Result, Ok, Err, ◌≡◌, ◌≤◌, List}
use Rattle.std.specs.Prelude.{length, take, drop, [], ◌∷◌, ◌+◌, ◌-◌, ◌≢◌, ◌<◌, if◌then◌else◌, ◌++◌, ⊤, ◌⊎◌, All, IfSome}
use Rattle.std.specs.Prelude.{option_map}
use Rattle.std.specs.IoError.{error_kind}
use Rattle.byte_output.specs.Writes.{is_interruption}
use Rattle.std.specs.declared.io.Error.{Error}
use Rattle.std.specs.Io.KnownBytes.{Appends, Consumes, prepend_known}
use Rattle.net_client.specs.ClientStates.{ClientState, ClientRepresents, TurnsPage}
use Rattle.scan_job.specs.declared.job.Job.{Job}
use Rattle.scan_job.specs.declared.outcome.Outcome.{Outcome}
use Rattle.scan_job.specs.declared.outcome.Outcome.TheVariants.{Running, Done, Ended}
use Rattle.client_replies.specs.ProtocolStates.{is_receiving, is_running, is_ended, scans, turns}
use Rattle.scan_job.specs.declared.stop.Stop.{Stop}
use Rattle.scan_job.specs.Stops.{no_memory, failed_output}
use Rattle.netpbm.specs.Picture.{Picture}
use Rattle.netpbm.specs.Pnm.{IsWhole}
use Rattle.netpbm.specs.NoFile.{HoldsNoFile}
use Rattle.page_picture.specs.Shows.{ShowsFrames}
use Rattle.frame_join.specs.FrameHistory.{JoinHistory, IsJoined, after_pull, empty_history}
use Rattle.scan_job.specs.Shelves.{Stock, ReturnedOutput}
use Rattle.frame_join.specs.JoinStates.{JoinState}
use Rattle.scan_job.specs.declared.report.Reports.{Reports}
use Rattle.scan_job.specs.FileOutputs.{TakesBack, refused_output, returned_output}
use Rattle.client_replies.specs.declared.progress.Link.TheVariants as links
use Rattle.sane_fixed.specs.declared.status.Status.TheVariants as statuses
use Rattle.scan_job.specs.declared.outcome.Why.TheVariants as whys
use Rattle.net_jobs.specs.declared.calls.Loss.{Loss}
use Rattle.net_jobs.specs.declared.calls.Loss.TheVariants.{ReadFailed, StreamEnded, DialFailed}
use Rattle.net_jobs.specs.JobJournal.{AreGives, IsPiece, JobMove, StandsBehind, Hears, Resumes, MovesLead, Fails, Dials}
use Rattle.net_jobs.specs.JobJournal.{Takes, Gives, Loses, MoveLeads, HearsPiece, TakesPiece, DialsPort, MissesPort}
use Rattle.net_jobs.specs.JobJournal.{LosesLink, has_write_failed, given_by}
use Rattle.net_jobs.specs.JobSteps.{FileRunsOut, IsDelivery, MovesAreSteps, MovesStopWithin, PageEnds, StepsGive}
use Rattle.net_jobs.specs.JobTraces.{TraceEvent, EndWell}
use Rattle.net_jobs.specs.JobTraces.TraceEvent.{Opened}
use Rattle.net_jobs.specs.declared.calls.CallTally.{CallTally}
use Rattle.net_jobs.specs.declared.running.DataStream.{DataStream}
use Rattle.net_jobs.specs.Links.{JobLinks, LinkViews, Called, DialBrings}
use Rattle.net_jobs.specs.RunPromises.{SeenStreams, RanWithTrace, HasEndingCause, IsToldAs}
use Rattle.net_jobs.specs.Batches.{IsPageFile, MayScan, pages_of}
use Rattle.net_jobs.specs.Outputs.{files_text, page_outputs_from}
use Rattle.frame_join.specs.PictureText.{IsPictureFile}

-- ---- what a call on a connection comes to, by the result that the stream gave

abbrev pub loss_by_error : Bool → Option Loss
loss_by_error true = None
loss_by_error false = Some ReadFailed

-- a read that gives nothing finds the end, and one that was interrupted may be made again
abbrev pub loss_by_read : Result ℕ Error → Option Loss
loss_by_read (Ok zero) = Some StreamEnded
loss_by_read (Ok (suc n)) = None
loss_by_read (Err e) = loss_by_error (is_interruption (error_kind e))

abbrev pub loss_by_dial : {T E : Type 0} → Result T E → Option Loss
loss_by_dial (Ok conn) = None
loss_by_dial (Err fault) = Some DialFailed

-- ---- bytes on their way to the control connection, and those that were read of it

-- a front of the bytes was written, and the others are left
pub record WritesTo (first : List ℕ) (before contents : Option (List ℕ)) (left : List ℕ) : Type 0 where
  pub at : ℕ
  pub within : at ≤ length first
  pub left_is : left ≡ drop at first
  pub written : Appends before contents (take at first)

-- ---- what a journal tells of losses, ports and bytes that were given

-- why nothing more was read
abbrev pub loss_of : List JobMove → Option Loss
loss_of [] = None
loss_of (Dials port false ∷ moves) = Some DialFailed
loss_of (Loses link reason ∷ moves) = Some reason
loss_of (move ∷ moves) = loss_of moves

pub record GivesAll (old : ClientState) (gives : List JobMove) (new : ClientState) : Type 0 where
  pub are : AreGives gives
  pub leads : MovesLead old gives new

-- bytes of a page's file go out: the client goes on with it, or they were its last
abbrev pub GivesPage : ClientState → List JobMove → ClientState → Type 0
GivesPage old gives new =
    (FileRunsOut old gives new × (turns new.outcome new.progress ≡ turns old.outcome old.progress))
    ⊎ PageEnds old gives new

-- those of the connections that were made
abbrev pub ports_opened : List TraceEvent → List ℕ
ports_opened [] = []
ports_opened (Opened port ∷ events) = port ∷ ports_opened events
ports_opened (event ∷ events) = ports_opened events

-- so many bytes of a connection were read
abbrev pub HasReadOf : Option (List (List ℕ)) → Option (List ℕ) → List ℕ → List ℕ → Type 0
HasReadOf None remaining whole bytes = whole ≡ bytes
HasReadOf (Some all) remaining whole bytes = Consumes (Some whole) remaining bytes

-- ---- a turn of a job's loop: its moves, with what each makes of the client, of the connections, and of the tally of
-- their calls

-- **Notes** (`CallNotes`, `NotesMatch`): what the tally of a job's calls noted of them: why nothing more is read, and
-- whether a write failed. **All moves** of a turn (`MovesAll`) lead from one client, links, data connection and notes
-- to the next. A journal's notes match if it tells of the same losses and failed writes as the tally.
pub record CallNotes : Type 0 where
  pub loss : Option Loss
  pub write_failed : Bool

abbrev pub no_notes : CallNotes
no_notes = record { loss = None; write_failed = false }

abbrev pub notes_of : CallTally → CallNotes
notes_of tally = record { loss = tally.loss; write_failed = tally.write_failed }

-- a data connection, with the bytes that were read of it and are not taken yet
pub record ReadAhead (R : Type 0) : Type 0 where
  pub conn : R
  pub ahead : List ℕ

-- by where these lie among the bytes that the loop has room for
abbrev pub read_ahead : {R : Type 0} → List ℕ → DataStream R → ReadAhead R
read_ahead room stream = record { conn = stream.conn; ahead = take (stream.end - stream.at) (drop stream.at room) }

abbrev pub ahead_of : {R : Type 0} → Option (DataStream R) → List ℕ → Option (ReadAhead R)
ahead_of stream room = option_map (read_ahead room) stream

-- what of a connection is still to be taken
abbrev pub left_ahead : {R : Type 0} → (R → Option (List ℕ)) → ReadAhead R → Option (List ℕ)
left_ahead left_of stream = prepend_known stream.ahead (left_of stream.conn)

abbrev pub LiesWithin : {R : Type 0} → DataStream R → List ℕ → Type 0
LiesWithin stream room = (stream.at ≤ stream.end) × (stream.end ≤ length room)

abbrev pub IfOpenLiesWithin : {R : Type 0} → Option (DataStream R) → List ℕ → Type 0
IfOpenLiesWithin stream room = IfSome stream (λ s. LiesWithin s room)

-- where a loop is: its client, its links, the bytes of the data connections to come, the one that is open, and what
-- became of its calls
pub record LoopState (L R : Type 0) : Type 0 where
  pub client : ClientState
  pub links : L
  pub coming : Option (List (List ℕ))
  pub stream : Option R
  pub notes : CallNotes

abbrev pub loop_state : {C D R : Type 0} → (D → Option (List (List ℕ))) → ClientState → C → D → Option (ReadAhead R)
    → CallTally → LoopState (JobLinks C D) (ReadAhead R)
loop_state coming client control dial stream tally = record {
  client = client;
  links = record { control = control; dial = dial };
  coming = coming dial;
  stream = stream;
  notes = notes_of tally;
}

-- what a move makes of the data connections: one that was read is let go where no more of its frame is to come
abbrev pub DataCalled : {L R : Type 0} → (R → Option (List ℕ)) → LoopState L R → JobMove → LoopState L R → Type 0
DataCalled {L} {R} left_of was (Dials port true) now = (conn : R) × (now.stream ≡ Some conn)
    × DialBrings was.coming now.coming (left_of conn)
DataCalled {L} {R} left_of was (Takes piece) now =
    (before : R) × (behind : R) × (was.stream ≡ Some before) × Consumes (left_of before) (left_of behind) piece
    × (now.coming ≡ was.coming)
    × (now.stream ≡ (if is_receiving now.client.outcome now.client.progress then Some behind else None))
DataCalled left_of was (Dials port false) now = now.coming ≡ was.coming
DataCalled left_of was (Loses link reason) now = now.coming ≡ was.coming
DataCalled left_of was move now = (now.coming ≡ was.coming) × (now.stream ≡ was.stream)

abbrev pub notes_after : JobMove → CallNotes → CallNotes
notes_after (Fails bytes) notes = record notes { write_failed = true }
notes_after (Dials port false) notes = record notes { loss = Some DialFailed }
notes_after (Loses link reason) notes = record notes { loss = Some reason }
notes_after move notes = notes

abbrev pub IsOfLinks : JobMove → Type 0
IsOfLinks (Gives bytes) = ⊥
IsOfLinks move = Unit {0}

-- behind a write that failed there is none
pub record Moves {L R : Type 0} (views : LinkViews L) (left_of : R → Option (List ℕ)) (was : LoopState L R)
    (move : JobMove) (now : LoopState L R) : Type 0 where
  pub of_links : IsOfLinks move
  pub up : was.notes.write_failed ≡ false
  pub client : MoveLeads was.client move now.client
  pub links : Called views was.links move now.links
  pub data_is : DataCalled left_of was move now
  pub notes : now.notes ≡ notes_after move was.notes

-- a move by which nothing comes and no byte of a file goes out
abbrev pub IsQuiet : JobMove → Type 0
IsQuiet (Hears piece) = ⊥
IsQuiet (Takes piece) = ⊥
IsQuiet (Gives bytes) = ⊥
IsQuiet Resumes = ⊥
IsQuiet move = Unit {0}

abbrev pub AreQuiet : List JobMove → Type 0
AreQuiet [] = Unit {0}
AreQuiet (move ∷ moves) = IsQuiet move × StandsBehind move moves × AreQuiet moves

-- the moves of a turn that leads to that client: with its newest something comes, if that is told, or it ends the job
pub data AreOfTurn (came : Bool) (now : ClientState) (moves : List JobMove) : Type 0 where
  Quiet : AreQuiet moves → (came ≡ true → is_running now.outcome ≡ false) → AreOfTurn came now moves
  Delivered : (move : JobMove) (before : List JobMove) → moves ≡ move ∷ before → IsDelivery move → AreQuiet before
      → came ≡ true → AreOfTurn came now moves

-- moves one after another, the newest first
abbrev pub MovesAll : {L R : Type 0} → LinkViews L → (R → Option (List ℕ)) → LoopState L R → List JobMove
    → LoopState L R → Type 0
MovesAll views left_of first [] now = now ≡ first
MovesAll {L} {R} views left_of first (move ∷ moves) now = (was : LoopState L R) × MovesAll views left_of first moves was
    × Moves views left_of was move now

-- reads and turns alone were used up
abbrev pub KeepsWrites : CallTally → CallTally → Type 0
KeepsWrites old new = (new.write_failed ≡ old.write_failed) × (new.turns ≡ old.turns)

abbrev pub KeepsReads : CallTally → CallTally → Type 0
KeepsReads old new = (new.loss ≡ old.loss) × (new.turns ≡ old.turns)

-- only calls that were used up change
abbrev pub KeepsNotes : CallTally → CallTally → Type 0
KeepsNotes old new = (notes_of new ≡ notes_of old) × (new.turns ≡ old.turns)

abbrev pub IsLost : Option Loss → Type 0
IsLost loss = (reason : Loss) × (loss ≡ Some reason)

-- a read of the control connection: a piece that the client hears, or none, and the connection is lost
pub data HearsOrLoses (old : ClientState) (was : Option (List ℕ)) (new : ClientState) (now : Option (List ℕ))
    (loss : Option Loss) : Type 0 where
  Heard : (piece : List ℕ) → IsPiece piece → Consumes was now piece → HearsPiece old piece new → loss ≡ None
      → HearsOrLoses old was new now loss
  Lost : (reason : Loss) → Consumes was now [] → LosesLink old links.Control new → loss ≡ Some reason
      → HearsOrLoses old was new now loss

-- one of a data connection, which is let go where no more of its frame is to come
pub data TakesOrLoses {R : Type 0} (left_of : R → Option (List ℕ)) (old : ClientState) (conn : R) (new : ClientState)
    (kept : Option R) (loss : Option Loss) : Type 0 where
  Took : (piece : List ℕ) (behind : R) → IsPiece piece → Consumes (left_of conn) (left_of behind) piece
      → TakesPiece old piece new → kept ≡ (if is_receiving new.outcome new.progress then Some behind else None)
      → loss ≡ None
      → TakesOrLoses left_of old conn new kept loss
  Missed : (reason : Loss) → LosesLink old links.Image new → loss ≡ Some reason
      → TakesOrLoses left_of old conn new kept loss

-- a dial
pub data DialsOrLoses {R : Type 0} (left_of : R → Option (List ℕ)) (old : ClientState) (was : Option (List (List ℕ)))
    (port : ℕ) (new : ClientState) (now : Option (List (List ℕ))) (made : Option R) (loss : Option Loss) : Type 0 where
  Made : (conn : R) → made ≡ Some conn → DialBrings was now (left_of conn) → DialsPort old port new → loss ≡ None
      → DialsOrLoses left_of old was port new now made loss
  Refused : now ≡ was → MissesPort old port new → loss ≡ Some DialFailed
      → DialsOrLoses left_of old was port new now made loss

-- leave is taken of the daemon: nothing goes out behind a write that failed; else all that is to go out does, or a
-- front of it and a write fails
pub data TakesLeave {C : Type 0} (contents : C → Option (List ℕ)) (was : C) (before : CallNotes) (out : List ℕ)
    (now : C) (behind : CallNotes) : Type 0 where
  Silent : before.write_failed ≡ true → now ≡ was → behind ≡ before → TakesLeave contents was before out now behind
  Whole : before.write_failed ≡ false → Appends (contents was) (contents now) out → behind ≡ before
      → TakesLeave contents was before out now behind
  Short : before.write_failed ≡ false → (n : ℕ) → n < length out → Appends (contents was) (contents now) (take n out)
      → behind ≡ record before { write_failed = true } → TakesLeave contents was before out now behind

-- the turns that a job may still take, and one more while it runs
abbrev pub turns_to_go : Outcome → ℕ → ℕ
turns_to_go outcome turns = if is_running outcome then turns + 1 else turns

-- what became of the calls is what the journal tells
pub record NotesMatch (moves : List JobMove) (notes : CallNotes) : Type 0 where
  pub loss : loss_of moves ≡ notes.loss
  pub write_failed : has_write_failed moves ≡ notes.write_failed

-- ---- how a job is over

-- why nothing is told of a job that is over: it has ended so, or there was no memory for what is told
abbrev pub StopsAs : Outcome → Stop → Type 0
StopsAs Running stop = ⊥
StopsAs (Done reports) stop = stop ≡ no_memory
StopsAs (Ended status why) stop = stop ≡ record { status = status; why = why }

-- ---- where a job's files go, and their bytes on the way there

-- what is known of the files' outputs: what one output holds; or what was put on a shelf, and what the output under way
-- holds, if there is one
pub data SinkState : Type 0 where
  OneOutput : Option (List ℕ) → SinkState
  OnShelf : Option Stock → Option (Option (List ℕ)) → SinkState

-- an output was asked for under that number, and took these bytes; there is none before the first of them
abbrev pub HoldsOutput : Option (Option (List ℕ)) → ℕ → ℕ → List ℕ → Type 0
HoldsOutput None number k bytes = bytes ≡ []
HoldsOutput (Some contents) number k bytes = (number ≡ k) × (contents ≡ Some bytes)

-- where it is known what a shelf took: these outputs were taken back since, and one is under way
abbrev pub HasShelved : Option Stock → List ReturnedOutput → Option Stock → Option (Option (List ℕ)) → ℕ → List ℕ
    → Type 0
HasShelved None outputs now out k bytes = ⊤
HasShelved (Some old) outputs None out k bytes = ⊥
HasShelved (Some old) outputs (Some now) out k bytes = (now.taken ≡ old.taken ++ outputs)
    × HoldsOutput out now.number k bytes

-- **Has taken, under way (`HasTaken`, `OutputIsUnderWay`)**: these outputs were given back since, and the one under way
-- took these bytes and was asked for at the first of them. An output that is never given back took them.
abbrev pub HasTaken : SinkState → List ReturnedOutput → SinkState → ℕ → List ℕ → Type 0
HasTaken (OneOutput was) outputs (OneOutput now) k bytes = outputs ≡ [] → Appends was now bytes
HasTaken (OnShelf was under) outputs (OnShelf now out) k bytes = HasShelved was outputs now out k bytes
HasTaken was outputs now k bytes = ⊥

-- no output of a shelf is under way
abbrev pub HoldsNone : SinkState → Type 0
HoldsNone (OneOutput contents) = ⊤
HoldsNone (OnShelf stock out) = out ≡ None

-- these outputs were given back since; one output never is
abbrev pub HasTakenBack : SinkState → List ReturnedOutput → SinkState → Type 0
HasTakenBack (OneOutput was) outputs (OneOutput now) = outputs ≢ []
HasTakenBack (OnShelf was under) outputs (OnShelf now out) = TakesBack was outputs now
HasTakenBack was outputs now = ⊥

pub record OutputIsUnderWay (before : SinkState) (outputs : List ReturnedOutput) (now : SinkState) (k : ℕ)
    (bytes : List ℕ) : Type 0 where
  pub taken : HasTaken before outputs now k bytes
  pub asked : bytes ≡ [] → HoldsNone now

-- **Takes more, takes a front, ends a file** (`TakesMore`, `TakesFront`, `EndsFile`): the output under way took these
-- bytes behind what it took before; it took only a proper front of them; it was given back with what it took, and kept
-- or refused, so that none is under way.
abbrev pub TakesMore : SinkState → SinkState → ℕ → List ℕ → Type 0
TakesMore was now k bytes = (before : SinkState) (outputs : List ReturnedOutput) (had : List ℕ)
    → HasTaken before outputs was k had → HasTaken before outputs now k (had ++ bytes)

abbrev pub TakesFront : SinkState → SinkState → ℕ → List ℕ → Type 0
TakesFront was now k bytes =
    (before : SinkState) (outputs : List ReturnedOutput) (had : List ℕ) → HasTaken before outputs was k had
    → (n : ℕ) × (n < length bytes) × HasTaken before outputs now k (had ++ take n bytes)

abbrev pub EndsFile : SinkState → Bool → SinkState → Type 0
EndsFile was kept now =
    (before : SinkState) (outputs : List ReturnedOutput) (k : ℕ) (text : List ℕ) → text ≢ []
    → HasTaken before outputs was k text
    → HasTakenBack before (outputs ++ returned_output k text kept ∷ []) now × HoldsNone now

-- ---- how a batch is over

-- what a job came to whose last output was given back, and taken or refused
abbrev pub closed_as : {T : Type 0} → Result T Stop → Bool → Result T Stop
closed_as (Ok done) false = Err failed_output
closed_as done is_taken = done

-- ---- the files and pages of a job

-- **Filing, filed, filed short** (`IsFiling`, `HasFiled`, `HasFiledShort`): a client that scans stands for what was
-- told to it and given. The output of the file under way, by its number, took what was given of that. Then all that the
-- client gave was taken, and it goes on with its file or turned to the next page. Or an output fell short, or the shelf
-- refused the output that was given back as the client turned.
pub record IsFiling (past : JoinHistory) (client : ClientState) (k : ℕ) (before : SinkState)
    (outputs : List ReturnedOutput) (now : SinkState) : Type 0 where
  pub scanning : scans client.target.task ≡ true
  pub number : is_ended client.outcome ≡ false → client.notes.file ≡ k
  pub serves : ClientRepresents past client
  pub under_way : OutputIsUnderWay before outputs now k past.given

-- the client gave these bytes of its file, not the last ones of a page, and the output took them
pub record PageGoesOn (past : JoinHistory) (old : ClientState) (k : ℕ) (before : SinkState)
    (outputs : List ReturnedOutput) (bytes : List ℕ) (new : ClientState) (after : SinkState) : Type 0 where
  pub serves : ClientRepresents (after_pull bytes past) new
  pub rest : new ≡ record old { join = new.join }
  pub under_way : OutputIsUnderWay before outputs after k (past.given ++ bytes)
  pub denotes : is_ended old.outcome ≡ false → IsJoined past → (p : Picture) → ShowsFrames past.ended p
      → IsPictureFile (past.given ++ bytes) p

-- the client gave the last bytes of a page's file and turned to the next page, and the file's output was given back,
-- which was kept or refused
pub record TurnsOn (past : JoinHistory) (old : ClientState) (k : ℕ) (before : SinkState)
    (outputs : List ReturnedOutput) (bytes : List ℕ) (kept : Bool) (new : ClientState) (after : SinkState)
    : Type 0 where
  pub turning : turns old.outcome old.progress ≡ true
  pub whole : IsWhole (past.given ++ bytes)
  pub denotes : (p : Picture) → ShowsFrames past.ended p → IsPictureFile (past.given ++ bytes) p
  pub join : JoinState
  pub client : TurnsPage (record old { join = join }) new
  pub serves : ClientRepresents empty_history new
  pub taken : HasTakenBack before (outputs ++ returned_output k (past.given ++ bytes) kept ∷ []) after
  pub none : HoldsNone after

-- an output could not be had, or did not take all bytes behind those given before: no front of what it took is whole
pub record FallsShort (given : List ℕ) (k : ℕ) (before : SinkState) (outputs : List ReturnedOutput)
    (after : SinkState) : Type 0 where
  pub behind : List ℕ
  pub taken : HasTaken before outputs after k (given ++ behind)
  pub none : HoldsNoFile (given ++ behind)

-- all that was given was taken: the client goes on with its file, or it turned to the next page
abbrev pub HasFiled : JoinHistory → ClientState → ℕ → SinkState → List ReturnedOutput → List ℕ → ClientState
    → SinkState → Type 0
HasFiled past old k before outputs bytes new after = PageGoesOn past old k before outputs bytes new after
    ⊎ TurnsOn past old k before outputs bytes true new after

-- not all was: an output fell short, or the shelf refused the one that was given back as the client turned to the next
-- page
abbrev pub HasFiledShort : JoinHistory → ClientState → ℕ → SinkState → List ReturnedOutput → List ℕ → ClientState
    → SinkState → Type 0
HasFiledShort past old k before outputs bytes new after = FallsShort past.given k before outputs after
    ⊎ TurnsOn past old k before outputs bytes false new after

-- **Fills, fills short, fails (`Fills`, `FillsShort`, `FailsFor`)**: a client gave bytes of its files. Whatever file
-- was under way, all of them were taken, or not all were. Or a failed output is noted then.
abbrev pub Fills : ClientState → SinkState → ClientState → SinkState → Type 0
Fills old was new now = (gives : List JobMove) × GivesAll old gives new
    × ((before : SinkState) (outputs : List ReturnedOutput) (k : ℕ) (past : JoinHistory)
    → IsFiling past old k before outputs was
    → GivesPage old gives new × HasFiled past old k before outputs (given_by gives) new now)

abbrev pub FillsShort : ClientState → SinkState → ClientState → SinkState → Type 0
FillsShort old was new now = (gives : List JobMove) × GivesAll old gives new
    × ((before : SinkState) (outputs : List ReturnedOutput) (k : ℕ) (past : JoinHistory)
    → IsFiling past old k before outputs was → HasFiledShort past old k before outputs (given_by gives) new now)

abbrev pub FailsFor : ClientState → SinkState → Bool → Type 0
FailsFor old was failed = (before : SinkState) (outputs : List ReturnedOutput) (k : ℕ) (past : JoinHistory)
    → IsFiling past old k before outputs was → failed ≡ true

-- ---- how a job's client came to its end, with the output of the last file under way

-- it is done: the outputs of the pages that were turned were given back, and that of the last one took its file
pub record CameDone {L : Type 0} (views : LinkViews L) (job : Job) (was now : SeenStreams L SinkState)
    (reports : Reports) : Type 0 where
  pub ran : RanWithTrace views job was now
  pub told : ran.trace.protocol.outcome ≡ Done reports
  pub last_told : ran.last.outcome ≡ Done reports
  pub steps : MovesAreSteps ran.first ran.moves ran.last
  pub went_out : StepsGive steps.steps ran.trace.pages ran.trace.protocol.history.given
  pub all : has_write_failed ran.moves ≡ false → ran.left ≡ []
  pub read_all : ran.unread ≡ []
  pub end_well : EndWell ran.did.events
  pub count : MayScan job.task (length (pages_of ran.trace))
  pub files : All IsPageFile (pages_of ran.trace)
  pub gave : files_text ran.trace.pages ++ ran.trace.protocol.history.given ≡ given_by ran.moves
  pub under_way : OutputIsUnderWay was.output (page_outputs_from 1 ran.trace.pages) now.output
      (length ran.trace.pages + 1) ran.trace.protocol.history.given
  pub none : (IsJoined ran.trace.protocol.history → ⊥) → ran.trace.protocol.history.given ≡ []
  pub last : IsJoined ran.trace.protocol.history → IsPageFile ran.trace.protocol.history

-- the outputs of these pages were given back, of which the last was refused
pub record LastIsRefused (pages : List JoinHistory) (before after : SinkState) : Type 0 where
  pub shelved : List JoinHistory
  pub last : JoinHistory
  pub pages_are : pages ≡ shelved ++ last ∷ []
  pub outputs : HasTakenBack before (page_outputs_from 1 shelved ++ refused_output (length shelved + 1) last.given ∷ [])
      after
  pub none : HoldsNone after

-- it has ended otherwise
pub record CameEnded {L : Type 0} (views : LinkViews L) (job : Job) (was now : SeenStreams L SinkState) (stop : Stop)
    : Type 0 where
  pub ran : RanWithTrace views job was now
  pub cause : HasEndingCause ran.moves ran.trace.protocol ran.rest (Ended stop.status stop.why)
  pub all : stop.why ≢ whys.Sink → has_write_failed ran.moves ≡ false → ran.left ≡ []
  pub refusal : stop.status ≢ statuses.Good
  pub last_told : IsToldAs ran.last.outcome (Ended stop.status stop.why)
  pub files : All IsPageFile ran.trace.pages
  pub text : List ℕ
  pub none : HoldsNoFile text
  pub behind : List ℕ
  pub gave : files_text ran.trace.pages ++ text ≡ given_by ran.moves ++ behind
  pub none_behind : stop.why ≢ whys.Sink → behind ≡ []
  pub steps : ran.last.outcome ≡ Ended stop.status stop.why
      → (s : MovesAreSteps ran.first ran.moves ran.last) × StepsGive s.steps ran.trace.pages text
  pub sunk : stop.why ≡ whys.Sink → (ran.last.outcome ≡ Ended stop.status stop.why → ⊥)
      → MovesStopWithin ran.first ran.moves ran.last
  pub sink : HasTaken was.output (page_outputs_from 1 ran.trace.pages) now.output (length ran.trace.pages + 1) text
      ⊎ ((text ≡ []) × (stop ≡ failed_output) × LastIsRefused ran.trace.pages was.output now.output)

-- with a journal that tells what the tally of its calls does
abbrev pub CameTo : {L : Type 0} → LinkViews L → Job → SeenStreams L SinkState → SeenStreams L SinkState → Outcome
    → CallNotes → Type 0
CameTo views job was now Running notes = ⊥
CameTo views job was now (Done reports) notes = (run : CameDone views job was now reports)
    × NotesMatch run.ran.moves notes
CameTo views job was now (Ended status why) notes =
    (run : CameEnded views job was now (record { status = status; why = why })) × NotesMatch run.ran.moves notes
