-- What is promised of a job over streams.
use Rattle.std.specs.Prelude.{ℕ, ◌+◌, ◌≡◌, ◌≢◌, ◌<◌, ◌≤◌, ◌⊎◌, true, false, Option, Some, List, [], ◌∷◌, ◌++◌, length}
use Rattle.std.specs.Prelude.{Result, IfOk}
use Rattle.std.specs.Io.KnownBytes.{Appends}
use Rattle.sane_fixed.specs.declared.status.Status.TheVariants as statuses
use Rattle.netpbm.specs.Picture.{Picture}
use Rattle.netpbm.specs.NoFile.{HoldsNoFile}
use Rattle.page_picture.specs.Shows.{Frame, ShowsFrames}
use Rattle.frame_join.specs.AloneFrame.{most_bytes}
use Rattle.wire_format.specs.Limit.{IsNoStart}
use Rattle.wire_message.specs.Message.{message_limit, reply}
use Rattle.wire_message.specs.declared.message.Procedure.{Procedure}
use Rattle.scan_job.specs.declared.job.Job.{Job}
use Rattle.scan_job.specs.declared.job.JobFault.{JobFault}
use Rattle.scan_job.specs.declared.job.JobFault.TheVariants.{TooManySettings, TextTooLong, NoMem, BadCount}
use Rattle.scan_job.specs.JobSize.{HasJobFault}
use Rattle.client_replies.specs.ProtocolStates.{ProtocolState, is_batch}
use Rattle.net_client.specs.ClientStates.{ClientState, IsNewClient}
use Rattle.net_client.specs.ReplyPieces.{awaited_procedure}
use Rattle.scan_job.specs.declared.job.Task.TheVariants as tasks
use Rattle.scan_job.specs.declared.outcome.Outcome.{Outcome}
use Rattle.scan_job.specs.declared.outcome.Outcome.TheVariants.{Done, Ended}
use Rattle.scan_job.specs.declared.outcome.Why.TheVariants as whys
use Rattle.scan_job.specs.Outcomes.{IfEnded}
use Rattle.scan_job.specs.declared.report.Reports.{Reports}
use Rattle.scan_job.specs.declared.stop.Stop.{Stop}
use Rattle.net_jobs.specs.JobJournal.{JobMove, MovesLead, PortsAreTold, bytes_written_by, heard_by, given_by}
use Rattle.net_jobs.specs.JobJournal.{dialled_by, has_write_failed, HasLoss}
use Rattle.net_jobs.specs.JobSteps.{MovesAreSteps, MovesStopWithin, given_by_steps}
use Rattle.net_jobs.specs.JobTraces.{JobTrace, BytesMatchTrace, EndWell, ports_named}
use Rattle.net_jobs.specs.Links.{JobLinks, LinkViews, Calls, HasBrought, BeginWith}
use Rattle.frame_join.specs.PictureText.{IsPictureFile}

-- ---- a job's streams

-- the control connection, what makes the data connections, and the output, or the shelf of the outputs
pub record JobStreams (C D W : Type 0) : Type 0 where
  pub control : C
  pub dial : D
  pub output : W

abbrev pub streams : {C D W : Type 0} → C → D → W → JobStreams C D W
streams control dial output = record { control = control; dial = dial; output = output }

-- What is seen of them: the links call by call, the bytes of the data connections that are to come, and what the output
-- holds.
pub record SeenStreams (L O : Type 0) : Type 0 where
  pub links : L
  pub coming : Option (List (List ℕ))
  pub output : O

abbrev pub seen : {C D W O : Type 0} → (D → Option (List (List ℕ))) → (W → O) → JobStreams C D W
    → SeenStreams (JobLinks C D) O
seen coming holds s = record {
  links = record { control = s.control; dial = s.dial };
  coming = coming s.dial;
  output = holds s.output;
}

-- what is seen of a job's streams: its links, the bytes of the data connections that are to come, and what the output
-- holds, or the shelf
pub record StreamViews (C D W O : Type 0) : Type 0 where
  pub links : LinkViews (JobLinks C D)
  pub coming : D → Option (List (List ℕ))
  pub output : W → O

abbrev pub stream_views : {C D W O : Type 0} → LinkViews (JobLinks C D) → (D → Option (List (List ℕ))) → (W → O)
    → StreamViews C D W O
stream_views links coming output = record { links = links; coming = coming; output = output }

-- ---- what a job did

-- **Asked for** (`AreAskedFor`): the ports that were asked for are those of the START replies, in their order. The last
-- one lacks if the job ended before its frame's connection was asked for.
abbrev pub AreAskedFor : List ℕ → List ℕ → Type 0
AreAskedFor asked named = (named ≡ asked) ⊎ ((port : ℕ) × (named ≡ port ∷ asked))

-- What a job did over its streams: its moves, from the new client on, by the client's own contracts; the replies that
-- it read by them, and what it wrote for them; the ports that were told beforehand, each at most once, right behind the
-- request for its frame's parameters; the ports of its data connections, which are those of its START replies; and
-- these connections. Each began with a frame's records, but for one that was let go within its frame.
pub record RanWithTrace {L O : Type 0} (views : LinkViews L) (job : Job) (was now : SeenStreams L O) : Type 0 where
  pub moves : List JobMove
  pub first : ClientState
  pub last : ClientState
  pub fresh : IsNewClient job first
  pub leads : MovesLead first moves last
  pub told : PortsAreTold moves
  pub rest : List ℕ
  pub left : List ℕ
  pub trace : JobTrace
  pub calls : Calls views was.links moves now.links
  pub did : BytesMatchTrace job trace
      (record { read_ = heard_by moves; wrote = bytes_written_by moves; rest = rest; left = left })
  pub asked : AreAskedFor (dialled_by moves) (ports_named did.events)
  pub wholes : List (List ℕ)
  pub unread : List (List ℕ)
  pub begin : BeginWith wholes trace.streams
  pub brought : HasBrought was.coming now.coming (wholes ++ unread)
  pub few : length unread ≤ 1

-- **Ran, done, ended, refused**: what `run_job` promises, as [PROMISES.md](PROMISES.md#net_jobs) has it.
--
-- The job is done, as the client's rules have it for these replies and frames. Unless a write failed, all was written,
-- with CLOSE and EXIT. Each data connection began with its frame's records, which ended with EOF. The output took the
-- file of the picture that the frames show, or, of a job that is no scan, nothing. Each piece that came was followed by
-- the bytes of the file that it brought.
pub record RanDone {L : Type 0} (views : LinkViews L) (job : Job) (was now : SeenStreams L (Option (List ℕ)))
    (reports : Reports) : Type 0 where
  pub single : is_batch job.task ≡ false
  pub ran : RanWithTrace views job was now
  pub told : ran.trace.protocol.outcome ≡ Done reports
  pub last_told : ran.last.outcome ≡ Done reports
  pub steps : MovesAreSteps ran.first ran.moves ran.last
  pub all : has_write_failed ran.moves ≡ false → ran.left ≡ []
  pub read_all : ran.unread ≡ []
  pub end_well : EndWell ran.did.events
  pub text : List ℕ
  pub taken : Appends was.output now.output text
  pub gave : text ≡ given_by ran.moves
  pub went_out : text ≡ given_by_steps steps.steps
  pub file : job.task ≡ tasks.Scan
      → (p : Picture) × ShowsFrames ran.trace.protocol.history.ended p × IsPictureFile text p
  pub none : job.task ≢ tasks.Scan → text ≡ []

-- What ends a job in that trace, apart from its replies and the ends of its frames: a connection that was lost, want of
-- memory, bytes that begin no awaited reply, or more bytes of a frame than it was to have.
pub data EndsBy (moves : List JobMove) (protocol : ProtocolState) (rest : List ℕ) (outcome : Outcome) : Type 0 where
  ByLoss : HasLoss moves → outcome ≡ Ended statuses.IoError whys.Lost → EndsBy moves protocol rest outcome
  ByMemory : outcome ≡ Ended statuses.NoMem whys.Memory → EndsBy moves protocol rest outcome
  ByGarble : (procedure : Procedure) → awaited_procedure protocol.progress ≡ Some procedure
      → IsNoStart message_limit (reply procedure) rest → outcome ≡ Ended statuses.IoError whys.Malformed
      → EndsBy moves protocol rest outcome
  ByLength : (frame : Frame) (bytes : List ℕ) → protocol.history.under ≡ Some frame
      → most_bytes frame.params < length frame.payload + length bytes
      → outcome ≡ Ended statuses.IoError whys.Long → EndsBy moves protocol rest outcome

-- by a reply or a frame's end, as the client's rules have it, by another cause, or since an output did not take its
-- file
abbrev pub HasEndingCause : List JobMove → ProtocolState → List ℕ → Outcome → Type 0
HasEndingCause moves protocol rest outcome = (protocol.outcome ≡ outcome)
    ⊎ (EndsBy moves protocol rest outcome ⊎ (outcome ≡ Ended statuses.IoError whys.Sink))

-- the client's last outcome is told; or it was done, and there was no memory for what is told; or an output failed
abbrev pub IsToldAs : Outcome → Outcome → Type 0
IsToldAs last told =
    (last ≡ told)
    ⊎ (((reports : Reports) × (last ≡ Done reports) × (told ≡ Ended statuses.NoMem whys.Memory))
    ⊎ (told ≡ Ended statuses.IoError whys.Sink))

-- The job has ended otherwise, with a cause. All that was to go out was written, unless a write failed, or the output
-- did. The output took what was given, or where it failed bytes more, and no whole file. Where it is told as the client
-- ended, each piece that came was followed by the bytes of the file that it brought.
pub record RanEnded {L : Type 0} (views : LinkViews L) (job : Job) (was now : SeenStreams L (Option (List ℕ)))
    (stop : Stop) : Type 0 where
  pub single : is_batch job.task ≡ false
  pub ran : RanWithTrace views job was now
  pub cause : HasEndingCause ran.moves ran.trace.protocol ran.rest (Ended stop.status stop.why)
  pub last_told : IsToldAs ran.last.outcome (Ended stop.status stop.why)
  pub all : stop.why ≢ whys.Sink → has_write_failed ran.moves ≡ false → ran.left ≡ []
  pub refusal : stop.status ≢ statuses.Good
  pub text : List ℕ
  pub taken : Appends was.output now.output text
  pub behind : List ℕ
  pub gave : text ≡ given_by ran.moves ++ behind
  pub none_behind : stop.why ≢ whys.Sink → behind ≡ []
  pub steps : ran.last.outcome ≡ Ended stop.status stop.why
      → (s : MovesAreSteps ran.first ran.moves ran.last) × (text ≡ given_by_steps s.steps)
  pub sunk : stop.why ≡ whys.Sink → (ran.last.outcome ≡ Ended stop.status stop.why → ⊥)
      → MovesStopWithin ran.first ran.moves ran.last
  pub none : HoldsNoFile text

abbrev pub refused_as : JobFault → Outcome
refused_as NoMem = Ended statuses.NoMem whys.Memory
refused_as TooManySettings = Ended statuses.Inval whys.Setting
refused_as TextTooLong = Ended statuses.Inval whys.Setting
refused_as BadCount = Ended statuses.Inval whys.Setting

-- why a job is refused: it is a batch, it has a fault, or there is no memory for its buffers
abbrev pub IsRefused : Job → Outcome → Type 0
IsRefused job outcome =
    ((is_batch job.task ≡ true) × (outcome ≡ Ended statuses.Inval whys.Setting))
    ⊎ (((fault : JobFault) × HasJobFault job (Some fault) × (outcome ≡ refused_as fault))
    ⊎ (outcome ≡ Ended statuses.NoMem whys.Memory))

-- a job that is refused touches no stream
pub record RefusesJob {C D W : Type 0} (job : Job) (outcome : Outcome) (was now : JobStreams C D W) : Type 0 where
  pub why : IsRefused job outcome
  pub same : now ≡ was

-- **Runs, stops (`RunsJob`, `StopsJob`; `IfReports`, `IfStops`)**: what passed over the streams of a job, as far as it
-- is seen. It ran until it was done, with these reports. Or it stopped so: refused before it touched a stream, or
-- behind what passed over them. This holds of the reports that a call gave, or of how the job ended otherwise.
abbrev pub RunsJob : {C D W : Type 0} → StreamViews C D W (Option (List ℕ)) → Job → JobStreams C D W
    → JobStreams C D W → Reports → Type 0
RunsJob views job was now reports =
    RanDone views.links job (seen views.coming views.output was) (seen views.coming views.output now) reports

abbrev pub StopsJob : {C D W : Type 0} → StreamViews C D W (Option (List ℕ)) → Job → JobStreams C D W
    → JobStreams C D W → Stop → Type 0
StopsJob views job was now stop = RefusesJob job (Ended stop.status stop.why) was now
    ⊎ RanEnded views.links job (seen views.coming views.output was) (seen views.coming views.output now) stop

abbrev pub IfReports : {T E : Type 0} → Result (Reports × T) E → (Reports → Type 0) → Type 0
IfReports result Holds = IfOk result (λ done. Holds done.0)

abbrev pub IfStops : Outcome → (Stop → Type 0) → Type 0
IfStops outcome Holds = IfEnded outcome (λ status why. Holds (record { status = status; why = why }))
