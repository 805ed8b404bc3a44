-- THE PROMISE, of one job: what each call of a world answers of it is right.
use Rattle.std.specs.Prelude.{ℕ, ◌≡◌, ◌≢◌, ◌⊎◌, ◌<◌, ◌≤◌, ◌-◌, Bool, true, false, [], Option, Some, None, List}
use Rattle.std.specs.Prelude.{IsSome, take}
use Rattle.sane_fixed.specs.declared.status.Status.{Status}
use Rattle.sane_fixed.specs.declared.status.Status.TheVariants.{Good, Eof}
use Rattle.netpbm.specs.Pnm.{IsWhole}
use Rattle.client_replies.specs.ProtocolStates.{scans}
use Rattle.dispatch.specs.Table.{listed_infos}
use Rattle.scan_job.specs.declared.job.Job.{Job}
use Rattle.scan_job.specs.declared.job.Task.TheVariants as tasks
use Rattle.scan_job.specs.declared.outcome.Outcome.{Outcome}
use Rattle.scan_job.specs.declared.outcome.Outcome.TheVariants.{Running, Done, Ended}
use Rattle.scan_job.specs.declared.outcome.Why.{Why}
use Rattle.scan_job.specs.declared.report.Reports.{Reports}
use Rattle.event_world.specs.declared.event.Event.{Event}
use Rattle.scan_world.specs.Histories.{History}
use Rattle.scan_world.specs.Page.{IsScan, IsSteady, Settled}
use Rattle.scan_world.specs.Reports.{AreOptionsShown, AreSettingsReported}
use Rattle.event_world.specs.Worlds.{WorldCore}
use Rattle.scan_world.specs.Endings.{HadNoPage, IsEndingExplained, WasOpened}
use Rattle.scan_world.specs.Sessions.{Asked, IsAtList}

-- a job that is done
pub record JobIsDone (h : History) (w : WorldCore) (i : ℕ) (job : Job) (reports : Reports) : Type 0 where
  -- but for a list, it was permitted as it asked for its device, which was listed and free
  pub opened : job.task ≢ tasks.List → WasOpened h w i job
  -- and on that device each setting was given the nearest admitted value, and is reported so
  pub answered : job.task ≢ tasks.List
      → (s : Settled h job) × AreSettingsReported job.settings.items s.placed reports.settings
  -- a show tells of the options of that device
  pub shown : job.task ≡ tasks.Show → (s : Settled h job) × AreOptionsShown s.setup reports.options
  -- a list tells the devices that were listed as it asked for them: all, once, in their order
  pub listed : job.task ≡ tasks.List → (asked : Asked h w i IsAtList)
      × (reports.devices ≡ listed_infos asked.at.before.daemon.registry)

-- **kept (`OutcomeIsKept`, `JobIsDone`, `FileIsKept`, `PageIsKept`, `CountIsKept`, `MoveIsKept`,
-- `MovesAreKept`, `JobAnswers`, `JobIsKept`)**: what each call answers of a job is right, and all of them together.
--
-- `outcome`: a job that ended otherwise names a status, and that is explained
pub record OutcomeIsKept (h : History) (w : WorldCore) (i : ℕ) (job : Job) (starved : Bool) (o : Outcome) : Type 0 where
  pub done : (reports : Reports) → o ≡ Done reports → JobIsDone h w i job reports
  pub ended : (status : Status) (why : Why) → o ≡ Ended status why
      → (status ≢ Good) × (status ≢ Eof) × IsEndingExplained h w i job starved status why

-- `file`
pub record FileIsKept (h : History) (w : WorldCore) (i : ℕ) (job : Job) (starved : Bool)
    (outcome : Outcome) (file : Option (List ℕ)) : Type 0 where
  -- of a scan that is done, if the pages that came for its device in time are steady: exactly the picture that its
  -- settings mean on that of its start
  pub scanned : (reports : Reports) (bytes : List ℕ) → IsSteady h w i job.device → job.task ≡ tasks.Scan
      → outcome ≡ Done reports → file ≡ Some bytes → IsScan h w i job 0 bytes
  -- a front of it is whole only of such a scan: of a job that runs, that ended otherwise, or that is no scan none is
  pub whole : (bytes : List ℕ) (n : ℕ) → file ≡ Some bytes → IsWhole (take n bytes) → (reports : Reports)
      × (job.task ≡ tasks.Scan) × (outcome ≡ Done reports)
  -- it is missing only where there was no memory for it
  pub missing : file ≡ None → starved ≡ true
  -- and that of a job which does not scan stays empty
  pub empty : scans job.task ≡ false → file ≡ Some []

-- `file_at` of page k, from 1, of so many that are finished, whatever became of the job
pub record PageIsKept (h : History) (w : WorldCore) (i : ℕ) (job : Job) (starved : Bool)
    (finished k : ℕ) (file : Option (List ℕ)) : Type 0 where
  pub scanned : (bytes : List ℕ) → file ≡ Some bytes → (0 < k) × (k ≤ finished)
      × (IsSteady h w i job.device → IsScan h w i job (k - 1) bytes)
  pub missing : 0 < k → k ≤ finished → file ≡ None → starved ≡ true

-- `finished`: a batch that is done has all its pages, or fewer, one at least, and then its device had no more as it
-- asked for a start behind just these
abbrev pub CountIsKept : History → WorldCore → ℕ → Job → Outcome → ℕ → Type 0
CountIsKept h w i job outcome finished = (count : ℕ) (reports : Reports) → job.task ≡ tasks.Batch count
    → outcome ≡ Done reports → (finished ≡ count) ⊎ ((0 < finished) × (finished < count) × HadNoPage h w i job finished)

-- `next_move`: a job has one just where it runs
pub record MoveIsKept (outcome : Outcome) (next : Option Event) : Type 0 where
  pub running : outcome ≡ Running → IsSome next
  pub over : outcome ≢ Running → next ≡ None

-- `moves_left`: so many moves are enough
pub record MovesAreKept (outcome : Outcome) (moves_left : ℕ) : Type 0 where
  pub running : outcome ≡ Running → 0 < moves_left
  pub over : outcome ≢ Running → moves_left ≡ 0

-- what the calls of a world answer of one job
pub record JobAnswers : Type 0 where
  pub outcome : Outcome
  pub file : Option (List ℕ)
  pub file_at : ℕ → Option (List ℕ)
  pub finished : ℕ
  pub starved : Bool
  pub next_move : Option Event
  pub moves_left : ℕ

-- ALL IS KEPT, of job i
pub record JobIsKept (h : History) (w : WorldCore) (i : ℕ) (job : Job) (a : JobAnswers) : Type 0 where
  pub outcome : OutcomeIsKept h w i job a.starved a.outcome
  pub file : FileIsKept h w i job a.starved a.outcome a.file
  pub pages : (k : ℕ) → PageIsKept h w i job a.starved a.finished k (a.file_at k)
  pub count : CountIsKept h w i job a.outcome a.finished
  pub move : MoveIsKept a.outcome a.next_move
  pub moves : MovesAreKept a.outcome a.moves_left
