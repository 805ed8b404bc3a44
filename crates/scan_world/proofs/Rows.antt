-- The rows of the table as they are found, of pages that came whenever that was; and a turn that failed, as long as it is not told
-- whether its connection went.
use Rattle.std.specs.Prelude.{option_and_then, option_map, slice_get}
use Rattle.std.proofs.Common.{◌≡◌, ◌≢◌, ◌⊎◌, ◌++◌, ℕ, List, Bool, true, false, Option, Some, None}
use Rattle.netpbm.specs.Picture.{Picture}
use Rattle.netpbm.specs.Pnm.{Denotes}
use Rattle.sane_fixed.specs.Status.{status_code}
use Rattle.sane_fixed.specs.declared.status.Status.{Status}
use Rattle.sane_fixed.specs.declared.status.Status.TheVariants.{Cancelled, DeviceBusy, Inval, Eof, NoDocs, IoError, NoMem, AccessDenied}
use Rattle.data_records.specs.Records.{end_record}
use Rattle.page_picture.specs.Meaning.{meaning_of}
use Rattle.device_api.specs.State.{DeviceState, HeldPage, page_of}
use Rattle.dispatch.specs.Table.{find_name}
use Rattle.client_replies.specs.ProtocolStates.{scans}
use Rattle.client_replies.specs.declared.progress.Progress.{Progress}
use Rattle.scan_job.specs.declared.job.Job.{Job}
use Rattle.scan_job.specs.declared.outcome.Why.{Why}
use Rattle.scan_job.specs.declared.outcome.Why.TheVariants as whys
use Rattle.scan_job.specs.declared.outcome.Outcome.TheVariants.{Running}
use Rattle.event_world.specs.declared.endpoint.Endpoint.{Endpoint}
use Rattle.event_world.specs.declared.endpoint.Image.{Image}
use Rattle.event_world.specs.declared.event.Event.TheVariants.{Cancel, ToClient, DataTurn, DataToClient, LoseControl, LoseImage}
use Rattle.event_world.specs.Worlds.{WorldCore}
use Rattle.world_refines.specs.FailedSources.{FailedIn}
use Rattle.strangers.specs.Together.{JointEvent}
use Rattle.scan_world.specs.Endings.{HadNoPage, HasPassed, IsUnforced, NamesStatus, WasOpened}
use Rattle.scan_world.specs.Histories.{HasEvent, History, history_up_to}
use Rattle.scan_world.specs.Page.{CameFor, Settled, StartedOn}
use Rattle.scan_world.proofs.Sources.{CanFail}
use Rattle.scan_world.specs.Sessions.{Asked, AtJob, Happened, Has, IsAtOpen, IsAtStart, StrangerHas}
use Rattle.frame_join.specs.PictureText.{picture_text}

-- the client of job i waits for this
abbrev pub WaitsAt : WorldCore → ℕ → (Progress → Type 0) → Type 0
WaitsAt w i Waits = AtJob w i (λ p. Waits p.client.progress)

abbrev pub HasFinished : WorldCore → ℕ → ℕ → Type 0
HasFinished w i count = AtJob w i (λ p. p.finished ≡ count)

-- job i runs
abbrev pub RunsAt : WorldCore → ℕ → Type 0
RunsAt w i = AtJob w i (λ p. p.client.outcome ≡ Running)

-- ---- pages, with these events

pub record IsScanEver (h : History) (w : WorldCore) (changing : List JointEvent) (i : ℕ) (job : Job) (count : ℕ) (file : List ℕ) : Type 0 where
  pub settled : Settled h job
  pub held : HeldPage
  pub came : CameFor (history_up_to h changing) job.device held
  pub started : StartedOn h w i job count held.page
  pub picture : Picture
  pub meant : meaning_of held.page settled.setup.scene ≡ Some picture
  pub denotes : Denotes file picture
  pub own : file ≡ picture_text picture

-- ---- the rows

abbrev pub WasLost : History → WorldCore → ℕ → Type 0
WasLost h w i = Happened h w i (LoseControl i) ⊎ Happened h w i (LoseImage i)

abbrev pub WasStarved : History → WorldCore → ℕ → Type 0
WasStarved h w i = (n : ℕ) × (Happened h w i (ToClient i n) ⊎ Happened h w i (DataToClient i n))

abbrev pub WasUnlisted : History → WorldCore → ℕ → Job → Type 0
WasUnlisted h w i job = (asked : Asked h w i IsAtOpen) × (find_name job.device asked.at.before.daemon.registry ≡ None)

abbrev pub WasHeld : History → WorldCore → ℕ → Job → Type 0
WasHeld h w i job = (asked : Asked h w i IsAtOpen) × (((j : ℕ) × (d : DeviceState) × (j ≢ i) × Has asked.at.before j job.device d) ⊎ StrangerHas asked.at.before job.device)

abbrev pub WasDisallowed : History → WorldCore → ℕ → Job → Type 0
WasDisallowed h w i job = (asked : Asked h w i IsAtOpen) × HasPassed h asked.at.before i job false

pub record HadNoPictureEver (h : History) (w : WorldCore) (changing : List JointEvent) (i : ℕ) (job : Job) : Type 0 where
  pub scanning : scans job.task ≡ true
  pub asked : Asked h w i IsAtStart
  pub device : DeviceState
  pub has : Has asked.at.before i job.device device
  pub settled : Settled h job
  pub options : settled.setup ≡ device.setup
  pub held : HeldPage
  pub came : CameFor (history_up_to h changing) job.device held
  pub first : held.page ≡ page_of device
  pub none : meaning_of held.page settled.setup.scene ≡ None

-- the bytes of a frame's data that are on the way to job i
abbrev pub image_at : WorldCore → ℕ → Option (List ℕ)
image_at w i = option_and_then (λ (p : Endpoint). option_map (λ (image : Image). image.bytes) p.image) (slice_get w.endpoints i)

-- behind these came the end with IO_ERROR, or, for want of memory, none are on the way any more
abbrev pub SendsOrLoses : WorldCore → WorldCore → ℕ → Type 0
SendsOrLoses before behind i =
    (sent : List ℕ) × (image_at before i ≡ Some sent)
    × ((image_at behind i ≡ Some (sent ++ end_record (status_code IoError))) ⊎ (image_at behind i ≡ None))

abbrev pub MayHaveFailed : History → WorldCore → List JointEvent → ℕ → Job → Type 0
MayHaveFailed h w changing i job = (scans job.task ≡ true) × CanFail (history_up_to h changing) job.device
    × (((asked : Asked h w i IsAtStart) × FailedIn asked.at.before asked.at.behind.daemon i job.device)
    ⊎ ((turn : Happened h w i (DataTurn i)) × FailedIn turn.0.before turn.0.behind.daemon i job.device
    × SendsOrLoses turn.0.before turn.0.behind i))

abbrev pub AnswerEver : History → WorldCore → List JointEvent → ℕ → Job → Status → Type 0
AnswerEver h w changing i job Inval = (IsUnforced h job × WasOpened h w i job) ⊎ (WasUnlisted h w i job ⊎ HadNoPictureEver h w changing i job)
AnswerEver h w changing i job DeviceBusy = WasHeld h w i job
AnswerEver h w changing i job AccessDenied = WasDisallowed h w i job
AnswerEver h w changing i job NoDocs = HadNoPage h w i job 0
AnswerEver h w changing i job IoError = MayHaveFailed h w changing i job
AnswerEver h w changing i job status = ⊥

abbrev pub EndingEver : History → WorldCore → List JointEvent → ℕ → Job → Bool → Status → Why → Type 0
EndingEver h w changing i job starved status whys.Cancelled = (status ≡ Cancelled) × HasEvent h (Cancel i)
EndingEver h w changing i job starved status whys.Lost = (status ≡ IoError) × (WasLost h w i ⊎ (starved ≡ true))
EndingEver h w changing i job starved status whys.Short = (status ≡ IoError) × NamesStatus h w i job Eof
EndingEver h w changing i job starved status whys.Setting = (status ≡ Inval) × IsUnforced h job × WasOpened h w i job
EndingEver h w changing i job starved status whys.Memory = (status ≡ NoMem) × WasStarved h w i
EndingEver h w changing i job starved status whys.Answer = ((status ≢ Eof) × NamesStatus h w i job status) ⊎ AnswerEver h w changing i job status
EndingEver h w changing i job starved status why = ⊥
