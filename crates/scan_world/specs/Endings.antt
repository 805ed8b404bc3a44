-- WHAT EXPLAINS AN ENDING: an event of the job, and what stood in the world in front of it.
use Rattle.std.specs.Prelude.{ℕ, ◌≡◌, ◌≢◌, ◌⊎◌, ◌++◌, Bool, true, false, Some, None, List, []}
use Rattle.sane_fixed.specs.declared.status.Status.{Status}
use Rattle.sane_fixed.specs.declared.status.Status.TheVariants.{Cancelled, DeviceBusy, Inval, Eof, NoDocs, IoError}
use Rattle.sane_fixed.specs.declared.status.Status.TheVariants.{NoMem, AccessDenied}
use Rattle.md5_auth.specs.ChallengeReading.{challenge_of}
use Rattle.data_records.specs.Records.{end_record}
use Rattle.page_picture.specs.Meaning.{meaning_of}
use Rattle.device_api.specs.State.{DeviceState, HasStopped, HeldPage, after_cancel, is_at_rest, page_of}
use Rattle.daemon_refines.specs.Failures.{HasBytesLeft}
use Rattle.dispatch.specs.Table.{find_name}
use Rattle.saned_requests.specs.declared.session.AwaitedAuthorization.{AwaitedAuthorization}
use Rattle.saned_requests.specs.declared.session.Session.{Session}
use Rattle.client_replies.specs.ProtocolStates.{scans}
use Rattle.scan_job.specs.declared.job.Job.{Job}
use Rattle.scan_job.specs.declared.job.Task.TheVariants as tasks
use Rattle.scan_job.specs.declared.outcome.Why.{Why}
use Rattle.scan_job.specs.declared.outcome.Why.TheVariants as whys
use Rattle.event_world.specs.declared.endpoint.Image.{Image}
use Rattle.event_world.specs.declared.event.Event.TheVariants.{Cancel, ToClient, DataTurn, DataToClient, LoseControl}
use Rattle.event_world.specs.declared.event.Event.TheVariants.{LoseImage}
use Rattle.event_world.specs.Worlds.{WorldCore}
use Rattle.world_refines.specs.GhostStates.{backend_of, is_allowed, is_guarded}
use Rattle.world_refines.specs.FailedSources.{HoldsLease}
use Rattle.saned_requests.specs.LeaseLaws.{IsIn}
use Rattle.scan_world.specs.Histories.{HasEvent, History}
use Rattle.scan_world.specs.Page.{CameInTime, Settled}
use Rattle.scan_world.specs.Sessions.{Asked, AtJob, Happened, Has, IsAtOpen, IsAtStart, SessionAt, StrangerHas}

-- ---- the rows

-- it scans, and `read-return-value`, as its settings put it in force, says this status in a turn of its frame
abbrev pub NamesStatus : History → WorldCore → ℕ → Job → Status → Type 0
NamesStatus h w i job status =
    Happened h w i (DataTurn i) × (scans job.task ≡ true) × ((s : Settled h job) × (s.setup.told ≡ Some status))

-- it puts settings, as a list does not, and on no device of the name can they be in force
abbrev pub IsUnforced : History → Job → Type 0
IsUnforced h job = (job.task ≢ tasks.List) × (Settled h job → ⊥)

-- a line of the users names its backend, and its session had sent a challenge, in that world; whether its user and
-- password are allowed for that is this
pub record HasPassed (h : History) (before : WorldCore) (i : ℕ) (job : Job) (allowed : Bool) : Type 0 where
  pub session : Session DeviceState
  pub stands : SessionAt before i session
  pub sent : AwaitedAuthorization
  pub awaited : session.awaited ≡ Some sent
  pub guarded : is_guarded h.users (backend_of job.device) ≡ true
  pub challenge : List ℕ
  pub read : challenge_of sent.resource ≡ Some challenge
  pub is : is_allowed h.users job.user job.password (backend_of job.device) challenge ≡ allowed

-- **opened (`WasOpened`, `HasPassed`)**: as a job asked for its device, that was listed and no session had it, a job's
-- or a stranger's. Its user and password are allowed for the challenge that its session had sent, or no line of the
-- users names its backend. Behind that its session, if it stands, has the device.
pub record WasOpened (h : History) (w : WorldCore) (i : ℕ) (job : Job) : Type 0 where
  pub asked : Asked h w i IsAtOpen
  pub listed : find_name job.device asked.at.before.daemon.registry ≢ None
  pub free : (j : ℕ) (d : DeviceState) → Has asked.at.before j job.device d → ⊥
  pub unshared : StrangerHas asked.at.before job.device → ⊥
  pub permitted : (is_guarded h.users (backend_of job.device) ≡ false) ⊎ HasPassed h asked.at.before i job true
  pub taken : (s : Session DeviceState) → SessionAt asked.at.behind i s
      → (d : DeviceState) × Has asked.at.behind i job.device d

-- it scans, and as it asked for a start behind so many finished pages, the device that its session had at rest had none
abbrev pub HadNoPage : History → WorldCore → ℕ → Job → ℕ → Type 0
HadNoPage h w i job count =
    (scans job.task ≡ true) × (asked : Asked h w i IsAtStart) × AtJob asked.at.before i (λ p. p.finished ≡ count)
    × ((d : DeviceState) × Has asked.at.before i job.device d × (is_at_rest d.phase ≡ true) × (d.pages ≡ []))

-- it had the options that its settings put in force, and they mean no picture on its first page, which came for it
pub record HadNoPicture (h : History) (w : WorldCore) (i : ℕ) (job : Job) : Type 0 where
  pub scanning : scans job.task ≡ true
  pub asked : Asked h w i IsAtStart
  pub device : DeviceState
  pub has : Has asked.at.before i job.device device
  pub settled : Settled h job
  pub options : settled.setup ≡ device.setup
  pub held : HeldPage
  pub came : CameInTime h w i job.device held
  pub first : held.page ≡ page_of device
  pub none : meaning_of held.page settled.setup.scene ≡ None

-- the session of job i had a device whose source can fail, did, and counted it, as a pass was read with bytes of it
-- still to be given. Behind the event the device is stopped, and the session had it, or it is back in its place
pub record DeviceFailed (before behind : WorldCore) (i : ℕ) (name : List ℕ) : Type 0 where
  pub device : DeviceState
  pub has : Has before i name device
  pub after : DeviceState
  pub stopped : HasStopped device after
  pub amid : HasBytesLeft device device.phase
  pub left : HoldsLease behind.daemon has.at.id.number has.word (record has.lease { device = after })
      ⊎ IsIn (after_cancel after) has.lease.place behind.daemon.registry

-- behind the bytes of a frame's data that were on the way to job i came the end with the number of IO_ERROR
abbrev pub SendsFailure : WorldCore → WorldCore → ℕ → Type 0
SendsFailure before behind i = (old new : Image) × AtJob before i (λ p. p.image ≡ Some old)
    × AtJob behind i (λ p. p.image ≡ Some new) × (new.bytes ≡ old.bytes ++ end_record 9)

-- it scans, a page that can fail came for its device, and the source of its first page failed in that, or in a turn of
-- the frame
abbrev pub HadFailed : History → WorldCore → ℕ → Job → Type 0
HadFailed h w i job =
    (scans job.task ≡ true) × ((held : HeldPage) × CameInTime h w i job.device held × (held.infallible ≡ false))
    × (((asked : Asked h w i IsAtStart) × DeviceFailed asked.at.before asked.at.behind i job.device)
    ⊎ ((turn : Happened h w i (DataTurn i)) × DeviceFailed turn.0.before turn.0.behind i job.device
    × SendsFailure turn.0.before turn.0.behind i))

-- what an answer with this status comes from, if `read-return-value` does not say it: as the job asked for its device,
-- that was not listed; another session had it, a job's or a stranger's; or its user and password are not allowed
abbrev pub AnswerIsExplained : History → WorldCore → ℕ → Job → Status → Type 0
AnswerIsExplained h w i job Inval = (IsUnforced h job × WasOpened h w i job) ⊎ (HadNoPicture h w i job
    ⊎ ((asked : Asked h w i IsAtOpen) × (find_name job.device asked.at.before.daemon.registry ≡ None)))
AnswerIsExplained h w i job DeviceBusy = (asked : Asked h w i IsAtOpen)
    × (((j : ℕ) × (d : DeviceState) × (j ≢ i) × Has asked.at.before j job.device d)
    ⊎ StrangerHas asked.at.before job.device)
AnswerIsExplained h w i job AccessDenied = (asked : Asked h w i IsAtOpen) × HasPassed h asked.at.before i job false
AnswerIsExplained h w i job NoDocs = HadNoPage h w i job 0
AnswerIsExplained h w i job IoError = HadFailed h w i job
AnswerIsExplained h w i job status = ⊥

-- **caused (`IsEndingExplained`, `AnswerIsExplained`, `HadNoPage`, `HadNoPicture`, `HadFailed`, `DeviceFailed`,
-- `SendsFailure`, `NamesStatus`, `IsUnforced`)**: the table of endings: a status and a why, with what explains it. That
-- is an event of the job, which came to it as it ran, and what stood in the world in front of it. Another session had
-- the device, a job's or a stranger's. It was not listed. The user's password is not allowed for the challenge that was
-- sent. The device had no page, or settings mean no picture on its first. Its source failed. A connection was lost. A
-- piece came to a client without memory. `read-return-value` says a status in a turn of a frame. Behind its opening:
-- the settings can be in force on no device of the name.
--
-- THE TABLE: what explains that job i ended with a status and a why. No other two of them occur.
abbrev pub IsEndingExplained : History → WorldCore → ℕ → Job → Bool → Status → Why → Type 0
IsEndingExplained h w i job starved status whys.Cancelled = (status ≡ Cancelled) × HasEvent h (Cancel i)
IsEndingExplained h w i job starved status whys.Lost =
    (status ≡ IoError) × ((Happened h w i (LoseControl i) ⊎ Happened h w i (LoseImage i)) ⊎ (starved ≡ true))
IsEndingExplained h w i job starved status whys.Short = (status ≡ IoError) × NamesStatus h w i job Eof
IsEndingExplained h w i job starved status whys.Setting = (status ≡ Inval) × IsUnforced h job × WasOpened h w i job
IsEndingExplained h w i job starved status whys.Memory =
    (status ≡ NoMem) × ((n : ℕ) × (Happened h w i (ToClient i n) ⊎ Happened h w i (DataToClient i n)))
IsEndingExplained h w i job starved status whys.Answer =
    ((status ≢ Eof) × NamesStatus h w i job status) ⊎ AnswerIsExplained h w i job status
IsEndingExplained h w i job starved status why = ⊥
