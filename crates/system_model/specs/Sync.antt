-- What is so while a job runs: for each thing that its client may wait for, what client, daemon and device have in
-- common.
use Rattle.std.specs.Prelude.{ℕ, ◌≡◌, ◌≢◌, ◌≤◌, ◌⊎◌, List, [], ◌∷◌, ◌++◌, true, false, Option, Some, None, length}
use Rattle.scan_job.specs.declared.outcome.Why.TheVariants.{Answer, Short}
use Rattle.sane_fixed.specs.declared.status.Status.{Status}
use Rattle.sane_fixed.specs.declared.status.Status.TheVariants.{Good, Eof, IoError}
use Rattle.option_desc.specs.declared.value.Value.{Value}
use Rattle.sane_fixed.specs.declared.byte_order.ByteOrder.{ByteOrder as Order}
use Rattle.sane_fixed.specs.declared.params.Params.{Params}
use Rattle.page_picture.specs.Shows.{Frame}
use Rattle.system_model.specs.AbstractMessages.{AbstractReport, RequestedSetting}
use Rattle.system_model.specs.AbstractMessages.{Challenge}
use Rattle.system_model.specs.Devices.{Make, OptionsInForce, read_status_of, resolve_setting, descriptors_in_force}
use Rattle.system_model.specs.Devices.{readable_options, order_of, picture_frames, accepts, frame_overflows}
use Rattle.system_model.specs.Devices.{frame_fills}
use Rattle.system_model.specs.AbstractInForce.{abstract_in_force, abstract_force, with_reports_before, values_of}
use Rattle.system_model.specs.AbstractInForce.{AreReadable}
use Rattle.system_model.specs.Client.{AbstractJob, AbstractTask, List_, Show, SetOnly, Scan, Batch, further_pages}
use Rattle.system_model.specs.Client.{ClientView}
use Rattle.system_model.specs.Client.{AbstractProgress, Greeting, Listing, Opening, Allowing, Describing, Putting}
use Rattle.system_model.specs.Client.{Getting, Starting, Shaping, Imaging}
use Rattle.system_model.specs.AbstractDevices.{AbstractDevice, Begin, ScanPhase, Resting, Between, Reading}
use Rattle.system_model.specs.AbstractDevices.{phase_after_frame}
use Rattle.system_model.specs.Daemon.{Quiet, Waiting, Streaming}
use Rattle.system_model.specs.Causes.{IsExplained}
use Rattle.system_model.specs.SystemStates.{SessionView}
use Rattle.scan_laws.specs.Joins.{no_frame_left}

-- the join of frames takes these frames behind those
abbrev pub AreJoinable : Order → List Frame → List Frame → Type 0
AreJoinable order done [] = Unit {0}
AreJoinable order done (f ∷ more) =
    (accepts done f.params order ≡ true)
    × ((bytes rest : List ℕ) → bytes ++ rest ≡ f.payload → frame_overflows f.params bytes ≡ false)
    × (frame_fills f.params f.payload ≡ true)
    × (frame_fills f.params [] ≡ false)
    × (f.params.last_frame ≡ no_frame_left more)
    × (f.order ≡ order)
    × AreJoinable order (done ++ f ∷ []) more

abbrev pub Scans : AbstractTask → Type 0
Scans List_ = ⊥
Scans Show = ⊥
Scans SetOnly = ⊥
Scans Scan = Unit {0}
Scans (Batch n) = Unit {0}

-- the device may be opened: it is not guarded, or the user and password are allowed for the challenge that was sent
abbrev pub IsPermitted : AbstractJob → Option Challenge → Type 0
IsPermitted job sent = (job.guarded ≡ false) ⊎ ((c : Challenge) × (sent ≡ Some c) × (job.allows c ≡ true))

-- **a picture of a start (`IsPictureOfStart`, `ArePictures`, `PagesAreOfStarts`)**: frames that are those of the
-- start's options, the settings in force, on its page; each finished page is that of its start.
--
-- There are frames, and where the device's sources are steady they are those of the picture that the job's settings
-- mean on the page of this start.
abbrev pub IsPictureOfStart : Make → List RequestedSetting → Begin → List Frame → Type 0
IsPictureOfStart k settings begin frames =
    ((reports : List AbstractReport)
    × (abstract_in_force k settings ≡ Some (record { options = begin.options; reports = reports })))
    × (k.steady ≡ true → frames ≡ picture_frames k begin.options begin.page) × (frames ≢ [])

-- each of these pages is that of its start
abbrev pub ArePictures : Make → List RequestedSetting → List Begin → List (List Frame) → Type 0
ArePictures k settings [] [] = Unit {0}
ArePictures k settings [] (page ∷ pages) = ⊥
ArePictures k settings (begin ∷ begins) [] = ⊥
ArePictures k settings (begin ∷ begins) (page ∷ pages) = IsPictureOfStart k settings begin page
    × ArePictures k settings begins pages

-- client i holds the device, with these options in force, in this phase
pub record HoldsDevice (i : ℕ) (dev : AbstractDevice) (options : OptionsInForce) (phase : ScanPhase) : Type 0 where
  pub mine : dev.holder ≡ Some i
  pub options_are : dev.options ≡ options
  pub phase_is : dev.phase ≡ phase

-- no data is on the way, and no answer to a challenge is awaited
pub record Still (b : SessionView) : Type 0 where
  pub transfer : b.transfer ≡ Quiet
  pub flight : b.flight ≡ []
  pub ending : b.ending ≡ None
  pub awaited : b.awaited ≡ None

-- no device is held yet
pub record NotYet (i : ℕ) (b : SessionView) (m : ClientView) (dev : AbstractDevice)
    (awaited : Option Challenge) : Type 0 where
  pub free : dev.holder ≢ Some i
  pub transfer : b.transfer ≡ Quiet
  pub flight : b.flight ≡ []
  pub ending : b.ending ≡ None
  pub awaits : b.awaited ≡ awaited
  pub sent : b.sent ≡ awaited
  pub started : b.started ≡ []
  pub shown : b.shown ≡ None
  pub reports : m.reports ≡ []
  pub values : m.values ≡ []
  pub frames : m.frames ≡ []
  pub pages : m.pages ≡ []

-- the settings but these are in force
pub record SettingsInForce (i : ℕ) (k : Make) (b : SessionView) (m : ClientView) (dev : AbstractDevice)
    (left : List RequestedSetting) (options : OptionsInForce) : Type 0 where
  pub held : HoldsDevice i dev options Resting
  pub still : Still b
  pub so_far : abstract_in_force k b.job.settings ≡ with_reports_before m.reports (abstract_force left k options)
  pub permitted : IsPermitted b.job b.sent
  pub opens : b.job.task ≢ List_
  pub started : b.started ≡ []
  pub values : m.values ≡ []
  pub frames : m.frames ≡ []
  pub pages : m.pages ≡ []

pub record IsPutting (i : ℕ) (k : Make) (b : SessionView) (m : ClientView) (dev : AbstractDevice) (n : ℕ)
    (value : Value) (requested : RequestedSetting) (left : List RequestedSetting) : Type 0 where
  pub options : OptionsInForce
  pub settles : SettingsInForce i k b m dev (requested ∷ left) options
  pub known : m.known ≡ descriptors_in_force k options
  pub resolved : resolve_setting m.known requested ≡ Some (n, value)

-- all settings are in force, and the device may be opened
pub record AllInForce (k : Make) (job : AbstractJob) (sent : Option Challenge) (reports : List AbstractReport)
    (options : OptionsInForce) : Type 0 where
  pub forced : abstract_in_force k job.settings ≡ Some (record { options = options; reports = reports })
  pub permitted : IsPermitted job sent

-- the values but these are told
pub record IsGetting (i : ℕ) (k : Make) (b : SessionView) (m : ClientView) (dev : AbstractDevice)
    (left : List ℕ) : Type 0 where
  pub options : OptionsInForce
  pub held : HoldsDevice i dev options Resting
  pub still : Still b
  pub settled : AllInForce k b.job b.sent m.reports options
  pub task : b.job.task ≡ Show
  pub known : m.known ≡ descriptors_in_force k options
  pub so_far : m.values ++ values_of k options left ≡ values_of k options (readable_options m.known)
  pub told : AreReadable k options left
  pub few : length left ≤ 32

-- a page is to be started
pub record Ready (i : ℕ) (k : Make) (b : SessionView) (m : ClientView) (dev : AbstractDevice) : Type 0 where
  pub options : OptionsInForce
  pub held : HoldsDevice i dev options Resting
  pub still : Still b
  pub settled : AllInForce k b.job b.sent m.reports options
  pub scans : Scans b.job.task
  pub frames : m.frames ≡ []
  pub pictures : ArePictures k b.job.settings b.started m.pages
  pub fewer : length m.pages ≤ further_pages b.job.task

-- A page is under way: the frames but these are heard, of the picture of its start where the sources are steady; the
-- pages before it are those of theirs.
pub record PageUnderWay (k : Make) (job : AbstractJob) (sent : Option Challenge) (starts : List Begin)
    (reports : List AbstractReport) (pages : List (List Frame)) (done more : List Frame) : Type 0 where
  pub earlier : List Begin
  pub begin : Begin
  pub started : starts ≡ earlier ++ begin ∷ []
  pub settled : AllInForce k job sent reports begin.options
  pub frames : k.steady ≡ true → done ++ more ≡ picture_frames k begin.options begin.page
  pub proper : AreJoinable (order_of k begin.options) done more
  pub scans : Scans job.task
  pub pictures : ArePictures k job.settings earlier pages
  pub fewer : length pages ≤ further_pages job.task

-- the next of several frames is to be started
pub record Pauses (i : ℕ) (k : Make) (b : SessionView) (m : ClientView) (dev : AbstractDevice) : Type 0 where
  pub last : Frame
  pub frame : Frame
  pub more : List Frame
  pub continues : PageUnderWay k b.job b.sent b.started m.reports m.pages m.frames (frame ∷ more)
  pub held : HoldsDevice i dev continues.begin.options (Between last (frame ∷ more))
  pub still : Still b

-- a frame is started
pub record IsShaping (i : ℕ) (k : Make) (b : SessionView) (m : ClientView) (dev : AbstractDevice) : Type 0 where
  pub frame : Frame
  pub more : List Frame
  pub continues : PageUnderWay k b.job b.sent b.started m.reports m.pages m.frames (frame ∷ more)
  pub held : HoldsDevice i dev continues.begin.options (Reading frame frame.payload more)
  pub order : m.order ≡ order_of k continues.begin.options
  pub transfer : b.transfer ≡ Waiting
  pub flight : b.flight ≡ []
  pub ending : b.ending ≡ None
  pub awaited : b.awaited ≡ None

-- THE DATA CONNECTION OF A FRAME is in one of four states. So much of the frame that the device has is still to be
-- read;
pub record StillReading (i : ℕ) (k : Make) (b : SessionView) (dev : AbstractDevice) (options : OptionsInForce)
    (more : List Frame) (heard rest : List ℕ) : Type 0 where
  pub meant : Frame
  pub held : HoldsDevice i dev options (Reading meant rest more)
  pub ending : b.ending ≡ None
  pub transfer : (b.transfer ≡ Waiting) ⊎ (b.transfer ≡ Streaming)
  -- a status in place of the data comes before any of them
  pub unread : (status : Status) → read_status_of k options ≡ Some status → (heard ≡ []) × (b.flight ≡ [])

-- all of it was sent;
pub record FlowsOut (i : ℕ) (b : SessionView) (dev : AbstractDevice) (options : OptionsInForce) (more : List Frame)
    (rest : List ℕ) : Type 0 where
  pub meant : Frame
  pub held : HoldsDevice i dev options (phase_after_frame meant more)
  pub nothing : rest ≡ []
  pub ending : b.ending ≡ Some Eof
  pub transfer : b.transfer ≡ Quiet

-- EOF was named in place of the data;
pub record CutShort (i : ℕ) (b : SessionView) (dev : AbstractDevice) (heard : List ℕ) : Type 0 where
  pub mine : dev.holder ≡ Some i
  pub ending : b.ending ≡ Some Eof
  pub flight : b.flight ≡ []
  pub heard_none : heard ≡ []
  pub cause : IsExplained IoError Short b.met
  pub transfer : b.transfer ≡ Quiet

-- or a read was refused.
pub record ReadWasRefused (i : ℕ) (b : SessionView) (dev : AbstractDevice) : Type 0 where
  pub mine : dev.holder ≡ Some i
  pub status : Status
  pub ending : b.ending ≡ Some status
  pub not_eof : status ≢ Eof
  pub not_good : status ≢ Good
  pub cause : IsExplained status Answer b.met
  pub transfer : b.transfer ≡ Quiet

abbrev pub DataUnderWay : ℕ → Make → SessionView → AbstractDevice → OptionsInForce → List Frame → List ℕ → List ℕ
    → Type 0
DataUnderWay i k b dev o more heard rest = StillReading i k b dev o more heard rest
    ⊎ (FlowsOut i b dev o more rest ⊎ (CutShort i b dev heard ⊎ ReadWasRefused i b dev))

-- the data of a frame come: what was heard, what is on the way, and what is to come are its payload
pub record Images (i : ℕ) (k : Make) (b : SessionView) (m : ClientView) (dev : AbstractDevice) (params : Params)
    (heard : List ℕ) : Type 0 where
  pub frame : Frame
  pub more : List Frame
  pub continues : PageUnderWay k b.job b.sent b.started m.reports m.pages m.frames (frame ∷ more)
  pub params_are : params ≡ frame.params
  pub order : m.order ≡ order_of k continues.begin.options
  pub awaited : b.awaited ≡ None
  pub rest : List ℕ
  pub payload : heard ++ (b.flight ++ rest) ≡ frame.payload
  pub carries : DataUnderWay i k b dev continues.begin.options more heard rest

-- **in step (`InSync`), invariant (`Invariant`)**: what is so while a job runs, for each thing that its client may wait
-- for. The invariant: what is always so, of each job, of its finished pages, of each device.
--
-- what a client that waits for this knows is so
abbrev pub InSync : ℕ → Make → SessionView → ClientView → AbstractDevice → AbstractProgress → Type 0
InSync i k b m dev Greeting = NotYet i b m dev None
InSync i k b m dev Listing = NotYet i b m dev None × (b.job.task ≡ List_)
InSync i k b m dev Opening = NotYet i b m dev None × (b.job.task ≢ List_)
InSync i k b m dev (Allowing c) = NotYet i b m dev (Some c) × (b.job.task ≢ List_)
InSync i k b m dev (Describing left) = (options : OptionsInForce) × SettingsInForce i k b m dev left options
InSync i k b m dev (Putting n value requested left) = IsPutting i k b m dev n value requested left
InSync i k b m dev (Getting n left) = IsGetting i k b m dev (n ∷ left)
InSync i k b m dev Starting = Ready i k b m dev ⊎ Pauses i k b m dev
InSync i k b m dev Shaping = IsShaping i k b m dev
InSync i k b m dev (Imaging params heard) = Images i k b m dev params heard
