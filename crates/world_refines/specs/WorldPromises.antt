-- What is promised of a job's outcome and of its file, of whatever a world stands for.
use Rattle.std.specs.Prelude.{◌<◌, ℕ, ◌≡◌, ◌≢◌, ◌⊎◌, true, false, Option, Some, None, IsSome, option_map, List, ◌∷◌}
use Rattle.std.specs.Prelude.{map, slice_get}
use Rattle.sane_fixed.specs.declared.kind.Kind.{Kind}
use Rattle.sane_fixed.specs.declared.status.Status.{Status}
use Rattle.netpbm.specs.Picture.{Picture}
use Rattle.page_picture.specs.Meaning.{meaning_of}
use Rattle.option_desc.specs.declared.descriptor.Descriptor.{Descriptor}
use Rattle.option_desc.specs.declared.value.Value.{Value}
use Rattle.device_api.specs.InForce as devices
use Rattle.sane_fixed.specs.declared.device_info.DeviceInfo.{DeviceInfo}
use Rattle.scan_job.specs.declared.job.Task.TheVariants as tasks
use Rattle.scan_job.specs.declared.outcome.Outcome.{Outcome}
use Rattle.scan_job.specs.declared.outcome.Outcome.TheVariants.{Running, Done, Ended}
use Rattle.scan_job.specs.declared.outcome.Why.{Why}
use Rattle.scan_job.specs.declared.report.Report.{Report}
use Rattle.scan_job.specs.declared.report.Reports.{Reports}
use Rattle.system_model.specs.AbstractMessages as words
use Rattle.system_model.specs.Causes.{IsCauseAmong, TrayRanOut, WasUnsaid}
use Rattle.system_model.specs.Devices.{Make, OptionsInForce, descriptors_in_force, readable_options}
use Rattle.system_model.specs.Client as model
use Rattle.system_model.specs.AbstractInForce as ruled
use Rattle.system_model.specs.AbstractInForce.{AreAnswered, values_of}
use Rattle.system_model.specs.AbstractDevices.{Begin}
use Rattle.system_model.specs.SystemStates.{make_for}
use Rattle.system_model.specs.Transitions.{IsUnderWay}
use Rattle.system_model.specs.Invariants.{IsCaused}
use Rattle.system_model.specs.Sync.{IsPermitted, AllInForce}
use Rattle.client_refines.specs.Filled.{IsFilled}
use Rattle.client_refines.specs.ClientRefinement.{descs, common_abstract_report, common_report, known_values}
use Rattle.client_refines.specs.ClientRefinement.{requested_setting}
use Rattle.client_replies.specs.ProtocolStates.{is_running}
use Rattle.client_replies.specs.GivenValues.{given_like, wire_value_in}
use Rattle.saned_requests.specs.declared.session.StringSize.{StringSize}
use Rattle.saned_requests.specs.OptionValues.{sent_as}
use Rattle.wire_message.specs.WireValues.{wire_of}
use Rattle.event_world.specs.declared.event.Event.{Event}
use Rattle.event_world.specs.declared.event.Event.TheVariants.{LoseControl}
use Rattle.event_world.specs.declared.endpoint.Endpoint.{Endpoint}
use Rattle.event_world.specs.JobMoves.{IsNextMove}
use Rattle.event_world.specs.Worlds.{WorldCore}
use Rattle.world_refines.specs.GhostStates.{Ghost, job_state}
use Rattle.world_refines.specs.WorldRefinement.{WorldRefines}
use Rattle.frame_join.specs.PictureText.{IsPictureFile}

-- ---- outcomes

-- Of each setting, in order: what its text reads as, the nearest admitted value, and INEXACT just where the two differ.
-- They are put one after another from the defaults on, each by the descriptors in force then.
pub record AreReported (t : Ghost) (i : ℕ) (settings : List Report) : Type 0 where
  pub reports : List words.AbstractReport
  pub options : OptionsInForce
  pub are : map common_abstract_report reports ≡ map common_report settings
  pub forced : ruled.abstract_in_force (make_for t.system i) (map requested_setting (t.jobs i).settings.items)
      ≡ Some (record { options = options; reports = reports })
  pub answered : AreAnswered (make_for t.system i) (map requested_setting (t.jobs i).settings.items) reports

-- the devices that were listed as the daemon read the request, in their order, and of each its own name, vendor, model
-- and class
pub record AreListed (t : Ghost) (i : ℕ) (infos : List DeviceInfo) : Type 0 where
  pub places : List ℕ
  pub shown : (job_state t i).session.shown ≡ Some places
  pub told : map (slice_get t.infos) places ≡ map Some infos

-- **shown (`AreShown`)**: the descriptors of the options in force, as the job's settings made them, and at each whose
-- value is told that value (`IsFilled`).
pub record AreShown (t : Ghost) (i : ℕ) (options : List (Descriptor × Option Value)) : Type 0 where
  pub in_force : OptionsInForce
  pub settled
      : AllInForce (make_for t.system i) (job_state t i).session.job (job_state t i).session.sent
      (job_state t i).client.reports in_force
  pub descriptors : descs options ≡ descriptors_in_force (make_for t.system i) in_force
  pub values : known_values options
      ≡ values_of (make_for t.system i) in_force
      (readable_options (descriptors_in_force (make_for t.system i) in_force))
  pub filled : IsFilled (make_for t.system i) in_force (descriptors_in_force (make_for t.system i) in_force) options

-- a job that is done kept its promise: on its settings and on permission, on the options that it shows, or on the list
pub record KeepsPromise (t : Ghost) (i : ℕ) (reports : Reports) : Type 0 where
  pub stage : (job_state t i).client.stage ≡ model.Done
  pub settings : (t.jobs i).task ≢ tasks.List → AreReported t i reports.settings
  pub permitted : (t.jobs i).task ≢ tasks.List → IsPermitted (job_state t i).session.job (job_state t i).session.sent
  pub options : (t.jobs i).task ≡ tasks.Show → AreShown t i reports.options
  pub devices : (t.jobs i).task ≡ tasks.List → AreListed t i reports.devices

-- another ending has its cause
abbrev pub HasCause : Ghost → ℕ → Status → Why → Type 0
HasCause t i status why = IsCaused (make_for t.system i) (job_state t i).session status why

-- **outcomes (`IsOutcome`, `KeepsPromise`, `HasCause`)**: a job that runs is under way. One that is done has its
-- settings put one after another from the defaults on. Each is reported with what its text reads as by the descriptors
-- in force then, the nearest admitted value, and INEXACT just where these differ. It was permitted, or it has the
-- devices that were listed, each with its own name, vendor, model and class (`AreListed`). Another ending has its
-- cause.
abbrev pub IsOutcome : Ghost → ℕ → Outcome → Type 0
IsOutcome t i Running = IsUnderWay (job_state t i).client.stage
IsOutcome t i (Done reports) = KeepsPromise t i reports
IsOutcome t i (Ended status why) = HasCause t i status why

abbrev pub OutcomesAreRight : Type 0
OutcomesAreRight = (t : Ghost) (w : WorldCore) (i : ℕ) (endpoint : Endpoint) → WorldRefines t w
    → slice_get w.endpoints i ≡ Some endpoint → IsOutcome t i endpoint.client.outcome

-- ---- the file of a scan

-- **meant (`IsMeant`, `FileIsOfFirstStart`, `HasScannedPage`)**: the file denotes the picture that the settings in
-- force mean on the page of a start: the first one of a scan, and for a page of a batch the one of its number.
pub record IsMeant (make : Make) (settings : List (List ℕ × List ℕ)) (begin : Begin) (file : List ℕ) : Type 0 where
  pub picture : Picture
  pub in_force : option_map (λ r. r.0) (devices.in_force make.model make.order settings) ≡ Some begin.options
  pub meant : meaning_of begin.page begin.options.scene ≡ Some picture
  pub denotes : IsPictureFile file picture

-- it is the job's first start, where the device's sources give their rows at each pass
pub record FileIsOfFirstStart (t : Ghost) (i : ℕ) (file : List ℕ) : Type 0 where
  pub begin : Begin
  pub later : List Begin
  pub started : (job_state t i).session.started ≡ begin ∷ later
  pub meant : (make_for t.system i).steady ≡ true → IsMeant (make_for t.system i) (t.jobs i).settings.items begin file

abbrev pub ScansAreMeant : Type 0
ScansAreMeant =
    (t : Ghost) (w : WorldCore) (i : ℕ) (endpoint : Endpoint) (reports : Reports) (file : List ℕ) → WorldRefines t w
    → slice_get w.endpoints i ≡ Some endpoint → (t.jobs i).task ≡ tasks.Scan → endpoint.client.outcome ≡ Done reports
    → endpoint.file ≡ Some file → FileIsOfFirstStart t i file

-- page k of a batch, from 0, is that of its k-th start, where they do
pub record HasScannedPage (t : Ghost) (i k : ℕ) (file : List ℕ) : Type 0 where
  pub begin : Begin
  pub started : slice_get (job_state t i).session.started k ≡ Some begin
  pub meant : (make_for t.system i).steady ≡ true → IsMeant (make_for t.system i) (t.jobs i).settings.items begin file

abbrev pub PagesAreMeant : Type 0
PagesAreMeant =
    (t : Ghost) (w : WorldCore) (i k : ℕ) (endpoint : Endpoint) (file : List ℕ) → WorldRefines t w
    → slice_get w.endpoints i ≡ Some endpoint → k < endpoint.finished → slice_get endpoint.pages k ≡ Some (Some file)
    → HasScannedPage t i k file

-- ---- a batch

-- **counted, stuck, losses (`PagesAreCounted`, `NobodyIsStuck`, `LossesAreExplained`)**: a batch that is done has
-- finished as many pages as it wanted; or fewer and at least one, and the tray ran out. A job has a next move just
-- while it runs. That is the loss of its control connection only if memory ran out or its session broke off at a reply
-- past the limits of the wire.
abbrev pub PagesAreCounted : Ghost → ℕ → ℕ → Endpoint → Type 0
PagesAreCounted t i count endpoint = (endpoint.finished ≡ count)
    ⊎ ((0 < endpoint.finished) × (endpoint.finished < count) × IsCauseAmong TrayRanOut (job_state t i).session.met)

abbrev pub BatchesAreCounted : Type 0
BatchesAreCounted =
    (t : Ghost) (w : WorldCore) (i count : ℕ) (endpoint : Endpoint) (reports : Reports) → WorldRefines t w → i < t.count
    → slice_get w.endpoints i ≡ Some endpoint → (t.jobs i).task ≡ tasks.Batch count
    → endpoint.client.outcome ≡ Done reports → PagesAreCounted t i count endpoint

-- ---- moves

-- a job has a next move just where it runs
abbrev pub NobodyIsStuck : Type 0
NobodyIsStuck =
    (t : Ghost) (w : WorldCore) (i : ℕ) (endpoint : Endpoint) (event : Option Event) → WorldRefines t w
    → slice_get w.endpoints i ≡ Some endpoint → IsNextMove w.daemon i endpoint event
    → (is_running endpoint.client.outcome ≡ true → IsSome event)
    × (is_running endpoint.client.outcome ≡ false → event ≡ None)

-- A next move is the loss of a control connection only if the job is told as out of memory, or if it is under way and
-- its session was over at a reply that could not be said.
abbrev pub LossesAreExplained : Type 0
LossesAreExplained =
    (t : Ghost) (w : WorldCore) (i : ℕ) (endpoint : Endpoint) → WorldRefines t w
    → slice_get w.endpoints i ≡ Some endpoint → IsNextMove w.daemon i endpoint (Some (LoseControl i)) →
    (endpoint.out_of_memory ≡ true)
    ⊎ (IsUnderWay (job_state t i).client.stage × IsCauseAmong WasUnsaid (job_state t i).session.met)

-- ---- the size of string values

-- A client reads the same value from a reply, as its text and a NUL or filled up to any size: in place of the value
-- that it asked for, and of an option that it asks for.
abbrev pub ValuesAreReadAlike : Type 0
ValuesAreReadAlike =
    (strings : StringSize) (size : ℕ) (value : Value)
    → ((asked : Value) → given_like asked (sent_as strings size value) ≡ given_like asked (wire_of value))
    × ((kind : Kind) → wire_value_in kind (sent_as strings size value) ≡ wire_value_in kind (wire_of value))
