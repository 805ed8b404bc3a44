-- How a client refines one of the system model.
use Rattle.std.specs.Prelude.{slice_get, ℕ, ◌≡◌, ◌-◌, ◌≤◌, suc, ◌+◌, Bool, true, false, if◌then◌else◌, Option, Some}
use Rattle.std.specs.Prelude.{None, List, [], ◌∷◌, ◌++◌, map, length, nat_lt}
use Rattle.sane_fixed.specs.declared.params.Params.{Params}
use Rattle.sane_fixed.specs.declared.status.Status.{Status}
use Rattle.sane_fixed.specs.declared.kind.Kind.{Kind}
use Rattle.option_desc.specs.declared.descriptor.Descriptor.{Descriptor}
use Rattle.option_desc.specs.Reads.{read_value}
use Rattle.option_desc.specs.declared.value.Value.{Value}
use Rattle.sane_fixed.specs.declared.device_info.DeviceInfo.{DeviceInfo}
use Rattle.page_picture.specs.Shows.{Frame}
use Rattle.md5_auth.specs.ChallengeReading.{answer_of}
use Rattle.frame_join.specs.FrameHistory.{JoinHistory, is_joined, is_accepted}
use Rattle.scan_job.specs.declared.job.Task.{Task}
use Rattle.scan_job.specs.declared.job.Task.TheVariants as tasks
use Rattle.scan_job.specs.declared.outcome.Outcome.{Outcome}
use Rattle.scan_job.specs.declared.outcome.Outcome.TheVariants.{Running, Done, Ended}
use Rattle.scan_job.specs.declared.outcome.Why.{Why}
use Rattle.client_replies.specs.declared.progress.JobTarget.{JobTarget}
use Rattle.client_replies.specs.declared.progress.Notes.{Notes}
use Rattle.client_replies.specs.declared.progress.Progress.{Progress}
use Rattle.client_replies.specs.declared.progress.Progress.TheVariants as stages
use Rattle.scan_job.specs.declared.report.Report.{Report}
use Rattle.scan_job.specs.declared.report.Reports.{Reports}
use Rattle.scan_job.specs.KnownValues.{tells_value}
use Rattle.client_replies.specs.ReplyTurns.{wants_value}
use Rattle.client_replies.specs.ProtocolStates.{ProtocolState, shows, is_batch}
use Rattle.system_model.specs.AbstractMessages as words
use Rattle.system_model.specs.Client as model
use Rattle.system_model.specs.Devices.{abstract_info}

abbrev pub task_of : Task → model.AbstractTask
task_of tasks.List = model.List_
task_of tasks.Show = model.Show
task_of tasks.SetOnly = model.SetOnly
task_of tasks.Scan = model.Scan
task_of (tasks.Batch count) = model.Batch (count - 1)

abbrev pub requested_setting : List ℕ × List ℕ → words.RequestedSetting
requested_setting setting = record { name = setting.0; text = setting.1 }

-- what both keep of a setting that was put: the model keeps its text besides
pub record CommonReport : Type 0 where
  pub name : List ℕ
  pub asked : Value
  pub given : Value
  pub info : words.AbstractInfo

abbrev pub common_report : Report → CommonReport
common_report r = record { name = r.name; asked = r.asked; given = r.given; info = abstract_info r.info }

abbrev pub common_abstract_report : words.AbstractReport → CommonReport
common_abstract_report r = record { name = r.setting.name; asked = r.asked; given = r.given; info = r.info }

-- the descriptors of options, and their values as far as they were told
abbrev pub descs : List (Descriptor × Option Value) → List Descriptor
descs known = map (λ o. o.0) known

abbrev pub shown_by : Option Value → List Value → List Value
shown_by None values = values
shown_by (Some value) values = value ∷ values

abbrev pub known_values : List (Descriptor × Option Value) → List Value
known_values [] = []
known_values (o ∷ more) = shown_by o.1 (known_values more)

-- no value was told
abbrev pub AreBlank : List (Descriptor × Option Value) → Type 0
AreBlank [] = Unit {0}
AreBlank (o ∷ more) = (o.1 ≡ None) × AreBlank more

-- where no value is to be told none stands
abbrev pub OnlyReadableHaveValues : List (Descriptor × Option Value) → Type 0
OnlyReadableHaveValues [] = Unit {0}
OnlyReadableHaveValues (o ∷ more) = (tells_value o.0 ≡ false → o.1 ≡ None) × OnlyReadableHaveValues more

-- the numbers of the options whose values are still to be asked for
abbrev pub values_wanted_from : ℕ → List (Descriptor × Option Value) → List ℕ
values_wanted_from k [] = []
values_wanted_from k (o ∷ more) =
    if wants_value o then k ∷ values_wanted_from (k + 1) more else values_wanted_from (k + 1) more

-- behind the first of them no value was told
abbrev pub Behind : Bool → Type 0 → Type 0 → Type 0
Behind true Blank Filled = Blank
Behind false Blank Filled = Filled

abbrev pub AreFilled : List (Descriptor × Option Value) → Type 0
AreFilled [] = Unit {0}
AreFilled (o ∷ more) = Behind (wants_value o) (AreBlank more) (AreFilled more)

-- the frames of the page under way, and the page that they make where they are whole
abbrev pub parts : List Frame → List Frame
parts frames = if is_joined frames then [] else frames

abbrev pub wholes : List Frame → List (List Frame)
wholes frames = if is_joined frames then frames ∷ [] else []

-- `pages` are those whose join is no more
pub record Files (pages : List (List Frame)) (past : JoinHistory) (frames : List Frame)
    (files : List (List Frame)) : Type 0 where
  pub part : frames ≡ parts past.ended
  pub all : files ≡ pages ++ wholes past.ended

abbrev pub is_nil : List Frame → Bool
is_nil [] = true
is_nil (f ∷ more) = false

-- ---- a job that runs

-- **what both know (`Knows`), wait for (`WaitsAs`)**: reports alike in name, asked, given and info; the descriptors;
-- the values told so far, each at an option whose value is to be told (`OnlyReadableHaveValues`); at most 1,024
-- options; the number of the file. For each thing that the client may wait for there is the model's own, with what is
-- still to come.
pub record Knows (task : Task) (pages : List (List Frame)) (puts : List Report)
    (options : List (Descriptor × Option Value)) (file : ℕ)
    (reports : List words.AbstractReport) (devices : List ℕ) (known : List Descriptor)
    (values : List Value) : Type 0 where
  pub answers : map common_abstract_report reports ≡ map common_report puts
  pub none : devices ≡ []
  pub descriptors : known ≡ descs options
  pub told : values ≡ known_values options
  pub only : OnlyReadableHaveValues options
  pub few : length options ≤ 1024
  pub number : file ≡ suc (length pages)
  pub alone : is_batch task ≡ false → pages ≡ []

abbrev pub KnowsAs : Task → List (List Frame) → Notes → model.ClientView → Type 0
KnowsAs task pages notes m = Knows task pages notes.reports notes.known notes.file m.reports m.devices m.known m.values

-- the settings are not all put
abbrev pub Early : Notes → model.ClientView → Type 0
Early notes m = AreBlank notes.known × (m.frames ≡ [])

abbrev pub NoSettingPut : model.AbstractJob → Notes → model.ClientView → Type 0
NoSettingPut job notes m = Early notes m × (map requested_setting notes.left ≡ job.settings)

pub record FrameIsShared (past : JoinHistory) (m : model.ClientView) : Type 0 where
  pub params : Params
  pub payload : List ℕ
  pub stage : m.stage ≡ model.Running (model.Imaging params payload)
  pub under : past.under ≡ Some (record { params = params; order = m.order; payload = payload })
  pub accepted : is_accepted past.ended params m.order ≡ true
  pub part : is_joined past.ended ≡ false

abbrev pub WaitsAs : model.AbstractJob → Progress → Notes → JoinHistory → model.ClientView → Type 0
WaitsAs job stages.Greeting notes past m = (m.stage ≡ model.Running model.Greeting) × NoSettingPut job notes m
WaitsAs job stages.Listing notes past m = (m.stage ≡ model.Running model.Listing) × NoSettingPut job notes m
WaitsAs job stages.Opening notes past m = (m.stage ≡ model.Running model.Opening) × NoSettingPut job notes m
WaitsAs job (stages.Allowing resource answer) notes past m =
    ((challenge : words.Challenge) × ((m.stage ≡ model.Running (model.Allowing challenge)) × (resource ≡ challenge)))
    × NoSettingPut job notes m
WaitsAs job stages.Reopening notes past m =
    ((challenge : words.Challenge) × (m.stage ≡ model.Running (model.Allowing challenge))) × NoSettingPut job notes m
WaitsAs job stages.Describing notes past m =
    (m.stage ≡ model.Running (model.Describing (map requested_setting notes.left))) × Early notes m
WaitsAs job (stages.Putting n kind name asked) notes past m =
    ((requested : words.RequestedSetting)
    × ((m.stage ≡ model.Running (model.Putting n asked requested (map requested_setting notes.left)))
    × (requested.name ≡ name))) × Early notes m
WaitsAs job (stages.Getting n kind size) notes past m =
    ((left : List ℕ)
    × ((m.stage ≡ model.Running (model.Getting n left)) × (values_wanted_from 0 notes.known ≡ n ∷ left)))
    × AreFilled notes.known
WaitsAs job (stages.Starting first) notes past m = (m.stage ≡ model.Running model.Starting) × (first ≡ is_nil m.frames)
WaitsAs job (stages.Shaping port order) notes past m = (m.stage ≡ model.Running model.Shaping) × (m.order ≡ order)
WaitsAs job (stages.Imaging port made) notes past m = FrameIsShared past m
-- the model asks for the next page at the end of the one before
WaitsAs job stages.Turning notes past m = (m.stage ≡ model.Running model.Starting)
    × (nat_lt notes.file 4294967295 ≡ true)
WaitsAs job stages.Over notes past m = ⊥

-- what the client asked for is of the option of that number, as it was told
pub record SetIsKnown (known : List (Descriptor × Option Value)) (n : ℕ) (kind : Kind) (asked : Value) : Type 0 where
  pub option : Descriptor × Option Value
  pub stands : slice_get known n ≡ Some option
  pub kind_is : kind ≡ option.0.kind
  pub text : List ℕ
  pub reads : read_value option.0 text ≡ Some asked

pub record GetIsKnown (known : List (Descriptor × Option Value)) (n : ℕ) (kind : Kind) (size : ℕ) : Type 0 where
  pub option : Descriptor × Option Value
  pub stands : slice_get known n ≡ Some option
  pub kind_is : kind ≡ option.0.kind
  pub size_is : size ≡ option.0.size

-- **apt (`IsApt`, `SetIsKnown`, `GetIsKnown`)**: what the client keeps of its request is right. That is the answer to
-- the challenge, the value that a text reads as by the option's descriptor, or the option's kind and size.
abbrev pub IsApt : JobTarget → Progress → Notes → Type 0
IsApt target (stages.Allowing resource answer) notes = answer_of resource target.password ≡ Some answer
IsApt target (stages.Putting n kind name asked) notes = SetIsKnown notes.known n kind asked
IsApt target (stages.Getting n kind size) notes = GetIsKnown notes.known n kind size
IsApt target progress notes = Unit {0}

-- ---- a job that is over

abbrev pub ShowRefines : Bool → List (Descriptor × Option Value) → model.ClientView → Type 0
ShowRefines true options m = (m.known ≡ descs options) × (m.values ≡ known_values options)
    × OnlyReadableHaveValues options
ShowRefines false options m = Unit {0}

pub record DoneAs (place : DeviceInfo → ℕ) (task : Task) (reports : Reports) (m : model.ClientView) : Type 0 where
  pub stage : m.stage ≡ model.Done
  pub settings : map common_abstract_report m.reports ≡ map common_report reports.settings
  pub devices : m.devices ≡ map place reports.devices
  pub options : ShowRefines (shows task) reports.options m

abbrev pub EndedAs : Status → Why → model.ClientView → Type 0
EndedAs status why m = m.stage ≡ model.Ended status why

-- ---- the reading

abbrev pub OutcomeRefines : (DeviceInfo → ℕ) → JobTarget → model.AbstractJob → List (List Frame) → Outcome → Progress
    → Notes → JoinHistory → model.ClientView → Type 0
OutcomeRefines place target job pages Running progress notes past m = KnowsAs target.task pages notes m
    × WaitsAs job progress notes past m × IsApt target progress notes
OutcomeRefines place target job pages (Done reports) progress notes past m = DoneAs place target.task reports m
OutcomeRefines place target job pages (Ended status why) progress notes past m = EndedAs status why m

-- **refines (`ClientRefines`)**: a protocol state of the client refines a client view of the model. They agree on the
-- files (`Files`: the frames of the page under way, and of the pages before it, whose join may be gone). Where the job
-- runs, they agree on what is known and waited for; where it is done, on the reports, the devices and the options
-- shown; where it ended, on status and why. It is a relation: the model keeps the texts of settings, the client keeps
-- ports, kinds and its device word.
pub record ClientRefines (place : DeviceInfo → ℕ) (target : JobTarget) (job : model.AbstractJob)
    (pages : List (List Frame)) (protocol : ProtocolState) (m : model.ClientView) : Type 0 where
  pub files : Files pages protocol.history m.frames m.pages
  pub stands
      : OutcomeRefines place target job pages protocol.outcome protocol.progress protocol.notes protocol.history m
