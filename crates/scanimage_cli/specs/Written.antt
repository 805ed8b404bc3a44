-- What the program has written where it ends well and each of its outputs tells all that its calls took.
use Rattle.std.specs.Prelude.{ℕ, ◌≡◌, ◌≢◌, ◌<◌, ◌⊎◌, Some, None, Ok, List, [], ◌++◌, All, length}
use Rattle.netpbm.specs.Picture.{Picture}
use Rattle.frame_join.specs.PictureText.{IsPictureFile}
use Rattle.page_picture.specs.Shows.{ShowsFrames}
use Rattle.recorded.specs.Names.{named_behind, stock_of}
use Rattle.sane_fixed.specs.declared.byte_order.ByteOrder.TheVariants.{Big}
use Rattle.scan_frames.specs.declared.setup.Setup.{Setup}
use Rattle.device_api.specs.InForce.{Placement}
use Rattle.device_api.specs.State.{DeviceState, after_reset, with_setup}
use Rattle.scan_job.specs.JobSize.{HasJobFault}
use Rattle.scan_job.specs.Shelves.{ReturnedOutput}
use Rattle.scan_job.specs.declared.job.Job.{Job}
use Rattle.scan_job.specs.declared.job.Task.TheVariants.{Scan, Batch}
use Rattle.net_jobs.specs.Batches.{IsPageFile, MayScan, pages_of}
use Rattle.net_jobs.specs.JobSteps.{StepsGive, given_by_steps}
use Rattle.net_jobs.specs.Outputs.{texts_of}
use Rattle.local_job.specs.LocalBatch.{IsBatchPut, pages_of_task}
use Rattle.local_job.specs.LocalPages.{ArePageFiles, IsFileOfFirstPage, after_pages, outputs_from}
use Rattle.local_job.specs.LocalRun.{IsPut}
use Rattle.config_pages.specs.Devices.{AreDevicesOf, calls_of_lines}
use Rattle.config_pages.specs.InputTexts.{SeenInputs, with_calls}
use Rattle.dispatch.specs.Table.{Table, fresh_table, listed_infos, unplug_answer}
use Rattle.dispatch.specs.declared.config_line.ConfigLine.{ConfigLine}
use Rattle.scanimage_cli.specs.Inputs.{AreLinesOf, IsPasswordIn}
use Rattle.scanimage_cli.specs.Plans.{IsPlanOf}
use Rattle.scanimage_cli.specs.Programs.{AskedHere, AskedThere, IsDeviceNamed, IsJobOf, LoopThere, ProgramOutputs}
use Rattle.scanimage_cli.specs.Programs.{asked_here, asked_there}
use Rattle.scanimage_cli.specs.Whole.{IsCarriedOut, ProgramState}
use Rattle.scanimage_cli.specs.declared.planning.Destination.TheVariants.{StandardOutput, Path, Folder}
use Rattle.scanimage_cli.specs.declared.planning.JobPlan.{JobPlan}
use Rattle.scanimage_cli.specs.declared.planning.Location.{Location}
use Rattle.scanimage_cli.specs.declared.planning.Location.TheVariants.{Here, There}
use Rattle.scanimage_cli.specs.declared.planning.Plan.{Plan}

-- ---- the files that are asked for

-- the job of a plan on a scanner of this machine, and that scanner
pub record JobHere (table : Table) (asked : AskedHere) : Type 0 where
  pub job : Job
  pub asked_for : IsJobOf asked.plan asked.password job
  pub named : IsDeviceNamed asked.device (listed_infos table) job.device
  pub device : DeviceState
  pub found : unplug_answer table job.device ≡ Ok device
  pub setup : Setup
  pub placed : List Placement

-- **the file that is asked for (`IsFileAsked`, `AreFilesAsked`; `IsFileAt`, `AreFilesAt`)**: a whole file. Here it is
-- of the picture that the settings in force mean on the page of the scanner, if the page's source is steady. At a host
-- it is of the picture that the frames show by which the job was done. A batch has one of each page, as many as were
-- asked for, or fewer if no page was left.
pub record IsFileHere (table : Table) (asked : AskedHere) (text : List ℕ) : Type 0 where
  pub here : JobHere table asked
  pub put : IsPut here.device here.job (here.setup, here.placed)
  pub file : IsFileOfFirstPage (with_setup (after_reset here.device) here.setup) text

pub record AreFilesHere (table : Table) (asked : AskedHere) (texts : List (List ℕ)) : Type 0 where
  pub here : JobHere table asked
  pub put : IsBatchPut here.device here.job (here.setup, here.placed)
  pub files : ArePageFiles (with_setup (after_reset here.device) here.setup) texts
  pub all : (length texts ≡ pages_of_task here.job.task)
      ⊎ ((0 < length texts) × (length texts < pages_of_task here.job.task)
      × ((after_pages (length texts) (with_setup (after_reset here.device) here.setup)).pages ≡ []))

-- the job of a plan, done at a host by the client's rules, for replies and frames that came
pub record JobThere (asked : AskedThere) : Type 0 where
  pub job : Job
  pub asked_for : IsJobOf asked.plan asked.password job
  pub device : job.device ≡ asked.remote.device
  pub fits : HasJobFault job None
  pub loop : LoopThere job

pub record IsFileThere (asked : AskedThere) (text : List ℕ) : Type 0 where
  pub there : JobThere asked
  pub went_out : text ≡ given_by_steps there.loop.steps.steps
  pub picture : Picture
  pub shows : ShowsFrames there.loop.trace.protocol.history.ended picture
  pub file : IsPictureFile text picture

pub record AreFilesThere (asked : AskedThere) (texts : List (List ℕ)) : Type 0 where
  pub there : JobThere asked
  pub count : MayScan there.job.task (length (pages_of there.loop.trace))
  pub files : All IsPageFile (pages_of there.loop.trace)
  pub went_out
      : StepsGive there.loop.steps.steps there.loop.trace.pages there.loop.trace.protocol.history.given
  pub texts_are : texts ≡ texts_of (pages_of there.loop.trace)

abbrev pub IsFileAt : Location → Table → JobPlan → List ℕ → List ℕ → Type 0
IsFileAt (Here device) table plan password text = IsFileHere table (asked_here device plan password) text
IsFileAt (There remote) table plan password text = IsFileThere (asked_there remote plan password) text

abbrev pub AreFilesAt : Location → Table → JobPlan → List ℕ → List (List ℕ) → Type 0
AreFilesAt (Here device) table plan password texts = AreFilesHere table (asked_here device plan password) texts
AreFilesAt (There remote) table plan password texts = AreFilesThere (asked_there remote plan password) texts

-- the job of a plan, where its device is, the scanners here, and the password
pub record AskedAt : Type 0 where
  pub location : Location
  pub table : Table
  pub plan : JobPlan
  pub password : List ℕ

abbrev pub planned_at : Location → Table → JobPlan → List ℕ → AskedAt
planned_at location table plan password =
    record { location = location; table = table; plan = plan; password = password }

abbrev pub IsFileAsked : AskedAt → List ℕ → Type 0
IsFileAsked asked text = IsFileAt asked.location asked.table asked.plan asked.password text

abbrev pub AreFilesAsked : AskedAt → List (List ℕ) → Type 0
AreFilesAsked asked texts = AreFilesAt asked.location asked.table asked.plan asked.password texts

-- ---- what is written

-- what the calls on standard output took, and those on named files, each behind its name; and the outputs that the
-- shelf of a batch was given back
pub record TakenOutputs : Type 0 where
  pub out : List ℕ
  pub named : List ℕ
  pub returned : List ReturnedOutput

-- the outputs tell that they took this
pub record HaveTaken (all : ProgramOutputs) (taken : TakenOutputs) : Type 0 where
  pub number : ℕ
  pub out : all.out ≡ Some taken.out
  pub named : all.files.named ≡ Some taken.named
  pub stock : all.files.stock ≡ Some (stock_of number taken.returned)

-- **written as planned (`IsWritten`)**: the file of a scan is the one that is asked for, on standard output, or in the
-- one file that was named, by the plan's name. Those of a batch are the ones of its pages, numbered from 1, that the
-- shelf kept. Nothing else was written to a file.
pub record IsWritten (asked : AskedAt) (was now : TakenOutputs) : Type 0 where
  pub to_output : asked.plan.task ≡ Scan → asked.plan.destination ≡ StandardOutput
      → ((text : List ℕ) × IsFileAsked asked text × (now.out ≡ was.out ++ text))
      × (now.named ≡ was.named) × (now.returned ≡ was.returned)
  pub to_file : (path : List ℕ) → asked.plan.task ≡ Scan → asked.plan.destination ≡ Path path
      → ((text : List ℕ) × IsFileAsked asked text × (now.named ≡ named_behind was.named path ++ text))
      × (now.out ≡ was.out) × (now.returned ≡ was.returned)
  pub to_folder : (count : ℕ) → asked.plan.task ≡ Batch count → asked.plan.destination ≡ Folder
      → ((texts : List (List ℕ)) × AreFilesAsked asked texts × (now.returned ≡ was.returned ++ outputs_from 1 texts))
      × (now.out ≡ was.out) × (now.named ≡ was.named)
  pub to_none : asked.plan.task ≢ Scan → asked.plan.destination ≡ StandardOutput
      → (now.named ≡ was.named) × (now.returned ≡ was.returned)

-- a plan that was carried out is written
abbrev pub CarriedOutIsWritten : Type 0
CarriedOutIsWritten = (plan : Plan) (table : Table) (was now : ProgramState)
    → (old new : TakenOutputs) → HaveTaken was.outputs old → HaveTaken now.outputs new
    → (carried : IsCarriedOut plan table was now)
    → IsWritten (planned_at plan.location table plan.job carried.password) old new

-- **written for the words (`IsWrittenFor`)**: they have a plan, and what it asks for was written as planned, with the
-- scanners of the lines of the config that was read, if they name one, and the password that was read in the file that
-- they name. Nothing else was read, but the page files of these lines.
pub record IsWrittenFor (words : List (List ℕ)) (read_was read_now : SeenInputs) (was now : TakenOutputs)
    : Type 0 where
  pub plan : Plan
  pub is_plan : IsPlanOf words plan
  pub lines : List ConfigLine
  pub configured : SeenInputs
  pub config : AreLinesOf plan.config read_was configured lines
  pub devices : List DeviceState
  pub of_lines : AreDevicesOf configured.texts Big lines devices
  pub password : List ℕ
  pub read : IsPasswordIn plan.password_file (with_calls (calls_of_lines lines) configured) read_now password
  pub written : IsWritten (planned_at plan.location (fresh_table devices) plan.job password) was now
