-- What the program scanimage has done where it ends well.
use Rattle.std.specs.Prelude.{ℕ, ◌≡◌, ◌≢◌, Bool, true, false, Option, Some, None, Ok, List, [], length, slice_get, All}
use Rattle.std.specs.Io.KnownBytes.{Appends, prepend_known}
use Rattle.netpbm.specs.Picture.{Picture}
use Rattle.frame_join.specs.PictureText.{IsPictureFile}
use Rattle.page_picture.specs.Shows.{ShowsFrames}
use Rattle.sane_fixed.specs.declared.device_info.DeviceInfo.{DeviceInfo}
use Rattle.device_api.specs.State.{DeviceState}
use Rattle.dispatch.specs.Table.{Table, listed_infos, table, unplug_answer}
use Rattle.dispatch.specs.declared.table.place.Place.{Place}
use Rattle.virtual_scanner.specs.Scanners.{Scanner, scanner_state}
use Rattle.scan_job.specs.JobSize.{HasJobFault}
use Rattle.scan_job.specs.declared.job.Job.{Job}
use Rattle.scan_job.specs.declared.job.Task.TheVariants.{List as ListTask, Scan}
use Rattle.scan_job.specs.declared.outcome.Outcome.TheVariants.{Done}
use Rattle.scan_job.specs.declared.report.Reports.{Reports}
use Rattle.net_client.specs.ClientStates.{ClientState, IsNewClient}
use Rattle.net_jobs.specs.Batches.{MayScan, pages_of, IsPageFile}
use Rattle.net_jobs.specs.JobJournal.{JobMove, bytes_written_by, dialled_by, has_write_failed, heard_by}
use Rattle.net_jobs.specs.JobSteps.{MovesAreSteps, StepsGive, given_by_steps}
use Rattle.net_jobs.specs.JobTraces.{BytesMatchTrace, EndWell, JobTrace, ports_named}
use Rattle.net_jobs.specs.RunPromises.{AreAskedFor}
use Rattle.recorded.specs.Names.{IsNamed}
use Rattle.scan_job.specs.FileOutputs.{TakesBack}
use Rattle.scan_job.specs.Shelves.{Stock}
use Rattle.net_jobs.specs.Outputs.{page_outputs_from}
use Rattle.local_job.specs.LocalPages.{with_shelf}
use Rattle.local_job.specs.LocalRun.{with_file}
use Rattle.config_pages.specs.InputTexts.{SeenInputs}
use Rattle.scanimage_cli.specs.CallStreams.{FilesHeld, HeldOutput, files_held}
use Rattle.scanimage_cli.specs.JobOutputs.{JobOutputs, LeavesNoneOfPlan}
use Rattle.scanimage_cli.specs.DeviceList.{device_lines, net_prefix}
use Rattle.scanimage_cli.specs.Doing.{DoesJob, DoesBatch}
use Rattle.scanimage_cli.specs.Host.{DialsBetween, IsHostCalled, dials_between}
use Rattle.scanimage_cli.specs.NetDoing.{HostJob}
use Rattle.scanimage_cli.specs.Printing.{Prints, TakesOrFails}
use Rattle.scanimage_cli.specs.declared.outside.Outside.{Outside}
use Rattle.scanimage_cli.specs.declared.outputs.Outputs.{Outputs}
use Rattle.scanimage_cli.specs.declared.planning.Destination.{Destination}
use Rattle.scanimage_cli.specs.declared.planning.Destination.TheVariants.{StandardOutput, Path, Folder}
use Rattle.scanimage_cli.specs.declared.planning.JobPlan.{JobPlan}
use Rattle.scanimage_cli.specs.declared.planning.Remote.{Remote}
use Rattle.scanimage_cli.specs.declared.printed.Printout.{Printout}

-- what standard output, standard error and the outputs of files hold, where they tell, whether it is noted that an
-- output failed, and whether a job was begun
pub record ProgramOutputs : Type 0 where
  pub out : Option (List ℕ)
  pub err : Option (List ℕ)
  pub files : FilesHeld
  pub failed : Bool
  pub has_begun : Bool

-- what is seen of the outputs of a call
abbrev pub seen_outputs : {O E N S : Type 0} → (O → Option (List ℕ)) → (E → Option (List ℕ)) → (N → Option (List ℕ))
    → (S → Option Stock) → Outputs O E N S → ProgramOutputs
seen_outputs out err named stock all = record {
  out = out all.out;
  err = err all.err;
  files = files_held (named all.files.named) (stock all.files.shelf);
  failed = all.tally.failed;
  has_begun = all.has_begun;
}

-- what was read, and the connections that were asked for, as far as they are told
pub record OutsideSeen : Type 0 where
  pub inputs : SeenInputs
  pub ports : Option (List ℕ)

abbrev pub seen_outside : {I H : Type 0} → (I → SeenInputs) → (H → Option (List ℕ)) → Outside I H → OutsideSeen
seen_outside seen ports outside = record { inputs = seen outside.inputs; ports = ports outside.hosts }

-- a job's own outputs: what its file can go to
abbrev pub job_part : ProgramOutputs → JobOutputs
job_part all = record { out = all.out; files = all.files }

-- the job of a plan, with this password
pub record IsJobOf (plan : JobPlan) (password : List ℕ) (job : Job) : Type 0 where
  pub user : job.user ≡ plan.user
  pub password_is : job.password ≡ password
  pub settings_are : job.settings ≡ plan.settings
  pub task : job.task ≡ plan.task

-- a job that is asked for here: its device, where one is named, the rest of its plan, and the password
pub record AskedHere : Type 0 where
  pub device : Option (List ℕ)
  pub plan : JobPlan
  pub password : List ℕ

abbrev pub asked_here : Option (List ℕ) → JobPlan → List ℕ → AskedHere
asked_here device plan password = record { device = device; plan = plan; password = password }

-- the table of the scanners of a config
abbrev pub scanner_table : List (Place Scanner) → Table
scanner_table registry = table scanner_state registry

-- the device is the named one, or the first that is listed
abbrev pub IsDeviceNamed : Option (List ℕ) → List DeviceInfo → List ℕ → Type 0
IsDeviceNamed None infos device = (first : DeviceInfo) × (slice_get infos 0 ≡ Some first) × (device ≡ first.name)
IsDeviceNamed (Some name) infos device = device ≡ name

-- A job on a device, done with its file where it is to go, and no other output touched: standard output; the output of
-- named files, under the name that the plan has for it; or the shelf, where each page of a batch has its own.
pub data DoesPlanned (destination : Destination) (job : Job) (device : DeviceState × DeviceState)
    (was now : JobOutputs) (printed : Printout) : Type 0 where
  ToOutput : destination ≡ StandardOutput
      → DoesJob job (with_file device.0 was.out) (with_file device.1 now.out) printed → now.files ≡ was.files
      → DoesPlanned destination job device was now printed
  ToPath : (path : List ℕ) → destination ≡ Path path
      → (begun : Option (List ℕ)) → IsNamed path was.files.named begun
      → DoesJob job (with_file device.0 begun) (with_file device.1 now.files.named) printed → now.out ≡ was.out
      → now.files.stock ≡ was.files.stock → DoesPlanned destination job device was now printed
  ToFolder : destination ≡ Folder
      → DoesBatch job (with_shelf device.0 was.files.stock) (with_shelf device.1 now.files.stock) printed
      → now.out ≡ was.out → now.files.named ≡ was.files.named → DoesPlanned destination job device was now printed

-- The job that was asked for is done on the device of the table that it names; its table is printed behind its file,
-- and the lines of its rounded settings on standard error.
pub record HasDoneHere (table : Table) (asked : AskedHere) (was now : ProgramOutputs) : Type 0 where
  pub job : Job
  pub asked_for : IsJobOf asked.plan asked.password job
  pub named : IsDeviceNamed asked.device (listed_infos table) job.device
  pub old : DeviceState
  pub new : DeviceState
  pub found : unplug_answer table job.device ≡ Ok old
  pub behind : Option (List ℕ)
  pub printed : Printout
  pub does : DoesPlanned asked.plan.destination job (old, new) (job_part was)
      (record { out = behind; files = now.files }) printed
  pub printed_out : Appends behind now.out printed.table.items
  pub rounded : TakesOrFails was.err now.err printed.rounded.items now.failed

-- **done by the program (`EndsWellHere`, `IsDoneHere`, `HasDoneHere`, `IsJobOf`, `DoesPlanned`)**: a list prints a line
-- for each device that is listed, in order, and nothing on standard error; anything else is the job of the plan, with
-- the password, on the device that is named, or the first, its file where the plan has it go.
pub record IsDoneHere (table : Table) (asked : AskedHere) (was now : ProgramOutputs) : Type 0 where
  pub list : asked.plan.task ≡ ListTask
      → Appends was.out now.out (device_lines [] (listed_infos table)) × (now.err ≡ was.err) × (now.files ≡ was.files)
  pub job : asked.plan.task ≢ ListTask → HasDoneHere table asked was now

-- the same of a call
abbrev pub EndsWellHere : {T : Type 0} → Table → AskedHere → HeldOutput T ProgramOutputs → Type 0
EndsWellHere table asked outputs =
    IsDoneHere table asked (outputs.contents outputs.was) (outputs.contents outputs.now)

-- **the loop of a job that is done at a host (`LoopThere`)**: it began with a new client of that job. Its moves are
-- steps by the client's own contracts, and led to a client that is done with these reports. What they read and wrote is
-- what the trace tells of the replies, and of what was sent for them. Unless a write failed, all was written. Each
-- frame ended with EOF.
pub record LoopThere (job : Job) : Type 0 where
  pub reports : Reports
  pub moves : List JobMove
  pub first : ClientState
  pub last : ClientState
  pub fresh : IsNewClient job first
  pub steps : MovesAreSteps first moves last
  pub last_told : last.outcome ≡ Done reports
  pub trace : JobTrace
  pub told : trace.protocol.outcome ≡ Done reports
  pub rest : List ℕ
  pub left : List ℕ
  pub did : BytesMatchTrace job trace
      (record { read_ = heard_by moves; wrote = bytes_written_by moves; rest = rest; left = left })
  pub all : has_write_failed moves ≡ false → left ≡ []
  pub end_well : EndWell did.events

-- a job's one file: the text that was written is what went out by the steps of its loop, and the whole file of the
-- picture that the frames show, or nothing, where the job is no scan
pub record GaveFile (job : Job) (loop : LoopThere job) (was now : Option (List ℕ)) : Type 0 where
  pub text : List ℕ
  pub taken : Appends was now text
  pub went_out : text ≡ given_by_steps loop.steps.steps
  pub file : job.task ≡ Scan → (p : Picture) × ShowsFrames loop.trace.protocol.history.ended p × IsPictureFile text p
  pub none : job.task ≢ Scan → text ≡ []

-- the files of a batch: those of its pages, which went out by the steps of its loop, in their outputs
pub record GavePages (job : Job) (loop : LoopThere job) (was now : Option Stock) : Type 0 where
  pub count : MayScan job.task (length (pages_of loop.trace))
  pub files : All IsPageFile (pages_of loop.trace)
  pub went_out : StepsGive loop.steps.steps loop.trace.pages loop.trace.protocol.history.given
  pub outputs : TakesBack was (page_outputs_from 1 (pages_of loop.trace)) now

-- the file, or the files of a batch, went where they were to go, and no other output was touched
abbrev pub GavePlanned : (destination : Destination) → (job : Job) → LoopThere job → JobOutputs → JobOutputs → Type 0
GavePlanned StandardOutput job loop was now = GaveFile job loop was.out now.out × (now.files ≡ was.files)
GavePlanned (Path path) job loop was now = ((begun : Option (List ℕ)) × IsNamed path was.files.named begun
    × GaveFile job loop begun now.files.named) × (now.out ≡ was.out) × (now.files.stock ≡ was.files.stock)
GavePlanned Folder job loop was now = GavePages job loop was.files.stock now.files.stock × (now.out ≡ was.out)
    × (now.files.named ≡ was.files.named)

-- the job is done by the client's rules, for replies and frames that came, over data connections to the ports that the
-- replies named, its file where it is to go, and what its reports come to is to be printed
pub record RanThere (asked : HostJob) (destination : Destination) (dials : DialsBetween) (was now : JobOutputs)
    (printed : Printout) : Type 0 where
  pub loop : LoopThere asked.job
  pub named : AreAskedFor (dialled_by loop.moves) (ports_named loop.did.events)
  pub asked_for : dials.now ≡ prepend_known (dialled_by loop.moves) dials.was
  pub gave : GavePlanned destination asked.job loop was now
  pub prints : Prints asked.job.task (net_prefix asked.host) asked.job.device loop.reports printed

-- a job that is asked of a host: the rest of its plan, and the password
pub record AskedThere : Type 0 where
  pub remote : Remote
  pub plan : JobPlan
  pub password : List ℕ

abbrev pub asked_there : Remote → JobPlan → List ℕ → AskedThere
asked_there remote plan password = record { remote = remote; plan = plan; password = password }

-- **done at a host (`EndsWellThere`, `IsDoneThere`, `RanThere`, `IsHostCalled`)**: the job of the plan, with the
-- password, for the device that is asked for there, done by the client's rules over one control connection, to the host
-- and port that are asked, and data connections to the ports that its replies named. A client takes a job of its size.
-- Its file goes where the plan has it go. Behind it its list or table is printed, and the lines of its rounded settings
-- on standard error.
pub record IsDoneThere (asked : AskedThere) (dials : DialsBetween) (was now : ProgramOutputs) : Type 0 where
  pub job : Job
  pub asked_for : IsJobOf asked.plan asked.password job
  pub device : job.device ≡ asked.remote.device
  pub fits : HasJobFault job None
  pub connected : Option (List ℕ)
  pub called : IsHostCalled asked.remote true dials.was connected
  pub behind : Option (List ℕ)
  pub printed : Printout
  pub ran : RanThere (record { host = asked.remote.host; job = job }) asked.plan.destination
      (dials_between connected dials.now) (job_part was) (record { out = behind; files = now.files }) printed
  pub printed_out : Appends behind now.out printed.table.items
  pub rounded : TakesOrFails was.err now.err printed.rounded.items now.failed

-- the same of a call
abbrev pub EndsWellThere : {H T : Type 0} → AskedThere → HeldOutput H (Option (List ℕ))
    → HeldOutput T ProgramOutputs → Type 0
EndsWellThere asked hosts outputs =
    IsDoneThere asked (dials_between (hosts.contents hosts.was) (hosts.contents hosts.now))
    (outputs.contents outputs.was) (outputs.contents outputs.now)

-- of the plan no file is left behind a call
abbrev pub EndsWithNone : {T : Type 0} → JobPlan → HeldOutput T ProgramOutputs → Type 0
EndsWithNone plan outputs =
    LeavesNoneOfPlan plan (job_part (outputs.contents outputs.was)) (job_part (outputs.contents outputs.now))
