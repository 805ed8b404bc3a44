-- What an ending that is not well has for its cause.
use Rattle.std.specs.Prelude.{ℕ, ◌≡◌, ◌⊎◌, true, false, Option, None, Ok, List, []}
use Rattle.std.specs.Io.KnownBytes.{prepend_known}
use Rattle.std.specs.declared.net.ipv4_addr.Ipv4Addr.{Ipv4Addr}
use Rattle.sane_fixed.specs.declared.status.Status.TheVariants.{Inval, IoError, NoMem}
use Rattle.device_api.specs.State.{DeviceState}
use Rattle.dispatch.specs.Table.{Table, fresh_table, listed_infos, unplug_answer}
use Rattle.dispatch.specs.declared.config_line.ConfigLine.{ConfigLine}
use Rattle.sane_fixed.specs.declared.device_info.DeviceInfo.{DeviceInfo}
use Rattle.sane_fixed.specs.declared.byte_order.ByteOrder.TheVariants.{Big}
use Rattle.scan_job.specs.JobSize.{HasJobFault}
use Rattle.scan_job.specs.declared.job.Job.{Job}
use Rattle.scan_job.specs.declared.job.Task.{Task}
use Rattle.scan_job.specs.declared.job.Task.TheVariants.{List as ListTask, Show}
use Rattle.scan_job.specs.declared.outcome.Outcome.TheVariants as outcomes
use Rattle.scan_job.specs.declared.outcome.Why.TheVariants.{Lost, Memory, Setting, Sink}
use Rattle.scan_job.specs.declared.stop.Stop.{Stop}
use Rattle.client_replies.specs.ProtocolStates.{target_of}
use Rattle.net_jobs.specs.JobJournal.{JobMove, dialled_by}
use Rattle.net_jobs.specs.JobTraces.{EventsLead, JobTrace, TraceEvent, initial_trace, ports_named}
use Rattle.net_jobs.specs.RunPromises.{AreAskedFor, HasEndingCause, IsRefused}
use Rattle.local_job.specs.LocalPages.{with_shelf}
use Rattle.config_pages.specs.Devices.{AreDevicesOf, HasNoScanners, calls_of_lines}
use Rattle.config_pages.specs.InputTexts.{SeenInputs, with_calls}
use Rattle.config_pages.specs.declared.config_scanners.ScannerFault.{ScannerFault}
use Rattle.scanimage_cli.specs.CallStreams.{HeldOutput}
use Rattle.scanimage_cli.specs.Doing.{EndsBatch, EndsJob}
use Rattle.scanimage_cli.specs.Ending.{ended_by, ended_by_device}
use Rattle.scanimage_cli.specs.Host.{DialsBetween, IsAddressOf, IsHostCalled, dials_between}
use Rattle.scanimage_cli.specs.Inputs.{AreLinesOf, IsPasswordIn, IsUnreadAt, RefusesConfigAt}
use Rattle.scanimage_cli.specs.JobOutputs.{JobOutputs}
use Rattle.scanimage_cli.specs.Plans.{IsPlanOf, IsPlanRefusal}
use Rattle.scanimage_cli.specs.Programs.{AskedHere, AskedThere, IsDeviceNamed, IsJobOf, OutsideSeen, ProgramOutputs}
use Rattle.scanimage_cli.specs.Programs.{asked_here, asked_there, job_part}
use Rattle.scanimage_cli.specs.Whole.{ProgramState, program_state}
use Rattle.scanimage_cli.specs.declared.ending.Ending.{Ending}
use Rattle.scanimage_cli.specs.declared.ending.Ending.TheVariants.{Ended}
use Rattle.scanimage_cli.specs.declared.planning.Destination.{Destination}
use Rattle.scanimage_cli.specs.declared.planning.Destination.TheVariants.{StandardOutput, Path, Folder}
use Rattle.scanimage_cli.specs.declared.planning.JobPlan.{JobPlan}
use Rattle.scanimage_cli.specs.declared.planning.Location.{Location}
use Rattle.scanimage_cli.specs.declared.planning.Location.TheVariants.{Here, There}
use Rattle.scanimage_cli.specs.declared.planning.Plan.{Plan}
use Rattle.scanimage_cli.specs.declared.planning.Remote.{Remote}

-- ---- here

-- the job stopped on its device, by where its file was to go
abbrev pub EndsPlanned : Destination → Job → DeviceState × DeviceState → JobOutputs → JobOutputs → Ending → Type 0
EndsPlanned StandardOutput job device was now ending = EndsJob device.0 job device.1 ending
EndsPlanned (Path path) job device was now ending = EndsJob device.0 job device.1 ending
EndsPlanned Folder job device was now ending =
    EndsBatch job (with_shelf device.0 was.files.stock) (with_shelf device.1 now.files.stock) ending

-- no device is listed where none is named; or there is none of the name
abbrev pub HasNoDevice : Table → Option (List ℕ) → Type 0
HasNoDevice table named = ((named ≡ None) × (listed_infos table ≡ []))
    ⊎ ((name : List ℕ) × IsDeviceNamed named (listed_infos table) name
    × ((device : DeviceState) → unplug_answer table name ≡ Ok device → ⊥))

-- only a list or a table is printed behind a job
abbrev pub MayPrint : Task → Type 0
MayPrint task = (task ≡ ListTask) ⊎ (task ≡ Show)

-- memory is wanted before a job: to list the devices, for a list or where none is named; and for one that is there
pub data WantsMemoryHere (table : Table) (asked : AskedHere) : Type 0 where
  ToList : asked.plan.task ≡ ListTask → WantsMemoryHere table asked
  ToName : asked.device ≡ None → WantsMemoryHere table asked
  ForDevice : (name : List ℕ) → IsDeviceNamed asked.device (listed_infos table) name → (device : DeviceState)
      → unplug_answer table name ≡ Ok device → WantsMemoryHere table asked

-- **what ends a task here (`EndsHere`, `EndsPlanned`, `HasNoDevice`, `WantsMemoryHere`)**: memory ran out, where some
-- is wanted, or there is no such device, before a job was begun, and no output was touched. Or the job was begun, and
-- stopped for a reason that a job on that device has. Or its list or table was not taken, and it is noted that an
-- output failed.
pub data EndsHere (table : Table) (asked : AskedHere) (was now : ProgramOutputs) (ending : Ending) : Type 0 where
  ByMemory : ending ≡ Ended NoMem Memory → WantsMemoryHere table asked → now ≡ was
      → EndsHere table asked was now ending
  ByDevice : ending ≡ Ended Inval Setting → HasNoDevice table asked.device → now ≡ was
      → EndsHere table asked was now ending
  ByJob : (job : Job) → IsJobOf asked.plan asked.password job
      → IsDeviceNamed asked.device (listed_infos table) job.device → (device : DeviceState × DeviceState)
      → unplug_answer table job.device ≡ Ok device.0 → now.has_begun ≡ true
      → EndsPlanned asked.plan.destination job device (job_part was) (job_part now) ending
      → EndsHere table asked was now ending
  ByPrinting : ending ≡ Ended IoError Sink → now.failed ≡ true → MayPrint asked.plan.task
      → EndsHere table asked was now ending

-- ---- at a host

-- **a job at a host that stopped (`StoppedThere`)**: it was refused before a stream was touched. Or it ended behind the
-- replies and frames that came, as the client's rules have it, or by another cause that its moves show, over data
-- connections to the ports that the replies named.
pub data StoppedThere (job : Job) (dials : DialsBetween) (stop : Stop) : Type 0 where
  AtOnce : IsRefused job (outcomes.Ended stop.status stop.why) → dials.now ≡ dials.was → StoppedThere job dials stop
  Behind : (trace : JobTrace) → (events : List TraceEvent)
      → EventsLead (target_of job) (initial_trace job) events trace → (moves : List JobMove) → (rest : List ℕ)
      → HasEndingCause moves trace.protocol rest (outcomes.Ended stop.status stop.why)
      → AreAskedFor (dialled_by moves) (ports_named events) → dials.now ≡ prepend_known (dialled_by moves) dials.was
      → StoppedThere job dials stop

-- the same of an ending
abbrev pub EndsNetPlanned : Job → DialsBetween → Ending → Type 0
EndsNetPlanned job dials ending = (stop : Stop) × (ending ≡ ended_by stop) × StoppedThere job dials stop

-- **what ends one at a host (`EndsThere`, `StoppedThere`)**: the job is too large, or its host has no address, and no
-- connection was asked for and no output touched. Or the control connection was asked for and not made. Or the job was
-- begun over one that was made, and stopped. Or its list or table was not taken, and it is noted that an output failed.
pub data EndsThere (asked : AskedThere) (dials : DialsBetween) (was now : ProgramOutputs) (ending : Ending)
    : Type 0 where
  BySize : (job : Job) → IsJobOf asked.plan asked.password job → job.device ≡ asked.remote.device
      → (HasJobFault job None → ⊥) → ending ≡ Ended Inval Setting → now ≡ was → dials.now ≡ dials.was
      → EndsThere asked dials was now ending
  ByName : ending ≡ Ended IoError Lost → ((address : Ipv4Addr) → IsAddressOf asked.remote.host address → ⊥)
      → now ≡ was → dials.now ≡ dials.was → EndsThere asked dials was now ending
  ByLoss : ending ≡ Ended IoError Lost → IsHostCalled asked.remote false dials.was dials.now → now ≡ was
      → EndsThere asked dials was now ending
  ByJob : (job : Job) → IsJobOf asked.plan asked.password job → job.device ≡ asked.remote.device
      → (connected : Option (List ℕ)) → IsHostCalled asked.remote true dials.was connected → now.has_begun ≡ true
      → EndsNetPlanned job (dials_between connected dials.now) ending → EndsThere asked dials was now ending
  ByPrinting : ending ≡ Ended IoError Sink → now.failed ≡ true → MayPrint asked.plan.task
      → EndsThere asked dials was now ending

-- ---- the program

-- what ends a plan's task, where its device is
abbrev pub EndsAt : Location → Table → JobPlan → List ℕ → ProgramState → ProgramState → Ending → Type 0
EndsAt (Here device) table plan password was now ending =
    EndsHere table (asked_here device plan password) was.outputs now.outputs ending × (now.ports ≡ was.ports)
EndsAt (There remote) table plan password was now ending =
    EndsThere (asked_there remote plan password) (dials_between was.ports now.ports) was.outputs now.outputs ending

-- the lines of the plan's config were read
pub record IsConfigured (words : List (List ℕ)) (was : SeenInputs) : Type 0 where
  pub plan : Plan
  pub is_plan : IsPlanOf words plan
  pub lines : List ConfigLine
  pub configured : SeenInputs
  pub config : AreLinesOf plan.config was configured lines

-- behind them the page files were asked for, and the password was read
pub record HasEndedFor (words : List (List ℕ)) (was now : ProgramState) (ending : Ending) : Type 0 where
  pub read : IsConfigured words was.inputs
  pub devices : List DeviceState
  pub of_lines : AreDevicesOf read.configured.texts Big read.lines devices
  pub password : List ℕ
  pub named
      : IsPasswordIn read.plan.password_file (with_calls (calls_of_lines read.lines) read.configured)
      now.inputs password
  pub ends : EndsAt read.plan.location (fresh_table devices) read.plan.job password was now ending

-- nothing but inputs was touched
abbrev pub OnlyReads : ProgramState → ProgramState → Type 0
OnlyReads was now = now ≡ record was { inputs = now.inputs }

-- **what an ending tells is so (`IsCauseOf`, `IsCausedBy`)**: there was no memory for a plan, or the words have none,
-- and nothing was read. Or the config that they name was not taken, as it was read; a line of it has no scanner, for a
-- page that was asked for; there was no memory for the scanners; or the password was not taken, as it was read. In each
-- of these no connection was asked for, no output touched, and no job begun. Or the task that was asked for ended so.
pub data IsCauseOf (words : List (List ℕ)) (was now : ProgramState) (ending : Ending) : Type 0 where
  OfWords : IsPlanRefusal words ending → now ≡ was → IsCauseOf words was now ending
  OfConfig : (plan : Plan) → IsPlanOf words plan → RefusesConfigAt plan.config was.inputs now.inputs ending
      → OnlyReads was now → IsCauseOf words was now ending
  OfPage : (read : IsConfigured words was.inputs) → (why : ScannerFault)
      → HasNoScanners read.lines read.configured now.inputs why → ending ≡ ended_by_device why.line why.fault
      → OnlyReads was now → IsCauseOf words was now ending
  OfMemory : (read : IsConfigured words was.inputs)
      → now.inputs ≡ with_calls (calls_of_lines read.lines) read.configured
      → ending ≡ Ended NoMem Memory → OnlyReads was now → IsCauseOf words was now ending
  OfPassword : (read : IsConfigured words was.inputs)
      → IsUnreadAt read.plan.password_file (with_calls (calls_of_lines read.lines) read.configured) now.inputs ending
      → OnlyReads was now → IsCauseOf words was now ending
  OfTask : HasEndedFor words was now ending → IsCauseOf words was now ending

-- the same of a call
abbrev pub IsCausedBy : {X T : Type 0} → List (List ℕ) → HeldOutput X OutsideSeen → HeldOutput T ProgramOutputs
    → Ending → Type 0
IsCausedBy words outside outputs =
    IsCauseOf words (program_state (outside.contents outside.was) (outputs.contents outputs.was))
    (program_state (outside.contents outside.now) (outputs.contents outputs.now))

-- and of calls on parts of it
abbrev pub FailsHere : {T : Type 0} → Table → AskedHere → HeldOutput T ProgramOutputs → Ending → Type 0
FailsHere table asked outputs = EndsHere table asked (outputs.contents outputs.was) (outputs.contents outputs.now)

abbrev pub FailsThere : {H T : Type 0} → AskedThere → HeldOutput H (Option (List ℕ)) → HeldOutput T ProgramOutputs
    → Ending → Type 0
FailsThere asked hosts outputs =
    EndsThere asked (dials_between (hosts.contents hosts.was) (hosts.contents hosts.now))
    (outputs.contents outputs.was) (outputs.contents outputs.now)

-- no control connection: the host has no address, and none was asked for; or it was not made
abbrev pub IsUnconnected : Remote → Option (List ℕ) → Option (List ℕ) → Ending → Type 0
IsUnconnected remote was now ending = (ending ≡ Ended IoError Lost)
    × ((((address : Ipv4Addr) → IsAddressOf remote.host address → ⊥) × (now ≡ was)) ⊎ IsHostCalled remote false was now)

-- no device is named, and there was no memory for the name of the first, or none is listed
abbrev pub IsUnnamed : Option (List ℕ) → List DeviceInfo → Ending → Type 0
IsUnnamed named infos ending = (named ≡ None)
    × ((ending ≡ Ended NoMem Memory) ⊎ ((ending ≡ Ended Inval Setting) × (infos ≡ [])))
