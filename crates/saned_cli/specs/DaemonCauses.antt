-- Why saned serves nobody.
use Rattle.std.specs.Prelude.{ℕ, ◌≡◌, Bool, IsSome, List, Err, None, Option}
use Rattle.std.specs.declared.io.ErrorKind.{ErrorKind}
use Rattle.std.specs.declared.io.ErrorKind.TheVariants.{OutOfMemory}
use Rattle.device_api.specs.State.{DeviceState}
use Rattle.dispatch.specs.RegistryFault.{HasRegistryFault}
use Rattle.dispatch.specs.declared.config_line.ConfigLine.{ConfigLine}
use Rattle.dispatch.specs.declared.registry.RegistryFault.{RegistryFault}
use Rattle.md5_auth.specs.declared.users.Entry.{Entry}
use Rattle.config_pages.specs.Devices.{AreDevicesOf, HasNoScanners, calls_of_lines}
use Rattle.config_pages.specs.InputTexts.{IsConfigRead, SeenInputs, with_calls}
use Rattle.config_pages.specs.declared.config_scanners.ScannerFault.{ScannerFault}
use Rattle.saned_cli.specs.PortsAsked.{PortAsked, asked_port, with_asked}
use Rattle.saned_cli.specs.Binding.{DaemonSeen, DaemonTold, ListensFor, TellsLine, seen_by}
use Rattle.saned_cli.specs.DaemonEndings.{IsDaemonFailure, daemon_ended_by_device, daemon_exit_status}
use Rattle.saned_cli.specs.DaemonInputs.{AreUsersIn, RefusesConfigIn, RefusesUsersIn, config_name}
use Rattle.saned_cli.specs.DaemonLines.{daemon_ending_line}
use Rattle.saned_cli.specs.OwnTexts.{text_asked}
use Rattle.saned_cli.specs.DaemonPlans.{IsDaemonPlanOf, IsDaemonPlanRefusal}
use Rattle.saned_cli.specs.declared.daemon_ending.DaemonEnding.{DaemonEnding}
use Rattle.saned_cli.specs.declared.daemon_ending.DaemonEnding.TheVariants.{CannotListen, CannotWrite, NoMemory}
use Rattle.saned_cli.specs.declared.daemon_plan.DaemonPlan.{DaemonPlan}
use Rattle.saned_cli.specs.declared.port_line.DaemonStreams.{DaemonStreams}

-- the words have a plan, and these are the lines of the config that it names
pub record HasItsLines (words : List (List ℕ)) (was : SeenInputs) : Type 0 where
  pub plan : DaemonPlan
  pub is_plan : IsDaemonPlanOf words plan
  pub lines : List ConfigLine
  pub now : SeenInputs
  pub config : IsConfigRead (config_name plan.options) was now lines

-- and those are its scanners, for which page files were asked
pub record HasItsScanners (words : List (List ℕ)) (was : SeenInputs) : Type 0 where
  pub read : HasItsLines words was
  pub devices : List DeviceState
  pub of_lines : AreDevicesOf read.now.texts read.plan.options.byte_order read.lines devices

-- what is seen of the inputs behind the page files
abbrev pub pages_seen : {words : List (List ℕ)} → {was : SeenInputs} → HasItsLines words was → SeenInputs
pages_seen c = with_calls (calls_of_lines c.lines) c.now

-- the ending where a port could not be had, for a fault of that kind
pub record IsPortEnding (kind : ErrorKind) (ending : DaemonEnding) : Type 0 where
  pub memory : kind ≡ OutOfMemory → ending ≡ NoMemory
  pub refused : ¬ (kind ≡ OutOfMemory) → ending ≡ CannotListen

-- the port of the plan was asked for, and not had; or it was had and told, and there was no memory to serve
pub data HasNotServed (plan : DaemonPlan) (was now : DaemonTold) (ending : DaemonEnding) : Type 0 where
  CannotBind : (kind : ErrorKind)
      → now.ports ≡ with_asked (asked_port plan.options.port plan.options.data_ports (Err kind)) was.ports
      → now.out ≡ was.out → IsPortEnding kind ending → HasNotServed plan was now ending
  CannotBegin : ListensFor plan was now → ending ≡ NoMemory → HasNotServed plan was now ending

-- that, and what standard error took, and whether that failed
pub record DaemonOutside : Type 0 where
  pub seen : DaemonSeen
  pub errors : Option (List ℕ)
  pub unsaid : Bool

-- of these streams
abbrev pub daemon_at : {I P O E : Type 0} → (I → SeenInputs) → (P → Option (List PortAsked)) → (O → Option (List ℕ))
    → (E → Option (List ℕ)) → DaemonStreams I P O E → DaemonOutside
daemon_at seen asked contents errors streams = record {
  seen = seen_by seen asked contents streams;
  errors = errors streams.err.to;
  unsaid = streams.err.tally.failed;
}

-- **why it serves nobody (`IsDaemonCause`)**: the words have no plan. Or the config that they name is refused; or one
-- of its lines has no scanner; or the users are refused; or a registry refuses the scanners. Or the port was asked for
-- and not had; or it was had and told, and there was no memory to serve. What comes behind that was not done.
pub data IsDaemonCause (words : List (List ℕ)) (was now : DaemonSeen) (ending : DaemonEnding) : Type 0 where
  ByWords : IsDaemonPlanRefusal words ending → now.inputs ≡ was.inputs → now.told ≡ was.told
      → IsDaemonCause words was now ending
  ByConfig : (plan : DaemonPlan) → IsDaemonPlanOf words plan → RefusesConfigIn plan.options was.inputs now.inputs ending
      → now.told ≡ was.told → IsDaemonCause words was now ending
  ByScanner : (c : HasItsLines words was.inputs) (why : ScannerFault) → HasNoScanners c.lines c.now now.inputs why
      → ending ≡ daemon_ended_by_device why.line why.fault → now.told ≡ was.told
      → IsDaemonCause words was now ending
  ByUsers : (s : HasItsScanners words was.inputs)
      → RefusesUsersIn s.read.plan.options (pages_seen s.read) now.inputs ending
      → now.told ≡ was.told → IsDaemonCause words was now ending
  ByRegistry : (s : HasItsScanners words was.inputs) (users : List Entry)
      → AreUsersIn s.read.plan.options (pages_seen s.read) now.inputs users
      → (fault : RegistryFault) → HasRegistryFault fault s.devices → ending ≡ NoMemory
      → now.told ≡ was.told → IsDaemonCause words was now ending
  ByServing : (s : HasItsScanners words was.inputs) (users : List Entry)
      → AreUsersIn s.read.plan.options (pages_seen s.read) now.inputs users
      → HasNotServed s.read.plan was.told now.told ending → IsDaemonCause words was now ending

-- **any other exit status (`HasEndedSo`)**: it is that of an ending, and the line of that ending went to standard
-- error, or a front of it if that failed. If the words ask for a text, it could not be written; else the ending has its
-- cause.
pub record HasEndedSo (words : List (List ℕ)) (was now : DaemonOutside) (status : ℕ) : Type 0 where
  pub ending : DaemonEnding
  pub status_is : status ≡ daemon_exit_status ending
  pub failure : IsDaemonFailure ending
  pub line : TellsLine (daemon_ending_line ending) now.unsaid was.errors now.errors
  pub own : IsSome (text_asked words) → ending ≡ CannotWrite
  pub cause : text_asked words ≡ None → IsDaemonCause words was.seen now.seen ending
