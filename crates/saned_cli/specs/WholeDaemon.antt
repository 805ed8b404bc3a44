-- What the program saned does, from the words of its command line to the calls of its daemon.
use Rattle.std.specs.Prelude.{ℕ, ◌≡◌, ◌≢◌, ◌≤◌, All, None, Some, Option, List, [], ◌∷◌, length}
use Rattle.device_api.specs.ScannerLimits.{HasLimits}
use Rattle.device_api.specs.State.{DeviceState}
use Rattle.dispatch.specs.RegistryFault.{HaveOwnNames}
use Rattle.dispatch.specs.Table.{fresh_table}
use Rattle.dispatch.specs.declared.config_line.ConfigLine.{ConfigLine}
use Rattle.config_pages.specs.Devices.{AreDevicesOf, calls_of_lines}
use Rattle.config_pages.specs.InputTexts.{IsConfigRead, SeenInputs, with_calls}
use Rattle.md5_auth.specs.Challenges.{HasGiven}
use Rattle.md5_auth.specs.declared.users.Entry.{Entry}
use Rattle.saned_core.specs.DaemonStates.{Core}
use Rattle.saned_serve.specs.ListenerTraces.{ListenerTrace}
use Rattle.recorded_net.specs.Carried.{CarryTheirOwn}
use Rattle.recorded_net.specs.ListenerCalls.{ListenerCall, trace_of_calls}
use Rattle.recorded_net.specs.NetsBack.{BackNets, IsUnasked, back_nets, with_back}
use Rattle.saned_serve.specs.Serving.{HasServed}
use Rattle.saned_serve.specs.declared.serving.ServeEnd.{ServeEnd}
use Rattle.saned_serve.specs.declared.serving.ServeEnd.TheVariants.{NoMem}
use Rattle.saned_cli.specs.DaemonInputs.{AreUsersIn, config_name}
use Rattle.saned_cli.specs.DaemonPlans.{IsDaemonPlanOf}
use Rattle.saned_cli.specs.PortsAsked.{PortAsked}
use Rattle.saned_cli.specs.declared.daemon_plan.DaemonPlan.{DaemonPlan}
use Rattle.saned_cli.specs.declared.port_line.DaemonStreams.{DaemonStreams}
use Rattle.saned_cli.specs.declared.recorded_ports.RecordedPorts.{RecordedPorts}

-- a daemon before its first session: of these devices and users, with the plan's seed and size of strings. No two
-- devices have one name, there are at most sixteen, and each is within the limits of a scanner.
pub record IsDaemonOf (plan : DaemonPlan) (devices : List DeviceState) (users : List Entry)
    (daemon : Core) : Type 0 where
  pub registry : daemon.registry ≡ fresh_table devices
  pub users_are : daemon.users ≡ users
  pub strings : daemon.strings ≡ plan.options.strings
  pub seed : HasGiven plan.seed 0 daemon.stream
  pub none : daemon.slots ≡ None ∷ None ∷ None ∷ None ∷ None ∷ None ∷ None ∷ None ∷ []
  pub opened : daemon.opened ≡ 0
  pub names : HaveOwnNames devices
  pub few : length devices ≤ 16
  pub limits : All HasLimits devices

-- a daemon has served as many sessions, or as long, as the plan says, or in all turns that a server takes, over
-- listeners that were asked for nothing before, and then went back. That there was no memory to begin is no such end.
pub record IsServedBy (plan : DaemonPlan) (daemon : Core) (nets back : BackNets) : Type 0 where
  pub last : Core
  pub began : Option ListenerTrace
  pub unasked : IsUnasked began
  pub listened : Option ListenerTrace
  pub went_back : back ≡ with_back listened nets
  pub end : ServeEnd
  pub had_memory : end ≢ NoMem
  pub served
      : HasServed (record { sessions = plan.options.sessions; idle_turns = plan.options.idle_turns })
      (record { daemon = daemon; listeners = began }) (record { daemon = last; listeners = listened }) end

-- **has served for its words (`HasServedFor`, `IsDaemonOf`, `IsServedBy`)**: the words have a plan, and the daemon of
-- it, of the scanners of the config's lines and of the users in the file that is named, has served to the plan's end of
-- sessions or idle turns, or in all turns that a server takes. Of the inputs the config was read, then the page files
-- of its lines were asked for, then the users were read, and nothing else.
pub record HasServedFor (was now : SeenInputs) (nets back : BackNets) (words : List (List ℕ)) : Type 0 where
  pub plan : DaemonPlan
  pub is_plan : IsDaemonPlanOf words plan
  pub lines : List ConfigLine
  pub configured : SeenInputs
  pub config : IsConfigRead (config_name plan.options) was configured lines
  pub devices : List DeviceState
  pub of_lines : AreDevicesOf configured.texts plan.options.byte_order lines devices
  pub users : List Entry
  pub users_named : AreUsersIn plan.options (with_calls (calls_of_lines lines) configured) now users
  pub first : Core
  pub serves : IsServedBy plan first nets back
  pub begun : IsDaemonOf plan devices users first

-- **has carried for its words (`HasCarriedFor`)**: a daemon has served for its words, all calls of its listeners are
-- known, and each of its connections carried what is its session's own.
pub record HasCarriedFor (was now : SeenInputs) (nets back : List (List ListenerCall)) (words : List (List ℕ))
    : Type 0 where
  pub served : HasServedFor was now (back_nets nets) (back_nets back) words
  pub listened : List ListenerCall
  pub told : served.serves.listened ≡ trace_of_calls listened
  pub own : CarryTheirOwn served.serves.served.journal listened

-- the same of a call
abbrev pub ServesFor : {I P O E : Type 0} → (I → SeenInputs) → (P → BackNets) → DaemonStreams I P O E
    → DaemonStreams I P O E → List (List ℕ) → Type 0
ServesFor seen back was now words =
    HasServedFor (seen was.inputs) (seen now.inputs) (back was.ports) (back now.ports) words

abbrev pub CarriesFor : {I P O E : Type 0} → (I → SeenInputs) → DaemonStreams I (RecordedPorts P) O E
    → DaemonStreams I (RecordedPorts P) O E → List (List ℕ) → Type 0
CarriesFor seen was now words =
    HasCarriedFor (seen was.inputs) (seen now.inputs) was.ports.back.nets now.ports.back.nets words

-- the ports that recorded ones tell to have been asked for
abbrev pub binds : {P : Type 0} → RecordedPorts P → Option (List PortAsked)
binds ports = Some ports.notes.asked
