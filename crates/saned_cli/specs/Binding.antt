-- Where saned listens, and what it tells of that.
use Rattle.std.specs.Prelude.{ℕ, ◌≡◌, ◌<◌, ◌⊎◌, ◌++◌, Bool, true, Option, Result, Ok, Err, List, codes, decimal}
use Rattle.std.specs.Prelude.{length, take}
use Rattle.std.specs.Io.KnownBytes.{Appends}
use Rattle.std.specs.IoError.{error_kind}
use Rattle.std.specs.declared.io.Error.{Error}
use Rattle.std.specs.declared.io.ErrorKind.{ErrorKind}
use Rattle.config_pages.specs.InputTexts.{SeenInputs}
use Rattle.saned_cli.specs.PortsAsked.{PortAsked, asked_port, with_asked}
use Rattle.saned_cli.specs.DaemonPlans.{IsDaemonPlanOf}
use Rattle.saned_cli.specs.declared.daemon_plan.DaemonPlan.{DaemonPlan}
use Rattle.saned_cli.specs.declared.port_line.DaemonOutput.{DaemonOutput}
use Rattle.saned_cli.specs.declared.port_line.DaemonStreams.{DaemonStreams}
use Rattle.saned_cli.specs.declared.ports.BoundNet.{BoundNet}

-- the port that is had, or what kind of fault there was
abbrev pub bind_answer : {N : Type 0} → Result (BoundNet N) Error → Result ℕ ErrorKind
bind_answer (Ok bound) = Ok bound.port
bind_answer (Err e) = Err (error_kind e)

-- which ports a daemon asked for, and what its standard output took, where they are told; and whether that failed
pub record DaemonTold : Type 0 where
  pub ports : Option (List PortAsked)
  pub out : Option (List ℕ)
  pub failed : Bool

-- of these ports and that output
abbrev pub told_by : {P O : Type 0} → (P → Option (List PortAsked)) → (O → Option (List ℕ)) → P → DaemonOutput O
    → DaemonTold
told_by asked contents ports out =
    record { ports = asked ports; out = contents out.to; failed = out.tally.failed }

-- the line that tells the port
abbrev pub port_line : ℕ → List ℕ
port_line port = codes "port " ++ (decimal port ++ codes "\n")

-- an output took all of that text, or, if it failed, a front of it
abbrev pub TellsLine : List ℕ → Bool → Option (List ℕ) → Option (List ℕ) → Type 0
TellsLine text failed was now =
    Appends was now text ⊎ ((failed ≡ true) × (n : ℕ) × (n < length text) × Appends was now (take n text))

-- **where a daemon serves (`ListensFor`)**: the port and the data ports of its plan were asked for, once, and it has a
-- port. Standard output took the line `port N` with that one, or a front of it if the output failed, and nothing else.
pub record ListensFor (plan : DaemonPlan) (was now : DaemonTold) : Type 0 where
  pub port : ℕ
  pub asked : now.ports ≡ with_asked (asked_port plan.options.port plan.options.data_ports (Ok port)) was.ports
  pub told : TellsLine (port_line port) now.failed was.out now.out

-- what is seen of the inputs, and what a daemon told
pub record DaemonSeen : Type 0 where
  pub inputs : SeenInputs
  pub told : DaemonTold

-- of these streams
abbrev pub seen_by : {I P O E : Type 0} → (I → SeenInputs) → (P → Option (List PortAsked)) → (O → Option (List ℕ))
    → DaemonStreams I P O E → DaemonSeen
seen_by seen asked contents streams =
    record { inputs = seen streams.inputs; told = told_by asked contents streams.ports streams.out }

-- so it is for the plan of the words
pub record ListensForWords (words : List (List ℕ)) (was now : DaemonSeen) : Type 0 where
  pub plan : DaemonPlan
  pub is_plan : IsDaemonPlanOf words plan
  pub listens : ListensFor plan was.told now.told
