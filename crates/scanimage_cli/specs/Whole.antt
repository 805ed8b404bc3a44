-- What the program scanimage does, from the words of its command line to what its standard streams hold.
use Rattle.std.specs.Prelude.{ℕ, ◌≡◌, ◌⊎◌, List, Option}
use Rattle.sane_fixed.specs.declared.byte_order.ByteOrder.TheVariants.{Big}
use Rattle.device_api.specs.State.{DeviceState}
use Rattle.dispatch.specs.Table.{Table, fresh_table}
use Rattle.dispatch.specs.declared.config_line.ConfigLine.{ConfigLine}
use Rattle.config_pages.specs.Devices.{AreDevicesOf, calls_of_lines}
use Rattle.config_pages.specs.InputTexts.{SeenInputs, with_calls}
use Rattle.scanimage_cli.specs.CallStreams.{HeldOutput}
use Rattle.scanimage_cli.specs.Host.{dials_between}
use Rattle.scanimage_cli.specs.Inputs.{AreLinesOf, IsPasswordIn}
use Rattle.scanimage_cli.specs.JobOutputs.{LeavesNoneOfPlan}
use Rattle.scanimage_cli.specs.Plans.{IsPlanOf}
use Rattle.scanimage_cli.specs.Programs.{IsDoneHere, IsDoneThere, OutsideSeen, ProgramOutputs, job_part}
use Rattle.scanimage_cli.specs.declared.planning.JobPlan.{JobPlan}
use Rattle.scanimage_cli.specs.declared.planning.Location.{Location}
use Rattle.scanimage_cli.specs.declared.planning.Location.TheVariants.{Here, There}
use Rattle.scanimage_cli.specs.declared.planning.Plan.{Plan}

-- what was read, the connections that were asked for, and what the outputs hold, as far as it is told
pub record ProgramState : Type 0 where
  pub inputs : SeenInputs
  pub ports : Option (List ℕ)
  pub outputs : ProgramOutputs

abbrev pub program_state : OutsideSeen → ProgramOutputs → ProgramState
program_state outside outputs = record { inputs = outside.inputs; ports = outside.ports; outputs = outputs }

-- the job of a plan is done where its device is: on one of the table's here, and no connection is asked for, or at the
-- host
abbrev pub IsDoneAt : Location → Table → JobPlan → List ℕ → ProgramState → ProgramState → Type 0
IsDoneAt (Here device) table plan password was now =
    IsDoneHere table (record { device = device; plan = plan; password = password }) was.outputs now.outputs
    × (now.ports ≡ was.ports)
IsDoneAt (There remote) table plan password was now =
    IsDoneThere (record { remote = remote; plan = plan; password = password }) (dials_between was.ports now.ports)
    was.outputs now.outputs

-- the plan is carried out with these devices, and with the password that it names, which is read first
pub record IsCarriedOut (plan : Plan) (table : Table) (was now : ProgramState) : Type 0 where
  pub password : List ℕ
  pub named : IsPasswordIn plan.password_file was.inputs now.inputs password
  pub does : IsDoneAt plan.location table plan.job password was now

-- **has run (`RunsFor`, `HasRunFor`, `IsCarriedOut`, `IsDoneAt`)**: the words have a plan, and it is carried out: on
-- one of the scanners of the config's lines here, or at the host, with the password in the file that it names. Of the
-- inputs the config was read, then the page files of its lines were asked for, then the password was read, and nothing
-- else.
pub record HasRunFor (words : List (List ℕ)) (was now : ProgramState) : Type 0 where
  pub plan : Plan
  pub is_plan : IsPlanOf words plan
  pub lines : List ConfigLine
  pub configured : SeenInputs
  pub config : AreLinesOf plan.config was.inputs configured lines
  pub devices : List DeviceState
  pub of_lines : AreDevicesOf configured.texts Big lines devices
  pub carried
      : IsCarriedOut plan (fresh_table devices)
      (record was { inputs = with_calls (calls_of_lines lines) configured }) now

-- the same of a call
abbrev pub RunsFor : {X T : Type 0} → List (List ℕ) → HeldOutput X OutsideSeen → HeldOutput T ProgramOutputs → Type 0
RunsFor words outside outputs =
    HasRunFor words (program_state (outside.contents outside.was) (outputs.contents outputs.was))
    (program_state (outside.contents outside.now) (outputs.contents outputs.now))

-- **no file of its own (`LeavesNoneOf`)**: the words have no plan, or nothing was done of it, and no output was
-- touched. Or they have one, and no file is left of it: no front of a scan's output is a whole file, a batch leaves its
-- finished pages alone, and all else none at all.
abbrev pub LeavesNoneOf : List (List ℕ) → ProgramOutputs → ProgramOutputs → Type 0
LeavesNoneOf words was now = (job_part now ≡ job_part was)
    ⊎ ((plan : Plan) × IsPlanOf words plan × LeavesNoneOfPlan plan.job (job_part was) (job_part now))

-- the same of a call
abbrev pub RunsNoFurther : {T : Type 0} → List (List ℕ) → HeldOutput T ProgramOutputs → Type 0
RunsNoFurther words outputs = LeavesNoneOf words (outputs.contents outputs.was) (outputs.contents outputs.now)
