-- A plan that is carried out where its device is.
use Rattle.std.proofs.Common.{Bool, ℕ, ◌≡◌, ◌⊎◌, List, Option, Result, Ok, Err, OnErr, inr, subst, sym}
use Rattle.scanimage_cli.specs.Printing.{TakesOrFails}
use Rattle.device_api.specs.State.{DeviceState}
use Rattle.dispatch.specs.Table.{Table, fresh_table}
use Rattle.config_pages.specs.Devices.{calls_of_lines}
use Rattle.config_pages.specs.InputTexts.{SeenInputs, with_calls}
use Rattle.scanimage_cli.specs.Host.{dials_between}
use Rattle.scanimage_cli.specs.Inputs.{IsPasswordIn}
use Rattle.scanimage_cli.specs.Programs.{IsDoneHere, IsDoneThere}
use Rattle.scanimage_cli.specs.Whole.{HasRunFor, IsCarriedOut, IsDoneAt, ProgramState}
use Rattle.scanimage_cli.specs.declared.planning.Location.TheVariants.{Here, There}
use Rattle.scanimage_cli.specs.declared.planning.Plan.{Plan}
use Rattle.scanimage_cli.specs.JobOutputs.{JobOutputs, LeavesNoneOfPlan}
use Rattle.scanimage_cli.specs.Plans.{IsPlanOf}
use Rattle.scanimage_cli.specs.Written.{CarriedOutIsWritten, HaveTaken, IsWrittenFor, TakenOutputs}
use Rattle.scanimage_cli.specs.declared.planning.Remote.{Remote}

pub carried_there : (plan : Plan) (remote : Remote) (table : Table) (password : List ℕ) (was now : ProgramState) → plan.location ≡ There remote → IsPasswordIn plan.password_file was.inputs now.inputs password
    → IsDoneThere (record { remote = remote; plan = plan.job; password = password }) (dials_between was.ports now.ports) was.outputs now.outputs → IsCarriedOut plan table was now
carried_there plan remote table password was now at named done = record { password = password; named = named; does = subst (λ l. IsDoneAt l table plan.job password was now) (sym at) done }

pub carried_here : (plan : Plan) (device : Option (List ℕ)) (table : Table) (password : List ℕ) (was now : ProgramState) → plan.location ≡ Here device → IsPasswordIn plan.password_file was.inputs now.inputs password
    → now.ports ≡ was.ports → IsDoneHere table (record { device = device; plan = plan.job; password = password }) was.outputs now.outputs → IsCarriedOut plan table was now
carried_here plan device table password was now at named same done = record { password = password; named = named; does = subst (λ l. IsDoneAt l table plan.job password was now) (sym at) (done, same) }

pub carried_fresh : (plan : Plan) (table : Table) (devices : List DeviceState) (was now : ProgramState) (asked : SeenInputs) → table ≡ fresh_table devices → was.inputs ≡ asked → IsCarriedOut plan table was now
    → IsCarriedOut plan (fresh_table devices) (record was { inputs = asked }) now
carried_fresh plan table devices was now asked fresh same carried = subst (λ inputs. IsCarriedOut plan (fresh_table devices) (record was { inputs = inputs }) now) same (subst (λ t. IsCarriedOut plan t was now) fresh carried)

-- a line is told from where nothing was told before
pub still_told : (was mid now : Option (List ℕ)) (line : List ℕ) (failed : Bool) → mid ≡ was → TakesOrFails mid now line failed → TakesOrFails was now line failed
still_told was mid now line failed same told = subst (λ (text : Option (List ℕ)). TakesOrFails text now line failed) same told

-- of what was asked for no file of its own is left where it did not end well
pub leaves_none_of : {A E : Type 0} (words : List (List ℕ)) (plan : Plan) (was now : JobOutputs) (result : Result A E) → IsPlanOf words plan → OnErr result (LeavesNoneOfPlan plan.job was now)
    → OnErr result ((now ≡ was) ⊎ ((plan : Plan) × IsPlanOf words plan × LeavesNoneOfPlan plan.job was now))
leaves_none_of words plan was now (Ok value) is left = tt
leaves_none_of words plan was now (Err fault) is left = inr (plan, is, left)

-- what has run, of outputs that tell all that they took, is written as planned
pub has_written : (words : List (List ℕ)) (was now : ProgramState) (old new : TakenOutputs) → CarriedOutIsWritten → HaveTaken was.outputs old → HaveTaken now.outputs new → HasRunFor words was now → IsWrittenFor words was.inputs now.inputs old new
has_written words was now old new law first last ran = record {
  plan = ran.plan;
  is_plan = ran.is_plan;
  lines = ran.lines;
  configured = ran.configured;
  config = ran.config;
  devices = ran.devices;
  of_lines = ran.of_lines;
  password = ran.carried.password;
  read = ran.carried.named;
  written = law ran.plan (fresh_table ran.devices) (record was { inputs = with_calls (calls_of_lines ran.lines) ran.configured }) now old new first last ran.carried;
}
