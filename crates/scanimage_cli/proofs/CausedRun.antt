-- What ends the program, as its parts tell it.
use Rattle.std.proofs.Common.{ℕ, ◌≡◌, List, Option, Result, Ok, Err, IfErr, subst, sym}
use Rattle.device_api.specs.State.{DeviceState}
use Rattle.dispatch.specs.Table.{Table, fresh_table}
use Rattle.scanimage_cli.specs.Causes.{EndsAt, EndsHere, EndsThere, IsCauseOf}
use Rattle.scanimage_cli.specs.Host.{dials_between}
use Rattle.scanimage_cli.specs.HowEnded.{before_telling}
use Rattle.scanimage_cli.specs.Programs.{asked_here, asked_there}
use Rattle.scanimage_cli.specs.Whole.{ProgramState}
use Rattle.scanimage_cli.specs.declared.ending.Ending.{Ending}
use Rattle.scanimage_cli.specs.declared.planning.Location.TheVariants.{Here, There}
use Rattle.scanimage_cli.specs.declared.planning.Plan.{Plan}
use Rattle.scanimage_cli.specs.declared.planning.Remote.{Remote}

pub if_err_of : {A E : Type 0} {P Q : E → Type 0} (result : Result A E) → ((fault : E) → P fault → Q fault) → IfErr result P → IfErr result Q
if_err_of (Ok value) so is = tt
if_err_of (Err fault) so is = so fault is

pub ends_here : (plan : Plan) (device : Option (List ℕ)) (table : Table) (devices : List DeviceState) (password : List ℕ) (was now : ProgramState) (ending : Ending) → plan.location ≡ Here device → table ≡ fresh_table devices → now.ports ≡ was.ports
    → EndsHere table (asked_here device plan.job password) was.outputs now.outputs ending → EndsAt plan.location (fresh_table devices) plan.job password was now ending
ends_here plan device table devices password was now ending at fresh same ends =
    subst (λ l. EndsAt l (fresh_table devices) plan.job password was now ending) (sym at) (subst (λ t. EndsHere t (asked_here device plan.job password) was.outputs now.outputs ending) fresh ends, same)

pub ends_there : (plan : Plan) (remote : Remote) (table : Table) (password : List ℕ) (was now : ProgramState) (ending : Ending) → plan.location ≡ There remote
    → EndsThere (asked_there remote plan.job password) (dials_between was.ports now.ports) was.outputs now.outputs ending → EndsAt plan.location table plan.job password was now ending
ends_there plan remote table password was now ending at ends = subst (λ l. EndsAt l table plan.job password was now ending) (sym at) ends

pub told_cause : (words : List (List ℕ)) (was now : ProgramState) (ending : Ending) → now.outputs.err ≡ was.outputs.err → IsCauseOf words was now ending → IsCauseOf words was (before_telling was now) ending
told_cause words was now ending same cause = subst (λ err. IsCauseOf words was (record now { outputs = record now.outputs { err = err } }) ending) same cause
