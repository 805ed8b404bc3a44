-- How the program has ended where it does not end well.
use Rattle.std.specs.Prelude.{ℕ, ◌≡◌, ◌≢◌, Bool, List, true}
use Rattle.byte_output.specs.declared.tally.OutputTally.{OutputTally}
use Rattle.scanimage_cli.specs.CallStreams.{HeldOutput}
use Rattle.scanimage_cli.specs.Causes.{IsCauseOf}
use Rattle.scanimage_cli.specs.Ending.{IsFailure, IsOfOutput, ending_line, exit_status}
use Rattle.scanimage_cli.specs.Printing.{TakesOrFails}
use Rattle.scanimage_cli.specs.Programs.{OutsideSeen, ProgramOutputs}
use Rattle.scanimage_cli.specs.Whole.{LeavesNoneOf, ProgramState, program_state}
use Rattle.scanimage_cli.specs.declared.ending.Ending.{Ending}

-- before the ending was told nothing had been printed on standard error
abbrev pub before_telling : ProgramState → ProgramState → ProgramState
before_telling was now = record now { outputs = record now.outputs { err = was.outputs.err } }

-- **has ended (`EndsAs`, `HasEndedAs`)**: with the status of an ending that is no success, and whose cause is so. It is
-- an output's only if it is noted that one failed. No file of its own is left, and its line is on standard error,
-- unless that failed too.
pub record HasEndedAs (words : List (List ℕ)) (status : ℕ) (was now : ProgramState) (errors : Bool) : Type 0 where
  pub ending : Ending
  pub status_is : status ≡ exit_status ending
  pub failure : IsFailure ending
  pub cause : IsCauseOf words was (before_telling was now) ending
  pub no_file : LeavesNoneOf words was.outputs now.outputs
  pub of_output : IsOfOutput ending → now.outputs.failed ≡ true
  pub told : TakesOrFails was.outputs.err now.outputs.err (ending_line ending) errors

-- the same of a call, where the status is not 0
abbrev pub EndsAs : {X T : Type 0} → List (List ℕ) → ℕ → HeldOutput X OutsideSeen → HeldOutput T ProgramOutputs
    → OutputTally → Type 0
EndsAs words status outside outputs errors =
    status ≢ 0 → HasEndedAs words status (program_state (outside.contents outside.was) (outputs.contents outputs.was))
    (program_state (outside.contents outside.now) (outputs.contents outputs.now)) errors.failed
