-- A setting that is rounded.
use Rattle.std.specs.Prelude.{ℕ, ◌≡◌, Bool, false, Some, List, [], ◌∷◌, codes}
use Rattle.scanimage_cli.specs.HowEnded.{HasEndedAs}
use Rattle.scanimage_cli.specs.Whole.{HasRunFor, ProgramState}
use Rattle.worked_programs.specs.Begun.{EndsInWant, HasReadOnly, HasTakenNothing, WasGivenText, no_first_line}
use Rattle.worked_programs.specs.DemoDot.{demo_config}

-- **a rounded setting (`round_words`, `rounded_told`, `TellsOnly`, `RoundedIsTold`, `RoundedIsMissed`)**: the words
-- `--config - --resolution 5000 -n`. A flatbed has 1,200 dots per inch at most. Where the program has done what it was
-- asked for, standard error holds that 5000 was rounded to 1200, unless it is noted that an output failed. Standard
-- output took nothing, and no other output was touched. Else the program tells what it lacked.
abbrev pub round_words : List (List ℕ)
round_words = codes "--config" ∷ codes "-" ∷ codes "--resolution" ∷ codes "5000" ∷ codes "-n" ∷ []

abbrev pub rounded_told : List ℕ
rounded_told = codes "scanimage: rounded value of resolution from 5000 to 1200\n"

pub record TellsOnly (line : List ℕ) (was now : ProgramState) : Type 0 where
  pub err : now.outputs.failed ≡ false → now.outputs.err ≡ Some line
  pub out : now.outputs.out ≡ Some []
  pub files : now.outputs.files ≡ was.outputs.files
  pub ports : now.ports ≡ was.ports

abbrev pub RoundedIsTold : Type 0
RoundedIsTold =
    (was now : ProgramState) → HasTakenNothing was → WasGivenText demo_config was.inputs now.inputs
    → HasRunFor round_words was now → TellsOnly rounded_told was now

abbrev pub RoundedIsMissed : Type 0
RoundedIsMissed =
    (was now : ProgramState) (status : ℕ) (errors : Bool) → HasTakenNothing was
    → HasReadOnly demo_config was.inputs now.inputs → HasEndedAs round_words status was now errors
    → EndsInWant (no_first_line ∷ []) status now errors
