-- A config whose second line is bad.
use Rattle.std.specs.Prelude.{ℕ, ◌≡◌, ◌⊎◌, Bool, List, ◌++◌, codes}
use Rattle.scanimage_cli.specs.HowEnded.{HasEndedAs}
use Rattle.scanimage_cli.specs.Whole.{HasRunFor, ProgramState}
use Rattle.worked_programs.specs.Begun.{HasReadOnly, HasTakenNothing, HoldsLine, WasGivenText, no_first_line}
use Rattle.worked_programs.specs.DemoDot.{demo_words}

-- **a bad second line (`bad_config`, `IsNeverDone`, `BadLineIsTold`)**: the line of `make demo`, and one whose dots per
-- inch are 0. What the words of `make demo` ask for is not done then. Where that config was read, the exit status is
-- 65, and standard error holds that the dots per inch of line 2 are bad, or that there was no memory for line 1.
abbrev pub bad_config : List ℕ
bad_config =
    codes "flatbed 0 26 hex:50350a3220310a3235350a0ac8\n" ++ codes "flatbed 1 0 hex:50350a3220310a3235350a0ac8\n"

abbrev pub bad_line_told : List ℕ
bad_line_told = codes "scanimage: config line 2: bad dpi\n"

-- what these words ask for of that text is never done
abbrev pub IsNeverDone : List (List ℕ) → List ℕ → Type 0
IsNeverDone words text =
    (was now : ProgramState) → WasGivenText text was.inputs now.inputs → HasRunFor words was now → ⊥

abbrev pub BadLineIsTold : Type 0
BadLineIsTold =
    (was now : ProgramState) (status : ℕ) (errors : Bool) → HasTakenNothing was
    → HasReadOnly bad_config was.inputs now.inputs → HasEndedAs demo_words status was now errors
    → (status ≡ 65) × (HoldsLine bad_line_told now errors ⊎ HoldsLine no_first_line now errors)
