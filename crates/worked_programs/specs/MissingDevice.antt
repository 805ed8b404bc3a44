-- A device that is not there.
use Rattle.std.specs.Prelude.{ℕ, ◌≡◌, ◌⊎◌, Bool, List, [], ◌∷◌, ◌++◌, codes}
use Rattle.scanimage_cli.specs.HowEnded.{HasEndedAs}
use Rattle.scanimage_cli.specs.Whole.{ProgramState}
use Rattle.worked_programs.specs.Begun.{EndsInWant, HasReadOnly, HasTakenNothing, HoldsLine, no_first_line}
use Rattle.worked_programs.specs.DemoDot.{demo_config, demo_words}

-- **a missing device (`missing_words`, `MissingIsTold`)**: the words of `make demo` with `-d hand:7`, and its config,
-- of a flatbed alone. What they ask for is not done. Where that config was read, the exit status is 4, and standard
-- error holds that a setting was refused; or memory ran out before that.
abbrev pub missing_words : List (List ℕ)
missing_words = demo_words ++ codes "-d" ∷ codes "hand:7" ∷ []

abbrev pub missing_told : List ℕ
missing_told = codes "scanimage: SANE_STATUS_INVAL (setting)\n"

abbrev pub MissingIsTold : Type 0
MissingIsTold =
    (was now : ProgramState) (status : ℕ) (errors : Bool) → HasTakenNothing was
    → HasReadOnly demo_config was.inputs now.inputs → HasEndedAs missing_words status was now errors
    → ((status ≡ 4) × HoldsLine missing_told now errors) ⊎ EndsInWant (no_first_line ∷ []) status now errors
