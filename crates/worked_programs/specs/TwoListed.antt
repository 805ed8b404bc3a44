-- The list of two scanners.
use Rattle.std.specs.Prelude.{ℕ, Bool, List, [], ◌∷◌, ◌++◌, codes}
use Rattle.scanimage_cli.specs.HowEnded.{HasEndedAs}
use Rattle.scanimage_cli.specs.Whole.{HasRunFor, ProgramState}
use Rattle.worked_programs.specs.Begun.{EndsInWant, HasReadOnly, HasTakenNothing, PrintsOnly, WasGivenText}
use Rattle.worked_programs.specs.Begun.{no_first_line, no_second_line}

-- **two are listed (`list_words`, `two_kinds_config`, `two_kinds_list`, `TwoAreListed`, `TwoAreMissed`)**: the words
-- `--config - -L`, a line of a flatbed and one of a hand scanner, and a line of the list for each. That is what the
-- program prints of them where it has done what it was asked for; else it tells what it lacked.
abbrev pub list_words : List (List ℕ)
list_words = codes "--config" ∷ codes "-" ∷ codes "-L" ∷ []

abbrev pub two_kinds_config : List ℕ
two_kinds_config =
    codes "flatbed 0 26 hex:50350a3220310a3235350a0ac8\n" ++ codes "hand 3 26 hex:50350a3220310a3235350ac80a\n"

abbrev pub two_kinds_list : List ℕ
two_kinds_list =
    codes "device `flatbed:0' is a Virtual Flatbed flatbed scanner\n"
    ++ codes "device `hand:3' is a Virtual Hand handheld scanner\n"

abbrev pub TwoAreListed : Type 0
TwoAreListed =
    (was now : ProgramState) → HasTakenNothing was → WasGivenText two_kinds_config was.inputs now.inputs
    → HasRunFor list_words was now → PrintsOnly two_kinds_list was now

abbrev pub TwoAreMissed : Type 0
TwoAreMissed =
    (was now : ProgramState) (status : ℕ) (errors : Bool) → HasTakenNothing was
    → HasReadOnly two_kinds_config was.inputs now.inputs → HasEndedAs list_words status was now errors
    → EndsInWant (no_first_line ∷ no_second_line ∷ []) status now errors
