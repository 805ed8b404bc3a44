-- A dot on the second of two flatbeds, which `-d` names.
use Rattle.std.specs.Prelude.{ℕ, Bool, List, [], ◌∷◌, ◌++◌, codes}
use Rattle.scanimage_cli.specs.HowEnded.{HasEndedAs}
use Rattle.scanimage_cli.specs.Whole.{HasRunFor, ProgramState}
use Rattle.worked_programs.specs.Begun.{CameOffWithout, HasReadOnly, HasTakenNothing, PrintsOnly, WasGivenText}
use Rattle.worked_programs.specs.Begun.{no_first_line, no_second_line}
use Rattle.worked_programs.specs.DemoDot.{demo_words}

-- **the second is printed (`second_words`, `two_flatbeds_config`, `second_file`, `SecondIsPrinted`,
-- `SecondIsMissed`)**: the words of `make demo` with `-d flatbed:1`, lines of two flatbeds with the dots 10 and 200,
-- and 200 and 10, and the file of the first dot of the second page. That is what the program prints of them where it
-- has done what it was asked for; else it came off without.
abbrev pub second_words : List (List ℕ)
second_words = demo_words ++ codes "-d" ∷ codes "flatbed:1" ∷ []

abbrev pub two_flatbeds_config : List ℕ
two_flatbeds_config =
    codes "flatbed 0 26 hex:50350a3220310a3235350a0ac8\n" ++ codes "flatbed 1 26 hex:50350a3220310a3235350ac80a\n"

abbrev pub second_file : List ℕ
second_file = codes "P5\n# SANE data follows\n1 1\n255\n" ++ 200 ∷ []

abbrev pub SecondIsPrinted : Type 0
SecondIsPrinted =
    (was now : ProgramState) → HasTakenNothing was → WasGivenText two_flatbeds_config was.inputs now.inputs
    → HasRunFor second_words was now → PrintsOnly second_file was now

abbrev pub SecondIsMissed : Type 0
SecondIsMissed =
    (was now : ProgramState) (status : ℕ) (errors : Bool) → HasTakenNothing was
    → HasReadOnly two_flatbeds_config was.inputs now.inputs → HasEndedAs second_words status was now errors
    → CameOffWithout second_file (no_first_line ∷ no_second_line ∷ []) status now errors
