-- The scan of one dot that `make demo` makes, to its last byte.
use Rattle.std.specs.Prelude.{ℕ, ◌≡◌, Bool, List, [], ◌∷◌, ◌++◌, codes}
use Rattle.config_pages.specs.InputTexts.{SeenInputs}
use Rattle.scanimage_cli.specs.HowEnded.{HasEndedAs}
use Rattle.scanimage_cli.specs.Whole.{HasRunFor, ProgramState}
use Rattle.scanimage_cli.specs.Written.{IsWrittenFor, TakenOutputs}
use Rattle.worked_programs.specs.Begun.{CameOffWithout, HasReadOnly, HasTakenNothing, PrintsOnly, WasGivenText}
use Rattle.worked_programs.specs.Begun.{no_first_line}

-- **one printed dot (`demo_words`, `demo_config`, `demo_file`, `DotIsPrinted`, `DotIsMissed`)**: the words
-- `--config - --resolution 26 --br-x 1 --br-y 1`, and the line of a flatbed with a page of two gray dots, 10 and 200,
-- at 26 dots per inch. Where the program of these words is given that line on standard input and has done what it was
-- asked for, it printed `P5`, the comment, `1 1`, `255`, a line each, and the byte 10, and nothing else. Where it has
-- read that line and ended otherwise, it came off without.
abbrev pub demo_words : List (List ℕ)
demo_words =
    codes "--config" ∷ codes "-" ∷ codes "--resolution" ∷ codes "26" ∷ codes "--br-x" ∷ codes "1" ∷ codes "--br-y"
    ∷ codes "1" ∷ []

abbrev pub demo_config : List ℕ
demo_config = codes "flatbed 0 26 hex:50350a3220310a3235350a0ac8\n"

abbrev pub demo_file : List ℕ
demo_file = codes "P5\n# SANE data follows\n1 1\n255\n" ++ 10 ∷ []

abbrev pub DotIsPrinted : Type 0
DotIsPrinted =
    (was now : ProgramState) → HasTakenNothing was → WasGivenText demo_config was.inputs now.inputs
    → HasRunFor demo_words was now → PrintsOnly demo_file was now

abbrev pub DotIsMissed : Type 0
DotIsMissed =
    (was now : ProgramState) (status : ℕ) (errors : Bool) → HasTakenNothing was
    → HasReadOnly demo_config was.inputs now.inputs → HasEndedAs demo_words status was now errors
    → CameOffWithout demo_file (no_first_line ∷ []) status now errors

-- **written (`DotIsWritten`)**: of what the program `program` writes by its record. The calls on standard output took
-- these bytes behind what they took before, and those on files took nothing.
abbrev pub DotIsWritten : Type 0
DotIsWritten =
    (read_was read_now : SeenInputs) (was now : TakenOutputs) → WasGivenText demo_config read_was read_now
    → IsWrittenFor demo_words read_was read_now was now
    → (now.out ≡ was.out ++ demo_file) × (now.named ≡ was.named) × (now.returned ≡ was.returned)
