-- A batch of two pages.
use Rattle.std.specs.Prelude.{ℕ, ◌≡◌, true, Some, List, [], ◌∷◌, ◌++◌, codes}
use Rattle.scan_job.specs.Shelves.{ReturnedOutput, Stock}
use Rattle.scanimage_cli.specs.Whole.{HasRunFor, ProgramState}
use Rattle.worked_programs.specs.Begun.{HasTakenNothing, WasGivenText}
use Rattle.worked_programs.specs.DemoDot.{demo_file, demo_words}
use Rattle.worked_programs.specs.SecondDot.{second_file}

-- **two are kept (`batch_words`, `tray_config`, `kept_file`, `KeepsTwo`, `TwoAreKept`)**: the words of `make demo` with
-- `-b --batch-count 2`, and the line of a feeder whose tray has three pages. Where the program has done what it was
-- asked for, the shelf was given back two files, numbers 1 and 2, of the first dots of the first two pages, and kept
-- both. No other output took anything.
abbrev pub batch_words : List (List ℕ)
batch_words = demo_words ++ codes "-b" ∷ codes "--batch-count" ∷ codes "2" ∷ []

abbrev pub tray_config : List ℕ
tray_config =
    codes "feeder 0 26 hex:50350a3220310a3235350a0ac8 hex:50350a3220310a3235350ac80a"
    ++ codes " hex:50350a3220310a3235350a0ac8\n"

abbrev pub kept_file : ℕ → List ℕ → ReturnedOutput
kept_file number text = record { number = number; text = Some text; kept = true }

pub record KeepsTwo (was now : ProgramState) : Type 0 where
  pub stock : Stock
  pub told : now.outputs.files.stock ≡ Some stock
  pub two : stock.taken ≡ kept_file 1 demo_file ∷ kept_file 2 second_file ∷ []
  pub named : now.outputs.files.named ≡ was.outputs.files.named
  pub out : now.outputs.out ≡ Some []
  pub err : now.outputs.err ≡ Some []
  pub ports : now.ports ≡ was.ports

abbrev pub TwoAreKept : Type 0
TwoAreKept =
    (was now : ProgramState) (number : ℕ) → HasTakenNothing was
    → was.outputs.files.stock ≡ Some (record { taken = []; number = number })
    → WasGivenText tray_config was.inputs now.inputs → HasRunFor batch_words was now → KeepsTwo was now
