-- A dot whose file `-o` names.
use Rattle.std.specs.Prelude.{ℕ, ◌≡◌, ◌≢◌, Bool, Some, List, [], ◌∷◌, ◌++◌, codes}
use Rattle.scanimage_cli.specs.HowEnded.{HasEndedAs}
use Rattle.scanimage_cli.specs.Whole.{HasRunFor, ProgramState}
use Rattle.worked_programs.specs.Begun.{EndsInWant, HasReadOnly, HasTakenNothing, WasGivenText, no_first_line}
use Rattle.worked_programs.specs.DemoDot.{demo_config, demo_file, demo_words}

-- **a dot is filed (`file_words`, `named_dot`, `FilesOnly`, `DotIsFiled`, `DotIsUnfiled`)**: the words of `make demo`
-- with `-o dot.pnm`. Where the program has done what it was asked for, one file was named, `dot.pnm`, and took exactly
-- the bytes that `make demo` prints. In the record of the named files 258 stands for one that was named, and its name
-- between 256 and 257. Standard output and standard error took nothing. Else the program tells what it lacked, and no
-- file of that name holds those bytes, not even with something behind them.
abbrev pub file_words : List (List ℕ)
file_words = demo_words ++ codes "-o" ∷ codes "dot.pnm" ∷ []

abbrev pub named_dot : List ℕ
named_dot = 258 ∷ 256 ∷ codes "dot.pnm" ++ (257 ∷ demo_file)

pub record FilesOnly (was now : ProgramState) : Type 0 where
  pub named : now.outputs.files.named ≡ Some named_dot
  pub stock : now.outputs.files.stock ≡ was.outputs.files.stock
  pub out : now.outputs.out ≡ Some []
  pub err : now.outputs.err ≡ Some []
  pub ports : now.ports ≡ was.ports

abbrev pub DotIsFiled : Type 0
DotIsFiled =
    (was now : ProgramState) → HasTakenNothing was → was.outputs.files.named ≡ Some []
    → WasGivenText demo_config was.inputs now.inputs → HasRunFor file_words was now → FilesOnly was now

abbrev pub DotIsUnfiled : Type 0
DotIsUnfiled =
    (was now : ProgramState) (status : ℕ) (errors : Bool) → HasTakenNothing was → was.outputs.files.named ≡ Some []
    → HasReadOnly demo_config was.inputs now.inputs → HasEndedAs file_words status was now errors
    → EndsInWant (no_first_line ∷ []) status now errors
    × ((more : List ℕ) → now.outputs.files.named ≢ Some (named_dot ++ more))
