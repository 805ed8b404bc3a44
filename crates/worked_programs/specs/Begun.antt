-- How a program begins in these uses, what is given to it, and how it may end without having done what was asked for.
use Rattle.std.specs.Prelude.{ℕ, ◌≡◌, ◌≢◌, Bool, true, false, Some, List, [], ◌∷◌, ◌++◌, Contains, codes}
use Rattle.config_pages.specs.InputTexts.{SeenInputs, text_read}
use Rattle.config_pages.specs.InputTexts.InputCall.{ReadText}
use Rattle.config_pages.specs.InputTexts.InputName.{StandardText}
use Rattle.scanimage_cli.specs.Whole.{ProgramState}

-- **begun (`HasTakenNothing`, `HasReadOnly`, `WasGivenText`)**: standard output and standard error tell, and took
-- nothing yet. The program was given a text on standard input: that text is there; or the record of the calls on the
-- inputs tells that this was read there, once, and nothing else.
pub record HasTakenNothing (was : ProgramState) : Type 0 where
  pub out : was.outputs.out ≡ Some []
  pub err : was.outputs.err ≡ Some []

-- the one call on the inputs read this text on standard input
pub record HasReadOnly (text : List ℕ) (was now : SeenInputs) : Type 0 where
  pub before : was.calls ≡ Some []
  pub behind : now.calls ≡ Some (ReadText (text_read StandardText 4194433 (Some text)) ∷ [])

pub data WasGivenText (text : List ℕ) (was now : SeenInputs) : Type 0 where
  IsThere : was.texts.standard ≡ Some text → WasGivenText text was now
  WasRead : HasReadOnly text was now → WasGivenText text was now

-- **printed alone (`PrintsOnly`)**: standard output took exactly these bytes, and standard error nothing. No other
-- output was touched, and no connection was asked for.
pub record PrintsOnly (text : List ℕ) (was now : ProgramState) : Type 0 where
  pub out : now.outputs.out ≡ Some text
  pub err : now.outputs.err ≡ Some []
  pub files : now.outputs.files ≡ was.outputs.files
  pub ports : now.ports ≡ was.ports

-- **not done (`TellsWant`, `HoldsLine`, `EndsInWant`, `CameOffWithout`)**: there was no memory, or none for a line of
-- the config, or it is noted that an output failed. The exit status is 10, 65 or 9, and this line tells it on standard
-- error, unless an output failed as it was told. Of a scan standard output then does not hold the text that was asked
-- for, not even with something behind it.
pub data TellsWant (of_lines : List (List ℕ)) (status : ℕ) (line : List ℕ) (failed : Bool) : Type 0 where
  OfMemory : status ≡ 10 → line ≡ codes "scanimage: SANE_STATUS_NO_MEM (memory)\n"
      → TellsWant of_lines status line failed
  OfLine : status ≡ 65 → Contains of_lines line → TellsWant of_lines status line failed
  OfOutput : status ≡ 9 → line ≡ codes "scanimage: SANE_STATUS_IO_ERROR (output)\n" → failed ≡ true
      → TellsWant of_lines status line failed

-- the lines that tell of no memory for a line of the config
abbrev pub no_first_line : List ℕ
no_first_line = codes "scanimage: config line 1: out of memory\n"

abbrev pub no_second_line : List ℕ
no_second_line = codes "scanimage: config line 2: out of memory\n"

-- standard error holds this line, unless an output failed as it was told
abbrev pub HoldsLine : List ℕ → ProgramState → Bool → Type 0
HoldsLine line now errors = errors ≡ false → now.outputs.err ≡ Some line

pub record EndsInWant (of_lines : List (List ℕ)) (status : ℕ) (now : ProgramState) (errors : Bool) : Type 0 where
  pub line : List ℕ
  pub why : TellsWant of_lines status line now.outputs.failed
  pub told : HoldsLine line now errors

pub record CameOffWithout (text : List ℕ) (of_lines : List (List ℕ)) (status : ℕ) (now : ProgramState) (errors : Bool)
    : Type 0 where
  pub want : EndsInWant of_lines status now errors
  pub no_file : (more : List ℕ) → now.outputs.out ≢ Some (text ++ more)
