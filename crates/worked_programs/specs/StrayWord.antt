-- A word that is no option.
use Rattle.std.specs.Prelude.{ℕ, ◌≡◌, ◌⊎◌, Bool, List, [], ◌∷◌, codes}
use Rattle.scanimage_cli.specs.HowEnded.{HasEndedAs}
use Rattle.scanimage_cli.specs.Whole.{HasRunFor, ProgramState}
use Rattle.worked_programs.specs.Begun.{HasTakenNothing, HoldsLine}

-- **a stray word (`stray_words`, `StrayIsNeverDone`, `StrayIsRefused`)**: the words `--config - stray` ask for nothing.
-- Whatever the inputs give, nothing is done. The exit status is 64, and standard error holds that the command line is
-- bad; or memory ran out, which is told as 10. Nothing was read, and no other output was touched.
abbrev pub stray_words : List (List ℕ)
stray_words = codes "--config" ∷ codes "-" ∷ codes "stray" ∷ []

abbrev pub stray_told : List ℕ
stray_told = codes "scanimage: bad command line\n"

abbrev pub no_memory_told : List ℕ
no_memory_told = codes "scanimage: SANE_STATUS_NO_MEM (memory)\n"

abbrev pub StrayIsNeverDone : Type 0
StrayIsNeverDone = (was now : ProgramState) → HasRunFor stray_words was now → ⊥

abbrev pub StrayIsRefused : Type 0
StrayIsRefused =
    (was now : ProgramState) (status : ℕ) (errors : Bool) → HasTakenNothing was
    → HasEndedAs stray_words status was now errors
    → (((status ≡ 64) × HoldsLine stray_told now errors) ⊎ ((status ≡ 10) × HoldsLine no_memory_told now errors))
    × (now.inputs ≡ was.inputs) × (now.outputs.out ≡ was.outputs.out) × (now.outputs.files ≡ was.outputs.files)
