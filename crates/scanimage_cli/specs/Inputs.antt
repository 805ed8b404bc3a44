-- The texts that scanimage reads.
use Rattle.std.specs.Prelude.{ℕ, ◌≡◌, ◌⊎◌, Option, Some, None, List, [], codes}
use Rattle.sane_fixed.specs.declared.status.Status.TheVariants.{NoMem}
use Rattle.scan_job.specs.declared.outcome.Why.TheVariants.{Memory}
use Rattle.dispatch.specs.ConfigLines.{HasConfigFault}
use Rattle.dispatch.specs.declared.config_line.ConfigLine.{ConfigLine}
use Rattle.config_pages.specs.InputTexts.{InputName, IsConfigRead, ReadsText, SeenInputs, text_read}
use Rattle.config_pages.specs.InputTexts.InputName.{StandardText, FileText}
use Rattle.scanimage_cli.specs.Password.{first_line_of}
use Rattle.scanimage_cli.specs.declared.ending.Ending.{Ending}
use Rattle.scanimage_cli.specs.declared.ending.Ending.TheVariants.{BadCommandLine, CannotRead, Config, Page, Ended}
use Rattle.scanimage_cli.specs.declared.planning.Input.{Input}
use Rattle.scanimage_cli.specs.declared.planning.Input.TheVariants.{StandardInput, Path}

-- what is named so was not read: for want of memory, or it cannot be
abbrev pub IsUnread : List ℕ → Ending → Type 0
IsUnread name ending = (ending ≡ Ended NoMem Memory) ⊎ (ending ≡ CannotRead name)

-- the fault of the first bad line of a config
abbrev pub IsLineRefusal : List ℕ → Ending → Type 0
IsLineRefusal text BadCommandLine = ⊥
IsLineRefusal text (CannotRead path) = ⊥
IsLineRefusal text (Config fault) = HasConfigFault text fault.line fault.reason
IsLineRefusal text (Page line why) = ⊥
IsLineRefusal text (Ended status why) = ⊥

-- **a text that is not taken (`IsUnread`, `RefusesNamedConfig`)**: nothing was read of it, since the file of that name
-- cannot be read, or for want of memory; a config also for the fault of the first bad line of what was read.
abbrev pub RefusesNamedConfig : List ℕ → Option (List ℕ) → Ending → Type 0
RefusesNamedConfig name None ending = IsUnread name ending
RefusesNamedConfig name (Some text) ending = IsLineRefusal text ending

-- where a named input is read
abbrev pub name_read : Input → InputName
name_read StandardInput = StandardText
name_read (Path path) = FileText path

-- the name by which it is told
abbrev pub name_of_input : Input → List ℕ
name_of_input StandardInput = codes "-"
name_of_input (Path path) = path

-- a config that is not taken was read once, where it is named
pub record RefusesConfigRead (input : Input) (was now : SeenInputs) (ending : Ending) : Type 0 where
  pub gave : Option (List ℕ)
  pub read : ReadsText (text_read (name_read input) 4194433 gave) was now
  pub why : RefusesNamedConfig (name_of_input input) gave ending

-- the first line of what was read of the file of that path
abbrev pub IsReadPassword : Option (List ℕ) → List ℕ → Type 0
IsReadPassword None password = ⊥
IsReadPassword (Some text) password = password ≡ first_line_of text

pub record IsPasswordRead (path : List ℕ) (was now : SeenInputs) (password : List ℕ) : Type 0 where
  pub text : List ℕ
  pub read : ReadsText (text_read (FileText path) 1026 (Some text)) was now
  pub line : password ≡ first_line_of text

pub record IsPasswordUnread (path : List ℕ) (was now : SeenInputs) (ending : Ending) : Type 0 where
  pub gave : Option (List ℕ)
  pub read : ReadsText (text_read (FileText path) 1026 gave) was now
  pub why : IsUnread path ending

-- **the config and the password that are named (`AreLinesOf`, `RefusesConfigAt`, `IsPasswordIn`, `IsUnreadAt`)**: the
-- lines of the text that was read there, once, or that it is not taken; the first line of the 1,026 bytes at most that
-- were read of the file, once, or that this is not read. If no config is named there are no lines, if no file is there
-- is an empty password, for which nothing is read and no memory wanted.
abbrev pub AreLinesOf : Option Input → SeenInputs → SeenInputs → List ConfigLine → Type 0
AreLinesOf None was now lines = (lines ≡ []) × (now ≡ was)
AreLinesOf (Some input) was now lines = IsConfigRead (name_read input) was now lines

abbrev pub RefusesConfigAt : Option Input → SeenInputs → SeenInputs → Ending → Type 0
RefusesConfigAt None was now ending = ⊥
RefusesConfigAt (Some input) was now ending = RefusesConfigRead input was now ending

abbrev pub IsPasswordIn : Option (List ℕ) → SeenInputs → SeenInputs → List ℕ → Type 0
IsPasswordIn None was now password = (password ≡ []) × (now ≡ was)
IsPasswordIn (Some path) was now password = IsPasswordRead path was now password

abbrev pub IsUnreadAt : Option (List ℕ) → SeenInputs → SeenInputs → Ending → Type 0
IsUnreadAt None was now ending = ⊥
IsUnreadAt (Some path) was now ending = IsPasswordUnread path was now ending
