-- The options of scanimage as `clap` knows them.
use Rattle.std.specs.Prelude.{ℕ, ◌≡◌, pos, Bool, true, false, Some, option_map, List, [], ◌∷◌, codes, drop}
use Rattle.std.specs.Borrow.{Bor}
use Rattle.clap.specs.Words.{App, Rule, first_value, new_app, new_rule, one_text, with_rule, without_minus}
use Rattle.clap.specs.declared.parser.matches.Found.{Found}
use Rattle.clap.specs.declared.builder.action.ArgAction.TheVariants.{Set, SetTrue}
use Rattle.clap.specs.declared.builder.value_parser.ValueParser.TheVariants.{Signed}
use Rattle.scanimage_cli.specs.ScanimageOptions.{has_flag, program_option_value}
use Rattle.scanimage_cli.specs.WordCut.{is_flag, long_word}
use Rattle.scanimage_cli.specs.declared.options.OptionValue.{OptionValue}
use Rattle.scanimage_cli.specs.declared.options.OptionValue.TheVariants as values
use Rattle.scanimage_cli.specs.declared.program_option.ProgramOption.{ProgramOption}
use Rattle.scanimage_cli.specs.declared.program_option.ProgramOption.TheVariants.{Port, BatchCount}

-- an option by its name, and what stands behind that
abbrev pub rule_named : List ℕ → OptionValue → Rule
rule_named name values.None = record (new_rule name) { long = Some name; action = Some SetTrue }
rule_named name values.Text = record (new_rule name) { long = Some name; action = Some Set }
rule_named name values.Port =
    record (new_rule name) { long = Some name; action = Some Set; parser = Some (Signed (pos 1) (pos 65535)) }
rule_named name values.Count =
    record (new_rule name) { long = Some name; action = Some Set; parser = Some (Signed (pos 1) (pos 16)) }

-- an option as it stands in the table
abbrev pub seen_option : Bor (List ℕ) × OptionValue → List ℕ × OptionValue
seen_option option = (option.0.now, option.1)

-- with these options behind those that it has
abbrev pub with_options : App → List (List ℕ × OptionValue) → App
with_options app [] = app
with_options app (option ∷ options) = with_options (with_rule app (rule_named option.0 option.1)) options

-- **the options as `clap` knows them (`known_options`, `scanimage_app`)**: the long name of each, in this order, and
-- what stands behind it: nothing, a text, a port or a count of pages.
abbrev pub known_options : List (List ℕ × OptionValue)
known_options =
    (codes "list-devices", values.None) ∷ (codes "all-options", values.None) ∷ (codes "dont-scan", values.None)
    ∷ (codes "device-name", values.Text) ∷ (codes "output-file", values.Text) ∷ (codes "config", values.Text)
    ∷ (codes "net", values.Text) ∷ (codes "port", values.Port) ∷ (codes "dial-first", values.None)
    ∷ (codes "user", values.Text) ∷ (codes "password-file", values.Text) ∷ (codes "batch", values.None)
    ∷ (codes "batch-count", values.Count) ∷ []

abbrev pub scanimage_app : App
scanimage_app = with_options (new_app (codes "scanimage")) known_options

-- how a flag is told
abbrev pub flag_word : Bool → List ℕ
flag_word true = codes "true"
flag_word false = codes "false"

-- the name by which `clap` knows an option
abbrev pub name_of : ProgramOption → List ℕ
name_of option = drop 2 (long_word option)

-- what `clap` found of each option is what the words say: the flag, or the value, as a text or, of a port and a count,
-- as a number is read
pub record IsFoundOf (words : List (List ℕ)) (found : Found) : Type 0 where
  pub flags : (option : ProgramOption) → is_flag option ≡ true
      → one_text found (name_of option) ≡ Some (flag_word (has_flag option words))
  pub values_are : (option : ProgramOption) → is_flag option ≡ false
      → first_value found (name_of option) ≡ program_option_value option words
  pub port : one_text found (codes "port") ≡ option_map without_minus (program_option_value Port words)
  pub count : one_text found (codes "batch-count")
      ≡ option_map without_minus (program_option_value BatchCount words)
