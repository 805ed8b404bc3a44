-- The values that the program's words, which have long names and values behind `=`, give the options.
use Rattle.std.specs.Prelude.{ℕ, ◌≡◌, ◌≤◌, ◌+◌, ◌-◌, nat_lt, option_map, decimal, Bool, false, ◌||◌, ◌==◌}
use Rattle.std.specs.Prelude.{if◌then◌else◌, Option, Some, None, IfSome, List, [], ◌∷◌, All, length, take, drop}
use Rattle.std.specs.Str.{IsUtf8, bytes_eq}
use Rattle.scanimage_cli.specs.WordCut.{long_word, split_of}
use Rattle.scanimage_cli.specs.declared.options.Options.{Options}
use Rattle.scanimage_cli.specs.declared.program_option.ProgramOption.{ProgramOption}
use Rattle.scanimage_cli.specs.declared.program_option.ProgramOption.TheVariants.{ListDevices, AllOptions, DontScan}
use Rattle.scanimage_cli.specs.declared.program_option.ProgramOption.TheVariants.{DeviceName, OutputFile, Config, Net}
use Rattle.scanimage_cli.specs.declared.program_option.ProgramOption.TheVariants.{Port, DialFirst, User, PasswordFile}
use Rattle.scanimage_cli.specs.declared.program_option.ProgramOption.TheVariants.{Batch, BatchCount}
use Rattle.std.specs.Option.{option_or}

-- what follows `=`, where the bytes begin with it
abbrev pub after_equals : List ℕ → Option (List ℕ)
after_equals [] = None
after_equals (b ∷ value) = if b == 61 then Some value else None

-- the value, where the word is the name, `=` and a value
unfoldable pub value_after : List ℕ → List ℕ → Option (List ℕ)
value_after name word = if bytes_eq (take (length name) word) name then after_equals (drop (length name) word) else None

-- the value of the first word that gives the option one
abbrev pub program_option_value : ProgramOption → List (List ℕ) → Option (List ℕ)
program_option_value option [] = None
program_option_value option (word ∷ words) =
    option_or (value_after (long_word option) word) (program_option_value option words)

-- the flag is among the words
abbrev pub has_flag : ProgramOption → List (List ℕ) → Bool
has_flag option [] = false
has_flag option (word ∷ words) = bytes_eq word (long_word option) || has_flag option words

-- a decimal digit from 0 on up to this one, as a number
abbrev pub digit_to : ℕ → ℕ → Option ℕ
digit_to last b = if nat_lt b 48 || nat_lt last b then None else Some (b - 48)

-- the number of pages that a text names: 1 to 9, or 10 to 16
abbrev pub count_named : List ℕ → Option ℕ
count_named [] = None
count_named (d ∷ []) = if d == 48 then None else digit_to 57 d
count_named (d ∷ e ∷ []) = if d == 49 then option_map (λ n. 10 + n) (digit_to 54 e) else None
count_named (_ ∷ _ ∷ _ ∷ _) = None

-- a port that can be dialled
abbrev pub IsPort : ℕ → Type 0
IsPort port = (1 ≤ port) × (port ≤ 65535)

-- **the options' values (`AreScanimageOptions`, `HasNoOptions`)**: each option has the value that the program's words
-- give it; a port and a count the number whose decimal text that is. The words are UTF-8, and a port is 1 to 65,535.
pub record AreScanimageOptions (words : List (List ℕ)) (options : Options) : Type 0 where
  pub utf8 : All IsUtf8 words
  pub list_devices : options.list_devices ≡ has_flag ListDevices words
  pub all_options : options.all_options ≡ has_flag AllOptions words
  pub dont_scan : options.dont_scan ≡ has_flag DontScan words
  pub device_name : options.device_name ≡ program_option_value DeviceName words
  pub output_file : options.output_file ≡ program_option_value OutputFile words
  pub config : options.config ≡ program_option_value Config words
  pub net : options.net ≡ program_option_value Net words
  pub port : program_option_value Port words ≡ option_map decimal options.port
  pub range : IfSome options.port IsPort
  pub dial_first : options.dial_first ≡ has_flag DialFirst words
  pub user : options.user ≡ program_option_value User words
  pub password_file : options.password_file ≡ program_option_value PasswordFile words
  pub batch : options.batch ≡ has_flag Batch words
  pub batch_count : option_map count_named (program_option_value BatchCount words)
      ≡ option_map (λ count. Some count) options.batch_count

-- no options are those of a command line's own words, however it is split
abbrev pub HasNoOptions : List (List ℕ) → Type 0
HasNoOptions program = (words : List (List ℕ)) (settings : List (List ℕ × List ℕ)) (options : Options)
    → split_of words ≡ Some (program, settings) → AreScanimageOptions program options → ⊥
