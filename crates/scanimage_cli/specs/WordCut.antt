-- The words of scanimage's command line, and the one way to cut them from the left: into options of the program with
-- their values, measures of the window with their values, and settings.
use Rattle.std.specs.Prelude.{ℕ, ◌+◌, ◌^◌, ℤ, pos, negsuc, ◌+ℤ◌, nat_lt, Bool, true, false, ◌||◌, if◌then◌else◌, Option}
use Rattle.std.specs.Prelude.{Some, None, is_some, is_none, option_map, option_and_then, List, ◌∷◌, ◌++◌, take, drop}
use Rattle.std.specs.Prelude.{find, position, codes, nat_eq, []}
use Rattle.std.specs.Option.{option_map_or}
use Rattle.std.specs.List.{starts_with, filter_map}
use Rattle.std.specs.Str.{bytes_eq}
use Rattle.sane_fixed.specs.DecimalReading.{fixed_of, ◌>>=◌}
use Rattle.sane_fixed.specs.ExactDecimal.{exact_decimal}
use Rattle.scanimage_cli.specs.declared.program_option.ProgramOption.{ProgramOption}
use Rattle.scanimage_cli.specs.declared.program_option.ProgramOption.TheVariants.{ListDevices, AllOptions, DontScan}
use Rattle.scanimage_cli.specs.declared.program_option.ProgramOption.TheVariants.{DeviceName, OutputFile, Config, Net}
use Rattle.scanimage_cli.specs.declared.program_option.ProgramOption.TheVariants.{Port, DialFirst, User, PasswordFile}
use Rattle.scanimage_cli.specs.declared.program_option.ProgramOption.TheVariants.{Batch, BatchCount}
use Rattle.scanimage_cli.specs.declared.geometry.Geometry.{Geometry}
use Rattle.scanimage_cli.specs.declared.geometry.Geometry.TheVariants.{Left, Top, Width, Height}
use Rattle.scanimage_cli.specs.declared.split.Measures.{Measures}
use Rattle.scanimage_cli.specs.declared.word_cut.Item.{Item}
use Rattle.scanimage_cli.specs.declared.word_cut.Item.TheVariants.{Flag, Valued, Measured, Setting}
use Rattle.scanimage_cli.specs.declared.word_cut.AwaitedValue.{AwaitedValue}
use Rattle.scanimage_cli.specs.declared.word_cut.AwaitedValue.TheVariants.{ForOption, ForMeasure, ForSetting}
use Rattle.scanimage_cli.specs.declared.word_cut.WordPart.{WordPart}
use Rattle.scanimage_cli.specs.declared.word_cut.WordPart.TheVariants.{Whole, Awaits, Refused}
use Rattle.text_lines.specs.Words.{is_equals, is_empty}

-- ---- names

abbrev pub long_word : ProgramOption → List ℕ
long_word ListDevices = codes "--list-devices"
long_word AllOptions = codes "--all-options"
long_word DontScan = codes "--dont-scan"
long_word DeviceName = codes "--device-name"
long_word OutputFile = codes "--output-file"
long_word Config = codes "--config"
long_word Net = codes "--net"
long_word Port = codes "--port"
long_word DialFirst = codes "--dial-first"
long_word User = codes "--user"
long_word PasswordFile = codes "--password-file"
long_word Batch = codes "--batch"
long_word BatchCount = codes "--batch-count"

abbrev pub short_word : ProgramOption → Option (List ℕ)
short_word ListDevices = Some (codes "-L")
short_word AllOptions = Some (codes "-A")
short_word DontScan = Some (codes "-n")
short_word DeviceName = Some (codes "-d")
short_word OutputFile = Some (codes "-o")
short_word Config = None
short_word Net = None
short_word Port = None
short_word DialFirst = None
short_word User = None
short_word PasswordFile = None
short_word Batch = Some (codes "-b")
short_word BatchCount = None

-- it stands alone
abbrev pub is_flag : ProgramOption → Bool
is_flag ListDevices = true
is_flag AllOptions = true
is_flag DontScan = true
is_flag DeviceName = false
is_flag OutputFile = false
is_flag Config = false
is_flag Net = false
is_flag Port = false
is_flag DialFirst = true
is_flag User = false
is_flag PasswordFile = false
is_flag Batch = true
is_flag BatchCount = false

abbrev pub all_options : List ProgramOption
all_options =
    ListDevices ∷ AllOptions ∷ DontScan ∷ DeviceName ∷ OutputFile ∷ Config ∷ Net ∷ Port ∷ DialFirst ∷ User
    ∷ PasswordFile ∷ Batch ∷ BatchCount ∷ []

abbrev pub is_name_of : ProgramOption → List ℕ → Bool
is_name_of option word = bytes_eq word (long_word option) || option_map_or (bytes_eq word) (short_word option) false

-- the option that a word names
unfoldable pub option_named : List ℕ → Option ProgramOption
option_named word = find (λ option. is_name_of option word) all_options

-- the measure that a word names
abbrev pub geometry_named : List ℕ → Option Geometry
geometry_named word =
    if bytes_eq word (codes "-l") then Some Left
    else (if bytes_eq word (codes "-t") then Some Top
    else (if bytes_eq word (codes "-x") then Some Width
    else (if bytes_eq word (codes "-y") then Some Height else None)))

-- ---- one word

-- `--NAME=VALUE`: an option with its value, which is not empty, or a setting, whose name is not
abbrev pub pair_part : Option ProgramOption → List ℕ → List ℕ → WordPart
pair_part (Some option) name value = if is_flag option || is_empty value then Refused else Whole (Valued option value)
pair_part None name value = if is_empty name then Refused else Whole (Setting name value)

-- a word that begins with `--` and names no option, by the place of its first `=`: a name and a value, or a name
abbrev pub part_at_equals : Option ℕ → List ℕ → WordPart
part_at_equals (Some at) word = pair_part (option_named (take at word)) (drop 2 (take at word)) (drop (at + 1) word)
part_at_equals None word = if is_empty (drop 2 word) then Refused else Awaits (ForSetting (drop 2 word))

unfoldable pub long_part : List ℕ → WordPart
long_part word = part_at_equals (position is_equals word) word

abbrev pub other_part : Option Geometry → List ℕ → WordPart
other_part (Some geometry) word = Awaits (ForMeasure geometry)
other_part None word = if starts_with nat_eq word (codes "--") then long_part word else Refused

abbrev pub option_part : Option ProgramOption → List ℕ → WordPart
option_part (Some option) word = if is_flag option then Whole (Flag option) else Awaits (ForOption option)
option_part None word = other_part (geometry_named word) word

-- what a word is that is no value: an item, the first half of one, or refused
unfoldable pub part_of_word : List ℕ → WordPart
part_of_word word = option_part (option_named word) word

-- ---- two words, and all of them

-- the item that a value completes, whatever it begins with
unfoldable pub item_with : AwaitedValue → List ℕ → Option Item
item_with (ForOption option) value = if is_empty value then None else Some (Valued option value)
item_with (ForMeasure geometry) value = if is_some (fixed_of value) then Some (Measured geometry value) else None
item_with (ForSetting name) value = Some (Setting name value)

abbrev pub step_of_part : WordPart → Option (List Item × Option AwaitedValue)
step_of_part (Whole item) = Some (item ∷ [], None)
step_of_part (Awaits awaited) = Some ([], Some awaited)
step_of_part Refused = None

-- one word, where a value is awaited or not: the items that it completes, and what is awaited then
unfoldable pub cut_step : Option AwaitedValue → List ℕ → Option (List Item × Option AwaitedValue)
cut_step (Some awaited) word = option_map (λ item. (item ∷ [], None)) (item_with awaited word)
cut_step None word = step_of_part (part_of_word word)

-- all of the words; none where one is refused, or where a value is missing at the end
abbrev pub cut_from : Option AwaitedValue → List (List ℕ) → Option (List Item)
cut_from awaited [] = if is_none awaited then Some [] else None
cut_from awaited (word ∷ words) =
    option_and_then (λ step. option_map (λ more. step.0 ++ more) (cut_from step.1 words)) (cut_step awaited word)

-- **word cut (`cut`, `split_of`)**: the one way to cut the words of a command line from the left: a flag alone; an
-- option of the program with its value, in the next word or behind `=`; a measure (`-l -t -x -y`) with the next word;
-- any other `--NAME` with the next word or `--NAME=VALUE` as a setting. None where a word is anything else, a flag has
-- a value, a value is missing, a name or an option's value is empty, an option stands twice, a measure does not read as
-- a decimal number, or a far side is no 32-bit word. The settings are the named ones in their order, then tl-x, tl-y,
-- br-x, br-y of the last measures, `-x` and `-y` added to the last `-l` and `-t`.
abbrev pub cut : List (List ℕ) → Option (List Item)
cut words = cut_from None words

-- ---- what the pieces are

-- the option of the program that a piece is of
abbrev pub option_of : Item → Option ProgramOption
option_of (Flag option) = Some option
option_of (Valued option value) = Some option
option_of (Measured geometry value) = None
option_of (Setting name value) = None

abbrev pub is_option : ProgramOption → Option ProgramOption → Bool
is_option option None = false
is_option option (Some other) = bytes_eq (long_word option) (long_word other)

abbrev pub names_option : ProgramOption → List Item → Bool
names_option option [] = false
names_option option (item ∷ items) = is_option option (option_of item) || names_option option items

abbrev pub named_again : Option ProgramOption → List Item → Bool
named_again None items = false
named_again (Some option) items = names_option option items

-- an option of the program stands twice
abbrev pub repeats_option : List Item → Bool
repeats_option [] = false
repeats_option (item ∷ items) = named_again (option_of item) items || repeats_option items

-- the program's word of a piece, with a long name, a value behind `=`
abbrev pub program_word : Item → Option (List ℕ)
program_word (Flag option) = Some (long_word option)
program_word (Valued option value) = Some (long_word option ++ 61 ∷ value)
program_word (Measured geometry value) = None
program_word (Setting name value) = None

-- the setting that a piece names
abbrev pub named_setting : Item → Option (List ℕ × List ℕ)
named_setting (Flag option) = None
named_setting (Valued option value) = None
named_setting (Measured geometry value) = None
named_setting (Setting name value) = Some (name, value)

-- ---- the window's measures

-- the last of each is what counts
abbrev pub with_measure : Measures → Geometry → List ℕ → Measures
with_measure measures Left value = record measures { left = Some value }
with_measure measures Top value = record measures { top = Some value }
with_measure measures Width value = record measures { width = Some value }
with_measure measures Height value = record measures { height = Some value }

abbrev pub measures_with : Measures → Item → Measures
measures_with measures (Flag option) = measures
measures_with measures (Valued option value) = measures
measures_with measures (Measured geometry value) = with_measure measures geometry value
measures_with measures (Setting name value) = measures

abbrev pub measures_from : Measures → List Item → Measures
measures_from measures [] = measures
measures_from measures (item ∷ items) = measures_from (measures_with measures item) items

abbrev pub no_measures : Measures
no_measures = record { left = None; top = None; width = None; height = None }

-- a word of 32 bits
abbrev pub fits_word : ℤ → Bool
fits_word (pos n) = nat_lt n (2 ^ 31)
fits_word (negsuc n) = nat_lt n (2 ^ 31)

-- the text of a length, where it is a word
abbrev pub length_text : ℤ → Option (List ℕ)
length_text word = if fits_word word then Some (exact_decimal word) else None

-- where the window begins: at 0 unless it is said
abbrev pub start_word : Option (List ℕ) → Option ℤ
start_word None = Some (pos 0)
start_word (Some text) = fixed_of text

-- the far side: the start and the extent from there; none where a sum is no word
unfoldable pub far_text : Option (List ℕ) → List ℕ → Option (List ℕ)
far_text start extent =
    option_and_then (λ from. option_and_then (λ size. length_text (from +ℤ size)) (fixed_of extent)) (start_word start)

-- a far side, where its extent is said
abbrev pub far_side : Option (List ℕ) → Option (List ℕ) → Option (Option (List ℕ))
far_side start None = Some None
far_side start (Some extent) = option_map (λ text. Some text) (far_text start extent)

-- a setting, where it has a value
abbrev pub setting_of : List ℕ → Option (List ℕ) → List (List ℕ × List ℕ)
setting_of name None = []
setting_of name (Some value) = (name, value) ∷ []

-- the settings that the measures make, in the order of the corners
unfoldable pub window_settings : Measures → Option (List (List ℕ × List ℕ))
window_settings measures = do
  right ← far_side measures.left measures.width
  bottom ← far_side measures.top measures.height
  Some (setting_of (codes "tl-x") measures.left
      ++ (setting_of (codes "tl-y") measures.top
      ++ (setting_of (codes "br-x") right ++ setting_of (codes "br-y") bottom)))

-- ---- the split

-- the program's words and the settings: the named ones, and behind them the window's; none where the words cannot be
-- cut, where an option of the program stands twice, or where a far side is no word
unfoldable pub split_of : List (List ℕ) → Option (List (List ℕ) × List (List ℕ × List ℕ))
split_of words = do
  items ← cut words
  window ← window_settings (measures_from no_measures items)
  if repeats_option items then None else Some (filter_map program_word items, filter_map named_setting items ++ window)
