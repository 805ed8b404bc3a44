-- The values of the program's options in the pieces that its words are cut into.
use Rattle.std.specs.Prelude.{ℕ, ◌≡◌, Bool, false, ◌||◌, if◌then◌else◌, Option, Some, None, List, [], ◌∷◌}
use Rattle.scanimage_cli.specs.WordCut.{is_option, cut}
use Rattle.scanimage_cli.specs.ScanimageOptions.{program_option_value, has_flag}
use Rattle.scanimage_cli.specs.declared.program_option.ProgramOption.{ProgramOption}
use Rattle.scanimage_cli.specs.declared.word_cut.Item.{Item}
use Rattle.scanimage_cli.specs.declared.word_cut.Item.TheVariants.{Flag, Valued, Measured, Setting}
use Rattle.std.specs.Option.{option_or}

-- the value that a piece gives the option
abbrev pub item_value_of : ProgramOption → Item → Option (List ℕ)
item_value_of option (Flag other) = None
item_value_of option (Valued other value) = if is_option other (Some option) then Some value else None
item_value_of option (Measured geometry value) = None
item_value_of option (Setting name value) = None

-- the piece is the flag
abbrev pub is_flag_in : ProgramOption → Item → Bool
is_flag_in option (Flag other) = is_option other (Some option)
is_flag_in option (Valued other value) = false
is_flag_in option (Measured geometry value) = false
is_flag_in option (Setting name value) = false

-- **options of the cut (`value_given`, `is_flag_given`, `IsOfTheCut`)**: the value of the first piece that is the
-- option with one; the flag stands among the pieces. What the options take from the program's words is what the pieces
-- of the same cut give them.
abbrev pub value_given : ProgramOption → List Item → Option (List ℕ)
value_given option [] = None
value_given option (item ∷ items) = option_or (item_value_of option item) (value_given option items)

-- the flag is among the pieces
abbrev pub is_flag_given : ProgramOption → List Item → Bool
is_flag_given option [] = false
is_flag_given option (item ∷ items) = is_flag_in option item || is_flag_given option items

-- what the options take from the program's words is what the pieces give them
pub record GivesTheSame (items : List Item) (program : List (List ℕ)) : Type 0 where
  pub values : (option : ProgramOption) → program_option_value option program ≡ value_given option items
  pub flags : (option : ProgramOption) → has_flag option program ≡ is_flag_given option items

-- the words are cut into pieces that give the options what they take from the program's words
abbrev pub IsOfTheCut : List (List ℕ) → List (List ℕ) → Type 0
IsOfTheCut words program = (items : List Item) × (cut words ≡ Some items) × GivesTheSame items program
