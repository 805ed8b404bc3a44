-- What `clap` makes of the program's words, one after another.
use Rattle.std.proofs.Common.{◌≡◌, ◌∙◌, Bool, true, false, ◌||◌, List, [], ◌∷◌, ◌++◌, Some, None, refl, sym, ap, true≢false}
use Rattle.std.specs.Prelude.{codes}
use Rattle.std.specs.Str.{bytes_eq}
use Rattle.clap.specs.Walk.{Row, Rule, Text, Walk, at_row, has_row, more_values, reading_by, used, walk_from, walked, with_values, without}
use Rattle.std.proofs.lemmas.List.{append-nil}
use Rattle.clap.specs.declared.builder.value_parser.Reading.{Reading}
use Rattle.clap.specs.declared.parser.matches.ValueSource.{ValueSource}
use Rattle.clap.specs.declared.parser.matches.ValueSource.TheVariants.{CommandLine}
use Rattle.clap.specs.Simple.{Shape, built, filled, is_simple}
use Rattle.clap.specs.Takes.{turn_passes, values_pass}
use Rattle.clap.proofs.OnLiterals.{clap_on_literals}
use Rattle.scanimage_cli.specs.KnownOptions.{name_of, rule_named, scanimage_app}
use Rattle.scanimage_cli.specs.WordCut.{is_flag, long_word}
use Rattle.scanimage_cli.specs.declared.options.OptionValue.{OptionValue}
use Rattle.scanimage_cli.specs.declared.options.OptionValue.TheVariants as values
use Rattle.scanimage_cli.specs.declared.program_option.ProgramOption.{ProgramOption}
use Rattle.scanimage_cli.specs.declared.program_option.ProgramOption.TheVariants.{ListDevices, AllOptions, DontScan, DeviceName, OutputFile, Config, Net, Port, DialFirst, User, PasswordFile, Batch, BatchCount}

is_simple_app : is_simple scanimage_app ≡ true
is_simple_app = refl

abbrev pub top : Shape
top = (built scanimage_app).top

-- what stands behind an option's name
abbrev pub value_of : ProgramOption → OptionValue
value_of ListDevices = values.None
value_of AllOptions = values.None
value_of DontScan = values.None
value_of DeviceName = values.Text
value_of OutputFile = values.Text
value_of Config = values.Text
value_of Net = values.Text
value_of Port = values.Port
value_of DialFirst = values.None
value_of User = values.Text
value_of PasswordFile = values.Text
value_of Batch = values.None
value_of BatchCount = values.Count

abbrev pub rule_of_option : ProgramOption → Rule
rule_of_option option = filled (rule_named (name_of option) (value_of option))

-- where the walk stands between two words, with these rows
abbrev pub at : List Row → Walk
at rows = walk_from (record { rows = rows; pending = None; skip = 0 })

pub neither_of : (a b : Bool) → (a || b) ≡ false → (a ≡ false) × (b ≡ false)
neither_of true b is = absurd (true≢false is)
neither_of false b is = (refl, is)

-- ---- one word

pub flag_step : (option : ProgramOption) (rows : List Row) → is_flag option ≡ true
    → walked top.rules [] (at rows) (long_word option) ≡ at (used (rule_of_option option) [] rows)
unfolding clap_on_literals
flag_step ListDevices rows is = refl
flag_step AllOptions rows is = refl
flag_step DontScan rows is = refl
flag_step DeviceName rows is = absurd (true≢false (sym is))
flag_step OutputFile rows is = absurd (true≢false (sym is))
flag_step Config rows is = absurd (true≢false (sym is))
flag_step Net rows is = absurd (true≢false (sym is))
flag_step Port rows is = absurd (true≢false (sym is))
flag_step DialFirst rows is = refl
flag_step User rows is = absurd (true≢false (sym is))
flag_step PasswordFile rows is = absurd (true≢false (sym is))
flag_step Batch rows is = refl
flag_step BatchCount rows is = absurd (true≢false (sym is))

pub value_step : (option : ProgramOption) (value : Text) (rows : List Row) → is_flag option ≡ false
    → walked top.rules [] (at rows) (long_word option ++ 61 ∷ value) ≡ at (used (rule_of_option option) (value ∷ []) rows)
unfolding clap_on_literals
value_step ListDevices value rows is = absurd (true≢false is)
value_step AllOptions value rows is = absurd (true≢false is)
value_step DontScan value rows is = absurd (true≢false is)
value_step DeviceName value rows is = refl
value_step OutputFile value rows is = refl
value_step Config value rows is = refl
value_step Net value rows is = refl
value_step Port value rows is = refl
value_step DialFirst value rows is = absurd (true≢false is)
value_step User value rows is = refl
value_step PasswordFile value rows is = refl
value_step Batch value rows is = absurd (true≢false is)
value_step BatchCount value rows is = refl

-- a flag that has no row yet passes, and a value that its option takes
pub flag_turn : (option : ProgramOption) (rows : List Row) → is_flag option ≡ true → has_row (name_of option) rows ≡ false
    → turn_passes top [] (at rows) (long_word option) ≡ true
unfolding clap_on_literals
flag_turn ListDevices rows is new = rw new refl
flag_turn AllOptions rows is new = rw new refl
flag_turn DontScan rows is new = rw new refl
flag_turn DeviceName rows is new = absurd (true≢false (sym is))
flag_turn OutputFile rows is new = absurd (true≢false (sym is))
flag_turn Config rows is new = absurd (true≢false (sym is))
flag_turn Net rows is new = absurd (true≢false (sym is))
flag_turn Port rows is new = absurd (true≢false (sym is))
flag_turn DialFirst rows is new = rw new refl
flag_turn User rows is new = absurd (true≢false (sym is))
flag_turn PasswordFile rows is new = absurd (true≢false (sym is))
flag_turn Batch rows is new = rw new refl
flag_turn BatchCount rows is new = absurd (true≢false (sym is))

pub value_turn : (option : ProgramOption) (value : Text) (rows : List Row) → is_flag option ≡ false → has_row (name_of option) rows ≡ false
    → values_pass (rule_of_option option) (value ∷ []) ≡ true
    → turn_passes top [] (at rows) (long_word option ++ 61 ∷ value) ≡ true
unfolding clap_on_literals
value_turn ListDevices value rows is new fits = absurd (true≢false is)
value_turn AllOptions value rows is new fits = absurd (true≢false is)
value_turn DontScan value rows is new fits = absurd (true≢false is)
value_turn DeviceName value rows is new fits = rw new refl
value_turn OutputFile value rows is new fits = rw new refl
value_turn Config value rows is new fits = rw new refl
value_turn Net value rows is new fits = rw new refl
value_turn Port value rows is new fits = rw (new, fits) refl
value_turn DialFirst value rows is new fits = absurd (true≢false is)
value_turn User value rows is new fits = rw new refl
value_turn PasswordFile value rows is new fits = rw new refl
value_turn Batch value rows is new fits = absurd (true≢false is)
value_turn BatchCount value rows is new fits = rw (new, fits) refl

-- ---- its row

pub without_none : (id : Text) (change : Row → List Row) (missing rows : List Row) → has_row id rows ≡ false
    → at_row id change missing rows ≡ rows ++ missing
without_none id change missing [] none = refl
without_none id change missing (r ∷ rows) none =
    let p = neither_of (bytes_eq r.id id) (has_row id rows) none in
    rw p.0 (ap (λ more. r ∷ more) (without_none id change missing rows p.1))

new_row : (id : Text) (how : Reading) (source : ValueSource) (values : List Text) (rows : List Row) → has_row id rows ≡ false
    → with_values id how source values
    (without id rows) ≡ rows ++ record { id = id; values = values; count = None; source = Some source; reading = how } ∷ []
new_row id how source values rows none =
    let same : without id rows ≡ rows = without_none id (λ _. []) [] rows none ∙ append-nil rows in
    ap (with_values id how source values) same ∙ without_none id (more_values source values) _ rows none

-- the row of an option that stands among the words
abbrev pub row_of_option : ProgramOption → List Text → Row
row_of_option option values =
    record { id = name_of option; values = values; count = None; source = Some CommandLine; reading = reading_by (rule_of_option option) }

pub flag_row : (option : ProgramOption) (rows : List Row) → is_flag option ≡ true → has_row (name_of option) rows ≡ false
    → used (rule_of_option option) [] rows ≡ rows ++ row_of_option option (codes "true" ∷ []) ∷ []
flag_row ListDevices rows is none = new_row _ _ _ _ rows none
flag_row AllOptions rows is none = new_row _ _ _ _ rows none
flag_row DontScan rows is none = new_row _ _ _ _ rows none
flag_row DeviceName rows is none = absurd (true≢false (sym is))
flag_row OutputFile rows is none = absurd (true≢false (sym is))
flag_row Config rows is none = absurd (true≢false (sym is))
flag_row Net rows is none = absurd (true≢false (sym is))
flag_row Port rows is none = absurd (true≢false (sym is))
flag_row DialFirst rows is none = new_row _ _ _ _ rows none
flag_row User rows is none = absurd (true≢false (sym is))
flag_row PasswordFile rows is none = absurd (true≢false (sym is))
flag_row Batch rows is none = new_row _ _ _ _ rows none
flag_row BatchCount rows is none = absurd (true≢false (sym is))

pub value_row : (option : ProgramOption) (value : Text) (rows : List Row) → is_flag option ≡ false → has_row (name_of option) rows ≡ false
    → used (rule_of_option option) (value ∷ []) rows ≡ rows ++ row_of_option option (value ∷ []) ∷ []
value_row ListDevices value rows is none = absurd (true≢false is)
value_row AllOptions value rows is none = absurd (true≢false is)
value_row DontScan value rows is none = absurd (true≢false is)
value_row DeviceName value rows is none = new_row _ _ _ _ rows none
value_row OutputFile value rows is none = new_row _ _ _ _ rows none
value_row Config value rows is none = new_row _ _ _ _ rows none
value_row Net value rows is none = new_row _ _ _ _ rows none
value_row Port value rows is none = new_row _ _ _ _ rows none
value_row DialFirst value rows is none = absurd (true≢false is)
value_row User value rows is none = new_row _ _ _ _ rows none
value_row PasswordFile value rows is none = new_row _ _ _ _ rows none
value_row Batch value rows is none = absurd (true≢false is)
value_row BatchCount value rows is none = new_row _ _ _ _ rows none
