-- What `clap` makes of all pieces of the words: it takes them, and has a row for each option that stands among them.
use Rattle.std.proofs.Common.{◌≡◌, ◌∙◌, Bool, true, false, ◌&&◌, List, [], ◌∷◌, ◌++◌, Option, Some, None, refl, sym, ap, ap₂}
use Rattle.std.specs.Prelude.{⊤, codes, fold}
use Rattle.std.specs.List.{filter_map, list_all}
use Rattle.std.specs.Str.{bytes_eq}
use Rattle.std.proofs.lemmas.List.{append-nil, append_assoc}
use Rattle.std.proofs.lemmas.List.Folds.{list_any-append}
use Rattle.std.proofs.lemmas.Slice.Eq.{bytes_eq-Decides}
use Rattle.clap.specs.Walk.{Row, Text, Walk, finished, has_row, nothing_held, walked}
use Rattle.clap.specs.Simple.{built, matches_of}
use Rattle.clap.specs.Takes.{default_passes, is_valid, level_passes, settle_passes, takes, turn_passes, values_pass, walk_passes}
use Rattle.clap.proofs.TakesLemmas.{leaf_takes}
use Rattle.scanimage_cli.specs.KnownOptions.{name_of, scanimage_app}
use Rattle.scanimage_cli.specs.WordCut.{is_flag, long_word, names_option, option_named, program_word, repeats_option}
use Rattle.scanimage_cli.specs.declared.program_option.ProgramOption.{ProgramOption}
use Rattle.scanimage_cli.specs.declared.program_option.ProgramOption.TheVariants.{ListDevices, AllOptions, DontScan, DeviceName, OutputFile, Config, Net, Port, DialFirst, User, PasswordFile, Batch, BatchCount}
use Rattle.scanimage_cli.specs.declared.word_cut.Item.{Item}
use Rattle.scanimage_cli.specs.declared.word_cut.Item.TheVariants.{Flag, Valued, Measured, Setting}
use Rattle.scanimage_cli.proofs.ClapWalk.{at, flag_row, flag_step, flag_turn, neither_of, row_of_option, rule_of_option, top, value_row, value_step, value_turn}

-- ---- names

dashes : (option : ProgramOption) → long_word option ≡ 45 ∷ 45 ∷ name_of option
dashes ListDevices = refl
dashes AllOptions = refl
dashes DontScan = refl
dashes DeviceName = refl
dashes OutputFile = refl
dashes Config = refl
dashes Net = refl
dashes Port = refl
dashes DialFirst = refl
dashes User = refl
dashes PasswordFile = refl
dashes Batch = refl
dashes BatchCount = refl

pub same_name : (option other : ProgramOption) → bytes_eq (long_word option) (long_word other) ≡ bytes_eq (name_of option) (name_of other)
same_name option other = ap₂ bytes_eq (dashes option) (dashes other)

named_by_itself : (option : ProgramOption) → option_named (long_word option) ≡ Some option
unfolding option_named
named_by_itself ListDevices = refl
named_by_itself AllOptions = refl
named_by_itself DontScan = refl
named_by_itself DeviceName = refl
named_by_itself OutputFile = refl
named_by_itself Config = refl
named_by_itself Net = refl
named_by_itself Port = refl
named_by_itself DialFirst = refl
named_by_itself User = refl
named_by_itself PasswordFile = refl
named_by_itself Batch = refl
named_by_itself BatchCount = refl

abbrev option_or_first : Option ProgramOption → ProgramOption
option_or_first None = ListDevices
option_or_first (Some option) = option

pub same_option : (option other : ProgramOption) → bytes_eq (long_word option) (long_word other) ≡ true → option ≡ other
same_option option other is =
    let words : long_word option ≡ long_word other = (bytes_eq-Decides _ _).0 is in
    ap option_or_first (sym (named_by_itself option) ∙ (ap option_named words ∙ named_by_itself other))

pub its_own : (option : ProgramOption) → bytes_eq (long_word option) (long_word option) ≡ true
its_own option = (bytes_eq-Decides (long_word option) (long_word option)).1 refl

-- ---- rows

pub row_more : (id : Text) (rows : List Row) (row : Row) → has_row id rows ≡ false → bytes_eq row.id id ≡ false → has_row id (rows ++ row ∷ []) ≡ false
row_more id rows row none other = list_any-append (λ (r : Row). bytes_eq r.id id) rows (row ∷ []) ∙ rw (none, other) refl

abbrev pub item_row : Item → Option Row
item_row (Flag option) = Some (row_of_option option (codes "true" ∷ []))
item_row (Valued option value) = Some (row_of_option option (value ∷ []))
item_row (Measured geometry value) = None
item_row (Setting name value) = None

-- `clap` takes the piece: a flag alone, or a value that its option takes
abbrev pub IsTaken : Item → Type 0
IsTaken (Flag option) = is_flag option ≡ true
IsTaken (Valued option value) = (is_flag option ≡ false) × (values_pass (rule_of_option option) (value ∷ []) ≡ true)
IsTaken (Measured geometry value) = ⊤
IsTaken (Setting name value) = ⊤

abbrev pub AreTaken : List Item → Type 0
AreTaken [] = ⊤
AreTaken (item ∷ items) = IsTaken item × AreTaken items

abbrev IsNew : List Row → Item → Type 0
IsNew rows (Flag option) = has_row (name_of option) rows ≡ false
IsNew rows (Valued option value) = has_row (name_of option) rows ≡ false
IsNew rows (Measured geometry value) = ⊤
IsNew rows (Setting name value) = ⊤

abbrev AreNew : List Row → List Item → Type 0
AreNew rows [] = ⊤
AreNew rows (item ∷ items) = IsNew rows item × AreNew rows items

all_new : (items : List Item) → AreNew [] items
all_new [] = tt
all_new (Flag option ∷ items) = (refl, all_new items)
all_new (Valued option value ∷ items) = (refl, all_new items)
all_new (Measured geometry value ∷ items) = (tt, all_new items)
all_new (Setting name value ∷ items) = (tt, all_new items)

still_new : (option : ProgramOption) (values : List Text) (rows : List Row) (items : List Item) → names_option option items ≡ false → AreNew rows items
    → AreNew (rows ++ row_of_option option values ∷ []) items
still_new option values rows [] named new = tt
still_new option values rows (Flag other ∷ items) named new =
    let p = neither_of (bytes_eq (long_word option) (long_word other)) (names_option option items) named in
    (row_more (name_of other) rows (row_of_option option values) new.0 (sym (same_name option other) ∙ p.0), still_new option values rows items p.1 new.1)
still_new option values rows (Valued other value ∷ items) named new =
    let p = neither_of (bytes_eq (long_word option) (long_word other)) (names_option option items) named in
    (row_more (name_of other) rows (row_of_option option values) new.0 (sym (same_name option other) ∙ p.0), still_new option values rows items p.1 new.1)
still_new option values rows (Measured geometry value ∷ items) named new = (tt, still_new option values rows items named new.1)
still_new option values rows (Setting name value ∷ items) named new = (tt, still_new option values rows items named new.1)

-- ---- the walk over all pieces

record IsWalked (rows : List Row) (items : List Item) : Type 0 where
  passes : walk_passes top [] (at rows) (filter_map program_word items) ≡ true
  walked_is : fold (walked top.rules []) (at rows) (filter_map program_word items) ≡ at (rows ++ filter_map item_row items)

and_both : (a b : Bool) → a ≡ true → b ≡ true → (a && b) ≡ true
and_both a b one two = rw (one, two) refl

one_more : (word : Text) (row : Row) (rows more : List Row) (words : List Text) → turn_passes top [] (at rows) word ≡ true
    → walked top.rules [] (at rows) word ≡ at (rows ++ row ∷ [])
    → walk_passes top [] (at (rows ++ row ∷ [])) words ≡ true → fold (walked top.rules []) (at (rows ++ row ∷ [])) words ≡ at ((rows ++ row ∷ []) ++ more)
    → (walk_passes top [] (at rows) (word ∷ words) ≡ true) × (fold (walked top.rules []) (at rows) (word ∷ words) ≡ at (rows ++ row ∷ more))
unfolding walk_passes
one_more word row rows more words turn step passes rest = (
  and_both _ _ turn (ap (λ (w : Walk). walk_passes top [] w words) step ∙ passes),
  ap (λ (w : Walk). fold (walked top.rules []) w words) step ∙ (rest ∙ ap at (append_assoc rows (row ∷ []) more)),
)

walks : (items : List Item) (rows : List Row) → AreTaken items → AreNew rows items → repeats_option items ≡ false → IsWalked rows items
unfolding walk_passes
walks [] rows taken new once = record { passes = refl; walked_is = ap at (sym (append-nil rows)) }
walks (Flag option ∷ items) rows taken new once =
    let p = neither_of (names_option option items) (repeats_option items) once in
    let row = row_of_option option (codes "true" ∷ []) in
    let step = flag_step option rows taken.0 ∙ ap at (flag_row option rows taken.0 new.0) in
    let more = walks items (rows ++ row ∷ []) taken.1 (still_new option (codes "true" ∷ []) rows items p.0 new.1) p.1 in
    let all = one_more (long_word option) row rows (filter_map item_row items) (filter_map program_word items)
    (flag_turn option rows taken.0 new.0) step more.passes more.walked_is in
    record { passes = all.0; walked_is = all.1 }
walks (Valued option value ∷ items) rows taken new once =
    let p = neither_of (names_option option items) (repeats_option items) once in
    let row = row_of_option option (value ∷ []) in
    let step = value_step option value rows taken.0.0 ∙ ap at (value_row option value rows taken.0.0 new.0) in
    let more = walks items (rows ++ row ∷ []) taken.1 (still_new option (value ∷ []) rows items p.0 new.1) p.1 in
    let all = one_more (long_word option ++ 61 ∷ value) row rows (filter_map item_row items) (filter_map program_word items)
    (value_turn option value rows taken.0.0 new.0 taken.0.1) step more.passes more.walked_is in
    record { passes = all.0; walked_is = all.1 }
walks (Measured geometry value ∷ items) rows taken new once =
    let more = walks items rows taken.1 new.1 once in
    record { passes = more.passes; walked_is = more.walked_is }
walks (Setting name value ∷ items) rows taken new once =
    let more = walks items rows taken.1 new.1 once in
    record { passes = more.passes; walked_is = more.walked_is }

-- ---- what a parse makes of them

abbrev pub all_words : List Item → List Text
all_words items = codes "scanimage" ∷ filter_map program_word items

ends_well : (rows : List Row)
    → (settle_passes top.rules top.args_override_self (at rows).held &&
    (list_all default_passes top.rules && is_valid top (finished top.rules (at rows).held) false)) ≡ true
ends_well rows = refl

level : (items : List Item) → AreTaken items → repeats_option items ≡ false → level_passes top [] nothing_held (filter_map program_word items) false ≡ true
level items taken once =
    let walk = walks items [] taken (all_new items) once in
    and_both _ _ walk.passes
    (ap (λ (w : Walk). settle_passes top.rules top.args_override_self w.held &&
    (list_all default_passes top.rules && is_valid top (finished top.rules w.held) false)) walk.walked_is
    ∙ ends_well (filter_map item_row items))

pub program_taken : (items : List Item) → AreTaken items → repeats_option items ≡ false → takes scanimage_app (all_words items) ≡ true
program_taken items taken once = leaf_takes (built scanimage_app) nothing_held (filter_map program_word items) refl (level items taken once)

pub program_matches : (items : List Item) → AreTaken items → repeats_option items ≡ false
    → matches_of scanimage_app (all_words items) ≡ finished top.rules (at (filter_map item_row items)).held
program_matches items taken once = ap (λ (w : Walk). finished top.rules w.held) (walks items [] taken (all_new items) once).walked_is
