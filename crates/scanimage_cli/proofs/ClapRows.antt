-- What the rows of a parse have for each option.
use Rattle.std.proofs.Common.{◌≡◌, ◌∙◌, Bool, true, false, ◌||◌, List, [], ◌∷◌, Option, Some, None, refl, sym, ap, subst, true≢false, map}
use Rattle.std.specs.Prelude.{codes, cond, find, fold, if◌then◌else◌, option_and_then, option_map, slice_get}
use Rattle.std.specs.List.{filter_map}
use Rattle.std.specs.Option.{option_or}
use Rattle.std.specs.Str.{bytes_eq}
use Rattle.std.specs.Borrow.{Bor}
use Rattle.std.proofs.lemmas.List.Folds.{find-append}
use Rattle.std.proofs.lemmas.Slice.Eq.{bytes_eq-Decides}
use Rattle.clap.specs.Facts.{Entry}
use Rattle.clap.specs.Lexer.{without_minus}
use Rattle.clap.specs.Matches.{first_value, one_text}
use Rattle.clap.specs.Walk.{Row, Rule, Text, default_rows, finished, first_of, has_row, more_values, one_of, reading_by, row_of, row_text, rows_of, with_default}
use Rattle.clap.specs.Values.{read_as}
use Rattle.clap.proofs.WalkLemmas.{find_row}
use Rattle.clap.specs.declared.parser.matches.Found.{Found}
use Rattle.clap.specs.declared.parser.matches.ValueSource.TheVariants.{DefaultValue}
use Rattle.scanimage_cli.specs.CutOptions.{is_flag_given, value_given}
use Rattle.scanimage_cli.specs.KnownOptions.{flag_word, name_of}
use Rattle.scanimage_cli.specs.WordCut.{is_flag, long_word}
use Rattle.scanimage_cli.specs.declared.program_option.ProgramOption.{ProgramOption}
use Rattle.scanimage_cli.specs.declared.program_option.ProgramOption.TheVariants.{ListDevices, AllOptions, DontScan, DeviceName, OutputFile, Config, Net, Port, DialFirst, User, PasswordFile, Batch, BatchCount}
use Rattle.scanimage_cli.specs.declared.word_cut.Item.{Item}
use Rattle.scanimage_cli.specs.declared.word_cut.Item.TheVariants.{Flag, Valued, Measured, Setting}
use Rattle.scanimage_cli.proofs.ClapWalk.{at, row_of_option, top, without_none}
use Rattle.scanimage_cli.proofs.ClapItems.{AreTaken, item_row, its_own, same_name, same_option}

abbrev look : Text → List Row → Option Row
look id rows = find (λ r. bytes_eq r.id id) rows

-- ---- defaults

abbrev default_row : Rule → List Text → Option Row
default_row a [] = None
default_row a (v ∷ vs) = Some (record { id = a.id; values = v ∷ vs; count = None; source = Some DefaultValue; reading = reading_by a })

abbrev its_default : Text → Rule → Option Row
its_default id a = if bytes_eq a.id id then default_row a a.defaults else None

abbrev default_in : Text → List Rule → Option Row
default_in id [] = None
default_in id (a ∷ rules) = option_or (its_default id a) (default_in id rules)

or_none : (o : Option Row) → option_or o None ≡ o
or_none None = refl
or_none (Some row) = refl

or_or : (a b c : Option Row) → option_or (option_or a b) c ≡ option_or a (option_or b c)
or_or None b c = refl
or_or (Some row) b c = refl

or_same : (a b : Option Row) (row : Row) → a ≡ Some row → a ≡ option_or a b
or_same a b row is = rw is refl

either_none : (b : Bool) → cond {A = Option Row} b None None ≡ None
either_none true = refl
either_none false = refl

row_found : (id : Text) (rows : List Row) → has_row id rows ≡ true → (row : Row) × (look id rows ≡ Some row)
row_found id [] is = absurd (true≢false (sym is))
row_found id (r ∷ rows) is = row_here (bytes_eq r.id id) r (look id rows) is (λ later. row_found id rows later)
  where
    row_here : (b : Bool) (r : Row) (rest : Option Row) → (b || has_row id rows) ≡ true → (has_row id rows ≡ true → (row : Row) × (rest ≡ Some row))
        → (row : Row) × (cond b (Some r) rest ≡ Some row)
    row_here true r rest is later = (r, refl)
    row_here false r rest is later = later is

already : (id : Text) (rows : List Row) (a : Rule) → has_row a.id rows ≡ true → (b : Bool) → bytes_eq a.id id ≡ b
    → look id rows ≡ option_or (look id rows) (if b then default_row a a.defaults else None)
already id rows a there true same =
    let is : a.id ≡ id = (bytes_eq-Decides a.id id).0 same in
    let found = row_found id rows (subst (λ (i : Text). has_row i rows ≡ true) is there) in
    or_same (look id rows) (default_row a a.defaults) found.0 found.1
already id rows a there false other = sym (or_none (look id rows))

given_now : (id : Text) (rows : List Row) (a : Rule) (values : List Text) → has_row a.id rows ≡ false
    → look id (default_rows a.id (reading_by a) values rows) ≡ option_or (look id rows) (if bytes_eq a.id id then default_row a values else None)
given_now id rows a [] none = sym (ap (option_or (look id rows)) (either_none (bytes_eq a.id id)) ∙ or_none (look id rows))
given_now id rows a (v ∷ vs) none =
    ap (look id) (without_none a.id (more_values DefaultValue (v ∷ vs)) _ rows none) ∙ find-append (λ (r : Row). bytes_eq r.id id) rows _

look_default : (id : Text) (rows : List Row) (a : Rule) (b : Bool) → has_row a.id rows ≡ b
    → look id (with_default rows a) ≡ option_or (look id rows) (its_default id a)
look_default id rows a true is = rw is (already id rows a is (bytes_eq a.id id) refl)
look_default id rows a false is = rw is (given_now id rows a a.defaults is)

look_all : (id : Text) (rules : List Rule) (rows : List Row) → look id (fold with_default rows rules) ≡ option_or (look id rows) (default_in id rules)
look_all id [] rows = sym (or_none (look id rows))
look_all id (a ∷ rules) rows =
    look_all id rules (with_default rows a)
    ∙ (ap (λ (o : Option Row). option_or o (default_in id rules)) (look_default id rows a (has_row a.id rows) refl)
    ∙ or_or (look id rows) (its_default id a) (default_in id rules))

-- ---- what stands among the pieces

abbrev flag_true : ProgramOption → Row
flag_true option = row_of_option option (codes "true" ∷ [])

flag_here : (option other : ProgramOption) (later : Option Row) (given : Bool) → later ≡ (if given then Some (flag_true option) else None) → (b : Bool)
    → bytes_eq (long_word other) (long_word option) ≡ b
    → cond (bytes_eq (name_of other) (name_of option)) (Some (flag_true other)) later ≡
    (if bytes_eq (long_word other) (long_word option) || given then Some (flag_true option) else None)
flag_here option other later given is true same =
    let names : bytes_eq (name_of other) (name_of option) ≡ true = sym (same_name other option) ∙ same in
    rw (names, same) (ap (λ (o : ProgramOption). Some (flag_true o)) (same_option other option same))
flag_here option other later given is false differs =
    let names : bytes_eq (name_of other) (name_of option) ≡ false = sym (same_name other option) ∙ differs in
    rw (names, differs) is

-- a flag is no option with a value
apart : (flag valued : ProgramOption) (b : Bool) → is_flag flag ≡ true → is_flag valued ≡ false → bytes_eq (long_word flag) (long_word valued) ≡ b
    → bytes_eq (long_word flag) (long_word valued) ≡ false
apart flag valued true is none same = absurd (true≢false (sym is ∙ (ap is_flag (same_option flag valued same) ∙ none)))
apart flag valued false is none differs = differs

pub swapped : (a b : ProgramOption) → bytes_eq (long_word a) (long_word b) ≡ false → (c : Bool) → bytes_eq (long_word b) (long_word a) ≡ c
    → bytes_eq (long_word b) (long_word a) ≡ false
swapped a b not true is = absurd (true≢false (sym (subst (λ (o : ProgramOption). bytes_eq (long_word o) (long_word b) ≡ true) (same_option b a is)
    (its_own b)) ∙ not))
swapped a b not false is = is

flag_found : (option : ProgramOption) (items : List Item) → AreTaken items → is_flag option ≡ true
    → look (name_of option) (filter_map item_row items) ≡ (if is_flag_given option items then Some (flag_true option) else None)
flag_found option [] taken is = refl
flag_found option (Flag other ∷ items) taken is =
    flag_here option other _ (is_flag_given option items) (flag_found option items taken.1 is) (bytes_eq (long_word other) (long_word option)) refl
flag_found option (Valued other value ∷ items) taken is =
    let words = swapped option other (apart option other (bytes_eq (long_word option) (long_word other)) is taken.0.0 refl)
    (bytes_eq (long_word other) (long_word option)) refl in
    let names : bytes_eq (name_of other) (name_of option) ≡ false = sym (same_name other option) ∙ words in
    rw names (flag_found option items taken.1 is)
flag_found option (Measured geometry value ∷ items) taken is = flag_found option items taken.1 is
flag_found option (Setting name value ∷ items) taken is = flag_found option items taken.1 is

abbrev valued_row : ProgramOption → Text → Row
valued_row option value = row_of_option option (value ∷ [])

value_here : (option other : ProgramOption) (value : Text) (later : Option Row) (given : Option Text) → later ≡ option_map (valued_row option) given
    → (b : Bool) → bytes_eq (long_word other) (long_word option) ≡ b
    → cond (bytes_eq (name_of other) (name_of option)) (Some (valued_row other value)) later
    ≡ option_map (valued_row option) (option_or (if bytes_eq (long_word other) (long_word option) then Some value else None) given)
value_here option other value later given is true same =
    let names : bytes_eq (name_of other) (name_of option) ≡ true = sym (same_name other option) ∙ same in
    rw (names, same) (ap (λ (o : ProgramOption). Some (valued_row o value)) (same_option other option same))
value_here option other value later given is false differs =
    let names : bytes_eq (name_of other) (name_of option) ≡ false = sym (same_name other option) ∙ differs in
    rw (names, differs) is

value_found : (option : ProgramOption) (items : List Item) → AreTaken items → is_flag option ≡ false
    → look (name_of option) (filter_map item_row items) ≡ option_map (valued_row option) (value_given option items)
value_found option [] taken none = refl
value_found option (Flag other ∷ items) taken none =
    let words = apart other option (bytes_eq (long_word other) (long_word option)) taken.0 none refl in
    let names : bytes_eq (name_of other) (name_of option) ≡ false = sym (same_name other option) ∙ words in
    rw names (value_found option items taken.1 none)
value_found option (Valued other value ∷ items) taken none =
    value_here option other value _ (value_given option items) (value_found option items taken.1 none) (bytes_eq (long_word other) (long_word option)) refl
value_found option (Measured geometry value ∷ items) taken none = value_found option items taken.1 none
value_found option (Setting name value ∷ items) taken none = value_found option items taken.1 none

-- ---- the texts that the getters read

abbrev pub all_rows : List Item → List Row
all_rows items = finished top.rules (at (filter_map item_row items)).held

flag_word_is : (option : ProgramOption) (given : Bool) → is_flag option ≡ true
    → option_and_then row_text (option_or (if given then Some (flag_true option) else None) (default_in (name_of option) top.rules)) ≡ Some
    (flag_word given)
flag_word_is ListDevices true is = refl
flag_word_is ListDevices false is = refl
flag_word_is AllOptions true is = refl
flag_word_is AllOptions false is = refl
flag_word_is DontScan true is = refl
flag_word_is DontScan false is = refl
flag_word_is DeviceName given is = absurd (true≢false (sym is))
flag_word_is OutputFile given is = absurd (true≢false (sym is))
flag_word_is Config given is = absurd (true≢false (sym is))
flag_word_is Net given is = absurd (true≢false (sym is))
flag_word_is Port given is = absurd (true≢false (sym is))
flag_word_is DialFirst true is = refl
flag_word_is DialFirst false is = refl
flag_word_is User given is = absurd (true≢false (sym is))
flag_word_is PasswordFile given is = absurd (true≢false (sym is))
flag_word_is Batch true is = refl
flag_word_is Batch false is = refl
flag_word_is BatchCount given is = absurd (true≢false (sym is))

pub flag_text : (option : ProgramOption) (items : List Item) → AreTaken items → is_flag option ≡ true
    → one_of (name_of option) (all_rows items) ≡ Some (flag_word (is_flag_given option items))
flag_text option items taken is =
    ap (option_and_then row_text) (look_all (name_of option) top.rules (filter_map item_row items)
    ∙ ap (λ (o : Option Row). option_or o (default_in (name_of option) top.rules)) (flag_found option items taken is))
    ∙ flag_word_is option (is_flag_given option items) is

no_default : (option : ProgramOption) → is_flag option ≡ false → default_in (name_of option) top.rules ≡ None
no_default ListDevices none = absurd (true≢false none)
no_default AllOptions none = absurd (true≢false none)
no_default DontScan none = absurd (true≢false none)
no_default DeviceName none = refl
no_default OutputFile none = refl
no_default Config none = refl
no_default Net none = refl
no_default Port none = refl
no_default DialFirst none = absurd (true≢false none)
no_default User none = refl
no_default PasswordFile none = refl
no_default Batch none = absurd (true≢false none)
no_default BatchCount none = refl

value_row_is : (option : ProgramOption) (items : List Item) → AreTaken items → is_flag option ≡ false
    → look (name_of option) (all_rows items) ≡ option_map (valued_row option) (value_given option items)
value_row_is option items taken none =
    look_all (name_of option) top.rules (filter_map item_row items)
    ∙ (ap (option_or (look (name_of option) (filter_map item_row items))) (no_default option none) ∙ (or_none _ ∙ value_found option items taken none))

first_given : (option : ProgramOption) (given : Option Text)
    → option_and_then (λ (r : Row). slice_get r.values 0) (option_map (valued_row option) given) ≡ given
first_given option None = refl
first_given option (Some value) = refl

pub value_text : (option : ProgramOption) (items : List Item) → AreTaken items → is_flag option ≡ false
    → first_of (name_of option) (all_rows items) ≡ value_given option items
value_text option items taken none = ap (option_and_then (λ (r : Row). slice_get r.values 0)) (value_row_is option items taken none)
    ∙ first_given option (value_given option items)

port_given : (given : Option Text) → option_and_then row_text (option_map (valued_row Port) given) ≡ option_map without_minus given
port_given None = refl
port_given (Some value) = refl

count_given : (given : Option Text) → option_and_then row_text (option_map (valued_row BatchCount) given) ≡ option_map without_minus given
count_given None = refl
count_given (Some value) = refl

pub port_text : (items : List Item) → AreTaken items → one_of (name_of Port) (all_rows items) ≡ option_map without_minus (value_given Port items)
port_text items taken = ap (option_and_then row_text) (value_row_is Port items taken refl) ∙ port_given (value_given Port items)

pub count_text : (items : List Item) → AreTaken items
    → one_of (name_of BatchCount) (all_rows items) ≡ option_map without_minus (value_given BatchCount items)
count_text items taken = ap (option_and_then row_text) (value_row_is BatchCount items taken refl) ∙ count_given (value_given BatchCount items)

-- ---- of what was found

first_of_vals : (vals : List (Bor Text)) → slice_get (map (λ (s : Bor Text). s.now) vals) 0 ≡ option_map (λ (s : Bor Text). s.now) (slice_get vals 0)
first_of_vals [] = refl
first_of_vals (s ∷ vals) = refl

first_of_entry : (entry : Option Entry) → option_and_then (λ (r : Row). slice_get r.values 0) (option_map row_of entry)
    ≡ option_and_then (λ (a : _). option_map (λ (s : Bor Text). s.now) (slice_get a.vals.items 0)) (option_map (λ (e : Entry). e.1) entry)
first_of_entry None = refl
first_of_entry (Some e) = first_of_vals e.1.vals.items

pub first_value_is : (f : Found) (id : Text) → first_value f id ≡ first_of id (rows_of f)
first_value_is f id = sym (ap (option_and_then (λ (r : Row). slice_get r.values 0)) (find_row f.entries.items id)
    ∙ first_of_entry (find (λ (e : Entry). bytes_eq e.0.now id) f.entries.items))

text_of_vals : (how : _) (vals : List (Bor Text))
    → option_map (read_as how) (slice_get (map (λ (s : Bor Text). s.now) vals) 0) ≡ option_map (λ (s : Bor Text). read_as how s.now) (slice_get vals 0)
text_of_vals how [] = refl
text_of_vals how (s ∷ vals) = refl

text_of_entry : (entry : Option Entry) → option_and_then row_text (option_map row_of entry)
    ≡ option_and_then (λ (a : _). option_map (λ (s : Bor Text). read_as a.reading s.now) (slice_get a.vals.items 0)) (option_map (λ (e : Entry). e.1) entry)
text_of_entry None = refl
text_of_entry (Some e) = text_of_vals e.1.reading e.1.vals.items

pub one_text_is : (f : Found) (id : Text) → one_text f id ≡ one_of id (rows_of f)
one_text_is f id = sym (ap (option_and_then row_text) (find_row f.entries.items id)
    ∙ text_of_entry (find (λ (e : Entry). bytes_eq e.0.now id) f.entries.items))
