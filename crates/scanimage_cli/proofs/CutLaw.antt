-- The values that options take from the program's words are those of the pieces.
use Rattle.std.proofs.lemmas.Option.{some_pair_parts, none-some}
use Rattle.sane_fixed.specs.DecimalReading.{◌>>=◌}
use Rattle.std.proofs.Common.{arith, true≢false, subst, ◌≡◌, ◌∙◌, refl, sym, ap, ℕ, Bool, true, false, ◌||◌, ◌&&◌, List, [], ◌∷◌, ◌++◌, Option, Some, None, length, take, drop}
use Rattle.std.proofs.Math.Dec.{eqb}
use Rattle.std.specs.Prelude.{◌==◌, if◌then◌else◌}
use Rattle.std.specs.Str.{bytes_eq}
use Rattle.std.specs.List.{filter_map}
use Rattle.scanimage_cli.specs.WordCut.{long_word, program_word, is_option, cut, split_of, window_settings, measures_from, no_measures, repeats_option, named_setting}
use Rattle.scanimage_cli.specs.ScanimageOptions.{after_equals, value_after, program_option_value, has_flag}
use Rattle.scanimage_cli.specs.CutOptions.{value_given, is_flag_given, GivesTheSame, IsOfTheCut}
use Rattle.scanimage_cli.specs.declared.program_option.ProgramOption.{ProgramOption}
use Rattle.scanimage_cli.specs.declared.program_option.ProgramOption.TheVariants.{ListDevices, AllOptions, DontScan, DeviceName, OutputFile, Config, Net, Port, DialFirst, User, PasswordFile, Batch, BatchCount}
use Rattle.scanimage_cli.specs.declared.word_cut.Item.{Item}
use Rattle.scanimage_cli.specs.declared.word_cut.Item.TheVariants.{Flag, Valued, Measured, Setting}
use Rattle.std.specs.Option.{option_or}

-- no `=` among the bytes
abbrev pub is_bare : List ℕ → Bool
is_bare [] = true
is_bare (b ∷ bs) = if b == 61 then false else is_bare bs

pub long_words_are_bare : (option : ProgramOption) → is_bare (long_word option) ≡ true
long_words_are_bare ListDevices = refl
long_words_are_bare AllOptions = refl
long_words_are_bare DontScan = refl
long_words_are_bare DeviceName = refl
long_words_are_bare OutputFile = refl
long_words_are_bare Config = refl
long_words_are_bare Net = refl
long_words_are_bare Port = refl
long_words_are_bare DialFirst = refl
long_words_are_bare User = refl
long_words_are_bare PasswordFile = refl
long_words_are_bare Batch = refl
long_words_are_bare BatchCount = refl

bare_head : (p q : Bool) → (if p then false else q) ≡ true → p ≡ false
bare_head true q is = sym is
bare_head false q is = refl

bare_tail : (p q : Bool) → (if p then false else q) ≡ true → q ≡ true
bare_tail true q is = absurd (true≢false (sym is))
bare_tail false q is = is

other_way : (a b : ℕ) → eqb a b ≡ false → eqb b a ≡ false
other_way a b not = grind arith

both : {A : Type 0} (p q r : Bool) (x y z : A) → (if q then x else z) ≡ (if r then y else z) → (if p && q then x else z) ≡ (if p && r then y else z)
both true q r x y z same = same
both false q r x y z same = refl

neither : {A : Type 0} (p q : Bool) (x z : A) → (if q then x else z) ≡ z → (if p && q then x else z) ≡ z
neither true q x z same = same
neither false q x z same = refl

no_first : (p q : Bool) → p ≡ false → (p && q) ≡ false
no_first p q not = ap (λ (b : Bool). b && q) not

no_second : (p q : Bool) → q ≡ false → (p && q) ≡ false
no_second true q not = not
no_second false q not = refl

either : {A : Type 0} (p : Bool) (z : A) → (if p then z else z) ≡ z
either true z = refl
either false z = refl

-- a value behind `=` is that of the word before it
pub value_behind : (name other value : List ℕ) → is_bare name ≡ true → is_bare other ≡ true
    → value_after name (other ++ 61 ∷ value) ≡ (if bytes_eq other name then Some value else None)
unfolding value_after
value_behind [] [] value bare plain = refl
value_behind [] (b ∷ bs) value bare plain = ap (λ (p : Bool). if p then Some (bs ++ 61 ∷ value) else None) (bare_head (b == 61) (is_bare bs) plain)
value_behind (a ∷ cs) [] value bare plain =
    ap (λ (p : Bool). if p then after_equals (drop (length cs) value) else None)
    (no_first (eqb 61 a) (bytes_eq (take (length cs) value) cs) (other_way a 61 (bare_head (a == 61) (is_bare cs) bare)))
value_behind (a ∷ cs) (b ∷ bs) value bare plain =
    both (eqb b a) (bytes_eq (take (length cs) (bs ++ 61 ∷ value)) cs) (bytes_eq bs cs) (after_equals (drop (length cs) (bs ++ 61 ∷ value))) (Some value) None
    (value_behind cs bs value (bare_tail (a == 61) (is_bare cs) bare) (bare_tail (b == 61) (is_bare bs) plain))

-- a word without `=` gives no value
pub value_of_none : (name other : List ℕ) → is_bare other ≡ true → value_after name other ≡ None
unfolding value_after
value_of_none [] [] plain = refl
value_of_none [] (b ∷ bs) plain = ap (λ (p : Bool). if p then Some bs else None) (bare_head (b == 61) (is_bare bs) plain)
value_of_none (a ∷ cs) [] plain = refl
value_of_none (a ∷ cs) (b ∷ bs) plain =
    neither (eqb b a) (bytes_eq (take (length cs) bs) cs) (after_equals (drop (length cs) bs)) None
    (value_of_none cs bs (bare_tail (b == 61) (is_bare bs) plain))

-- a word with a value is no bare word
pub no_flag : (name other value : List ℕ) → is_bare name ≡ true → bytes_eq (other ++ 61 ∷ value) name ≡ false
no_flag [] [] value bare = refl
no_flag [] (b ∷ bs) value bare = refl
no_flag (a ∷ cs) [] value bare = no_first (eqb 61 a) (bytes_eq value cs) (other_way a 61 (bare_head (a == 61) (is_bare cs) bare))
no_flag (a ∷ cs) (b ∷ bs) value bare = no_second (eqb b a) (bytes_eq (bs ++ 61 ∷ value) cs) (no_flag cs bs value (bare_tail (a == 61) (is_bare cs) bare))

-- ---- all pieces

pub values_same : (option : ProgramOption) (items : List Item) → program_option_value option (filter_map program_word items) ≡ value_given option items
values_same option [] = refl
values_same option (Flag other ∷ items) =
    ap (λ (v : Option (List ℕ)). option_or v (program_option_value option (filter_map program_word items))) (value_of_none (long_word option) (long_word other) (long_words_are_bare other))
    ∙ values_same option items
values_same option (Valued other value ∷ items) =
    ap (λ (v : Option (List ℕ)). option_or v (program_option_value option (filter_map program_word items)))
    (value_behind (long_word option) (long_word other) value (long_words_are_bare option) (long_words_are_bare other))
    ∙ ap (λ (v : Option (List ℕ)). option_or (if is_option other (Some option) then Some value else None) v) (values_same option items)
values_same option (Measured geometry value ∷ items) = values_same option items
values_same option (Setting name value ∷ items) = values_same option items

pub flags_same : (option : ProgramOption) (items : List Item) → has_flag option (filter_map program_word items) ≡ is_flag_given option items
flags_same option [] = refl
flags_same option (Flag other ∷ items) = ap (λ (b : Bool). is_option other (Some option) || b) (flags_same option items)
flags_same option (Valued other value ∷ items) =
    ap (λ (b : Bool). b || has_flag option (filter_map program_word items)) (no_flag (long_word option) (long_word other) value (long_words_are_bare option))
    ∙ flags_same option items
flags_same option (Measured geometry value ∷ items) = flags_same option items
flags_same option (Setting name value ∷ items) = flags_same option items

pub gives_the_same : (items : List Item) → GivesTheSame items (filter_map program_word items)
gives_the_same items = record { values = λ option. values_same option items; flags = λ option. flags_same option items }

-- what a split gives of the pieces' words and settings and of the window's
abbrev chosen : Bool → List (List ℕ) → List (List ℕ × List ℕ) → List (List ℕ × List ℕ) → Option (List (List ℕ) × List (List ℕ × List ℕ))
chosen twice words named window = if twice then None else Some (words, named ++ window)

program_of : (program words : List (List ℕ)) (settings named : List (List ℕ × List ℕ)) (twice : Bool) (window : Option (List (List ℕ × List ℕ)))
    → (window >>= chosen twice words named) ≡ Some (program, settings) → program ≡ words
program_of program words settings named twice None is = absurd (none-some _ is)
program_of program words settings named true (Some w) is = absurd (none-some _ is)
program_of program words settings named false (Some w) is = sym (some_pair_parts _ _ _ _ is).0

abbrev split_pieces : List Item → Option (List (List ℕ) × List (List ℕ × List ℕ))
split_pieces items = window_settings (measures_from no_measures items) >>= chosen (repeats_option items) (filter_map program_word items) (filter_map named_setting items)

pieces_of : (pieces : Option (List Item)) (program : List (List ℕ)) (settings : List (List ℕ × List ℕ))
    → (pieces >>= split_pieces) ≡ Some (program, settings) → (items : List Item) × (pieces ≡ Some items) × GivesTheSame items program
pieces_of None program settings is = absurd (none-some _ is)
pieces_of (Some items) program settings is =
    let same : program ≡ filter_map program_word items = program_of program _ settings _ (repeats_option items) (window_settings (measures_from no_measures items)) is in
    (items, refl, subst (GivesTheSame items) (sym same) (gives_the_same items))

pub of_the_cut : (words program : List (List ℕ)) (settings : List (List ℕ × List ℕ)) → split_of words ≡ Some (program, settings) → IsOfTheCut words program
unfolding split_of
of_the_cut words program settings is = pieces_of (cut words) program settings is
