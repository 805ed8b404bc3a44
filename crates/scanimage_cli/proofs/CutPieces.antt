-- What the pieces are that words are cut into: flags, options with a value, and no option twice.
use Rattle.std.proofs.Common.{ℕ, ◌≡◌, Bool, true, false, ◌||◌, List, [], ◌∷◌, ◌++◌, Option, Some, None, refl, sym}
use Rattle.std.specs.Prelude.{⊤, if◌then◌else◌, option_and_then, option_map, is_none, is_some, position, take, drop, ◌+◌, nat_eq, codes}
use Rattle.std.specs.List.{filter_map, starts_with}
use Rattle.std.proofs.lemmas.Option.{some_pair_parts, none-some}
use Rattle.sane_fixed.specs.DecimalReading.{◌>>=◌, fixed_of}
use Rattle.text_lines.specs.Words.{is_equals, is_empty}
use Rattle.scanimage_cli.specs.WordCut.{cut, cut_from, cut_step, geometry_named, is_flag, item_with, long_part, measures_from, named_setting, no_measures, option_named, option_part, other_part, pair_part, part_at_equals, part_of_word, program_word, repeats_option, split_of, step_of_part, window_settings}
use Rattle.scanimage_cli.specs.declared.geometry.Geometry.{Geometry}
use Rattle.scanimage_cli.specs.declared.program_option.ProgramOption.{ProgramOption}
use Rattle.scanimage_cli.specs.declared.word_cut.Item.{Item}
use Rattle.scanimage_cli.specs.declared.word_cut.Item.TheVariants.{Flag, Valued, Measured, Setting}
use Rattle.scanimage_cli.specs.declared.word_cut.AwaitedValue.{AwaitedValue}
use Rattle.scanimage_cli.specs.declared.word_cut.AwaitedValue.TheVariants.{ForOption, ForMeasure, ForSetting}
use Rattle.scanimage_cli.specs.declared.word_cut.WordPart.{WordPart}
use Rattle.scanimage_cli.specs.declared.word_cut.WordPart.TheVariants.{Whole, Awaits, Refused}

-- a flag stands alone, and no flag has a value
abbrev pub IsSound : Item → Type 0
IsSound (Flag option) = is_flag option ≡ true
IsSound (Valued option value) = is_flag option ≡ false
IsSound (Measured geometry value) = ⊤
IsSound (Setting name value) = ⊤

abbrev pub AreSound : List Item → Type 0
AreSound [] = ⊤
AreSound (item ∷ items) = IsSound item × AreSound items

abbrev AwaitsSound : Option AwaitedValue → Type 0
AwaitsSound None = ⊤
AwaitsSound (Some (ForOption option)) = is_flag option ≡ false
AwaitsSound (Some (ForMeasure geometry)) = ⊤
AwaitsSound (Some (ForSetting name)) = ⊤

abbrev IsSoundPart : WordPart → Type 0
IsSoundPart (Whole item) = IsSound item
IsSoundPart (Awaits awaited) = AwaitsSound (Some awaited)
IsSoundPart Refused = ⊤

both_sound : (items more : List Item) → AreSound items → AreSound more → AreSound (items ++ more)
both_sound [] more first last = last
both_sound (item ∷ items) more first last = (first.0, both_sound items more first.1 last)

-- ---- one word

flag_or_awaits : (option : ProgramOption) (b : Bool) → is_flag option ≡ b → IsSoundPart (if b then Whole (Flag option) else Awaits (ForOption option))
flag_or_awaits option true is = is
flag_or_awaits option false is = is

valued_or_refused : (option : ProgramOption) (value : List ℕ) (b empty : Bool) → is_flag option ≡ b
    → IsSoundPart (if b || empty then Refused else Whole (Valued option value))
valued_or_refused option value true empty is = tt
valued_or_refused option value false true is = tt
valued_or_refused option value false false is = is

setting_or_refused : (name value : List ℕ) (empty : Bool) → IsSoundPart (if empty then Refused else Whole (Setting name value))
setting_or_refused name value true = tt
setting_or_refused name value false = tt

name_or_refused : (name : List ℕ) (empty : Bool) → IsSoundPart (if empty then Refused else Awaits (ForSetting name))
name_or_refused name true = tt
name_or_refused name false = tt

sound_pair : (option : Option ProgramOption) (name value : List ℕ) → IsSoundPart (pair_part option name value)
sound_pair (Some option) name value = valued_or_refused option value (is_flag option) (is_empty value) refl
sound_pair None name value = setting_or_refused name value (is_empty name)

sound_at : (place : Option ℕ) (word : List ℕ) → IsSoundPart (part_at_equals place word)
sound_at (Some at) word = sound_pair (option_named (take at word)) (drop 2 (take at word)) (drop (at + 1) word)
sound_at None word = name_or_refused (drop 2 word) (is_empty (drop 2 word))

sound_long : (word : List ℕ) → IsSoundPart (long_part word)
unfolding long_part
sound_long word = sound_at (position is_equals word) word

long_or_refused : (word : List ℕ) (b : Bool) → IsSoundPart (if b then long_part word else Refused)
long_or_refused word true = sound_long word
long_or_refused word false = tt

sound_other : (geometry : Option Geometry) (word : List ℕ) → IsSoundPart (other_part geometry word)
sound_other (Some geometry) word = tt
sound_other None word = long_or_refused word (starts_with nat_eq word (codes "--"))

sound_option : (option : Option ProgramOption) (word : List ℕ) → IsSoundPart (option_part option word)
sound_option (Some option) word = flag_or_awaits option (is_flag option) refl
sound_option None word = sound_other (geometry_named word) word

sound_part : (word : List ℕ) → IsSoundPart (part_of_word word)
unfolding part_of_word
sound_part word = sound_option (option_named word) word

-- ---- all words

abbrev Step : Type 0
Step = List Item × Option AwaitedValue

abbrev IsSoundStep : Option Step → Type 0
IsSoundStep None = ⊤
IsSoundStep (Some step) = AreSound step.0 × AwaitsSound step.1

step_of_sound : (part : WordPart) → IsSoundPart part → IsSoundStep (step_of_part part)
step_of_sound (Whole item) is = ((is, tt), tt)
step_of_sound (Awaits awaited) is = (tt, is)
step_of_sound Refused is = tt

abbrev IfSound : Option Item → Type 0
IfSound None = ⊤
IfSound (Some item) = IsSound item

valued : (option : ProgramOption) (value : List ℕ) (b : Bool) → is_flag option ≡ false → IfSound (if b then None else Some (Valued option value))
valued option value true is = tt
valued option value false is = is

measured : (geometry : Geometry) (value : List ℕ) (b : Bool) → IfSound (if b then Some (Measured geometry value) else None)
measured geometry value true = tt
measured geometry value false = tt

sound_item : (awaited : AwaitedValue) (value : List ℕ) → AwaitsSound (Some awaited) → IfSound (item_with awaited value)
unfolding item_with
sound_item (ForOption option) value is = valued option value (is_empty value) is
sound_item (ForMeasure geometry) value is = measured geometry value (is_some (fixed_of value))
sound_item (ForSetting name) value is = tt

completes : (item : Option Item) → IfSound item → IsSoundStep (option_map (λ item. (item ∷ [], None)) item)
completes None is = tt
completes (Some item) is = ((is, tt), tt)

sound_step : (awaited : Option AwaitedValue) (word : List ℕ) → AwaitsSound awaited → IsSoundStep (cut_step awaited word)
unfolding cut_step
sound_step None word is = step_of_sound (part_of_word word) (sound_part word)
sound_step (Some awaited) word is = completes (item_with awaited word) (sound_item awaited word is)

abbrev IfAllSound : Option (List Item) → Type 0
IfAllSound None = ⊤
IfAllSound (Some items) = AreSound items

more_sound : (items : List Item) (more : Option (List Item)) → AreSound items → IfAllSound more → IfAllSound (option_map (λ more. items ++ more) more)
more_sound items None first last = tt
more_sound items (Some more) first last = both_sound items more first last

none_left : (awaited : Option AwaitedValue) → IfAllSound (if is_none awaited then Some [] else None)
none_left None = tt
none_left (Some awaited) = tt

sound_behind : (step : Option Step) (words : List (List ℕ)) → IsSoundStep step
    → ((awaited : Option AwaitedValue) → AwaitsSound awaited → IfAllSound (cut_from awaited words))
    → IfAllSound (option_and_then (λ step. option_map (λ more. step.0 ++ more) (cut_from step.1 words)) step)
sound_behind None words sound more = tt
sound_behind (Some step) words sound more = more_sound step.0 (cut_from step.1 words) sound.0 (more step.1 sound.1)

sound_cut : (awaited : Option AwaitedValue) (words : List (List ℕ)) → AwaitsSound awaited → IfAllSound (cut_from awaited words)
sound_cut awaited [] is = none_left awaited
sound_cut awaited (word ∷ words) is = sound_behind (cut_step awaited word) words (sound_step awaited word is) (λ next. sound_cut next words)

-- ---- the pieces of a split

-- pieces of the words, none of which is an option that another is too
pub record AreSplitPieces (program : List (List ℕ)) (items : List Item) : Type 0 where
  pub sound : AreSound items
  pub once : repeats_option items ≡ false
  pub words : program ≡ filter_map program_word items

abbrev chosen : Bool → List (List ℕ) → List (List ℕ × List ℕ) → List (List ℕ × List ℕ) → Option (List (List ℕ) × List (List ℕ × List ℕ))
chosen twice words named window = if twice then None else Some (words, named ++ window)

words_of : (program words : List (List ℕ)) (settings named : List (List ℕ × List ℕ)) (twice : Bool) (window : Option (List (List ℕ × List ℕ)))
    → (window >>= chosen twice words named) ≡ Some (program, settings) → (twice ≡ false) × (program ≡ words)
words_of program words settings named twice None is = absurd (none-some _ is)
words_of program words settings named true (Some w) is = absurd (none-some _ is)
words_of program words settings named false (Some w) is = (refl, sym (some_pair_parts _ _ _ _ is).0)

abbrev split_pieces : List Item → Option (List (List ℕ) × List (List ℕ × List ℕ))
split_pieces items = window_settings (measures_from no_measures items) >>= chosen (repeats_option items) (filter_map program_word items)
    (filter_map named_setting items)

pieces_of : (pieces : Option (List Item)) (program : List (List ℕ)) (settings : List (List ℕ × List ℕ)) → IfAllSound pieces
    → (pieces >>= split_pieces) ≡ Some (program, settings) → (items : List Item) × AreSplitPieces program items
pieces_of None program settings sound is = absurd (none-some _ is)
pieces_of (Some items) program settings sound is =
    let parts = words_of program _ settings _ (repeats_option items) (window_settings (measures_from no_measures items)) is in
    (items, record { sound = sound; once = parts.0; words = parts.1 })

pub split_has_pieces : (words program : List (List ℕ)) (settings : List (List ℕ × List ℕ)) → split_of words ≡ Some (program, settings)
    → (items : List Item) × AreSplitPieces program items
unfolding split_of
split_has_pieces words program settings is = pieces_of (cut words) program settings (sound_cut None words tt) is
