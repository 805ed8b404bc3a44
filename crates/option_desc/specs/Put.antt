-- The value that is put where one is asked for: the nearest admitted one.
use Rattle.std.specs.Prelude.{◌≡◌, ℤ, ℕ, if◌then◌else◌, Option, Some, None, option_map, option_and_then, List, map}
use Rattle.std.specs.Prelude.{slice_get}
use Rattle.constraint.specs.Nearest.{NearestInRange, NearestInList, NearestEntry, PlaceByPlace}
use Rattle.constraint.specs.NearestComputed.{nearest_in_range, nearest_in_list, nearest_entry}
use Rattle.option_desc.specs.declared.descriptor.Constraint.{Constraint}
use Rattle.option_desc.specs.declared.descriptor.Constraint.TheVariants.{Free, Span, Words as WordsOf, Strings}
use Rattle.option_desc.specs.declared.descriptor.Descriptor.{Descriptor}
use Rattle.option_desc.specs.declared.value.Value.{Value}
use Rattle.option_desc.specs.declared.value.Value.TheVariants.{Flag, Int, Fixed, Words, Text}
use Rattle.option_desc.specs.Fits.{Fits, fits_of}

-- ranges and lists of words bind words, and nothing else does
abbrev pub NearestWord : Constraint → ℤ → ℤ → Type 0
NearestWord Free asked word = word ≡ asked
NearestWord (Span range) asked word = NearestInRange range asked word
NearestWord (WordsOf entries) asked word = NearestInList entries asked word
NearestWord (Strings _) asked word = word ≡ asked

-- lists of texts bind texts, and nothing else does
abbrev pub NearestText : Constraint → List ℕ → List ℕ → Type 0
NearestText Free asked text = text ≡ asked
NearestText (Span _) asked text = text ≡ asked
NearestText (WordsOf _) asked text = text ≡ asked
NearestText (Strings entries) asked text = (place : ℕ) × NearestEntry entries asked place
    × (slice_get entries place ≡ Some text)

-- a flag is put as it is, words each to the nearest one, a text to the entry that it is matched with
abbrev pub NearestValue : Constraint → Value → Value → Type 0
NearestValue constraint (Flag flag) given = given ≡ Flag flag
NearestValue constraint (Int asked) given = (word : ℤ) × NearestWord constraint asked word × (given ≡ Int word)
NearestValue constraint (Fixed asked) given = (word : ℤ) × NearestWord constraint asked.0 word
    × (given ≡ Fixed (record { 0 = word }))
NearestValue constraint (Words asked) given = (words : List ℤ) × PlaceByPlace (NearestWord constraint) asked words
    × (given ≡ Words words)
NearestValue constraint (Text asked) given = (text : List ℕ) × NearestText constraint asked text × (given ≡ Text text)

-- **puts (`Puts`, `resolve`)**: the value asked for fits, and the value given is the nearest admitted one, a vector
-- place by place; a constraint of another kind than the value binds nothing.
pub record Puts (desc : Descriptor) (asked given : Value) : Type 0 where
  pub fits : Fits desc asked
  pub nearest : NearestValue desc.constraint asked given

-- The same by computing, for definitions that go on from it; the laws say that both agree.

abbrev pub nearest_word : Constraint → ℤ → ℤ
nearest_word Free asked = asked
nearest_word (Span range) asked = nearest_in_range range asked
nearest_word (WordsOf entries) asked = nearest_in_list entries asked
nearest_word (Strings _) asked = asked

abbrev pub nearest_text : Constraint → List ℕ → Option (List ℕ)
nearest_text Free asked = Some asked
nearest_text (Span _) asked = Some asked
nearest_text (WordsOf _) asked = Some asked
nearest_text (Strings entries) asked = option_and_then (slice_get entries) (nearest_entry entries asked)

abbrev pub nearest_value : Constraint → Value → Option Value
nearest_value constraint (Flag flag) = Some (Flag flag)
nearest_value constraint (Int asked) = Some (Int (nearest_word constraint asked))
nearest_value constraint (Fixed asked) = Some (Fixed (record { 0 = nearest_word constraint asked.0 }))
nearest_value constraint (Words asked) = Some (Words (map (nearest_word constraint) asked))
nearest_value constraint (Text asked) = option_map (λ text. Text text) (nearest_text constraint asked)

-- what is put, if anything
unfoldable pub resolve : Descriptor → Value → Option Value
resolve desc asked = if fits_of desc asked then nearest_value desc.constraint asked else None
