-- The texts of an option's values.
use Rattle.std.specs.Prelude.{◌≡◌, ◌<◌, ◌≤◌, ◌==◌, ◌&&◌, ℕ, ℤ, Bool, true, false, nat_lt, nat_le, if◌then◌else◌, Option}
use Rattle.std.specs.Prelude.{Some, None, option_map, option_and_then, List, [], ◌∷◌, ◌++◌, length, codes}
use Rattle.std.specs.List.{slice_split, join_with_byte, list_any}
use Rattle.std.specs.Str.{bytes_eq}
use Rattle.std.specs.Str.Parse.{AllDigits, digits_value}
use Rattle.sane_fixed.specs.declared.kind.Kind.{Kind}
use Rattle.sane_fixed.specs.declared.kind.Kind.TheVariants as kind
use Rattle.sane_fixed.specs.Text.{IsText}
use Rattle.sane_fixed.specs.Digits.{digit_count}
use Rattle.sane_fixed.specs.Decimal.{sign_text, word_of, SpellsFixed}
use Rattle.sane_fixed.specs.DecimalReading.{sign_at, fixed_of}
use Rattle.option_desc.specs.declared.descriptor.Descriptor.{Descriptor}
use Rattle.option_desc.specs.declared.value.Value.{Value}
use Rattle.option_desc.specs.declared.value.Value.TheVariants.{Flag, Int, Fixed, Words, Text}

-- the text spells an integer of 32 bits: an optional `-` and 1 to 10 digits
pub record SpellsInteger (text : List ℕ) (word : ℤ) : Type 0 where
  pub negative : Bool
  pub digits : List ℕ
  pub text_is : text ≡ sign_text negative ++ digits
  pub all_digits : AllDigits 10 digits
  pub some : 1 ≤ length digits
  pub most : length digits ≤ 10
  pub word_is : word_of negative (digits_value 10 digits) ≡ Some word

-- the text spells a word of that kind
abbrev pub SpellsWord : Kind → List ℕ → ℤ → Type 0
SpellsWord kind.Int text word = SpellsInteger text word
SpellsWord kind.Fixed text word = SpellsFixed text word
SpellsWord _ text word = ⊥

-- the texts spell the words, each its own
abbrev pub SpellsEach : Kind → List (List ℕ) → List ℤ → Type 0
SpellsEach k [] [] = Unit {0}
SpellsEach k [] (word ∷ words) = ⊥
SpellsEach k (piece ∷ pieces) [] = ⊥
SpellsEach k (piece ∷ pieces) (word ∷ words) = SpellsWord k piece word × SpellsEach k pieces words

-- one word or more, joined by commas
pub record SpellsWords (k : Kind) (text : List ℕ) (words : List ℤ) : Type 0 where
  pub pieces : List (List ℕ)
  pub text_is : text ≡ join_with_byte 44 pieces
  pub some : 1 ≤ length pieces
  pub each : SpellsEach k pieces words

-- **reads (`ReadsAsValue`, `read_value`)**: a flag reads `yes` and `no`; an integer an optional `-` and 1 to 10 digits;
-- a fixed number a decimal text; a vector numbers joined by commas; a string any text.
--
-- the text reads as that value of the option; how many words there may be is a matter of what fits
abbrev pub ReadsAsValue : Descriptor → List ℕ → Value → Type 0
ReadsAsValue desc text (Flag true) = (desc.kind ≡ kind.Bool) × (text ≡ codes "yes")
ReadsAsValue desc text (Flag false) = (desc.kind ≡ kind.Bool) × (text ≡ codes "no")
ReadsAsValue desc text (Int word) = (desc.kind ≡ kind.Int) × (desc.size ≡ 4) × SpellsInteger text word
ReadsAsValue desc text (Fixed fixed) = (desc.kind ≡ kind.Fixed) × (desc.size ≡ 4) × SpellsFixed text fixed.0
ReadsAsValue desc text (Words words) = (4 < desc.size) × SpellsWords desc.kind text words
ReadsAsValue desc text (Text own) = (desc.kind ≡ kind.String) × (own ≡ text) × IsText text

-- The same by computing, for definitions that go on from it; the laws say that both agree.

abbrev pub flag_of : List ℕ → Option Value
flag_of text =
    if bytes_eq text (codes "yes") then Some (Flag true)
    else (if bytes_eq text (codes "no") then Some (Flag false) else None)

-- the digits after a sign, if these are 1 to 10
unfoldable pub integer_of : List ℕ → Option ℤ
integer_of text =
    if (digit_count (sign_at text).1 == length (sign_at text).1)
    && (nat_le 1 (length (sign_at text).1) && nat_le (length (sign_at text).1) 10)
    then word_of (sign_at text).0 (digits_value 10 (sign_at text).1)
    else None

abbrev pub word_in : Kind → List ℕ → Option ℤ
word_in kind.Int text = integer_of text
word_in kind.Fixed text = fixed_of text
word_in _ text = None

abbrev pub words_in : Kind → List (List ℕ) → Option (List ℤ)
words_in k [] = Some []
words_in k (piece ∷ pieces) =
    option_and_then (λ word. option_map (λ words. word ∷ words) (words_in k pieces)) (word_in k piece)

-- the texts between the commas
abbrev pub pieces_of : List ℕ → List (List ℕ)
pieces_of text = slice_split (λ b. b == 44) text

abbrev pub one_word : Kind → ℤ → Value
one_word kind.Fixed word = Fixed (record { 0 = word })
one_word _ word = Int word

-- one word in 4 bytes, more in more
abbrev pub number_of : Kind → ℕ → List ℕ → Option Value
number_of k size text =
    if size == 4 then option_map (λ word. one_word k word) (word_in k text)
    else (if nat_lt 4 size then option_map (λ words. Words words) (words_in k (pieces_of text)) else None)

abbrev pub text_value_of : List ℕ → Option Value
text_value_of text = if list_any (λ b. b == 0) text then None else Some (Text text)

abbrev pub read_as : Kind → ℕ → List ℕ → Option Value
read_as kind.Bool size text = flag_of text
read_as kind.Int size text = number_of kind.Int size text
read_as kind.Fixed size text = number_of kind.Fixed size text
read_as kind.String size text = text_value_of text
read_as kind.Button size text = None
read_as kind.Group size text = None

-- what a text reads as, if anything
unfoldable pub read_value : Descriptor → List ℕ → Option Value
read_value desc text = read_as desc.kind desc.size text
