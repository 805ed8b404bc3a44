-- The words of saned's command line behind the program's name: options, each `--NAME=VALUE` or `--NAME` and its value,
-- which is the next word, whatever that begins with, and one flag, which has no value. No value is empty.
use Rattle.std.specs.Prelude.{ℕ, ◌+◌, ◌≡◌, ◌≢◌, ◌≤◌, ◌⊎◌, ◌==◌, ◌&&◌, Bool, false, if◌then◌else◌, Option, Some, None}
use Rattle.std.specs.Prelude.{option_map, option_and_then, is_none, List, [], ◌∷◌, ◌++◌, codes, drop, take, length}
use Rattle.std.specs.Prelude.{position, slice_index}
use Rattle.std.specs.Str.{bytes_eq}
use Rattle.std.specs.Option.{option_or}
use Rattle.text_lines.specs.Words.{is_equals, is_empty}

-- two dashes and a name
abbrev pub is_long : List ℕ → Bool
is_long [] = false
is_long (_ ∷ []) = false
is_long (_ ∷ _ ∷ []) = false
is_long (a ∷ b ∷ _ ∷ _) = (a == 45) && (b == 45)

-- the flag
abbrev pub is_pad_strings : List ℕ → Bool
is_pad_strings word = bytes_eq word (codes "--pad-strings")

-- a word that is no value, by the place of its first `=`: a name that waits for its value, or an option with its value
abbrev pub step_at_equals : Option ℕ → List ℕ → Option (List (List ℕ) × Option (List ℕ))
step_at_equals None word = Some ([], Some word)
step_at_equals (Some at) word = if is_empty (drop (at + 1) word) then None else Some (word ∷ [], None)

-- one word, where a name waits for its value or none does: the options `--NAME=VALUE` that it completes, or the flag,
-- and the name that waits then; none where it is refused
abbrev pub word_step : Option (List ℕ) → List ℕ → Option (List (List ℕ) × Option (List ℕ))
word_step (Some name) word = if is_empty word then None else Some ((name ++ 61 ∷ word) ∷ [], None)
word_step None word =
    if is_pad_strings word then Some (word ∷ [], None) else if is_long word
    then step_at_equals (position is_equals word) word else None

-- all of the words as options `--NAME=VALUE` and flags; none where one is refused, or where a value is missing at the
-- end
abbrev pub joined_from : Option (List ℕ) → List (List ℕ) → Option (List (List ℕ))
joined_from waiting [] = if is_none waiting then Some [] else None
joined_from waiting (word ∷ words) =
    option_and_then (λ step. option_map (λ more. step.0 ++ more) (joined_from step.1 words)) (word_step waiting word)

-- **the words of saned (`words_joined`, `BeginsPlainly`)**: options, each a name with its value behind `=` or in the
-- next word, whatever that begins with; no value is empty; a number begins with no sign, and with no zero but alone.
abbrev pub words_joined : List (List ℕ) → Option (List (List ℕ))
words_joined words = joined_from None words

-- the value, where the option begins so, with a name and `=`
unfoldable pub value_behind : List ℕ → List ℕ → Option (List ℕ)
value_behind start option =
    if bytes_eq (take (length start) option) start then Some (drop (length start) option) else None

-- the value of the first option that begins so
abbrev pub option_value_of : List ℕ → List (List ℕ) → Option (List ℕ)
option_value_of start [] = None
option_value_of start (option ∷ options) = option_or (value_behind start option) (option_value_of start options)

-- the options with those that a step completes behind them, and the name that waits then
abbrev pub with_word_step : List (List ℕ) → Option (List (List ℕ) × Option (List ℕ))
    → Option (List (List ℕ) × Option (List ℕ))
with_word_step options step = option_map (λ s. (options ++ s.0, s.1)) step

-- a text that begins with no sign, and with no zero but alone
abbrev pub BeginsPlainly : List ℕ → Type 0
BeginsPlainly text = (1 ≤ length text) × (slice_index text 0 ≢ 43) × ((length text ≡ 1) ⊎ (slice_index text 0 ≢ 48))
