-- The same by computing, for definitions that go on from it; the laws say that both agree.
use Rattle.std.specs.Prelude.{ℕ, ◌+◌, ◌*◌, ◌/◌, min, max, ℤ, pos, negsuc, ◌+ℤ◌, ◌-ℤ◌, unsigned_abs, nat_eq, nat_lt}
use Rattle.std.specs.Prelude.{Bool, if◌then◌else◌, Option, Some, None, List, [], ◌∷◌, map, fold}
use Rattle.std.specs.List.{starts_with, position_from}
use Rattle.std.specs.Char.{to_ascii_lowercase}
use Rattle.std.specs.Str.{bytes_eq}
use Rattle.sane_fixed.specs.Decimal.{rounded_quotient}
use Rattle.constraint.specs.Admitted.{Bounds}
use Rattle.constraint.specs.Nearest.{distance}
use Rattle.std.specs.Option.{option_or}

-- how far a word lies above another, 0 where it does not
abbrev pub height : ℤ → ℕ
height (pos n) = n
height (negsuc _) = 0

-- the distance of the admitted words: all of min to max are steps of 1
abbrev pub step_of : Bounds → ℕ
step_of range = max (unsigned_abs range.quant) 1

-- so many steps up from min: those to the word asked for, rounded, halves up, and no more than there are up to max
abbrev pub steps_to : Bounds → ℤ → ℕ
steps_to range asked =
    min (rounded_quotient (height (asked -ℤ range.min)) (step_of range)) (height (range.max -ℤ range.min)
    / step_of range)

unfoldable pub nearest_in_range : Bounds → ℤ → ℤ
nearest_in_range range asked = range.min +ℤ pos (steps_to range asked * step_of range)

-- of two words the closer, the first where they are equally close
abbrev pub closer : ℤ → ℤ → ℤ → ℤ
closer asked best word = if nat_lt (distance asked word) (distance asked best) then word else best

-- the best of the entries; a list has one
unfoldable pub nearest_in_list : List ℤ → ℤ → ℤ
nearest_in_list [] asked = asked
nearest_in_list (word ∷ words) asked = fold (closer asked) word words

-- whether the entry begins with the text, without regard to ASCII case
abbrev pub begins_with : List ℕ → List ℕ → Bool
begins_with entry text = starts_with nat_eq (map to_ascii_lowercase entry) (map to_ascii_lowercase text)

-- the places of the entries that pass a test, counted from a number on
abbrev pub places_from : (List ℕ → Bool) → ℕ → List (List ℕ) → List ℕ
places_from test place [] = []
places_from test place (entry ∷ entries) =
    if test entry then place ∷ places_from test (place + 1) entries else places_from test (place + 1) entries

-- the only one of them
abbrev pub only : List ℕ → Option ℕ
only [] = None
only (place ∷ []) = Some place
only (place ∷ next ∷ places) = None

-- the place of the entry that a text is matched with
unfoldable pub nearest_entry : List (List ℕ) → List ℕ → Option ℕ
nearest_entry entries text =
    option_or (position_from (λ entry.
    bytes_eq entry text) 0 entries) (only (places_from (λ entry. begins_with entry text) 0 entries))
