-- The words of a command line.
use Rattle.std.specs.Prelude.{ℕ, ⊤, ◌≡◌, ◌≤◌, Option, Some, None, List, Result, Ok, Err, length, slice_get, take, drop}
use Rattle.std.specs.declared.env.FillError.{FillError}
use Rattle.std.specs.declared.env.FillError.TheVariants.{NotPresent, TooLong}

-- **a word (`TellsWord`)**: the word of that number is there, and stands at the start of the room; or there is none of
-- that number.
abbrev pub TellsWord : List (List ℕ) → ℕ → Result ℕ FillError → List ℕ → Type 0
TellsWord all i (Ok n) room = slice_get all i ≡ Some (take n room)
TellsWord all i (Err NotPresent) room = length all ≤ i
TellsWord all i (Err TooLong) room = ⊤

-- the word of that number, or that there is none
abbrev pub IsWordAt : List (List ℕ) → ℕ → Option (List ℕ) → Type 0
IsWordAt all i None = length all ≤ i
IsWordAt all i (Some text) = slice_get all i ≡ Some text

-- **the words behind the program's name (`AreWordsOf`)**: all of them, in their order, where they are told.
abbrev pub AreWordsOf : Option (List (List ℕ)) → List (List ℕ) → Type 0
AreWordsOf None words = ⊤
AreWordsOf (Some all) words = words ≡ drop 1 all
