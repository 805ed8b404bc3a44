-- The admitted value nearest to one that is asked for.
use Rattle.std.specs.Prelude.{◌≡◌, ◌≢◌, ◌<◌, ◌≤◌, ℕ, ℤ, ◌-ℤ◌, ◌≤ℤ◌, unsigned_abs, Bool, ◌⊎◌, MatchBool, Option, Some}
use Rattle.std.specs.Prelude.{List, [], ◌∷◌, ◌++◌, map, slice_get, All, Contains}
use Rattle.std.specs.Char.{to_ascii_lowercase}
use Rattle.constraint.specs.Admitted.{Bounds, AdmittedByRange}

-- how far a word is from the one asked for
abbrev pub distance : ℤ → ℤ → ℕ
distance asked word = unsigned_abs (asked -ℤ word)

-- **nearest (`NearestInRange`, `NearestInList`, `NearestEntry`)**: an admitted word to which no admitted word is
-- closer; of two equally close ones the greater in a range, the first listed in a list. For a text the first equal
-- entry, else the only entry that begins with it without regard to ASCII case. A law says that there is at most one.
pub record NearestInRange (range : Bounds) (asked word : ℤ) : Type 0 where
  pub admitted : AdmittedByRange range word
  pub closest : (other : ℤ) → AdmittedByRange range other → distance asked word ≤ distance asked other
  pub greater : (other : ℤ) → AdmittedByRange range other → distance asked other ≡ distance asked word → other ≤ℤ word

-- an entry of the list, to which no entry is closer; of two equally close ones the first listed
pub record NearestInList (entries : List ℤ) (asked word : ℤ) : Type 0 where
  pub before : List ℤ
  pub after : List ℤ
  pub listed : entries ≡ before ++ word ∷ after
  pub closest : All (λ other. distance asked word ≤ distance asked other) entries
  pub first : All (λ other. distance asked word < distance asked other) before

-- a list in which each place holds what R gives to that place of the one asked for
abbrev pub PlaceByPlace : (ℤ → ℤ → Type 0) → List ℤ → List ℤ → Type 0
PlaceByPlace R [] [] = Unit {0}
PlaceByPlace R [] (word ∷ words) = ⊥
PlaceByPlace R (asked ∷ more) [] = ⊥
PlaceByPlace R (asked ∷ more) (word ∷ words) = R asked word × PlaceByPlace R more words

-- the entry begins with the text, without regard to ASCII case
abbrev pub BeginsWith : List ℕ → List ℕ → Type 0
BeginsWith entry text = (rest : List ℕ) × (map to_ascii_lowercase entry ≡ map to_ascii_lowercase text ++ rest)

-- the entry at a place begins with the text
abbrev pub BeginsAt : List (List ℕ) → List ℕ → ℕ → Type 0
BeginsAt entries text place = (entry : List ℕ) × (slice_get entries place ≡ Some entry) × BeginsWith entry text

-- the place of the first entry that equals the text
pub record IsFirstEqual (entries : List (List ℕ)) (text : List ℕ) (place : ℕ) : Type 0 where
  pub equal : slice_get entries place ≡ Some text
  pub first : (earlier : ℕ) → earlier < place → slice_get entries earlier ≢ Some text

-- the only place whose entry begins with the text, where no entry equals it
pub record IsOnlyBeginning (entries : List (List ℕ)) (text : List ℕ) (place : ℕ) : Type 0 where
  pub none_equal : (other : ℕ) → slice_get entries other ≢ Some text
  pub begins : BeginsAt entries text place
  pub only : (other : ℕ) → BeginsAt entries text other → other ≡ place

-- the place of the entry that a text is matched with
abbrev pub NearestEntry : List (List ℕ) → List ℕ → ℕ → Type 0
NearestEntry entries text place = IsFirstEqual entries text place ⊎ IsOnlyBeginning entries text place

-- the flag says exactly whether the value given differs from the one asked for
abbrev pub FlagsDifference : {A : Type 0} → Bool → A → A → Type 0
FlagsDifference differs asked given = MatchBool differs (given ≢ asked) (given ≡ asked)
