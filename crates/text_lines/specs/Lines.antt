-- How a text is cut into lines. LF ends a line, and the last line may lack it; a CR right before that LF is no part of
-- the line. After a last LF no further line follows.
use Rattle.std.specs.Prelude.{ℕ, ◌+◌, ◌≡◌, ◌≢◌, List, [], ◌∷◌, ◌++◌, length, Contains}
use Rattle.std.specs.Str.Lines.{lines}

-- the bytes before and after the first such byte
pub record SplitsAtFirst (byte : ℕ) (bytes before after : List ℕ) : Type 0 where
  pub bytes_are : bytes ≡ before ++ byte ∷ after
  pub first : ¬ Contains before byte

-- what ends a line: LF, CR and LF, or the end of the text
pub data LineEnding : Type 0 where
  lf : LineEnding
  cr_lf : LineEnding
  text_end : LineEnding

abbrev pub ending_bytes : LineEnding → List ℕ
ending_bytes lf = 10 ∷ []
ending_bytes cr_lf = 13 ∷ 10 ∷ []
ending_bytes text_end = []

-- where a line may end so: a CR before LF is not left in the line, and the end of the text ends a line that has bytes
abbrev pub MayEnd : LineEnding → List ℕ → List ℕ → Type 0
MayEnd lf line rest = (front : List ℕ) → line ≢ front ++ 13 ∷ []
MayEnd cr_lf line rest = Unit {0}
MayEnd text_end line rest = (line ≢ []) × (rest ≡ [])

-- the text begins with this line, and the rest follows what ends it
pub record IsFirstLine (text line rest : List ℕ) : Type 0 where
  pub ending : LineEnding
  pub text_is : text ≡ line ++ (ending_bytes ending ++ rest)
  pub no_lf : ¬ Contains line 10
  pub may_end : MayEnd ending line rest

-- the text is cut into these lines
abbrev pub AreLines : List (List ℕ) → List ℕ → Type 0
AreLines [] text = text ≡ []
AreLines (line ∷ more) text = (rest : List ℕ) × IsFirstLine text line rest × AreLines more rest

-- **lines of a text (`lines_of`)**: a line is ended by LF, by CR and LF, or, if it has bytes, by the end of the text. A
-- line that LF alone ends does not end in CR, and no line has an LF. The lines of a text are its first line and the
-- lines of the rest; none for the empty text. A text is cut in exactly one way.
--
-- the lines of a text, as the standard library computes them
unfoldable pub lines_of : List ℕ → List (List ℕ)
lines_of text = lines text

-- each of the lines is good after those before it
abbrev pub AllAfter : (List (List ℕ) → List ℕ → Type 0) → List (List ℕ) → List (List ℕ) → Type 0
AllAfter Good before [] = Unit {0}
AllAfter Good before (line ∷ more) = Good before line × AllAfter Good (before ++ line ∷ []) more

-- **first faulty line (`IsFirstFaulty`)**: the text begins with some good lines, each judged after those before it, and
-- then has one that is not good. Its number is one more than how many stand before it.
pub record IsFirstFaulty (Good Bad : List (List ℕ) → List ℕ → Type 0) (text : List ℕ) (number : ℕ) : Type 0 where
  pub before : List (List ℕ)
  pub line : List ℕ
  pub after : List (List ℕ)
  pub lines_are : lines_of text ≡ before ++ line ∷ after
  pub number_is : number ≡ length before + 1
  pub good : AllAfter Good [] before
  pub bad : Bad before line
