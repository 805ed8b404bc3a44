-- The password in a file.
use Rattle.std.specs.Prelude.{ℕ, List, [], ◌∷◌}
use Rattle.text_lines.specs.Lines.{lines_of}

abbrev pub head_or_none : List (List ℕ) → List ℕ
head_or_none [] = []
head_or_none (line ∷ lines) = line

-- **the password in a file (`first_line_of`)**: the first line of its first 1,026 bytes, and nothing of an empty file.
abbrev pub first_line_of : List ℕ → List ℕ
first_line_of text = head_or_none (lines_of text)
