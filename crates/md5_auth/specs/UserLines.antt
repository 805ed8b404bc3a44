-- The lines of a users file, `user:password:backend`, and why a line is refused.
use Rattle.std.specs.Prelude.{ℕ, ◌+◌, ◌<◌, ◌≤◌, ◌≡◌, ◌≢◌, ◌==◌, ◌⊎◌, Bool, true, false, List, [], ◌∷◌, ◌++◌, length}
use Rattle.std.specs.Prelude.{Contains, All, count_by, filter}
use Rattle.std.specs.List.{AllZip}
use Rattle.text_lines.specs.declared.limits.Limits.{Limits}
use Rattle.text_lines.specs.Lines.{lines_of, AllAfter, IsFirstFaulty}
use Rattle.text_lines.specs.Limits.{IsWithin}
use Rattle.md5_auth.specs.declared.line_fault.LineReason.{LineReason}
use Rattle.md5_auth.specs.declared.line_fault.LineReason.TheVariants.{TooMany, TooLong, BadByte, Colons, EmptyField}
use Rattle.md5_auth.specs.declared.line_fault.LineReason.TheVariants.{NoMem}
use Rattle.md5_auth.specs.declared.users.Entry.{Entry}

-- a users file has at most 256 lines of at most 256 bytes
abbrev pub users_limits : Limits
users_limits = record { lines = 256; bytes = 256 }

-- the bytes 20 to 7E (hexadecimal)
abbrev pub IsPrintable : ℕ → Type 0
IsPrintable byte = (32 ≤ byte) × (byte ≤ 126)

-- exactly two bytes are colons
abbrev pub HasTwoColons : List ℕ → Type 0
HasTwoColons line = count_by (λ byte. byte == 58) line ≡ 2

-- the line is these fields joined by colons, and no field has one
pub record AreFields (line user password backend : List ℕ) : Type 0 where
  pub line_is : line ≡ user ++ 58 ∷ (password ++ 58 ∷ backend)
  pub user_free : ¬ Contains user 58
  pub password_free : ¬ Contains password 58
  pub backend_free : ¬ Contains backend 58

-- the same, and user and backend are not empty
pub record AreEntryFields (line user password backend : List ℕ) : Type 0 where
  pub fields : AreFields line user password backend
  pub user_some : user ≢ []
  pub backend_some : backend ≢ []

-- the line is the entry's
abbrev pub IsEntryLine : List ℕ → Entry → Type 0
IsEntryLine line entry = AreEntryFields line entry.user entry.password entry.backend

-- the new entries are the old ones and, unless the line is empty, the line's
abbrev pub AddsEntry : List ℕ → List Entry → List Entry → Type 0
AddsEntry line old new = ((line ≡ []) × (new ≡ old))
    ⊎ ((entry : Entry) × IsEntryLine line entry × (new ≡ old ++ entry ∷ []))

-- the line of that number, counted from 1, may stand in a users file
pub record IsGood (number : ℕ) (line : List ℕ) : Type 0 where
  pub within : IsWithin users_limits number line
  pub printable : All IsPrintable line
  pub fields : (line ≡ []) ⊎ ((user password backend : List ℕ) × AreEntryFields line user password backend)

-- The line of that number is refused for the reason, and for none that is tested before it. Where memory ran out, the
-- line is good and has an entry.
abbrev pub HasReason : LineReason → ℕ → List ℕ → Type 0
HasReason TooMany number line = 256 < number
HasReason TooLong number line = (number ≤ 256) × (256 < length line)
HasReason BadByte number line = IsWithin users_limits number line × (¬ All IsPrintable line)
HasReason Colons number line = IsWithin users_limits number line × All IsPrintable line × (line ≢ [])
    × (¬ HasTwoColons line)
HasReason EmptyField number line = IsWithin users_limits number line × All IsPrintable line
    × ((user password backend : List ℕ) × AreFields line user password backend × ((user ≡ []) ⊎ (backend ≡ [])))
HasReason NoMem number line = IsGood number line × (line ≢ [])

abbrev pub is_some_line : List ℕ → Bool
is_some_line [] = false
is_some_line (byte ∷ bytes) = true

-- **users file (`TellsUsers`, `HasLineFault`)**: at most 256 lines of at most 256 bytes 20 to 7E (hexadecimal). Each is
-- empty, or `user:password:backend` with exactly two colons, user and backend not empty. Its entries are those of the
-- lines that are not empty, in order. A file is refused for its first refused line, a line for the first reason in the
-- order: too many lines, line too long, bad byte, wrong number of fields, empty field.
--
-- each line of the text may stand in a users file, and those that are not empty are the lines of these entries, in
-- order
pub record TellsUsers (text : List ℕ) (entries : List Entry) : Type 0 where
  pub good : AllAfter (λ before line. IsGood (length before + 1) line) [] (lines_of text)
  pub entries_are : AllZip IsEntryLine (filter is_some_line (lines_of text)) entries

-- the line of that number is the first that is refused, for that reason
abbrev pub HasLineFault : List ℕ → ℕ → LineReason → Type 0
HasLineFault text number reason =
    IsFirstFaulty (λ before line. IsGood (length before + 1) line) (λ before line.
    HasReason reason (length before + 1) line) text number
