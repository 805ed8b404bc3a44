-- Writing: the one text of a value that is written, or why there is none.
use Rattle.std.specs.Prelude.{◌≡◌, ℕ, zero, suc, ◌<◌, ◌^◌, Bool, true, false, ◌||◌, ◌&&◌, ◌==◌, nat_lt, List, [], ◌∷◌}
use Rattle.std.specs.Prelude.{◌++◌, length, Result, Ok, Err, Option, Some, None, if◌then◌else◌}
use Rattle.std.specs.List.{list_all}
use Rattle.std.specs.Int.{w32, to_be_bytes}
use Rattle.wire_format.specs.declared.fault.Fault.{Fault}
use Rattle.wire_format.specs.declared.fault.Fault.TheVariants as faults
use Rattle.wire_format.specs.declared.fault.WriteError.{WriteError}
use Rattle.wire_format.specs.declared.fault.WriteError.TheVariants as errors
use Rattle.wire_format.specs.Format.{Format, is_from}
use Rattle.wire_format.specs.WordKinds.{WordKind}

-- **writer (`Writer`, `WritesFormat`, `encoding_or_fault`, `IsLong`)**: whether a value passes a limit, and the one
-- text of it that is written, if there is one.
pub record Writer (A : Type 0) : Type 0 where
  -- whether the value passes a limit
  pub long : A → Bool
  -- its text, where it has one
  pub text : A → Option (List ℕ)

abbrev pub text_or_fault : Option (List ℕ) → Result (List ℕ) Fault
text_or_fault (Some text) = Ok text
text_or_fault None = Err faults.BadValue

-- what is answered: that a limit is passed goes before that nothing spells the value
abbrev pub encoding_or_fault : {A : Type 0} → Writer A → A → Result (List ℕ) Fault
encoding_or_fault W a = if W.long a then Err faults.TooLong else text_or_fault (W.text a)

-- What makes a writer that of a format, at a value.
pub record WritesFormat {A : Type 0} (F : Format A) (W : Writer A) (a : A) : Type 0 where
  -- what is written is a spelling of the value
  pub spelled : (text : List ℕ) → W.text a ≡ Some text → F.spells text a
  -- where a limit is passed nothing is written
  pub past : W.long a ≡ true → W.text a ≡ None
  -- if nothing is written and no limit is passed, there is no spelling
  pub none : W.long a ≡ false → W.text a ≡ None → (text : List ℕ) → F.spells text a → ⊥

-- one text and then another
abbrev pub append_text : Option (List ℕ) → Option (List ℕ) → Option (List ℕ)
append_text None back = None
append_text (Some front) None = None
append_text (Some front) (Some back) = Some (front ++ back)

-- nothing

abbrev pub write_nothing : {A : Type 0} → Writer A
write_nothing = record { long = λ a. false; text = λ a. Some [] }

-- what is refused

abbrev pub write_none : {A : Type 0} → Writer A
write_none = record { long = λ a. false; text = λ a. None }

-- one after another, by the part of the value that stands first

abbrev pub write_after : {A B : Type 0} → (B → A) → Writer A → (A → Writer B) → Writer B
write_after part W V = record {
  long = λ b. W.long (part b) || (V (part b)).long b;
  text = λ b. append_text (W.text (part b)) ((V (part b)).text b);
}

-- A value whose spelling begins with some first part is spelled with its own part first.
abbrev pub IsFirstPart : {A B : Type 0} → (B → A) → Format A → (A → Format B) → B → Type 0
IsFirstPart {A = A} part F G b = (a : A) (front back : List ℕ) → F.spells front a → (G a).spells back b
    → ((own : List ℕ) × F.spells own (part b)) × ((own : List ℕ) × (G (part b)).spells own b)

-- a value that is made of another, by what it is made of

abbrev pub write_by : {A B : Type 0} → (B → A) → Writer A → Writer B
write_by part W = record { long = λ b. W.long (part b); text = λ b. W.text (part b) }

-- what a value is made of makes it again, and where another spelled value makes it too, it is spelled itself
pub record IsMadeOf {A B : Type 0} (part : B → A) (F : Format A) (make : A → B) (b : B) : Type 0 where
  pub again : make (part b) ≡ b
  pub own : (text : List ℕ) (a : A) → F.spells text a → b ≡ make a → (other : List ℕ) × F.spells other (part b)

-- a value at each of n places

abbrev pub first_long : {A : Type 0} → Writer A → Writer (List A) → List A → Bool
first_long W V [] = false
first_long W V (a ∷ others) = W.long a || V.long others

abbrev pub first_text : {A : Type 0} → Writer A → Writer (List A) → List A → Option (List ℕ)
first_text W V [] = None
first_text W V (a ∷ others) = append_text (W.text a) (V.text others)

abbrev pub no_text : {A : Type 0} → List A → Option (List ℕ)
no_text [] = Some []
no_text (a ∷ others) = None

abbrev pub write_no_places : {A : Type 0} → Writer (List A)
write_no_places = record { long = λ all. false; text = no_text }

unfoldable pub write_places : {A : Type 0} → ℕ → Writer A → Writer (List A)
write_places zero W = write_no_places
write_places (suc n) W = record { long = first_long W (write_places n W); text = first_text W (write_places n W) }

-- a word of a kind, by the number of each value

abbrev pub is_too_long : {A : Type 0} → Result A Fault → Bool
is_too_long (Ok a) = false
is_too_long (Err faults.TooLong) = true
is_too_long (Err faults.BadCode) = false
is_too_long (Err faults.BadValue) = false

abbrev pub bytes_of_word : {A : Type 0} → ℕ → Result A Fault → Option (List ℕ)
bytes_of_word n (Ok a) = Some (to_be_bytes w32 n)
bytes_of_word n (Err fault) = None

abbrev pub write_word : {A : Type 0} → WordKind A → (A → ℕ) → Writer A
write_word K number =
    record { long = λ a. is_too_long (K.judge (number a)); text = λ a. bytes_of_word (number a) (K.judge (number a)) }

-- the number of a value is one of a word that is judged to be the value, if there is any
pub record IsNumbering {A : Type 0} (K : WordKind A) (number : A → ℕ) : Type 0 where
  pub back : (a b : A) → K.judge (number a) ≡ Ok b → (number a < 2 ^ 32) × (b ≡ a)
  pub all : (n : ℕ) (a : A) → n < 2 ^ 32 → K.judge n ≡ Ok a → K.judge (number a) ≡ Ok a

-- a byte

abbrev pub write_byte : ℕ → ℕ → Writer ℕ
write_byte low high =
    record { long = λ b. false; text = λ b. if nat_lt b low || nat_lt high b then None else Some (b ∷ []) }

-- a run of bytes

abbrev pub may_run : ℕ → ℕ → Bool
may_run least b = is_from least b && nat_lt b 256

abbrev pub write_run : ℕ → ℕ → Writer (List ℕ)
write_run least count =
    record {
      long = λ bytes. false;
      text =
          λ bytes. if list_all (may_run least) bytes && (length bytes == count) then Some bytes else None;
    }

-- at most so many bytes

abbrev pub exceeds : ℕ → Option (List ℕ) → Bool
exceeds n (Some text) = nat_lt n (length text)
exceeds n None = false

abbrev pub write_limited : {A : Type 0} → ℕ → Writer A → Writer A
write_limited n W = record {
  long = λ a. W.long a || exceeds n (W.text a);
  text = λ a. if exceeds n (W.text a) then None else W.text a;
}

-- the value passes a limit, or its text does
abbrev pub IsLong : {A : Type 0} → ℕ → Writer A → A → Type 0
IsLong n W a = (write_limited n W).long a ≡ true

-- What a function that writes behind other bytes returned, where the text is the value's, if it has one.
abbrev pub behind : List ℕ → Option (List ℕ) → Option (List ℕ)
behind old None = None
behind old (Some text) = Some (old ++ text)

abbrev pub PutsBehind : {U : Type 0} → Result U WriteError → List ℕ → List ℕ → Option (List ℕ) → Type 0
PutsBehind (Ok _) old new text = behind old text ≡ Some new
PutsBehind (Err errors.Memory) old new text = Unit {0}
PutsBehind (Err errors.Unspelled) old new text = text ≡ None
