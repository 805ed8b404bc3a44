-- A format: which texts of bytes spell which values, and how a text is read from the left.
use Rattle.std.specs.Prelude.{◌≡◌, ◌⊎◌, ℕ, zero, suc, ◌<◌, ◌≤◌, ◌-◌, Bool, not, ◌||◌, nat_lt, List, [], ◌∷◌, ◌++◌}
use Rattle.std.specs.Prelude.{length, take, drop, slice_index, Result, Ok, Err, if◌then◌else◌}
use Rattle.std.specs.List.{list_all, AllByRecursion}
use Rattle.wire_format.specs.declared.fault.Fault.{Fault}
use Rattle.wire_format.specs.declared.fault.Fault.TheVariants.{BadValue}
use Rattle.wire_format.specs.declared.fault.MissingBytes.{MissingBytes}
use Rattle.wire_format.specs.declared.fault.ReadStop.{ReadStop}
use Rattle.wire_format.specs.declared.fault.ReadStop.TheVariants.{More, Bad}
use Rattle.wire_format.specs.declared.fault.ReadError.{ReadError}
use Rattle.wire_format.specs.declared.fault.ReadError.TheVariants as errors

-- **format (`Format`)**: which texts spell which values; which texts end in the first word or byte at which no spelling
-- stands, with what fault; and its reading from the left: a value and the rest, or more is wanted, or a fault.
pub record Format (A : Type 0) : Type 1 where
  -- the text is a spelling of the value
  pub spells : List ℕ → A → Type 0
  -- the text ends in the first word or byte at which no spelling stands, and this fault is of that one
  pub spoils : List ℕ → Fault → Type 0
  -- a value and the rest behind it, or why there is none
  pub read : List ℕ → Result (A × List ℕ) ReadStop

infixl 10 ◌>>=◌
abbrev pub ◌>>=◌ : {A B : Type 0} → Result A ReadStop → (A → Result B ReadStop) → Result B ReadStop
(Ok x) >>= f = f x
(Err e) >>= f = Err e

-- What a function returned, seen by view, is what reading gives, unless memory ran out.
abbrev pub ReadingFails : {Y : Type 0} → ReadError → Result Y ReadStop → Type 0
ReadingFails errors.Memory read = Unit {0}
ReadingFails (errors.Stop s) read = read ≡ Err s

abbrev pub Gives : {X Y : Type 0} → (X → Y) → Result X ReadError → Result Y ReadStop → Type 0
Gives view (Ok x) read = read ≡ Ok (view x)
Gives view (Err e) read = ReadingFails e read

-- each of them is a byte
abbrev pub IsBytes : List ℕ → Type 0
IsBytes bytes = (i : ℕ) → slice_index bytes i < 256

-- nothing, for a value that is known

abbrev pub pure_format : {A : Type 0} → A → Format A
pure_format a =
    record { spells = λ text b. (text ≡ []) × (b ≡ a); spoils = λ text fault. ⊥; read = λ bytes. Ok (a, bytes) }

-- nothing is spelled, since a fault stands before the first byte

abbrev pub fail_format : {A : Type 0} → Fault → Format A
fail_format fault =
    record {
      spells = λ text a. ⊥;
      spoils = λ text given. (text ≡ [])
          × (given ≡ fault);
      read = λ bytes. Err (Bad fault);
    }

-- one after another, where the first value may say what stands behind it

pub record Parts {A B : Type 0} (F : List ℕ → A → Type 0) (G : A → List ℕ → B → Type 0) (text : List ℕ)
    (b : B) : Type 0 where
  pub first : A
  pub front : List ℕ
  pub back : List ℕ
  pub whole : text ≡ front ++ back
  pub in_front : F front first
  pub behind : G first back b

abbrev pub after : {A B : Type 0} → Format A → (A → Format B) → Format B
after F G = record {
  spells = λ text b. Parts F.spells (λ a. (G a).spells) text b;
  spoils = λ text fault. F.spoils text fault ⊎ Parts F.spells (λ a. (G a).spoils) text fault;
  read = λ bytes. F.read bytes >>= λ x. (G x.0).read x.1;
}

-- a value that is made of another

abbrev pub map_format : {A B : Type 0} → (A → B) → Format A → Format B
map_format make F = after F (λ a. pure_format (make a))

-- a value at each of n places

unfoldable pub places : {A : Type 0} → ℕ → Format A → Format (List A)
places zero F = pure_format []
places (suc n) F = after F (λ a. after (places n F) (λ others. pure_format (a ∷ others)))

-- a byte from low to high

pub record IsByteBetween (low high : ℕ) (text : List ℕ) (b : ℕ) : Type 0 where
  pub text_is : text ≡ b ∷ []
  pub fits : b < 256
  pub from : low ≤ b
  pub to : b ≤ high

pub record IsNoByteBetween (low high : ℕ) (text : List ℕ) (given : Fault) : Type 0 where
  pub given_is : given ≡ BadValue
  pub byte : ℕ
  pub text_is : text ≡ byte ∷ []
  pub outside : (byte < low) ⊎ (high < byte)

-- one byte is wanted, whichever
abbrev pub one_byte : MissingBytes
one_byte = record { count = 1; least = 0 }

abbrev pub byte_at : ℕ → ℕ → List ℕ → Result (ℕ × List ℕ) ReadStop
byte_at low high [] = Err (More one_byte)
byte_at low high (b ∷ rest) = if nat_lt b low || nat_lt high b then Err (Bad BadValue) else Ok (b, rest)

abbrev pub byte_between : ℕ → ℕ → Format ℕ
byte_between low high =
    record { spells = IsByteBetween low high; spoils = IsNoByteBetween low high; read = byte_at low high }

-- so many bytes, none of them below the least

pub record IsByteRun (least count : ℕ) (text value : List ℕ) : Type 0 where
  pub is : value ≡ text
  pub fits : IsBytes text
  pub long : length text ≡ count
  pub from : AllByRecursion (λ b. least ≤ b) text

pub record IsNoByteRun (least count : ℕ) (text : List ℕ) (given : Fault) : Type 0 where
  pub given_is : given ≡ BadValue
  pub front : List ℕ
  pub byte : ℕ
  pub text_is : text ≡ front ++ byte ∷ []
  pub inside : length front < count
  pub from : AllByRecursion (λ b. least ≤ b) front
  pub below : byte < least

abbrev pub is_from : ℕ → ℕ → Bool
is_from least b = not (nat_lt b least)

abbrev pub run_at : ℕ → ℕ → List ℕ → Result (List ℕ × List ℕ) ReadStop
run_at least count bytes =
    if not (list_all (is_from least) (take count bytes)) then Err (Bad BadValue)
    else if nat_lt (length bytes) count then Err (More (record { count = count - length bytes; least = least }))
    else Ok (take count bytes, drop count bytes)

abbrev pub run : ℕ → ℕ → Format (List ℕ)
run least count = record { spells = IsByteRun least count; spoils = IsNoByteRun least count; read = run_at least count }
