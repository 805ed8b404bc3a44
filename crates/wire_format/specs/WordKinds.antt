-- Words of a kind: four bytes, most significant first, judged inside the word as its bytes come.
use Rattle.std.specs.Prelude.{◌≡◌, ℕ, ◌<◌, ◌≤◌, ◌^◌, ◌+◌, ◌*◌, ◌||◌, nat_lt, List, [], ◌∷◌, ◌++◌, length, Result, Ok}
use Rattle.std.specs.Prelude.{Err, Option, Some, None, if◌then◌else◌}
use Rattle.std.specs.Int.{w32, from_be_bytes, to_be_bytes}
use Rattle.wire_format.specs.declared.fault.Fault.{Fault}
use Rattle.wire_format.specs.declared.fault.ReadStop.{ReadStop}
use Rattle.wire_format.specs.declared.fault.ReadStop.TheVariants.{More, Bad}
use Rattle.wire_format.specs.declared.word.Word.{Word}
use Rattle.wire_format.specs.declared.word.Word.TheVariants as words
use Rattle.wire_format.specs.Format.{Format, one_byte}

-- **word of a kind (`WordKind`, `IsKind`)**: four bytes, most significant first. A kind says the value or the fault of
-- a whole word. It says the fault, if any, of fewer bytes by the least and the most of the words that begin so: they
-- have a fault only if each of those words has it, and more is wanted only if one of them is good.
pub record WordKind (A : Type 0) : Type 0 where
  -- the value of a whole word, or its fault
  pub judge : ℕ → Result A Fault
  -- the fault, if there is one, of fewer bytes, which begin the words from one number to another
  pub part : ℕ → ℕ → Option Fault

-- the front of bytes, up to a word
pub data WordSplit : Type 0 where
  Whole : ℕ → List ℕ → WordSplit
  Part : ℕ → ℕ → WordSplit

abbrev pub split_at_word : List ℕ → WordSplit
split_at_word [] = Part 0 4294967295
split_at_word (a ∷ []) = Part (from_be_bytes w32 (a ∷ 0 ∷ 0 ∷ 0 ∷ [])) (from_be_bytes w32 (a ∷ 255 ∷ 255 ∷ 255 ∷ []))
split_at_word (a ∷ b ∷ []) = Part (from_be_bytes w32 (a ∷ b ∷ 0 ∷ 0 ∷ [])) (from_be_bytes w32 (a ∷ b ∷ 255 ∷ 255 ∷ []))
split_at_word (a ∷ b ∷ c ∷ []) =
    Part (from_be_bytes w32 (a ∷ b ∷ c ∷ 0 ∷ [])) (from_be_bytes w32 (a ∷ b ∷ c ∷ 255 ∷ []))
split_at_word (a ∷ b ∷ c ∷ d ∷ rest) = Whole (from_be_bytes w32 (a ∷ b ∷ c ∷ d ∷ [])) rest

-- the same, without where the bytes lie in memory
abbrev pub split_view : Word → WordSplit
split_view (words.Whole n rest) = Whole n rest.now
split_view (words.Part least most) = Part least most

abbrev pub judged_whole : {A : Type 0} → Result A Fault → List ℕ → Result (A × List ℕ) ReadStop
judged_whole (Ok x) rest = Ok (x, rest)
judged_whole (Err fault) rest = Err (Bad fault)

abbrev pub stop_of : Option Fault → ReadStop
stop_of None = More one_byte
stop_of (Some fault) = Bad fault

abbrev pub judged_word : {A : Type 0} → WordKind A → WordSplit → Result (A × List ℕ) ReadStop
judged_word K (Whole n rest) = judged_whole (K.judge n) rest
judged_word K (Part least most) = Err (stop_of (K.part least most))

pub record IsWordOf {A : Type 0} (K : WordKind A) (text : List ℕ) (x : A) : Type 0 where
  pub n : ℕ
  pub text_is : text ≡ to_be_bytes w32 n
  pub fits : n < 2 ^ 32
  pub is : K.judge n ≡ Ok x

-- each word that begins so has that fault
pub record IsNoWordOf {A : Type 0} (K : WordKind A) (text : List ℕ) (given : Fault) : Type 0 where
  pub short : length text ≤ 4
  pub all : (behind : List ℕ) (n : ℕ) → text ++ behind ≡ to_be_bytes w32 n → n < 2 ^ 32 → K.judge n ≡ Err given

abbrev pub word_of_kind : {A : Type 0} → WordKind A → Format A
word_of_kind K =
    record { spells = IsWordOf K; spoils = IsNoWordOf K; read = λ bytes. judged_word K (split_at_word bytes) }

-- a number of the kind from least to most
pub record Among {A : Type 0} (K : WordKind A) (least most : ℕ) : Type 0 where
  pub n : ℕ
  pub value : A
  pub above : least ≤ n
  pub below : n ≤ most
  pub is : K.judge n ≡ Ok value

-- What makes a word of the kind lawful.
pub record IsKind {A : Type 0} (K : WordKind A) : Type 0 where
  -- where more bytes are wanted, some number of the kind is among those that begin so; they are 256 at least, from a
  -- multiple of 256
  pub more : (k least most : ℕ) → least ≡ 256 * k → least + 255 ≤ most → most < 2 ^ 32 → K.part least most ≡ None
      → Among K least most
  -- where a fault stands, each of them has that fault, and so does each smaller part
  pub bad : (least most : ℕ) (fault : Fault) → K.part least most ≡ Some fault → (n : ℕ) → least ≤ n → n ≤ most
      → K.judge n ≡ Err fault
  pub less : (least most least' most' : ℕ) (fault : Fault) → K.part least most ≡ Some fault → least ≤ least'
      → least' ≤ most' → most' ≤ most → K.part least' most' ≡ Some fault
  -- nothing yet is no fault
  pub nothing : K.part 0 4294967295 ≡ None

-- a number from low to high; any other has the fault
abbrev pub between : ℕ → ℕ → Fault → WordKind ℕ
between low high fault = record {
  judge = λ n. if nat_lt n low || nat_lt high n then Err fault else Ok n;
  part = λ least most. if nat_lt most low || nat_lt high least then Some fault else None;
}
