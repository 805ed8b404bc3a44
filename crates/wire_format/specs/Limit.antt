-- At most so many bytes.
use Rattle.std.specs.Prelude.{◌≡◌, ◌⊎◌, ℕ, ◌<◌, ◌≤◌, ◌+◌, Bool, nat_lt, List, ◌++◌, length, take, drop, Result, Ok, Err}
use Rattle.std.specs.Prelude.{if◌then◌else◌}
use Rattle.wire_format.specs.declared.fault.Fault.{Fault}
use Rattle.wire_format.specs.declared.fault.Fault.TheVariants.{TooLong}
use Rattle.wire_format.specs.declared.fault.ReadStop.{ReadStop}
use Rattle.wire_format.specs.declared.fault.ReadStop.TheVariants.{More, Bad}
use Rattle.wire_format.specs.declared.fault.ReadError.{ReadError}
use Rattle.wire_format.specs.declared.fault.ReadError.TheVariants as errors
use Rattle.wire_format.specs.Format.{Format}
use Rattle.wire_format.specs.Lawful.{BeginsSpelling, HasSpoiledFront}

-- where the bytes go past the limit, more than they have are too many
abbrev pub past_limit : Bool → ReadStop → ReadStop
past_limit past (More wanted) = if past then Bad TooLong else More wanted
past_limit past (Bad fault) = Bad fault

abbrev pub past_limit_error : Bool → ReadError → ReadError
past_limit_error past errors.Memory = errors.Memory
past_limit_error past (errors.Stop stop) = errors.Stop (past_limit past stop)

abbrev pub on_rest : {A : Type 0} → List ℕ → Bool → Result (A × List ℕ) ReadStop → Result (A × List ℕ) ReadStop
on_rest behind past (Ok x) = Ok (x.0, x.1 ++ behind)
on_rest behind past (Err stop) = Err (past_limit past stop)

-- **limit (`limited_format`, `NeedsMore`, `IsNoStart`, `IsFirstFault`)**: the spellings of at most so many bytes;
-- reading looks at no byte behind them; past the limit to want more is `TooLong`.
unfoldable pub limited_format : {A : Type 0} → ℕ → Format A → Format A
limited_format n F = record {
  spells = λ text a. (length text ≤ n) × F.spells text a;
  spoils = λ text fault. ((length text ≤ n) × F.spoils text fault)
      ⊎ ((fault ≡ TooLong) × (length text ≡ n + 1) × BeginsSpelling F (take n text));
  read = λ bytes. on_rest (drop n bytes) (nat_lt n (length bytes)) (F.read (take n bytes));
}

-- the bytes are within the limit, and a spelling goes on behind them (the limit of that one left aside)
pub record NeedsMore {A : Type 0} (n : ℕ) (F : Format A) (bytes : List ℕ) : Type 0 where
  pub within : length bytes ≤ n
  pub behind : List ℕ
  pub value : A
  pub spelled : F.spells (bytes ++ behind) value
  pub proper : 0 < length behind

-- no front of the bytes is a spelling
abbrev pub NoneStarts : {A : Type 0} → Format A → List ℕ → Type 0
NoneStarts {A = A} F bytes = (text rest : List ℕ) (a : A) → bytes ≡ text ++ rest → F.spells text a → ⊥

-- the bytes begin no spelling
abbrev pub BeginNone : {A : Type 0} → Format A → List ℕ → Type 0
BeginNone {A = A} F bytes = (behind : List ℕ) (a : A) → F.spells (bytes ++ behind) a → ⊥

-- no front of the bytes is a spelling, and they are past the limit or begin none
abbrev pub IsNoStart : {A : Type 0} → ℕ → Format A → List ℕ → Type 0
IsNoStart n F bytes = NoneStarts (limited_format n F) bytes × ((n < length bytes) ⊎ BeginNone F bytes)

-- The first word or byte at which no spelling stands makes the fault. Past the limit none stands.
abbrev pub IsFirstFault : {A : Type 0} → ℕ → Format A → List ℕ → Fault → Type 0
IsFirstFault n F bytes fault = HasSpoiledFront F (take n bytes) fault
    ⊎ ((fault ≡ TooLong) × (n < length bytes) × BeginsSpelling F (take n bytes))
