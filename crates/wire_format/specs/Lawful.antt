-- The laws of a format.
use Rattle.std.specs.Prelude.{◌≡◌, ℕ, ◌<◌, ◌≤◌, ◌-◌, List, [], ◌++◌, length, Ok, Err}
use Rattle.std.specs.List.{AllByRecursion}
use Rattle.wire_format.specs.declared.fault.Fault.{Fault}
use Rattle.wire_format.specs.declared.fault.MissingBytes.{MissingBytes}
use Rattle.wire_format.specs.declared.fault.ReadStop.TheVariants.{More, Bad}
use Rattle.wire_format.specs.Format.{Format, IsBytes}

-- the bytes are a spelling of the value, and then the rest
pub record SpellsFront {A : Type 0} (F : Format A) (bytes rest : List ℕ) (a : A) : Type 0 where
  pub text : List ℕ
  pub whole : bytes ≡ text ++ rest
  pub spelled : F.spells text a

-- the bytes and others behind them are a spelling
pub record BeginsSpelling {A : Type 0} (F : Format A) (bytes : List ℕ) : Type 0 where
  pub behind : List ℕ
  pub value : A
  pub spelled : F.spells (bytes ++ behind) value

-- a front of the bytes is spoiled by a fault
pub record HasSpoiledFront {A : Type 0} (F : Format A) (bytes : List ℕ) (fault : Fault) : Type 0 where
  pub front : List ℕ
  pub rest : List ℕ
  pub whole : bytes ≡ front ++ rest
  pub spoiled : F.spoils front fault

-- **wanted (`MissingBytes`, `IsStillWaiting`)**: a number of bytes without which there is no value, and a least byte:
-- until as many have come, only a byte below it changes what reading tells.
--
-- fewer bytes than are wanted, none of them below the least
pub record IsStillWaiting (wanted : MissingBytes) (more : List ℕ) : Type 0 where
  pub fewer : length more < wanted.count
  pub from : AllByRecursion (λ b. wanted.least ≤ b) more

-- what is wanted when so many bytes have come
abbrev pub still_missing : MissingBytes → ℕ → MissingBytes
still_missing wanted count = record { count = wanted.count - count; least = wanted.least }

-- **the laws of reading (`ReaderIsExact`, `Lawful`)**: what is read is spelled and what is spelled is read, whatever
-- follows. More is wanted only if a spelling has begun. A fault is that of the first unit at which none stands, and
-- stays.
pub record ReaderIsExact {A : Type 0} (F : Format A) : Type 0 where
  -- what is read is spelled, and the rest stands behind it
  pub sound : (bytes rest : List ℕ) (a : A) → IsBytes bytes → F.read bytes ≡ Ok (a, rest) → SpellsFront F bytes rest a
  -- what is spelled is read, whatever follows
  pub complete : (text rest : List ℕ) (a : A) → F.spells text a → F.read (text ++ rest) ≡ Ok (a, rest)
  -- more bytes are wanted only where the bytes begin a spelling
  pub more : (bytes : List ℕ) (wanted : MissingBytes) → IsBytes bytes → F.read bytes ≡ Err (More wanted)
      → BeginsSpelling F bytes
  -- without as many as are wanted there is no value
  pub wants : (bytes behind : List ℕ) (wanted : MissingBytes) (a : A) → IsBytes bytes → F.read bytes ≡ Err (More wanted)
      → F.spells (bytes ++ behind) a → wanted.count ≤ length behind
  -- and until they have come nothing else is to be told, unless one is below the least
  pub waits : (bytes more : List ℕ) (wanted : MissingBytes) → IsBytes (bytes ++ more) → F.read bytes ≡ Err (More wanted)
      → IsStillWaiting wanted more → F.read (bytes ++ more) ≡ Err (More (still_missing wanted (length more)))
  -- a fault is that of the first word or byte at which no spelling stands
  pub bad : (bytes : List ℕ) (fault : Fault) → IsBytes bytes → F.read bytes ≡ Err (Bad fault)
      → HasSpoiledFront F bytes fault
  -- and it stands, whatever follows
  pub spoiled : (text rest : List ℕ) (fault : Fault) → IsBytes (text ++ rest) → F.spoils text fault
      → F.read (text ++ rest) ≡ Err (Bad fault)
  -- spellings are bytes
  pub bytes : (text : List ℕ) (a : A) → F.spells text a → IsBytes text

-- the same of a format that spells something
pub record Lawful {A : Type 0} (F : Format A) : Type 0 where
  pub reads : ReaderIsExact F
  pub some : BeginsSpelling F []
