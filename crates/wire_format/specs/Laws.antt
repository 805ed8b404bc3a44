-- What laws of this crate say.
use Rattle.std.specs.Prelude.{◌≡◌, ◌≤◌, ◌++◌, ℕ, List, length, Err}
use Rattle.wire_format.specs.declared.fault.MissingBytes.{MissingBytes as AnyWanted}
use Rattle.wire_format.specs.declared.fault.ReadStop.TheVariants.{More}
use Rattle.wire_format.specs.Format.{Format, IsBytes}
use Rattle.wire_format.specs.Lawful.{IsStillWaiting, still_missing}
use Rattle.wire_format.specs.Limit.{limited_format}

-- until as many bytes as are wanted have come nothing else is told, unless one is below the least
abbrev pub WaitsWithinALimit : {A : Type 0} → ℕ → Format A → Type 0
WaitsWithinALimit {A = A} limit format = (bytes more : List ℕ) (wanted : AnyWanted) → IsBytes (bytes ++ more)
    → (limited_format limit format).read bytes ≡ Err (More wanted) → IsStillWaiting wanted more
    → length (bytes ++ more) ≤ limit
    → (limited_format limit format).read (bytes ++ more) ≡ Err (More (still_missing wanted (length more)))
