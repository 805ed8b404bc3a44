-- How a call that wants memory answers for a value that may not be there.
use Rattle.std.specs.Prelude.{Option, IsSome, IsNone}
use Rattle.sane_fixed.specs.declared.status.Status.{Status}
use Rattle.sane_fixed.specs.declared.status.Status.TheVariants.{Inval, NoMem}

-- INVAL where there is no value, NO_MEM only where there is one, and nothing else
abbrev pub Refuses : {A : Type 0} → Status → Option A → Type 0
Refuses Inval value = IsNone value
Refuses NoMem value = IsSome value
Refuses _ value = ⊥
