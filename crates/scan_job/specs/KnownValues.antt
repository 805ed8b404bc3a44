-- The options whose values a job that shows the options reads.
use Rattle.std.specs.Prelude.{ℕ, ◌==◌, ◌&&◌, Bool, true, false, not, Option, Some, None, List, slice_get, slice_set}
use Rattle.sane_fixed.specs.declared.kind.Kind.{Kind}
use Rattle.sane_fixed.specs.declared.kind.Kind.TheVariants.{Bool as BoolKind, Int, Fixed, String, Button, Group}
use Rattle.option_desc.specs.declared.descriptor.Descriptor.{Descriptor}
use Rattle.option_desc.specs.declared.value.Value.{Value}
use Rattle.sane_fixed.specs.Cap.{has_cap}

-- an option of that kind and size in bytes has one value
abbrev pub has_one_value : Kind → ℕ → Bool
has_one_value BoolKind size = true
has_one_value Int size = size == 4
has_one_value Fixed size = size == 4
has_one_value String size = true
has_one_value Button size = false
has_one_value Group size = false

-- the option is active and can be read, and has one value
abbrev pub tells_value : Descriptor → Bool
tells_value desc = not (has_cap desc.caps.0 32) && (has_cap desc.caps.0 4 && has_one_value desc.kind desc.size)

-- the options, of which the one at that place has that value
abbrev pub with_known_value : ℕ → Value → List (Descriptor × Option Value) → List (Descriptor × Option Value)
with_known_value n value known =
    elim (slice_get known n) [ None ↦ known | Some option ↦ slice_set known n (option.0, Some value) ]
