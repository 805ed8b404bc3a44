-- The options that a show tells of: each with its value where that is told.
use Rattle.std.specs.Prelude.{ℕ, ◌≡◌, if◌then◌else◌, Option, Some, None, option_map, List, slice_get}
use Rattle.option_desc.specs.declared.descriptor.Descriptor.{Descriptor}
use Rattle.option_desc.specs.declared.value.Value.{Value}
use Rattle.system_model.specs.Devices.{Make, OptionsInForce, is_readable, readable_value}

-- option n of this descriptor
abbrev pub shown_at : Make → OptionsInForce → ℕ → Descriptor → Descriptor × Option Value
shown_at make in_force n desc = (desc, if is_readable desc then Some (readable_value make in_force n) else None)

-- **filled (`IsFilled`)**: at each number the descriptor of that option, with its value where that is told, and nothing
-- behind the last.
abbrev pub IsFilled : Make → OptionsInForce → List Descriptor → List (Descriptor × Option Value) → Type 0
IsFilled make in_force descriptors options = (n : ℕ)
    → slice_get options n ≡ option_map (shown_at make in_force n) (slice_get descriptors n)
