-- The table of options that `-A` prints.
use Rattle.std.specs.Prelude.{ℕ, ℤ, ◌/◌, ◌++◌, ◌∷◌, [], Bool, true, false, ◌&&◌, nat_lt, if◌then◌else◌, Option, Some}
use Rattle.std.specs.Prelude.{None, List, map, drop, codes, decimal, pos}
use Rattle.std.specs.Ordering.{int_eq}
use Rattle.std.specs.List.{concat, join_with_byte}
use Rattle.sane_fixed.specs.declared.kind.Kind.{Kind}
use Rattle.sane_fixed.specs.declared.kind.Kind.TheVariants as kinds
use Rattle.sane_fixed.specs.declared.unit.Unit.{Unit}
use Rattle.sane_fixed.specs.declared.unit.Unit.TheVariants as units
use Rattle.constraint.specs.Admitted.{Bounds}
use Rattle.option_desc.specs.declared.descriptor.Constraint.{Constraint}
use Rattle.option_desc.specs.declared.descriptor.Constraint.TheVariants.{Free, Span, Words, Strings}
use Rattle.option_desc.specs.declared.descriptor.Descriptor.{Descriptor}
use Rattle.option_desc.specs.declared.value.Value.{Value}
use Rattle.option_desc.specs.ShownText.{word_text, shown_text}
use Rattle.sane_fixed.specs.Cap.{has_cap}

abbrev pub unit_text : Unit → List ℕ
unit_text units.None = codes ""
unit_text units.Pixel = codes "pel"
unit_text units.Bit = codes "bit"
unit_text units.Mm = codes "mm"
unit_text units.Dpi = codes "dpi"
unit_text units.Percent = codes "%"
unit_text units.Microsecond = codes "us"

-- the values of options of this kind are numbers
abbrev pub has_number_values : Kind → Bool
has_number_values kinds.Bool = false
has_number_values kinds.Int = true
has_number_values kinds.Fixed = true
has_number_values kinds.String = false
has_number_values kinds.Button = false
has_number_values kinds.Group = false

-- numbers of more than one word
abbrev pub is_vector : Descriptor → Bool
is_vector desc = has_number_values desc.kind && nat_lt 4 desc.size

-- the steps, where not all words are admitted
abbrev pub steps_text : Kind → ℤ → List ℕ
steps_text kind quant =
    if int_eq quant (pos 0) then [] else concat (codes " (in steps of " ∷ word_text kind quant ∷ codes ")" ∷ [])

-- MIN..MAX and the unit
abbrev pub option_bounds_text : Descriptor → Bounds → List ℕ
option_bounds_text desc range =
    concat (word_text desc.kind range.min ∷ codes ".." ∷ word_text desc.kind range.max ∷ unit_text desc.unit ∷ [])

-- the bounds, and the steps
abbrev pub option_range_text : Descriptor → Bounds → List ℕ
option_range_text desc range = option_bounds_text desc range ++ steps_text desc.kind range.quant

-- the texts joined by `|`, and the unit
abbrev pub list_text : Descriptor → List (List ℕ) → List ℕ
list_text desc texts = join_with_byte 124 texts ++ unit_text desc.unit

-- what stands for the values of an option that nothing binds
abbrev pub any_value : Kind → List ℕ
any_value kinds.Bool = codes "yes|no"
any_value kinds.Int = codes "<int>"
any_value kinds.Fixed = codes "<fixed>"
any_value kinds.String = codes "<string>"
any_value kinds.Button = codes ""
any_value kinds.Group = codes ""

-- the words of a range or a list, for an option whose values are numbers
abbrev pub numbers_text : Descriptor → Constraint → List ℕ
numbers_text desc Free = any_value desc.kind
numbers_text desc (Span range) = option_range_text desc range
numbers_text desc (Words words) = list_text desc (map (word_text desc.kind) words)
numbers_text desc (Strings texts) = any_value desc.kind

abbrev pub texts_text : Descriptor → Constraint → List ℕ
texts_text desc Free = any_value desc.kind
texts_text desc (Span range) = any_value desc.kind
texts_text desc (Words words) = any_value desc.kind
texts_text desc (Strings texts) = list_text desc texts

-- the values that an option may have, by the kind of its values: a constraint of another kind binds nothing
abbrev pub bound_text : Kind → Descriptor → List ℕ
bound_text kinds.Bool desc = any_value desc.kind
bound_text kinds.Int desc = numbers_text desc desc.constraint
bound_text kinds.Fixed desc = numbers_text desc desc.constraint
bound_text kinds.String desc = texts_text desc desc.constraint
bound_text kinds.Button desc = any_value desc.kind
bound_text kinds.Group desc = any_value desc.kind

abbrev pub more_text : Descriptor → List ℕ
more_text desc = if is_vector desc then codes ",..." else codes ""

abbrev pub value_or_unknown : Descriptor → Option Value → List ℕ
value_or_unknown desc None = codes "unknown"
value_or_unknown desc (Some value) = shown_text desc value

-- what stands in brackets as an option's value: 32 is the bit of an inactive option, 4 that of one that can be read
abbrev pub option_value_text : Descriptor → Option Value → List ℕ
option_value_text desc value =
    if has_cap desc.caps.0 32 then codes "inactive"
    else (if is_vector desc && has_cap desc.caps.0 4 then decimal (desc.size / 4) ++ codes " values"
    else value_or_unknown desc value)

-- 1 is the bit of an option that can be set
abbrev pub read_only_text : Descriptor → List ℕ
read_only_text desc = if has_cap desc.caps.0 1 then codes "" else codes " [read-only]"

abbrev pub valued_line : Descriptor → Option Value → List ℕ
valued_line desc value =
    concat (codes "    --" ∷ desc.name ∷ codes " " ∷ bound_text desc.kind desc ∷ more_text desc
    ∷ codes " [" ∷ option_value_text desc value ∷ codes "]" ∷ read_only_text desc ∷ codes "\n" ∷ [])

-- a group by its title, an action by its name, and all else with its values
abbrev pub line_of_kind : Kind → Descriptor → Option Value → List ℕ
line_of_kind kinds.Group desc value = concat (codes "  " ∷ desc.title ∷ codes ":\n" ∷ [])
line_of_kind kinds.Button desc value = concat (codes "    --" ∷ desc.name ∷ codes "\n" ∷ [])
line_of_kind kinds.Bool desc value = valued_line desc value
line_of_kind kinds.Int desc value = valued_line desc value
line_of_kind kinds.Fixed desc value = valued_line desc value
line_of_kind kinds.String desc value = valued_line desc value

abbrev pub option_line : Descriptor × Option Value → List ℕ
option_line option = line_of_kind option.0.kind option.0 option.1

-- **the table (`table_text`, `option_line`)**: a line with the device's name, then a line for each option but the
-- first: a group's title; an action's name; else the name, the values that it may have, and in brackets the one that it
-- has (`inactive`; the count of a vector that can be read; `unknown` where none is told), and `[read-only]` where it
-- cannot be set. The values are a range with its unit and steps, or a list joined by `|` with its unit, or a word for
-- all values of the kind, `,...` behind those of a vector; a constraint of another kind binds nothing.
abbrev pub table_text : List ℕ → List (Descriptor × Option Value) → List ℕ
table_text name options =
    concat (codes "All options specific to device `" ∷ name ∷ codes "':\n" ∷ map option_line (drop 1 options))
