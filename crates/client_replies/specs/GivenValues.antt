-- What a reply gives in place of a value, and what is sent where one is asked for.
use Rattle.std.specs.Prelude.{ℕ, ℤ, ◌==◌, if◌then◌else◌, Option, Some, None, option_map, List, [], ◌∷◌, map, length}
use Rattle.std.specs.Prelude.{replicate, min}
use Rattle.std.specs.Int.{w32, cast_signed}
use Rattle.sane_fixed.specs.declared.kind.Kind.{Kind}
use Rattle.sane_fixed.specs.declared.kind.Kind.TheVariants as kinds
use Rattle.option_desc.specs.declared.value.Value.{Value}
use Rattle.option_desc.specs.declared.value.Value.TheVariants.{Flag, Int, Fixed, Words, Text}
use Rattle.wire_message.specs.declared.message.WireValue.{WireValue}
use Rattle.wire_message.specs.declared.message.WireValue.TheVariants as wire
use Rattle.wire_message.specs.Message.{is_set}
use Rattle.wire_message.specs.WireValues.{text_in}
use Rattle.constraint.specs.NearestComputed.{only}

abbrev pub words_like : List ℤ → List ℕ → Option Value
words_like sent words = if length words == length sent then Some (Words (map (cast_signed w32) words)) else None

-- **values that a reply gives (`given_like`, `wire_value_in`, `blank_value`)**: what words or bytes give in place of a
-- value, or of an option's kind; what is sent where a value is asked for.
--
-- what a reply gives in place of a value: as many words, or a text
abbrev pub given_like : Value → WireValue → Option Value
given_like (Flag b) (wire.Words words) = option_map (λ w. Flag (is_set w)) (only words)
given_like (Int n) (wire.Words words) = option_map (λ w. Int (cast_signed w32 w)) (only words)
given_like (Fixed f) (wire.Words words) = option_map (λ w. Fixed (record { 0 = cast_signed w32 w })) (only words)
given_like (Words sent) (wire.Words words) = words_like sent words
given_like (Text t) (wire.Words words) = None
given_like (Flag b) (wire.Bytes bytes) = None
given_like (Int n) (wire.Bytes bytes) = None
given_like (Fixed f) (wire.Bytes bytes) = None
given_like (Words sent) (wire.Bytes bytes) = None
given_like (Text t) (wire.Bytes bytes) = option_map (λ text. Text text) (text_in bytes)

-- the same by the kind of an option that has one value
abbrev pub wire_value_in : Kind → WireValue → Option Value
wire_value_in kinds.Bool (wire.Words words) = option_map (λ w. Flag (is_set w)) (only words)
wire_value_in kinds.Int (wire.Words words) = option_map (λ w. Int (cast_signed w32 w)) (only words)
wire_value_in kinds.Fixed (wire.Words words) = option_map (λ w. Fixed (record { 0 = cast_signed w32 w })) (only words)
wire_value_in kinds.String (wire.Bytes bytes) = option_map (λ text. Text text) (text_in bytes)
wire_value_in kind value = None

-- what is sent where a value is asked for: a word 0, or as many bytes 0 as the option has, at most 1,024
abbrev pub blank_value : Kind → ℕ → WireValue
blank_value kinds.String size = wire.Bytes (replicate (min size 1024) 0)
blank_value kind size = wire.Words (0 ∷ [])
