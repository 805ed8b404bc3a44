-- Values of options as they travel.
use Rattle.std.specs.Prelude.{ℕ, ◌==◌, if◌then◌else◌, Option, option_map, List, [], ◌∷◌, ◌++◌, map, take, position}
use Rattle.std.specs.Int.{w32, cast_unsigned}
use Rattle.option_desc.specs.declared.value.Value.{Value}
use Rattle.option_desc.specs.declared.value.Value.TheVariants.{Flag, Int, Fixed, Words, Text}
use Rattle.wire_message.specs.declared.message.WireValue.{WireValue}
use Rattle.wire_message.specs.declared.message.WireValue.TheVariants as wire

-- **value on the wire (`wire_of`, `text_in`)**: an option's value as words, or as bytes with its NUL; the text of
-- bytes, up to their first NUL.
abbrev pub wire_of : Value → WireValue
wire_of (Flag b) = wire.Words ((if b then 1 else 0) ∷ [])
wire_of (Int n) = wire.Words (cast_unsigned w32 n ∷ [])
wire_of (Fixed f) = wire.Words (cast_unsigned w32 f.0 ∷ [])
wire_of (Words ws) = wire.Words (map (cast_unsigned w32) ws)
wire_of (Text t) = wire.Bytes (t ++ 0 ∷ [])

-- a text ends at its first NUL, and has one
abbrev pub text_in : List ℕ → Option (List ℕ)
text_in bytes = option_map (λ n. take n bytes) (position (λ b. b == 0) bytes)
