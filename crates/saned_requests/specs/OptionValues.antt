-- Values of options, as the daemon sends them and as they are asked for.
use Rattle.std.specs.Prelude.{ℕ, ◌*◌, ◌-◌, ◌==◌, true, false, if◌then◌else◌, Option, Some, None, option_map, List, []}
use Rattle.std.specs.Prelude.{◌∷◌, ◌++◌, map, length, replicate}
use Rattle.std.specs.Int.{w32, cast_signed}
use Rattle.sane_fixed.specs.Kind.{kind_code}
use Rattle.sane_fixed.specs.declared.kind.Kind.{Kind}
use Rattle.sane_fixed.specs.declared.kind.Kind.TheVariants as kinds
use Rattle.option_desc.specs.declared.descriptor.Descriptor.{Descriptor}
use Rattle.option_desc.specs.declared.value.Value.{Value}
use Rattle.option_desc.specs.declared.value.Value.TheVariants as options
use Rattle.wire_message.specs.declared.message.WireValue.{WireValue}
use Rattle.wire_message.specs.declared.message.WireValue.TheVariants as wire
use Rattle.wire_message.specs.WireValues.{text_in, wire_of}
use Rattle.saned_requests.specs.declared.session.StringSize.{StringSize}
use Rattle.saned_requests.specs.declared.session.StringSize.TheVariants.{OfText, OfOption}

-- the size of an option, where there is one
abbrev pub size_of : Option Descriptor → ℕ
size_of None = 0
size_of (Some desc) = desc.size

-- zero bytes behind a string value, up to that size; one that is as long or longer stays whole
abbrev pub filled : ℕ → WireValue → WireValue
filled size (wire.Words words) = wire.Words words
filled size (wire.Bytes bytes) = wire.Bytes (bytes ++ replicate (size - length bytes) 0)

-- a value of an option of that size, as a reply has it
abbrev pub sent_as : StringSize → ℕ → Value → WireValue
sent_as OfText size value = wire_of value
sent_as OfOption size value = filled size (wire_of value)

-- a BOOL is one word, 0 or 1
abbrev pub flag_value_of : ℕ → Option Value
flag_value_of n = if n == 0 then Some (options.Flag false) else if n == 1 then Some (options.Flag true) else None

abbrev pub flag_in : List ℕ → Option Value
flag_in [] = None
flag_in (word ∷ []) = flag_value_of word
flag_in (a ∷ b ∷ words) = None

-- one word is a value of its own, more are a vector
abbrev pub ints_of : List ℕ → Value
ints_of [] = options.Words []
ints_of (word ∷ []) = options.Int (cast_signed w32 word)
ints_of (a ∷ b ∷ words) = options.Words (map (cast_signed w32) (a ∷ b ∷ words))

abbrev pub fixed_value_of : List ℕ → Value
fixed_value_of [] = options.Words []
fixed_value_of (word ∷ []) = options.Fixed (record { 0 = cast_signed w32 word })
fixed_value_of (a ∷ b ∷ words) = options.Words (map (cast_signed w32) (a ∷ b ∷ words))

abbrev pub words_asked : Kind → List ℕ → Option Value
words_asked kinds.Bool words = flag_in words
words_asked kinds.Int words = Some (ints_of words)
words_asked kinds.Fixed words = Some (fixed_value_of words)
words_asked kinds.String words = None
words_asked kinds.Button words = None
words_asked kinds.Group words = None

abbrev pub bytes_asked : Kind → List ℕ → Option Value
bytes_asked kinds.String bytes = option_map (λ text. options.Text text) (text_in bytes)
bytes_asked kinds.Bool bytes = None
bytes_asked kinds.Int bytes = None
bytes_asked kinds.Fixed bytes = None
bytes_asked kinds.Button bytes = None
bytes_asked kinds.Group bytes = None

-- the value that is asked of an option, where it has the option's number of words and spells a value
abbrev pub asked_of : Descriptor → WireValue → Option Value
asked_of desc (wire.Words words) = if length words * 4 == desc.size then words_asked desc.kind words else None
asked_of desc (wire.Bytes bytes) = bytes_asked desc.kind bytes

-- **value asked for (`value_asked`), value in a reply (`sent_as`)**: the value of an option's type that words or bytes
-- ask for: as many words as it has, 0 or 1 for a flag, a text up to its first NUL. A value in a reply is its text, or
-- filled up to its option's size.
abbrev pub value_asked : Descriptor → Kind → WireValue → Option Value
value_asked desc kind value = if kind_code kind == kind_code desc.kind then asked_of desc value else None
