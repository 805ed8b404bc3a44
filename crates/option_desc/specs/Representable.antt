-- The values that memory can hold, and which of them take memory of their own.
use Rattle.std.specs.Prelude.{Bool, true, false, FitsSigned, All}
use Rattle.std.specs.Int.{w32}
use Rattle.sane_fixed.specs.Text.{IsText}
use Rattle.option_desc.specs.declared.descriptor.Constraint.{Constraint}
use Rattle.option_desc.specs.declared.descriptor.Constraint.TheVariants.{Free, Span, Words as WordsOf, Strings}
use Rattle.option_desc.specs.declared.value.Value.{Value}
use Rattle.option_desc.specs.declared.value.Value.TheVariants.{Flag, Int, Fixed, Words, Text}

-- words have 32 bits, and a text has no NUL
abbrev pub IsRepresentable : Value → Type 0
IsRepresentable (Flag _) = Unit {0}
IsRepresentable (Int word) = FitsSigned w32 word
IsRepresentable (Fixed fixed) = FitsSigned w32 fixed.0
IsRepresentable (Words words) = All (FitsSigned w32) words
IsRepresentable (Text text) = IsText text

-- **values that take memory (`takes_memory`)**: words in a row and texts, but no flag and no single word.
abbrev pub takes_memory : Value → Bool
takes_memory (Flag _) = false
takes_memory (Int _) = false
takes_memory (Fixed _) = false
takes_memory (Words _) = true
takes_memory (Text _) = true

-- lists take memory, a range does not
abbrev pub lists_take_memory : Constraint → Bool
lists_take_memory Free = false
lists_take_memory (Span _) = false
lists_take_memory (WordsOf _) = true
lists_take_memory (Strings _) = true
