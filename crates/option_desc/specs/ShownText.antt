-- The text that is shown of an option's value.
use Rattle.std.specs.Prelude.{ℕ, ℤ, true, false, List, map, codes}
use Rattle.std.specs.Fmt.{signed_decimal}
use Rattle.std.specs.List.{join_with_byte}
use Rattle.sane_fixed.specs.declared.kind.Kind.{Kind}
use Rattle.sane_fixed.specs.declared.kind.Kind.TheVariants as kind
use Rattle.sane_fixed.specs.ExactDecimal.{exact_decimal}
use Rattle.option_desc.specs.declared.descriptor.Descriptor.{Descriptor}
use Rattle.option_desc.specs.declared.value.Value.{Value}
use Rattle.option_desc.specs.declared.value.Value.TheVariants.{Flag, Int, Fixed, Words, Text}

-- a word by the option's kind: a fixed number as its exact decimal, an integer as its digits
abbrev pub word_text : Kind → ℤ → List ℕ
word_text kind.Fixed word = exact_decimal word
word_text _ word = signed_decimal word

-- **shown (`shown_text`)**: the text that is shown of a value; where the value fits, it reads as that value.
--
-- `yes` or `no`, a number, numbers joined by commas, or the text
abbrev pub shown_text : Descriptor → Value → List ℕ
shown_text desc (Flag true) = codes "yes"
shown_text desc (Flag false) = codes "no"
shown_text desc (Int word) = signed_decimal word
shown_text desc (Fixed fixed) = exact_decimal fixed.0
shown_text desc (Words words) = join_with_byte 44 (map (word_text desc.kind) words)
shown_text desc (Text text) = text
