use Rattle.std.proofs.Common.{arith}
use Rattle.sane_fixed.proofs.DigitLemmas.{AllDigits-whole}
use Rattle.option_desc.proofs.reading.read_integer.Goals as goal

pub value_of_digits-requires-clause-digits : goal.value_of_digits-requires-clause-digits
value_of_digits-requires-clause-digits c = AllDigits-whole c.sign-negative.result.1.now (omega arith)
