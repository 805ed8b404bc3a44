use Rattle.std.proofs.Common.{arith}
use Rattle.std.proofs.lemmas.Str.Parse.{digit_at}
use Rattle.sane_fixed.proofs.DigitLemmas.{digits_value-take-lt, digits_value-digit}
use Rattle.sane_fixed.proofs.digits.value_of_digits.Goals as goal

pub overflow_mul-n : goal.overflow_mul-n
overflow_mul-n c = omega (arith, digits_value-take-lt c.args.digits.now c.loop-digit.digit-index c.requires.digits c.requires.few)

pub overflow_sub-digit : goal.overflow_sub-digit
overflow_sub-digit c = omega (arith, digit_at c.args.digits.now c.loop-digit.digit-index c.requires.digits (omega arith))

pub overflow_add-n : goal.overflow_add-n
overflow_add-n c =
    omega (arith, digits_value-take-lt c.args.digits.now c.loop-digit.digit-index c.requires.digits c.requires.few, digit_at c.args.digits.now c.loop-digit.digit-index c.requires.digits (omega arith))

pub loop-digit-preserved : goal.loop-digit-preserved
loop-digit-preserved c =
    omega (arith, digits_value-digit c.args.digits.now c.loop-digit.digit-index c.requires.digits (omega arith), digit_at c.args.digits.now c.loop-digit.digit-index c.requires.digits (omega arith))

pub returns-clause-limit : goal.returns-clause-limit
returns-clause-limit c = omega (arith, digits_value-take-lt c.args.digits.now c.loop-digit.digit-index c.requires.digits c.requires.few)
