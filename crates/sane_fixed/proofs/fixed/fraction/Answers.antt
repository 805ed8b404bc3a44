use Rattle.std.proofs.Common.{arith}
use Rattle.sane_fixed.proofs.DigitLemmas.{AllDigits-whole}
use Rattle.sane_fixed.proofs.fixed.fraction.Goals as goal

pub returns-then-count-le16-clause-digits : goal.returns-then-count-le16-clause-digits
returns-then-count-le16-clause-digits c = AllDigits-whole _ (omega (arith, c.digit_count.ensures.count, c.if-digit_count-count.true))
