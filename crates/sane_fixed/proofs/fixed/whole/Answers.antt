use Rattle.sane_fixed.proofs.DigitLemmas.{AllDigits-take-digit_count}
use Rattle.sane_fixed.proofs.fixed.whole.Goals as goal

pub returns-then-count-le9-clause-digits : goal.returns-then-count-le9-clause-digits
returns-then-count-le9-clause-digits c =
    rw (c.split_at.ensures.front, c.digit_count-count.ensures.count) (AllDigits-take-digit_count c.args.bytes.now)
