use Rattle.sane_fixed.proofs.DigitLemmas.{AllDigits-take-digit_count}
use Rattle.netpbm.proofs.header.number.Goals as goal

pub value_of_digits-requires-clause-digits : goal.value_of_digits-requires-clause-digits
value_of_digits-requires-clause-digits c =
    rw (c.split_at.ensures.front, c.digit_count-count.ensures.count) (AllDigits-take-digit_count c.args.bytes.now)
