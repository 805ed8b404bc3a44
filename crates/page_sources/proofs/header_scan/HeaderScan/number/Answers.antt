use Rattle.std.proofs.Common.{rules, sym}
use Rattle.page_sources.specs.Inside.{rest_of, from_hand}
use Rattle.page_sources.proofs.ScanLemmas.{number_none, number_some, number_many}
use Rattle.page_sources.proofs.header_scan.HeaderScan.number.Goals as goal

pub returns-then-count-eq0-clause-number : goal.returns-then-count-eq0-clause-number
returns-then-count-eq0-clause-number g c = λ kept.
    number_none c.loop-count.count c.loop-count.value c.loop-count.hand (rest_of c.loop-count.self) _ (search rules) (sym c.in_default.ensures.value) (c.loop-count.invariant.digits kept)

pub returns-in_default-clause-number : goal.returns-in_default-clause-number
returns-in_default-clause-number g c = λ kept.
    number_some c.loop-count.count c.loop-count.value c.loop-count.hand (rest_of c.loop-count.self) _ (search rules) (search rules) (sym c.in_default.ensures.value) (c.loop-count.invariant.digits kept)

pub returns-clause-number : goal.returns-clause-number
returns-clause-number g c = λ kept.
    number_many c.loop-count.count c.loop-count.value (from_hand c.loop-count.hand (rest_of c.loop-count.self)) _ (search rules) (c.loop-count.invariant.digits kept)
