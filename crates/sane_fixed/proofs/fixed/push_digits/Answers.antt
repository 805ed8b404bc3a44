use Rattle.std.proofs.Common.{arith}
use Rattle.sane_fixed.proofs.ExactDecimalLaws.{fraction_digits-step, written, all_written, all_places}
use Rattle.sane_fixed.proofs.fixed.push_digits.Goals as goal

pub returns-then-rest-eq0 : goal.returns-then-rest-eq0
returns-then-rest-eq0 c = all_written _ _ _ _ c.if-rest-eq0.true c.loop-place.invariant.0

pub loop-place-preserved : goal.loop-place-preserved
loop-place-preserved c =
    (written _ _ _ _ _ _ c.loop-place.invariant.0 (fraction_digits-step c.loop-place._place c.loop-place.rest c.loop-place-test.true c.if-rest-eq0.false) c.in_ok-push.ensures.items, omega arith)

pub returns : goal.returns
returns c = all_places _ _ _ _ (omega arith) c.loop-place.invariant.0
