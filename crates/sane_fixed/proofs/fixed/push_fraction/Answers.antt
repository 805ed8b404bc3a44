use Rattle.std.proofs.Common.{◌≢◌}
use Rattle.std.proofs.lemmas.List.{append-nil}
use Rattle.std.proofs.lemmas.Result.{on_ok_weaker}
use Rattle.sane_fixed.proofs.ExactDecimalLaws.{fraction_text-none, fraction_text-digits, pointed}
use Rattle.sane_fixed.proofs.fixed.push_fraction.Goals as goal

pub returns-then-rest-eq0 : goal.returns-then-rest-eq0
returns-then-rest-eq0 c = rw (fraction_text-none 16 c.args.rest c.if-rest-eq0.true, append-nil c.args.text.now.items)

pub returns : goal.returns
returns c =
    let some : c.args.rest ≢ 0 = c.if-rest-eq0.false in
    on_ok_weaker _ (pointed _ _ _ _ _ c.in_ok-push.ensures.items (fraction_text-digits 15 c.args.rest some)) c.push_digits.ensures
