use Rattle.std.proofs.Common.{rules, arith, refl}
use Rattle.std.proofs.lemmas.Grind.{common_steps}
use Rattle.saned_serve.proofs.link.attend.Goals as goal

pub returns-else-has_begun-clause-attends : goal.returns-else-has_begun-clause-attends
returns-else-has_begun-clause-attends g c =
    let fed = c.feed-fed.ensures in
    record {
      fed = c.feed-fed.result;
      begins = c.has_begun.result;
      is = c.over_after-link.ensures;
      does = (record { idle = fed.idle; standing = fed.standing; over = fed.over; out_of_memory = fed.out_of_memory; others = fed.others }, first_of (search rules, grind (arith, common_steps)));
      forgets = λ e. absurd (let no = c.if-has_begun.false in first_of (cc, grind (arith, common_steps)));
      keeps = λ e. refl;
    }
