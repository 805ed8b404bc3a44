use Rattle.std.proofs.Common.{arith}
use Rattle.std.proofs.lemmas.Bool.Decides.{nat_tests}
use Rattle.dispatch.proofs.ConfigFieldLemmas.{taken_off, none_left}
use Rattle.saned_cli.proofs.table_fields.next_field.Goals as goal

pub returns-then-is_empty-clause-none : goal.returns-then-is_empty-clause-none
returns-then-is_empty-clause-none c =
    none_left _ _ _ _ _ c.blank_count.ensures.count c.split_at.ensures.back c.word_length.ensures.count c.split_at-2.ensures.front (grind (arith, nat_tests))

pub returns-clause-some : goal.returns-clause-some
returns-clause-some c =
    taken_off _ _ _ _ _ _ c.blank_count.ensures.count c.split_at.ensures.back c.word_length.ensures.count c.split_at-2.ensures.front c.split_at-2.ensures.back (λ e. grind (arith, nat_tests))
