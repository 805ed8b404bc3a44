use Rattle.std.proofs.Common.{◌≡◌, List, ℕ, subst, sym, ◌∙◌}
use Rattle.saned_cli.specs.declared.table_reading.LinesSeen.{LinesSeen}
use Rattle.saned_cli.specs.declared.table_reading.LinesSeen.TheVariants.{Never}
use Rattle.saned_cli.specs.Inside.{IsSeenIn}
use Rattle.saned_cli.proofs.TableLaws.{not_never, seen_again, seen_as_before, seen_first}
use Rattle.saned_cli.proofs.table_reading.seen_after.Goals as goal

pub returns-then-not-is_between : goal.returns-then-not-is_between
returns-then-not-is_between c = λ lines s. seen_as_before lines c.args.peer c.args.ours c.args.line.now c.args.seen (sym c.is_between.ensures ∙ c.if-not-is_between.true) s

pub returns-in-Never : goal.returns-in-Never
returns-in-Never c = λ lines s.
    let never : IsSeenIn lines c.args.peer c.args.ours Never = subst (λ (seen : LinesSeen). IsSeenIn lines c.args.peer c.args.ours seen) c.in-Never.is s in
    seen_first lines c.args.peer c.args.ours c.args.line.now c.owner_in.result (sym c.is_between.ensures ∙ c.if-not-is_between.false) c.owner_in.ensures.some c.owner_in.ensures.none never

pub returns-in-Once : goal.returns-in-Once
returns-in-Once c = λ lines s.
    seen_again lines c.args.peer c.args.ours c.args.line.now c.args.seen (sym c.is_between.ensures ∙ c.if-not-is_between.false) (not_never c.args.seen c.in-Once.is) s
