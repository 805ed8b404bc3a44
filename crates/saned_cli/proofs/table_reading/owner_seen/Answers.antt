use Rattle.std.proofs.Common.{subst}
use Rattle.saned_cli.specs.Inside.{IsSeenIn}
use Rattle.saned_cli.specs.declared.table_reading.LinesSeen.{LinesSeen}
use Rattle.saned_cli.proofs.TableLaws.{named_by}
use Rattle.saned_cli.proofs.table_reading.owner_seen.Goals as goal

pub returns-in-Once : goal.returns-in-Once
returns-in-Once c = λ lines peer ours s.
    named_by lines peer ours c.in-Once.owner (subst (λ (seen : LinesSeen). IsSeenIn lines peer ours seen) c.in-Once.is s)
