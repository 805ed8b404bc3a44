use Rattle.wire_format.proofs.Combining.{one_value, no_prefix}
use Rattle.wire_message.specs.Message.{reply}
use Rattle.wire_message.proofs.Messages.{reply_reads}
use Rattle.wire_message.proofs.laws.replies_are_spelled_apart.Goals as goal

pub returns-clause-value : goal.returns-clause-value
returns-clause-value c = one_value (reply c.args.procedure) (reply_reads c.args.procedure)

pub returns-clause-prefix : goal.returns-clause-prefix
returns-clause-prefix c = no_prefix (reply c.args.procedure) (reply_reads c.args.procedure)
