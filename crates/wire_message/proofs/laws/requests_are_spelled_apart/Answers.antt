use Rattle.wire_format.proofs.Combining.{one_value, no_prefix}
use Rattle.wire_message.specs.Message.{request}
use Rattle.wire_message.proofs.Messages.{request_laws}
use Rattle.wire_message.proofs.laws.requests_are_spelled_apart.Goals as goal

pub returns-clause-value : goal.returns-clause-value
returns-clause-value c = one_value request request_laws.reads

pub returns-clause-prefix : goal.returns-clause-prefix
returns-clause-prefix c = no_prefix request request_laws.reads
