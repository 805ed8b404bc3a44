use Rattle.std.proofs.Common.{arith}
use Rattle.wire_message.specs.Message.{next_device}
use Rattle.wire_message.proofs.Messages.{next_device_laws}
use Rattle.wire_codec.proofs.ElementsReadOnce.{gives_takes}
use Rattle.wire_codec.proofs.begun.NextDeviceElement.take.Goals as goal

pub returns-clause-taken : goal.returns-clause-taken
returns-clause-taken c = gives_takes (λ x. x.0) (λ x. x.1.now) next_device next_device_laws.reads c.args.bytes.now (λ i. omega (arith, c.type_inv.bytes i)) c.read.result c.read.ensures
