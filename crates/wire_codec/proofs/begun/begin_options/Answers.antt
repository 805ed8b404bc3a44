use Rattle.std.proofs.Common.{arith}
use Rattle.wire_format.proofs.ReadLimits.{taken}
use Rattle.wire_message.specs.Message.{up_to}
use Rattle.wire_message.proofs.Messages.{up_to_laws}
use Rattle.wire_codec.proofs.ElementsReadOnce.{options_start}
use Rattle.wire_codec.proofs.begun.begin_options.Goals as goal

pub used_bytes-used-requires : goal.used_bytes-used-requires
used_bytes-used-requires c = taken (up_to 1024) (up_to_laws 1024).reads c.args.bytes.now c.in_ok-left.rest.now c.in_ok-left.left (λ i. omega (arith, c.type_inv.bytes i)) c.in_ok-left.ensures

pub returns-clause-ok : goal.returns-clause-ok
returns-clause-ok c =
    rw c.new.ensures.items
    (options_start c.args.bytes.now c.in_ok-left.rest.now c.in_ok-left.left c.used_bytes-used.result (λ i. omega (arith, c.type_inv.bytes i)) c.requires c.in_ok-left.ensures c.used_bytes-used.ensures.within c.used_bytes-used.ensures.rest)
