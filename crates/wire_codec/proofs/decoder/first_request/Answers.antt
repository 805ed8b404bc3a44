use Rattle.std.proofs.Common.{arith}
use Rattle.wire_format.proofs.ReadLimits.{taken, first_ok, first_used, first_fails}
use Rattle.wire_message.specs.Message.{message_limit, request}
use Rattle.wire_message.proofs.Messages.{request_laws}
use Rattle.wire_codec.proofs.decoder.first_request.Goals as goal

pub used_bytes-requires : goal.used_bytes-requires
used_bytes-requires c = taken request request_laws.reads c.front-window.result.now c.in-Ok.rest.now c.in-Ok.request (λ i. omega (arith, c.type_inv.window i)) c.in-Ok.ensures

pub returns-in-Ok-clause-read : goal.returns-in-Ok-clause-read
returns-in-Ok-clause-read c = first_ok message_limit request c.args.bytes.now c.front-window.result.now c.in-Ok.rest.now c.in-Ok.request c.used_bytes.result c.front-window.ensures c.in-Ok.ensures c.used_bytes.ensures.within c.used_bytes.ensures.rest

pub returns-in-Ok-clause-used : goal.returns-in-Ok-clause-used
returns-in-Ok-clause-used c = first_used message_limit c.args.bytes.now c.front-window.result.now c.used_bytes.result c.front-window.ensures c.used_bytes.ensures.within

pub returns-in-Err-clause-read : goal.returns-in-Err-clause-read
returns-in-Err-clause-read c = first_fails message_limit request c.args.bytes.now c.front-window.result.now c.in-Err.e c.past_limit.result c.front-window.ensures c.in-Err.ensures c.past_limit.ensures
