use Rattle.std.proofs.Common.{ℕ, List, length, ap, subst, arith}
use Rattle.std.proofs.lemmas.List.{length-take}
use Rattle.wire_codec.specs.Arrays.{ArraysAreReadSoFar}
use Rattle.wire_codec.proofs.ElementsReadOnce.{has_window, has_all}
use Rattle.wire_format.proofs.ReadLimits.{taken, first_ok, first_used, first_fails}
use Rattle.wire_message.specs.Message.{message_limit, reply}
use Rattle.wire_message.proofs.Messages.{reply_reads}
use Rattle.wire_codec.proofs.decoder.first_reply.Goals as goal

pub used_bytes-requires : goal.used_bytes-requires
used_bytes-requires c = taken (reply c.args.procedure) (reply_reads c.args.procedure) c.front-window.result.now c.in-Ok.rest.now c.in-Ok.reply (λ i. omega (arith, c.type_inv.window i)) c.in-Ok.ensures.read

pub returns-in-Ok-clause-read : goal.returns-in-Ok-clause-read
returns-in-Ok-clause-read c = first_ok message_limit (reply c.args.procedure) c.args.bytes.now c.front-window.result.now c.in-Ok.rest.now c.in-Ok.reply c.used_bytes.result c.front-window.ensures c.in-Ok.ensures.read c.used_bytes.ensures.within c.used_bytes.ensures.rest

pub returns-in-Ok-clause-used : goal.returns-in-Ok-clause-used
returns-in-Ok-clause-used c = first_used message_limit c.args.bytes.now c.front-window.result.now c.used_bytes.result c.front-window.ensures c.used_bytes.ensures.within

pub returns-in-Err-clause-read : goal.returns-in-Err-clause-read
returns-in-Err-clause-read c = first_fails message_limit (reply c.args.procedure) c.args.bytes.now c.front-window.result.now c.in-Err.e c.past_limit.result c.front-window.ensures c.in-Err.ensures.read c.past_limit.ensures

pub reply-requires-clause-short : goal.reply-requires-clause-short
reply-requires-clause-short c = omega (arith, ap length c.front-window.ensures, length-take message_limit c.args.bytes.now)

pub reply-requires-clause-begun : goal.reply-requires-clause-begun
reply-requires-clause-begun c = rw c.front-window.ensures (has_window c.args.bytes.now c.args.begun.now c.requires)

pub returns-in-Ok-clause-kept : goal.returns-in-Ok-clause-kept
returns-in-Ok-clause-kept c = has_all c.args.bytes.now c.reply.new.begun (subst (λ (l : List ℕ). ArraysAreReadSoFar l c.reply.new.begun) c.front-window.ensures c.in-Ok.ensures.kept)

pub returns-in-Err-clause-kept : goal.returns-in-Err-clause-kept
returns-in-Err-clause-kept c = has_all c.args.bytes.now c.reply.new.begun (subst (λ (l : List ℕ). ArraysAreReadSoFar l c.reply.new.begun) c.front-window.ensures c.in-Err.ensures.kept)
