use Rattle.wire_message.specs.Message.{message_limit, reply}
use Rattle.wire_codec.specs.Decoders.{TakenReply}
use Rattle.wire_message.proofs.Messages.{reply_reads}
use Rattle.wire_codec.proofs.Decoding.{taken_always, none_always, tells_taken, tells_none, tells_first, tells_which, result_taken}
use Rattle.wire_codec.proofs.decoder.Decoder.next_reply.Goals as goal

pub returns-clause-taken : goal.returns-clause-taken
returns-clause-taken c = taken_always c.args.self.now.fault c.read_reply.result _ _ c.read_reply.ensures.kept
    (λ free. tells_taken message_limit (reply c.args.procedure) (reply_reads c.args.procedure) c.read_reply.result c.args.self.now c.read_reply.new.self (c.read_reply.ensures.bytes free) (c.read_reply.ensures.exact free))

pub returns-clause-none : goal.returns-clause-none
returns-clause-none c = none_always c.args.self.now.fault c.read_reply.result _ _ c.read_reply.ensures.kept
    (λ free e. tells_none message_limit (reply c.args.procedure) (reply_reads c.args.procedure) c.read_reply.result c.args.self.now c.read_reply.new.self (c.read_reply.ensures.bytes free) (c.read_reply.ensures.exact free) e)

pub returns-clause-first : goal.returns-clause-first
returns-clause-first c = λ free. tells_first message_limit (reply c.args.procedure) (reply_reads c.args.procedure) c.read_reply.result c.args.self.now c.read_reply.new.self (c.read_reply.ensures.exact free)

pub returns-clause-which : goal.returns-clause-which
returns-clause-which c = λ free. tells_which message_limit (reply c.args.procedure) (reply_reads c.args.procedure) c.read_reply.result c.args.self.now c.read_reply.new.self (c.read_reply.ensures.bytes free) (c.read_reply.ensures.exact free)

pub returns-clause-history : goal.returns-clause-history
returns-clause-history c = λ fed taken h. result_taken message_limit (reply c.args.procedure) (λ r. TakenReply c.args.procedure r) (λ text r s. s) c.read_reply.result fed taken c.args.self.now c.read_reply.new.self h (taken_always c.args.self.now.fault c.read_reply.result _ _ c.read_reply.ensures.kept
    (λ free. tells_taken message_limit (reply c.args.procedure) (reply_reads c.args.procedure) c.read_reply.result c.args.self.now c.read_reply.new.self (c.read_reply.ensures.bytes free) (c.read_reply.ensures.exact free)))
