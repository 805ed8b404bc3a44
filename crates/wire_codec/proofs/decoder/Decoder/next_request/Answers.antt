use Rattle.wire_message.specs.Message.{message_limit, request}
use Rattle.wire_codec.specs.Decoders.{TakenRequest}
use Rattle.wire_message.proofs.Messages.{request_laws}
use Rattle.wire_codec.proofs.Decoding.{taken_always, none_always, tells_taken, tells_none, tells_first, tells_which, result_taken}
use Rattle.wire_codec.proofs.decoder.Decoder.next_request.Goals as goal

pub returns-clause-taken : goal.returns-clause-taken
returns-clause-taken c = taken_always c.args.self.now.fault c.read_request.result _ _ c.read_request.ensures.kept
    (λ free. tells_taken message_limit request request_laws.reads c.read_request.result c.args.self.now c.read_request.new.self (c.read_request.ensures.bytes free) (c.read_request.ensures.exact free))

pub returns-clause-none : goal.returns-clause-none
returns-clause-none c = none_always c.args.self.now.fault c.read_request.result _ _ c.read_request.ensures.kept
    (λ free e. tells_none message_limit request request_laws.reads c.read_request.result c.args.self.now c.read_request.new.self (c.read_request.ensures.bytes free) (c.read_request.ensures.exact free) e)

pub returns-clause-first : goal.returns-clause-first
returns-clause-first c = λ free. tells_first message_limit request request_laws.reads c.read_request.result c.args.self.now c.read_request.new.self (c.read_request.ensures.exact free)

pub returns-clause-which : goal.returns-clause-which
returns-clause-which c = λ free. tells_which message_limit request request_laws.reads c.read_request.result c.args.self.now c.read_request.new.self (c.read_request.ensures.bytes free) (c.read_request.ensures.exact free)

pub returns-clause-history : goal.returns-clause-history
returns-clause-history c = λ fed taken h. result_taken message_limit request (λ r. TakenRequest r) (λ text r s. s) c.read_request.result fed taken c.args.self.now c.read_request.new.self h (taken_always c.args.self.now.fault c.read_request.result _ _ c.read_request.ensures.kept
    (λ free. tells_taken message_limit request request_laws.reads c.read_request.result c.args.self.now c.read_request.new.self (c.read_request.ensures.bytes free) (c.read_request.ensures.exact free)))
