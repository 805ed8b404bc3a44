use Rattle.wire_message.specs.Message.{message_limit, request}
use Rattle.wire_writing.specs.RequestWriting.{write_request}
use Rattle.wire_writing.proofs.Encoding.{answer_spelled, answer_long, answer_bad}
use Rattle.wire_writing.proofs.LimitLaws.{request_limits}
use Rattle.wire_writing.specs.WireLimits.{PassesLimit, request_passes}
use Rattle.wire_writing.proofs.Requests.{request-writes}
use Rattle.wire_writing.proofs.request_writing.encode_request.Goals as goal

pub returns-clause-ok : goal.returns-clause-ok
returns-clause-ok c = answer_spelled (λ v. v.items) message_limit request write_request c.args.request.now (request-writes c.args.request.now) c.encode.result c.encode.ensures

pub returns-clause-long : goal.returns-clause-long
returns-clause-long c =
    answer_long (λ v. v.items) message_limit request write_request c.args.request.now (PassesLimit (request_passes c.args.request.now) (write_request.text c.args.request.now)) (request-writes c.args.request.now) (request_limits c.args.request.now) c.encode.result c.encode.ensures

pub returns-clause-bad : goal.returns-clause-bad
returns-clause-bad c =
    answer_bad (λ v. v.items) message_limit request write_request c.args.request.now (PassesLimit (request_passes c.args.request.now) (write_request.text c.args.request.now)) (request-writes c.args.request.now) (request_limits c.args.request.now) c.encode.result c.encode.ensures
