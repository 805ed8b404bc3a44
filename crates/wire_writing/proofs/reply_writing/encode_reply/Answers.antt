use Rattle.wire_message.specs.Message.{message_limit, reply}
use Rattle.wire_writing.specs.ReplyWriting.{replied_procedure, write_reply}
use Rattle.wire_writing.proofs.Encoding.{answer_spelled, answer_long, answer_bad}
use Rattle.wire_writing.proofs.LimitLaws.{reply_limits}
use Rattle.wire_writing.specs.WireLimits.{PassesLimit, reply_passes}
use Rattle.wire_writing.proofs.Replies.{reply-writes}
use Rattle.wire_writing.proofs.reply_writing.encode_reply.Goals as goal

pub returns-clause-ok : goal.returns-clause-ok
returns-clause-ok c = answer_spelled (λ v. v.items) message_limit (reply (replied_procedure c.args.reply.now)) write_reply c.args.reply.now (reply-writes c.args.reply.now) c.encode.result c.encode.ensures

pub returns-clause-long : goal.returns-clause-long
returns-clause-long c =
    answer_long (λ v. v.items) message_limit (reply (replied_procedure c.args.reply.now)) write_reply c.args.reply.now (PassesLimit (reply_passes c.args.reply.now) (write_reply.text c.args.reply.now)) (reply-writes c.args.reply.now) (reply_limits c.args.reply.now) c.encode.result c.encode.ensures

pub returns-clause-bad : goal.returns-clause-bad
returns-clause-bad c =
    answer_bad (λ v. v.items) message_limit (reply (replied_procedure c.args.reply.now)) write_reply c.args.reply.now (PassesLimit (reply_passes c.args.reply.now) (write_reply.text c.args.reply.now)) (reply-writes c.args.reply.now) (reply_limits c.args.reply.now) c.encode.result c.encode.ensures
