use Rattle.wire_writing.proofs.Options.{range_text_is}
use Rattle.wire_writing.proofs.reply_writing.put_range.Goals as goal

pub returns : goal.returns
returns c = rw (range_text_is c.args.range.now c.put_bounds.ensures.keeps) c.put_bounds.ensures.puts
