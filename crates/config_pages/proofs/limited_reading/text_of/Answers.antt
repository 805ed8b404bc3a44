use Rattle.config_pages.proofs.LimitedReads.{front_read}
use Rattle.config_pages.proofs.limited_reading.text_of.Goals as goal

pub returns : goal.returns
returns g c = front_read g.R.Read.remaining c.take.result c.args.reader c.args.most _ _ c.take.ensures.limit c.take.ensures.inner c.new-text.ensures.items c.in_ok-read_to_end.ensures.bytes
