use Rattle.wire_format.proofs.Writers.{byte-writes}
use Rattle.wire_format.proofs.writer_laws.bytes_between_are_written.Goals as goal

pub returns : goal.returns
returns c = byte-writes c.args.low c.args.high c.ranges.high.fits
