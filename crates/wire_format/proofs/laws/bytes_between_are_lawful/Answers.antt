use Rattle.wire_format.proofs.Runs.{byte-laws}
use Rattle.wire_format.proofs.laws.bytes_between_are_lawful.Goals as goal

pub returns : goal.returns
returns c = byte-laws c.args.low c.args.high c.requires c.ranges.high.fits
