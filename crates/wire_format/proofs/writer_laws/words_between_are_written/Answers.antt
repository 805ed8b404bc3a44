use Rattle.wire_format.specs.WordKinds.{between}
use Rattle.wire_format.proofs.Writers.{word-writes, between-number}
use Rattle.wire_format.proofs.writer_laws.words_between_are_written.Goals as goal

pub returns : goal.returns
returns c = word-writes (between c.args.low c.args.high c.args.fault) (λ n. n) (between-number c.args.low c.args.high c.args.fault c.ranges.high.fits)
