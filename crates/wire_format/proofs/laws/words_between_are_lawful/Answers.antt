use Rattle.wire_format.specs.WordKinds.{between}
use Rattle.wire_format.proofs.Words.{kind-laws, between-kind}
use Rattle.wire_format.proofs.laws.words_between_are_lawful.Goals as goal

pub returns : goal.returns
returns c = kind-laws (between c.args.low c.args.high c.args.fault) (between-kind c.args.low c.args.high c.args.fault c.requires c.ranges.low.fits)
