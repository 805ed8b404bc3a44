use Rattle.wire_format.proofs.Runs.{run-laws}
use Rattle.wire_format.proofs.laws.runs_are_lawful.Goals as goal

pub returns : goal.returns
returns c = run-laws c.args.least c.args.count c.ranges.least.fits
