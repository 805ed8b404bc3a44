use Rattle.sane_fixed.proofs.DecimalLaws.{found_from_value, none_from_value}
use Rattle.sane_fixed.proofs.fixed.Fixed.parse.Goals as goal

pub returns-clause-found : goal.returns-clause-found
returns-clause-found c = found_from_value c.read.result c.args.text.now c.read.ensures

pub returns-clause-none : goal.returns-clause-none
returns-clause-none c = none_from_value c.read.result c.args.text.now c.read.ensures
