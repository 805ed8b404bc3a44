use Rattle.netpbm.proofs.HeaderLaws.{found_from_value, none_from_value}
use Rattle.netpbm.proofs.header.read_header.Goals as goal

pub returns-clause-found : goal.returns-clause-found
returns-clause-found c = found_from_value c.header.result c.args.text.now c.header.ensures

pub returns-clause-none : goal.returns-clause-none
returns-clause-none c = none_from_value c.header.result c.args.text.now c.header.ensures
