use Rattle.scan_laws.proofs.Places.{cancel_in, read_in, reset_in, set_in, start_in}
use Rattle.scan_laws.proofs.device_laws.passes_are_counted.Goals as goal

pub returns-clause-reset : goal.returns-clause-reset
returns-clause-reset c = reset_in

pub returns-clause-cancel : goal.returns-clause-cancel
returns-clause-cancel c = cancel_in

pub returns-clause-set : goal.returns-clause-set
returns-clause-set c = set_in

pub returns-clause-start : goal.returns-clause-start
returns-clause-start c = start_in

pub returns-clause-read : goal.returns-clause-read
returns-clause-read c = read_in
