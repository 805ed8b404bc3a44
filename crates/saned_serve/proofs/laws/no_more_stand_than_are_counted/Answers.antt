use Rattle.saned_serve.proofs.Openings.{few_at_open, open_counted}
use Rattle.saned_serve.proofs.laws.no_more_stand_than_are_counted.Goals as goal

pub returns-clause-counted : goal.returns-clause-counted
returns-clause-counted c = open_counted

pub returns-clause-few : goal.returns-clause-few
returns-clause-few c = few_at_open
