use Rattle.in_flight.proofs.Requests.{histories_alike, pages_alike, records_alike, replies_alike}
use Rattle.in_flight.proofs.requests_are_unseen.Goals as goal

pub returns-clause-past : goal.returns-clause-past
returns-clause-past c = histories_alike

pub returns-clause-replies : goal.returns-clause-replies
returns-clause-replies c = replies_alike

pub returns-clause-records : goal.returns-clause-records
returns-clause-records c = records_alike

pub returns-clause-pages : goal.returns-clause-pages
returns-clause-pages c = pages_alike
