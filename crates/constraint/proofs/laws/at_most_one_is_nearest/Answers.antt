use Rattle.constraint.proofs.RangeLaws.{NearestInRange-unique}
use Rattle.constraint.proofs.ListLaws.{NearestInList-unique}
use Rattle.constraint.proofs.EntryLaws.{NearestEntry-unique}
use Rattle.constraint.proofs.laws.at_most_one_is_nearest.Goals as goal

pub returns : goal.returns
returns c = record { in_range = NearestInRange-unique; in_list = NearestInList-unique; entry = NearestEntry-unique }
