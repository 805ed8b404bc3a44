use Rattle.constraint.proofs.RangeLaws.{NearestInRange-nearest_in_range}
use Rattle.constraint.proofs.ListLaws.{NearestInList-nearest_in_list}
use Rattle.constraint.proofs.EntryLaws.{NearestEntry-nearest_entry, nearest_entry-none}
use Rattle.constraint.proofs.laws.what_is_computed_is_nearest.Goals as goal

pub returns : goal.returns
returns c = record {
  in_range = λ range asked keeps. NearestInRange-nearest_in_range range asked keeps;
  in_list = NearestInList-nearest_in_list;
  entry = NearestEntry-nearest_entry;
  no_entry = nearest_entry-none;
}
