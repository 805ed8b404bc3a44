use Rattle.saned_cli.specs.TableReadings.IsAskedFor.{ByTable}
use Rattle.saned_cli.proofs.table_reading.owner_of_peer.Goals as goal

pub returns : goal.returns
returns g c = record {
  since = c.owner_told.ensures.since;
  grew = c.owner_told.ensures.grew;
  asked = ByTable c.in_ok-peer.peer c.in_ok-ours.ours c.in_ok-peer.was c.in_ok-ours.was c.owner_told.ensures.lines c.owner_told.ensures.whole c.owner_told.ensures.names;
}
