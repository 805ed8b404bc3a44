use Rattle.scan_world.proofs.Calls.{outcome_given, outcome_there_is}
use Rattle.scan_world.proofs.Timely.{ending_call}
use Rattle.scan_world.proofs.world.World.outcome.Goals as goal

pub returns : goal.returns
returns g c = record {
  is = c.outcome.ensures;
  kept = outcome_given _ c.outcome.result c.what_stands_below.ensures _ c.args.i c.outcome.ensures;
  there = outcome_there_is _ c.outcome.result c.what_stands_below.ensures _ c.args.i c.outcome.ensures;
  ended = ending_call _ c.outcome.result c.what_stands_below.ensures _ c.args.i c.outcome.ensures;
}
