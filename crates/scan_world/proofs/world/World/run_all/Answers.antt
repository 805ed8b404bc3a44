use Rattle.event_world.specs.Rounds.{all_made}
use Rattle.scan_world.proofs.Calls.{ran_out}
use Rattle.scan_world.proofs.Clear.{clears_up, shares_clear}
use Rattle.scan_world.proofs.Over.{over_stays}
use Rattle.scan_world.proofs.Starved.{starved_stays}
use Rattle.scan_world.proofs.moments.Holder.{one_holder}
use Rattle.scan_world.proofs.world.World.run_all.Goals as goal

pub returns : goal.returns
returns g c = record {
  kept = λ h l. ran_out c.what_stands_below.ensures _ _ c.run_all.ensures h l;
  clear = clears_up c.what_stands_below.ensures _ _ c.run_all.ensures;
  shared = shares_clear c.what_stands_below.ensures _ _ c.run_all.ensures;
  over = over_stays (all_made c.run_all.ensures.rounds) _ _ c.run_all.ensures.events;
  starved = starved_stays (all_made c.run_all.ensures.rounds) _ _ c.run_all.ensures.events;
  one_holder = λ h l. one_holder c.what_stands_below.ensures.kept _ _ (ran_out c.what_stands_below.ensures _ _ c.run_all.ensures h l).led;
}
