use Rattle.scan_world.proofs.Calls.{asked_true}
use Rattle.scan_world.proofs.Clear.{clears_by}
use Rattle.scan_world.proofs.Led.{led_then, steps_led, steps_of}
use Rattle.scan_world.proofs.Over.{cancel_ends, moves_fall, other_jobs_stay, over_stays}
use Rattle.scan_world.proofs.Starved.{starved_stays}
use Rattle.scan_world.proofs.Stepping.{is_held_step, is_step}
use Rattle.scan_world.proofs.moments.Holder.{one_holder}
use Rattle.scan_world.proofs.moments.ImageLost.{image_loss_ends}
use Rattle.scan_world.proofs.moments.Linked.{loss_ends}
use Rattle.scan_world.proofs.moments.Others.{scans_stay, sessions_stay}
use Rattle.scan_world.proofs.world.World.run.Goals as goal

pub returns : goal.returns
returns g c =
    let kept = c.what_stands_below.ensures.kept in
    let loads = asked_true _ c.args.events.items c.as_slice.ensures.value c.ask_pages.ensures in
    record {
      runs = c.run.ensures;
      led = λ h l. led_then h c.args.events.items _ _ l loads c.run.ensures;
      over = over_stays c.args.events.items _ _ c.run.ensures;
      others = other_jobs_stay c.args.events.items _ _ c.run.ensures;
      starved = starved_stays c.args.events.items _ _ c.run.ensures;
      moves = moves_fall c.args.events.items _ _ c.run.ensures;
      steps = steps_of is_step c.args.events.items _ _ c.run.ensures;
      cancel = cancel_ends c.args.events.items _ _ c.run.ensures;
      loss = λ h l. loss_ends kept h c.args.events.items _ _ l loads c.run.ensures;
      image_loss = λ h l. image_loss_ends kept h c.args.events.items _ _ l loads c.run.ensures;
      one_holder = λ h l. one_holder kept _ _ (led_then h c.args.events.items _ _ l loads c.run.ensures);
      sessions = λ h l. sessions_stay kept h c.args.events.items _ _ l loads c.run.ensures;
      scans = λ h l. scans_stay kept h c.args.events.items _ _ l loads c.run.ensures;
      pages = λ h l. steps_led (is_held_step c.what_stands_below.ensures) h c.args.events.items _ _ l loads c.run.ensures;
      clear = clears_by c.what_stands_below.ensures c.args.events.items _ _;
    }
