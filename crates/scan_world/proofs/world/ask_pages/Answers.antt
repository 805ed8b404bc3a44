use Rattle.std.proofs.Common.{arith}
use Rattle.page_sources.specs.SourceView.{source_state}
use Rattle.world_refines.specs.MainTheorem.{IsTrueLoad}
use Rattle.scan_world.proofs.Lists.{below, next_too}
use Rattle.scan_world.proofs.world.ask_pages.Goals as goal

pub loop-event-init : goal.loop-event-init
loop-event-init c = λ k d less within. absurd (omega (arith, less))

pub loop-event-preserved : goal.loop-event-preserved
loop-event-preserved c = λ k d less within.
    next_too (IsTrueLoad source_state) c.args.events.now c.loop-event.event-index c.event-item.result c.event-item.is c.ask_page.ensures c.loop-event.invariant k d (below k c.loop-event.event-index less) within

pub returns : goal.returns
returns c = λ k d within. c.loop-event.invariant k d (omega (arith, c.loop-event-test.false, within)) within
