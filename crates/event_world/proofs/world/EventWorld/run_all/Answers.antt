use Rattle.std.proofs.Common.{rules}
use Rattle.page_sources.specs.SourceView.{source_state}
use Rattle.event_world.specs.Worlds.{seen_world}
use Rattle.event_world.proofs.Falling.{less_by, out_by, rounds_begun, rounds_by}
use Rattle.event_world.proofs.world.EventWorld.run_all.Goals as goal

pub loop-goes_on-init : goal.loop-goes_on-init
loop-goes_on-init g c = search (rules, rounds_begun source_state (seen_world g.D.Device.state c.args.self.now))

pub loop-goes_on-smaller : goal.loop-goes_on-smaller
loop-goes_on-smaller g c =
    less_by source_state c.loop-goes_on.goes_on c.round-goes_on.result (seen_world g.D.Device.state c.loop-goes_on.self) (seen_world g.D.Device.state c.round-goes_on.new.self) c.loop-goes_on-test.true c.round-goes_on.ensures

pub loop-goes_on-preserved : goal.loop-goes_on-preserved
loop-goes_on-preserved g c =
    rounds_by source_state c.loop-goes_on.goes_on c.round-goes_on.result (seen_world g.D.Device.state c.args.self.now) (seen_world g.D.Device.state c.loop-goes_on.self) (seen_world g.D.Device.state c.round-goes_on.new.self) c.loop-goes_on-test.true c.loop-goes_on.invariant c.round-goes_on.ensures

pub returns : goal.returns
returns g c = out_by source_state c.loop-goes_on.goes_on (seen_world g.D.Device.state c.args.self.now) (seen_world g.D.Device.state c.loop-goes_on.self) c.loop-goes_on-test.false c.loop-goes_on.invariant
