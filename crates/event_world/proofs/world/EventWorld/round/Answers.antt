use Rattle.std.proofs.Common.{◌≡◌, length, arith}
use Rattle.page_sources.specs.SourceView.{source_state}
use Rattle.event_world.specs.Worlds.{seen_world}
use Rattle.event_world.proofs.Falling.{part_by_stayed, part_by_went, part_whole}
use Rattle.event_world.proofs.world.EventWorld.round.Goals as goal
use Rattle.event_world.proofs.world.EventWorld.round.Goals.{then-take_move, else-take_move}

pub loop-i-preserved : goal.loop-i-preserved
loop-i-preserved g c =
    let old = seen_world g.D.Device.state c.args.self.now in
    let mid = seen_world g.D.Device.state c.loop-i.self in
    let new = seen_world g.D.Device.state c.take_move.new.self in
    elim c.if-take_move.branch [
      | then-take_move w ↦ part_by_went source_state c.loop-i.goes_on c.if-take_move.goes_on c.take_move.result c.loop-i.i old mid new c.loop-i.invariant c.take_move.ensures w.if-take_move.true w.goes_on-is
      | else-take_move w ↦ part_by_stayed source_state c.loop-i.goes_on c.if-take_move.goes_on c.take_move.result c.loop-i.i old mid new c.loop-i.invariant c.take_move.ensures w.if-take_move.false w.goes_on-is
    ]

pub returns : goal.returns
returns g c =
    let size : c.len-i-end.result ≡ length c.args.self.now.endpoints = rw (← c.self.view_is) (omega (arith, c.len-i-end.ensures, c.self.inside.endpoints.ok.0)) in
    part_whole source_state c.loop-i.goes_on c.loop-i.i (seen_world g.D.Device.state c.args.self.now) (seen_world g.D.Device.state c.loop-i.self)
    (omega (arith, size, c.loop-i-test.false)) (omega (arith, size, c.loop-i.auto.i-end)) c.loop-i.invariant
