use Rattle.std.proofs.Common.{◌≡◌, ◌∙◌, ◌++◌, ℕ, true, false, List, sym, subst}
use Rattle.saned_core.specs.DaemonStates.{core}
use Rattle.worked_run.specs.UnderWay.{IsAtData, IsAtRest}
use Rattle.worked_run.proofs.Parts.{begins, connects, shows_last, shows_more}
use Rattle.worked_run.proofs.turns.take_frame.Goals as goal

pub loop-turn-init : goal.loop-turn-init
loop-turn-init g c = λ first job start is rest.
    let d = core g.D.Device.state c.args.daemon.now in
    let e = core g.D.Device.state c.dial.new.daemon in
    let file = c.args.file.now.items in
    connects job start d c.args.client.now file e c.dial.new.client (begins false job start d c.args.client.now file rest) (c.dial.ensures first c.if-not-dial.false)

pub loop-turn-preserved : goal.loop-turn-preserved
loop-turn-preserved g c = λ first job start is rest.
    let d = core g.D.Device.state c.loop-turn.daemon in
    let e = core g.D.Device.state c.take_record.new.daemon in
    let old = c.loop-turn.client in
    let after = c.take_record.new.client in
    let x = c.in-Some.ensures first in
    let more = sym c.is_end.ensures ∙ c.if-is_end.false in
    let rests = shows_more c.args.scan job start d old c.loop-turn.file.items x.0 c.in-Some.step e after is more (c.loop-turn.invariant first job start is rest) x.1 in
    begins true job start e after c.take_record.new.file.items (subst (λ (f : List ℕ). IsAtRest true job start e after f) (sym x.2) rests)

pub returns-then-is_end : goal.returns-then-is_end
returns-then-is_end g c = λ first on job start is rest.
    let d = core g.D.Device.state c.loop-turn.daemon in
    let e = core g.D.Device.state c.take_record.new.daemon in
    let old = c.loop-turn.client in
    let after = c.take_record.new.client in
    let x = c.in-Some.ensures first in
    let last = sym c.is_end.ensures ∙ c.if-is_end.true in
    let rests = shows_last c.args.scan job start d old c.loop-turn.file.items x.0 c.in-Some.step e after is last (c.loop-turn.invariant first job start is rest) x.1 in
    subst (λ (f : List ℕ). IsAtRest false job start e after f) (sym x.2) rests
