use Rattle.std.proofs.Common.{◌∙◌, ℕ, List, slice_range, sym, subst, length, ◌≤◌, arith}
use Rattle.saned_core.specs.DaemonStates.{core}
use Rattle.saned_serve.specs.SessionActions.{IsTurned}
use Rattle.saned_serve.proofs.Daemon.{is_turned, written_back}
use Rattle.saned_serve.proofs.pending.PendingBytes.take_record.Goals as goal

pub returns : goal.returns
returns g c =
    let old = core g.D.Device.state c.args.daemon.now in
    let new = core g.D.Device.state c.data_turn-step.new.self in
    let step = c.data_turn-step.result in
    let buf = c.data_turn-step.new.buf in
    let len = c.data_turn-step.auto.buf ∙ c.as_mut_slice.ensures.len in
    let same = written_back buf c.self.inside.room.items c.self.inside.room.len len in
    let size = len ∙ c.self.invariant.2 in
    let wide : 8 ≤ length buf = omega (arith, c.self.invariant.3, size) in
    subst (λ (xs : List ℕ). IsTurned old c.args.id.number g.row.ROOM step (slice_range xs 0 c.written-self-inside.result) new) (sym same)
    (subst (λ (n : ℕ). IsTurned old c.args.id.number g.row.ROOM step (slice_range buf 0 n) new) (sym c.written-self-inside.ensures)
    (is_turned old new c.args.id.number g.row.ROOM step buf size wide c.data_turn-step.ensures))
