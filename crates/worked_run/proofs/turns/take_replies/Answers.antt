use Rattle.std.proofs.Common.{◌≡◌, ◌-◌, ℕ, List, length, take, slice_range, ap, arith, subst}
use Rattle.saned_core.specs.DaemonStates.{core}
use Rattle.saned_serve.specs.SessionActions.{AreRepliesTaken}
use Rattle.saned_serve.proofs.Daemon.{is_taken}
use Rattle.worked_run.proofs.turns.take_replies.Goals as goal

from_start : (n : ℕ) (xs : List ℕ) → slice_range xs 0 n ≡ take n xs
from_start n xs = ap (λ (k : ℕ). take k xs) (let e : n - 0 ≡ n = omega arith in e)

pub returns-clause-taken : goal.returns-clause-taken
returns-clause-taken g c =
    let old = core g.D.Device.state c.args.daemon.now in
    let new = core g.D.Device.state c.take_reply.new.self in
    let n = c.take_reply.result in
    let buf = c.take_reply.new.buf in
    let e = c.take_reply.ensures in
    subst (λ (xs : List ℕ). AreRepliesTaken old c.args.id.number 4096 xs new) (from_start n buf)
    (subst (λ (k : ℕ). AreRepliesTaken old c.args.id.number k (slice_range buf 0 n) new) c.requires
    (is_taken old new c.args.id.number n c.args.room.now buf e.within e.all e.most e.bytes e.after))
