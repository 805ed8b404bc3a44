use Rattle.std.proofs.Common.{◌∙◌, ℕ, List, slice_range, sym, subst}
use Rattle.saned_core.specs.DaemonStates.{core}
use Rattle.saned_serve.specs.SessionActions.{AreRepliesTaken}
use Rattle.saned_serve.proofs.Daemon.{is_taken, written_back}
use Rattle.saned_serve.proofs.pending.PendingBytes.take_reply.Goals as goal

pub returns : goal.returns
returns g c =
    let old = core g.D.Device.state c.args.daemon.now in
    let new = core g.D.Device.state c.take_reply-n.new.self in
    let n = c.take_reply-n.result in
    let buf = c.take_reply-n.new.buf in
    let same = written_back buf c.self.inside.room.items c.self.inside.room.len (c.take_reply-n.auto.buf ∙ c.as_mut_slice.ensures.len) in
    let size = c.as_mut_slice.ensures.len ∙ c.self.invariant.2 in
    subst (λ (xs : List ℕ). AreRepliesTaken old c.args.id.number g.row.ROOM (slice_range xs 0 n) new) (sym same)
    (subst (λ (k : ℕ). AreRepliesTaken old c.args.id.number k (slice_range buf 0 n) new) size
    (is_taken old new c.args.id.number n c.as_mut_slice.result.now buf c.take_reply-n.ensures.within c.take_reply-n.ensures.all c.take_reply-n.ensures.most c.take_reply-n.ensures.bytes c.take_reply-n.ensures.after))
