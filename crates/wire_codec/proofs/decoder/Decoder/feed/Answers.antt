use Rattle.std.proofs.Common.{◌≡◌, ◌∙◌, ◌++◌, List, ℕ, drop, ap, arith}
use Rattle.wire_codec.proofs.Pendings.{pending_more}
use Rattle.wire_codec.proofs.ElementsReadOnce.{has_more}
use Rattle.wire_codec.proofs.decoder.Decoder.feed.Goals as goal

pub invariant_of-self : goal.invariant_of-self
invariant_of-self c =
    let all : c.extend_from_slice.new.self.items ≡ drop c.self.inside.start c.self.inside.bytes.items ++ c.args.piece.now = c.in-Ok.ensures.items ∙ ap (λ (l : List ℕ). l ++ c.args.piece.now) c.drop_front.ensures in
    (omega arith, rw all (pending_more _ c.args.piece.now c.self.inside.pending c.self.invariant.1), rw all (has_more _ c.args.piece.now c.self.inside.begun c.self.invariant.2))
