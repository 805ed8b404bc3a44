use Rattle.std.proofs.Common.{rules, arith, refl, inl}
use Rattle.scanimage_cli.proofs.PutPieces.{none_written, piece_cut_off, piece_written, pieces_written}
use Rattle.scanimage_cli.proofs.pieces.put_pieces.Goals as goal

pub loop-piece-init : goal.loop-piece-init
loop-piece-init g c = none_written _ _

pub loop-piece-preserved : goal.loop-piece-preserved
loop-piece-preserved g c = piece_written (λ piece. piece.now) _ _ _ c.args.pieces.now c.loop-piece.piece-index _ _ c.loop-piece-test.true c.loop-piece.invariant (c.if-not-put.ensures.whole (search rules))

pub returns-then-not-put : goal.returns-then-not-put
returns-then-not-put g c = piece_cut_off (λ piece. piece.now) _ _ _ c.args.pieces.now c.loop-piece.piece-index _ _ _ c.loop-piece-test.true c.loop-piece.invariant (c.if-not-put.ensures.front refl) (c.if-not-put.ensures.failed refl)

pub returns : goal.returns
returns g c = inl (pieces_written (λ piece. piece.now) _ _ c.args.pieces.now c.loop-piece.piece-index _ (omega arith) c.loop-piece.invariant)
