use Rattle.std.proofs.Common.{drop}
use Rattle.std.specs.Prelude.{map}
use Rattle.std.specs.List.{concat}
use Rattle.scanimage_cli.proofs.PutPieces.{IsWritten}
use Rattle.scanimage_cli.proofs.pieces.put_pieces.Given as goal

abbrev pub invariant-loop-piece : goal.invariant-loop-piece
invariant-loop-piece g l = IsWritten (g.W.Write.contents l.initial.to) (g.W.Write.contents l.to) (concat (map (λ piece. piece.now) (drop l.piece-index l.pieces))) (concat (map (λ piece. piece.now) l.pieces))
