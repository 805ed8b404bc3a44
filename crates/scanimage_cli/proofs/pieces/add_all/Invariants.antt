use Rattle.std.proofs.Common.{◌≡◌, ◌++◌, drop}
use Rattle.std.specs.Prelude.{map}
use Rattle.std.specs.List.{concat}
use Rattle.scanimage_cli.proofs.pieces.add_all.Given as goal

abbrev pub invariant-loop-piece : goal.invariant-loop-piece
invariant-loop-piece l = l.line.items ++ concat (map (λ piece. piece.now) (drop l.piece-index l.pieces)) ≡ l.initial.line.items ++ concat (map (λ piece. piece.now) l.pieces)
