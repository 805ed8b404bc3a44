use Rattle.std.proofs.Common.{◌≡◌, [], None, length}
use Rattle.std.specs.Io.KnownBytes.{Consumes}
use Rattle.net_jobs.specs.Inside.{KeepsWrites}
use Rattle.net_jobs.proofs.running.read_piece.Given as goal

abbrev pub invariant-loop-tally : goal.invariant-loop-tally
invariant-loop-tally g l = record {
  room : length l.piece ≡ length l.initial.piece;
  bytes : Consumes (g.R.Read.remaining l.initial.stream) (g.R.Read.remaining l.stream) [];
  held : l.tally.loss ≡ None;
  writes : KeepsWrites l.initial.tally l.tally;
}

abbrev pub decreases-loop-tally : goal.decreases-loop-tally
decreases-loop-tally g l = l.tally.reads
