use Rattle.std.proofs.Common.{◌≡◌, false, length}
use Rattle.net_jobs.specs.Inside.{WritesTo, KeepsReads}
use Rattle.net_jobs.proofs.running.write_out.Given as goal

abbrev pub invariant-loop-n : goal.invariant-loop-n
invariant-loop-n g l = record {
  room : length l.room ≡ length l.initial.room;
  rest : l.client ≡ record l.fn.client { out = l.client.out };
  up : l.tally.write_failed ≡ false;
  reads : KeepsReads l.initial.tally l.tally;
  to : WritesTo l.fn.client.out (g.C.Write.contents l.initial.control) (g.C.Write.contents l.control) l.client.out;
}

abbrev pub decreases-loop-n : goal.decreases-loop-n
decreases-loop-n g l = length l.client.out
