use Rattle.std.proofs.Common.{◌≡◌, ◌≤◌, ◌+◌, ◌-◌, false, length, take}
use Rattle.std.specs.Io.KnownBytes.{Appends}
use Rattle.net_jobs.specs.Inside.{KeepsReads}
use Rattle.net_jobs.proofs.running.write_whole.Given as goal

abbrev pub invariant-loop-at : goal.invariant-loop-at
invariant-loop-at g l = record {
  within : l.at ≤ length l.bytes;
  took : Appends (g.C.Write.contents l.initial.control) (g.C.Write.contents l.control) (take l.at l.bytes);
  up : l.tally.write_failed ≡ false;
  reads : KeepsReads l.initial.tally l.tally;
}

abbrev pub decreases-loop-at : goal.decreases-loop-at
decreases-loop-at g l = length l.bytes - l.at + l.tally.reads
