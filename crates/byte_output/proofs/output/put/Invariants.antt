use Rattle.std.proofs.Common.{◌≡◌, ◌≤◌, ◌+◌, ◌-◌, take, length}
use Rattle.std.specs.Io.KnownBytes.{Appends}
use Rattle.byte_output.proofs.output.put.Given as goal

abbrev pub invariant-loop-at : goal.invariant-loop-at
invariant-loop-at g l = record {
  bound : l.at ≤ length l.bytes;
  bytes : Appends (g.W.Write.contents l.initial.to) (g.W.Write.contents l.to) (take l.at l.bytes);
  kept : l.tally.failed ≡ l.initial.tally.failed;
  again : l.tally.again ≤ l.initial.tally.again;
}

abbrev pub decreases-loop-at : goal.decreases-loop-at
decreases-loop-at g l = (length l.bytes - l.at) + l.tally.again
