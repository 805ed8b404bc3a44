use Rattle.std.proofs.Common.{◌≡◌, drop, false}
use Rattle.netpbm.specs.HeaderReading.{after_filler}
use Rattle.netpbm.proofs.header.after_filler.Given as goal

abbrev pub invariant-loop-i : goal.invariant-loop-i
invariant-loop-i l = after_filler l.in_comment (drop l.i l.bytes) ≡ after_filler false l.bytes
