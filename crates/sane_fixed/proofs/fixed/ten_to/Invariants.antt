use Rattle.std.proofs.Common.{◌≡◌, ◌^◌}
use Rattle.sane_fixed.proofs.fixed.ten_to.Given as goal

abbrev pub invariant-loop-i : goal.invariant-loop-i
invariant-loop-i l = l.n ≡ 10 ^ l.i
