use Rattle.std.proofs.Common.{◌≤◌, ◌^◌, arith}
use Rattle.std.proofs.Math.Nat.{pow-le-pow_right}
use Rattle.sane_fixed.proofs.fixed.ten_to.Goals as goal

pub overflow_mul-n : goal.overflow_mul-n
overflow_mul-n c =
    let below : c.loop-i.i ≤ 16 = omega arith in
    let cap : 10 ^ c.loop-i.i ≤ 10 ^ 16 = pow-le-pow_right (omega arith) below in
    omega arith

pub returns-clause-limit : goal.returns-clause-limit
returns-clause-limit c =
    let below : c.loop-i.i ≤ 16 = omega arith in
    let cap : 10 ^ c.loop-i.i ≤ 10 ^ 16 = pow-le-pow_right (omega arith) below in
    omega arith

pub returns-clause-some : goal.returns-clause-some
returns-clause-some c =
    let from_none : 0 ≤ c.loop-i.i = omega arith in
    let low : 10 ^ 0 ≤ 10 ^ c.loop-i.i = pow-le-pow_right {n = 10} (omega arith) {i = 0} {j = c.loop-i.i} from_none in
    omega arith
