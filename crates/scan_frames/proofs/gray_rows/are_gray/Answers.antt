use Rattle.scan_frames.proofs.Grays.{one_more, not_gray_then, dots_as_next}
use Rattle.std.proofs.Common.{◌≡◌, arith}
use Rattle.scan_frames.proofs.gray_rows.are_gray.Goals as goal

pub loop-i-preserved : goal.loop-i-preserved
loop-i-preserved c =
    let i = c.loop-i.i in
    record {
      gray = one_more c.args.row.now c.args.dot i c.loop-i.same c.is_as_next-same.result c.loop-i.invariant.gray c.is_as_next-same.ensures.same;
      other = not_gray_then c.args.row.now c.args.dot i c.loop-i.same c.is_as_next-same.result c.requires (omega arith) c.loop-i.invariant.other c.is_as_next-same.ensures.other;
    }

pub returns-clause-gray : goal.returns-clause-gray
returns-clause-gray c same p low high =
    let all : c.loop-i.i ≡ 24 = omega arith in
    dots_as_next c.args.row.now c.args.dot p (λ i less. c.loop-i.invariant.gray same i (omega arith)) low high
