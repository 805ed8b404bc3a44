use Rattle.std.proofs.Common.{rules, arith}
use Rattle.frame_join.proofs.KeptLaws.{kept_shape, kept_lines}
use Rattle.frame_join.proofs.pixel_join.new_keeping_join.Goals as goal

pub invariant_of-result : goal.invariant_of-result
invariant_of-result c =
    let p = c.args.params.now in
    let shape = kept_shape p c.requires in
    let lines = kept_lines p c.requires in
    record {
      start = search rules;
      headed = search rules;
      shape = shape;
      column = omega (arith, shape.row_some);
      row = search rules;
      lines = lines;
      room = search rules;
      kept = λ _. c.requires;
      collecting = search rules;
      deep = search rules;
    }
