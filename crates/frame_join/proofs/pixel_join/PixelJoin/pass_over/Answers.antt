use Rattle.std.proofs.Common.{◌≡◌, ◌≤◌, ◌<◌, true, false, rules, arith, drop, length}
use Rattle.std.proofs.lemmas.List.{length-drop}
use Rattle.frame_join.specs.AloneFrame.{lines_in}
use Rattle.frame_join.specs.JoinStages.{is_colors}
use Rattle.frame_join.specs.PixelInside.{pixel_view}
use Rattle.frame_join.specs.Inside.{is_ready, can_give}
use Rattle.frame_join.proofs.KeptLaws.{collecting_rests, ready_row, ready_line}
use Rattle.frame_join.proofs.pixel_join.PixelJoin.pass_over.Goals as goal

pub invariant_of-self-then-not-has_colors : goal.invariant_of-self-then-not-has_colors
invariant_of-self-then-not-has_colors c =
    let j = c.self.inside in
    let ready : is_ready (pixel_view j) ≡ true = search rules in
    let one : is_colors j.stage ≡ false = search rules in
    let goes : can_give j.stage ≡ true = search rules in
    let line : j.params.bytes_per_line ≤ length (drop j.start j.held.items) = ready_line (pixel_view j) ready one in
    let row : j.row < lines_in j.params.lines = ready_row (pixel_view j) ready in
    record {
      start = omega (arith, line, length-drop j.start j.held.items, c.self.invariant.start);
      headed = c.self.invariant.headed;
      shape = c.self.invariant.shape;
      column = omega (arith, c.self.invariant.shape.row_some);
      row = omega (arith, row, c.self.invariant.lines);
      lines = c.self.invariant.lines;
      room = c.self.invariant.room;
      kept = c.self.invariant.kept;
      collecting = λ h. absurd (collecting_rests j.stage goes h);
      deep = c.self.invariant.deep;
    }
