use Rattle.std.proofs.Common.{arith}
use Rattle.scan_frames.specs.Inside.{state_of}
use Rattle.scan_frames.proofs.Scans.{row_untaken}
use Rattle.scan_frames.proofs.buffers.next_line.Goals.{else-made-gt0-via-then-made-gt0+else-row_of, else-made-gt0-via-else-made-gt0}
use Rattle.scan_frames.proofs.buffers.next_line.Goals as goal

pub line_of_row-requires-clause-untaken : goal.line_of_row-requires-clause-untaken
line_of_row-requires-clause-untaken g c =
    let s = g.S.PageSource.source c.args.source.now in
    row_untaken s c.args.setup.now (state_of c.args.buffers.now) c.requires.setup.resolution_some c.requires.frame (λ begun same. elim c.else-made-gt0.branch [
      | else-made-gt0-via-then-made-gt0+else-row_of w ↦ let other = w.if-row_of.false in omega (arith, w.row_of.ensures, w.row_of-then-made-gt0.ensures, same, other)
      | else-made-gt0-via-else-made-gt0 w ↦ let none = w.if-made-gt0.false in omega arith
    ])
