use Rattle.std.proofs.Common.{◌≡◌, ℕ, ◌≤◌, ◌+◌, true}
use Rattle.std.specs.Prelude.{slice_index}
use Rattle.page_picture.specs.Page.{IsRow}
use Rattle.scan_frames.proofs.rows.advance.Given as goal

abbrev pub invariant-loop-y : goal.invariant-loop-y
invariant-loop-y g l =
    let source = g.S.PageSource.source in
    record {
      at : source l.source ≡ record (source l.fn.source) { given = l._y };
      row : (source l.fn.source).steady ≡ true → l._y ≡ l.target + 1 → IsRow (source l.fn.source).page l.target l.row;
      rest : (j : ℕ) → l.size ≤ j → slice_index l.row j ≡ slice_index l.fn.row j;
    }
