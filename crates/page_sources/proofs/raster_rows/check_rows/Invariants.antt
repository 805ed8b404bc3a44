use Rattle.std.proofs.Common.{◌≡◌, ◌≤◌, ◌+◌, ◌*◌, length, drop, true, false}
use Rattle.netpbm.specs.Raster.{NoneAbove, SomeAbove}
use Rattle.page_sources.specs.Inside.{file_row_size, row_count, unused_bytes}
use Rattle.page_sources.proofs.raster_rows.check_rows.Given as goal

abbrev pub invariant-loop-y : goal.invariant-loop-y
invariant-loop-y g l = record {
  kept : g.R.Rereadable.is_kept l.reader ≡ g.R.Rereadable.is_kept l.fn.reader;
  text : g.R.Rereadable.text l.reader ≡ g.R.Rereadable.text l.fn.reader;
  few : l.reads ≤ l.fn.reads + l.y * file_row_size l.header + l.held * file_row_size l.header;
  worked : g.R.Rereadable.is_kept l.fn.reader ≡ true → g.R.Rereadable.faults l.reader ≡ g.R.Rereadable.faults l.fn.reader;
  size : length l.bytes ≡ length l.fn.bytes;
  held : l.y + l.held ≤ l.header.height;
  room : l.held * file_row_size l.header ≤ length l.bytes;
  left : g.R.Rereadable.is_kept l.fn.reader ≡ true → unused_bytes (file_row_size l.header) l.held l.bytes (g.R.Rereadable.left l.reader) ≡ drop (l.y * file_row_size l.header) (g.R.Rereadable.left l.fn.reader);
  within : g.R.Rereadable.is_kept l.fn.reader ≡ true → l.y * file_row_size l.header ≤ length (g.R.Rereadable.left l.fn.reader);
  none : g.R.Rereadable.is_kept l.fn.reader ≡ true → l.fit ≡ true → NoneAbove l.header.maxval (g.R.Rereadable.left l.fn.reader) (l.y * row_count l.header);
  some : g.R.Rereadable.is_kept l.fn.reader ≡ true → l.fit ≡ false → SomeAbove l.header.maxval (g.R.Rereadable.left l.fn.reader) (l.y * row_count l.header);
}
