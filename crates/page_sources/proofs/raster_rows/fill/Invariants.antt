use Rattle.std.proofs.Common.{◌≡◌, ◌≤◌, ◌+◌, ◌++◌, length, take, true}
use Rattle.page_sources.proofs.raster_rows.fill.Given as goal

abbrev pub invariant-loop-made : goal.invariant-loop-made
invariant-loop-made g l = record {
  size : length l.bytes ≡ length l.fn.bytes;
  few : l.made ≤ l.fn.reads + l.at;
  same : l.reads ≡ l.made;
  worked : g.R.Rereadable.is_kept l.fn.reader ≡ true → g.R.Rereadable.faults l.reader ≡ g.R.Rereadable.faults l.fn.reader;
  within : l.at ≤ length l.bytes;
  kept : g.R.Rereadable.is_kept l.reader ≡ g.R.Rereadable.is_kept l.fn.reader;
  text : g.R.Rereadable.text l.reader ≡ g.R.Rereadable.text l.fn.reader;
  consumed : g.R.Rereadable.is_kept l.fn.reader ≡ true → g.R.Rereadable.left l.fn.reader ≡ take l.at l.bytes ++ g.R.Rereadable.left l.reader;
}
