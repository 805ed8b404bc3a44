-- How a page's samples are computed from the raster of its file.
use Rattle.std.specs.Prelude.{ℕ, ◌/◌}
use Rattle.netpbm.specs.declared.format.PnmFormat.{PnmFormat}
use Rattle.netpbm.specs.declared.format.PnmFormat.TheVariants.{Pbm, Pgm, Ppm}

-- the place among the file's samples of the number that the page has at place j of its samples
abbrev pub source : PnmFormat → ℕ → ℕ
source Pbm j = j / 3
source Pgm j = j / 3
source Ppm j = j
