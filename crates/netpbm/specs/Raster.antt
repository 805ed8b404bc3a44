-- The numbers of a raster of grays or colors, and how many bytes and samples a header tells of.
use Rattle.std.specs.Prelude.{ℕ, ◌*◌, ◌<◌, ◌≤◌, List}
use Rattle.netpbm.specs.declared.format.Header.{Header}
use Rattle.netpbm.specs.Pnm.{raster_length, channels_of, number_in}

-- the bytes after a header
abbrev pub raster_size : Header → ℕ
raster_size h = raster_length h.format h.width h.height h.maxval

-- the samples of a file of grays or colors
abbrev pub sample_count : Header → ℕ
sample_count h = h.width * h.height * channels_of h.format

-- some number is above the greatest value
abbrev pub SomeAbove : ℕ → List ℕ → ℕ → Type 0
SomeAbove maxval raster count = (i : ℕ) × (i < count) × (maxval < number_in maxval raster i)

-- no number is above the greatest value
abbrev pub NoneAbove : ℕ → List ℕ → ℕ → Type 0
NoneAbove maxval raster count = (i : ℕ) → i < count → number_in maxval raster i ≤ maxval
