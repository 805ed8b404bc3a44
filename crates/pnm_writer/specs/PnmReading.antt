-- The picture that is read from a Netpbm text, and the faults that a text may have in place of one.
use Rattle.std.specs.Prelude.{ℕ, ◌+◌, ◌*◌, ◌<◌, ◌≡◌, ◌≢◌, None, IsSome, List, length, slice_index}
use Rattle.netpbm.specs.declared.format.PnmFormat.TheVariants.{Pbm}
use Rattle.netpbm.specs.declared.format.Header.{Header}
use Rattle.netpbm.specs.Picture.{Picture}
use Rattle.netpbm.specs.Pnm.{Begins, IsWhole}
use Rattle.netpbm.specs.HeaderReading.{format_of}
use Rattle.netpbm.specs.Raster.{raster_size, sample_count, SomeAbove}
use Rattle.pnm_writer.specs.declared.read.Picture.{Picture as HeldPicture}
use Rattle.pnm_writer.specs.declared.read.PnmFault.{PnmFault}
use Rattle.pnm_writer.specs.declared.read.PnmFault.TheVariants.{BadMagic, BadHeader, SampleTooLarge, Short, Trailing}
use Rattle.pnm_writer.specs.declared.read.PnmFault.TheVariants.{NoMem}

-- **picture read (`picture_of_held`, `HasPnmFault`)**: the picture that a text denotes, held in memory; the faults that
-- a text may have, each where it is the first.
--
-- the picture that is held: its samples row by row from the top, the channels of a place side by side
abbrev pub picture_of_held : HeldPicture → Picture
picture_of_held p = record {
  width = p.width;
  height = p.height;
  channels = p.channels;
  greatest = p.maxval;
  at = λ x y k. slice_index p.samples ((y * p.width + x) * p.channels + k);
}

-- A text has a fault only where it has none of those that are tested before it; memory runs out only for a text that
-- denotes a picture.
abbrev pub HasPnmFault : PnmFault → List ℕ → Type 0
HasPnmFault BadMagic text = format_of text ≡ None
HasPnmFault BadHeader text = IsSome (format_of text) × ((h : Header) (raster : List ℕ) → Begins text h raster → ⊥)
HasPnmFault Short text = (h : Header) × (raster : List ℕ) × Begins text h raster × (length raster < raster_size h)
HasPnmFault Trailing text = (h : Header) × (raster : List ℕ) × Begins text h raster × (raster_size h < length raster)
HasPnmFault SampleTooLarge text = (h : Header) × (raster : List ℕ) × Begins text h raster × (h.format ≢ Pbm)
    × (length raster ≡ raster_size h) × SomeAbove h.maxval raster (sample_count h)
HasPnmFault NoMem text = IsWhole text
