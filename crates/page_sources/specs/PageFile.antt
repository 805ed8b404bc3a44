-- The page that a page file (a Netpbm text of grays or colors) shows, and the faults that a text may have in place
-- of one.
use Rattle.std.specs.Prelude.{ℕ, ◌*◌, ◌/◌, ◌<◌, ◌≤◌, ◌≡◌, Option, Some, None, if◌then◌else◌, ◌==◌, List, length}
use Rattle.netpbm.specs.declared.format.PnmFormat.{PnmFormat}
use Rattle.netpbm.specs.declared.format.PnmFormat.TheVariants.{Pbm, Pgm, Ppm}
use Rattle.netpbm.specs.declared.format.Header.{Header}
use Rattle.page_sources.specs.declared.page_file.PageFault.{PageFault}
use Rattle.page_sources.specs.declared.page_file.PageFault.TheVariants.{BadMagic, BadHeader, SampleTooLarge, Short}
use Rattle.page_sources.specs.declared.page_file.PageFault.TheVariants.{Trailing, BadDpi, NoMem}
use Rattle.netpbm.specs.Picture.{Picture}
use Rattle.page_picture.specs.Page.{PageView, page_sample_at}
use Rattle.netpbm.specs.Pnm.{Begins, Denotes}
use Rattle.netpbm.specs.Raster.{raster_size, sample_count, NoneAbove, SomeAbove}
use Rattle.netpbm.specs.HeaderReading.{format_of}

-- the channel of the file that stands for channel k of the page: a gray stands for all three
abbrev pub file_channel : ℕ → ℕ → ℕ
file_channel channels k = if channels == 1 then 0 else k

-- the page at that many dots per inch shows the picture, each sample v of greatest value m as floor(v * 65535 / m)
pub record IsPageOf (p : Picture) (dpi : ℕ) (page_view : PageView) : Type 0 where
  pub width : page_view.width ≡ p.width
  pub height : page_view.height ≡ p.height
  pub dots : page_view.dpi ≡ dpi
  pub samples : (x y k : ℕ) → x < p.width → y < p.height → k < 3
      → page_sample_at page_view x y k ≡ p.at x y (file_channel p.channels k) * 65535 / p.greatest

-- **page file (`TellsPage`)**: a text of grays or colors that denotes a picture. The page has floor(v * 65535 / m) at
-- each place, for a sample v of greatest value m. A gray stands for all three channels.
pub record TellsPage (text : List ℕ) (dpi : ℕ) (page_view : PageView) : Type 0 where
  pub picture : Picture
  pub denotes : Denotes text picture
  pub is_page : IsPageOf picture dpi page_view

abbrev pub IsDpi : ℕ → Type 0
IsDpi dpi = (1 ≤ dpi) × (dpi ≤ 1200)

-- a page is a file of grays or of colors
abbrev pub IsPageFormat : Option PnmFormat → Type 0
IsPageFormat None = ⊥
IsPageFormat (Some Pbm) = ⊥
IsPageFormat (Some Pgm) = Unit {0}
IsPageFormat (Some Ppm) = Unit {0}

-- the text begins with the header of a page
pub record BeginsPage (text : List ℕ) (h : Header) (raster : List ℕ) : Type 0 where
  pub begins : Begins text h raster
  pub format : IsPageFormat (Some h.format)
  pub width_most : h.width ≤ 16384
  pub height_most : h.height ≤ 16384

-- **page text (`IsPageText`)**: the text begins with the header of a page, has all its bytes and no more, and no sample
-- above the greatest, at 1 to 1,200 dots per inch. Memory may be wanting only there.
pub record IsPageText (text : List ℕ) (dpi : ℕ) : Type 0 where
  pub dots : IsDpi dpi
  pub header : Header
  pub raster : List ℕ
  pub begins : BeginsPage text header raster
  pub size : length raster ≡ raster_size header
  pub none_above : NoneAbove header.maxval raster (sample_count header)

-- **faults of a page file (`HasPageFault`)**: by cases, each where it is the first in the order: dots per inch, magic,
-- header, short, trailing, sample too large.
--
-- A text has a fault only where it has none of those that are tested before it; memory runs out only for a text that
-- has none.
abbrev pub HasPageFault : PageFault → List ℕ → ℕ → Type 0
HasPageFault BadDpi text dpi = ¬ IsDpi dpi
HasPageFault BadMagic text dpi = IsDpi dpi × (¬ IsPageFormat (format_of text))
HasPageFault BadHeader text dpi = IsDpi dpi × IsPageFormat (format_of text)
    × ((h : Header) (raster : List ℕ) → BeginsPage text h raster → ⊥)
HasPageFault Short text dpi = IsDpi dpi
    × ((h : Header) × (raster : List ℕ) × BeginsPage text h raster × (length raster < raster_size h))
HasPageFault Trailing text dpi = IsDpi dpi
    × ((h : Header) × (raster : List ℕ) × BeginsPage text h raster × (raster_size h < length raster))
HasPageFault SampleTooLarge text dpi = IsDpi dpi
    × ((h : Header) × (raster : List ℕ) × BeginsPage text h raster × (length raster ≡ raster_size h)
    × SomeAbove h.maxval raster (sample_count h))
HasPageFault NoMem text dpi = IsPageText text dpi
