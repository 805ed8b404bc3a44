-- What private functions alone promise.
use Rattle.std.specs.Prelude.{ℕ, ◌+◌, ◌*◌, ◌≡◌, ◌≤◌, ◌&&◌, nat_le, if◌then◌else◌, Bool, List, ◌∷◌, Option, Some, None}
use Rattle.std.specs.Prelude.{drop, ◌^◌, ◌<◌, true, false, length, ◌/◌, slice_index, ◌-◌, ◌++◌, ◌%◌, nat_lt, take, []}
use Rattle.std.specs.Prelude.{MatchBool, slice_range}
use Rattle.std.specs.Char.{is_ascii_digit, digit_value}
use Rattle.netpbm.specs.FileText.{concat_up_to}
use Rattle.netpbm.specs.HeaderReading.{field_at, end_at, format_of, ◌>>=◌}
use Rattle.netpbm.specs.Pnm.{number_in}
use Rattle.netpbm.specs.Raster.{raster_size, sample_count, NoneAbove, SomeAbove}
use Rattle.netpbm.specs.declared.format.Header.{Header}
use Rattle.netpbm.specs.declared.format.PnmFormat.{PnmFormat}
use Rattle.netpbm.specs.declared.format.PnmFormat.TheVariants.{Pgm, Ppm}
use Rattle.page_picture.specs.Page.{PageView}
use Rattle.page_sources.specs.PageFile.{IsPageFormat, BeginsPage}
use Rattle.page_sources.specs.PageReading.{source}
use Rattle.page_sources.specs.declared.page_file.PageFault.{PageFault}
use Rattle.page_sources.specs.declared.page_file.PageFault.TheVariants.{BadMagic, BadHeader, SampleTooLarge, Short}
use Rattle.page_sources.specs.declared.page_file.PageFault.TheVariants.{Trailing, BadDpi, NoMem}
use Rattle.page_picture.specs.declared.scene.Mode.{Mode}
use Rattle.page_picture.specs.declared.scene.Mode.TheVariants.{Gray, Color}
use Rattle.page_picture.specs.declared.sources.SampleBytes.{SampleBytes}
use Rattle.page_picture.specs.declared.sources.SampleBytes.TheVariants.{Upper, Both}
use Rattle.page_sources.specs.declared.open_fault.OpenFault.{OpenFault}
use Rattle.page_sources.specs.declared.open_fault.OpenFault.TheVariants.{Page, Device}

-- The header of a page file, read from the left one byte at a time. The byte that was read last is in hand: the
-- readers of a number or a gap see by it that they are through.

-- whether the reader keeps its bytes, the bytes, how many of them were read, and how many calls of the reader failed
pub record HeaderScanState : Type 0 where
  pub kept : Bool
  pub text : List ℕ
  pub at : ℕ
  pub faults : ℕ

-- the bytes that are not read yet
abbrev pub rest_of : HeaderScanState → List ℕ
rest_of scan = drop scan.at scan.text

-- the byte in hand and what follows it; none is in hand at the end
abbrev pub from_hand : Option ℕ → List ℕ → List ℕ
from_hand (Some b) rest = b ∷ rest
from_hand None _ = []

-- what was found is what stands there, and then come the byte in hand and the rest
abbrev pub Finds : Option (ℕ × List ℕ) → Option (ℕ × Option ℕ) → List ℕ → Type 0
Finds there (Some found) rest = there ≡ Some (found.0, from_hand found.1 rest)
Finds there None _ = there ≡ None

-- what the digit in hand stands for, none where no digit is in hand
abbrev pub digit_in : Option ℕ → Option ℕ
digit_in (Some b) = if is_ascii_digit b then Some (digit_value b) else None
digit_in None = None

-- so many digits of a number were read, which stand for v, and no more follow
abbrev pub number_end : ℕ → ℕ → List ℕ → Option (ℕ × List ℕ)
number_end count v rest = if nat_le 1 count && nat_le count 10 then Some (v, rest) else None

-- the number that reads as v, of which so many digits stand before these bytes, and what follows it
abbrev pub more_digits : ℕ → ℕ → List ℕ → Option (ℕ × List ℕ)
more_digits count v [] = number_end count v []
more_digits count v (b ∷ bytes) =
    if is_ascii_digit b then more_digits (count + 1) (v * 10 + digit_value b) bytes else number_end count v (b ∷ bytes)

-- the header of that format whose two first bytes were read before these, and what follows it
unfoldable pub header_from : PnmFormat → List ℕ → Option (Header × List ℕ)
header_from format bytes = do
  width ← field_at bytes
  height ← field_at width.1
  maxval ← field_at height.1
  raster ← end_at maxval.1
  if (nat_le 1 width.0 && nat_le width.0 65536)
      && ((nat_le 1 height.0 && nat_le height.0 65536) && (nat_le 1 maxval.0 && nat_le maxval.0 65535))
      then Some (record { format = format; width = width.0; height = height.0; maxval = maxval.0 }, raster) else None

-- the header that was found is the one that stands there, and then comes the rest
abbrev pub FindsHeader : Option (Header × List ℕ) → Option Header → List ℕ → Type 0
FindsHeader there (Some header) rest = there ≡ Some (header, rest)
FindsHeader there None _ = there ≡ None

-- the limits of what a header tells
pub record HasHeaderLimits (header : Header) : Type 0 where
  pub width_some : 1 ≤ header.width
  pub width_most : header.width ≤ 65536
  pub height_some : 1 ≤ header.height
  pub height_most : header.height ≤ 65536
  pub maxval_some : 1 ≤ header.maxval
  pub maxval_most : header.maxval ≤ 65535

-- the bytes that are told, none where nothing is
abbrev pub known_bytes : Option (List ℕ) → List ℕ
known_bytes (Some bytes) = bytes
known_bytes None = []

abbrev pub are_known : Option (List ℕ) → Bool
are_known (Some _) = true
are_known None = false

-- The reader is to blame: if it keeps its bytes, and the reads so far with one for each byte left are fewer than 2^40,
-- a call of it failed meanwhile.
abbrev pub FailsWithin : Bool → ℕ → List ℕ → ℕ → ℕ → Type 0
FailsWithin kept reads left old new = kept ≡ true → reads + length left < 2 ^ 40 → old < new

-- the page's sample at place j
abbrev pub page_number : Header → List ℕ → ℕ → ℕ
page_number h raster j = number_in h.maxval raster (source h.format j) * 65535 / h.maxval

-- these are the samples of the page
pub record ArePageSamples (h : Header) (raster samples : List ℕ) : Type 0 where
  pub size : length samples ≡ h.width * h.height * 3
  pub each : (j : ℕ) → j < h.width * h.height * 3 → slice_index samples j ≡ page_number h raster j

-- The rows of a page file: what its raster has for each row of the page.

-- the header of the page's first row alone: its raster and its samples are those of one row
abbrev pub row_header : Header → Header
row_header h = record { format = h.format; width = h.width; height = 1; maxval = h.maxval }

-- the bytes and the numbers of one row
abbrev pub file_row_size : Header → ℕ
file_row_size h = raster_size (row_header h)

abbrev pub row_count : Header → ℕ
row_count h = sample_count (row_header h)

-- a header that a page may have
pub record IsPageHeader (h : Header) : Type 0 where
  pub format : IsPageFormat (Some h.format)
  pub width_some : 1 ≤ h.width
  pub width_most : h.width ≤ 16384
  pub height_some : 1 ≤ h.height
  pub height_most : h.height ≤ 16384
  pub maxval_some : 1 ≤ h.maxval
  pub maxval_most : h.maxval ≤ 65535

-- the file has one sample for each place in gray, and three in color
abbrev pub HasSamplesOf : Mode → Header → Type 0
HasSamplesOf Gray h = h.format ≡ Pgm
HasSamplesOf Color h = h.format ≡ Ppm

-- the file has three samples for each place, and the bytes of a sample are those of its number
abbrev pub HasChannels : SampleBytes → Header → Type 0
HasChannels Upper h = (h.format ≡ Ppm) × (h.maxval ≡ 255)
HasChannels Both h = (h.format ≡ Ppm) × (h.maxval ≡ 65535)

-- byte j of every third of a row's numbers from the `at`-th on, of a byte each or of two
abbrev pub third_byte : ℕ → List ℕ → ℕ → ℕ → ℕ
third_byte maxval bytes at j =
    if nat_lt maxval 256 then slice_index bytes (at + 3 * j) else slice_index bytes (2 * at + 6 * (j / 2) + j % 2)

-- these are the samples that the bytes of one row show
pub record ShowsRow (h : Header) (bytes row : List ℕ) : Type 0 where
  pub each : (j : ℕ) → j < 3 * h.width → slice_index row j ≡ page_number h bytes j

-- the bytes that are not used yet, where the last rows of a room are held and those of the reader are left
abbrev pub unused_bytes : ℕ → ℕ → List ℕ → List ℕ → List ℕ
unused_bytes size held room left = drop (length room - held * size) room ++ left

-- of the bytes that were not used yet those of one row were, and these are the samples that they show
pub record GivesRowOf (h : Header) (before after row : List ℕ) : Type 0 where
  pub size : file_row_size h ≤ length before
  pub after_is : after ≡ drop (file_row_size h) before
  pub shows : ShowsRow h (take (file_row_size h) before) row

-- of the bytes that were not used yet those of one row were, and these are the upper bytes of the samples that its
-- numbers show, from there on
pub record GivesPartOf (h : Header) (at : ℕ) (before after part : List ℕ) : Type 0 where
  pub size : file_row_size h ≤ length before
  pub after_is : after ≡ drop (file_row_size h) before
  pub part_is : (i : ℕ) → i < length part
      → slice_index part i ≡ number_in h.maxval (take (file_row_size h) before) (at + i) * 65535 / h.maxval / 256

-- of the bytes that were not used yet those of one row were, and these are those of every third of its numbers, from
-- there on
pub record GivesThirdsOf (h : Header) (at : ℕ) (before after part : List ℕ) : Type 0 where
  pub size : file_row_size h ≤ length before
  pub after_is : after ≡ drop (file_row_size h) before
  pub part_is : (j : ℕ) → j < length part
      → slice_index part j ≡ third_byte h.maxval (take (file_row_size h) before) at j

-- a room with the next rows of a file at its end, how many those are, and what is left of the reader behind them
pub record RowRoom : Type 0 where
  pub held : ℕ
  pub bytes : List ℕ
  pub left : List ℕ

abbrev pub row_room : ℕ → List ℕ → List ℕ → RowRoom
row_room held bytes left = record { held = held; bytes = bytes; left = left }

-- the bytes of the file that are not used yet
abbrev pub unused_in : Header → RowRoom → List ℕ
unused_in h room = unused_bytes (file_row_size h) room.held room.bytes room.left

-- the next row was used: its bytes stand in the room from there on
abbrev pub TakesRowAt : Header → RowRoom → ℕ → RowRoom → Type 0
TakesRowAt h was from now =
    unused_in h was ≡ slice_range now.bytes from (from + file_row_size h) ++ unused_in h now

-- the next row was used, and these are its samples
abbrev pub TakesRow : Header → RowRoom → RowRoom → List ℕ → Type 0
TakesRow h was now row = GivesRowOf h (unused_in h was) (unused_in h now) row

-- the next row was used, and these are the upper bytes of its samples, from there on
abbrev pub TakesPart : Header → ℕ → RowRoom → RowRoom → List ℕ → Type 0
TakesPart h at was now part = GivesPartOf h at (unused_in h was) (unused_in h now) part

-- the next row was used, and these are the bytes of every third of its numbers, from there on
abbrev pub TakesThirds : Header → ℕ → RowRoom → RowRoom → List ℕ → Type 0
TakesThirds h at was now part = GivesThirdsOf h at (unused_in h was) (unused_in h now) part

-- so many rows stand at the front of these bytes, fewer than 2^40, and no number of the first is above the greatest
pub record HasRows (h : Header) (rows : ℕ) (bytes : List ℕ) : Type 0 where
  pub size : rows * file_row_size h ≤ length bytes
  pub few : length bytes < 2 ^ 40
  pub none_above : NoneAbove h.maxval (take (file_row_size h) bytes) (row_count h)

-- the samples of the page that a raster shows
unfoldable pub samples_shown : Header → List ℕ → List ℕ
samples_shown h raster = concat_up_to (λ j. page_number h raster j ∷ []) (h.width * h.height * 3)

-- the page that a raster shows at so many dots per inch
abbrev pub page_shown : Header → ℕ → List ℕ → PageView
page_shown h dpi raster = record {
  width = h.width;
  height = h.height;
  dpi = dpi;
  samples = samples_shown h raster;
}

-- the raster has as many bytes as the header tells, and no number above the greatest
pub record IsRaster (h : Header) (raster : List ℕ) : Type 0 where
  pub size : length raster ≡ raster_size h
  pub none_above : NoneAbove h.maxval raster (sample_count h)

-- whether no number of a raster is above the greatest
abbrev pub TellsFit : Bool → Header → List ℕ → Type 0
TellsFit fits h raster =
    MatchBool fits (NoneAbove h.maxval raster (sample_count h)) (SomeAbove h.maxval raster (sample_count h))

-- so many bytes as the header tells were read, and the others are left
pub record ReadsRaster (h : Header) (raster left : List ℕ) : Type 0 where
  pub size : raster_size h ≤ length raster
  pub left_is : left ≡ drop (raster_size h) raster

-- the fault is not in the dots per inch that were asked for
abbrev pub IsOfFile : OpenFault → Type 0
IsOfFile (Page BadDpi) = ⊥
IsOfFile _ = Unit {0}

-- the raster after that header has the fault
abbrev pub HasRasterFault : PageFault → Header → List ℕ → Type 0
HasRasterFault Short h raster = length raster < raster_size h
HasRasterFault Trailing h raster = raster_size h < length raster
HasRasterFault SampleTooLarge h raster = (length raster ≡ raster_size h) × SomeAbove h.maxval raster (sample_count h)
HasRasterFault NoMem h raster = IsRaster h raster
HasRasterFault _ h raster = ⊥

abbrev pub HasOpenFaultAfter : OpenFault → Header → List ℕ → Type 0
HasOpenFaultAfter (Page fault) h raster = HasRasterFault fault h raster
HasOpenFaultAfter Device h raster = Unit {0}

-- the text begins with no header of a page
abbrev pub HasHeaderFault : OpenFault → List ℕ → Type 0
HasHeaderFault (Page BadMagic) text = ¬ IsPageFormat (format_of text)
HasHeaderFault (Page BadHeader) text = IsPageFormat (format_of text)
    × ((h : Header) (raster : List ℕ) → BeginsPage text h raster → ⊥)
HasHeaderFault Device text = Unit {0}
HasHeaderFault (Page _) text = ⊥
