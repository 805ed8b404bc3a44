-- What private functions alone promise.
use Rattle.std.specs.Prelude.{ℕ, ◌+◌, ◌*◌, ◌/◌, ◌<◌, ◌≡◌, ◌≢◌, nat_lt, if◌then◌else◌, List, length, slice_index}
use Rattle.std.specs.Prelude.{slice_index_or, ◌≤◌, true, ◌-◌, ◌%◌, ◌==◌, ◌&&◌, Bool, take, drop, min, []}
use Rattle.netpbm.specs.FileText.{binary, bits_byte}
use Rattle.page_picture.specs.Columns.{Columns, place_at, columns_of}
use Rattle.page_picture.specs.Page.{PageView, page_sample_at}
use Rattle.page_picture.specs.Seen.{dot_at}
use Rattle.page_picture.specs.Shows.{channels_within}
use Rattle.page_picture.specs.Source.{ChannelBytes, SourceState, bytes_in, sample_byte}
use Rattle.page_picture.specs.Tone.{brightness, in_channel, tone}
use Rattle.page_picture.specs.declared.scene.Mode.TheVariants.{Gray, Color}
use Rattle.page_picture.specs.declared.scene.Scene.{Scene}
use Rattle.page_picture.specs.declared.sources.SampleBytes.{SampleBytes}
use Rattle.page_picture.specs.declared.sources.SampleBytes.TheVariants.{Upper, Both}
use Rattle.sane_fixed.specs.declared.byte_order.ByteOrder.{ByteOrder}
use Rattle.sane_fixed.specs.declared.byte_order.ByteOrder.TheVariants.{Big}
use Rattle.sane_fixed.specs.declared.frame_format.FrameFormat.{FrameFormat}
use Rattle.scan_frames.specs.Frames.{channel_in, format_at, bytes_per_line, payload, line_bytes}
use Rattle.scan_frames.specs.Line.{half, line_of, packing_of}
use Rattle.scan_frames.specs.PassReading.{FrameProgress, FrameAndSource, IsFrame, given_in, row_of}
use Rattle.scan_frames.specs.Rows.{IsWhiteBehind, TakesRows}
use Rattle.scan_frames.specs.Samples.{IsZeroFrom}
use Rattle.scan_frames.specs.Tables.{AreComposed}
use Rattle.scan_frames.specs.declared.buffers.Buffers.{Buffers}
use Rattle.scan_frames.specs.declared.line.Layout.{Layout}
use Rattle.scan_frames.specs.declared.setup.Packing.{Packing}
use Rattle.scan_frames.specs.declared.setup.Packing.TheVariants.{Bits, Bytes, Words}
use Rattle.scan_frames.specs.declared.setup.Setup.{Setup}

-- sample i of a line stands there; bits are written eight at a time
abbrev pub HasSample : Packing → ByteOrder → List ℕ → ℕ → ℕ → Type 0
HasSample Bits order line i v = Unit {0}
HasSample Bytes order line i v = slice_index line i ≡ v
HasSample Words order line i v = (slice_index line (2 * i) ≡ half order 0 v)
    × (slice_index line (2 * i + 1) ≡ half order 1 v)

-- how many bytes the first i samples of a line take
abbrev pub sample_end : Packing → ℕ → ℕ
sample_end Bits i = 0
sample_end Bytes i = i
sample_end Words i = 2 * i

-- **sum (`sum_from`)**: 299 times a dot's red, 587 times its green and 114 times its blue; its gray is a thousandth of
-- that.
--
-- the weighted sum of the three samples from there on
abbrev pub sum_from : List ℕ → ℕ → ℕ
sum_from row i = 299 * slice_index row i + 587 * slice_index row (i + 1) + 114 * slice_index row (i + 2)

-- the gray of a place in a row
abbrev pub gray_in : List ℕ → ℕ → ℕ
gray_in row place = sum_from row (3 * place) / 1000

-- **gray rows (`IsGrayDot`, `IsGrayRow`)**: a dot is gray if its three samples are the same, and a row if all its dots
-- are. The gray of such a dot is its sample, without any sum.
abbrev pub IsGrayDot : List ℕ → ℕ → Type 0
IsGrayDot row p = (slice_index row (3 * p + 1) ≡ slice_index row (3 * p))
    × (slice_index row (3 * p + 2) ≡ slice_index row (3 * p))

-- all dots of a row are gray
abbrev pub IsGrayRow : List ℕ → Type 0
IsGrayRow row = (p : ℕ) → 3 * p + 2 < length row → IsGrayDot row p

-- the sample that a scene makes of a place in a row, in a channel of the picture
abbrev pub sample_in_row : Scene → List ℕ → ℕ → ℕ → ℕ
sample_in_row scene row place k =
    in_channel scene.mode scene.depth scene.channel_gamma k
    (tone scene.depth scene.gamma (brightness scene.mode (λ i. slice_index row (3 * place + i)) k))

-- the sample that stands as number k at column x of a frame's line
abbrev pub value_at : Scene → FrameFormat → List ℕ → Columns → ℕ → ℕ → ℕ
value_at scene format row columns x k = sample_in_row scene row (place_at columns x) (channel_in format k)

-- the samples of a scene at these places of a row stand in the line
abbrev pub HasPlaces : Scene → Layout → List ℕ → List ℕ → List ℕ → Type 0
HasPlaces scene layout row places line = (x k : ℕ) → x < length places → k < channels_within layout.format
    → HasSample layout.packing layout.order line (channels_within layout.format * x + k)
    (sample_in_row scene row (slice_index places x) (channel_in layout.format k))

-- likewise where each is a byte
abbrev pub HasPlacesAsBytes : Scene → FrameFormat → List ℕ → List ℕ → List ℕ → Type 0
HasPlacesAsBytes scene format row places line = (x k : ℕ) → x < length places → k < channels_within format
    → slice_index line (channels_within format * x + k)
    ≡ sample_in_row scene row (slice_index places x) (channel_in format k)

-- the line of a pass, of so many bytes, that shows a row of the page at these columns
abbrev pub line_shown : Setup → ℕ → List ℕ → Columns → ℕ → List ℕ
line_shown setup pass row columns size =
    line_of (packing_of setup.scene.depth) setup.order (channels_within (format_at setup pass)) columns.count
    (value_at setup.scene (format_at setup pass) row columns) size

-- **dark dots (`dark`, `darks_from`)**: one for a sample below 32,768, and zero for any other; of eight dots a byte,
-- the leftmost as its most significant bit.
abbrev pub dark : ℕ → ℕ
dark v = if nat_lt v 32768 then 1 else 0

-- the byte of every third of the samples from there on, eight of them
abbrev pub darks_from : List ℕ → ℕ → ℕ
darks_from row i = binary (λ j. dark (slice_index row (i + 3 * j))) 8

-- the bit of a column, zero behind the last
unfoldable pub bit_in : Scene → List ℕ → List ℕ → ℕ → ℕ → ℕ
bit_in scene row places k x = if nat_lt x (length places) then sample_in_row scene row (slice_index places x) k else 0

-- the byte of eight columns
unfoldable pub bits_in : Scene → List ℕ → List ℕ → ℕ → ℕ → ℕ
bits_in scene row places k b = binary (λ j. bit_in scene row places k (8 * b + j)) 8

-- each of the three tables gives each byte as it is
abbrev pub IsPlain : List (List ℕ) → Type 0
IsPlain tables = (k v : ℕ) → k < 3 → v < 256 → slice_index (slice_index_or tables k []) v ≡ v

-- a table gives each byte as it is
abbrev pub IsSame : List ℕ → Type 0
IsSame table = (v : ℕ) → v < 256 → slice_index table v ≡ v

-- the three samples of each of these places lie in the row
abbrev pub AreInRow : List ℕ → List ℕ → Type 0
AreInRow places row = (x : ℕ) → x < length places → 3 * slice_index places x + 2 < length row

-- the places lie one beside the other, from the first on
abbrev pub IsRunFrom : ℕ → List ℕ → Type 0
IsRunFrom first places = (x : ℕ) → x < length places → slice_index places x ≡ first + x

-- from that place on a line stays as it was
abbrev pub StaysFrom : ℕ → List ℕ → List ℕ → Type 0
StaysFrom n old new = (j : ℕ) → n ≤ j → slice_index new j ≡ slice_index old j

-- the row holds what is seen at that height, on the page or off it
pub record IsSeen (page : PageView) (height : ℕ) (row : List ℕ) : Type 0 where
  pub each : (c k : ℕ) → c ≤ page.width → k < 3 → slice_index row (3 * c + k) ≡ dot_at page c height k

abbrev pub SeesRow : SourceState → ℕ → List ℕ → Type 0
SeesRow s target row = s.steady ≡ true → IsSeen s.page target row

-- before the first line nothing is left, and of the last line made some byte was given
pub record IsLineCounted (f : FrameProgress) : Type 0 where
  pub none : f.made ≡ 0 → f.left ≡ 0
  pub begun : 0 < f.made → f.left < length f.line

-- The buffers of a frame, step by step.

abbrev pub state_of : Buffers → FrameProgress
state_of b = record {
  pass = b.pass;
  columns = b.columns;
  tables = b.tables;
  height = b.height;
  row = b.row.items;
  taken = b.taken;
  line = b.line.items;
  made = b.made;
  left = b.left;
}

-- a source, and how far its frame has come in these buffers
abbrev pub being_read : SourceState → Buffers → FrameAndSource
being_read source buffers = record { source = source; frame = state_of buffers }

-- buffers for the frame of a pass, before its first row
pub record IsNewFrame (page : PageView) (setup : Setup) (pass height : ℕ) (f : FrameProgress) : Type 0 where
  pub pass_is : f.pass ≡ pass
  pub columns : f.columns ≡ columns_of setup.scene page.width page.dpi
  pub tables : AreComposed setup.scene f.tables
  pub height_is : f.height ≡ height
  pub row : IsWhiteBehind page.width f.row
  pub taken : f.taken ≡ 0
  pub line : length f.line ≡ bytes_per_line setup pass
  pub zeros : IsZeroFrom 0 f.line
  pub made : f.made ≡ 0
  pub left : f.left ≡ 0

-- the next line was made, and nothing of it given
pub record MakesLine (s : SourceState) (setup : Setup) (old : FrameProgress) (t : SourceState)
    (new : FrameProgress) : Type 0 where
  pub source : TakesRows s t
  pub frame : IsFrame t setup new
  pub pass_is : new.pass ≡ old.pass
  pub line : length new.line ≡ length old.line
  pub made : new.made ≡ old.made + 1
  pub left : new.left ≡ length new.line

-- no line was made
pub record KeepsCount (old new : FrameProgress) : Type 0 where
  pub line : length new.line ≡ length old.line
  pub made : new.made ≡ old.made
  pub left : new.left ≡ old.left

-- the bytes that are left of the line that is given next
abbrev pub left_of_line : FrameProgress → ℕ
left_of_line f = length f.line - given_in f % length f.line

-- all lines were made and given
abbrev pub is_frame_over : FrameProgress → Bool
is_frame_over f = (f.left == 0) && (f.made == f.height)

-- some byte of the last line is left
pub record HasLineBytes (s : SourceState) (setup : Setup) (old : FrameProgress) (t : SourceState)
    (new : FrameProgress) : Type 0 where
  pub source : TakesRows s t
  pub frame : IsFrame t setup new
  pub pass_is : new.pass ≡ old.pass
  pub given : given_in new ≡ given_in old
  pub left : new.left ≡ left_of_line old
  pub some : 0 < new.left
  pub made : 0 < new.made

-- n bytes of the last line were given
pub record GivesLine (old : FrameProgress) (n : ℕ) (new : FrameProgress) (buf : List ℕ) : Type 0 where
  pub count : n ≡ min old.left (length buf)
  pub bytes : take n buf ≡ take n (drop (length old.line - old.left) old.line)
  pub after : new ≡ record old { left = old.left - n }

-- n bytes of the frame were written, behind those that were given before
pub record HasGivenOfFrame (s : SourceState) (setup : Setup) (old : FrameProgress) (n : ℕ) (t : SourceState)
    (new : FrameProgress) (buf : List ℕ) : Type 0 where
  pub source : TakesRows s t
  pub frame : IsFrame t setup new
  pub counted : IsLineCounted new
  pub pass_is : new.pass ≡ old.pass
  pub further : given_in new ≡ given_in old + n
  pub bytes : s.steady ≡ true → take n buf ≡ take n (drop (given_in old) (payload setup s.page old.pass))

-- they are all that is left of a line, but no more than the buffer holds
pub record GivesOfLine (setup : Setup) (was : FrameAndSource) (n : ℕ) (now : FrameAndSource)
    (buf : List ℕ) : Type 0 where
  pub count : n ≡ min (left_of_line was.frame) (length buf)
  pub some : 0 < n
  pub given : HasGivenOfFrame was.source setup was.frame n now.source now.frame buf

-- the next line may be made apart from the line that a frame keeps: its row is the next, and no further line shows it,
-- and no byte stands behind its samples
pub record MayBeMadeApart (setup : Setup) (page : PageView) (f : FrameProgress) : Type 0 where
  pub no_loss : setup.loss ≡ 0
  pub next : row_of setup page f.made ≡ f.taken
  pub alone : row_of setup page f.made ≢ row_of setup page (f.made + 1)

-- Lines that are made of rows of bytes.

-- the next row was taken, and its places from `first` on were put in gray, a byte each, by a table
pub record PutsGrays (s : SourceState) (table : List ℕ) (first : ℕ) (t : SourceState) (line : List ℕ) : Type 0 where
  pub more : s.given < s.page.height
  pub after : t ≡ record s { given = s.given + 1 }
  pub here : s.steady ≡ true → (x : ℕ) → x < length line
      → slice_index line x
      ≡ slice_index table (brightness Gray (λ k. page_sample_at s.page (first + x) s.given k) 0 / 256)

-- the same in color, as they are
pub record PutsColors (s : SourceState) (first : ℕ) (t : SourceState) (line : List ℕ) : Type 0 where
  pub more : s.given < s.page.height
  pub after : t ≡ record s { given = s.given + 1 }
  pub here : s.steady ≡ true → (x k : ℕ) → k < 3 → 3 * x + k < length line
      → slice_index line (3 * x + k) ≡ page_sample_at s.page (first + x) s.given k / 256

-- a line of a pass shows these bytes of one channel of the page as they are
abbrev pub AreAsTheyAre : Setup → List (List ℕ) → SampleBytes → ℕ → Type 0
AreAsTheyAre setup tables Upper channel =
    (packing_of setup.scene.depth ≡ Bytes) × IsSame (slice_index_or tables channel [])
AreAsTheyAre setup tables Both channel = (packing_of setup.scene.depth ≡ Words) × (setup.order ≡ Big)

-- the pass is one of one color, whose channel of the page this is, and its lines show these bytes of it as they are
pub record ShowsChannel (setup : Setup) (pass : ℕ) (tables : List (List ℕ)) (which : SampleBytes)
    (channel : ℕ) : Type 0 where
  pub mode : setup.scene.mode ≡ Color
  pub one : channels_within (format_at setup pass) ≡ 1
  pub channel_is : channel ≡ channel_in (format_at setup pass) 0
  pub few : channel < 3
  pub shown : AreAsTheyAre setup tables which channel

-- the next row was taken, and these bytes of one channel of `count` of its places were put
pub record PutsChannel (s : SourceState) (of : ChannelBytes) (count : ℕ) (t : SourceState)
    (line : List ℕ) : Type 0 where
  pub more : s.given < s.page.height
  pub after : t ≡ record s { given = s.given + 1 }
  pub here : s.steady ≡ true → (j : ℕ) → j < bytes_in of.which * count
      → slice_index line j ≡ sample_byte of.which (λ x. page_sample_at s.page (of.first + x) s.given of.channel) j

-- **black bytes (`black`, `black_in`, `blacks_in`)**: one for an entry of a gamma table that is black at depth 1 (below
-- 128), and zero for any other. Eight bytes make a byte, the leftmost its most significant bit, with zeros behind the
-- last byte.
abbrev pub black : ℕ → ℕ
black v = if nat_lt v 128 then 1 else 0

-- the bit of a byte, zero behind the last
unfoldable pub black_in : List ℕ → ℕ → ℕ
black_in bytes x = if nat_lt x (length bytes) then black (slice_index bytes x) else 0

-- the byte of eight bytes
unfoldable pub blacks_in : List ℕ → ℕ → ℕ
blacks_in bytes b = binary (λ j. black_in bytes (8 * b + j)) 8

-- the next row was taken, and `count` of its places from `first` on were put in gray, a bit each, by a table; zeros
-- stand behind them
pub record PutsGrayBits (s : SourceState) (table : List ℕ) (first count : ℕ) (t : SourceState)
    (line : List ℕ) : Type 0 where
  pub more : s.given < s.page.height
  pub after : t ≡ record s { given = s.given + 1 }
  pub here : s.steady ≡ true → (b : ℕ) → b < length line
      → slice_index line b
      ≡ bits_byte count (λ x.
      black (slice_index table (brightness Gray (λ k. page_sample_at s.page (first + x) s.given k) 0 / 256))) b

-- the next row was taken, and the line is that of a pass where it shows this row
pub record MakesOfRow (s : SourceState) (setup : Setup) (pass : ℕ) (t : SourceState) (line : List ℕ) : Type 0 where
  pub more : s.given < s.page.height
  pub after : t ≡ record s { given = s.given + 1 }
  pub bytes : s.steady ≡ true → (y : ℕ) → row_of setup s.page y ≡ s.given → line ≡ line_bytes setup s.page pass y
