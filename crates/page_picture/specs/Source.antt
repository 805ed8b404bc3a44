-- A source of a page's rows, as contracts see it, and what each of its calls does.
use Rattle.std.specs.Prelude.{ℕ, ◌+◌, ◌-◌, ◌*◌, ◌/◌, ◌%◌, ◌^◌, ◌<◌, ◌≡◌, ◌==◌, ◌⊎◌, if◌then◌else◌, Bool, true, false}
use Rattle.std.specs.Prelude.{List, length, slice_index, Result, Ok, Err}
use Rattle.page_picture.specs.Page.{PageView, IsRow, page_sample_at}
use Rattle.page_picture.specs.declared.scene.Mode.{Mode}
use Rattle.page_picture.specs.declared.scene.Mode.TheVariants.{Gray, Color}
use Rattle.page_picture.specs.declared.sources.SampleBytes.{SampleBytes}
use Rattle.page_picture.specs.declared.sources.SampleBytes.TheVariants.{Upper, Both}
use Rattle.page_picture.specs.declared.sources.SourceFault.{SourceFault}

-- **page source (`SourceState`, `SourceAndBytes`, `GivesRow`, `GivesRowBytes`, `ChannelBytes`, `GivesChannel`,
-- `Rewinds`)**: a page, how many of its rows were given since the last rewind, whether the source is steady (it gives
-- the page's rows at each pass), whether it is infallible (it can never fail), and how often it failed. A call of
-- `next_row` gives the next row, or none after the last, or fails. A steady source gives the page's row. A failure is
-- counted, unless the count stands at its greatest. A call of `next_bytes` gives the upper byte of each of the next
-- row's samples, from a place on, or does nothing, or fails. A call of `next_channel` gives the bytes of one channel
-- alone.
pub record SourceState : Type 0 where
  pub page : PageView
  pub given : ℕ
  pub steady : Bool
  pub infallible : Bool
  pub failures : ℕ

-- one failure was counted, or the count stands at its greatest
abbrev pub CountsFailure : ℕ → ℕ → Type 0
CountsFailure old new = (new ≡ old + 1) ⊎ ((old ≡ 2 ^ 64 - 1) × (new ≡ old))

-- the call of a source that can fail failed: that was counted, and nothing else is changed
pub record Fails (old new : SourceState) : Type 0 where
  pub fallible : old.infallible ≡ false
  pub counted : CountsFailure old.failures new.failures
  pub rest : new ≡ record old { failures = new.failures }

-- the next row was given: it is the page's where the source is steady
pub record GivesNext (old new : SourceState) (row : List ℕ) : Type 0 where
  pub more : old.given < old.page.height
  pub after : new ≡ record old { given = old.given + 1 }
  pub is_row : old.steady ≡ true → IsRow old.page old.given row

-- the next row, or none after the last, or a failure
abbrev pub GivesRow : SourceState → Result Bool SourceFault → SourceState → List ℕ → Type 0
GivesRow old (Ok true) new row = GivesNext old new row
GivesRow old (Ok false) new row = (old.given ≡ old.page.height) × (new ≡ old)
GivesRow old (Err _) new row = Fails old new

-- where the byte of a place's sample k stands in a row of bytes, which has one for each place in gray and three in
-- color
abbrev pub byte_place : Mode → ℕ → ℕ → ℕ
byte_place Gray x k = x
byte_place Color x k = 3 * x + k

-- the upper bytes of the next row were given, from place `first` on: each is that of the page's sample
pub record GivesNextBytes (mode : Mode) (first : ℕ) (old new : SourceState) (bytes : List ℕ) : Type 0 where
  pub more : old.given < old.page.height
  pub after : new ≡ record old { given = old.given + 1 }
  pub shows : old.steady ≡ true → (x k : ℕ) → k < 3 → byte_place mode x k < length bytes
      → slice_index bytes (byte_place mode x k) ≡ page_sample_at old.page (first + x) old.given k / 256

-- a source, and the bytes that a call of it may write
pub record SourceAndBytes : Type 0 where
  pub source : SourceState
  pub bytes : List ℕ

abbrev pub source_and_bytes : SourceState → List ℕ → SourceAndBytes
source_and_bytes source bytes = record { source = source; bytes = bytes }

-- the upper bytes of the next row; or nothing, if the page gives none or no row is left; or a failure
abbrev pub GivesRowBytes : Mode → ℕ → SourceAndBytes → Result Bool SourceFault → SourceAndBytes → Type 0
GivesRowBytes mode first was (Ok true) now = GivesNextBytes mode first was.source now.source now.bytes
GivesRowBytes mode first was (Ok false) now = (now.source ≡ was.source) × (now.bytes ≡ was.bytes)
GivesRowBytes mode first was (Err _) now = Fails was.source now.source

-- how many bytes of a sample are given
abbrev pub bytes_in : SampleBytes → ℕ
bytes_in Upper = 1
bytes_in Both = 2

-- byte j of the samples at 0, at 1 and so on: of each the upper one, or both, the upper one first
abbrev pub sample_byte : SampleBytes → (ℕ → ℕ) → ℕ → ℕ
sample_byte Upper at j = at j / 256
sample_byte Both at j = if j % 2 == 0 then at (j / 2) / 256 else at (j / 2) % 256

-- bytes of one channel of a row: which byte of each sample, and from which place on
pub record ChannelBytes : Type 0 where
  pub which : SampleBytes
  pub channel : ℕ
  pub first : ℕ

-- these bytes of the next row were given: each is that of the page's sample
pub record GivesNextChannel (of : ChannelBytes) (old new : SourceState) (bytes : List ℕ) : Type 0 where
  pub more : old.given < old.page.height
  pub after : new ≡ record old { given = old.given + 1 }
  pub shows : old.steady ≡ true → (j : ℕ) → j < length bytes
      → slice_index bytes j ≡ sample_byte of.which (λ x. page_sample_at old.page (of.first + x) old.given of.channel) j

-- the bytes of one channel of the next row; or nothing, if the page gives none or no row is left; or a failure
abbrev pub GivesChannel : ChannelBytes → SourceAndBytes → Result Bool SourceFault → SourceAndBytes → Type 0
GivesChannel of was (Ok true) now = GivesNextChannel of was.source now.source now.bytes
GivesChannel of was (Ok false) now = (now.source ≡ was.source) × (now.bytes ≡ was.bytes)
GivesChannel of was (Err _) now = Fails was.source now.source

-- from the top again, or a failure
abbrev pub Rewinds : {Done : Type 0} → SourceState → Result Done SourceFault → SourceState → Type 0
Rewinds old (Ok _) new = new ≡ record old { given = 0 }
Rewinds old (Err _) new = Fails old new
