-- The bytes of a line of a frame (SANE Standard 1.06, "Frame Formats").
use Rattle.std.specs.Prelude.{ℕ, ◌+◌, ◌*◌, ◌/◌, ◌%◌, nat_lt, ◌==◌, if◌then◌else◌, List, [], ◌∷◌}
use Rattle.netpbm.specs.FileText.{concat_up_to, bits_byte}
use Rattle.sane_fixed.specs.declared.byte_order.ByteOrder.{ByteOrder}
use Rattle.sane_fixed.specs.declared.byte_order.ByteOrder.TheVariants.{Little, Big}
use Rattle.scan_frames.specs.declared.setup.Packing.{Packing}
use Rattle.scan_frames.specs.declared.setup.Packing.TheVariants.{Bits, Bytes, Words}

abbrev pub packing_of : ℕ → Packing
packing_of depth = if depth == 16 then Words else (if depth == 8 then Bytes else Bits)

-- the bytes of a line of so many pixels, each of so many channels
abbrev pub line_size : Packing → ℕ → ℕ → ℕ
line_size Bits channels pixels = (pixels + 7) / 8
line_size Bytes channels pixels = channels * pixels
line_size Words channels pixels = 2 * (channels * pixels)

-- the first or the second byte of a number of two bytes
abbrev pub half : ByteOrder → ℕ → ℕ → ℕ
half Little part v = if part == 0 then v % 256 else v / 256
half Big part v = if part == 0 then v / 256 else v % 256

-- byte j of a line that shows the samples `at x k` of so many columns, zero behind its last pixel
abbrev pub line_byte : Packing → ByteOrder → ℕ → ℕ → (ℕ → ℕ → ℕ) → ℕ → ℕ
line_byte Bits order channels width at j = bits_byte width (λ x. at x 0) j
line_byte Bytes order channels width at j = if nat_lt j (channels * width) then at (j / channels) (j % channels) else 0
line_byte Words order channels width at j =
    if nat_lt j (2 * (channels * width)) then half order (j % 2) (at (j / 2 / channels) (j / 2 % channels)) else 0

-- the numbers f 0, f 1 and so on, n of them
abbrev pub numbers : (ℕ → ℕ) → ℕ → List ℕ
numbers f n = concat_up_to (λ i. f i ∷ []) n

-- **line (`line_of`, `line_byte`)**: the samples of a line as bits, the leftmost the most significant, as bytes, or as
-- two bytes in the byte order; zero behind the last pixel.
--
-- such a line of `size` bytes
unfoldable pub line_of : Packing → ByteOrder → ℕ → ℕ → (ℕ → ℕ → ℕ) → ℕ → List ℕ
line_of packing order channels width at size = numbers (line_byte packing order channels width at) size
