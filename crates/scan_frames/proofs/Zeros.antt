-- What follows the pixels of a line is zero.
use Rattle.std.proofs.Common.{◌≡◌, ◌⊎◌, ℕ, ◌<◌, ◌≤◌, ◌+◌, ◌-◌, ◌*◌, ◌/◌, ◌%◌, inl, inr, Bool, false, arith, refl, sym, ap, ◌∙◌, subst}
use Rattle.std.specs.Prelude.{nat_lt, ◌==◌, ◌^◌, slice_index, if◌then◌else◌}
use Rattle.std.proofs.lemmas.Bool.Decides.{nat_tests}
use Rattle.netpbm.specs.FileText.{bits_byte}
use Rattle.netpbm.proofs.WritingLaws.{binary_bit}
use Rattle.netpbm.specs.Pnm.{bit_row}
use Rattle.sane_fixed.specs.declared.byte_order.ByteOrder.{ByteOrder}
use Rattle.page_picture.specs.Page.{PageView}
use Rattle.page_picture.specs.Shows.{channels_within}
use Rattle.scan_frames.specs.declared.setup.Packing.TheVariants.{Bits, Bytes, Words}
use Rattle.scan_frames.specs.declared.setup.Setup.{Setup}
use Rattle.scan_frames.specs.Line.{packing_of, line_byte, half}
use Rattle.scan_frames.specs.Frames.{IsSetup, bytes_per_line, channel_in, format_at, height_of, payload, width_of}
use Rattle.scan_frames.specs.Filler.{EndsInZeros}
use Rattle.scan_frames.proofs.Lines.{binary_same}
use Rattle.scan_frames.proofs.FramesShow.{samples_at, payload_at, bit_sample, bit_under}

pub bits_past : (w : ℕ) (at : ℕ → ℕ) (j : ℕ) → bit_row w ≤ j → bits_byte w at j ≡ 0
bits_past w at j past =
    binary_same (λ i. if nat_lt (8 * j + i) w then at (8 * j + i) else 0) (λ i. 0) 8 (λ i few.
    let P : Bool → Type 0 = λ t. (if t then at (8 * j + i) else 0) ≡ 0 in
    let behind : nat_lt (8 * j + i) w ≡ false = let far : w ≤ 8 * j + i = omega arith in grind (arith, nat_tests) in
    subst P (sym behind) refl)

bytes_past : (order : ByteOrder) (c w : ℕ) (at : ℕ → ℕ → ℕ) (j : ℕ) → c * w ≤ j → line_byte Bytes order c w at j ≡ 0
bytes_past order c w at j past =
    let behind : nat_lt j (c * w) ≡ false = grind (arith, nat_tests) in
    subst (λ (t : Bool). (if t then at (j / c) (j % c) else 0) ≡ 0) (sym behind) refl

words_past : (order : ByteOrder) (c w : ℕ) (at : ℕ → ℕ → ℕ) (j : ℕ) → 2 * (c * w) ≤ j → line_byte Words order c w at j ≡ 0
words_past order c w at j past =
    let behind : nat_lt j (2 * (c * w)) ≡ false = grind (arith, nat_tests) in
    subst (λ (t : Bool). (if t then half order (j % 2) (at (j / 2 / c) (j / 2 % c)) else 0) ≡ 0) (sym behind) refl

-- the bytes of a row's samples
abbrev row_end : ℕ → ℕ → ℕ → ℕ
row_end c w depth = if depth == 1 then bit_row w else w * c * (depth / 8)

byte_past : (setup : Setup) (page : PageView) (pass : ℕ) → (setup.scene.depth ≡ 1) ⊎ ((setup.scene.depth ≡ 8) ⊎ (setup.scene.depth ≡ 16)) → (y j : ℕ) → y < height_of setup page → row_end (channels_within (format_at setup pass)) (width_of setup) setup.scene.depth ≤ j → j < bytes_per_line setup pass → slice_index (payload setup page pass) (y * bytes_per_line setup pass + j) ≡ 0
byte_past setup page pass (inl is) y j row past inside =
    let start : row_end (channels_within (format_at setup pass)) (width_of setup) setup.scene.depth ≡ bit_row (width_of setup) = ap (row_end (channels_within (format_at setup pass)) (width_of setup)) is in
    payload_at setup page pass Bits (ap packing_of is) y j row inside
    ∙ bits_past (width_of setup) (λ x. samples_at setup page pass y x 0) j (omega arith)
byte_past setup page pass (inr (inl is)) y j row past inside =
    let c = channels_within (format_at setup pass) in
    let start : row_end c (width_of setup) setup.scene.depth ≡ width_of setup * c * 1 = ap (row_end c (width_of setup)) is in
    let turned : width_of setup * c * 1 ≡ c * width_of setup = omega arith in
    payload_at setup page pass Bytes (ap packing_of is) y j row inside
    ∙ bytes_past setup.order c (width_of setup) (samples_at setup page pass y) j (omega arith)
byte_past setup page pass (inr (inr is)) y j row past inside =
    let c = channels_within (format_at setup pass) in
    let start : row_end c (width_of setup) setup.scene.depth ≡ width_of setup * c * 2 = ap (row_end c (width_of setup)) is in
    let turned : width_of setup * c * 2 ≡ 2 * (c * width_of setup) = omega arith in
    payload_at setup page pass Words (ap packing_of is) y j row inside
    ∙ words_past setup.order c (width_of setup) (samples_at setup page pass y) j (omega arith)

bit_past : (setup : Setup) (page : PageView) (pass : ℕ) → setup.scene.depth ≡ 1 → (y x : ℕ) → y < height_of setup page → width_of setup ≤ x → x / 8 < bytes_per_line setup pass → slice_index (payload setup page pass) (y * bytes_per_line setup pass + x / 8) / 2 ^ (7 - x % 8) % 2 ≡ 0
bit_past setup page pass is y x row past inside =
    let w = width_of setup in
    let at : ℕ → ℕ = λ x. samples_at setup page pass y x 0 in
    let behind : nat_lt (8 * (x / 8) + x % 8) w ≡ false = let place : 8 * (x / 8) + x % 8 ≡ x = omega arith in grind (arith, nat_tests) in
    ap (λ (t : ℕ). t / 2 ^ (7 - x % 8) % 2) (payload_at setup page pass Bits (ap packing_of is) y (x / 8) row inside)
    ∙ (binary_bit (λ j. if nat_lt (8 * (x / 8) + j) w then at (8 * (x / 8) + j) else 0) (λ j. bit_under w at (λ x. bit_sample page setup.scene x y (channel_in (format_at setup pass) 0) is) (8 * (x / 8) + j)) (x % 8) (omega arith)
    ∙ ap (λ (t : Bool). if t then at (8 * (x / 8) + x % 8) else 0) behind)

pub ends_in_zeros : (setup : Setup) (page : PageView) (pass : ℕ) → IsSetup setup → EndsInZeros setup page pass
ends_in_zeros setup page pass is = record {
  bytes = byte_past setup page pass is.depth;
  bits = bit_past setup page pass;
}
