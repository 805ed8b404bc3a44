-- What is kept of frames has all their bytes, makes the same file, and shows the same picture.
use Rattle.std.proofs.Common.{◌≡◌, ℕ, ◌<◌, ◌≤◌, ◌+◌, ◌*◌, ◌⊎◌, inl, inr, true, List, [], ◌∷◌, ◌++◌, length, arith, refl, sym, ap, ◌∙◌, subst}
use Rattle.std.specs.Prelude.{Some, slice_index}
use Rattle.std.proofs.Math.Nat.{mul-le-mul_right}
use Rattle.netpbm.specs.FileText.{header_text}
use Rattle.page_picture.specs.Shows.{Frame, HasLines}
use Rattle.frame_join.specs.AloneFrame.{row_bytes, ShapeParts}
use Rattle.frame_join.specs.KeptFrame.{is_open_ended, is_pass}
use Rattle.frame_join.specs.FrameHistory.{is_full}
use Rattle.frame_join.specs.FrameFile.{file_front, header_alone, raster_byte, row_front, rows_front, with_height, frame_height, place_in, trimmed_byte}
use Rattle.frame_join.specs.Pixels.{is_kept, pixels_of, pixels_from}
use Rattle.frame_join.proofs.KeptLaws.{open_parts, pass_parts, kept_shape}
use Rattle.frame_join.proofs.HeightLaws.{full_size, open_side, size_full_by, height_by, told_by, height_known}
use Rattle.frame_join.proofs.StreamLaws.{joined_same, place_below_at}
use Rattle.frame_join.proofs.PixelRows.{pixel_at, length-pixels, length-pixels-le}
use Rattle.frame_join.proofs.PixelParams.{narrowed, pixels_kept, kept_cases}

-- ---- where the bytes stand

-- from the first byte on
pub pixel_byte : (size line y k : ℕ) (bytes : List ℕ) → 1 ≤ line → size ≤ line → k < size → (y + 1) * line ≤ length bytes → slice_index (pixels_from size line 0 bytes) (y * size + k) ≡ slice_index bytes (y * line + k)
pixel_byte size line y k bytes some fits low there =
    ap (λ (n : ℕ). slice_index (pixels_from size line n bytes) (y * size + k)) (let e : 0 ≡ 0 * line = omega arith in e) ∙ pixel_at size line y 0 k bytes some fits low there

length_all : (size line n : ℕ) (bytes : List ℕ) → 1 ≤ line → size ≤ line → length bytes ≡ n * line → length (pixels_from size line 0 bytes) ≡ n * size
length_all size line n bytes some fits e =
    ap (λ (m : ℕ). length (pixels_from size line m bytes)) (let z : 0 ≡ 0 * line = omega arith in z) ∙ length-pixels size line n 0 bytes some fits e

pub length_most : (size line n : ℕ) (bytes : List ℕ) → 1 ≤ line → size ≤ line → length bytes ≤ n * line → length (pixels_from size line 0 bytes) ≤ n * size
length_most size line n bytes some fits few =
    subst (λ (m : ℕ). length (pixels_from size line m bytes) ≤ n * size) (let z : 0 * line ≡ 0 = omega arith in z) (length-pixels-le size line n 0 bytes some fits few)

-- ---- a frame that has all its bytes

-- how many lines it has, and that it has all their bytes
pub record IsWhole (f : Frame) : Type 0 where
  pub shape : ShapeParts f.params
  pub kept : is_kept f.params ≡ true
  pub some : 1 ≤ f.params.bytes_per_line
  pub fits : row_bytes f.params ≤ f.params.bytes_per_line
  pub low : 1 ≤ frame_height f
  pub high : frame_height f ≤ 65536
  pub size : length f.payload ≡ frame_height f * f.params.bytes_per_line
  pub lines : HasLines f.params.lines (frame_height f)

height_side : (f : Frame) → is_full f ≡ true → (is_open_ended f.params ≡ true) ⊎ (is_pass f.params ≡ true) → (1 ≤ frame_height f) × (frame_height f ≤ 65536)
height_side f full (inl rolled) = open_side f (open_parts f.params rolled).lines full
height_side f full (inr pass) =
    let parts = pass_parts f.params pass in
    subst (λ (n : ℕ). (1 ≤ n) × (n ≤ 65536)) (sym (height_known f parts.lines_known)) (parts.lines_some, parts.lines_most)

pub whole_of : (f : Frame) → is_kept f.params ≡ true → is_full f ≡ true → IsWhole f
whole_of f kept full =
    let shape = kept_shape f.params kept in
    let side = height_side f full (kept_cases f.params kept) in
    record {
      shape = shape;
      kept = kept;
      some = omega (arith, shape.row_some, shape.fits);
      fits = shape.fits;
      low = side.0;
      high = side.1;
      size = full_size f full;
      lines = told_by f.params.lines f.params.bytes_per_line (length f.payload) (frame_height f) refl;
    }

pub narrow_size : (f : Frame) → IsWhole f → length (narrowed f).payload ≡ frame_height f * row_bytes f.params
narrow_size f w = length_all (row_bytes f.params) f.params.bytes_per_line (frame_height f) f.payload w.some w.fits w.size

narrow_full : (f : Frame) → IsWhole f → is_full (narrowed f) ≡ true
narrow_full f w = size_full_by f.params.lines (row_bytes f.params) (length (narrowed f).payload) (frame_height f) w.shape.row_some w.lines w.low w.high (narrow_size f w)

pub narrow_height : (f : Frame) → IsWhole f → frame_height (narrowed f) ≡ frame_height f
narrow_height f w = height_by f.params.lines (row_bytes f.params) (length (narrowed f).payload) (frame_height f) w.shape.row_some w.lines (narrow_size f w)

pub full_pixels : (f : Frame) → is_kept f.params ≡ true → is_full f ≡ true → is_full (pixels_of f) ≡ true
full_pixels f kept full = ap is_full (pixels_kept f kept) ∙ narrow_full f (whole_of f kept full)

-- a byte of a row in its line
pub narrow_byte : (f : Frame) (y k : ℕ) → IsWhole f → y < frame_height f → k < row_bytes f.params → slice_index (narrowed f).payload (y * row_bytes f.params + k) ≡ slice_index f.payload (y * f.params.bytes_per_line + k)
narrow_byte f y k w row low =
    let there : (y + 1) * f.params.bytes_per_line ≤ length f.payload = line_there f y (frame_height f) w.size row in
    pixel_byte (row_bytes f.params) f.params.bytes_per_line y k f.payload w.some w.fits low there
  where
    line_there : (f : Frame) (y n : ℕ) → length f.payload ≡ n * f.params.bytes_per_line → y < n → (y + 1) * f.params.bytes_per_line ≤ length f.payload
    line_there f y n size row = omega (arith, size, mul-le-mul_right f.params.bytes_per_line (let le : y + 1 ≤ n = omega (arith, row) in le))

-- ---- the file of one frame

narrow_raster : (f : Frame) (y j : ℕ) → IsWhole f → y < frame_height f → j < row_bytes f.params → raster_byte (with_height (narrowed f)) y j ≡ raster_byte (with_height f) y j
narrow_raster f y j w row low =
    ap (trimmed_byte f.params.pixels_per_line f.params.depth j) (narrow_byte f y (place_in f.order f.params.depth j) w row (place_below_at f.order f.params.format f.params.pixels_per_line f.params.depth j w.shape.depths low))

narrow_row : (f : Frame) (y : ℕ) → IsWhole f → y < frame_height f → row_front (with_height (narrowed f)) y (row_bytes f.params) ≡ row_front (with_height f) y (row_bytes f.params)
narrow_row f y w row =
    joined_same (λ j. raster_byte (with_height (narrowed f)) y j ∷ []) (λ j. raster_byte (with_height f) y j ∷ []) (row_bytes f.params)
    (λ j low. ap (λ (b : ℕ). b ∷ []) (narrow_raster f y j w row low))

narrow_rows : (f : Frame) → IsWhole f → rows_front (with_height (narrowed f)) (frame_height f) ≡ rows_front (with_height f) (frame_height f)
unfolding rows_front
narrow_rows f w =
    joined_same (λ y. row_front (with_height (narrowed f)) y (row_bytes f.params)) (λ y. row_front (with_height f) y (row_bytes f.params)) (frame_height f) (λ y row. narrow_row f y w row)

narrow_header : (f : Frame) → IsWhole f → header_alone (with_height (narrowed f)).params ≡ header_alone (with_height f).params
narrow_header f w = ap (λ (n : ℕ). header_alone (record f.params { lines = Some n })) (narrow_height f w)

pub narrow_file : (f : Frame) → IsWhole f → file_front (with_height (narrowed f)) (frame_height (narrowed f)) ≡ file_front (with_height f) (frame_height f)
narrow_file f w =
    ap (file_front (with_height (narrowed f))) (narrow_height f w)
    ∙ (ap (λ (l : List ℕ). l ++ rows_front (with_height (narrowed f)) (frame_height f)) (ap header_text (narrow_header f w))
    ∙ ap (λ (l : List ℕ). header_text (header_alone (with_height f).params) ++ l) (narrow_rows f w))
