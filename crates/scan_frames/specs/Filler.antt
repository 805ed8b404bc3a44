-- What follows the pixels of a line.
use Rattle.std.specs.Prelude.{ℕ, ◌+◌, ◌-◌, ◌*◌, ◌/◌, ◌%◌, ◌^◌, ◌<◌, ◌≤◌, ◌≡◌, slice_index}
use Rattle.page_picture.specs.Page.{PageView}
use Rattle.page_picture.specs.Shows.{row_size}
use Rattle.scan_frames.specs.Frames.{bytes_per_line, format_at, height_of, payload, width_of}
use Rattle.scan_frames.specs.declared.setup.Setup.{Setup}

-- **filler (`EndsInZeros`)**: all that follows the pixels of a line is zero, at depth 1 also the rest of the last byte.
pub record EndsInZeros (setup : Setup) (page : PageView) (pass : ℕ) : Type 0 where
  pub bytes : (y j : ℕ) → y < height_of setup page
      → row_size (format_at setup pass) (width_of setup) setup.scene.depth ≤ j → j < bytes_per_line setup pass
      → slice_index (payload setup page pass) (y * bytes_per_line setup pass + j) ≡ 0
  pub bits : setup.scene.depth ≡ 1 → (y x : ℕ) → y < height_of setup page → width_of setup ≤ x
      → x / 8 < bytes_per_line setup pass
      → slice_index (payload setup page pass) (y * bytes_per_line setup pass + x / 8) / 2 ^ (7 - x % 8) % 2 ≡ 0
