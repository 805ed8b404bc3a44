-- What three frames of one color each hold, and the one frame that has the colors side by side.
use Rattle.std.specs.Prelude.{ℕ, ◌+◌, ◌*◌, ◌/◌, ◌%◌, ◌==◌, true, if◌then◌else◌, List, ◌∷◌, slice_index, []}
use Rattle.netpbm.specs.FileText.{concat_up_to}
use Rattle.sane_fixed.specs.declared.frame_format.FrameFormat.TheVariants.{Rgb}
use Rattle.sane_fixed.specs.declared.params.Params.{Params}
use Rattle.page_picture.specs.Shows.{Frame, row_size}
use Rattle.frame_join.specs.AloneFrame.{lines_in, row_bytes}
use Rattle.frame_join.specs.KeptFrame.{color_number}

-- one color: how many bytes a line has, and the bytes
pub record Plane : Type 0 where
  pub line : ℕ
  pub bytes : List ℕ

pub record Planes : Type 0 where
  pub red : Plane
  pub green : Plane
  pub blue : Plane

abbrev pub no_plane : Plane
no_plane = record { line = 0; bytes = [] }

-- what a frame of one color holds
abbrev pub plane_in : Frame → Plane
plane_in f = record { line = f.params.bytes_per_line; bytes = f.payload }

-- what the frame of the color of that number holds, wherever it stands among the frames
abbrev pub plane_of : ℕ → List Frame → Plane
plane_of k [] = no_plane
plane_of k (f ∷ frames) = if color_number f.params.format == k then plane_in f else plane_of k frames

abbrev pub planes_of : List Frame → Planes
planes_of frames = record { red = plane_of 0 frames; green = plane_of 1 frames; blue = plane_of 2 frames }

abbrev pub nth_plane : Planes → ℕ → Plane
nth_plane planes k = if k == 0 then planes.red else (if k == 1 then planes.green else planes.blue)

-- byte j of row y where the three colors of each pixel stand side by side, each sample's bytes in the order they had
abbrev pub side_byte : Planes → ℕ → ℕ → ℕ → ℕ
side_byte planes depth y j =
    let size = depth / 8 in
    let plane = nth_plane planes (j / size % 3) in
    slice_index plane.bytes (y * plane.line + (j / (3 * size) * size + j % size))

-- so many such rows, of so many bytes each
unfoldable pub side_rows : Planes → ℕ → ℕ → ℕ → List ℕ
side_rows planes depth size lines = concat_up_to (λ y. concat_up_to (λ j. side_byte planes depth y j ∷ []) size) lines

-- the parameters of a frame of all three colors, in the place of one of a color
abbrev pub all_colors : Params → Params
all_colors p = record p { format = Rgb; last_frame = true; bytes_per_line = row_size Rgb p.pixels_per_line p.depth }

-- the frame of all three colors, of which f is one
abbrev pub side_by_side : Frame → Planes → Frame
side_by_side f planes = record {
  params = all_colors f.params;
  order = f.order;
  payload = side_rows planes f.params.depth (row_bytes (all_colors f.params)) (lines_in f.params.lines);
}
