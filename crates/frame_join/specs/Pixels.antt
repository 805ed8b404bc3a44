-- What is kept of frames: where a frame is kept, of each line just the bytes that show pixels, without what fills the
-- line up behind them.
use Rattle.std.specs.Prelude.{ℕ, ◌+◌, ◌%◌, ◌||◌, nat_lt, Bool, true, false, if◌then◌else◌, List, [], ◌∷◌, map}
use Rattle.std.specs.Prelude.{option_map}
use Rattle.sane_fixed.specs.declared.params.Params.{Params}
use Rattle.page_picture.specs.Shows.{Frame}
use Rattle.frame_join.specs.AloneFrame.{row_bytes}
use Rattle.frame_join.specs.KeptFrame.{is_open_ended, is_pass}
use Rattle.frame_join.specs.FrameHistory.{JoinHistory}

abbrev pub with_byte : Bool → ℕ → List ℕ → List ℕ
with_byte true byte bytes = byte ∷ bytes
with_byte false byte bytes = bytes

-- of bytes that stand in a frame from a place on those that are among the first `size` of their line
unfoldable pub pixels_from : ℕ → ℕ → ℕ → List ℕ → List ℕ
pixels_from size line at [] = []
pixels_from size line at (byte ∷ bytes) =
    with_byte (nat_lt (at % line) size) byte (pixels_from size line (at + 1) bytes)

-- frames of these parameters are kept until the picture is whole
abbrev pub is_kept : Params → Bool
is_kept p = is_open_ended p || is_pass p

-- the parameters of what is kept of a frame
abbrev pub pixel_params : Params → Params
pixel_params p = if is_kept p then record p { bytes_per_line = row_bytes p } else p

abbrev pub pixel_bytes : Params → List ℕ → List ℕ
pixel_bytes p bytes = if is_kept p then pixels_from (row_bytes p) p.bytes_per_line 0 bytes else bytes

-- **what is kept of a frame (`pixels_of`)**: of each line the bytes that show pixels, without the filling behind them.
-- A frame is kept where its picture must be whole first.
abbrev pub pixels_of : Frame → Frame
pixels_of f = record { params = pixel_params f.params; order = f.order; payload = pixel_bytes f.params f.payload }

abbrev pub pixel_history : JoinHistory → JoinHistory
pixel_history past = record past { ended = map pixels_of past.ended; under = option_map pixels_of past.under }
