-- What laws of this crate say.
use Rattle.std.specs.Prelude.{◌≡◌, ◌<◌, ◌≤◌, ◌*◌, ◌||◌, ◌++◌, Some, true, ℕ, [], ◌∷◌, length, map, slice_index}
use Rattle.netpbm.specs.Picture.{Picture}
use Rattle.netpbm.specs.FileText.{header_text, row_text, concat_up_to}
use Rattle.page_picture.specs.Shows.{Frame, ShowsColors, frame_sample, channels_within}
use Rattle.frame_join.specs.AloneFrame.{is_alone, lines_in, row_bytes}
use Rattle.frame_join.specs.ColorPlanes.{planes_of}
use Rattle.frame_join.specs.FrameFile.{header_alone, file_front, file_of}
use Rattle.frame_join.specs.FrameHistory.{JoinHistory, IsJoined, is_accepted}
use Rattle.frame_join.specs.JoinStages.{is_keeping, is_between, is_colors}
use Rattle.frame_join.specs.Pixels.{pixels_of}
use Rattle.frame_join.specs.JoinStates.{JoinState, Represents}

-- of the frame under way a join holds at most the bytes of pixels that as many lines have
abbrev pub MostIsOfPixels : Type 0
MostIsOfPixels = (past : JoinHistory) (join : JoinState) (f : Frame) (n : ℕ) → Represents past join
    → is_keeping join.pixels.stage ≡ true → past.under ≡ Some f → length f.payload ≤ n * f.params.bytes_per_line
    → length join.pixels.held ≤ n * row_bytes f.params

-- of frames that ended a join that keeps them holds the bytes that show pixels
abbrev pub PlanesAreOfPixels : Type 0
PlanesAreOfPixels = (past : JoinHistory) (join : JoinState) → Represents past join
    → (is_keeping join.pixels.stage || (is_between join.pixels.stage || is_colors join.pixels.stage)) ≡ true
    → join.pixels.planes ≡ planes_of (map pixels_of past.ended)

-- of three frames that show a picture each is accepted after those before it
abbrev pub ShownColorsAreAccepted : Type 0
ShownColorsAreAccepted = (a b c : Frame) (p : Picture) → ShowsColors a b c p
    → (is_accepted [] a.params a.order ≡ true) × (is_accepted (a ∷ []) b.params b.order ≡ true)
    × (is_accepted (a ∷ b ∷ []) c.params c.order ≡ true)

-- the file of a whole picture is that of one frame of known height
abbrev pub WholeFileIsOfOneFrame : Type 0
WholeFileIsOfOneFrame = (past : JoinHistory) (join : JoinState) → Represents past join → IsJoined past
    → (f : Frame) × (is_alone f.params ≡ true) × ((i : ℕ) → slice_index f.payload i < 256)
    × (file_of past.ended ≡ file_front f (lines_in f.params.lines))

-- what a frame gives for its file is the writer's text of the picture that it shows
abbrev pub FrameFileIsTheWritersText : Type 0
FrameFileIsTheWritersText = (f : Frame) (n : ℕ) → is_alone f.params ≡ true → ((i : ℕ) → slice_index f.payload i < 256)
    → file_front f n
    ≡ header_text (header_alone f.params)
    ++ concat_up_to (λ y.
    row_text (header_alone f.params).format (header_alone f.params).maxval (header_alone f.params).width (λ x k.
    frame_sample (channels_within f.params.format) f x y k)) n
