-- What laws of this crate say.
use Rattle.std.specs.Prelude.{◌≡◌, ◌<◌, ◌^◌, ℕ, [], true, slice_index, slice_index_or}
use Rattle.page_picture.specs.Page.{PageView, IsPageView}
use Rattle.page_picture.specs.Meaning.{picture_of}
use Rattle.page_picture.specs.Shows.{ShowsFrames}
use Rattle.scan_frames.specs.Frames.{IsSetup, frames_of, has_picture, height_of, width_of}
use Rattle.scan_frames.specs.declared.setup.Setup.{Setup as SetupValue}

-- the frames of a scan show the picture that its options mean on the page
abbrev pub FramesShowThePicture : Type 0
FramesShowThePicture = (setup : SetupValue) (page : PageView) → IsSetup setup → IsPageView page
    → ((i : ℕ) → slice_index setup.scene.gamma i < 2 ^ 8)
    → ((k i : ℕ) → slice_index (slice_index_or setup.scene.channel_gamma k []) i < 2 ^ 8)
    → has_picture setup page ≡ true
    → ShowsFrames (frames_of setup page) (picture_of page setup.scene (width_of setup, height_of setup page))
