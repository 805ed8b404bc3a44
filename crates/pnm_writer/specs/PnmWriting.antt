-- The file that a scene makes of a page.
use Rattle.std.specs.Prelude.{ℕ, if◌then◌else◌, ◌==◌, ◌≡◌, Some, List}
use Rattle.netpbm.specs.declared.format.PnmFormat.{PnmFormat}
use Rattle.netpbm.specs.declared.format.PnmFormat.TheVariants.{Pbm, Pgm, Ppm}
use Rattle.netpbm.specs.declared.format.Header.{Header}
use Rattle.page_picture.specs.declared.scene.Mode.{Mode}
use Rattle.page_picture.specs.declared.scene.Mode.TheVariants.{Gray, Color}
use Rattle.page_picture.specs.declared.scene.Scene.{Scene}
use Rattle.netpbm.specs.FileText.{file_text}
use Rattle.page_picture.specs.Page.{PageView}
use Rattle.page_picture.specs.Extent.{extent_of}
use Rattle.page_picture.specs.Meaning.{greatest_at, sample_of}

-- the format of a mode at a depth
abbrev pub format_in : Mode → ℕ → PnmFormat
format_in Gray depth = if depth == 1 then Pbm else Pgm
format_in Color depth = Ppm

-- the header of a picture that is so wide and high
abbrev pub header_of : Scene → ℕ → ℕ → Header
header_of scene width height = record {
  format = format_in scene.mode scene.depth;
  width = width;
  height = height;
  maxval = greatest_at scene.depth;
}

-- **plain file (`IsPlainFile`)**: the writer's text of what a scene means on a page.
abbrev pub IsPlainFile : PageView → Scene → List ℕ → Type 0
IsPlainFile page_view scene text = (size : ℕ × ℕ) × (extent_of page_view scene ≡ Some size)
    × (text ≡ file_text (header_of scene size.0 size.1) (sample_of page_view scene))
