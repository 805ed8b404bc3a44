-- The extent of the picture that a scene means on a page: where its window begins, and how many dots it has across
-- and down.
use Rattle.std.specs.Prelude.{ℕ, ◌+◌, ◌-◌, ◌*◌, ◌/◌, ◌<◌, ◌≡◌, ℤ, pos, ◌-ℤ◌, Bool, true, not, ◌&&◌, ◌==◌, nat_le}
use Rattle.std.specs.Prelude.{if◌then◌else◌, Option, Some, None}
use Rattle.sane_fixed.specs.Length.{px_of}
use Rattle.page_picture.specs.Page.{PageView}
use Rattle.page_picture.specs.declared.scene.DeviceKind.{DeviceKind}
use Rattle.page_picture.specs.declared.scene.DeviceKind.TheVariants.{Flatbed, Hand, ThreePass, Feeder}
use Rattle.page_picture.specs.declared.scene.Mode.{Mode}
use Rattle.page_picture.specs.declared.scene.Mode.TheVariants.{Gray, Color}
use Rattle.page_picture.specs.declared.scene.Scene.{Scene}

-- the width of a hand scanner, 110 mm
abbrev pub hand_width : ℤ
hand_width = pos (110 * 65536)

-- a hand scanner begins at the page's corner, the others where the window does
abbrev pub first_dot : DeviceKind → ℤ → ℕ → ℕ
first_dot Flatbed start resolution = px_of start resolution
first_dot ThreePass start resolution = px_of start resolution
first_dot Feeder start resolution = px_of start resolution
first_dot Hand _ _ = 0

abbrev pub left_of : Scene → ℕ
left_of scene = first_dot scene.kind scene.tl_x.0 scene.resolution

abbrev pub top_of : Scene → ℕ
top_of scene = first_dot scene.kind scene.tl_y.0 scene.resolution

-- the dots across
abbrev pub across : DeviceKind → Scene → ℕ
across Flatbed scene = px_of (scene.br_x.0 -ℤ scene.tl_x.0) scene.resolution
across ThreePass scene = px_of (scene.br_x.0 -ℤ scene.tl_x.0) scene.resolution
across Feeder scene = px_of (scene.br_x.0 -ℤ scene.tl_x.0) scene.resolution
across Hand scene = px_of hand_width scene.resolution

-- how many y from 0 on have floor (y * dpi / resolution) below the page's height, as `lines_show_the_page` says
abbrev pub lines_over : ℕ → ℕ → ℕ → ℕ
lines_over height dpi resolution = (height * resolution + (dpi - 1)) / dpi

-- the dots down, on a page of so many rows and dots per inch
abbrev pub down : DeviceKind → ℕ → ℕ → Scene → ℕ
down Flatbed _ _ scene = px_of (scene.br_y.0 -ℤ scene.tl_y.0) scene.resolution
down ThreePass _ _ scene = px_of (scene.br_y.0 -ℤ scene.tl_y.0) scene.resolution
down Feeder _ _ scene = px_of (scene.br_y.0 -ℤ scene.tl_y.0) scene.resolution
down Hand height dpi scene = lines_over height dpi scene.resolution

-- a side of a picture
abbrev pub is_side : ℕ → Bool
is_side n = nat_le 1 n && nat_le n 65536

-- a color picture has no bits
abbrev pub shows_depth : Mode → ℕ → Bool
shows_depth Gray _ = true
shows_depth Color depth = not (depth == 1)

-- the width and the height, where both are sides of a picture
abbrev pub extent_on : ℕ → ℕ → Scene → Option (ℕ × ℕ)
extent_on height dpi scene =
    if shows_depth scene.mode scene.depth
    && (is_side (across scene.kind scene) && is_side (down scene.kind height dpi scene))
    then Some (across scene.kind scene, down scene.kind height dpi scene)
    else None

-- **extent (`extent_of`)**: the window's origin and size in dots. A hand scanner has none: it begins at the corner, is
-- 110 mm wide and as high as there are lines on the page. None where a side is below 1 or above 65,536, or for color of
-- one bit.
abbrev pub extent_of : PageView → Scene → Option (ℕ × ℕ)
extent_of page_view scene = extent_on page_view.height page_view.dpi scene

-- the place lies inside the extent
pub record IsInside (page_view : PageView) (scene : Scene) (x y : ℕ) : Type 0 where
  pub size : ℕ × ℕ
  pub extent : extent_of page_view scene ≡ Some size
  pub column : x < size.0
  pub row : y < size.1
