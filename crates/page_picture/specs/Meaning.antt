-- The picture that a scene means on a page.
use Rattle.std.specs.Prelude.{ℕ, ◌==◌, if◌then◌else◌, Option, option_map}
use Rattle.netpbm.specs.Picture.{Picture}
use Rattle.page_picture.specs.Page.{PageView}
use Rattle.page_picture.specs.Extent.{extent_of}
use Rattle.page_picture.specs.Seen.{seen_at}
use Rattle.page_picture.specs.Tone.{brightness, in_channel, tone}
use Rattle.page_picture.specs.declared.scene.Mode.{Mode}
use Rattle.page_picture.specs.declared.scene.Mode.TheVariants.{Gray, Color}
use Rattle.page_picture.specs.declared.scene.Scene.{Scene}

-- the tone of what is seen at column x of row y, in channel k
unfoldable pub sample_of : PageView → Scene → ℕ → ℕ → ℕ → ℕ
sample_of page_view scene x y k =
    in_channel scene.mode scene.depth scene.channel_gamma k
    (tone scene.depth scene.gamma (brightness scene.mode (seen_at page_view scene x y) k))

abbrev pub channels_in : Mode → ℕ
channels_in Gray = 1
channels_in Color = 3

-- the greatest sample at a depth
abbrev pub greatest_at : ℕ → ℕ
greatest_at depth = if depth == 16 then 65535 else (if depth == 8 then 255 else 1)

abbrev pub picture_of : PageView → Scene → ℕ × ℕ → Picture
picture_of page_view scene size = record {
  width = size.0;
  height = size.1;
  channels = channels_in scene.mode;
  greatest = greatest_at scene.depth;
  at = λ x y k. sample_of page_view scene x y k;
}

-- **meaning (`meaning_of`, `sample_of`)**: the picture of the extent whose samples are the tones of what is seen, in
-- their channels; none where there is no extent.
abbrev pub meaning_of : PageView → Scene → Option Picture
meaning_of page_view scene = option_map (picture_of page_view scene) (extent_of page_view scene)
