-- What a scene sees of a page at a place of its picture.
use Rattle.std.specs.Prelude.{ℕ, ◌+◌, ◌*◌, ◌/◌, ◌&&◌, nat_lt, if◌then◌else◌}
use Rattle.page_picture.specs.Page.{PageView, page_sample_at}
use Rattle.page_picture.specs.Extent.{left_of, top_of}
use Rattle.page_picture.specs.declared.scene.Scene.{Scene}

-- the page's sample, or white off the page
abbrev pub dot_at : PageView → ℕ → ℕ → ℕ → ℕ
dot_at page_view column row k =
    if nat_lt column page_view.width && nat_lt row page_view.height then page_sample_at page_view column row k
    else 65535

-- the page's column and row that column x and row y of the picture show
abbrev pub column_seen : Scene → ℕ → ℕ → ℕ
column_seen scene dpi x = (left_of scene + x) * dpi / scene.resolution

abbrev pub row_seen : Scene → ℕ → ℕ → ℕ
row_seen scene dpi y = (top_of scene + y) * dpi / scene.resolution

-- **seen (`seen_at`)**: the page's samples at column floor((left + x) * N / r) and row floor((top + y) * N / r), with N
-- the page's dots per inch and r the resolution. Off the page it is white.
abbrev pub seen_at : PageView → Scene → ℕ → ℕ → ℕ → ℕ
seen_at page_view scene x y k = dot_at page_view (column_seen scene page_view.dpi x) (row_seen scene page_view.dpi y) k
