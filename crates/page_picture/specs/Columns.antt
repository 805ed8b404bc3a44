-- Which column of the page each column of a picture shows.
use Rattle.std.specs.Prelude.{ℕ, ◌+◌, ◌*◌, ◌/◌, ◌≤◌, ◌≡◌, nat_lt, if◌then◌else◌, Option, Some, None}
use Rattle.page_picture.specs.Extent.{left_of, across}
use Rattle.page_picture.specs.declared.scene.Scene.{Scene}

-- **columns (`Columns`, `column_at`, `IsRun`)**: which column of the page each column of a line shows, by the window's
-- first dot and the two resolutions. They are a run if they lie on the page side by side, at its own dots per inch.
pub record Columns : Type 0 where
  pub left : ℕ
  pub dpi : ℕ
  pub resolution : ℕ
  pub width : ℕ
  pub count : ℕ

-- the columns of a scene on a page of that width and so many dots per inch
abbrev pub columns_of : Scene → ℕ → ℕ → Columns
columns_of scene width dpi = record {
  left = left_of scene;
  dpi = dpi;
  resolution = scene.resolution;
  width = width;
  count = across scene.kind scene;
}

-- The page's column that column x shows: for the columns of a scene this is `column_seen`.
abbrev pub column_shown : Columns → ℕ → ℕ
column_shown columns x = (columns.left + x) * columns.dpi / columns.resolution

-- that column where it lies on the page
abbrev pub column_at : Columns → ℕ → Option ℕ
column_at columns x = if nat_lt (column_shown columns x) columns.width then Some (column_shown columns x) else None

-- the same, with the place behind the last column for all that lie off the page
abbrev pub place_at : Columns → ℕ → ℕ
place_at columns x = if nat_lt (column_shown columns x) columns.width then column_shown columns x else columns.width

-- the columns lie on the page one beside the other: the scene has the page's dots per inch, and its window ends on the
-- page
pub record IsRun (columns : Columns) : Type 0 where
  pub same : columns.dpi ≡ columns.resolution
  pub some : 1 ≤ columns.resolution
  pub inside : columns.left + columns.count ≤ columns.width
