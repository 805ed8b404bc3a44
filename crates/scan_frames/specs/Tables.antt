-- The tables of the channels at depth 8.
use Rattle.std.specs.Prelude.{ℕ, ◌<◌, ◌≡◌, List, slice_index, [], slice_index_or}
use Rattle.page_picture.specs.declared.scene.Scene.{Scene}

-- **composed tables (`AreComposed`, `IsPlain`, `IsSame`)**: at depth 8, for each channel one table for the gamma table
-- and the channel's own after it. A table is the same if it gives each byte as it is, and the three are plain if each
-- is the same.
abbrev pub AreComposed : Scene → List (List ℕ) → Type 0
AreComposed scene tables = (k v : ℕ) → k < 3 → v < 256
    → slice_index (slice_index_or tables k []) v
    ≡ slice_index (slice_index_or scene.channel_gamma k []) (slice_index scene.gamma v)
