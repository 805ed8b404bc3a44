-- What a seen brightness becomes in a picture: the tone.
use Rattle.std.specs.Prelude.{ℕ, ◌+◌, ◌*◌, ◌/◌, ◌==◌, nat_lt, if◌then◌else◌, List, [], slice_index, slice_index_or}
use Rattle.page_picture.specs.declared.scene.Mode.{Mode}
use Rattle.page_picture.specs.declared.scene.Mode.TheVariants.{Gray, Color}

-- **tone (`brightness`, `tone`, `in_channel`)**: in gray the brightness is floor((299 R + 587 G + 114 B) / 1000), in
-- color the channel's own value. Depth 16 keeps it. Depth 8 gives the gamma table's entry at its upper byte. Depth 1
-- gives 1 (black) if that is below 128. In color at depth 8 the channel's own table has the entry for that.
--
-- in gray the weighted sum of the three seen samples, in color the channel's own
abbrev pub brightness : Mode → (ℕ → ℕ) → ℕ → ℕ
brightness Gray seen _ = (299 * seen 0 + 587 * seen 1 + 114 * seen 2) / 1000
brightness Color seen k = seen k

-- Depth 16 keeps the brightness, depth 8 gives the gamma table's entry for its upper byte, and depth 1 gives black, 1,
-- where that entry is below 128.
abbrev pub tone : ℕ → List ℕ → ℕ → ℕ
tone depth table v =
    if depth == 16 then v
    else (if depth == 8 then slice_index table (v / 256)
    else (if nat_lt (slice_index table (v / 256)) 128 then 1 else 0))

-- In color at depth 8 the channel's table has the entry for that.
abbrev pub in_channel : Mode → ℕ → List (List ℕ) → ℕ → ℕ → ℕ
in_channel Gray depth tables k v = v
in_channel Color depth tables k v = if depth == 8 then slice_index (slice_index_or tables k []) v else v
