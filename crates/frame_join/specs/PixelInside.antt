-- What the fields of a join show, and what is true of them.
use Rattle.std.specs.Prelude.{◌+◌, ◌≤◌, ◌<◌, ◌≡◌, ◌||◌, true, drop, vec_len, vec_capacity}
use Rattle.frame_join.specs.declared.pixel_join.PixelJoin.TheInside.{Inside}
use Rattle.frame_join.specs.AloneFrame.{lines_in, row_bytes, ShapeParts}
use Rattle.frame_join.specs.KeptFrame.{is_open_ended, is_pass}
use Rattle.frame_join.specs.JoinStages.{is_under, is_keeping, is_between, is_colors}
use Rattle.frame_join.specs.PixelJoinStates.{PixelJoinState}

abbrev pub pixel_view : Inside → PixelJoinState
pixel_view j = record {
  stage = j.stage;
  params = j.params;
  order = j.order;
  head = j.head.items;
  headed = j.headed;
  row = j.row;
  column = j.column;
  held = drop j.start j.held.items;
  planes = j.planes;
}

-- where frames are kept, nothing of them has gone, and the header has its room
pub record IsCollecting (j : Inside) : Type 0 where
  pub start : j.start ≡ 0
  pub column : j.column ≡ 0
  pub room : vec_len j.head + 64 ≤ vec_capacity j.head

pub record PixelInvariant (j : Inside) : Type 0 where
  pub start : j.start ≤ vec_len j.held
  pub headed : j.headed ≤ vec_len j.head
  pub shape : ShapeParts j.params
  pub column : j.column < row_bytes j.params
  pub row : j.row ≤ 65536
  pub lines : lines_in j.params.lines ≤ 65536
  pub room : is_under j.stage ≡ true → j.params.bytes_per_line + 4096 ≤ vec_capacity j.held
  pub kept : is_keeping j.stage ≡ true → (is_open_ended j.params || is_pass j.params) ≡ true
  pub collecting : (is_keeping j.stage || is_between j.stage) ≡ true → IsCollecting j
  pub deep : is_colors j.stage ≡ true → 8 ≤ j.params.depth
