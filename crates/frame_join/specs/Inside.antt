-- What private functions alone promise.
use Rattle.std.specs.Prelude.{Bool, true, false, ℕ, ◌+◌, ◌-◌, ◌*◌, ◌/◌, ◌==◌, ◌&&◌, ◌||◌, nat_lt, nat_le, not}
use Rattle.std.specs.Prelude.{if◌then◌else◌, Result, Ok, Err, List, ◌++◌, length, slice_index, drop, Some, []}
use Rattle.frame_join.specs.AloneFrame.{is_alone, lines_in, most_lines, row_bytes}
use Rattle.frame_join.specs.ColorPlanes.{Planes, no_plane, Plane, nth_plane, side_byte, all_colors}
use Rattle.frame_join.specs.FrameFile.{header_alone, place_in, trimmed_byte}
use Rattle.frame_join.specs.FrameHistory.{is_full_at}
use Rattle.frame_join.specs.JoinStages.{is_under, is_keeping, is_colors}
use Rattle.frame_join.specs.KeptFrame.{is_unknown, is_open_ended, is_pass_that, is_alike, color_number}
use Rattle.frame_join.specs.PixelJoinStates.{PixelJoinState}
use Rattle.frame_join.specs.declared.join_stage.JoinFault.{JoinFault}
use Rattle.frame_join.specs.declared.join_stage.JoinFault.TheVariants.{Shape, Long, Short, NoMem}
use Rattle.frame_join.specs.declared.join_stage.Stage.{Stage}
use Rattle.frame_join.specs.declared.join_stage.Stage.TheVariants.{Idle, Under, Keeping, Between, Whole, WholeColors}
use Rattle.frame_join.specs.declared.join_stage.Stage.TheVariants.{Failed}
use Rattle.netpbm.specs.FileText.{header_text}
use Rattle.sane_fixed.specs.declared.byte_order.ByteOrder.{ByteOrder}
use Rattle.sane_fixed.specs.declared.params.Params.{Params}

abbrev pub no_planes : Planes
no_planes = record { red = no_plane; green = no_plane; blue = no_plane }

-- the picture of one frame is whole
abbrev pub is_whole : Stage → Bool
is_whole Idle = false
is_whole Under = false
is_whole Keeping = false
is_whole Between = false
is_whole Whole = true
is_whole WholeColors = false
is_whole (Failed _) = false

-- What each call makes of the value of a join.

-- ---- bytes go out

abbrev pub can_give : Stage → Bool
can_give s = is_under s || (is_whole s || is_colors s)

-- a whole line is held, and it may go out
abbrev pub is_held : PixelJoinState → Bool
is_held v =
    nat_le v.params.bytes_per_line (length v.held) && (is_whole v.stage || nat_lt (v.row + 1) (lines_in v.params.lines))

abbrev pub is_ready : PixelJoinState → Bool
is_ready v = nat_lt v.row (lines_in v.params.lines) && (is_colors v.stage || is_held v)

-- the byte at a column of the row
abbrev pub sample_at : PixelJoinState → ℕ → ℕ
sample_at v column =
    let place = place_in v.order v.params.depth column in
    if is_colors v.stage then side_byte v.planes v.params.depth v.row place
    else trimmed_byte v.params.pixels_per_line v.params.depth column (slice_index v.held place)

-- a byte may go out
abbrev pub may_go : PixelJoinState → Bool
may_go v = can_give v.stage && (nat_lt v.headed (length v.head) || is_ready v)

-- the value once a row has gone: its line is held no more
abbrev pub after_row : PixelJoinState → PixelJoinState
after_row v =
    if is_colors v.stage then record v { column = 0; row = v.row + 1 }
    else record v { column = 0; row = v.row + 1; held = drop v.params.bytes_per_line v.held }

-- the value once so many bytes of the row have gone
abbrev pub after_samples : ℕ → PixelJoinState → PixelJoinState
after_samples n v =
    if v.column + n == row_bytes v.params then after_row v
    else record v { column = v.column + n }

-- ---- bytes come

-- the value once bytes came
abbrev pub value_fed : List ℕ → Bool → PixelJoinState → PixelJoinState
value_fed bytes starved v =
    if not (is_under v.stage || is_keeping v.stage) then v
    else (if nat_lt ((most_lines v.params.lines - v.row) * v.params.bytes_per_line - length v.held) (length bytes)
    then record v { stage = Failed Long }
    else (if starved then record v { stage = Failed NoMem }
    else record v { held = v.held ++ bytes }))

-- ---- a frame begins

-- the value of a join as a frame begins whose rows go straight through
abbrev pub new_pixel_join : Params → ByteOrder → PixelJoinState
new_pixel_join params order = record {
  stage = Under;
  params = params;
  order = order;
  head = header_text (header_alone params);
  headed = 0;
  row = 0;
  column = 0;
  held = [];
  planes = no_planes;
}

-- the value of a join in which a frame begins that is kept
abbrev pub new_keeping_join : Params → ByteOrder → PixelJoinState
new_keeping_join params order = record {
  stage = Keeping;
  params = params;
  order = order;
  head = [];
  headed = 0;
  row = 0;
  column = 0;
  held = [];
  planes = no_planes;
}

abbrev pub is_there : Plane → Bool
is_there plane = nat_lt 0 plane.line

-- two of the colors are there
abbrev pub has_two : Planes → Bool
has_two planes =
    (is_there planes.red && (is_there planes.green || is_there planes.blue))
    || (is_there planes.green && is_there planes.blue)

-- a further color may begin
abbrev pub accepts_next : PixelJoinState → Params → ByteOrder → Bool
accepts_next v params order =
    is_pass_that (has_two v.planes) params
    && (not (is_there (nth_plane v.planes (color_number params.format))) && is_alike v.params v.order params order)

abbrev pub first_begun : Params → ByteOrder → Bool → PixelJoinState → PixelJoinState
first_begun params order starved v =
    if is_alone params then (if starved then record v { stage = Failed NoMem } else new_pixel_join params order)
    else (if is_open_ended params || is_pass_that false params
    then (if starved then record v { stage = Failed NoMem } else new_keeping_join params order)
    else record v { stage = Failed Shape })

abbrev pub next_begun : Params → ByteOrder → Bool → PixelJoinState → PixelJoinState
next_begun params order starved v =
    if not (accepts_next v params order) then record v { stage = Failed Shape }
    else (if starved then record v { stage = Failed NoMem }
    else record v { stage = Keeping; params = params; order = order })

-- the value once a frame begins
abbrev pub value_begun_at : Stage → Params → ByteOrder → Bool → PixelJoinState → PixelJoinState
value_begun_at Idle params order starved v = first_begun params order starved v
value_begun_at Under params order starved v = record v { stage = Failed Shape }
value_begun_at Keeping params order starved v = record v { stage = Failed Shape }
value_begun_at Between params order starved v = next_begun params order starved v
value_begun_at Whole params order starved v = v
value_begun_at WholeColors params order starved v = v
value_begun_at (Failed _) params order starved v = v

abbrev pub value_begun : Params → ByteOrder → Bool → PixelJoinState → PixelJoinState
value_begun params order starved v = value_begun_at v.stage params order starved v

-- ---- a frame ends

-- what an end answers
abbrev pub answer_at : Stage → Result Bool JoinFault
answer_at Idle = Ok false
answer_at Under = Ok false
answer_at Keeping = Ok false
answer_at Between = Ok false
answer_at Whole = Ok true
answer_at WholeColors = Ok true
answer_at (Failed fault) = Err fault

abbrev pub under_ended : PixelJoinState → PixelJoinState
under_ended v =
    if length v.held == (most_lines v.params.lines - v.row) * v.params.bytes_per_line then record v { stage = Whole }
    else record v { stage = Failed Short }

-- the picture is whole, of the frame of these parameters: its header may go out
abbrev pub headed_by : Params → PixelJoinState → PixelJoinState
headed_by params v = record v { params = params; head = v.head ++ header_text (header_alone params) }

-- the height of the frame is known
abbrev pub with_known_height : PixelJoinState → PixelJoinState
with_known_height v =
    headed_by (record v.params { lines = Some (length v.held / v.params.bytes_per_line) }) (record v { stage = Whole })

-- one of the planes is another one
abbrev pub put_plane : ℕ → Plane → Planes → Planes
put_plane k plane planes =
    if k == 0 then record planes { red = plane }
    else (if k == 1 then record planes { green = plane } else record planes { blue = plane })

-- the color of the frame has its bytes
abbrev pub color_put : PixelJoinState → PixelJoinState
color_put v =
    let k = color_number v.params.format in
    record v {
      stage = Between;
      held = (nth_plane v.planes k).bytes;
      planes = put_plane k (record { line = v.params.bytes_per_line; bytes = v.held }) v.planes;
    }

abbrev pub color_ended : PixelJoinState → PixelJoinState
color_ended v =
    if v.params.last_frame then headed_by (all_colors v.params) (record (color_put v) { stage = WholeColors })
    else color_put v

abbrev pub kept_ended : PixelJoinState → PixelJoinState
kept_ended v =
    if not (is_full_at v.params.lines v.params.bytes_per_line (length v.held)) then record v { stage = Failed Short }
    else (if is_unknown v.params.lines then with_known_height v else color_ended v)

-- the value once the frame ends
abbrev pub value_ended_at : Stage → PixelJoinState → PixelJoinState
value_ended_at Idle v = v
value_ended_at Under v = under_ended v
value_ended_at Keeping v = kept_ended v
value_ended_at Between v = v
value_ended_at Whole v = v
value_ended_at WholeColors v = v
value_ended_at (Failed _) v = v

abbrev pub value_ended : PixelJoinState → PixelJoinState
value_ended v = value_ended_at v.stage v
