-- What a join was told so far and gave in all, and how each call goes on from that: plain data, apart from what a join
-- keeps of it.
use Rattle.std.specs.Prelude.{ℕ, ◌+◌, ◌*◌, ◌/◌, ◌≡◌, ◌==◌, ◌&&◌, ◌||◌, nat_lt, Bool, true, false, not, if◌then◌else◌}
use Rattle.std.specs.Prelude.{Option, Some, None, Result, Ok, Err, List, [], ◌∷◌, ◌++◌, length}
use Rattle.sane_fixed.specs.declared.byte_order.ByteOrder.{ByteOrder}
use Rattle.sane_fixed.specs.declared.params.Params.{Params}
use Rattle.frame_join.specs.declared.join_stage.JoinFault.{JoinFault}
use Rattle.frame_join.specs.declared.join_stage.JoinFault.TheVariants.{Shape, Long, Short, NoMem}
use Rattle.page_picture.specs.Shows.{Frame}
use Rattle.frame_join.specs.AloneFrame.{is_alone_format, is_alone, most_bytes}
use Rattle.frame_join.specs.KeptFrame.{is_open_ended, is_pass_that, goes_with}
use Rattle.page_picture.specs.Extent.{is_side}

-- **history of a join (`JoinHistory`)**: the frames that ended, the one under way, the fault that stands first, and
-- what was pulled in all; each call goes on from it.
pub record JoinHistory : Type 0 where
  pub ended : List Frame
  pub under : Option Frame
  pub fault : Option JoinFault
  pub given : List ℕ

-- nothing was told, and nothing given
abbrev pub empty_history : JoinHistory
empty_history = record { ended = []; under = None; fault = None; given = [] }

-- A frame of these parameters may follow the frames that ended: first one that is a picture, or else three of a color
-- each, the third alone the last.
abbrev pub is_accepted : List Frame → Params → ByteOrder → Bool
is_accepted [] params order = is_alone params || (is_open_ended params || is_pass_that false params)
is_accepted (a ∷ []) params order = is_pass_that false params && goes_with a params order
is_accepted (a ∷ b ∷ []) params order =
    is_pass_that true params && (goes_with a params order && goes_with b params order)
is_accepted (a ∷ b ∷ c ∷ rest) params order = false

-- the frames that ended are a whole picture
abbrev pub is_joined : List Frame → Bool
is_joined [] = false
is_joined (f ∷ []) = is_alone_format f.params.format
is_joined (f ∷ g ∷ []) = false
is_joined (f ∷ g ∷ h ∷ rest) = true

-- so many bytes are all lines, or, where their number is not known, a whole number of lines from 1 to 65,536
abbrev pub is_full_at : Option ℕ → ℕ → ℕ → Bool
is_full_at (Some lines) line size = size == lines * line
is_full_at None line size = is_side (size / line) && (size == size / line * line)

-- **a frame that has all its bytes (`is_full`)**: as many as its lines want; where they are not told, a whole number of
-- lines from 1 to 65,536.
abbrev pub is_full : Frame → Bool
is_full frame = is_full_at frame.params.lines frame.params.bytes_per_line (length frame.payload)

-- the fault comes to stand
abbrev pub with_fault : JoinFault → JoinHistory → JoinHistory
with_fault fault past = record past { fault = Some fault }

-- A frame begins: a fault that stands stays, and so does a whole picture; inside a frame it is a fault.
abbrev pub after_begin_at : Option JoinFault → Option Frame → Params → ByteOrder → Bool → JoinHistory → JoinHistory
after_begin_at (Some _) _ params order starved past = past
after_begin_at None (Some _) params order starved past = with_fault Shape past
after_begin_at None None params order starved past =
    if is_joined past.ended then past
    else (if not (is_accepted past.ended params order) then with_fault Shape past
    else (if starved then with_fault NoMem past
    else record past { under = Some (record { params = params; order = order; payload = [] }) }))

-- Bytes come: inside a frame they are the next of it, or too many.
abbrev pub after_feed_at : Option JoinFault → Option Frame → List ℕ → Bool → JoinHistory → JoinHistory
after_feed_at (Some _) _ bytes starved past = past
after_feed_at None None bytes starved past = past
after_feed_at None (Some f) bytes starved past =
    if nat_lt (most_bytes f.params) (length f.payload + length bytes) then with_fault Long past
    else (if starved then with_fault NoMem past
    else record past { under = Some (record f { payload = f.payload ++ bytes }) })

-- The frame ends: it has all its bytes, or too few.
abbrev pub after_end_at : Option JoinFault → Option Frame → JoinHistory → JoinHistory
after_end_at (Some _) _ past = past
after_end_at None None past = past
after_end_at None (Some f) past =
    if is_full f then record past { ended = past.ended ++ f ∷ []; under = None } else with_fault Short past

-- a frame begins; `starved` says that a growth was refused
unfoldable pub after_begin : Params → ByteOrder → Bool → JoinHistory → JoinHistory
after_begin params order starved past = after_begin_at past.fault past.under params order starved past

-- bytes come
unfoldable pub after_feed : List ℕ → Bool → JoinHistory → JoinHistory
after_feed bytes starved past = after_feed_at past.fault past.under bytes starved past

-- the frame ends
unfoldable pub after_end : JoinHistory → JoinHistory
after_end past = after_end_at past.fault past.under past

-- bytes go out
abbrev pub after_pull : List ℕ → JoinHistory → JoinHistory
after_pull bytes past = record past { given = past.given ++ bytes }

-- a fault, or whether the picture is whole
abbrev pub answer_by : Option JoinFault → Option Frame → List Frame → Result Bool JoinFault
answer_by (Some fault) _ ended = Err fault
answer_by None (Some f) ended = Ok false
answer_by None None ended = Ok (is_joined ended)

-- what `end` answers once it has come to this
abbrev pub answer_of_end : JoinHistory → Result Bool JoinFault
answer_of_end past = answer_by past.fault past.under past.ended

-- the frames so far, the one under way last
abbrev pub with_last : List Frame → Option Frame → List Frame
with_last frames None = frames
with_last frames (Some f) = frames ++ f ∷ []

abbrev pub history_frames : JoinHistory → List Frame
history_frames past = with_last past.ended past.under

-- the picture is whole
abbrev pub IsJoined : JoinHistory → Type 0
IsJoined past = answer_of_end past ≡ Ok true
