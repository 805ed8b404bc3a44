-- The value of a join, and which histories it stands for.
use Rattle.std.specs.Prelude.{ℕ, ◌≤◌, ◌≡◌, ◌||◌, Bool, true, Option, Some, None, List, [], ◌∷◌, length}
use Rattle.page_picture.specs.Shows.{Frame}
use Rattle.frame_join.specs.AloneFrame.{is_alone, most_bytes}
use Rattle.frame_join.specs.FrameHistory.{JoinHistory, is_full}
use Rattle.frame_join.specs.JoinStages.{is_keeping}
use Rattle.frame_join.specs.PixelJoinStates.{PixelJoinState, PixelRepresents, is_pixel_out_of_memory, IsPixelDrained}
use Rattle.frame_join.specs.Pixels.{is_kept, pixel_history}

-- **the value of a join (`JoinState`, `Represents`)**: what a join keeps. It forgets most of its history, and stands
-- for several histories.
--
-- What a join keeps: the bytes that show pixels, and how far their picture is. Of a frame under way that is kept: the
-- bytes of a line, and how many bytes came.
pub record JoinState : Type 0 where
  pub pixels : PixelJoinState
  pub line : ℕ
  pub came : ℕ

-- out of memory stands
abbrev pub is_out_of_memory : JoinState → Bool
is_out_of_memory v = is_pixel_out_of_memory v.pixels

-- no frame is kept, and less than a line is held, or the last line
abbrev pub IsDrained : JoinState → Type 0
IsDrained v = IsPixelDrained v.pixels

-- so many bytes of the frame came, of which the pixels are kept
pub record HasCome (f : Frame) (v : JoinState) : Type 0 where
  pub kept : is_kept f.params ≡ true
  pub line : v.line ≡ f.params.bytes_per_line
  pub came : v.came ≡ length f.payload
  pub most : length f.payload ≤ most_bytes f.params

abbrev pub IsComing : Option Frame → JoinState → Type 0
IsComing None v = ⊥
IsComing (Some f) v = HasCome f v

-- the frame was admitted, and has all its bytes
pub record IsEnded (f : Frame) : Type 0 where
  pub admitted : (is_alone f.params || is_kept f.params) ≡ true
  pub full : is_full f ≡ true

abbrev pub AreEnded : List Frame → Type 0
AreEnded [] = Unit {0}
AreEnded (f ∷ frames) = IsEnded f × AreEnded frames

-- the value stands for the history: what it keeps is that of the frames' pixels
pub record Represents (past : JoinHistory) (v : JoinState) : Type 0 where
  pub pixels : PixelRepresents (pixel_history past) v.pixels
  pub ended : AreEnded past.ended
  pub coming : is_keeping v.pixels.stage ≡ true → IsComing past.under v
