-- Frames that a join takes one after another, to the whole picture.
use Rattle.std.specs.Prelude.{ℕ, ◌≤◌, ◌≡◌, Bool, true, false, if◌then◌else◌, Option, Some, None, List, [], ◌∷◌, ◌++◌}
use Rattle.std.specs.Prelude.{length}
use Rattle.page_picture.specs.Shows.{Frame}
use Rattle.frame_join.specs.AloneFrame.{most_bytes}
use Rattle.frame_join.specs.FrameHistory.{JoinHistory, with_fault, is_accepted, is_full, is_joined}
use Rattle.frame_join.specs.declared.join_stage.JoinFault.TheVariants.{NoMem}

-- no frame is left
abbrev pub no_frame_left : List Frame → Bool
no_frame_left [] = true
no_frame_left (f ∷ more) = false

-- **frames that a join takes (`JoinTakes`, `TakesAll`)**: each is accepted behind those before it, all its bytes fit
-- and are all of it, and the last makes the picture whole.
--
-- **takes (`JoinTakes`, `TakesAll`)**: behind the frames that ended a join takes this one. It begins, no front of its
-- bytes is too long, all of them are full, a part of them is not, and its last-frame flag stands just when no frame
-- follows.
pub record JoinTakes (ended : List Frame) (f : Frame) (more : List Frame) : Type 0 where
  pub unjoined : is_joined ended ≡ false
  pub accepted : is_accepted ended f.params f.order ≡ true
  pub fits : (front rest : List ℕ) → front ++ rest ≡ f.payload → length front ≤ most_bytes f.params
  pub full : is_full f ≡ true
  pub none_is_short : is_full (record f { payload = [] }) ≡ false
  pub last : f.params.last_frame ≡ no_frame_left more

-- it takes these frames, each behind those before it
abbrev pub TakesAll : List Frame → List Frame → Type 0
TakesAll ended [] = is_joined ended ≡ true
TakesAll ended (f ∷ more) = JoinTakes ended f more × TakesAll (ended ++ f ∷ []) more

-- the frame with these bytes in place of its own
abbrev pub with_bytes : Frame → List ℕ → Frame
with_bytes f bytes = record f { payload = bytes }

-- nothing is refused, and the frames that ended are these
pub record IsOpenJoin (ended : List Frame) (under : Option Frame) (past : JoinHistory) : Type 0 where
  pub no_fault : past.fault ≡ None
  pub under_is : past.under ≡ under
  pub ended_is : past.ended ≡ ended

-- the history with that frame under way, where memory did not run out
abbrev pub with_frame_begun : Bool → Frame → JoinHistory → JoinHistory
with_frame_begun starved f past = if starved then with_fault NoMem past else record past { under = Some f }
