-- What a join stands for as a reply comes.
use Rattle.std.specs.Prelude.{◌≡◌, None}
use Rattle.frame_join.specs.FrameHistory.{JoinHistory}
use Rattle.frame_join.specs.JoinStates.{JoinState, Represents}

-- **the join stands clear (`RepresentsClear`)**: the join stands for what was told to it, and no fault does; what is
-- said of a reply's parameters is said behind this.
pub record RepresentsClear (past : JoinHistory) (join : JoinState) : Type 0 where
  pub stands : Represents past join
  pub clear : past.fault ≡ None
