use Rattle.std.proofs.Common.{◌-◌, ◌≤◌, length, take}
use Rattle.page_picture.specs.Shows.{Frame}
use Rattle.frame_join.specs.FrameHistory.{JoinHistory}
use Rattle.data_records.specs.Records.{HasEnded}
use Rattle.net_client.specs.Inside.{RepresentsWithin}
use Rattle.net_client.specs.FramePieces.{ReadsTo}
use Rattle.net_client.proofs.imaging.read_on.Given as goal

abbrev pub invariant-loop-at : goal.invariant-loop-at
invariant-loop-at l = record {
  within : l.at ≤ length l.piece;
  going : HasEnded l.reader → ⊥;
  reads : (past : JoinHistory) (frame : Frame) → RepresentsWithin past frame l.fn.join → ReadsTo l.fn.reader past frame (take l.at l.piece) l.reader l.join;
}

abbrev pub decreases-loop-at : goal.decreases-loop-at
decreases-loop-at l = length l.initial.piece - l.at
