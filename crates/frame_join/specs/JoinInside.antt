-- What the fields of a join show, and what is true of them.
use Rattle.std.specs.Prelude.{◌≤◌, ◌^◌}
use Rattle.frame_join.specs.declared.frame_join.FrameJoin.TheInside.{Inside}
use Rattle.frame_join.specs.JoinStates.{JoinState}

abbrev pub join_view : Inside → JoinState
join_view j = record { pixels = j.pixels; line = j.line; came = j.came }

pub record JoinInvariant (j : Inside) : Type 0 where
  pub line : 1 ≤ j.line
  pub line_most : j.line ≤ 1048576
  pub came : j.came ≤ 2 ^ 52
