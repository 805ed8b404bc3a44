-- What a join's stage says by itself.
use Rattle.std.specs.Prelude.{Bool, true, false, Option, Some, None}
use Rattle.frame_join.specs.declared.join_stage.JoinFault.{JoinFault}
use Rattle.frame_join.specs.declared.join_stage.JoinFault.TheVariants.{Shape, Long, Short, NoMem}
use Rattle.frame_join.specs.declared.join_stage.Stage.{Stage}
use Rattle.frame_join.specs.declared.join_stage.Stage.TheVariants.{Idle, Under, Keeping, Between, Whole, WholeColors}
use Rattle.frame_join.specs.declared.join_stage.Stage.TheVariants.{Failed}

-- the fault that stands
abbrev pub fault_in : Stage → Option JoinFault
fault_in Idle = None
fault_in Under = None
fault_in Keeping = None
fault_in Between = None
fault_in Whole = None
fault_in WholeColors = None
fault_in (Failed fault) = Some fault

abbrev pub is_no_mem : JoinFault → Bool
is_no_mem Shape = false
is_no_mem Long = false
is_no_mem Short = false
is_no_mem NoMem = true

abbrev pub is_out_of_memory_at : Stage → Bool
is_out_of_memory_at Idle = false
is_out_of_memory_at Under = false
is_out_of_memory_at Keeping = false
is_out_of_memory_at Between = false
is_out_of_memory_at Whole = false
is_out_of_memory_at WholeColors = false
is_out_of_memory_at (Failed fault) = is_no_mem fault

-- in a frame whose rows go straight through
abbrev pub is_under : Stage → Bool
is_under Idle = false
is_under Under = true
is_under Keeping = false
is_under Between = false
is_under Whole = false
is_under WholeColors = false
is_under (Failed _) = false

-- in a frame that is kept
abbrev pub is_keeping : Stage → Bool
is_keeping Idle = false
is_keeping Under = false
is_keeping Keeping = true
is_keeping Between = false
is_keeping Whole = false
is_keeping WholeColors = false
is_keeping (Failed _) = false

abbrev pub is_between : Stage → Bool
is_between Idle = false
is_between Under = false
is_between Keeping = false
is_between Between = true
is_between Whole = false
is_between WholeColors = false
is_between (Failed _) = false

-- the picture of three frames is whole
abbrev pub is_colors : Stage → Bool
is_colors Idle = false
is_colors Under = false
is_colors Keeping = false
is_colors Between = false
is_colors Whole = false
is_colors WholeColors = true
is_colors (Failed _) = false
