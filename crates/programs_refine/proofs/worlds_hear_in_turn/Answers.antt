use Rattle.programs_refine.proofs.InTurn.{always_in_turn}
use Rattle.programs_refine.proofs.worlds_hear_in_turn.Goals as goal

pub returns : goal.returns
returns c = always_in_turn c.a_new_world_refines.ensures.stands c.a_run_refines.ensures
