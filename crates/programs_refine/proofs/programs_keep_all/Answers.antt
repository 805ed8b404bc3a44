use Rattle.programs_refine.proofs.InTurn.{always_in_turn}
use Rattle.programs_refine.proofs.Keeping.{all_kept}
use Rattle.programs_refine.proofs.programs_keep_all.Goals as goal

pub returns : goal.returns
returns c =
    let new = c.a_new_world_refines.ensures.stands in
    all_kept new c.a_run_refines.ensures (always_in_turn new c.a_run_refines.ensures) c.all_is_right.ensures
