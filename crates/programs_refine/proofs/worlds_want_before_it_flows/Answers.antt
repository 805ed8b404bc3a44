use Rattle.programs_refine.proofs.Keeping.{always_first}
use Rattle.programs_refine.proofs.worlds_want_before_it_flows.Goals as goal

pub returns : goal.returns
returns c = always_first c.a_new_world_refines.ensures.stands c.a_run_refines.ensures
