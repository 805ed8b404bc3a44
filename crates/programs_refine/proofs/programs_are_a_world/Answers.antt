use Rattle.programs_refine.proofs.Programs.{programs_are}
use Rattle.programs_refine.proofs.programs_are_a_world.Goals as goal

pub returns : goal.returns
returns c = programs_are
