use Rattle.programs_refine.proofs.Programs.{programs_among}
use Rattle.programs_refine.proofs.among_strangers.programs_are_a_world_among_strangers.Goals as goal

pub returns : goal.returns
returns c = programs_among
