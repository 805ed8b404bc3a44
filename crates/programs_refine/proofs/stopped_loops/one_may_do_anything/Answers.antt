use Rattle.programs_refine.proofs.AnyLoops.{wild_run}
use Rattle.programs_refine.proofs.stopped_loops.one_may_do_anything.Goals as goal

pub returns : goal.returns
returns c = wild_run
