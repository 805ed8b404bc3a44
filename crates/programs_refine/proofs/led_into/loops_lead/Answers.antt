use Rattle.programs_refine.proofs.LedInto.{batch_done, batch_ended, batch_sunk, done, ended, sunk}
use Rattle.programs_refine.proofs.led_into.loops_lead.Goals as goal

pub returns-clause-done : goal.returns-clause-done
returns-clause-done g c = done

pub returns-clause-ended : goal.returns-clause-ended
returns-clause-ended g c = ended

pub returns-clause-sunk : goal.returns-clause-sunk
returns-clause-sunk g c = sunk

pub returns-clause-batch_done : goal.returns-clause-batch_done
returns-clause-batch_done g c = batch_done

pub returns-clause-batch_ended : goal.returns-clause-batch_ended
returns-clause-batch_ended g c = batch_ended

pub returns-clause-batch_sunk : goal.returns-clause-batch_sunk
returns-clause-batch_sunk g c = batch_sunk
