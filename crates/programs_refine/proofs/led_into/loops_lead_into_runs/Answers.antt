use Rattle.programs_refine.proofs.LedInto.{led_into}
use Rattle.programs_refine.proofs.led_into.loops_lead_into_runs.Goals as goal

pub returns : goal.returns
returns c = led_into
