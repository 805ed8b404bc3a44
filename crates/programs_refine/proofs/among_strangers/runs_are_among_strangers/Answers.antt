use Rattle.programs_refine.proofs.LedInto.{led_among}
use Rattle.programs_refine.proofs.Programs.{run_among}
use Rattle.programs_refine.proofs.among_strangers.runs_are_among_strangers.Goals as goal

pub returns-clause-over_connections : goal.returns-clause-over_connections
returns-clause-over_connections c = run_among

pub returns-clause-led : goal.returns-clause-led
returns-clause-led c = led_among
