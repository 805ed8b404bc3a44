use Rattle.programs_refine.proofs.Interleaved.{stopped_interleaves, stopped_run}
use Rattle.programs_refine.proofs.worked_runs.a_stopped_server_is_interleaved.Goals as goal

pub returns : goal.returns
returns c = record { interleaved = stopped_interleaves; run = stopped_run c.loops_lead_into_runs.ensures }
