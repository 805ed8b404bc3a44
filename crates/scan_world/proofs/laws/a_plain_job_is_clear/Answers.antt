use Rattle.scan_world.proofs.Lines.{lines_allow}
use Rattle.scan_world.proofs.PlainJob.{feeder_is_clear, plain_is_clear}
use Rattle.scan_world.proofs.laws.a_plain_job_is_clear.Goals as goal

pub returns : goal.returns
returns c = record { flatbed = plain_is_clear; feeder = feeder_is_clear; line = lines_allow }
