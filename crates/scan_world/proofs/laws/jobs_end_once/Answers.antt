use Rattle.scan_world.proofs.Led.{steps_of}
use Rattle.scan_world.proofs.Over.{cancel_ends, moves_fall, other_jobs_stay, over_stays}
use Rattle.scan_world.proofs.Starved.{starved_stays}
use Rattle.scan_world.proofs.Stepping.{is_step}
use Rattle.scan_world.proofs.laws.jobs_end_once.Goals as goal

pub returns : goal.returns
returns c = record { over = over_stays; others = other_jobs_stay; starved = starved_stays; moves = moves_fall; steps = steps_of is_step; cancel = cancel_ends }
