use Rattle.std.proofs.Common.{refl, ap}
use Rattle.net_jobs.specs.declared.calls.CallTally.{CallTally}
use Rattle.net_jobs.specs.Inside.{Made, Refused}
use Rattle.net_jobs.proofs.DataStreams.{brings_ahead}
use Rattle.net_jobs.proofs.running.connect.Goals as goal

pub returns-in-Ok-clause-dialled : goal.returns-in-Ok-clause-dialled
returns-in-Ok-clause-dialled g c = λ room.
    Made _ refl (brings_ahead _ _ _ c.in-Ok.ensures.brings)
    (record { running = c.requires.running; wanted = c.requires.wanted; new_is = c.data_opened.ensures.opened; serves = c.data_opened.ensures.serves }) (ap (λ (t : CallTally). t.loss) c.in-Ok.ensures.told)

pub returns-in-Err-clause-dialled : goal.returns-in-Err-clause-dialled
returns-in-Err-clause-dialled g c = λ room. Refused c.in-Err.ensures.none (record { running = c.requires.running; wanted = c.requires.wanted; new_is = c.link_lost.ensures.lost }) (ap (λ (t : CallTally). t.loss) c.in-Err.ensures.told)
