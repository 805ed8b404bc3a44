-- The files of a world's jobs are those of what their clients were told, from a new world on.
use Rattle.std.specs.Prelude.{All}
use Rattle.std.proofs.Common.{◌≡◌, suc, zero, List, [], ◌∷◌, None, Some, arith}
use Rattle.scan_job.specs.declared.job.Job.{Job}
use Rattle.event_world.specs.declared.endpoint.Endpoint.{Endpoint}
use Rattle.event_world.specs.FileInvariant.{AllFilesRepresent}
use Rattle.event_world.specs.Worlds.{AreNew, IsFitJob}
use Rattle.event_world.proofs.Events.{stands_new}

only : (job : Job) → IsFitJob job → All IsFitJob (job ∷ [])
only job h zero other low = h
only job h (suc i) other low = absurd (omega (arith, low))

pub new_files : (jobs : List Job) (endpoints : List Endpoint) → All IsFitJob jobs → AreNew jobs endpoints → AllFilesRepresent endpoints
new_files [] [] fit new i p at = absurd (let clash : None ≡ Some p = at in cc)
new_files [] (q ∷ endpoints) fit new i p at = elim new [ ]
new_files (job ∷ jobs) [] fit new i p at = elim new [ ]
new_files (job ∷ jobs) (q ∷ endpoints) fit new zero p at = stands_new (job ∷ []) (q ∷ []) (omega arith, only job (fit 0 job (omega arith))) (new.0, tt) 0 p at
new_files (job ∷ jobs) (q ∷ endpoints) fit new (suc i) p at = new_files jobs endpoints (λ k other low. fit (suc k) other (omega (arith, low))) new.1 i p at
