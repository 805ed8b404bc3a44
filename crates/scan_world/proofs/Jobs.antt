-- The job of a place, and its endpoint.
use Rattle.std.specs.Prelude.{◌<◌, length, slice_get}
use Rattle.std.proofs.Common.{◌≡◌, ℕ, zero, suc, List, [], ◌∷◌, Some, refl, arith}
use Rattle.scan_job.specs.declared.job.Job.{Job}
use Rattle.event_world.specs.declared.endpoint.Endpoint.{Endpoint}
use Rattle.event_world.specs.Worlds.{WorldCore}
use Rattle.scan_world.specs.Histories.{History, LedTo}

pub record IsJob (h : History) (w : WorldCore) (i : ℕ) (job : Job) (endpoint : Endpoint) : Type 0 where
  pub led : LedTo h w
  pub job_at : slice_get h.jobs i ≡ Some job
  pub endpoint_at : slice_get w.endpoints i ≡ Some endpoint

pub item_there : {X : Type 0} (xs : List X) (i : ℕ) → i < length xs → (x : X) × (slice_get xs i ≡ Some x)
item_there [] i within = absurd (omega (arith, within))
item_there (x ∷ xs) zero within = (x, refl)
item_there (x ∷ xs) (suc i) within = item_there xs i (omega (arith, within))
