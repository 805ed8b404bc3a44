-- Whatever happens to a world, its jobs are the same.
use Rattle.std.proofs.Common.{◌≡◌, ◌∙◌, List, [], ◌∷◌, ap}
use Rattle.page_picture.specs.Source.{SourceState}
use Rattle.page_sources.specs.declared.kinds.Source.{Source}
use Rattle.event_world.specs.Worlds.{WorldCore}
use Rattle.world_refines.specs.GhostStates.{Ghost}
use Rattle.world_refines.proofs.job_events.Constant.{Fixed, stays_fixed}
use Rattle.system_model.specs.Transitions.{Transition}
use Rattle.strangers.specs.LeavingJobs.{ghost_behind}
use Rattle.strangers.specs.Together.{ComesAmong, JointEvent, RunsAmong}
use Rattle.strangers.specs.Together.JointEvent.{OfJobs, OfStranger}

pub jobs_stay : (source : Source → SourceState) (xs : List JointEvent) (w v : WorldCore) (run : RunsAmong source xs w v) (t : Ghost) (steps : List Transition) (u : Ghost) → ComesAmong source xs w v run t steps u → u.jobs ≡ t.jobs
jobs_stay source [] w v run t steps u c = ap (λ (g : Ghost). g.jobs) c.1
jobs_stay source (OfJobs e ∷ xs) w v run t steps u c = jobs_stay source xs run.0 v run.2 c.2 c.1 u c.7 ∙ ap (λ (f : Fixed). f.3) (stays_fixed source e t c.0 c.2 c.4)
jobs_stay source (OfStranger a ∷ xs) w v run t steps u c = jobs_stay source xs run.0 v run.2 (ghost_behind c.0 t) c.1 u c.5
