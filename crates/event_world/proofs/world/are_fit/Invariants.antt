use Rattle.std.proofs.Common.{ℕ, ◌<◌, length, slice_index_or}
use Rattle.scan_job.specs.declared.job.Job.{Job}
use Rattle.event_world.specs.Worlds.{IsFitJob}
use Rattle.event_world.proofs.world.are_fit.Given as goal

abbrev pub invariant-loop-job : goal.invariant-loop-job
invariant-loop-job l = (k : ℕ) (d : Job) → k < l.job-index → k < length l.fn.jobs → IsFitJob (slice_index_or l.fn.jobs k d)
