-- What a run over streams leaves of its output where it is not done.
use Rattle.std.proofs.Common.{◌⊎◌, ℕ, Option, List, inl, inr, sym, subst}
use Rattle.scan_job.specs.FileOutputs.{StopsShort}
use Rattle.scan_job.specs.declared.job.Job.{Job}
use Rattle.scan_job.specs.declared.outcome.Outcome.TheVariants.{Ended}
use Rattle.scan_job.specs.declared.stop.Stop.{Stop}
use Rattle.net_jobs.specs.Links.{JobLinks, LinkViews}
use Rattle.net_jobs.specs.RunPromises.{JobStreams, RanEnded, RefusesJob, seen}
use Rattle.net_jobs.proofs.NetDrains.{stays_short}

pub short_of : {C D W : Type 0} (views : LinkViews (JobLinks C D)) (coming : D → Option (List (List ℕ))) (holds : W → Option (List ℕ)) (job : Job) (was now : JobStreams C D W) (stop : Stop)
    → RefusesJob job (Ended stop.status stop.why) was now ⊎ RanEnded views job (seen coming holds was) (seen coming holds now) stop → StopsShort (holds was.output) (holds now.output)
short_of {C} {D} {W} views coming holds job was now stop (inl x) = subst (λ (s : JobStreams C D W). StopsShort (holds was.output) (holds s.output)) (sym x.same) (stays_short (holds was.output))
short_of views coming holds job was now stop (inr x) = record { text = x.text; taken = x.taken; none = x.none }
