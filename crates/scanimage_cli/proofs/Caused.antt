-- What ends a job at a host, as its streams tell it.
use Rattle.std.proofs.Common.{ℕ, ◌≡◌, ◌∙◌, ◌⊎◌, inl, inr, ap, Option, List, Result, Ok, Err, IfErr, sym}
use Rattle.std.specs.Io.KnownBytes.{prepend_known}
use Rattle.scan_job.specs.declared.job.Job.{Job}
use Rattle.scan_job.specs.declared.outcome.Outcome.TheVariants as outcomes
use Rattle.scan_job.specs.declared.stop.Stop.{Stop}
use Rattle.scan_job.specs.Shelves.{Stock}
use Rattle.net_jobs.specs.JobJournal.{dialled_by}
use Rattle.net_jobs.specs.Links.{LinkViews, JobLinks}
use Rattle.net_jobs.specs.RunPromises.{JobStreams, RanEnded, RefusesJob, StreamViews, seen}
use Rattle.net_jobs.specs.Batches.{BatchEnded, RefusesBatch}
use Rattle.scanimage_cli.specs.Causes.{EndsNetPlanned, StoppedThere}
use Rattle.scanimage_cli.specs.Causes.StoppedThere.{AtOnce, Behind}
use Rattle.scanimage_cli.specs.Host.{DialsBetween}
use Rattle.scanimage_cli.specs.NetDoing.{EndsNetJob, EndsNetBatch}
use Rattle.scanimage_cli.specs.declared.ending.Ending.{Ending}
use Rattle.scanimage_cli.proofs.PortsTold.{asked_now}

job_stopped : {C D W : Type 0} (views : LinkViews (JobLinks C D)) (coming : D → Option (List (List ℕ))) (holds : W → Option (List ℕ)) (dials : DialsBetween) (job : Job) (was now : JobStreams C D W) (stop : Stop)
    → (views.ports (record { control = was.control; dial = was.dial })).asked ≡ dials.was → (views.ports (record { control = now.control; dial = now.dial })).asked ≡ dials.now
    → RefusesJob job (outcomes.Ended stop.status stop.why) was now ⊎ RanEnded views job (seen coming holds was) (seen coming holds now) stop → StoppedThere job dials stop
job_stopped {C} {D} {W} views coming holds dials job was now stop first last (inl x) =
    AtOnce x.why (sym last ∙ (ap (λ (s : JobStreams C D W). (views.ports (record { control = s.control; dial = s.dial })).asked) x.same ∙ first))
job_stopped views coming holds dials job was now stop first last (inr x) =
    Behind x.ran.trace x.ran.did.events x.ran.did.runs x.ran.moves x.ran.rest x.cause x.ran.asked
    (sym last ∙ (asked_now views _ x.ran.moves _ x.ran.calls ∙ ap (prepend_known (dialled_by x.ran.moves)) first))

batch_stopped : {C D S : Type 0} (views : LinkViews (JobLinks C D)) (coming : D → Option (List (List ℕ))) (holds : S → Option Stock) (dials : DialsBetween) (job : Job) (was now : JobStreams C D S) (stop : Stop)
    → (views.ports (record { control = was.control; dial = was.dial })).asked ≡ dials.was → (views.ports (record { control = now.control; dial = now.dial })).asked ≡ dials.now
    → RefusesBatch job (outcomes.Ended stop.status stop.why) was now ⊎ BatchEnded views job (seen coming holds was) (seen coming holds now) stop → StoppedThere job dials stop
batch_stopped {C} {D} {S} views coming holds dials job was now stop first last (inl x) =
    AtOnce (inr x.why) (sym last ∙ (ap (λ (s : JobStreams C D S). (views.ports (record { control = s.control; dial = s.dial })).asked) x.same ∙ first))
batch_stopped views coming holds dials job was now stop first last (inr x) =
    Behind x.ran.trace x.ran.did.events x.ran.did.runs x.ran.moves x.ran.rest x.cause x.ran.asked
    (sym last ∙ (asked_now views _ x.ran.moves _ x.ran.calls ∙ ap (prepend_known (dialled_by x.ran.moves)) first))

pub net_job_ends : {A C D W : Type 0} (views : StreamViews C D W (Option (List ℕ))) (dials : DialsBetween) (job : Job) (was now : JobStreams C D W) (result : Result A Ending)
    → (views.links.ports (record { control = was.control; dial = was.dial })).asked ≡ dials.was → (views.links.ports (record { control = now.control; dial = now.dial })).asked ≡ dials.now
    → IfErr result (EndsNetJob views job was now) → IfErr result (EndsNetPlanned job dials)
net_job_ends views dials job was now (Ok value) first last ended = tt
net_job_ends views dials job was now (Err ending) first last ended = (ended.stop, ended.told, job_stopped views.links views.coming views.output dials job was now ended.stop first last ended.reason)

pub net_batch_ends : {A C D S : Type 0} (views : StreamViews C D S (Option Stock)) (dials : DialsBetween) (job : Job) (was now : JobStreams C D S) (result : Result A Ending)
    → (views.links.ports (record { control = was.control; dial = was.dial })).asked ≡ dials.was → (views.links.ports (record { control = now.control; dial = now.dial })).asked ≡ dials.now
    → IfErr result (EndsNetBatch views job was now) → IfErr result (EndsNetPlanned job dials)
net_batch_ends views dials job was now (Ok value) first last ended = tt
net_batch_ends views dials job was now (Err ending) first last ended = (ended.stop, ended.told, batch_stopped views.links views.coming views.output dials job was now ended.stop first last ended.reason)
