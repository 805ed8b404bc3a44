use Rattle.std.proofs.Common.{List, [], ◌∷◌, ◌++◌, sym, subst}
use Rattle.scan_job.specs.declared.job.Job.{Job}
use Rattle.event_world.specs.declared.endpoint.Endpoint.{Endpoint}
use Rattle.event_world.specs.Endpoints.{IsNew}
use Rattle.event_world.specs.Worlds.{AreNew}
use Rattle.event_world.proofs.world.endpoints_of.Goals as goal

one_new : (jobs : List Job) (endpoints : List Endpoint) (job : Job) (p : Endpoint) → AreNew jobs endpoints → IsNew job p → AreNew (jobs ++ job ∷ []) (endpoints ++ p ∷ [])
one_new [] [] job p a n = (n, tt)
one_new (j ∷ jobs) (q ∷ endpoints) job p a n = (a.0, one_new jobs endpoints job p a.1 n)
one_new [] (q ∷ endpoints) job p a n = elim a [ ]
one_new (j ∷ jobs) [] job p a n = elim a [ ]

pub loop-job-init : goal.loop-job-init
loop-job-init c = subst (λ (endpoints : List Endpoint). AreNew [] endpoints) (sym c.new-endpoints.ensures.items) tt

pub loop-job-preserved : goal.loop-job-preserved
loop-job-preserved c =
    subst (λ (endpoints : List Endpoint). AreNew (c.loop-job.yielded ++ c.in-Some.job ∷ []) endpoints) (sym c.in_ok-push.ensures.items) (one_new c.loop-job.yielded c.loop-job.endpoints.items c.in-Some.job c.in-Ok.endpoint c.loop-job.invariant c.in-Ok.ensures.new)
