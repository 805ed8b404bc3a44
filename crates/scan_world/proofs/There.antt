-- The endpoint of a job in a world, and its outcome.
use Rattle.std.specs.Prelude.{length, option_map, slice_get, ◌<◌}
use Rattle.std.proofs.Common.{◌≡◌, ◌∙◌, ℕ, List, Some, sym, ap, subst}
use Rattle.std.proofs.lemmas.Option.{slice_get_within}
use Rattle.scan_job.specs.declared.job.Job.{Job}
use Rattle.scan_job.specs.declared.outcome.Outcome.{Outcome}
use Rattle.event_world.specs.declared.endpoint.Endpoint.{Endpoint}
use Rattle.event_world.specs.Worlds.{WorldCore}
use Rattle.world_refines.proofs.job_events.Constant.{Fixed}
use Rattle.scan_world.specs.Calls.{IsJobAt}
use Rattle.scan_world.specs.Histories.{History}
use Rattle.scan_world.specs.Laws.{Below}
use Rattle.scan_world.proofs.Joint.{all_fixed_by}
use Rattle.scan_world.proofs.Jobs.{IsJob, item_there}
use Rattle.scan_world.proofs.Scanned.{at_first, kept_by}

pub endpoint_there : Below → (h : History) (w : WorldCore) (i : ℕ) (job : Job) → IsJobAt h w i job → (p : Endpoint) × IsJob h w i job p
endpoint_there below h w i job at =
    let k = kept_by below.kept h w job at.led in
    let count : k.run.ghost_then.count ≡ length h.jobs = ap (λ (f : Fixed). f.2) (all_fixed_by h.events (at_first h w job at.led) k.run.steps k.run.ghost_then k.run.comes) in
    let as_many : length h.jobs ≡ length w.endpoints = sym count ∙ k.run.stands.is_of.count in
    let p = item_there w.endpoints i (subst (λ (n : ℕ). i < n) as_many (slice_get_within h.jobs i job at.job_at)) in
    (p.0, record { led = at.led; job_at = at.job_at; endpoint_at = p.1 })

pub outcome_there : (endpoints : List Endpoint) (i : ℕ) (p : Endpoint) (o : Outcome) → slice_get endpoints i ≡ Some p → option_map (λ (x : Endpoint). x.client.outcome) (slice_get endpoints i) ≡ Some o → p.client.outcome ≡ o
outcome_there endpoints i p o at e = let both : Some p.client.outcome ≡ Some o = ap (option_map (λ (x : Endpoint). x.client.outcome)) (sym at) ∙ e in cc
