use Rattle.std.proofs.Common.{◌≡◌, ◌∙◌, ℕ, zero, suc, ◌+◌, ap, ◌<◌, ◌⊎◌, inl, inr, List, length, refl, subst, arith, slice_index_or}
use Rattle.std.proofs.lemmas.List.{get_or_default}
use Rattle.scan_job.specs.declared.job.Job.{Job}
use Rattle.event_world.specs.Worlds.{IsFitJob}
use Rattle.event_world.proofs.world.are_fit.Goals as goal

below_suc : (k i : ℕ) → (k < i) ⊎ (k ≡ i) → (suc k < suc i) ⊎ (suc k ≡ suc i)
below_suc k i (inl h) = inl (omega (arith, h))
below_suc k i (inr e) = inr (ap suc e)

below : (k i : ℕ) → k < i + 1 → (k < i) ⊎ (k ≡ i)
below zero zero h = inr refl
below zero (suc i) h = inl (omega arith)
below (suc k) zero h = absurd (omega (arith, h))
below (suc k) (suc i) h = below_suc k i (below k i (omega (arith, h)))

-- the next is fit as well
next_fit : (jobs : List Job) (i : ℕ) (job : Job) → job ≡ slice_index_or jobs i job → IsFitJob job → ((k : ℕ) (d : Job) → k < i → k < length jobs → IsFitJob (slice_index_or jobs k d)) → (k : ℕ) (d : Job) → (k < i) ⊎ (k ≡ i) → k < length jobs → IsFitJob (slice_index_or jobs k d)
next_fit jobs i job at fit before k d (inl less) within = before k d less within
next_fit jobs i job at fit before k d (inr e) within =
    subst IsFitJob (at ∙ subst (λ (n : ℕ). slice_index_or jobs n job ≡ slice_index_or jobs k d) e (get_or_default jobs k job d within)) fit

pub loop-job-init : goal.loop-job-init
loop-job-init c = λ k d less within. absurd (omega (arith, less))

pub loop-job-preserved : goal.loop-job-preserved
loop-job-preserved c = λ k d less within.
    next_fit c.args.jobs.now c.loop-job.job-index c.job-item.result c.job-item.is (c.is_fit.ensures.0 c.if-not-is_fit.false) c.loop-job.invariant k d (below k c.loop-job.job-index less) within

pub returns : goal.returns
returns c = (λ t. λ k d within. c.loop-job.invariant k d (omega (arith, c.loop-job-test.false, within)) within, λ all. refl)
