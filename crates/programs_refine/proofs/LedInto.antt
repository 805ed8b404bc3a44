-- What the loops ensure leads into a run over connections.
use Rattle.std.proofs.Common.{◌≡◌, ◌⊎◌, inl, inr, ℕ, Option, Some, None, List, refl, sym, subst, slice_get}
use Rattle.scan_job.specs.declared.job.Job.{Job}
use Rattle.net_client.specs.ClientStates.{ClientState, IsNewClient}
use Rattle.net_jobs.specs.JobJournal.{JobMove}
use Rattle.net_jobs.specs.JobSteps.{MovesAreSteps, MovesStopWithin, StepsLead}
use Rattle.saned_serve.specs.Journal.{JournalLeads, LoopAction}
use Rattle.interleaving.specs.Interleavings.{job_journal}
use Rattle.programs_refine.specs.AmongStrangers.{LoopsLeadIntoRunsAmong}
use Rattle.programs_refine.specs.LedInto.{BatchDoneLeads, BatchEndedLeads, BatchSunkLeads, DoneLeads, EndedLeads, LoopLeads, LoopsLeadIntoRuns, SunkLeads}
use Rattle.programs_refine.specs.Programs.{Acts, JobsLead}

pub done : {L : Type 0} → DoneLeads L
done views job was now reports r = (record { first = r.ran.first; fresh = r.ran.fresh; leads = r.steps.lead }, r.last_told, r.went_out)

pub ended : {L : Type 0} → EndedLeads L
ended views job was now stop r told = (record { first = r.ran.first; fresh = r.ran.fresh; leads = (r.steps told).0.lead }, (r.steps told).1)

pub sunk : {L : Type 0} → SunkLeads L
sunk views job was now stop r sink other = record { first = r.ran.first; fresh = r.ran.fresh; leads = (r.sunk sink other).steps.lead }

pub batch_done : {L : Type 0} → BatchDoneLeads L
batch_done views job was now reports r = (record { first = r.ran.first; fresh = r.ran.fresh; leads = r.steps.lead }, r.last_told, r.went_out)

pub batch_ended : {L : Type 0} → BatchEndedLeads L
batch_ended views job was now stop r told = (record { first = r.ran.first; fresh = r.ran.fresh; leads = (r.steps told).0.lead }, (r.steps told).1)

whole_or_front : (job : Job) (first : ClientState) (moves : List JobMove) (last : ClientState) → IsNewClient job first → MovesAreSteps first moves last ⊎ MovesStopWithin first moves last
    → ((s : MovesAreSteps first moves last) × LoopLeads job s.steps last) ⊎ ((s : MovesStopWithin first moves last) × LoopLeads job s.steps.steps s.mid)
whole_or_front job first moves last fresh (inl s) = inl (s, record { first = first; fresh = fresh; leads = s.lead })
whole_or_front job first moves last fresh (inr s) = inr (s, record { first = first; fresh = fresh; leads = s.steps.lead })

pub batch_sunk : {L : Type 0} → BatchSunkLeads L
batch_sunk views job was now stop r sink other = whole_or_front job r.ran.first r.ran.moves r.ran.last r.ran.fresh (r.sunk sink other)

-- each loop of these jobs
abbrev AreLoops : List Job → Acts → (ℕ → ClientState) → Type 0
AreLoops jobs acts last = (i : ℕ) (job : Job) → slice_get jobs i ≡ Some job → LoopLeads job (job_journal i acts) (last i)

-- its first client; at a place of no job any
abbrev first_at : (jobs : List Job) (acts : Acts) (last : ℕ → ClientState) → AreLoops jobs acts last → (i : ℕ) (o : Option Job) → slice_get jobs i ≡ o → ClientState
first_at jobs acts last loops i None none = last i
first_at jobs acts last loops i (Some job) at = (loops i job at).first

first_leads : (jobs : List Job) (acts : Acts) (last : ℕ → ClientState) (loops : AreLoops jobs acts last) (i : ℕ) (o : Option Job) (e : slice_get jobs i ≡ o) (job : Job) → o ≡ Some job
    → IsNewClient job (first_at jobs acts last loops i o e) × StepsLead (first_at jobs acts last loops i o e) (job_journal i acts) (last i)
first_leads jobs acts last loops i None e job is = absurd (let clash : None ≡ Some job = is in cc)
first_leads jobs acts last loops i (Some other) e job is =
    let l = loops i other e in
    let same : other ≡ job = cc in
    (subst (λ (j : Job). IsNewClient j l.first) same l.fresh, l.leads)

jobs_lead : (jobs : List Job) (acts : Acts) (last : ℕ → ClientState) → AreLoops jobs acts last → JobsLead jobs acts last
jobs_lead jobs acts last loops = record {
  first = λ i. first_at jobs acts last loops i (slice_get jobs i) refl;
  fresh = λ i job at. (first_leads jobs acts last loops i (slice_get jobs i) refl job at).0;
  loops = λ i job at. (first_leads jobs acts last loops i (slice_get jobs i) refl job at).1;
}

pub led_among : LoopsLeadIntoRunsAmong
led_among limits was now end jobs owner acts last x new owns counts hands from = record {
  new = new;
  owns = owns;
  counts = counts;
  loops = jobs_lead jobs acts last x.loops;
  end = now.daemon;
  before = was.listeners;
  after = now.listeners;
  serves = subst (λ (journal : List LoopAction). JournalLeads was.daemon was.listeners journal now.daemon now.listeners) (sym x.server) x.served.leads;
  hands_on = hands;
  from_daemon = from;
}

pub led_into : LoopsLeadIntoRuns
led_into limits was now end jobs owner acts last x new owns counts hands from = record {
  new = new;
  owns = owns;
  counts = counts;
  loops = jobs_lead jobs acts last x.loops;
  end = now.daemon;
  before = was.listeners;
  after = now.listeners;
  serves = subst (λ (journal : List LoopAction). JournalLeads was.daemon was.listeners journal now.daemon now.listeners) (sym x.server) x.served.leads;
  hands_on = hands;
  from_daemon = from;
}
