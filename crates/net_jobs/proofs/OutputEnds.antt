-- That a job ends for its output only where that failed.
use Rattle.std.proofs.Common.{◌≡◌, ◌≢◌, ◌∙◌, ◌⊎◌, ℕ, Bool, true, false, Option, Result, Ok, Err, List, inl, inr, ap, refl, sym, subst}
use Rattle.std.specs.Prelude.{IfErr}
use Rattle.frame_join.specs.FrameHistory.{JoinHistory}
use Rattle.scan_job.specs.JobSize.{HasCount}
use Rattle.scan_job.specs.Outcomes.{IfEnded}
use Rattle.scan_job.specs.declared.job.Job.{Job}
use Rattle.scan_job.specs.declared.outcome.Outcome.{Outcome}
use Rattle.scan_job.specs.declared.outcome.Outcome.TheVariants.{Running, Done, Ended}
use Rattle.scan_job.specs.declared.outcome.Why.TheVariants as whys
use Rattle.scan_job.specs.declared.stop.Stop.{Stop}
use Rattle.client_replies.specs.ProtocolStates.{ProtocolState, scans}
use Rattle.net_client.specs.ClientStates.{ClientState}
use Rattle.net_jobs.specs.JobJournal.{JobMove}
use Rattle.net_jobs.specs.JobTraces.{JobTrace}
use Rattle.net_jobs.specs.RunPromises.{EndsBy, ByLoss, ByMemory, ByGarble, ByLength}
use Rattle.net_jobs.specs.Links.{LinkViews}
use Rattle.net_jobs.specs.Inside.{CallNotes, FailsFor, SinkState, StopsAs, closed_as}
use Rattle.net_jobs.proofs.InvariantRecords.{ClientFollowsTrace, Falls, FullRunInvariant, GivenFiles}
use Rattle.net_jobs.proofs.Refusing.{course_spares}
use Rattle.net_jobs.proofs.Shelving.{Stored, from_here}

-- ---- a client never ends for an output

abbrev SparesOutput : Outcome → Type 0
SparesOutput outcome = IfEnded outcome (λ status why. why ≢ whys.Sink)

cut_spares : (moves : List JobMove) (protocol : ProtocolState) (rest : List ℕ) (outcome : Outcome) → EndsBy moves protocol rest outcome → SparesOutput outcome
cut_spares moves protocol rest outcome (ByLoss loss x) = subst SparesOutput (sym x) (λ e. cc)
cut_spares moves protocol rest outcome (ByMemory x) = subst SparesOutput (sym x) (λ e. cc)
cut_spares moves protocol rest outcome (ByGarble procedure awaits no_start x) = subst SparesOutput (sym x) (λ e. cc)
cut_spares moves protocol rest outcome (ByLength frame bytes under long x) = subst SparesOutput (sym x) (λ e. cc)

spares_by : {R : Type 0} (left_of : R → Option (List ℕ)) (moves : List JobMove) (coming0 coming : Option (List (List ℕ))) (trace : JobTrace) (rest : List ℕ) (stream : Option R) (c : ClientState) (past : JoinHistory) → SparesOutput trace.protocol.outcome
    → ClientFollowsTrace left_of coming0 coming trace rest stream c past ⊎ Falls moves coming0 coming trace rest c → SparesOutput c.outcome
spares_by left_of moves coming0 coming trace rest stream c past course (inl f) = subst SparesOutput (ap (λ (t : ProtocolState). t.outcome) (sym f.protocol_is)) course
spares_by left_of moves coming0 coming trace rest stream c past course (inr f) = cut_spares moves trace.protocol rest c.outcome f.cause

stop_spares : (outcome : Outcome) (stop : Stop) → StopsAs outcome stop → SparesOutput outcome → stop.why ≢ whys.Sink
stop_spares Running stop ends spares e = absurd ends
stop_spares (Done reports) stop ends spares e = absurd (let clash : whys.Memory ≡ whys.Sink = sym (ap (λ (s : Stop). s.why) ends) ∙ e in cc)
stop_spares (Ended status why) stop ends spares e = spares (sym (ap (λ (s : Stop). s.why) ends) ∙ e)

-- what is told of a job whose client has ended
pub told_spares : {C R : Type 0} (views : LinkViews C) (left_of : R → Option (List ℕ)) (job : Job) (first : C) (coming0 : Option (List (List ℕ))) (given : GivenFiles) (notes : CallNotes) (links : C) (coming : Option (List (List ℕ))) (stream : Option R) (c : ClientState) (stop : Stop)
    → FullRunInvariant views left_of job first coming0 given notes links coming stream c → StopsAs c.outcome stop → stop.why ≢ whys.Sink
told_spares views left_of job first coming0 given notes links coming stream c stop g ends =
    let s = g.stage in
    stop_spares c.outcome stop ends (spares_by left_of g.moves coming0 coming s.trace s.rest stream c s.history (course_spares job s.did.events s.trace s.did.runs) s.stands)

-- ---- an output that did not take its file has failed

pub fails_by : {C R : Type 0} {was_whole : Bool} (views : LinkViews C) (left_of : R → Option (List ℕ)) (job : Job) (first : C) (coming0 : Option (List (List ℕ))) (before was : SinkState) (notes : CallNotes) (links : C) (coming : Option (List (List ℕ))) (stream : Option R) (c old : ClientState) (given : GivenFiles) (past : JoinHistory) (is_scanning b result failed : Bool)
    → is_scanning ≡ b → is_scanning ≡ scans job.task → HasCount job.task → Stored was_whole job before was given old past → (g : FullRunInvariant views left_of job first coming0 given notes links coming stream c)
    → result ≡ false → (is_scanning ≡ false → result ≡ true)
    → FailsFor c was failed → failed ≡ true
fails_by views left_of job first coming0 before was notes links coming stream c old given past is_scanning true result failed e scanning h shelf g short none goes =
    from_here views left_of job first coming0 before was notes links coming stream c old given past (λ b outputs k q. failed ≡ true) (sym scanning ∙ e) h shelf g goes
fails_by views left_of job first coming0 before was notes links coming stream c old given past is_scanning false result failed e scanning h shelf g short none goes =
    absurd (let clash : true ≡ false = sym (none e) ∙ short in cc)

-- ---- a batch whose last output is given back

pub closed_output : {T : Type 0} (done : Result T Stop) (is_taken was failed : Bool) → IfErr done (λ stop. stop.why ≡ whys.Sink → was ≡ true)
    → (is_taken ≡ false → failed ≡ true) → (is_taken ≡ true → failed ≡ was) → IfErr (closed_as done is_taken) (λ stop. stop.why ≡ whys.Sink → failed ≡ true)
closed_output (Ok it) true was failed ends refused kept = tt
closed_output (Ok it) false was failed ends refused kept = λ sink. refused refl
closed_output (Err stop) true was failed ends refused kept = λ sink. kept refl ∙ ends sink
closed_output (Err stop) false was failed ends refused kept = λ sink. refused refl
