-- A loop that stops within a step is to all others one that stopped in front of it: that step is left out.
use Rattle.std.specs.Prelude.{◌<◌, ◌+◌}
use Rattle.std.proofs.Common.{◌≡◌, ◌≢◌, ◌∙◌, ◌⊎◌, inl, inr, ℕ, Bool, true, false, cond, Some, List, [], ◌∷◌, ◌++◌, length, slice_get, refl, sym, ap, subst}
use Rattle.std.proofs.Math.Dec.{eqb}
use Rattle.std.proofs.lemmas.Bool.{eq-eqb, eqb-true}
use Rattle.netpbm.specs.Pnm.{IsWhole}
use Rattle.scan_job.specs.declared.job.Job.{Job}
use Rattle.net_client.specs.ClientStates.{ClientState}
use Rattle.net_jobs.specs.JobJournal.{JobMove}
use Rattle.net_jobs.specs.JobJournal.JobMove.{Writes, Fails, Hears, Resumes, Prepares, Dials, Takes, Gives, Loses}
use Rattle.net_jobs.specs.JobSteps.{IsDelivery, JobStep, StepsLead, files_by_steps, given_by_steps}
use Rattle.saned_core.specs.DaemonStates.{Core}
use Rattle.saned_serve.specs.SessionActions.{SessionAction}
use Rattle.saned_serve.specs.SessionActions.SessionAction.{Opens, Hears as HearsOfServer, Feed, Forgets, Take, Says, Looks, Misses, Connect, Turn, Shows, Lose, HangsUp, Leaves}
use Rattle.saned_serve.specs.Journal.{IsFront, JournalLeads, LoopAction, projection_of}
use Rattle.saned_serve.specs.Journal.LoopAction.{Of, Full, Waits, Refuses, Turned, Stops}
use Rattle.in_flight.proofs.Slots.{decide}
use Rattle.interleaving.specs.Interleavings.{Traffic, bytes_heard, bytes_sent, bytes_taken, connections_accepted, connections_made, job_journal, made_with, sent_with, server_journal}
use Rattle.interleaving.specs.Interleavings.JointAction.{OfJob, OfServer}
use Rattle.interleaving.specs.Interleavings.Traffic.{Writes as WritesBytes, Reads as ReadsBytes, Dials as MakesConnection, Takes as TakesBytes, NoTraffic}
use Rattle.interleaving.specs.AmongStrangers.{ServesOwners}
use Rattle.interleaving.specs.HandingOn.{HandsOnAmong, IsHandedOnAmong, MayMove, MayServe, Owner}
use Rattle.interleaving.proofs.Parts.{control_alone, control_among, in_parts_among}
use Rattle.interleaving.proofs.Sooner.{of_other}
use Rattle.event_world.specs.Worlds.{WorldCore}
use Rattle.world_refines.specs.GhostStates.{Ghost}
use Rattle.world_refines.specs.WorldPromises.{HasScannedPage}
use Rattle.scan_world.specs.Histories.{History}
use Rattle.scan_world.specs.Promise.{PageIsKept}
use Rattle.programs_refine.specs.StepTraffic.{traffic_of}
use Rattle.programs_refine.specs.Programs.{Acts, EndsAlike, HasFilesOf, IsDoneBatch, RunOverConnections, StopsAlike, WentOut}
use Rattle.programs_refine.specs.Keeping.{LoopIsKept, ProgramsKeepAll, StoppedIsKept, history_of}
use Rattle.programs_refine.specs.AmongStrangers.{RunAmongStrangers}
use Rattle.programs_refine.specs.KeepingAmong.{LoopIsKeptAmong, ProgramsKeepAmongStrangers, StoppedIsKeptAmong}
use Rattle.programs_refine.specs.StoppedLoops.{LoopsLeadOrStop, ProgramsKeepEach, RunOfAnyLoops}
use Rattle.programs_refine.specs.ToldAmong.{ProgramsKeepAllAmongStrangers, joint_history}
use Rattle.programs_refine.specs.ToldOfEach.{NoOtherIsToldWhole, ProgramsTellEachAmongStrangers}
use Rattle.programs_refine.specs.StoppedAmong.{ProgramsKeepEachAmongStrangers, RunOfAnyLoopsAmong, StoppedLoopsCompleteNone}
use Rattle.programs_refine.proofs.KeepingAmong.{completes_none}
use Rattle.programs_refine.proofs.Outgoing.{never_both}
use Rattle.programs_refine.proofs.ToldAmong.{kept_completes_none}
use Rattle.programs_refine.proofs.Passed.{own_journal}

-- ---- each job's newest step is left out, if it did not do whole steps

abbrev whole_from : ℕ → (ℕ → Bool) → ℕ → Bool
whole_from j whole i = cond (eqb j i) true (whole i)

abbrev cut : (ℕ → Bool) → Acts → Acts
cut whole [] = []
cut whole (OfServer action ∷ past) = OfServer action ∷ cut whole past
cut whole (OfJob j step ∷ past) = cond (whole j) (OfJob j step ∷ cut whole past) (cut (whole_from j whole) past)

abbrev behind_newest : List JobStep → List JobStep
behind_newest [] = []
behind_newest (step ∷ steps) = steps

abbrev left_of : Bool → List JobStep → List JobStep
left_of b steps = cond b steps (behind_newest steps)

own_whole : (j : ℕ) (whole : ℕ → Bool) → whole_from j whole j ≡ true
own_whole j whole = ap (λ (b : Bool). cond b true (whole j)) (eq-eqb j j refl)

other_whole : (j i : ℕ) (whole : ℕ → Bool) → j ≢ i → whole_from j whole i ≡ whole i
other_whole j i whole off = by (eqb j i) refl
  where
    by : (b : Bool) → eqb j i ≡ b → cond b true (whole i) ≡ whole i
    by true e = absurd (off (eqb-true j i e))
    by false e = refl

-- ---- the server did the same

server_if : (j : ℕ) (step : JobStep) (b : Bool) (kept left : Acts) (journal : List LoopAction) → server_journal kept ≡ journal → server_journal left ≡ journal → server_journal (cond b (OfJob j step ∷ kept) left) ≡ journal
unfolding server_journal
server_if j step true kept left journal e f = e
server_if j step false kept left journal e f = f

cut_server : (whole : ℕ → Bool) (acts : Acts) → server_journal (cut whole acts) ≡ server_journal acts
unfolding server_journal
cut_server whole [] = refl
cut_server whole (OfServer action ∷ past) = ap (λ (l : List LoopAction). action ∷ l) (cut_server whole past)
cut_server whole (OfJob j step ∷ past) = server_if j step (whole j) (cut whole past) (cut (whole_from j whole) past) (server_journal past) (cut_server whole past) (cut_server (whole_from j whole) past)

-- ---- and a job that did whole steps; any other did all but its last

left_none : (b : Bool) → [] ≡ left_of b []
left_none true = refl
left_none false = refl

own_at : (i j : ℕ) (step : JobStep) (past : Acts) → j ≡ i → job_journal i (OfJob j step ∷ past) ≡ step ∷ job_journal i past
own_at i j step past same = subst (λ (x : ℕ). job_journal i (OfJob x step ∷ past) ≡ step ∷ job_journal i past) (sym same) (own_journal i step past)

job_if : (i j : ℕ) (step : JobStep) (whole : ℕ → Bool) (past : Acts) (b : Bool) → whole j ≡ b → (j ≡ i) ⊎ (j ≢ i) → job_journal i (cut whole past) ≡ left_of (whole i) (job_journal i past) → job_journal i (cut (whole_from j whole) past) ≡ left_of (whole_from j whole i) (job_journal i past)
    → job_journal i (cond b (OfJob j step ∷ cut whole past) (cut (whole_from j whole) past)) ≡ left_of (whole i) (job_journal i (OfJob j step ∷ past))
job_if i j step whole past true on (inl same) kept left =
    let now : whole i ≡ true = ap whole (sym same) ∙ on in
    own_at i j step (cut whole past) same ∙ ap (λ (l : List JobStep). step ∷ l) (kept ∙ ap (λ (b : Bool). left_of b (job_journal i past)) now) ∙ sym (own_at i j step past same) ∙ ap (λ (b : Bool). left_of b (job_journal i (OfJob j step ∷ past))) (sym now)
job_if i j step whole past true on (inr off) kept left = of_other i j step (cut whole past) off ∙ kept ∙ ap (left_of (whole i)) (sym (of_other i j step past off))
job_if i j step whole past false out (inl same) kept left =
    let now : whole i ≡ false = ap whole (sym same) ∙ out in
    let all : whole_from j whole i ≡ true = ap (whole_from j whole) (sym same) ∙ own_whole j whole in
    left ∙ ap (λ (b : Bool). left_of b (job_journal i past)) all ∙ sym (ap behind_newest (own_at i j step past same)) ∙ ap (λ (b : Bool). left_of b (job_journal i (OfJob j step ∷ past))) (sym now)
job_if i j step whole past false out (inr off) kept left = left ∙ ap (λ (b : Bool). left_of b (job_journal i past)) (other_whole j i whole off) ∙ ap (left_of (whole i)) (sym (of_other i j step past off))

cut_job : (i : ℕ) (whole : ℕ → Bool) (acts : Acts) → job_journal i (cut whole acts) ≡ left_of (whole i) (job_journal i acts)
unfolding job_journal
cut_job i whole [] = left_none (whole i)
cut_job i whole (OfServer action ∷ past) = cut_job i whole past
cut_job i whole (OfJob j step ∷ past) = job_if i j step whole past (whole j) refl (decide j i) (cut_job i whole past) (cut_job i (whole_from j whole) past)

-- ---- what is left out was that a piece came

abbrev NewestCame : List JobStep → Type 0
NewestCame [] = Unit {0}
NewestCame (step ∷ steps) = IsDelivery step.move

abbrev AllCame : (ℕ → Bool) → Acts → Type 0
AllCame whole acts = (i : ℕ) → whole i ≡ false → NewestCame (job_journal i acts)

came_sends : (move : JobMove) (sent : List ℕ) → IsDelivery move → sent_with (traffic_of (record { move = move; gives = []; turned = false })) sent ≡ sent
came_sends (Hears piece) sent is = refl
came_sends (Takes piece) sent is = refl
came_sends Resumes sent is = refl
came_sends (Writes bytes) sent is = absurd is
came_sends (Fails bytes) sent is = absurd is
came_sends (Prepares port) sent is = absurd is
came_sends (Dials port made) sent is = absurd is
came_sends (Gives bytes) sent is = absurd is
came_sends (Loses link reason) sent is = absurd is

came_makes : (move : JobMove) (count : ℕ) → IsDelivery move → made_with (traffic_of (record { move = move; gives = []; turned = false })) count ≡ count
came_makes (Hears piece) count is = refl
came_makes (Takes piece) count is = refl
came_makes Resumes count is = refl
came_makes (Writes bytes) count is = absurd is
came_makes (Fails bytes) count is = absurd is
came_makes (Prepares port) count is = absurd is
came_makes (Dials port made) count is = absurd is
came_makes (Gives bytes) count is = absurd is
came_makes (Loses link reason) count is = absurd is

left_sends : (b : Bool) (steps : List JobStep) → (b ≡ false → NewestCame steps) → bytes_sent traffic_of (left_of b steps) ≡ bytes_sent traffic_of steps
unfolding bytes_sent
left_sends true steps came = refl
left_sends false [] came = refl
left_sends false (step ∷ steps) came = sym (came_sends step.move (bytes_sent traffic_of steps) (came refl))

left_makes : (b : Bool) (steps : List JobStep) → (b ≡ false → NewestCame steps) → connections_made traffic_of (left_of b steps) ≡ connections_made traffic_of steps
unfolding connections_made
left_makes true steps came = refl
left_makes false [] came = refl
left_makes false (step ∷ steps) came = sym (came_makes step.move (connections_made traffic_of steps) (came refl))

sends_alike : (whole : ℕ → Bool) (acts : Acts) → AllCame whole acts → (i : ℕ) → bytes_sent traffic_of (job_journal i (cut whole acts)) ≡ bytes_sent traffic_of (job_journal i acts)
sends_alike whole acts came i = ap (bytes_sent traffic_of) (cut_job i whole acts) ∙ left_sends (whole i) (job_journal i acts) (came i)

makes_alike : (whole : ℕ → Bool) (acts : Acts) → AllCame whole acts → (i : ℕ) → connections_made traffic_of (job_journal i (cut whole acts)) ≡ connections_made traffic_of (job_journal i acts)
makes_alike whole acts came i = ap (connections_made traffic_of) (cut_job i whole acts) ∙ left_makes (whole i) (job_journal i acts) (came i)

-- ---- so connections hand on as before

serves_alike : (owner : Owner) (whole : ℕ → Bool) (k : ℕ) (act : SessionAction) (past : Acts) → AllCame whole past → MayServe traffic_of owner k act past → MayServe traffic_of owner k act (cut whole past)
serves_alike owner whole k (Opens port) past came m = m
serves_alike owner whole k (HearsOfServer got room bytes) past came m = tt
serves_alike owner whole k (Feed piece fed begins) past came m =
    (m.0, m.1, subst (λ (l : List ℕ). IsFront ((projection_of k (server_journal (cut whole past))).heard ++ piece) l) (sym (sends_alike whole past came m.0)) (subst (λ (l : List LoopAction). IsFront ((projection_of k l).heard ++ piece) (bytes_sent traffic_of (job_journal m.0 past))) (sym (cut_server whole past)) m.2))
serves_alike owner whole k (Forgets told port) past came m = tt
serves_alike owner whole k (Take room bytes) past came m = tt
serves_alike owner whole k (Says got bytes) past came m = tt
serves_alike owner whole k (Looks frame) past came m = tt
serves_alike owner whole k (Misses port) past came m = tt
serves_alike owner whole k (Connect port) past came m =
    (m.0, m.1, subst (λ (n : ℕ). connections_accepted k (server_journal (cut whole past)) < n) (sym (makes_alike whole past came m.0)) (subst (λ (l : List LoopAction). connections_accepted k l < connections_made traffic_of (job_journal m.0 past)) (sym (cut_server whole past)) m.2))
serves_alike owner whole k (Turn room step bytes) past came m = tt
serves_alike owner whole k (Shows got bytes) past came m = tt
serves_alike owner whole k Lose past came m = tt
serves_alike owner whole k (HangsUp trace) past came m = tt
serves_alike owner whole k (Leaves port trace) past came m = tt

-- two pasts in which the server did the same, and this job
moves_alike : (owner : Owner) (i : ℕ) (t : Traffic) (past other : Acts) → server_journal other ≡ server_journal past → job_journal i other ≡ job_journal i past → MayMove traffic_of owner i t past → MayMove traffic_of owner i t other
moves_alike owner i (WritesBytes bytes) past other server own m = tt
moves_alike owner i (ReadsBytes bytes) past other server own m =
    (m.0, m.1, subst (λ (l : List LoopAction). IsFront (bytes_heard traffic_of (job_journal i other) ++ bytes) (projection_of m.0 l).said) (sym server) (subst (λ (l : List JobStep). IsFront (bytes_heard traffic_of l ++ bytes) (projection_of m.0 (server_journal past)).said) (sym own) m.2))
moves_alike owner i MakesConnection past other server own m = tt
moves_alike owner i (TakesBytes bytes) past other server own m = (
  m.0,
  m.1,
  ap (connections_accepted m.0) server ∙ m.2 ∙ sym (ap (connections_made traffic_of) own),
  subst (λ (l : List LoopAction). IsFront (bytes_taken traffic_of (job_journal i other) ++ bytes) (projection_of m.0 l).shown) (sym server) (subst (λ (l : List JobStep). IsFront (bytes_taken traffic_of l ++ bytes) (projection_of m.0 (server_journal past)).shown) (sym own) m.3),
)
moves_alike owner i NoTraffic past other server own m = tt

came_behind_server : (whole : ℕ → Bool) (action : LoopAction) (past : Acts) → AllCame whole (OfServer action ∷ past) → AllCame whole past
unfolding job_journal
came_behind_server whole action past came = came

came_behind_other : (whole : ℕ → Bool) (j : ℕ) (step : JobStep) (past : Acts) (i : ℕ) → j ≢ i → AllCame whole (OfJob j step ∷ past) → whole i ≡ false → NewestCame (job_journal i past)
came_behind_other whole j step past i off came out = subst NewestCame (of_other i j step past off) (came i out)

came_behind_whole : (whole : ℕ → Bool) (j : ℕ) (step : JobStep) (past : Acts) → whole j ≡ true → AllCame whole (OfJob j step ∷ past) → AllCame whole past
came_behind_whole whole j step past on came i out = came_behind_other whole j step past i (λ same. never_both (whole i) (ap whole (sym same) ∙ on) out) came out

came_behind_cut : (whole : ℕ → Bool) (j : ℕ) (step : JobStep) (past : Acts) → AllCame whole (OfJob j step ∷ past) → AllCame (whole_from j whole) past
came_behind_cut whole j step past came i out = by (decide j i)
  where
    by : (j ≡ i) ⊎ (j ≢ i) → NewestCame (job_journal i past)
    by (inl same) = never_both (whole_from j whole i) (ap (whole_from j whole) (sym same) ∙ own_whole j whole) out
    by (inr off) = came_behind_other whole j step past i off came (sym (other_whole j i whole off) ∙ out)

acts_alike : (owner : Owner) (whole : ℕ → Bool) (action : LoopAction) (past : Acts) → AllCame whole past → IsHandedOnAmong traffic_of owner (OfServer action) past → IsHandedOnAmong traffic_of owner (OfServer action) (cut whole past)
acts_alike owner whole (Of k act) past came (inl none) = inl none
acts_alike owner whole (Of k act) past came (inr h) = inr (serves_alike owner whole k act past came h)
acts_alike owner whole Full past came h = tt
acts_alike owner whole Waits past came h = tt
acts_alike owner whole (Refuses port trace) past came h = tt
acts_alike owner whole Turned past came h = tt
acts_alike owner whole Stops past came h = tt

hands_if : (owner : Owner) (j : ℕ) (step : JobStep) (whole : ℕ → Bool) (past : Acts) (b : Bool) → whole j ≡ b → AllCame whole (OfJob j step ∷ past) → MayMove traffic_of owner j (traffic_of step) past
    → (AllCame whole past → HandsOnAmong traffic_of owner (cut whole past)) → (AllCame (whole_from j whole) past → HandsOnAmong traffic_of owner (cut (whole_from j whole) past)) → HandsOnAmong traffic_of owner (cond b (OfJob j step ∷ cut whole past) (cut (whole_from j whole) past))
unfolding HandsOnAmong
hands_if owner j step whole past true on came may kept left =
    let own : job_journal j (cut whole past) ≡ job_journal j past = cut_job j whole past ∙ ap (λ (b : Bool). left_of b (job_journal j past)) on in
    (kept (came_behind_whole whole j step past on came), moves_alike owner j (traffic_of step) past (cut whole past) (cut_server whole past) own may)
hands_if owner j step whole past false out came may kept left = left (came_behind_cut whole j step past came)

cut_hands : (owner : Owner) (whole : ℕ → Bool) (acts : Acts) → AllCame whole acts → HandsOnAmong traffic_of owner acts → HandsOnAmong traffic_of owner (cut whole acts)
unfolding HandsOnAmong
cut_hands owner whole [] came h = tt
cut_hands owner whole (OfServer action ∷ past) came h =
    let before = came_behind_server whole action past came in
    (cut_hands owner whole past before h.0, acts_alike owner whole action past before h.1)
cut_hands owner whole (OfJob j step ∷ past) came h = hands_if owner j step whole past (whole j) refl came h.1 (λ all. cut_hands owner whole past all h.0) (λ all. cut_hands owner (whole_from j whole) past all h.0)

-- ---- the run that is left

same_steps : (whole : ℕ → Bool) (acts : Acts) (i : ℕ) → whole i ≡ true → job_journal i (cut whole acts) ≡ job_journal i acts
same_steps whole acts i on = cut_job i whole acts ∙ ap (λ (b : Bool). left_of b (job_journal i acts)) on

cut_led : (jobs : List Job) (whole : ℕ → Bool) (acts : Acts) (last : ℕ → ClientState) (l : LoopsLeadOrStop jobs whole acts last) → (i : ℕ) (job : Job) → slice_get jobs i ≡ Some job → (b : Bool) → whole i ≡ b → StepsLead (l.first i) (job_journal i (cut whole acts)) (last i)
cut_led jobs whole acts last l i job at true on = subst (λ (x : List JobStep). StepsLead (l.first i) x (last i)) (sym (same_steps whole acts i on)) (l.loops i job at on)
cut_led jobs whole acts last l i job at false out =
    let s = l.stops i out in
    let rest : job_journal i (cut whole acts) ≡ s.before = cut_job i whole acts ∙ ap (λ (b : Bool). left_of b (job_journal i acts)) out ∙ ap behind_newest s.steps_are in
    subst (λ (x : List JobStep). StepsLead (l.first i) x (last i)) (sym rest) s.leads

cut_run : (jobs : List Job) (owner : Owner) (d : Core) (whole : ℕ → Bool) (acts : Acts) (last : ℕ → ClientState) → RunOfAnyLoopsAmong jobs owner d whole acts last → RunAmongStrangers jobs owner d (cut whole acts) last
cut_run jobs owner d whole acts last r =
    let came : AllCame whole acts = λ i out. (let s = r.loops.stops i out in subst NewestCame (sym s.steps_are) s.came) in
    let left = (in_parts_among traffic_of owner (cut whole acts)).0 (cut_hands owner whole acts came ((in_parts_among traffic_of owner acts).1 r.hands_on r.from_daemon)) in
    record {
      new = r.new;
      owns = r.owns;
      counts = r.counts;
      loops = record { first = r.loops.first; fresh = r.loops.fresh; loops = λ i job at. cut_led jobs whole acts last r.loops i job at (whole i) refl };
      end = r.end;
      before = r.before;
      after = r.after;
      serves = subst (λ (l : List LoopAction). JournalLeads d r.before l r.end r.after) (sym (cut_server whole acts)) r.serves;
      hands_on = left.0;
      from_daemon = left.1;
    }

-- without strangers it is one of those
any_among : (jobs : List Job) (owner : Owner) (d : Core) (whole : ℕ → Bool) (acts : Acts) (last : ℕ → ClientState) → RunOfAnyLoops jobs owner d whole acts last → RunOfAnyLoopsAmong jobs owner d whole acts last
any_among jobs owner d whole acts last r = record {
  new = r.new;
  owns = r.owns;
  counts = r.counts;
  loops = r.loops;
  end = r.end;
  before = r.before;
  after = r.after;
  serves = r.serves;
  hands_on = (control_among traffic_of owner acts r.hands_on r.from_daemon).0;
  from_daemon = r.from_daemon;
}

cut_alone : (jobs : List Job) (owner : Owner) (d : Core) (whole : ℕ → Bool) (acts : Acts) (last : ℕ → ClientState) → RunOfAnyLoops jobs owner d whole acts last → RunOverConnections jobs owner d (cut whole acts) last
cut_alone jobs owner d whole acts last r =
    let x = cut_run jobs owner d whole acts last (any_among jobs owner d whole acts last r) in
    let owners = subst (ServesOwners owner) (sym (cut_server whole acts)) (control_among traffic_of owner acts r.hands_on r.from_daemon).1 in
    record {
      new = x.new;
      owns = x.owns;
      counts = x.counts;
      loops = x.loops;
      end = x.end;
      before = x.before;
      after = x.after;
      serves = x.serves;
      hands_on = control_alone traffic_of owner (cut whole acts) x.hands_on x.from_daemon owners;
      from_daemon = x.from_daemon;
    }

-- ---- what is kept of a whole loop is kept of the same steps

went_same : (v : WorldCore) (i : ℕ) (acts other : Acts) (last : ClientState) (e : EndsAlike v i other last) → job_journal i other ≡ job_journal i acts → WentOut (IsDoneBatch e.endpoint.task last.outcome) (files_by_steps (job_journal i acts)) (given_by_steps (job_journal i acts)) e.finished e.text
went_same v i acts other last e same = subst (λ (l : List JobStep). WentOut (IsDoneBatch e.endpoint.task last.outcome) (files_by_steps l) (given_by_steps l) e.finished e.text) same e.went_out

files_same : (v : WorldCore) (i : ℕ) (acts other : Acts) (s : StopsAlike v i other) → job_journal i other ≡ job_journal i acts → HasFilesOf (files_by_steps (job_journal i acts)) (given_by_steps (job_journal i acts)) s.endpoint
files_same v i acts other s same = subst (λ (l : List JobStep). HasFilesOf (files_by_steps l) (given_by_steps l) s.endpoint) same s.files

pub ends_same : (h : History) (v : WorldCore) (i : ℕ) (job : Job) (acts other : Acts) (last : ClientState) → job_journal i other ≡ job_journal i acts → LoopIsKept h v i job other last → LoopIsKept h v i job acts last
ends_same h v i job acts other last same k =
    let e = k.ends in
    record {
      ends = record { endpoint = e.endpoint; at = e.at; outcome = e.outcome; finished = e.finished; text = e.text; files = e.files; went_out = went_same v i acts other last e same };
      outcome = k.outcome;
      file = k.file;
      pages = k.pages;
      count = k.count;
    }

pub stops_same : (h : History) (v : WorldCore) (i : ℕ) (job : Job) (acts other : Acts) → job_journal i other ≡ job_journal i acts → StoppedIsKept h v i job other → StoppedIsKept h v i job acts
stops_same h v i job acts other same k =
    let p = k.stops.endpoint in
    record {
      stops = record { endpoint = p; at = k.stops.at; lost = k.stops.lost; files = files_same v i acts other k.stops same };
      not_whole = subst (λ (l : List JobStep). IsWhole (given_by_steps l) → ⊥) same k.not_whole;
      pages = subst (λ (l : List JobStep). (n : ℕ) (bytes : List ℕ) → slice_get (files_by_steps l) n ≡ Some bytes → PageIsKept h v i job p.out_of_memory (length (files_by_steps l)) (n + 1) (Some bytes)) same k.pages;
    }

ends_same_among : (u : Ghost) (v : WorldCore) (i : ℕ) (job : Job) (acts other : Acts) (last : ClientState) → job_journal i other ≡ job_journal i acts → LoopIsKeptAmong u v i job other last → LoopIsKeptAmong u v i job acts last
ends_same_among u v i job acts other last same k =
    let e = k.ends in
    record {
      ends = record { endpoint = e.endpoint; at = e.at; outcome = e.outcome; finished = e.finished; text = e.text; files = e.files; went_out = went_same v i acts other last e same };
      is_of = k.is_of;
      outcome = k.outcome;
      statuses = k.statuses;
      short = k.short;
      scanned = k.scanned;
      pages = k.pages;
      count = k.count;
    }

stops_same_among : (u : Ghost) (v : WorldCore) (i : ℕ) (job : Job) (acts other : Acts) → job_journal i other ≡ job_journal i acts → StoppedIsKeptAmong u v i job other → StoppedIsKeptAmong u v i job acts
stops_same_among u v i job acts other same k = record {
  stops = record { endpoint = k.stops.endpoint; at = k.stops.at; lost = k.stops.lost; files = files_same v i acts other k.stops same };
  is_of = k.is_of;
  not_whole = subst (λ (l : List JobStep). IsWhole (given_by_steps l) → ⊥) same k.not_whole;
  pages = subst (λ (l : List JobStep). (n : ℕ) (bytes : List ℕ) → slice_get (files_by_steps l) n ≡ Some bytes → HasScannedPage u i n bytes) same k.pages;
}

-- ---- so all is kept of each loop that did whole steps

pub keeps_each : ProgramsKeepAll → ProgramsKeepEach
keeps_each all devices jobs owner d whole acts last fit r =
    let other = cut whole acts in
    let k = all devices jobs owner d other last fit (cut_alone jobs owner d whole acts last r) in
    let h = history_of devices k.seed jobs d k.events in
    record {
      seed = k.seed;
      events = k.events;
      are = k.are;
      v = k.v;
      led = k.led;
      each = λ i job at on over. ends_same h k.v i job acts other (last i) (same_steps whole acts i on) (k.each i job at over);
      stopped = λ i job at on runs. stops_same h k.v i job acts other (same_steps whole acts i on) (k.stopped i job at runs);
    }

pub keeps_each_among : ProgramsKeepAmongStrangers → ProgramsKeepEachAmongStrangers
keeps_each_among all sources other devices jobs owner d whole acts last fit known r =
    let left = cut whole acts in
    let k = all sources other devices jobs owner d left last fit known (cut_run jobs owner d whole acts last r) in
    record {
      w = k.w;
      is_of = k.is_of;
      events = k.events;
      v = k.v;
      leads = k.leads;
      strangers = k.strangers;
      kept = k.kept;
      each = λ i job at on over. ends_same_among k.kept.all.ghost_then k.v i job acts left (last i) (same_steps whole acts i on) (k.each i job at over);
      stopped = λ i job at on runs. stops_same_among k.kept.all.ghost_then k.v i job acts left (same_steps whole acts i on) (k.stopped i job at runs);
    }

pub tells_each_among : ProgramsKeepAllAmongStrangers → ProgramsTellEachAmongStrangers
tells_each_among all devices jobs owner d whole acts last fit r =
    let left = cut whole acts in
    let k = all devices jobs owner d left last fit (cut_run jobs owner d whole acts last r) in
    let h = joint_history devices k.seed jobs d k.events in
    record {
      seed = k.seed;
      events = k.events;
      are = k.are;
      strangers = k.strangers;
      v = k.v;
      led = k.led;
      each = λ i job at on over. ends_same h k.v i job acts left (last i) (same_steps whole acts i on) (k.each i job at over);
      stopped = λ i job at on runs. stops_same h k.v i job acts left (same_steps whole acts i on) (k.stopped i job at runs);
    }

pub no_other_whole : NoOtherIsToldWhole
no_other_whole devices jobs owner d whole acts last k i job at on undone whole_file = kept_completes_none _ k.v i job acts (last i) (λ over. k.each i job at on over) (λ runs. k.stopped i job at on runs) undone whole_file

pub stopped_complete_none : StoppedLoopsCompleteNone
stopped_complete_none sources other devices jobs owner d whole acts last k i job at on undone whole_file =
    completes_none k.kept.all.ghost_then k.v i job acts (last i) (λ over. k.each i job at on over) (λ runs. k.stopped i job at on runs) undone whole_file
