-- What passed between a session and its job, and how each act of the server and each step of the job changes it.
use Rattle.std.specs.Prelude.{if◌then◌else◌}
use Rattle.std.proofs.Common.{◌≡◌, ◌≢◌, ◌∙◌, ℕ, ◌+◌, Bool, true, false, ◌||◌, cond, Option, List, [], ◌∷◌, ◌++◌, refl, ap}
use Rattle.std.proofs.Math.Dec.{eqb}
use Rattle.std.proofs.lemmas.Bool.{eq-eqb}
use Rattle.saned_core.specs.declared.session_slot.Fed.{Fed}
use Rattle.saned_core.specs.declared.session_slot.Fed.TheVariants.{Standing, Over, Starved}
use Rattle.saned_serve.specs.ConnectionTraces.{ConnectionTrace}
use Rattle.saned_serve.specs.SessionActions.{SessionAction, is_end_record}
use Rattle.saned_serve.specs.SessionActions.SessionAction.{Opens, Hears, Feed, Forgets, Take, Says, Looks, Misses, Connect, Turn, Shows, Lose, HangsUp, Leaves}
use Rattle.saned_serve.specs.Journal.{LoopAction, SessionProjection, projection_after, projection_of}
use Rattle.saned_serve.specs.Journal.LoopAction.{Of, Full, Waits, Refuses, Turned, Stops}
use Rattle.saned_serve.proofs.ActionSteps.{eqb_off, life_at, life_off}
use Rattle.saned_serve.proofs.Summing.{nobody}
use Rattle.net_jobs.specs.JobJournal.{given_by}
use Rattle.net_jobs.specs.JobSteps.{JobStep, given_by_steps, has_failed, is_failed_write, files_by_steps}
use Rattle.interleaving.specs.Interleavings.{JointAction, accepted_after, accepted_with, bytes_heard, bytes_sent, bytes_taken, connections_accepted, connections_made, heard_with, job_journal, made_with, sent_with, taken_with}
use Rattle.interleaving.specs.Interleavings.JointAction.{OfJob}
use Rattle.programs_refine.specs.StepTraffic.{traffic_of}

-- ---- of a session, as the server's journal has it

pub record Passed : Type 0 where
  pub is_open : Bool
  pub heard : List ℕ
  pub said : List ℕ
  pub shown : List ℕ
  pub imaging : Bool
  pub last : Bool
  pub dropped : Bool
  pub starved : Bool
  pub accepted : ℕ

-- whether a piece ended the session for lack of memory
abbrev pub is_starved : Fed → Bool
is_starved Standing = false
is_starved Over = false
is_starved Starved = true

abbrev pub starved_with : SessionAction → Bool → Bool
starved_with (Feed piece fed begins) starved = starved || is_starved fed
starved_with act starved = starved

abbrev pub starved_after : LoopAction → ℕ → Bool → Bool
starved_after (Of number act) k starved = cond (eqb number k) (starved_with act starved) starved
starved_after action k starved = starved

unfoldable pub has_starved : ℕ → List LoopAction → Bool
has_starved k [] = false
has_starved k (action ∷ past) = starved_after action k (has_starved k past)

abbrev pub passed_by : SessionProjection → Bool → ℕ → Passed
passed_by x starved accepted = record { is_open = x.is_open; heard = x.heard; said = x.said; shown = x.shown; imaging = x.imaging; last = x.last; dropped = x.dropped; starved = starved; accepted = accepted }

abbrev pub passed_of : List LoopAction → ℕ → Passed
passed_of journal k = passed_by (projection_of k journal) (has_starved k journal) (connections_accepted k journal)

abbrev pub passed_after : SessionAction → Passed → Passed
passed_after (Opens port) x = record { is_open = true; heard = []; said = []; shown = []; imaging = false; last = false; dropped = false; starved = x.starved; accepted = x.accepted }
passed_after (Feed piece fed begins) x = record x { heard = x.heard ++ piece; starved = x.starved || is_starved fed }
passed_after (Take room bytes) x = record x { said = x.said ++ bytes }
passed_after (Connect port) x = record x { imaging = true; shown = []; last = false; dropped = false; accepted = x.accepted + 1 }
passed_after (Turn room step bytes) x = record x { shown = x.shown ++ bytes; last = x.last || is_end_record step }
passed_after Lose x = record x { dropped = true }
passed_after (HangsUp trace) x = record x { imaging = false }
passed_after (Leaves port trace) x = record x { is_open = false }
passed_after act x = x

passes_by : (act : SessionAction) (x : SessionProjection) (starved : Bool) (accepted : ℕ) → passed_by (projection_after act x) (starved_with act starved) (accepted_with act accepted) ≡ passed_after act (passed_by x starved accepted)
passes_by (Opens port) x starved accepted = refl
passes_by (Hears got room bytes) x starved accepted = refl
passes_by (Feed piece fed begins) x starved accepted = refl
passes_by (Forgets told port) x starved accepted = refl
passes_by (Take room bytes) x starved accepted = refl
passes_by (Says got bytes) x starved accepted = refl
passes_by (Looks frame) x starved accepted = refl
passes_by (Misses port) x starved accepted = refl
passes_by (Connect port) x starved accepted = refl
passes_by (Turn room step bytes) x starved accepted = refl
passes_by (Shows got bytes) x starved accepted = refl
passes_by Lose x starved accepted = refl
passes_by (HangsUp trace) x starved accepted = refl
passes_by (Leaves port trace) x starved accepted = refl

accepted_at : (k number : ℕ) (act : SessionAction) (past : List LoopAction) (b : Bool) → eqb number k ≡ b → connections_accepted k (Of number act ∷ past) ≡ cond b (accepted_with act (connections_accepted k past)) (connections_accepted k past)
unfolding connections_accepted
accepted_at k number act past b e = ap (λ (v : Bool). cond v (accepted_with act (connections_accepted k past)) (connections_accepted k past)) e

accepted_else : (k : ℕ) (action : LoopAction) (past : List LoopAction) → accepted_after action k (connections_accepted k past) ≡ connections_accepted k past → connections_accepted k (action ∷ past) ≡ connections_accepted k past
unfolding connections_accepted
accepted_else k action past e = e

starved_at : (k number : ℕ) (act : SessionAction) (past : List LoopAction) (b : Bool) → eqb number k ≡ b → has_starved k (Of number act ∷ past) ≡ cond b (starved_with act (has_starved k past)) (has_starved k past)
unfolding has_starved
starved_at k number act past b e = ap (λ (v : Bool). cond v (starved_with act (has_starved k past)) (has_starved k past)) e

starved_else : (k : ℕ) (action : LoopAction) (past : List LoopAction) → starved_after action k (has_starved k past) ≡ has_starved k past → has_starved k (action ∷ past) ≡ has_starved k past
unfolding has_starved
starved_else k action past e = e

-- all three as they were told
same_passed : (x y : SessionProjection) (a b : Bool) (m n : ℕ) → x ≡ y → a ≡ b → m ≡ n → passed_by x a m ≡ passed_by y b n
same_passed x y a b m n e f g = ap (λ (z : SessionProjection). passed_by z a m) e ∙ ap (λ (z : Bool). passed_by y z m) f ∙ ap (λ (z : ℕ). passed_by y b z) g

pub passes_own : (k : ℕ) (act : SessionAction) (past : List LoopAction) → passed_of (Of k act ∷ past) k ≡ passed_after act (passed_of past k)
passes_own k act past =
    let on = eq-eqb k k refl in
    same_passed (projection_of k (Of k act ∷ past)) (projection_after act (projection_of k past)) (has_starved k (Of k act ∷ past)) (starved_with act (has_starved k past)) (connections_accepted k (Of k act ∷ past)) (accepted_with act (connections_accepted k past))
    (life_at k (Of k act) past on) (starved_at k k act past true on) (accepted_at k k act past true on)
    ∙ passes_by act (projection_of k past) (has_starved k past) (connections_accepted k past)

pub passes_other : (n k : ℕ) (act : SessionAction) (past : List LoopAction) → n ≢ k → passed_of (Of n act ∷ past) k ≡ passed_of past k
passes_other n k act past off =
    let other = eqb_off n k off in
    same_passed (projection_of k (Of n act ∷ past)) (projection_of k past) (has_starved k (Of n act ∷ past)) (has_starved k past) (connections_accepted k (Of n act ∷ past)) (connections_accepted k past)
    (life_off k (Of n act) past other) (starved_at k n act past false other) (accepted_at k n act past false other)

passes_off : (k : ℕ) (action : LoopAction) (past : List LoopAction) → projection_of k (action ∷ past) ≡ projection_of k past → starved_after action k (has_starved k past) ≡ has_starved k past → accepted_after action k (connections_accepted k past) ≡ connections_accepted k past → passed_of (action ∷ past) k ≡ passed_of past k
passes_off k action past same starved count =
    same_passed (projection_of k (action ∷ past)) (projection_of k past) (has_starved k (action ∷ past)) (has_starved k past) (connections_accepted k (action ∷ past)) (connections_accepted k past) same (starved_else k action past starved) (accepted_else k action past count)

pub passes_full : (k : ℕ) (past : List LoopAction) → passed_of (Full ∷ past) k ≡ passed_of past k
passes_full k past = passes_off k Full past (life_off k Full past refl) refl refl

pub passes_waits : (k : ℕ) (past : List LoopAction) → passed_of (Waits ∷ past) k ≡ passed_of past k
passes_waits k past = passes_off k Waits past (life_off k Waits past refl) refl refl

pub passes_stops : (k : ℕ) (past : List LoopAction) → passed_of (Stops ∷ past) k ≡ passed_of past k
passes_stops k past = passes_off k Stops past (life_off k Stops past refl) refl refl

pub passes_turned : (k : ℕ) (past : List LoopAction) → passed_of (Turned ∷ past) k ≡ passed_of past k
passes_turned k past =
    ap (λ (x : SessionProjection). passed_by x (has_starved k (Turned ∷ past)) (connections_accepted k (Turned ∷ past))) (life_at k Turned past refl)
    ∙ ap (λ (b : Bool). passed_by (projection_of k past) b (connections_accepted k (Turned ∷ past))) (starved_else k Turned past refl)
    ∙ ap (λ (c : ℕ). passed_by (projection_of k past) (has_starved k past) c) (accepted_else k Turned past refl)

abbrev pub nothing_passed : Passed
nothing_passed = record { is_open = false; heard = []; said = []; shown = []; imaging = false; last = false; dropped = false; starved = false; accepted = 0 }

pub passed_first : (k : ℕ) → passed_of [] k ≡ nothing_passed
unfolding connections_accepted has_starved
passed_first k = ap (λ (x : SessionProjection). passed_by x false 0) (nobody k)

-- ---- of a job, as its own journal has it

pub record Traffics : Type 0 where
  pub sent : List ℕ
  pub heard : List ℕ
  pub taken : List ℕ
  pub made : ℕ
  pub failed : Bool
  -- the files of the pages that were turned, and what went out of the one under way
  pub turned : List (List ℕ)
  pub given : List ℕ

abbrev pub traffics_of : List JobStep → Traffics
traffics_of steps =
    record { sent = bytes_sent traffic_of steps; heard = bytes_heard traffic_of steps; taken = bytes_taken traffic_of steps; made = connections_made traffic_of steps; failed = has_failed steps; turned = files_by_steps steps; given = given_by_steps steps }

-- the files of a job, behind what goes out of them by a step
abbrev pub with_given : JobStep → Traffics → Traffics
with_given step x = record x {
  turned = if step.turned then x.turned ++ (x.given ++ given_by step.gives) ∷ [] else x.turned;
  given = if step.turned then [] else x.given ++ given_by step.gives;
}

abbrev pub traffics_after : JobStep → Traffics → Traffics
traffics_after step x = record {
  sent = sent_with (traffic_of step) x.sent;
  heard = heard_with (traffic_of step) x.heard;
  taken = taken_with (traffic_of step) x.taken;
  made = made_with (traffic_of step) x.made;
  failed = is_failed_write step.move || x.failed;
  turned = if step.turned then x.turned ++ (x.given ++ given_by step.gives) ∷ [] else x.turned;
  given = if step.turned then [] else x.given ++ given_by step.gives;
}

pub traffics_on : (step : JobStep) (steps : List JobStep) → traffics_of (step ∷ steps) ≡ traffics_after step (traffics_of steps)
unfolding bytes_sent bytes_heard bytes_taken connections_made
traffics_on step steps = refl

pub no_traffics : traffics_of [] ≡ record { sent = []; heard = []; taken = []; made = 0; failed = false; turned = []; given = [] }
unfolding bytes_sent bytes_heard bytes_taken connections_made
no_traffics = refl

pub only_sent : traffics_of [] ≡ record { sent = (traffics_of []).sent; heard = []; taken = []; made = 0; failed = (traffics_of []).failed; turned = []; given = [] }
unfolding bytes_sent bytes_heard bytes_taken connections_made
only_sent = refl

pub own_journal : (i : ℕ) (step : JobStep) (past : List (JointAction JobStep)) → job_journal i (OfJob i step ∷ past) ≡ step ∷ job_journal i past
unfolding job_journal
own_journal i step past = ap (λ (b : Bool). cond b (step ∷ job_journal i past) (job_journal i past)) (eq-eqb i i refl)

pub passes_refuses : (k : ℕ) (port : Option ℕ) (trace : Option ConnectionTrace) (past : List LoopAction) → passed_of (Refuses port trace ∷ past) k ≡ passed_of past k
passes_refuses k port trace past = passes_off k (Refuses port trace) past (life_off k (Refuses port trace) past refl) refl refl
