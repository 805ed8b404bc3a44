-- The moves of a job's loop are steps: behind what comes the job's file goes out.
use Rattle.std.specs.Prelude.{◌||◌, if◌then◌else◌}
use Rattle.std.proofs.Common.{◌≡◌, ◌∙◌, ◌⊎◌, inl, inr, ℕ, Bool, true, false, List, [], ◌∷◌, ◌++◌, refl, sym, ap, subst}
use Rattle.std.proofs.lemmas.List.{append-nil}
use Rattle.sane_fixed.specs.declared.status.Status.TheVariants as statuses
use Rattle.scan_job.specs.declared.job.Task.{Task}
use Rattle.scan_job.specs.declared.outcome.Outcome.{Outcome}
use Rattle.scan_job.specs.declared.outcome.Outcome.TheVariants.{Running, Done, Ended}
use Rattle.scan_job.specs.declared.outcome.Why.TheVariants as whys
use Rattle.scan_job.specs.declared.report.Reports.{Reports}
use Rattle.client_replies.specs.declared.progress.Link.{Link}
use Rattle.client_replies.specs.declared.progress.Link.TheVariants as links
use Rattle.client_replies.specs.ProtocolStates.{is_batch, is_ended, is_lost_by, is_running, scans}
use Rattle.net_client.specs.ClientStates.{ClientState, after_client_end}
use Rattle.frame_join.specs.FrameHistory.{JoinHistory}
use Rattle.net_jobs.specs.JobJournal.{AreGives, JobMove, MoveLeads, MovesLead, after_loss, given_by, has_write_failed}
use Rattle.net_jobs.specs.JobJournal.JobMove.{Writes, Fails, Hears, Resumes, Prepares, Dials, Takes, Gives, Loses}
use Rattle.net_jobs.specs.JobSteps.{IsDelivery, MoveAndGives, MovesAreSteps, MovesStopWithin, GivesOut, JobStep, StepLeads, StepsGive, StepsLead, files_by_steps, given_by_steps, has_failed, is_failed_write, moves_of}
use Rattle.net_jobs.specs.Outputs.{texts_of}
use Rattle.net_jobs.specs.Inside.{IsQuiet}
use Rattle.net_jobs.proofs.Giving.{failed_on_gives}
use Rattle.net_jobs.proofs.InvariantRecords.{GivenFiles, more_given, no_files_given, turned_given}

-- ---- no write failed

gives_of : (b turned : Bool) (old : ClientState) (gives : List JobMove) (new : ClientState) → GivesOut b turned old gives new → AreGives gives
gives_of true true old gives new out = subst AreGives (sym out.gives_are) out.are
gives_of true false old gives new (inl out) = out.runs_out.are
gives_of true false old gives new (inr none) = subst AreGives (sym none.1.0) tt
gives_of false turned old gives new none = subst AreGives (sym none.1.0) tt

gives_are : (old : ClientState) (move : JobMove) (step : JobStep) (new : ClientState) → MoveAndGives old move step new → AreGives step.gives
gives_are old (Hears piece) step new s = gives_of (scans old.target.task) step.turned s.heard step.gives new s.gives_out
gives_are old (Takes piece) step new s = gives_of (scans old.target.task) step.turned s.taken step.gives new s.gives_out
gives_are old Resumes step new s = gives_of (scans old.target.task) step.turned s.heard step.gives new s.gives_out
gives_are old (Gives bytes) step new s = absurd s
gives_are old (Writes bytes) step new s = subst AreGives (sym s.0) tt
gives_are old (Fails bytes) step new s = subst AreGives (sym s.0) tt
gives_are old (Prepares port) step new s = subst AreGives (sym s.0) tt
gives_are old (Dials port made) step new s = subst AreGives (sym s.0) tt
gives_are old (Loses link reason) step new s = subst AreGives (sym s.0) tt

failed_with : (move : JobMove) (moves : List JobMove) → has_write_failed (move ∷ moves) ≡ (is_failed_write move || has_write_failed moves)
failed_with (Writes bytes) moves = refl
failed_with (Fails bytes) moves = refl
failed_with (Hears piece) moves = refl
failed_with Resumes moves = refl
failed_with (Prepares port) moves = refl
failed_with (Dials port made) moves = refl
failed_with (Takes piece) moves = refl
failed_with (Gives bytes) moves = refl
failed_with (Loses link reason) moves = refl

failed_alike : (first : ClientState) (steps : List JobStep) (last : ClientState) → StepsLead first steps last → has_write_failed (moves_of steps) ≡ has_failed steps
failed_alike first [] last l = refl
failed_alike first (step ∷ steps) last l =
    failed_on_gives step.gives (step.move ∷ moves_of steps) (gives_are l.0 step.move step last l.3) ∙ failed_with step.move (moves_of steps) ∙ ap (λ (b : Bool). is_failed_write step.move || b) (failed_alike first steps l.0 l.1)

none_failed : (first : ClientState) (moves : List JobMove) (last : ClientState) → has_write_failed moves ≡ false → (s : MovesAreSteps first moves last) → has_failed s.steps ≡ false
none_failed first moves last up s = sym (failed_alike first s.steps last s.lead) ∙ sym (ap has_write_failed s.moves_are) ∙ up

-- ---- steps so far, and the files that went out by them

pub record StepsSoFar (first : ClientState) (moves : List JobMove) (last : ClientState) (given : GivenFiles) : Type 0 where
  pub steps : MovesAreSteps first moves last
  pub give : StepsGive steps.steps given.pages given.bytes

pub steps_begin : (first : ClientState) → StepsSoFar first [] first no_files_given
steps_begin first = record { steps = record { steps = []; moves_are = refl; lead = refl }; give = record { turned = refl; under_way = refl } }

-- ---- a move by which nothing comes

abbrev alone : JobMove → JobStep
alone move = record { move = move; gives = []; turned = false }

quiet_leads : (old : ClientState) (move : JobMove) (new : ClientState) → IsQuiet move → MoveLeads old move new → StepLeads old (alone move) new
quiet_leads old (Writes bytes) new is m = (refl, refl, m)
quiet_leads old (Fails bytes) new is m = (refl, refl, m)
quiet_leads old (Prepares port) new is m = (refl, refl, m)
quiet_leads old (Dials port true) new is m = (refl, refl, m)
quiet_leads old (Dials port false) new is m = (refl, refl, m)
quiet_leads old (Loses link reason) new is m = (refl, refl, m)
quiet_leads old (Hears piece) new is m = absurd is
quiet_leads old (Takes piece) new is m = absurd is
quiet_leads old (Gives bytes) new is m = absurd is
quiet_leads old Resumes new is m = absurd is

pub steps_quiet : (first : ClientState) (moves : List JobMove) (was : ClientState) (move : JobMove) (now : ClientState) (given : GivenFiles) → StepsSoFar first moves was given → has_write_failed moves ≡ false → IsQuiet move → MoveLeads was move now → StepsSoFar first (move ∷ moves) now given
steps_quiet first moves was move now given s up is m = record {
  steps = record {
    steps = alone move ∷ s.steps.steps;
    moves_are = ap (λ (l : List JobMove). move ∷ l) s.steps.moves_are;
    lead = (was, s.steps.lead, none_failed first moves was up s.steps, quiet_leads was move now is m);
  };
  give = record { turned = s.give.turned; under_way = s.give.under_way ∙ sym (append-nil (given_by_steps s.steps.steps)) };
}

-- ---- what comes, and the bytes of the file behind it

-- something came, and the bytes of the file that it brought are still to go out
pub record LastDelivers (task : Task) (first : ClientState) (moves : List JobMove) (last : ClientState) (given : GivenFiles) : Type 0 where
  pub before : List JobMove
  pub move : JobMove
  pub mid : ClientState
  pub moves_are : moves ≡ move ∷ before
  pub steps : StepsSoFar first before mid given
  pub up : has_write_failed before ≡ false
  pub delivers : IsDelivery move
  pub leads : MoveLeads mid move last
  pub task_is : mid.target.task ≡ task

delivery_leads : (old : ClientState) (move : JobMove) (mid : ClientState) (gives : List JobMove) (turned : Bool) (new : ClientState) (b : Bool) → scans old.target.task ≡ b → (turned ≡ true → is_batch old.target.task ≡ true) → IsDelivery move → MoveLeads old move mid → GivesOut b turned mid gives new
    → StepLeads old (record { move = move; gives = gives; turned = turned }) new
delivery_leads old (Hears piece) mid gives turned new b e batch is m out = record { is_piece = m.1; heard = mid; hears = m.0; gives_out = subst (λ (x : Bool). GivesOut x turned mid gives new) (sym e) out; batch = batch }
delivery_leads old (Takes piece) mid gives turned new b e batch is m out = record { is_piece = m.1; taken = mid; takes = m.0; gives_out = subst (λ (x : Bool). GivesOut x turned mid gives new) (sym e) out; batch = batch }
delivery_leads old Resumes mid gives turned new b e batch is m out = record { early = m.1; heard = mid; hears = m.0; gives_out = subst (λ (x : Bool). GivesOut x turned mid gives new) (sym e) out; batch = batch }
delivery_leads old (Writes bytes) mid gives turned new b e batch is m out = absurd is
delivery_leads old (Fails bytes) mid gives turned new b e batch is m out = absurd is
delivery_leads old (Prepares port) mid gives turned new b e batch is m out = absurd is
delivery_leads old (Dials port made) mid gives turned new b e batch is m out = absurd is
delivery_leads old (Gives bytes) mid gives turned new b e batch is m out = absurd is
delivery_leads old (Loses link reason) mid gives turned new b e batch is m out = absurd is

steps_on : (task : Task) (first : ClientState) (moves : List JobMove) (last : ClientState) (given : GivenFiles) (gives : List JobMove) (turned : Bool) (now : ClientState) (b : Bool) → scans task ≡ b → (turned ≡ true → is_batch task ≡ true) → (d : LastDelivers task first moves last given) → GivesOut b turned last gives now → MovesAreSteps first (gives ++ moves) now
steps_on task first moves last given gives turned now b e batch d out = record {
  steps = record { move = d.move; gives = gives; turned = turned } ∷ d.steps.steps.steps;
  moves_are = ap (λ (l : List JobMove). gives ++ l) (d.moves_are ∙ ap (λ (l : List JobMove). d.move ∷ l) d.steps.steps.moves_are);
  lead = (d.mid, d.steps.steps.lead, none_failed first d.before d.mid d.up d.steps.steps, delivery_leads d.mid d.move last gives turned now b (ap scans d.task_is ∙ e) (λ on. ap is_batch d.task_is ∙ batch on) d.delivers d.leads out);
}

-- they go out, and the client goes on with its file
pub steps_given : (task : Task) (first : ClientState) (moves : List JobMove) (last : ClientState) (given : GivenFiles) (gives : List JobMove) (now : ClientState) (b : Bool) → scans task ≡ b → LastDelivers task first moves last given → GivesOut b false last gives now
    → StepsSoFar first (gives ++ moves) now (more_given given (given_by gives))
unfolding steps_on
steps_given task first moves last given gives now b e d out = record {
  steps = steps_on task first moves last given gives false now b e (λ on. absurd (let wrong : false ≡ true = on in cc)) d out;
  give = record { turned = d.steps.give.turned; under_way = ap (λ (l : List ℕ). l ++ given_by gives) d.steps.give.under_way };
}

-- none go out
pub steps_still : (task : Task) (first : ClientState) (moves : List JobMove) (last : ClientState) (given : GivenFiles) (b : Bool) → scans task ≡ b → LastDelivers task first moves last given → GivesOut b false last [] last → StepsSoFar first moves last given
unfolding steps_on
steps_still task first moves last given b e d out = record {
  steps = steps_on task first moves last given [] false last b e (λ on. absurd (let wrong : false ≡ true = on in cc)) d out;
  give = record { turned = d.steps.give.turned; under_way = d.steps.give.under_way ∙ sym (append-nil (given_by_steps d.steps.steps.steps)) };
}

texts_more : (pages : List JoinHistory) (page : JoinHistory) → texts_of (pages ++ page ∷ []) ≡ texts_of pages ++ page.given ∷ []
texts_more [] page = refl
texts_more (other ∷ pages) page = ap (λ (l : List (List ℕ)). other.given ∷ l) (texts_more pages page)

-- they were a page's last
pub steps_turned : (task : Task) (first : ClientState) (moves : List JobMove) (last : ClientState) (given : GivenFiles) (page : JoinHistory) (gives : List JobMove) (now : ClientState) → scans task ≡ true → is_batch task ≡ true → page.given ≡ given.bytes ++ given_by gives
    → LastDelivers task first moves last given → GivesOut true true last gives now → StepsSoFar first (gives ++ moves) now (turned_given given page)
unfolding steps_on
steps_turned task first moves last given page gives now e batch is d out = record {
  steps = steps_on task first moves last given gives true now true e (λ on. batch) d out;
  give = record {
    turned = texts_more given.pages page ∙ ap (λ (l : List (List ℕ)). l ++ page.given ∷ []) d.steps.give.turned
        ∙ ap (λ (t : List ℕ). files_by_steps d.steps.steps.steps ++ t ∷ []) (is ∙ ap (λ (l : List ℕ). l ++ given_by gives) d.steps.give.under_way);
    under_way = refl;
  };
}

ended_gives : (b : Bool) (c : ClientState) → is_ended c.outcome ≡ true → GivesOut b false c [] c
ended_gives true c e = inr (e, (refl, refl))
ended_gives false c e = (refl, (refl, refl))

-- a job that has ended gives nothing more
pub steps_ended : (task : Task) (first : ClientState) (moves : List JobMove) (last : ClientState) (given : GivenFiles) → is_ended last.outcome ≡ true → LastDelivers task first moves last given → StepsSoFar first moves last given
steps_ended task first moves last given e d = steps_still task first moves last given (scans task) refl d (ended_gives (scans task) last e)

-- ---- between two turns

abbrev pub NotDone : Outcome → Type 0
NotDone Running = Unit {0}
NotDone (Done reports) = ⊥
NotDone (Ended status why) = Unit {0}

pub running_not_done : (o : Outcome) → is_running o ≡ true → NotDone o
running_not_done Running e = tt
running_not_done (Done reports) e = absurd (let clash : false ≡ true = e in cc)
running_not_done (Ended status why) e = tt

pub ended_not_done : (o : Outcome) (told : Outcome) → o ≡ told → NotDone told → NotDone o
ended_not_done o told e n = subst NotDone (sym e) n

loss_not_done : (b : Bool) (c : ClientState) → NotDone c.outcome → NotDone (if b then after_client_end statuses.IoError whys.Lost c else c).outcome
loss_not_done true c n = tt
loss_not_done false c n = n

lost_not_done : (link : Link) (c new : ClientState) → new ≡ after_loss link c → NotDone c.outcome → NotDone new.outcome
lost_not_done link c new e n = subst (λ (v : ClientState). NotDone v.outcome) (sym e) (loss_not_done (is_lost_by link c.outcome c.progress) c n)

-- no job is done by such a move
pub quiet_not_done : (old : ClientState) (move : JobMove) (new : ClientState) → IsQuiet move → MoveLeads old move new → NotDone old.outcome → NotDone new.outcome
quiet_not_done old (Writes bytes) new is m n = subst (λ (v : ClientState). NotDone v.outcome) (sym m.new_is) n
quiet_not_done old (Fails bytes) new is m n = lost_not_done links.Control (record old { out = new.out }) new m.new_is n
quiet_not_done old (Prepares port) new is m n = subst (λ (v : ClientState). NotDone v.outcome) (sym m.same) n
quiet_not_done old (Dials port true) new is m n = subst (λ (v : ClientState). NotDone v.outcome) (sym m.new_is) n
quiet_not_done old (Dials port false) new is m n = lost_not_done links.Image old new m.new_is n
quiet_not_done old (Loses link reason) new is m n = subst (λ (v : ClientState). NotDone v.outcome) (sym m.new_is) tt
quiet_not_done old (Hears piece) new is m n = absurd is
quiet_not_done old (Takes piece) new is m n = absurd is
quiet_not_done old (Gives bytes) new is m n = absurd is
quiet_not_done old Resumes new is m n = absurd is

-- all that came brought its bytes of the file; or the job is over, and what came last has still to
pub data AreStepsSoFar (task : Task) (first : ClientState) (moves : List JobMove) (last : ClientState) (given : GivenFiles) : Type 0 where
  AllGiven : StepsSoFar first moves last given → NotDone last.outcome → AreStepsSoFar task first moves last given
  ToBeGiven : LastDelivers task first moves last given → is_running last.outcome ≡ false → AreStepsSoFar task first moves last given

pub all_given : (task : Task) (first : ClientState) (moves : List JobMove) (last : ClientState) (given : GivenFiles) → is_running last.outcome ≡ true → AreStepsSoFar task first moves last given → StepsSoFar first moves last given
all_given task first moves last given runs (AllGiven s n) = s
all_given task first moves last given runs (ToBeGiven d over) = absurd (let clash : true ≡ false = sym runs ∙ over in cc)

pub to_be_given : (task : Task) (first : ClientState) (moves : List JobMove) (last : ClientState) (given : GivenFiles) (reports : Reports) → last.outcome ≡ Done reports → AreStepsSoFar task first moves last given → LastDelivers task first moves last given
to_be_given task first moves last given reports done (AllGiven s n) = absurd (subst NotDone done n)
to_be_given task first moves last given reports done (ToBeGiven d over) = d

pub steps_over : (task : Task) (first : ClientState) (moves : List JobMove) (last : ClientState) (given : GivenFiles) → is_ended last.outcome ≡ true → AreStepsSoFar task first moves last given → StepsSoFar first moves last given
steps_over task first moves last given e (AllGiven s n) = s
steps_over task first moves last given e (ToBeGiven d over) = steps_ended task first moves last given e d

abbrev pub StepsBy : Bool → Task → ClientState → List JobMove → ClientState → GivenFiles → Type 0
StepsBy true task first moves last given = StepsSoFar first moves last given
StepsBy false task first moves last given = AreStepsSoFar task first moves last given

-- all moves are steps, where all bytes of the file went out, or no more will
pub steps_at : (whole : Bool) (task : Task) (first : ClientState) (moves : List JobMove) (c : ClientState) (given : GivenFiles) → StepsBy whole task first moves c given → (whole ≡ true) ⊎ (is_ended c.outcome ≡ true) → StepsSoFar first moves c given
steps_at true task first moves c given s either = s
steps_at false task first moves c given s (inl e) = absurd (let clash : false ≡ true = e in cc)
steps_at false task first moves c given s (inr ended) = steps_over task first moves c given ended s

pub same_steps : (a b : ClientState) (moves more : List JobMove) (c d : ClientState) (given : GivenFiles) → b ≡ a → more ≡ moves → d ≡ c → StepsSoFar a moves c given → StepsSoFar b more d given
same_steps a b moves more c d given first all last s =
    subst (λ (v : ClientState). StepsSoFar v more d given) (sym first) (subst (λ (l : List JobMove). StepsSoFar a l d given) (sym all) (subst (λ (v : ClientState). StepsSoFar a moves v given) (sym last) s))

-- ---- a job that stops within what came last

pub stops_within : (task : Task) (first : ClientState) (moves : List JobMove) (last : ClientState) (given : GivenFiles) (gives : List JobMove) (now : ClientState) → AreGives gives → MovesLead last gives now → LastDelivers task first moves last given → MovesStopWithin first (gives ++ moves) now
stops_within task first moves last given gives now are leads d = record {
  before = d.before;
  mid = d.mid;
  steps = d.steps.steps;
  up = d.up;
  move = d.move;
  came = last;
  comes = d.leads;
  delivers = d.delivers;
  gives = gives;
  are = are;
  gives_lead = leads;
  moves_are = ap (λ (l : List JobMove). gives ++ l) d.moves_are;
}

pub same_stop : (a b : ClientState) (moves more : List JobMove) (c d : ClientState) → b ≡ a → more ≡ moves → d ≡ c → MovesStopWithin a moves c → MovesStopWithin b more d
same_stop a b moves more c d first all last s =
    subst (λ (v : ClientState). MovesStopWithin v more d) (sym first) (subst (λ (l : List JobMove). MovesStopWithin a l d) (sym all) (subst (λ (v : ClientState). MovesStopWithin a moves v) (sym last) s))
