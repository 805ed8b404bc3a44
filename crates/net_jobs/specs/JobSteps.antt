-- What the loop of a job does, step by step: a move, and the bytes of the job's files that go out behind it.
use Rattle.std.specs.Prelude.{ℕ, ◌≡◌, ◌⊎◌, ◌||◌, if◌then◌else◌, Bool, true, false, List, [], ◌∷◌, ◌++◌}
use Rattle.frame_join.specs.FrameHistory.{JoinHistory}
use Rattle.client_replies.specs.ProtocolStates.{is_batch, is_ended, scans, turns}
use Rattle.net_client.specs.ClientStates.{ClientState, HasEarlyReply}
use Rattle.net_jobs.specs.JobJournal.{AreGives, GivesFileBytes, HearsPiece, IsPiece, JobMove, MoveLeads, MovesLead}
use Rattle.net_jobs.specs.JobJournal.{TakesPiece, given_by, has_write_failed}
use Rattle.net_jobs.specs.Outputs.{texts_of}
use Rattle.net_jobs.specs.JobJournal.JobMove.{Fails, Hears, Resumes, Takes, Gives}

-- **step (`JobStep`, `StepLeads`, `StepsLead`, `MovesAreSteps`)**: a move of a job, the bytes of its file that go out
-- behind it, and whether the file is a page's that ends so. It says what a step, or steps one after another, make of a
-- client, with nothing behind a write that failed. The file goes out behind a piece of 1 to 4,096 bytes (`IsPiece`),
-- and when what came before its request was written is looked at again. It goes out until the client gives no bytes
-- (`FileRunsOut`, `FileGoesOn`), or, of a batch, to the last bytes of a page, with which the client turns to its next
-- one (`PageEnds`). It goes out behind no other move, and a job that has ended gives none. Then the files that went
-- out: those of the pages that were turned (`files_by_steps`) and the one under way (`given_by_steps`), and of which
-- pages they are (`StepsGive`); moves that **stop within** the last that came, since an output failed
-- (`MovesStopWithin`); the moves of steps (`moves_of`).
pub record JobStep : Type 0 where
  pub move : JobMove
  pub gives : List JobMove
  pub turned : Bool

-- ---- what a step makes of the client

-- bytes of the file go out until the client gives none
pub record FileRunsOut (old : ClientState) (gives : List JobMove) (new : ClientState) : Type 0 where
  pub are : AreGives gives
  pub leads : MovesLead old gives new
  pub before : List JobMove
  pub dry : gives ≡ Gives [] ∷ before

-- so they do of a client that has no whole page to turn
pub record FileGoesOn (old : ClientState) (gives : List JobMove) (new : ClientState) : Type 0 where
  pub still : turns old.outcome old.progress ≡ false
  pub runs_out : FileRunsOut old gives new

-- the last bytes of a page's file go out, and with them the client turns to its next page
pub record PageEnds (old : ClientState) (gives : List JobMove) (new : ClientState) : Type 0 where
  pub begins : turns old.outcome old.progress ≡ true
  pub before : List JobMove
  pub bytes : List ℕ
  pub gives_are : gives ≡ Gives bytes ∷ before
  pub are : AreGives before
  pub mid : ClientState
  pub leads : MovesLead old before mid
  pub turning : turns mid.outcome mid.progress ≡ true
  pub last : GivesFileBytes mid bytes new
  pub turned : turns new.outcome new.progress ≡ false

abbrev pub GivesNone : ClientState → List JobMove → ClientState → Type 0
GivesNone old gives new = (gives ≡ []) × (new ≡ old)

-- a job that scans nothing has no file, and one that has ended gives no more of it
abbrev pub GivesOut : Bool → Bool → ClientState → List JobMove → ClientState → Type 0
GivesOut true true old gives new = PageEnds old gives new
GivesOut true false old gives new = FileGoesOn old gives new ⊎ ((is_ended old.outcome ≡ true) × GivesNone old gives new)
GivesOut false turned old gives new = (turned ≡ false) × GivesNone old gives new

-- only a batch has a next page
abbrev pub TurnsForBatch : ClientState → JobStep → Type 0
TurnsForBatch old step = step.turned ≡ true → is_batch old.target.task ≡ true

-- a piece comes, and then bytes of the file go out
pub record HearsAndGives (old : ClientState) (piece : List ℕ) (step : JobStep) (new : ClientState) : Type 0 where
  pub is_piece : IsPiece piece
  pub heard : ClientState
  pub hears : HearsPiece old piece heard
  pub gives_out : GivesOut (scans old.target.task) step.turned heard step.gives new
  pub batch : TurnsForBatch old step

pub record TakesAndGives (old : ClientState) (piece : List ℕ) (step : JobStep) (new : ClientState) : Type 0 where
  pub is_piece : IsPiece piece
  pub taken : ClientState
  pub takes : TakesPiece old piece taken
  pub gives_out : GivesOut (scans old.target.task) step.turned taken step.gives new
  pub batch : TurnsForBatch old step

-- so they do where a reply came before its request was written
pub record ResumesAndGives (old : ClientState) (step : JobStep) (new : ClientState) : Type 0 where
  pub early : HasEarlyReply old
  pub heard : ClientState
  pub hears : HearsPiece old [] heard
  pub gives_out : GivesOut (scans old.target.task) step.turned heard step.gives new
  pub batch : TurnsForBatch old step

-- bytes of the file go out behind no other move
abbrev pub MoveAndGives : ClientState → JobMove → JobStep → ClientState → Type 0
MoveAndGives old (Hears piece) step new = HearsAndGives old piece step new
MoveAndGives old (Takes piece) step new = TakesAndGives old piece step new
MoveAndGives old Resumes step new = ResumesAndGives old step new
MoveAndGives old (Gives bytes) step new = ⊥
MoveAndGives old move step new = (step.gives ≡ []) × (step.turned ≡ false) × MoveLeads old move new

abbrev pub StepLeads : ClientState → JobStep → ClientState → Type 0
StepLeads old step new = MoveAndGives old step.move step new

abbrev pub is_failed_write : JobMove → Bool
is_failed_write (Fails bytes) = true
is_failed_write move = false

-- a write to the control connection has failed
abbrev pub has_failed : List JobStep → Bool
has_failed [] = false
has_failed (step ∷ steps) = is_failed_write step.move || has_failed steps

-- steps one after another, the newest first; nothing is done behind a write that failed
abbrev pub StepsLead : ClientState → List JobStep → ClientState → Type 0
StepsLead first [] last = last ≡ first
StepsLead first (step ∷ steps) last = (mid : ClientState) × StepsLead first steps mid × (has_failed steps ≡ false)
    × StepLeads mid step last

-- the bytes that went out of the file under way
abbrev pub given_by_steps : List JobStep → List ℕ
given_by_steps [] = []
given_by_steps (step ∷ steps) = if step.turned then [] else given_by_steps steps ++ given_by step.gives

-- the files of the pages that were turned, in their order
abbrev pub files_by_steps : List JobStep → List (List ℕ)
files_by_steps [] = []
files_by_steps (step ∷ steps) =
    if step.turned then files_by_steps steps ++ (given_by_steps steps ++ given_by step.gives) ∷ []
    else files_by_steps steps

-- the files of these pages, and the bytes of the one under way
pub record StepsGive (steps : List JobStep) (pages : List JoinHistory) (text : List ℕ) : Type 0 where
  pub turned : texts_of pages ≡ files_by_steps steps
  pub under_way : text ≡ given_by_steps steps

-- ---- the moves of steps

-- one by which a piece comes, or what came too soon
abbrev pub IsDelivery : JobMove → Type 0
IsDelivery (Hears piece) = Unit {0}
IsDelivery (Takes piece) = Unit {0}
IsDelivery Resumes = Unit {0}
IsDelivery move = ⊥

abbrev pub moves_of : List JobStep → List JobMove
moves_of [] = []
moves_of (step ∷ steps) = step.gives ++ step.move ∷ moves_of steps

-- the moves are those of steps one after another
pub record MovesAreSteps (first : ClientState) (moves : List JobMove) (last : ClientState) : Type 0 where
  pub steps : List JobStep
  pub moves_are : moves ≡ moves_of steps
  pub lead : StepsLead first steps last

-- they are up to the last thing that came: of its file not all that was given of it went out, and nothing more was done
pub record MovesStopWithin (first : ClientState) (moves : List JobMove) (last : ClientState) : Type 0 where
  pub before : List JobMove
  pub mid : ClientState
  pub steps : MovesAreSteps first before mid
  pub up : has_write_failed before ≡ false
  pub move : JobMove
  pub came : ClientState
  pub comes : MoveLeads mid move came
  pub delivers : IsDelivery move
  pub gives : List JobMove
  pub are : AreGives gives
  pub gives_lead : MovesLead came gives last
  pub moves_are : moves ≡ gives ++ move ∷ before
