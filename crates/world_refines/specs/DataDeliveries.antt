-- What a delivery of a frame's data to its client does to what stands.
use Rattle.std.specs.Prelude.{ℕ, ◌≡◌, ◌⊎◌, ◌++◌, Option, Some, None, List, [], ◌∷◌}
use Rattle.sane_fixed.specs.declared.status.Status.{Status}
use Rattle.sane_fixed.specs.Status.{status_code}
use Rattle.data_records.specs.declared.records.RecordPhase.{RecordPhase}
use Rattle.data_records.specs.declared.records.RecordPhase.TheVariants as phases
use Rattle.data_records.specs.Records.{CarriesRecords}
use Rattle.frame_join.specs.FrameHistory.{JoinHistory}
use Rattle.system_model.specs.Client.{requests_sent}
use Rattle.system_model.specs.Actions as actions
use Rattle.system_model.specs.Transitions.{Transition, By, IsHistory, IsUnderWay}
use Rattle.client_refines.specs.PieceRefinement.{RecordsBring}
use Rattle.event_world.specs.JobEvents.{bytes_not_delivered, delivered_bytes}
use Rattle.world_refines.specs.GhostStates.{Ghost, Wires, job_state, ghost_after, wires}
use Rattle.world_refines.specs.Wires.{CarriesFlight, SpellsAsked}

-- ---- what a job makes of a piece of its frame's records

-- these come to one job, one behind the other
abbrev pub by_all : ℕ → List actions.Action → List Transition
by_all i [] = []
by_all i (action ∷ more) = By i action ∷ by_all i more

-- bytes of the frame are read, where there are any
abbrev pub read_actions : List ℕ → List actions.Action
read_actions [] = []
read_actions (b ∷ bytes) = actions.Reads (b ∷ bytes) ∷ []

-- the bytes that the piece carries are read
pub record ReadsBytes (phase : RecordPhase) (piece : List ℕ) (steps : List actions.Action)
    (sent : List ℕ) : Type 0 where
  pub given : List ℕ
  pub new : RecordPhase
  pub carries : CarriesRecords phase new piece given
  pub steps_are : steps ≡ read_actions given
  pub silent : sent ≡ []

-- the end of the frame comes behind them, and what the job asks for then goes out
pub record GhostReadsEnd (phase : RecordPhase) (piece : List ℕ) (steps : List actions.Action) (t : Ghost) (i : ℕ)
    (u : Ghost) (sent : List ℕ) : Type 0 where
  pub given : List ℕ
  pub code : Status
  pub brings : RecordsBring phase (phases.Ended (status_code code)) piece given
  pub steps_are : steps ≡ read_actions given ++ actions.Finishes code ∷ []
  pub spells
      : SpellsAsked (t.jobs i) (job_state u i).client
      (requests_sent (job_state t i).session.job.task (job_state u i).client.stage) sent

-- there is no memory behind a front of them
pub record ReadsShort (phase : RecordPhase) (piece : List ℕ) (steps : List actions.Action)
    (sent : List ℕ) : Type 0 where
  pub given : List ℕ
  pub more : List ℕ
  pub new : RecordPhase
  pub brings : RecordsBring phase new piece (given ++ more)
  pub steps_are : steps ≡ read_actions given ++ actions.RunsOutOfMemory ∷ []
  pub silent : sent ≡ []

-- by the records on the way, from where they are read
pub record GhostReadsOn (t : Ghost) (i : ℕ) (text piece : List ℕ) (steps : List actions.Action) (u : Ghost)
    (sent : List ℕ) : Type 0 where
  pub phase : RecordPhase
  pub carried : CarriesFlight phase text (job_state t i).session.flight (job_state t i).session.ending
  pub comes : ReadsBytes phase piece steps sent
      ⊎ (GhostReadsEnd phase piece steps t i u sent ⊎ ReadsShort phase piece steps sent)

-- ---- the event

-- behind its end the data connection is no more
abbrev pub open_still : Option Status → List ℕ → Option (List ℕ)
open_still None bytes = Some bytes
open_still (Some status) [] = None
open_still (Some status) (b ∷ bytes) = Some (b ∷ bytes)

abbrev pub wires_after_data : ℕ → List ℕ → List ℕ → Option Status → Wires → Wires
wires_after_data n text sent ending x =
    record x { up = x.up ++ sent; image = open_still ending (bytes_not_delivered n text) }

-- **a delivery of a frame's data (`GhostSees`, `GhostReadsOn`, `ReadsBytes`, `GhostReadsEnd`, `ReadsShort`)**: just the
-- bytes of the piece's records are read. Behind the frame's end the job's next requests are on the way, and the data
-- connection is gone. Or there is no memory behind a front of them. From a job that is over the piece is only taken.
--
-- A job that is under way reads the piece; from any other it is only taken. What the joins were told and gave goes on
-- by that.
pub record GhostSees (n : ℕ) (t : Ghost) (i : ℕ) (steps : List Transition) (u : Ghost) : Type 0 where
  pub text : List ℕ
  pub image_is : (wires t i).image ≡ Some text
  pub come : List actions.Action
  pub steps_are : steps ≡ by_all i come
  pub legal : IsHistory t.system steps
  pub sent : List ℕ
  pub history : JoinHistory
  pub pages : List JoinHistory
  pub then_is : u
      ≡ ghost_after t i steps (wires_after_data n text sent (job_state t i).session.ending (wires t i)) history pages
  pub reads_on : IsUnderWay (job_state t i).client.stage → GhostReadsOn t i text (delivered_bytes n text) come u sent
  pub ignores : (IsUnderWay (job_state t i).client.stage → ⊥)
      → (come ≡ []) × (sent ≡ []) × (history ≡ t.history i) × (pages ≡ t.pages i)
