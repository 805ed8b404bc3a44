-- What a delivery to the client of a job does to what stands.
use Rattle.std.specs.Prelude.{ℕ, ◌≡◌, ◌≢◌, ◌⊎◌, ◌++◌, Bool, true, false, List, [], ◌∷◌}
use Rattle.wire_format.specs.Limit.{limited_format}
use Rattle.wire_message.specs.declared.message.Procedure.TheVariants as procedures
use Rattle.wire_message.specs.declared.message.Reply.TheVariants as replies
use Rattle.wire_message.specs.Message.{message_limit, reply}
use Rattle.frame_join.specs.FrameHistory.{JoinHistory}
use Rattle.system_model.specs.AbstractMessages.{Challenge, AbstractReply}
use Rattle.system_model.specs.Client.{Allowing, ClientView, Running, JobStage, requests_sent}
use Rattle.system_model.specs.ClientReplies.{hear_in}
use Rattle.system_model.specs.Actions as actions
use Rattle.system_model.specs.Transitions.{By, IsHistory, IsUnderWay, Transition}
use Rattle.event_world.specs.JobEvents.{bytes_not_delivered, delivered_bytes}
use Rattle.world_refines.specs.GhostStates.{Ghost, Wires, job_state, ghost_after, wires}
use Rattle.world_refines.specs.Wires.{SpellsAsked}
use Rattle.world_refines.specs.GhostEvents.{GhostTakes}

-- ---- the bytes

-- what came of a request to a session that is over goes with the last of its replies
abbrev pub asking_left : Bool → List ℕ → List ℕ → List ℕ
asking_left true down asking = asking
asking_left false [] asking = []
asking_left false (b ∷ down) asking = asking

-- so many are taken off the replies; what waits at the client then, and what it writes
abbrev pub wires_after_delivery : Bool → ℕ → List ℕ → List ℕ → Wires → Wires
wires_after_delivery served n telling text x =
    record x {
      up = x.up ++ text;
      asking = asking_left served (bytes_not_delivered n x.down) x.asking;
      down =
          bytes_not_delivered n x.down;
      telling = telling;
    }

-- all of the reply that is due has come with them, or more of it is to come
abbrev pub IsWhollyDelivered : Ghost → ℕ → ℕ → Type 0
IsWhollyDelivered t i n = bytes_not_delivered n (wires t i).down ≡ []

abbrev pub IsPartlyDelivered : Ghost → ℕ → ℕ → Type 0
IsPartlyDelivered t i n = bytes_not_delivered n (wires t i).down ≢ []

-- ---- a job that is under way

-- more of the file may be given; no frame ends
pub record HistoryExtends (old new : JoinHistory) : Type 0 where
  pub ended : new.ended ≡ old.ended
  pub more : List ℕ
  pub given : new.given ≡ old.given ++ more

-- it takes these steps, and then the bytes of its connections are so
pub record Delivers (t : Ghost) (i n : ℕ) (telling text : List ℕ) (steps : List Transition) (u : Ghost) : Type 0 where
  pub legal : IsHistory t.system steps
  pub history : JoinHistory
  pub goes_on : HistoryExtends (t.history i) history
  pub then_is : u
      ≡ ghost_after t i steps (wires_after_delivery (job_state t i).served n telling text (wires t i)) history
      (t.pages i)

-- AUTHORIZE is answered with a word before the device's reply, of which the model knows nothing
abbrev pub IsBefore : JobStage → List ℕ → Type 0
IsBefore stage front = (front ≡ [])
    ⊎ ((challenge : Challenge) × (stage ≡ Running (Allowing challenge))
    × (limited_format message_limit (reply procedures.Authorize)).spells front replies.Authorize)

-- what came of the reply waits until all of it has come
pub record ReplyWaits (t : Ghost) (i n : ℕ) (steps : List Transition) (u : Ghost) : Type 0 where
  pub part : IsPartlyDelivered t i n
  pub front : List ℕ
  pub telling : List ℕ
  pub came : (wires t i).telling ++ delivered_bytes n (wires t i).down ≡ front ++ telling
  pub before : IsBefore (job_state t i).client.stage front
  pub steps_are : steps ≡ []
  pub delivers : Delivers t i n telling [] steps u

-- the client hears the reply that is due, and writes what it asks for then
pub record GhostHearsReply (t : Ghost) (i n : ℕ) (r : AbstractReply) (m : ClientView) (text : List ℕ) : Type 0 where
  pub whole : IsWhollyDelivered t i n
  pub due : (job_state t i).due ≡ r ∷ []
  pub client : m ≡ hear_in (job_state t i).client.stage (job_state t i).session.job (job_state t i).client r
  pub spells : SpellsAsked (t.jobs i) m (requests_sent (job_state t i).session.job.task m.stage) text

pub record GhostHeard (t : Ghost) (i n : ℕ) (steps : List Transition) (u : Ghost) : Type 0 where
  pub reply : AbstractReply
  pub client : ClientView
  pub text : List ℕ
  pub hears : GhostHearsReply t i n reply client text
  pub steps_are : steps ≡ By i (actions.Hears reply) ∷ []
  pub delivers : Delivers t i n [] text steps u

-- there is no memory for what came, or, behind the reply, to go on; whatever waits at the client then, it hears it no
-- more
pub record GhostOutOfMemory (t : Ghost) (i n : ℕ) (steps : List Transition) (u : Ghost) : Type 0 where
  pub telling : List ℕ
  pub steps_are : steps ≡ By i actions.RunsOutOfMemory ∷ []
  pub delivers : Delivers t i n telling [] steps u

pub record GhostHeardOutOfMemory (t : Ghost) (i n : ℕ) (steps : List Transition) (u : Ghost) : Type 0 where
  pub reply : AbstractReply
  pub client : ClientView
  pub text : List ℕ
  pub hears : GhostHearsReply t i n reply client text
  pub telling : List ℕ
  pub steps_are : steps ≡ By i (actions.Hears reply) ∷ By i actions.RunsOutOfMemory ∷ []
  pub delivers : Delivers t i n telling text steps u

-- ---- what it does

-- a job that is over lets it go by
pub record Ignores (t : Ghost) (i n : ℕ) (steps : List Transition) (u : Ghost) : Type 0 where
  pub over : IsUnderWay (job_state t i).client.stage → ⊥
  pub steps_are : steps ≡ []
  pub takes : GhostTakes t i steps (wires_after_delivery (job_state t i).served n (wires t i).telling [] (wires t i)) u

-- **a delivery to the client (`GhostHears`, `Ignores`, `ReplyWaits`, `GhostHeard`, `GhostOutOfMemory`,
-- `GhostHeardOutOfMemory`)**: bytes of the reply that is due are moved to the client. While more of it is on the way
-- they wait there. With the last of them the client hears it, and its next requests are on the way; or there is no
-- memory, and the job ends. A job that is over lets them go by. With a session that is over its last replies leave
-- nothing. More of the file may be given with it.
abbrev pub GhostHears : ℕ → Ghost → ℕ → List Transition → Ghost → Type 0
GhostHears n t i steps u = Ignores t i n steps u
    ⊎ (IsUnderWay (job_state t i).client.stage
    × (ReplyWaits t i n steps u
    ⊎ (GhostHeard t i n steps u ⊎ (GhostOutOfMemory t i n steps u ⊎ GhostHeardOutOfMemory t i n steps u))))
