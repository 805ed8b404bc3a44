-- What stands of a world, as plain data that contracts alone see: the model's own, and the bytes beside it.
use Rattle.std.specs.Prelude.{ℕ, false, ◌==◌, ◌&&◌, if◌then◌else◌, Bool, Option, Some, None, List, [], ◌∷◌, ◌++◌}
use Rattle.std.specs.Prelude.{length, map, option_map, position, slice_get}
use Rattle.std.specs.List.{list_any}
use Rattle.md5.specs.Md5.{md5}
use Rattle.md5_auth.specs.declared.users.Entry.{Entry}
use Rattle.md5_auth.specs.ChallengeReading.{challenge_of}
use Rattle.sane_fixed.specs.declared.device_info.DeviceInfo.{DeviceInfo}
use Rattle.frame_join.specs.FrameHistory.{JoinHistory}
use Rattle.scan_job.specs.declared.job.Job.{Job}
use Rattle.system_model.specs.AbstractMessages.{same_text}
use Rattle.system_model.specs.Client as model
use Rattle.system_model.specs.SystemStates.{JobState, SystemState, with_entry}
use Rattle.system_model.specs.Transitions.{Transition, after_all}
use Rattle.client_refines.specs.ClientRefinement.{task_of, requested_setting}

-- The bytes of a job's connections: what its client has written and was not delivered, and what came of it to the
-- session behind its last whole request; the replies that were not delivered, and what came of them to the client
-- behind the last whole one; and what is on the way on its data connection, if that stands.
pub record Wires : Type 0 where
  pub up : List ℕ
  pub asking : List ℕ
  pub down : List ℕ
  pub telling : List ℕ
  pub image : Option (List ℕ)

-- **ghost state (`Ghost`, `Wires`)**: the system state of the model; the users, the infos of all places (name, vendor,
-- model, class) and the jobs, which never change; of each job the bytes on its connections, and what its joins were
-- told and gave.
pub record Ghost : Type 0 where
  pub system : SystemState
  pub users : List Entry
  pub infos : List DeviceInfo
  pub count : ℕ
  pub jobs : ℕ → Job
  pub wires : ℕ → Wires
  -- what the join of a job was told and gave of the page under way, and of the pages before it
  pub history : ℕ → JoinHistory
  pub pages : ℕ → List JoinHistory

-- ---- a job by the model

-- the name of a place
abbrev pub name_at : List DeviceInfo → ℕ → Option (List ℕ)
name_at infos k = option_map (λ (info : DeviceInfo). info.name) (slice_get infos k)

-- the same name, vendor, model and class
abbrev pub same_info : DeviceInfo → DeviceInfo → Bool
same_info a b =
    (same_text a.name b.name && same_text a.vendor b.vendor) && (same_text a.model b.model && same_text a.class b.class)

-- the place of a name, and of an info; what no place has is read as the place behind all
abbrev pub place_or_length : ℕ → Option ℕ → ℕ
place_or_length n None = n
place_or_length n (Some k) = k

abbrev pub place_named : List DeviceInfo → List ℕ → ℕ
place_named infos name =
    place_or_length (length infos) (position (λ (other : DeviceInfo). same_text other.name name) infos)

abbrev pub place_of_info : List DeviceInfo → DeviceInfo → ℕ
place_of_info infos info =
    place_or_length (length infos) (position (λ (other : DeviceInfo). same_info other info) infos)

-- what stands before the first colon of a device's name, or the name where it has none
abbrev pub backend_of : List ℕ → List ℕ
backend_of [] = []
backend_of (c ∷ name) = if c == 58 then [] else c ∷ backend_of name

-- some line of the users names the backend
abbrev pub is_guarded : List Entry → List ℕ → Bool
is_guarded users backend = list_any (λ (entry : Entry). same_text entry.backend backend) users

-- some line of that user and backend has a password that gives the same digest behind the challenge
abbrev pub is_allowed : List Entry → List ℕ → List ℕ → List ℕ → List ℕ → Bool
is_allowed users user password backend challenge =
    list_any (λ (entry : Entry). (same_text entry.user user && same_text entry.backend backend)
    && same_text (md5 (challenge ++ entry.password)) (md5 (challenge ++ password))) users

-- by the challenge that is read in what was sent, if there is one: what the model calls a challenge is all that was
-- sent
abbrev pub is_allowed_for : List Entry → List ℕ → List ℕ → List ℕ → Option (List ℕ) → Bool
is_allowed_for users user password backend None = false
is_allowed_for users user password backend (Some challenge) = is_allowed users user password backend challenge

-- **a job of the model (`abstract_job`, `place_named`, `is_guarded`, `is_allowed`)**: it wants the place of its
-- device's name, or the place behind all. Its backend is guarded if a line of the users names it. It is allowed if a
-- line of its user and backend has a password of the same digest behind the challenge that is read in the resource that
-- was sent (the model calls the whole resource a challenge).
abbrev pub abstract_job : List Entry → List DeviceInfo → Job → model.AbstractJob
abstract_job users infos job =
    record {
      wants = place_named infos job.device;
      guarded = is_guarded users (backend_of job.device);
      allows = λ resource. is_allowed_for users job.user job.password (backend_of job.device) (challenge_of resource);
      settings = map requested_setting job.settings.items;
      task = task_of job.task;
    }

-- ---- what stands of one job

abbrev pub job_state : Ghost → ℕ → JobState
job_state t i = t.system.job i

abbrev pub wires : Ghost → ℕ → Wires
wires t i = t.wires i

-- behind these steps, of which job i has these bytes and this history
abbrev pub ghost_after : Ghost → ℕ → List Transition → Wires → JoinHistory → List JoinHistory → Ghost
ghost_after t i steps x past pages =
    record t {
      system = after_all t.system steps;
      wires = with_entry t.wires i x;
      history =
          with_entry t.history i past;
      pages = with_entry t.pages i pages;
    }

-- of which job i has these bytes
abbrev pub wired_then : Ghost → ℕ → List Transition → Wires → Ghost
wired_then t i steps x = ghost_after t i steps x (t.history i) (t.pages i)
