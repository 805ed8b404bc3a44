-- What is still to happen to a job, and that its moves suffice for it.
use Rattle.std.specs.Prelude.{ℕ, ◌≡◌, ◌+◌, ◌≤◌, Option, Some, None, List, length, slice_get}
use Rattle.system_model.specs.Client.{Done, Ended, Idle, Running, JobStage}
use Rattle.system_model.specs.Variant.{control_variant}
use Rattle.system_model.specs.Transitions.{IsUnderWay}
use Rattle.event_world.specs.declared.endpoint.Endpoint.{Endpoint}
use Rattle.event_world.specs.Worlds.{WorldCore}
use Rattle.world_refines.specs.GhostStates.{Ghost, Wires, job_state, wires}

abbrev pub on_its_way : Option (List ℕ) → ℕ
on_its_way None = 0
on_its_way (Some bytes) = length bytes

-- the bytes of a job's connections that are still to be delivered
abbrev pub bytes_undelivered : Wires → ℕ
bytes_undelivered x = length x.up + (length x.down + on_its_way x.image)

-- before it is connected its greeting counts as a part of what is to come
abbrev pub counted_at : JobStage → Wires → ℕ
counted_at Idle x = 0
counted_at (Running g) x = bytes_undelivered x
counted_at Done x = bytes_undelivered x
counted_at (Ended status why) x = bytes_undelivered x

-- **what is still to come (`cost`, `bytes_undelivered`, `Pays`)**: the moves of a job by the model, and one for each
-- byte of its connections that is not delivered, counted from its connection on. A job that is under way may still take
-- as many.
abbrev pub cost : Ghost → ℕ → ℕ
cost t i = control_variant t.system i + counted_at (job_state t i).client.stage (wires t i)

-- a job that is under way may still take as many
abbrev pub Pays : Ghost → WorldCore → Type 0
Pays t w = (i : ℕ) (endpoint : Endpoint) → slice_get w.endpoints i ≡ Some endpoint
    → IsUnderWay (job_state t i).client.stage → cost t i ≤ endpoint.budget
