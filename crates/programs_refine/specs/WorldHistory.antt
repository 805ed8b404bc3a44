-- Events of connections, none of an operator.
use Rattle.std.specs.Prelude.{ℕ, ◌≡◌, true, Some, IsSome, List, [], ◌∷◌, slice_get}
use Rattle.page_picture.specs.Source.{SourceState}
use Rattle.page_sources.specs.declared.kinds.Source.{Source}
use Rattle.saned_core.specs.declared.session_slot.SessionId.{SessionId}
use Rattle.client_replies.specs.ProtocolStates.{is_running, wanted_port}
use Rattle.net_client.specs.ClientStates.{HasEarlyReply}
use Rattle.event_world.specs.declared.event.Event.{Event}
use Rattle.event_world.specs.declared.event.Event.TheVariants.{Connect, ToDaemon, ToClient, DataConnect, DataTurn}
use Rattle.event_world.specs.declared.event.Event.TheVariants.{DataToClient, LoseControl, LoseImage, Cancel, Load}
use Rattle.event_world.specs.declared.event.Event.TheVariants.{Unplug}
use Rattle.event_world.specs.declared.endpoint.Endpoint.{Endpoint}
use Rattle.event_world.specs.JobEvents.{IsFlowing, frame_state_at}
use Rattle.event_world.specs.Worlds.{Runs, WorldCore}

-- no job is given up, no page laid in and no device taken out
abbrev pub IsOfConnections : Event → Type 0
IsOfConnections (Connect i) = Unit {0}
IsOfConnections (ToDaemon i n) = Unit {0}
IsOfConnections (ToClient i n) = Unit {0}
IsOfConnections (DataConnect i) = Unit {0}
IsOfConnections (DataTurn i) = Unit {0}
IsOfConnections (DataToClient i n) = Unit {0}
IsOfConnections (LoseControl i) = Unit {0}
IsOfConnections (LoseImage i) = Unit {0}
IsOfConnections (Cancel i) = ⊥
IsOfConnections (Load name page) = ⊥
IsOfConnections (Unplug name) = ⊥

-- **events of connections (`AreOfConnections`, `LeadsBy`)**: no job is given up, no page laid in and no device taken
-- out.
abbrev pub AreOfConnections : List Event → Type 0
AreOfConnections [] = Unit {0}
AreOfConnections (event ∷ events) = IsOfConnections event × AreOfConnections events

-- a control connection is made, or lost
abbrev pub IsLoss : Event → Type 0
IsLoss (Connect i) = Unit {0}
IsLoss (LoseControl i) = Unit {0}
IsLoss event = ⊥

-- of jobs that are lost, connected for that where they were not
abbrev pub AreLosses : List Event → Type 0
AreLosses [] = Unit {0}
AreLosses (event ∷ events) = IsLoss event × AreLosses events

-- such events lead from one world to the other
pub record LeadsBy (source : Source → SourceState) (w : WorldCore) (events : List Event) (v : WorldCore) : Type 0 where
  pub are : AreOfConnections events
  pub runs : Runs source events w v

-- **wants before it flows (`WantsBeforeItFlows`)**: a job that wants the data connection of a frame has none that
-- flows; so it always is from a world on (`AlwaysWantsBeforeItFlows`).
abbrev pub WantsBeforeItFlows : WorldCore → Type 0
WantsBeforeItFlows w =
    (i : ℕ) (endpoint : Endpoint) (id : SessionId) → slice_get w.endpoints i ≡ Some endpoint → endpoint.link ≡ Some id
    → is_running endpoint.client.outcome ≡ true → IsSome (wanted_port endpoint.client.progress)
    → IsFlowing (frame_state_at w.daemon id.number) → ⊥

-- **hears in turn (`HearsInTurn`, `AlwaysHearsInTurn`)**: no reply comes to a job that runs before the request that it
-- answers was taken.
abbrev pub HearsInTurn : WorldCore → Type 0
HearsInTurn w =
    (i : ℕ) (endpoint : Endpoint) (id : SessionId) → slice_get w.endpoints i ≡ Some endpoint → endpoint.link ≡ Some id
    → is_running endpoint.client.outcome ≡ true → HasEarlyReply endpoint.client → ⊥

-- so it is of each world that connections lead to
abbrev pub AlwaysWantsBeforeItFlows : (Source → SourceState) → WorldCore → Type 0
AlwaysWantsBeforeItFlows source w = (events : List Event) (v : WorldCore) → LeadsBy source w events v
    → WantsBeforeItFlows v

abbrev pub AlwaysHearsInTurn : (Source → SourceState) → WorldCore → Type 0
AlwaysHearsInTurn source w = (events : List Event) (v : WorldCore) → LeadsBy source w events v → HearsInTurn v
