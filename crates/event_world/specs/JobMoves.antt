-- The next move of a job, and how many it may still take.
use Rattle.std.specs.Prelude.{ℕ, ◌≡◌, ◌⊎◌, true, false, Option, Some, None, option_map, List, [], ◌∷◌, if◌then◌else◌}
use Rattle.saned_core.specs.DaemonStates.{Core}
use Rattle.client_replies.specs.ProtocolStates.{is_running}
use Rattle.event_world.specs.declared.event.Event.{Event}
use Rattle.event_world.specs.declared.event.JobEvent.{JobEvent}
use Rattle.event_world.specs.declared.event.JobEvent.TheVariants.{Connect, ToDaemon, ToClient, DataConnect, DataTurn}
use Rattle.event_world.specs.declared.event.JobEvent.TheVariants.{DataToClient, LoseControl}
use Rattle.event_world.specs.declared.endpoint.Endpoint.{Endpoint}
use Rattle.event_world.specs.JobEvents.{Can, job_event_of}

-- **move (`in_order`, `IsFirstMove`, `IsNextMove`)**: the first that can happen of these: the connection is made; at
-- most 4,096 bytes go to the daemon; as many go to the client; the data connection is made; its bytes go to the client;
-- the daemon takes a turn; a connection is lost whose session the daemon has ended.
--
-- the moves of a job, in their order
abbrev pub in_order : List JobEvent
in_order = Connect ∷ ToDaemon 4096 ∷ ToClient 4096 ∷ DataConnect ∷ DataToClient 4096 ∷ DataTurn ∷ []

-- the first of these that can happen; and behind them the loss of a connection whose session the daemon has ended
abbrev pub IsFirstMove : Core → Endpoint → List JobEvent → JobEvent → Type 0
IsFirstMove d p [] job_event = (job_event ≡ LoseControl) × (p.is_over ≡ true) × Can d p LoseControl
IsFirstMove d p (m ∷ ms) job_event = (Can d p m × (job_event ≡ m)) ⊎ ((Can d p m → ⊥) × IsFirstMove d p ms job_event)

-- none of them can
abbrev pub HasNone : Core → Endpoint → List JobEvent → Type 0
HasNone d p [] = p.is_over ≡ true → Can d p LoseControl → ⊥
HasNone d p (m ∷ ms) = (Can d p m → ⊥) × HasNone d p ms

abbrev pub IsNext : Core → Endpoint → List JobEvent → Option JobEvent → Type 0
IsNext d p ms None = HasNone d p ms
IsNext d p ms (Some job_event) = IsFirstMove d p ms job_event

-- the first move that can happen of a job that runs
pub record IsNextMove (d : Core) (i : ℕ) (p : Endpoint) (event : Option Event) : Type 0 where
  pub job_event : Option JobEvent
  pub event_is : event ≡ option_map (job_event_of i) job_event
  pub runs : is_running p.client.outcome ≡ true → IsNext d p in_order job_event
  pub over : is_running p.client.outcome ≡ false → job_event ≡ None

-- none where the job does not run
abbrev pub moves_left_of : Endpoint → ℕ
moves_left_of p = if is_running p.client.outcome then p.budget else 0
