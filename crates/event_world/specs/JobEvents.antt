-- What may happen to a job: when it can, and what it makes of the daemon and of the job's endpoint.
use Rattle.std.specs.Prelude.{ℕ, ◌≡◌, ◌≢◌, ◌<◌, ◌==◌, ◌&&◌, ◌⊎◌, ◌++◌, if◌then◌else◌, min, Bool, true, false, Option}
use Rattle.std.specs.Prelude.{Some, None, IsSome, List, [], take, drop, length}
use Rattle.saned_core.specs.declared.session_slot.SessionId.{SessionId}
use Rattle.saned_core.specs.declared.session_slot.Fed.{Fed}
use Rattle.saned_core.specs.declared.session_slot.Fed.TheVariants.{Standing, Over, Starved}
use Rattle.saned_core.specs.declared.session_slot.FrameState.{FrameState}
use Rattle.saned_core.specs.declared.session_slot.FrameState.TheVariants as frames
use Rattle.saned_core.specs.declared.session_slot.DataStep.{DataStep}
use Rattle.saned_core.specs.declared.session_slot.DataStep.TheVariants.{Idle, Bytes, Last}
use Rattle.saned_core.specs.DaemonStates.{Core, after_open_session, is_closed, after_end_session, session_of}
use Rattle.saned_core.specs.DaemonStates.{replies_of, after_taken, on_session_slot, on_session, frame_in}
use Rattle.saned_core.specs.DaemonStates.{after_connected, after_lost}
use Rattle.saned_core.specs.Feeding.{Feeds}
use Rattle.saned_core.specs.Turns.{Turns}
use Rattle.frame_join.specs.FrameHistory.{JoinHistory}
use Rattle.scan_job.specs.declared.outcome.Outcome.{Outcome}
use Rattle.scan_job.specs.declared.outcome.Outcome.TheVariants as outcomes
use Rattle.client_replies.specs.ProtocolStates.{is_batch, is_receiving, is_running, wanted_port}
use Rattle.net_client.specs.ClientStates.{ClientState, ClientRepresents}
use Rattle.net_client.specs.ReplyPieces.{Heeds}
use Rattle.net_client.specs.FramePieces.{Receives}
use Rattle.event_world.specs.declared.event.Event.{Event}
use Rattle.event_world.specs.declared.event.Event.TheVariants as events
use Rattle.event_world.specs.declared.event.JobEvent.{JobEvent}
use Rattle.event_world.specs.declared.event.JobEvent.TheVariants.{Connect, ToDaemon, ToClient, DataConnect, DataTurn}
use Rattle.event_world.specs.declared.event.JobEvent.TheVariants.{DataToClient, LoseControl, LoseImage, Cancel}
use Rattle.event_world.specs.declared.endpoint.Image.{Image}
use Rattle.event_world.specs.declared.endpoint.Endpoint.{Endpoint}
use Rattle.event_world.specs.Endpoints.{IsCancelled, image_out_of_memory, with_image_link, laid_by, with_link, shut_out}
use Rattle.event_world.specs.Endpoints.{after_move, without_image_link, without_link}
use Rattle.event_world.specs.FileDraining.{Drains}

abbrev pub job_event_of : ℕ → JobEvent → Event
job_event_of i Connect = events.Connect i
job_event_of i (ToDaemon n) = events.ToDaemon i n
job_event_of i (ToClient n) = events.ToClient i n
job_event_of i DataConnect = events.DataConnect i
job_event_of i DataTurn = events.DataTurn i
job_event_of i (DataToClient n) = events.DataToClient i n
job_event_of i LoseControl = events.LoseControl i
job_event_of i LoseImage = events.LoseImage i
job_event_of i Cancel = events.Cancel i

-- ---- when it can happen

-- the session of a link
abbrev pub IfLinked : Option SessionId → (ℕ → Type 0) → Type 0
IfLinked None Is = ⊥
IfLinked (Some id) Is = Is id.number

abbrev pub HasImage : Option Image → (List ℕ → Type 0) → Type 0
HasImage None Is = ⊥
HasImage (Some image) Is = Is image.bytes

-- the daemon streams the frame, or is to end it
abbrev pub IsFlowing : FrameState → Type 0
IsFlowing frames.Quiet = ⊥
IsFlowing frames.Waiting = ⊥
IsFlowing frames.Streaming = Unit {0}
IsFlowing frames.Ending = Unit {0}

abbrev pub frame_state_at : Core → ℕ → FrameState
frame_state_at d n = frame_in (session_of d n)

-- **can happen (`Can`)**: a connection stands and has something to do. Bytes wait, and some are moved; a frame waits
-- for its connection, and the client wants it; a frame streams or is to be ended. A job that runs is connected once and
-- can be given up. A loss needs its connection alone.
abbrev pub Can : Core → Endpoint → JobEvent → Type 0
Can d p Connect = (is_running p.client.outcome ≡ true) × (p.was_connected ≡ false)
Can d p (ToDaemon n) = IsSome p.link × (p.client.out ≢ []) × (0 < n)
Can d p (ToClient n) = IfLinked p.link (λ k. replies_of d k ≢ []) × (0 < n)
Can d p DataConnect = IsSome (wanted_port p.client.progress)
    × IfLinked p.link (λ k. frame_state_at d k ≡ frames.Waiting)
Can d p DataTurn = IsSome p.image × IfLinked p.link (λ k. IsFlowing (frame_state_at d k))
Can d p (DataToClient n) = HasImage p.image (λ bytes. bytes ≢ []) × (0 < n)
Can d p LoseControl = IsSome p.link
Can d p LoseImage = IsSome p.image × IsSome p.link
Can d p Cancel = is_running p.client.outcome ≡ true

-- ---- the control connection

-- what a delivery moves of the bytes that wait
abbrev pub delivered_bytes : ℕ → List ℕ → List ℕ
delivered_bytes n bytes = take (min n 4096) bytes

abbrev pub bytes_not_delivered : ℕ → List ℕ → List ℕ
bytes_not_delivered n bytes = drop (min n 4096) bytes

-- a session is opened for it with that data port, where one is to be had
abbrev pub Connects : ℕ → Bool → Core → Endpoint → Core → Endpoint → Type 0
Connects port true d p e q = (e ≡ d) × (q ≡ shut_out (after_move p))
Connects port false d p e q = (id : SessionId) × (id.number ≡ d.opened) × (e ≡ after_open_session d port)
    × (q ≡ with_link id (after_move p))

abbrev pub without_sent : ℕ → Endpoint → Endpoint
without_sent n p = record (after_move p) { client = record p.client { out = bytes_not_delivered n p.client.out } }

-- what became of the session in this call
abbrev pub after_fed : Fed → Endpoint → Endpoint
after_fed Standing p = p
after_fed Over p = record p { is_over = true }
after_fed Starved p = record p { is_over = true; out_of_memory = true }

abbrev pub FeedsPiece : ℕ → ℕ → Core → Endpoint → Core → Endpoint → Type 0
FeedsPiece k n d p e q = (fed : Fed) × Feeds k d (delivered_bytes n p.client.out) fed e
    × (q ≡ after_fed fed (without_sent n p))

-- the replies that a delivery moves are taken
abbrev pub without_taken : ℕ → ℕ → Core → Core
without_taken k n d =
    record d { slots = on_session_slot (after_taken (length (delivered_bytes n (replies_of d k)))) k d.slots }

-- the client of a job that runs heeds a piece, and what it gives of its file is laid down
pub record HeedsPiece (piece : List ℕ) (old new : Endpoint) : Type 0 where
  pub over : is_running old.client.outcome ≡ false → new ≡ old
  pub mid : ClientState
  pub heeds : is_running old.client.outcome ≡ true → (past : JoinHistory) → ClientRepresents past old.client
      → Heeds old.client past piece mid
  pub drains : is_running old.client.outcome ≡ true → Drains (record old { client = mid }) new

-- ---- the data connection

-- a record comes onto it
abbrev pub with_data_record : List ℕ → Bool → Image → Image
with_data_record bytes is_last image = record { bytes = image.bytes ++ bytes; is_last = is_last }

abbrev pub with_image : Image → Endpoint → Endpoint
with_image image p = record p { image = Some image }

abbrev pub image_lost : ℕ → Core → Core
image_lost k d = record d { slots = on_session_slot (on_session after_lost) k d.slots }

-- or, where there is no memory for it, the connection is lost
abbrev pub SendsRecord : ℕ → List ℕ → Bool → Core → Endpoint → Core → Endpoint → Type 0
SendsRecord k bytes is_last d p e q =
    ((image : Image) × (p.image ≡ Some image) × (e ≡ d)
    × (q ≡ with_image (with_data_record bytes is_last image) (after_move p)))
    ⊎ ((e ≡ image_lost k d) × (q ≡ image_out_of_memory (after_move p)))

abbrev pub SendsStep : ℕ → DataStep → List ℕ → Core → Endpoint → Core → Endpoint → Type 0
SendsStep k Idle buf d p e q = (e ≡ d) × (q ≡ after_move p)
SendsStep k (Bytes n) buf d p e q = SendsRecord k (take n buf) false d p e q
SendsStep k (Last n) buf d p e q = SendsRecord k (take n buf) true d p e q

pub record TakesTurn (k : ℕ) (d : Core) (p : Endpoint) (e : Core) (q : Endpoint) : Type 0 where
  pub step : DataStep
  pub buf : List ℕ
  pub mid : Core
  pub turns : Turns k d step mid buf
  pub sends : SendsStep k step buf mid p e q

-- behind the end record it is no more
abbrev pub still_open : Option Image → Option Image
still_open None = None
still_open (Some image) = if image.is_last && (length image.bytes == 0) then None else Some image

abbrev pub without_ended_image : Endpoint → Endpoint
without_ended_image p = record p { image = still_open p.image }

abbrev pub is_done : Outcome → Bool
is_done outcomes.Running = false
is_done (outcomes.Done reports) = true
is_done (outcomes.Ended status why) = false

-- a batch that is done with its last page
abbrev pub with_last_page : Endpoint → Endpoint
with_last_page p = if is_done p.client.outcome && is_batch p.task then laid_by p else p

-- the client of a job that runs takes a piece of a frame's records, and what it gives of its file is laid down; so is
-- the last page of a batch
pub record TakesDataPiece (piece : List ℕ) (old new : Endpoint) : Type 0 where
  pub over : is_running old.client.outcome ≡ false → new ≡ old
  pub mid : ClientState
  pub idle : is_receiving old.client.outcome old.client.progress ≡ false → mid ≡ old.client
  pub receives : is_receiving old.client.outcome old.client.progress ≡ true → (past : JoinHistory)
      → ClientRepresents past old.client → Receives old.client past piece mid
  pub after : Endpoint
  pub drains : is_running old.client.outcome ≡ true → Drains (record old { client = mid }) after
  pub finishes : is_running old.client.outcome ≡ true → new ≡ with_last_page after

abbrev pub TakesPieceOfData : ℕ → Endpoint → Endpoint → Type 0
TakesPieceOfData n p q =
    (image : Image) × (p.image ≡ Some image)
    × ((r : Endpoint)
    × TakesDataPiece (delivered_bytes n image.bytes)
    (with_image (record image { bytes = bytes_not_delivered n image.bytes }) (after_move p)) r
    × (q ≡ without_ended_image r))

-- ---- what it does

-- it is done by a control connection that stands
abbrev pub NeedsLink : JobEvent → Type 0
NeedsLink Connect = ⊥
NeedsLink (DataToClient n) = ⊥
NeedsLink Cancel = ⊥
NeedsLink job_event = Unit {0}

-- **does, happens (`Does`, `Happens`)**: what an event makes of the daemon and of the endpoint: a session opened, a
-- piece fed, replies taken and heard, a data connection made, a turn and its record, a piece of records seen, a loss, a
-- farewell. An event that cannot happen changes nothing.
abbrev pub Does : Core → Endpoint → JobEvent → Core → Endpoint → Type 0
Does d p Connect e q = (port : ℕ) × Connects port (is_closed d) d p e q
Does d p (ToDaemon n) e q = IfLinked p.link (λ k. FeedsPiece k n d p e q)
Does d p (ToClient n) e q =
    IfLinked p.link (λ k. (e ≡ without_taken k n d) × HeedsPiece (delivered_bytes n (replies_of d k)) (after_move p) q)
Does d p DataConnect e q =
    IfLinked p.link (λ k. (e ≡ record d { slots = on_session_slot (on_session after_connected) k d.slots })
    × (q ≡ with_image_link (after_move p)))
Does d p DataTurn e q = IfLinked p.link (λ k. TakesTurn k d p e q)
Does d p (DataToClient n) e q = (e ≡ d) × TakesPieceOfData n p q
Does d p LoseControl e q = IfLinked p.link (λ k. (e ≡ after_end_session d k) × (q ≡ without_link (after_move p)))
Does d p LoseImage e q = IfLinked p.link (λ k. (e ≡ image_lost k d) × (q ≡ without_image_link (after_move p)))
Does d p Cancel e q = (e ≡ d) × IsCancelled (after_move p) q

-- where it cannot happen nothing changes
pub record Happens (d : Core) (p : Endpoint) (job_event : JobEvent) (e : Core) (q : Endpoint) : Type 0 where
  pub does : Can d p job_event → Does d p job_event e q
  pub cannot : (Can d p job_event → ⊥) → (e ≡ d) × (q ≡ p)
