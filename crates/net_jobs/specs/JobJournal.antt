-- What the loop of a job does, one move after another, and what each makes of the client by the client's own contracts.
use Rattle.std.specs.Prelude.{ℕ, ◌≡◌, ◌≢◌, ◌<◌, ◌≤◌, if◌then◌else◌, Bool, true, false, Some, List, [], ◌∷◌, ◌++◌}
use Rattle.std.specs.Prelude.{length}
use Rattle.sane_fixed.specs.declared.status.Status.TheVariants as statuses
use Rattle.frame_join.specs.FrameHistory.{JoinHistory}
use Rattle.scan_job.specs.declared.outcome.Why.TheVariants as whys
use Rattle.client_replies.specs.declared.progress.Link.{Link}
use Rattle.client_replies.specs.declared.progress.Link.TheVariants as links
use Rattle.client_replies.specs.ProtocolStates.{is_ended, is_lost_by, is_receiving, is_running, progress_connected}
use Rattle.client_replies.specs.ProtocolStates.{turns, wanted_port}
use Rattle.net_client.specs.ClientStates.{ClientState, ClientRepresents, HasEarlyReply, after_client_end}
use Rattle.net_client.specs.ClientStates.{phase_connected}
use Rattle.net_client.specs.FramePieces.{Receives}
use Rattle.net_client.specs.ToldPorts.{port_told}
use Rattle.net_client.specs.ReplyPieces.{Heeds}
use Rattle.net_client.specs.Taking.{TakesFile}
use Rattle.net_jobs.specs.declared.calls.Loss.{Loss}

-- **Move** (`JobMove`, `MoveLeads`): what a loop does, with what it makes of the client by the client's own contracts.
-- All that is to go out is written, or only a front of it, as a write failed. A piece of the control connection is
-- heard, or what came too soon is looked at again. A data connection at a port is asked for, and made or not. A piece
-- of it is taken. Bytes of the job's files go out. A connection is lost, for a reason (`Loss`, `src/calls.rt`).
pub data JobMove : Type 0 where
  -- all that was to go out to the daemon is written to the control connection
  Writes : (bytes : List ℕ) → JobMove
  -- only this front of it is: a write failed, and the control connection is lost
  Fails : (bytes : List ℕ) → JobMove
  -- a piece of the control connection is heard
  Hears : (piece : List ℕ) → JobMove
  -- what came of it before it was asked for is looked at again
  Resumes : JobMove
  -- it is told that a data connection at that port will be asked for, so that it may be made from now on
  Prepares : (port : ℕ) → JobMove
  -- a data connection at that port is asked for, and made; or it is not, and is lost
  Dials : (port : ℕ) (made : Bool) → JobMove
  -- a piece of it is taken
  Takes : (piece : List ℕ) → JobMove
  -- bytes of the job's files go out, or none are left
  Gives : (bytes : List ℕ) → JobMove
  -- a connection is lost, for that reason
  Loses : (link : Link) (reason : Loss) → JobMove

-- ---- what a move makes of the client

abbrev pub after_loss : Link → ClientState → ClientState
after_loss link c = if is_lost_by link c.outcome c.progress then after_client_end statuses.IoError whys.Lost c else c

pub record WritesAll (old : ClientState) (bytes : List ℕ) (new : ClientState) : Type 0 where
  pub all : bytes ≡ old.out
  pub new_is : new ≡ record old { out = [] }

-- what of the others had been taken of the client is gone
pub record WritesShort (old : ClientState) (bytes : List ℕ) (new : ClientState) : Type 0 where
  pub rest : List ℕ
  pub front : old.out ≡ bytes ++ rest
  pub short : rest ≢ []
  pub new_is : new ≡ after_loss links.Control (record old { out = new.out })

-- the control connection is read where no data connection is
pub record HearsPiece (old : ClientState) (piece : List ℕ) (new : ClientState) : Type 0 where
  pub running : is_running old.outcome ≡ true
  pub quiet : is_receiving old.outcome old.progress ≡ false
  pub heeds : (past : JoinHistory) → ClientRepresents past old → Heeds old past piece new

-- the parameters of the frame with that port are asked for, and not told yet
pub record PreparesPort (old : ClientState) (port : ℕ) (new : ClientState) : Type 0 where
  pub running : is_running old.outcome ≡ true
  pub told : port_told old.progress ≡ Some port
  pub asked : old.out ≡ []
  pub same : new ≡ old

pub record DialsPort (old : ClientState) (port : ℕ) (new : ClientState) : Type 0 where
  pub running : is_running old.outcome ≡ true
  pub wanted : wanted_port old.progress ≡ Some port
  pub new_is : new
      ≡ record old { progress = progress_connected old.progress; phase = phase_connected old.progress old.phase }
  pub serves : (past : JoinHistory) → ClientRepresents past old → ClientRepresents past new

pub record MissesPort (old : ClientState) (port : ℕ) (new : ClientState) : Type 0 where
  pub running : is_running old.outcome ≡ true
  pub wanted : wanted_port old.progress ≡ Some port
  pub new_is : new ≡ after_loss links.Image old

pub record TakesPiece (old : ClientState) (piece : List ℕ) (new : ClientState) : Type 0 where
  pub receiving : is_receiving old.outcome old.progress ≡ true
  pub receives : (past : JoinHistory) → ClientRepresents past old → Receives old past piece new

pub record LosesLink (old : ClientState) (link : Link) (new : ClientState) : Type 0 where
  pub lost : is_lost_by link old.outcome old.progress ≡ true
  pub new_is : new ≡ after_client_end statuses.IoError whys.Lost old

-- bytes of one file: with the last of a page's the job asks for the next one
pub record GivesFileBytes (old : ClientState) (bytes : List ℕ) (new : ClientState) : Type 0 where
  pub room : ℕ
  pub some_room : 0 < room
  pub outcome : new.outcome ≡ old.outcome
  pub ended : is_ended old.outcome ≡ true → (length bytes ≡ 0) × (new ≡ old)
  pub same : is_ended old.outcome ≡ false → turns old.outcome old.progress ≡ false
      → new ≡ record old { join = new.join }
  pub taken : (past : JoinHistory) → ClientRepresents past old → TakesFile old past room bytes new

-- 1 to 4,096 bytes
abbrev pub IsPiece : List ℕ → Type 0
IsPiece piece = (piece ≢ []) × (length piece ≤ 4096)

abbrev pub MoveLeads : ClientState → JobMove → ClientState → Type 0
MoveLeads c (Writes bytes) e = WritesAll c bytes e
MoveLeads c (Fails bytes) e = WritesShort c bytes e
MoveLeads c (Hears piece) e = HearsPiece c piece e × IsPiece piece
MoveLeads c Resumes e = HearsPiece c [] e × HasEarlyReply c
MoveLeads c (Prepares port) e = PreparesPort c port e
MoveLeads c (Dials port true) e = DialsPort c port e
MoveLeads c (Dials port false) e = MissesPort c port e
MoveLeads c (Takes piece) e = TakesPiece c piece e × IsPiece piece
MoveLeads c (Gives bytes) e = GivesFileBytes c bytes e
MoveLeads c (Loses link reason) e = LosesLink c link e

-- **Journal** (`MovesLead`): moves one after another, the newest first. It tells what was written, read and given,
-- which ports were asked for, and whether a write failed (`bytes_written_by`, `heard_by`, `given_by`, `dialled_by`,
-- `has_write_failed`); and why nothing more was read (`HasLoss`; `loss_of`, `Inside.antt`).
abbrev pub MovesLead : ClientState → List JobMove → ClientState → Type 0
MovesLead first [] now = now ≡ first
MovesLead first (move ∷ moves) now = (was : ClientState) × MovesLead first moves was × MoveLeads was move now

-- ---- what a journal tells, which has its newest move first

-- the bytes that were written to the control connection
abbrev pub bytes_written_by : List JobMove → List ℕ
bytes_written_by [] = []
bytes_written_by (Writes bytes ∷ moves) = bytes_written_by moves ++ bytes
bytes_written_by (Fails bytes ∷ moves) = bytes_written_by moves ++ bytes
bytes_written_by (move ∷ moves) = bytes_written_by moves

-- those that were read of it
abbrev pub heard_by : List JobMove → List ℕ
heard_by [] = []
heard_by (Hears piece ∷ moves) = heard_by moves ++ piece
heard_by (move ∷ moves) = heard_by moves

-- those of the job's files that went out
abbrev pub given_by : List JobMove → List ℕ
given_by [] = []
given_by (Gives bytes ∷ moves) = given_by moves ++ bytes
given_by (move ∷ moves) = given_by moves

-- each gives bytes of a file
abbrev pub AreGives : List JobMove → Type 0
AreGives [] = Unit {0}
AreGives (Gives bytes ∷ moves) = AreGives moves
AreGives (move ∷ moves) = ⊥

-- the ports of the data connections that were asked for, the newest first
abbrev pub dialled_by : List JobMove → List ℕ
dialled_by [] = []
dialled_by (Dials port made ∷ moves) = port ∷ dialled_by moves
dialled_by (move ∷ moves) = dialled_by moves

-- **told at most once (`PortsAreTold`)**: the dialer is told of a frame's port right behind the request for its
-- parameters. It is told of no port again before a data connection was asked for.
--
-- the newest move writes bytes that were to go out
abbrev pub WritesRequest : List JobMove → Type 0
WritesRequest (Writes bytes ∷ moves) = bytes ≢ []
WritesRequest moves = ⊥

-- what a move stands right behind: a port is told behind a request, and any other move behind any
abbrev pub StandsBehind : JobMove → List JobMove → Type 0
StandsBehind (Prepares port) moves = WritesRequest moves
StandsBehind move moves = Unit {0}

abbrev pub PortsFollowRequests : List JobMove → Type 0
PortsFollowRequests [] = Unit {0}
PortsFollowRequests (move ∷ moves) = StandsBehind move moves × PortsFollowRequests moves

-- a port was told since a data connection was asked for last
abbrev pub is_port_told : List JobMove → Bool
is_port_told [] = false
is_port_told (Prepares port ∷ moves) = true
is_port_told (Dials port made ∷ moves) = false
is_port_told (move ∷ moves) = is_port_told moves

abbrev pub PortsAreToldOnce : List JobMove → Type 0
PortsAreToldOnce [] = Unit {0}
PortsAreToldOnce (Prepares port ∷ moves) = (is_port_told moves ≡ false) × PortsAreToldOnce moves
PortsAreToldOnce (move ∷ moves) = PortsAreToldOnce moves

pub record PortsAreTold (moves : List JobMove) : Type 0 where
  pub behind : PortsFollowRequests moves
  pub once : PortsAreToldOnce moves

-- a write to the control connection failed
abbrev pub has_write_failed : List JobMove → Bool
has_write_failed [] = false
has_write_failed (Fails bytes ∷ moves) = true
has_write_failed (move ∷ moves) = has_write_failed moves

-- a connection was lost
abbrev pub HasLoss : List JobMove → Type 0
HasLoss [] = ⊥
HasLoss (Loses link reason ∷ moves) = Unit {0}
HasLoss (Fails bytes ∷ moves) = Unit {0}
HasLoss (Dials port false ∷ moves) = Unit {0}
HasLoss (move ∷ moves) = HasLoss moves
