-- What calls of a daemon and a client do that stand for a part of a turn.
use Rattle.std.specs.Prelude.{ℕ, ◌≡◌, Bool, true, false, List, [], ◌∷◌}
use Rattle.client_replies.specs.ProtocolStates.{is_ended}
use Rattle.net_client.specs.ClientStates.{ClientState}
use Rattle.net_jobs.specs.JobJournal.{DialsPort, HearsPiece, IsPiece, JobMove, TakesPiece, given_by}
use Rattle.net_jobs.specs.JobSteps.{GivesOut}
use Rattle.saned_core.specs.declared.session_slot.Fed.TheVariants.{Standing}
use Rattle.saned_core.specs.declared.session_slot.DataStep.{DataStep}
use Rattle.saned_core.specs.DaemonStates.{Core}
use Rattle.saned_core.specs.Feeding.{Feeds}
use Rattle.saned_serve.specs.SessionActions.{AreRepliesTaken, IsConnected, IsTurned, is_idle}

-- a client without bytes to go out
abbrev pub said_all : ClientState → ClientState
said_all c = record c { out = [] }

-- bytes of the job's file go out, if it scans
pub record GivesFile (scan : Bool) (old : ClientState) (bytes : List ℕ) (new : ClientState) : Type 0 where
  pub gives : List JobMove
  pub gave : given_by gives ≡ bytes
  pub out : GivesOut scan false old gives new

-- **round (`IsCallRound`)**: a client writes all that is to go out, 1 to 4,096 bytes; the daemon is fed it, and the
-- session stands; the replies are taken, 1 to 4,096 bytes, and the client hears them; and then no replies wait.
pub record IsCallRound (scan : Bool) (d : Core) (c : ClientState) (bytes : List ℕ) (e : Core)
    (after : ClientState) : Type 0 where
  pub piece : IsPiece c.out
  pub fed : Core
  pub feeds : Feeds 0 d c.out Standing fed
  pub reply : List ℕ
  pub is_piece : IsPiece reply
  pub told : Core
  pub takes : AreRepliesTaken fed 0 4096 reply told
  pub heard : ClientState
  pub hears : HearsPiece (said_all c) reply heard
  pub lives : is_ended heard.outcome ≡ false
  pub gives : GivesFile scan heard bytes after
  pub none : AreRepliesTaken told 0 4096 [] e

-- the client dials the port that it wants, and the daemon is told that the data connection is there
pub record IsDialledOnce (d : Core) (c : ClientState) (e : Core) (after : ClientState) : Type 0 where
  pub port : ℕ
  pub dials : DialsPort c port after
  pub connects : IsConnected d 0 e

-- **record (`IsRecord`)**: one record, or the end record, is taken of the daemon, at most 4,096 bytes, and taken by the
-- client.
pub record IsRecord (scan : Bool) (d : Core) (c : ClientState) (step : DataStep) (bytes : List ℕ) (e : Core)
    (after : ClientState) : Type 0 where
  pub piece : List ℕ
  pub is_piece : IsPiece piece
  pub turns : IsTurned d 0 65483 step piece e
  pub some : is_idle step ≡ false
  pub taken : ClientState
  pub takes : TakesPiece c piece taken
  pub gives : GivesFile scan taken bytes after
