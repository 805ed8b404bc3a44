-- What the system's sockets tell of their calls.
use Rattle.std.specs.Prelude.{ℕ, Bool, true, false, Option, None, Some, Result, Ok, Err, List, [], ◌∷◌, ◌++◌}
use Rattle.std.specs.declared.net.socket_addr.SocketAddrV4.{SocketAddrV4}
use Rattle.socket_calls.specs.declared.calls.ListeningAt.{ListeningAt}
use Rattle.socket_calls.specs.declared.calls.Arrival.{Arrival}
use Rattle.socket_calls.specs.declared.calls.Peeked.{Peeked}

-- a connection that came: its number, and both its ends where they are known and of IPv4
pub record Comer : Type 0 where
  pub number : ℕ
  pub peer : Option SocketAddrV4
  pub ours : Option SocketAddrV4

-- **a call (`SocketCall`, `SocketRecord`)**: each call of the system's sockets with what it came to: a listener that
-- was asked for at a port, and the port that it has; a connection that came to a port, or that nobody did; what a
-- connection's peer has done; the table of sockets begun, and each line of it; a connection taken or closed, and a port
-- given up.
pub data SocketCall : Type 0 where
  -- a listener was asked for at that port, and listens at this one
  Listens : (asked : ℕ) (port : Option ℕ) → SocketCall
  -- this connection came to that port
  Comes : (port : ℕ) (comer : Comer) → SocketCall
  -- nobody waited there, for now
  NobodyComes : (port : ℕ) → SocketCall
  -- the call failed
  FailsToAccept : (port : ℕ) → SocketCall
  -- that is what the peer of a connection had done
  Peeks : (number : ℕ) (peeked : Peeked) → SocketCall
  -- the table was begun, where there is one
  BeginsTable : (there : Bool) → SocketCall
  -- the table's next line
  TellsLine : (line : List ℕ) → SocketCall
  -- there is no further line, or it cannot be read
  EndsTable : SocketCall
  -- a connection was taken
  Takes : (number : ℕ) → SocketCall
  -- a connection that nobody took was closed
  Closes : (number : ℕ) → SocketCall
  -- nobody listens at that port any longer
  EndsListening : (port : ℕ) → SocketCall

-- all calls, the newest first
abbrev pub SocketRecord : Type 0
SocketRecord = List SocketCall

-- these calls, the newest first, behind those that are told
abbrev pub with_socket_calls : SocketRecord → Option SocketRecord → Option SocketRecord
with_socket_calls since None = None
with_socket_calls since (Some was) = Some (since ++ was)

-- the port at which a listener listens
abbrev pub listening_port : {L : Type 0} → ListeningAt L → ℕ
listening_port at = at.port

abbrev pub listening_call : {L E : Type 0} → ℕ → Result (ListeningAt L) E → SocketCall
listening_call asked (Ok at) = Listens asked (Some (listening_port at))
listening_call asked (Err e) = Listens asked None

abbrev pub comer_of : {W : Type 0} → (W → ℕ) → Arrival W → Comer
comer_of number it = record { number = number it.stream; peer = it.peer; ours = it.ours }

abbrev pub arrival_call : {W E : Type 0} → (W → ℕ) → ℕ → Result (Option (Arrival W)) E → SocketCall
arrival_call number port (Ok (Some it)) = Comes port (comer_of number it)
arrival_call number port (Ok None) = NobodyComes port
arrival_call number port (Err e) = FailsToAccept port

abbrev pub line_call : Bool → List ℕ → SocketCall
line_call true line = TellsLine line
line_call false line = EndsTable
