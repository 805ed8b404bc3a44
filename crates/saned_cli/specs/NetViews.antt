-- What the listeners on 127.0.0.1 do, call by call.
use Rattle.std.specs.Prelude.{ℕ, zero, suc, ◌≡◌, ◌≢◌, ◌≤◌, ◌<◌, ◌+◌, ◌-◌, ◌⊎◌, Option, None, Some, List, [], ◌∷◌, ◌++◌}
use Rattle.std.specs.Prelude.{All, Contains, length}
use Rattle.socket_calls.specs.SocketCall.{Comer, SocketCall, SocketRecord, with_socket_calls}
use Rattle.socket_calls.specs.SocketCall.SocketCall.{Closes, Comes, FailsToAccept, Listens, NobodyComes, Takes}
use Rattle.saned_cli.specs.TableReadings.{IsAskedFor}
use Rattle.saned_cli.specs.declared.data_ports.PortRange.{PortRange}
use Rattle.saned_cli.specs.Guarding.{ForgetsEnded, GivesNewest, IsHis, PortView, WhereTold}
use Rattle.saned_cli.specs.Guarding.{ending_of}

-- **listeners (`NetView`)**: the calls on the sockets so far, the port of control connections, and the user who owns
-- the control connection that came last; of which ports data ports are, if any are named; how many accepts in a row
-- were left out; for how many data ports there is room, and those that there are.
pub record NetView : Type 0 where
  pub calls : Option SocketRecord
  pub control : ℕ
  pub owner : Option ℕ
  pub range : Option PortRange
  pub left_out : ℕ
  pub room : ℕ
  pub ports : List PortView

-- so many accepts in a row are left out at most
abbrev pub most_left_out : ℕ
most_left_out = 15

-- listeners that were just made: one was asked for at that port, and is the one of control connections; there is room
-- for a data port of each session
pub record IsBoundAt (asked : ℕ) (was : Option SocketRecord) (net : NetView) : Type 0 where
  pub calls_are : net.calls ≡ with_socket_calls (Listens asked (Some net.control) ∷ []) was
  pub owner_is : net.owner ≡ None
  pub range_is : net.range ≡ None
  pub left_out_is : net.left_out ≡ 0
  pub room_is : net.room ≡ 8
  pub ports_are : net.ports ≡ []

-- **an accept (`Accepts`)**: it is left out, if fewer than fifteen were in a row, or nobody comes, and then the last
-- owner is none. Or a connection comes, and a whole reading of the table is made for its two ends, which names the
-- owner. The connection is taken, or closed if there is no memory for it.
pub data Accepts (was now : NetView) (taken : Option ℕ) : Type 0 where
  LeftOut : taken ≡ None → was.left_out < most_left_out
      → now ≡ record was { owner = None; left_out = was.left_out + 1 } → Accepts was now taken
  Nobody : (call : SocketCall) → (call ≡ NobodyComes was.control) ⊎ (call ≡ FailsToAccept was.control) → taken ≡ None
      → now ≡ record was { owner = None; left_out = 0; calls = with_socket_calls (call ∷ []) was.calls }
      → Accepts was now taken
  Came : (comer : Comer) (reading : SocketRecord) (owner : Option ℕ)
      → IsAskedFor comer.peer comer.ours reading owner
      → (last : SocketCall)
      → ((last ≡ Takes comer.number) × (taken ≡ Some comer.number)) ⊎ ((last ≡ Closes comer.number) × (taken ≡ None))
      → now
      ≡ record was {
        owner = owner;
        left_out = 0;
        calls = with_socket_calls (last ∷ (reading ++ (Comes was.control comer ∷ []))) was.calls;
      }
      → Accepts was now taken

-- at each of so many ports, from the first on, a listener was asked for and not had; the newest first
abbrev pub refused_from : ℕ → ℕ → SocketRecord
refused_from first zero = []
refused_from first (suc count) = Listens (first + count) None ∷ refused_from first count

-- **where a data port is (`AsksForPort`)**: at any port of the system's choice, if none are named. Else the ports that
-- are named are asked for one after another, from the first on, until one is had, or the last was asked for too.
pub data AsksForPort (range : Option PortRange) (since : SocketRecord) (port : Option ℕ) : Type 0 where
  AtAnyPort : range ≡ None → since ≡ Listens 0 port ∷ [] → AsksForPort range since port
  BeforeLast : (named : PortRange) → range ≡ Some named → (refused : ℕ) → named.first + refused < named.last
      → port ≢ None → since ≡ Listens (named.first + refused) port ∷ refused_from named.first refused
      → AsksForPort range since port
  AtLast : (named : PortRange) → range ≡ Some named
      → since ≡ Listens named.last port ∷ refused_from named.first (named.last - named.first)
      → AsksForPort range since port

-- a data port is made: it is of the owner of the control connection that came last, and keeps no connection yet. None
-- is asked for where there is no room for one more.
pub record OpensPort (was now : NetView) (port : Option ℕ) : Type 0 where
  pub since : SocketRecord
  pub grew : now.calls ≡ with_socket_calls since was.calls
  pub asked : ((since ≡ []) × (port ≡ None) × (was.room ≤ length was.ports)) ⊎ AsksForPort was.range since port
  pub rest : now ≡ record was { calls = now.calls; ports = now.ports; owner = None }
  pub none : port ≡ None → now.ports ≡ was.ports
  pub some
      : (it : ℕ)
      → port ≡ Some it
      → now.ports ≡ was.ports ++ (record { port = it; owner = was.owner; standing = None; ended = None }) ∷ []

-- one port of that number is seen otherwise, and the others are as they were
pub record AtPort (port : ℕ) (was now : List PortView) (it left : PortView) : Type 0 where
  pub front : List PortView
  pub back : List PortView
  pub was_is : was ≡ front ++ (it ∷ back)
  pub now_is : now ≡ front ++ (left ∷ back)
  pub port_is : it.port ≡ port

-- one port of that number is no longer there
pub record WithoutPort (port : ℕ) (was now : List PortView) (it : PortView) : Type 0 where
  pub front : List PortView
  pub back : List PortView
  pub was_is : was ≡ front ++ (it ∷ back)
  pub now_is : now ≡ front ++ back
  pub port_is : it.port ≡ port

-- no port has that number
abbrev pub HasNoPort : ℕ → List PortView → Type 0
HasNoPort port ports = All (λ it. it.port ≢ port) ports

-- what is taken of a connection that is given: it, or where there is no memory for it none, and it is closed
pub data TakesOrCloses (was now : Option SocketRecord) (given taken : Option ℕ) : Type 0 where
  GivesNone : given ≡ None → taken ≡ None → now ≡ was → TakesOrCloses was now given taken
  GivesOne : (number : ℕ) → given ≡ Some number → taken ≡ Some number → now ≡ with_socket_calls (Takes number ∷ []) was
      → TakesOrCloses was now given taken
  HasNoMemory : (number : ℕ) → given ≡ Some number → taken ≡ None → now ≡ with_socket_calls (Closes number ∷ []) was
      → TakesOrCloses was now given taken

-- **a frame's connection (`DialsFrame`)**: the port of that number gives the newest that is its owner's; where there is
-- no such port nothing is done. The next accept is not left out.
pub data DialsFrame (port : ℕ) (was now : NetView) (taken : Option ℕ) : Type 0 where
  NoSuchPort : HasNoPort port was.ports → taken ≡ None → now ≡ record was { left_out = most_left_out }
      → DialsFrame port was now taken
  OfPort : (it left : PortView) → AtPort port was.ports now.ports it left
      → (calls : Option SocketRecord) (given : Option ℕ)
      → GivesNewest (record { port = it; calls = was.calls }) (record { port = left; calls = calls }) given
      → TakesOrCloses calls now.calls given taken
      → now ≡ record was { calls = now.calls; ports = now.ports; left_out = most_left_out }
      → DialsFrame port was now taken

-- **whom a frame goes to (`IsForFrame`)**: a port of that number has the connection for its owner's
pub record IsForFrame (port : ℕ) (ports : List PortView) (number : ℕ) (calls : Option SocketRecord) : Type 0 where
  pub it : PortView
  pub among : Contains ports it
  pub port_is : it.port ≡ port
  pub his : WhereTold (IsHis it.port it.owner number) calls

-- those that have ended are forgotten at the port of that number; the next accept is not left out
pub data Forgets (port : ℕ) (was now : NetView) : Type 0 where
  NoPort : HasNoPort port was.ports → now ≡ record was { left_out = most_left_out } → Forgets port was now
  ForgetsAt : (it left : PortView) → AtPort port was.ports now.ports it left
      → ForgetsEnded (record { port = it; calls = was.calls }) (record { port = left; calls = now.calls })
      → now ≡ record was { calls = now.calls; ports = now.ports; left_out = most_left_out }
      → Forgets port was now

-- a data port is closed, with the connections that it keeps
pub data ShutsPort (port : ℕ) (was now : NetView) : Type 0 where
  ShutsNone : HasNoPort port was.ports → now ≡ was → ShutsPort port was now
  ShutsOne : (it : PortView) → WithoutPort port was.ports now.ports it
      → now.calls ≡ with_socket_calls (ending_of it) was.calls
      → now ≡ record was { calls = now.calls; ports = now.ports } → ShutsPort port was now
