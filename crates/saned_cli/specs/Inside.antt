-- What private functions say.
use Rattle.std.specs.Prelude.{ℕ, ◌≡◌, ◌≤◌, ◌<◌, ◌+◌, ◌^◌, ◌⊎◌, ◌||◌, ◌&&◌, Bool, true, false, Option, None, Some}
use Rattle.std.specs.Prelude.{List, [], ◌∷◌, ◌++◌}
use Rattle.std.specs.Prelude.{All, ◌≢◌, filter, map, length}
use Rattle.std.specs.List.{slice_index_or}
use Rattle.std.specs.Option.{option_or}
use Rattle.std.specs.declared.net.socket_addr.SocketAddrV4.{SocketAddrV4}
use Rattle.socket_calls.specs.SocketCall.{SocketCall, SocketRecord, comer_of, listening_port, with_socket_calls}
use Rattle.socket_calls.specs.SocketCall.SocketCall.{Comes, FailsToAccept, NobodyComes}
use Rattle.socket_calls.specs.declared.calls.Arrival.{Arrival}
use Rattle.saned_cli.specs.Guarding.{AsksForAll, ComerSeen, KeepsHis, PortAndCalls, PortView, accepts_in}
use Rattle.saned_cli.specs.Guarding.{came_in, closed_in, comers_in, kept_by, last_ended, last_waiting, numbers_of}
use Rattle.saned_cli.specs.Guarding.{is_comer_of, looked_at, most_at_once, port_view, readings_in, taken_in}
use Rattle.saned_cli.specs.Guarding.{times_among}
use Rattle.saned_cli.specs.SocketTable.{IsOwnedBy, end_text, is_socket_between, is_socket_to}
use Rattle.saned_cli.specs.TableReadings.{IsAskedFor, IsWholeReading, NamesOwner, is_line_among, is_of_peer}
use Rattle.saned_cli.specs.declared.table_reading.LinesSeen.{LinesSeen}
use Rattle.saned_cli.specs.declared.table_reading.LinesSeen.TheVariants.{Never, Once, Often}
use Rattle.saned_cli.specs.Guarding.{EachKeepsHis, ForgetsEnded, GivesNewest, ending_of}
use Rattle.saned_cli.specs.NetViews.{AsksForPort, AtPort, HasNoPort, WithoutPort}
use Rattle.saned_cli.specs.declared.data_ports.PortRange.{PortRange}
use Rattle.saned_cli.specs.declared.data_port.DataPort.{DataPort}
use Rattle.saned_cli.specs.declared.table_reading.Newcomer.{Newcomer}

-- ---- whose the other end is

abbrev pub lines_between : SocketAddrV4 → SocketAddrV4 → List (List ℕ) → List (List ℕ)
lines_between peer ours lines = filter (is_socket_between (end_text peer) (end_text ours)) lines

-- that is what is seen of the peer's end, where these lines are of it
abbrev pub AreSeenAs : List (List ℕ) → LinesSeen → Type 0
AreSeenAs between Never = between ≡ []
AreSeenAs between (Once (Some user)) = (line : List ℕ) × (between ≡ line ∷ []) × IsOwnedBy line user
AreSeenAs between (Once None) =
    (line : List ℕ)
    × (between ≡ line ∷ [])
    × ((user : ℕ) → user < 2 ^ 32 → ¬ IsOwnedBy line user)
AreSeenAs between Often =
    (one : List ℕ) × (other : List ℕ) × (more : List (List ℕ)) × (between ≡ one ∷ other ∷ more)

abbrev pub IsSeenIn : List (List ℕ) → SocketAddrV4 → SocketAddrV4 → LinesSeen → Type 0
IsSeenIn lines peer ours seen = AreSeenAs (lines_between peer ours lines) seen

-- a whole reading was made, which names that owner
pub record HasReadOwner (peer ours : SocketAddrV4) (was : Option SocketRecord) (owner : Option ℕ)
    (now : Option SocketRecord) : Type 0 where
  pub since : SocketRecord
  pub grew : now ≡ with_socket_calls since was
  pub lines : List (List ℕ)
  pub whole : IsWholeReading since lines
  pub names : NamesOwner lines peer ours owner

-- the same for a connection whose ends may not be known
pub record HasAskedOwner (peer ours : Option SocketAddrV4) (was : Option SocketRecord) (owner : Option ℕ)
    (now : Option SocketRecord) : Type 0 where
  pub since : SocketRecord
  pub grew : now ≡ with_socket_calls since was
  pub asked : IsAskedFor peer ours since owner

-- ---- which newcomers are a user's

-- a line has its end
abbrev pub marked_by : {W : Type 0} → List ℕ → Newcomer W → Newcomer W
marked_by line it = record it { is_his = it.is_his || is_of_peer it.peer line }

-- a line has its end, and is of a socket of the user's which is connected to ours
abbrev pub marked_by_line : {W : Type 0} → List ℕ → List ℕ → List ℕ → Newcomer W → Newcomer W
marked_by_line ours user line it =
    record it { is_his = it.is_his || (is_socket_to ours user line && is_of_peer it.peer line) }

-- these lines were read
abbrev pub marked : {W : Type 0} → ℕ → ℕ → List (List ℕ) → Newcomer W → Newcomer W
marked port user lines it = record it { is_his = it.is_his || is_line_among port user it.peer lines }

-- a whole reading was made, by which newcomers are marked
pub record HasMarked {W : Type 0} (port user : ℕ) (was : Option SocketRecord) (unmarked news : List (Newcomer W))
    (now : Option SocketRecord) : Type 0 where
  pub since : SocketRecord
  pub grew : now ≡ with_socket_calls since was
  pub lines : List (List ℕ)
  pub whole : IsWholeReading since lines
  pub marks : news ≡ map (marked port user lines) unmarked

-- ---- what a port makes of connections

-- only looks at connections and closes some
pub record AreLooks (since : SocketRecord) : Type 0 where
  pub no_accepts : accepts_in since ≡ 0
  pub no_readings : readings_in since ≡ 0
  pub none_came : comers_in since ≡ []
  pub none_taken : taken_in since ≡ []

-- of the connections that were had, these were looked at, in that order: the newest of them that waited stands, and the
-- newest that had ended its side is the one that ended; what is not kept is closed
pub record HasLooked (had numbers : List ℕ) (was now : PortAndCalls) : Type 0 where
  pub since : SocketRecord
  pub grew : now.calls ≡ with_socket_calls since was.calls
  pub looks : AreLooks since
  pub port_is : now.port.port ≡ was.port.port
  pub owner_is : now.port.owner ≡ was.port.owner
  pub looked : looked_at since ≡ numbers
  pub standing_is : now.port.standing ≡ option_or (last_waiting since) was.port.standing
  pub ended_is : now.port.ended ≡ option_or (last_ended since) was.port.ended
  pub closed : (n : ℕ) → times_among n (kept_by was.port) + times_among n had
      ≡ times_among n (closed_in since) + times_among n (kept_by now.port)

-- none stands
abbrev pub without_standing : PortAndCalls → PortAndCalls
without_standing it = record it { port = record it.port { standing = None } }

-- those of the newcomers that are the owner's, and where he is not known all of them
abbrev pub is_let_in : Option ℕ → Bool → Bool
is_let_in None is_his = true
is_let_in (Some user) is_his = is_his

abbrev pub is_admitted : {W : Type 0} → Option ℕ → Newcomer W → Bool
is_admitted owner it = is_let_in owner it.is_his

abbrev pub newcomer_numbers : {W : Type 0} → (W → ℕ) → List (Newcomer W) → List ℕ
newcomer_numbers number all = map (λ it. number it.stream) all

abbrev pub admitted_numbers : {W : Type 0} → (W → ℕ) → Option ℕ → List (Newcomer W) → List ℕ
admitted_numbers number owner all = map (λ it. number it.stream) (filter (is_admitted owner) all)

abbrev pub comer_seen : {W : Type 0} → (W → ℕ) → ℕ → Newcomer W → ComerSeen
comer_seen number port it = record { port = port; number = number it.stream; peer = it.peer }

-- not marked yet
abbrev pub unmarked_one : {W : Type 0} → Newcomer W → Newcomer W
unmarked_one it = record it { is_his = false }

-- so many were asked for at most, and these came
pub record HaveCome {W : Type 0} (number : W → ℕ) (port : ℕ) (was : Option SocketRecord) (all : List (Newcomer W))
    (now : Option SocketRecord) : Type 0 where
  pub since : SocketRecord
  pub grew : now ≡ with_socket_calls since was
  pub few : accepts_in since ≤ most_at_once
  pub asks : AsksForAll since
  pub no_readings : readings_in since ≡ 0
  pub none_taken : taken_in since ≡ []
  pub none_looked : looked_at since ≡ []
  pub none_waits : last_waiting since ≡ None
  pub none_ended : last_ended since ≡ None
  pub none_closed : closed_in since ≡ []
  pub came : comers_in since ≡ map (comer_seen number port) all
  pub unmarked_yet : map unmarked_one all ≡ all

-- the newcomers of a user are marked by a whole reading; where there is no user none is read
abbrev pub HasMarkedFor : {W : Type 0} → ℕ → Option ℕ → Option SocketRecord → List (Newcomer W) → List (Newcomer W)
    → Option SocketRecord → Type 0
HasMarkedFor port None was unmarked news now = (now ≡ was) × (news ≡ unmarked)
HasMarkedFor port (Some user) was unmarked news now = HasMarked port user was unmarked news now

-- a look at a port: the connection that stood was looked at first, and then, in the order in which they came, those
-- that are the owner's; if the port is of none, all of them
pub record LooksOnce (was now : PortAndCalls) : Type 0 where
  pub since : SocketRecord
  pub grew : now.calls ≡ with_socket_calls since was.calls
  pub few_accepts : accepts_in since ≤ most_at_once
  pub asks : AsksForAll since
  pub few_readings : readings_in since ≤ 1
  pub none_taken : taken_in since ≡ []
  pub port_is : now.port.port ≡ was.port.port
  pub owner_is : now.port.owner ≡ was.port.owner
  pub standing_is : now.port.standing ≡ last_waiting since
  pub ended_is : now.port.ended ≡ option_or (last_ended since) was.port.ended
  pub closed : (n : ℕ) → times_among n (kept_by was.port) + times_among n (came_in since)
      ≡ times_among n (closed_in since) + times_among n (kept_by now.port)
  pub lines : List (List ℕ)
  pub looked
      : looked_at since
      ≡ numbers_of was.port.standing
      ++ map (λ it. it.number) (filter (is_comer_of was.port.owner was.port.port lines) (comers_in since))

abbrev pub KeepsHisIn : PortAndCalls → Type 0
KeepsHisIn it = KeepsHis it.calls it.port

-- ---- the data ports of all sessions

-- there the port of that number stands
abbrev pub IsPlaceAmong : {L W : Type 0} → ℕ → List (DataPort L W) → ℕ → Type 0
IsPlaceAmong {L} {W} port ports at =
    (at < length ports) × ((d : DataPort L W) → listening_port (slice_index_or ports at d).at ≡ port)

-- and nowhere among them
abbrev pub HasNoPlace : {L W : Type 0} → ℕ → List (DataPort L W) → Type 0
HasNoPlace port ports = All (λ it. listening_port it.at ≢ port) ports

-- all ports, and the calls so far
pub record PortsAndCalls : Type 0 where
  pub ports : List PortView
  pub calls : Option SocketRecord

abbrev pub ports_and_calls : {L W : Type 0} → (W → ℕ) → List (DataPort L W) → Option SocketRecord → PortsAndCalls
ports_and_calls number ports calls = record { ports = map (port_view number) ports; calls = calls }

abbrev pub EachKeepsHisIn : PortsAndCalls → Type 0
EachKeepsHisIn it = EachKeepsHis it.calls it.ports

pub data GivesAmong (port : ℕ) (was now : PortsAndCalls) (given : Option ℕ) : Type 0 where
  NoPlace : HasNoPort port was.ports → given ≡ None → now ≡ was → GivesAmong port was now given
  AtPlace : (it left : PortView) → AtPort port was.ports now.ports it left
      → GivesNewest (record { port = it; calls = was.calls }) (record { port = left; calls = now.calls }) given
      → GivesAmong port was now given

pub data ForgetsAmong (port : ℕ) (was now : PortsAndCalls) : Type 0 where
  NowhereForgets : HasNoPort port was.ports → now ≡ was → ForgetsAmong port was now
  ForgetsThere : (it left : PortView) → AtPort port was.ports now.ports it left
      → ForgetsEnded (record { port = it; calls = was.calls }) (record { port = left; calls = now.calls })
      → ForgetsAmong port was now

pub data EndsAmong (port : ℕ) (was now : PortsAndCalls) : Type 0 where
  NowhereEnds : HasNoPort port was.ports → now ≡ was → EndsAmong port was now
  EndsThere : (it : PortView) → WithoutPort port was.ports now.ports it
      → now.calls ≡ with_socket_calls (ending_of it) was.calls
      → EndsAmong port was now

-- a listener was asked for, and is had at that port, if any is
pub record HasListened (range : Option PortRange) (was now : Option SocketRecord) (port : Option ℕ) : Type 0 where
  pub since : SocketRecord
  pub grew : now ≡ with_socket_calls since was
  pub asks : AsksForPort range since port

-- a connection came to that port, or nobody did for now, or the call failed
abbrev pub HasAccepted : {W : Type 0} → (W → ℕ) → ℕ → Option SocketRecord → Option (Arrival W) → Option SocketRecord
    → Type 0
HasAccepted number port was (Some it) now = now ≡ with_socket_calls (Comes port (comer_of number it) ∷ []) was
HasAccepted number port was None now =
    (call : SocketCall)
    × ((call ≡ NobodyComes port) ⊎ (call ≡ FailsToAccept port))
    × (now ≡ with_socket_calls (call ∷ []) was)
