-- Which connections a data port keeps, and whom a frame goes to, by the record of calls.
use Rattle.std.specs.Prelude.{ℕ, ◌≡◌, ◌≤◌, ◌<◌, ◌+◌, ◌==◌, ◌⊎◌, if◌then◌else◌, Bool, true, Option, None}
use Rattle.std.specs.Prelude.{Some, List, [], ◌∷◌, ◌++◌, filter, length, map}
use Rattle.std.specs.Option.{option_map, option_or}
use Rattle.std.specs.declared.net.socket_addr.SocketAddrV4.{SocketAddrV4}
use Rattle.socket_calls.specs.SocketCall.{Comer, SocketCall, SocketRecord, listening_port, with_socket_calls}
use Rattle.socket_calls.specs.SocketCall.SocketCall.{Comes, NobodyComes, FailsToAccept, Peeks, BeginsTable}
use Rattle.socket_calls.specs.SocketCall.SocketCall.{Takes, Closes, EndsListening}
use Rattle.socket_calls.specs.declared.calls.Peeked.TheVariants.{Nothing, End}
use Rattle.saned_cli.specs.TableReadings.{IsWholeReading, is_line_among}
use Rattle.saned_cli.specs.declared.data_port.DataPort.{DataPort}

-- where the calls are told, that is so of them
abbrev pub WhereTold : (SocketRecord → Type 0) → Option SocketRecord → Type 0
WhereTold IsSo None = Unit {0}
WhereTold IsSo (Some calls) = IsSo calls

-- a data port: whose it is, and the numbers of the connections that it keeps: the newest that stands both ways, and the
-- newest whose peer has ended its side
pub record PortView : Type 0 where
  pub port : ℕ
  pub owner : Option ℕ
  pub standing : Option ℕ
  pub ended : Option ℕ

abbrev pub port_view : {L W : Type 0} → (W → ℕ) → DataPort L W → PortView
port_view number it = record {
  port = listening_port it.at;
  owner = it.owner;
  standing = option_map number it.standing;
  ended = option_map number it.ended;
}

-- a whole reading among these calls has a line of a socket of that user's which is this peer's end
pub record HasLineOf (later : SocketRecord) (port user : ℕ) (peer : Option SocketAddrV4) : Type 0 where
  pub after : SocketRecord
  pub reading : SocketRecord
  pub before : SocketRecord
  pub later_is : later ≡ after ++ (reading ++ before)
  pub lines : List (List ℕ)
  pub whole : IsWholeReading reading lines
  pub among : is_line_among port user peer lines ≡ true

abbrev pub IsTheOwners : SocketRecord → ℕ → Option ℕ → Option SocketAddrV4 → Type 0
IsTheOwners later port None peer = Unit {0}
IsTheOwners later port (Some user) peer = HasLineOf later port user peer

-- **whom a frame goes to (`IsHis`)**: the connection of that number came to the port. If the port is of a user, a whole
-- reading of the table that was made later has a line of a socket of that user's at its other end.
pub record IsHis (port : ℕ) (owner : Option ℕ) (number : ℕ) (calls : SocketRecord) : Type 0 where
  pub comer : Comer
  pub number_is : comer.number ≡ number
  pub later : SocketRecord
  pub earlier : SocketRecord
  pub came : calls ≡ later ++ (Comes port comer ∷ earlier)
  pub his : IsTheOwners later port owner comer.peer

-- a connection that a port keeps is its owner's
abbrev pub IsKeptFor : PortView → Option ℕ → Option SocketRecord → Type 0
IsKeptFor it None calls = Unit {0}
IsKeptFor it (Some number) calls = WhereTold (IsHis it.port it.owner number) calls

-- what a port keeps is its owner's
pub record KeepsHis (calls : Option SocketRecord) (it : PortView) : Type 0 where
  pub standing_his : IsKeptFor it it.standing calls
  pub ended_his : IsKeptFor it it.ended calls

-- ---- what stands in calls, the newest first

-- what each call brings, the first first
abbrev pub gathered : {X : Type 0} → (SocketCall → List X) → SocketRecord → List X
gathered by [] = []
gathered by (call ∷ past) = gathered by past ++ by call

-- what the newest call brings that brings anything
abbrev pub newest_by : (SocketCall → Option ℕ) → SocketRecord → Option ℕ
newest_by by [] = None
newest_by by (call ∷ past) = option_or (by call) (newest_by by past)

-- how much they count
abbrev pub counted : (SocketCall → ℕ) → SocketRecord → ℕ
counted by [] = 0
counted by (call ∷ past) = counted by past + by call

-- a connection was looked at and waited
abbrev pub waiting_by : SocketCall → Option ℕ
waiting_by (Peeks number Nothing) = Some number
waiting_by call = None

abbrev pub last_waiting : SocketRecord → Option ℕ
last_waiting calls = newest_by waiting_by calls

-- one was looked at, and its peer had ended its side
abbrev pub ended_among : SocketCall → Option ℕ
ended_among (Peeks number End) = Some number
ended_among call = None

abbrev pub last_ended : SocketRecord → Option ℕ
last_ended calls = newest_by ended_among calls

-- those that were looked at
abbrev pub looked_by : SocketCall → List ℕ
looked_by (Peeks number peeked) = number ∷ []
looked_by call = []

abbrev pub looked_at : SocketRecord → List ℕ
looked_at calls = gathered looked_by calls

-- those that were closed, and nobody had taken them
abbrev pub closed_by : SocketCall → List ℕ
closed_by (Closes number) = number ∷ []
closed_by call = []

abbrev pub closed_in : SocketRecord → List ℕ
closed_in calls = gathered closed_by calls

-- those that were taken
abbrev pub taken_by : SocketCall → List ℕ
taken_by (Takes number) = number ∷ []
taken_by call = []

abbrev pub taken_in : SocketRecord → List ℕ
taken_in calls = gathered taken_by calls

-- a connection that came to a port, and its peer
pub record ComerSeen : Type 0 where
  pub port : ℕ
  pub number : ℕ
  pub peer : Option SocketAddrV4

-- those that came
abbrev pub comers_by : SocketCall → List ComerSeen
comers_by (Comes port comer) = record { port = port; number = comer.number; peer = comer.peer } ∷ []
comers_by call = []

abbrev pub comers_in : SocketRecord → List ComerSeen
comers_in calls = gathered comers_by calls

-- their numbers
abbrev pub came_in : SocketRecord → List ℕ
came_in calls = map (λ it. it.number) (comers_in calls)

-- by those lines of the table a connection that came is the owner's; where there is none, any is
abbrev pub is_comer_of : Option ℕ → ℕ → List (List ℕ) → ComerSeen → Bool
is_comer_of None port lines it = true
is_comer_of (Some user) port lines it = is_line_among port user it.peer lines

-- how often a connection was asked for
abbrev pub accept_by : SocketCall → ℕ
accept_by (Comes port comer) = 1
accept_by (NobodyComes port) = 1
accept_by (FailsToAccept port) = 1
accept_by call = 0

abbrev pub accepts_in : SocketRecord → ℕ
accepts_in calls = counted accept_by calls

-- how often the table was begun
abbrev pub reading_by : SocketCall → ℕ
reading_by (BeginsTable there) = 1
reading_by call = 0

abbrev pub readings_in : SocketRecord → ℕ
readings_in calls = counted reading_by calls

-- so many connections are taken at once
abbrev pub most_at_once : ℕ
most_at_once = 512

-- **who is left to the next look (`AsksForAll`)**: a look asks for connections until nobody waits any more, or it asked
-- so often. Where there is no memory it asks for none.
abbrev pub AsksForAll : SocketRecord → Type 0
AsksForAll since = (accepts_in since ≡ 0)
    ⊎ ((accepts_in since ≡ most_at_once) ⊎ (length (comers_in since) < accepts_in since))

-- ---- what a look at a port comes to

-- a port, and the calls so far
pub record PortAndCalls : Type 0 where
  pub port : PortView
  pub calls : Option SocketRecord

abbrev pub port_and_calls : {L W : Type 0} → (W → ℕ) → DataPort L W → Option SocketRecord → PortAndCalls
port_and_calls number it calls = record { port = port_view number it; calls = calls }

-- the connection of that number alone
abbrev pub numbers_of : Option ℕ → List ℕ
numbers_of None = []
numbers_of (Some number) = number ∷ []

-- the connections that a port keeps
abbrev pub kept_by : PortView → List ℕ
kept_by it = numbers_of it.standing ++ numbers_of it.ended

-- how often a number stands among these
abbrev pub times_among : ℕ → List ℕ → ℕ
times_among n [] = 0
times_among n (m ∷ ms) = (if m == n then 1 else 0) + times_among n ms

-- **each is accounted for (`AccountsFor`)**: a port kept some connections, and by these calls others came. Each of them
-- was closed, is given to a frame, or is kept still: one of the three, and once.
abbrev pub AccountsFor : PortView → SocketRecord → Option ℕ → PortView → Type 0
AccountsFor was since given now = (n : ℕ) → times_among n (kept_by was ++ came_in since)
    ≡ times_among n (closed_in since ++ (numbers_of given ++ kept_by now))

-- closes the connection of that number
abbrev pub closing : Option ℕ → SocketRecord
closing None = []
closing (Some number) = Closes number ∷ []

-- closes what a port keeps, and listens there no longer
abbrev pub ending_of : PortView → SocketRecord
ending_of it = EndsListening it.port ∷ (closing it.ended ++ closing it.standing)

-- a look, behind which those that have ended their side are closed
pub record ForgetsEnded (was now : PortAndCalls) : Type 0 where
  pub since : SocketRecord
  pub grew : now.calls ≡ with_socket_calls since was.calls
  pub few_accepts : accepts_in since ≤ most_at_once
  pub asks : AsksForAll since
  pub few_readings : readings_in since ≤ 1
  pub none_taken : taken_in since ≡ []
  pub port_is : now.port.port ≡ was.port.port
  pub owner_is : now.port.owner ≡ was.port.owner
  pub standing_is : now.port.standing ≡ last_waiting since
  pub none_ended : now.port.ended ≡ None
  pub closed : AccountsFor was.port since None now.port

-- a look, behind which a frame takes the newest that waits, or else the newest that has ended its side; the other is
-- closed
pub record GivesNewest (was now : PortAndCalls) (given : Option ℕ) : Type 0 where
  pub since : SocketRecord
  pub grew : now.calls ≡ with_socket_calls since was.calls
  pub few_accepts : accepts_in since ≤ most_at_once
  pub asks : AsksForAll since
  pub few_readings : readings_in since ≤ 1
  pub none_taken : taken_in since ≡ []
  pub port_is : now.port.port ≡ was.port.port
  pub owner_is : now.port.owner ≡ was.port.owner
  pub none_standing : now.port.standing ≡ None
  pub none_ended : now.port.ended ≡ None
  pub newest : given ≡ option_or (last_waiting since) (option_or (last_ended since) was.port.ended)
  pub closed : AccountsFor was.port since given now.port
  pub lines : List (List ℕ)
  pub looked
      : looked_at since
      ≡ numbers_of was.port.standing
      ++ map (λ it. it.number) (filter (is_comer_of was.port.owner was.port.port lines) (comers_in since))

-- each of the ports keeps its owner's alone
abbrev pub EachKeepsHis : Option SocketRecord → List PortView → Type 0
EachKeepsHis calls [] = Unit {0}
EachKeepsHis calls (it ∷ ports) = KeepsHis calls it × EachKeepsHis calls ports
