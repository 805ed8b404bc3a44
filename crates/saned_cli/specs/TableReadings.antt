-- Readings of the system's table of sockets, as the calls on the sockets tell them.
use Rattle.std.specs.Prelude.{ℕ, ◌≡◌, ◌<◌, ◌^◌, ◌||◌, ◌&&◌, ◌/◌, ◌%◌, Bool, true, false, Option, None, Some}
use Rattle.std.specs.Prelude.{List, [], ◌∷◌, ◌++◌}
use Rattle.std.specs.Prelude.{codes, decimal, filter, length, map, reverse}
use Rattle.std.specs.declared.net.socket_addr.SocketAddrV4.{SocketAddrV4}
use Rattle.hex.specs.Hex.{encode_upper}
use Rattle.socket_calls.specs.SocketCall.{SocketRecord}
use Rattle.socket_calls.specs.SocketCall.SocketCall.{BeginsTable, TellsLine, EndsTable}
use Rattle.saned_cli.specs.SocketTable.{IsOwnedBy, end_text, is_in_field, is_socket_between, is_socket_to}

-- so many lines are read at most
abbrev pub most_table_lines : ℕ
most_table_lines = 1000000

-- the table was begun and told these lines, the newest call first
abbrev pub lines_told : List (List ℕ) → SocketRecord
lines_told lines = map TellsLine (reverse lines) ++ (BeginsTable true ∷ [])

-- **a whole reading (`IsWholeReading`)**: the calls are those of one reading of the table, of these lines: from its
-- start to its end, or to a line that cannot be read, or to the millionth line. If the system tells no table, it has
-- none.
pub data IsWholeReading (since : SocketRecord) (lines : List (List ℕ)) : Type 0 where
  HasNoTable : lines ≡ [] → since ≡ BeginsTable false ∷ [] → IsWholeReading since lines
  ReadsToEnd : length lines < most_table_lines → since ≡ EndsTable ∷ lines_told lines → IsWholeReading since lines
  ReadsMost : length lines ≡ most_table_lines → since ≡ lines_told lines → IsWholeReading since lines

-- one of the lines alone is of the peer's end of a connection between these ends, and that user owns its socket
pub record IsOwnerAmong (lines : List (List ℕ)) (peer ours : SocketAddrV4) (user : ℕ) : Type 0 where
  pub line : List ℕ
  pub only : filter (is_socket_between (end_text peer) (end_text ours)) lines ≡ line ∷ []
  pub owned : IsOwnedBy line user

-- that is the user, or there is none
abbrev pub NamesOwner : List (List ℕ) → SocketAddrV4 → SocketAddrV4 → Option ℕ → Type 0
NamesOwner lines peer ours (Some user) = IsOwnerAmong lines peer ours user
NamesOwner lines peer ours None = (user : ℕ) → user < 2 ^ 32 → ¬ IsOwnerAmong lines peer ours user

-- **whose a control connection is (`IsAskedFor`)**: behind its accept a whole reading was made, and the owner is whom
-- that names for its two ends. If an end is not known, there is no reading and no owner.
pub data IsAskedFor (peer ours : Option SocketAddrV4) (since : SocketRecord) (owner : Option ℕ) : Type 0 where
  ByTable : (there here : SocketAddrV4) → peer ≡ Some there → ours ≡ Some here → (lines : List (List ℕ))
      → IsWholeReading since lines → NamesOwner lines there here owner → IsAskedFor peer ours since owner
  WithoutPeer : peer ≡ None → since ≡ [] → owner ≡ None → IsAskedFor peer ours since owner
  WithoutOurs : ours ≡ None → since ≡ [] → owner ≡ None → IsAskedFor peer ours since owner

-- 127.0.0.1 and that port, as the table writes it
abbrev pub own_end_text : ℕ → List ℕ
own_end_text port = encode_upper (1 ∷ 0 ∷ 0 ∷ 127 ∷ []) ++ (58 ∷ encode_upper (port / 256 ∷ port % 256 ∷ []))

-- a line is of a socket whose own end is that
abbrev pub is_of_peer : Option SocketAddrV4 → List ℕ → Bool
is_of_peer None line = false
is_of_peer (Some peer) line = is_in_field 1 (end_text peer) line

-- a line is of a user's socket that has this end, is connected to that port here, and is had by some process
abbrev pub is_line_of : ℕ → ℕ → Option SocketAddrV4 → List ℕ → Bool
is_line_of port user peer line = is_socket_to (own_end_text port) (decimal user) line && is_of_peer peer line

-- one of the lines is
abbrev pub is_line_among : ℕ → ℕ → Option SocketAddrV4 → List (List ℕ) → Bool
is_line_among port user peer [] = false
is_line_among port user peer (line ∷ lines) = is_line_of port user peer line || is_line_among port user peer lines
