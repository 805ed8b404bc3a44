-- The system's table of sockets, as Linux tells it in /proc/net/tcp: a line of headings, and a line for each socket,
-- whose fields stand between blanks. Counted from 0, field 1 is the socket's own end, field 2 its peer's, field 7 the
-- user who owns it, and field 9 the number of its inode, which is 0 where no process has the socket any more.
use Rattle.std.specs.Prelude.{ℕ, ◌≡◌, ◌≢◌, ◌/◌, ◌%◌, ◌&&◌, ◌||◌, Bool, false, Option, Some, None, List, [], ◌∷◌}
use Rattle.std.specs.Prelude.{◌++◌, codes, decimal, filter, not, slice_index}
use Rattle.std.specs.List.{slice_get}
use Rattle.std.specs.Str.{bytes_eq}
use Rattle.std.specs.declared.net.socket_addr.SocketAddrV4.{SocketAddrV4}
use Rattle.std.specs.Net.Addr.{ipv4_octets}
use Rattle.std.specs.Net.Socket.{v4_ip, v4_port}
use Rattle.hex.specs.Hex.{encode_upper}
use Rattle.text_lines.specs.Lines.{lines_of}
use Rattle.dispatch.specs.ConfigLines.{fields_of}

-- one end of a connection: the four bytes of its address, the last of them first, a colon, and the two bytes of its
-- port, in hexadecimal digits, in capitals
abbrev pub end_text : SocketAddrV4 → List ℕ
end_text end = let octets : List ℕ = ipv4_octets (v4_ip end) in
    encode_upper (slice_index octets 3 ∷ slice_index octets 2 ∷ slice_index octets 1 ∷ slice_index octets 0 ∷ [])
    ++ (58 ∷ encode_upper (v4_port end / 256 ∷ v4_port end % 256 ∷ []))

-- a line has that text in its field of that number
abbrev pub is_in_field : ℕ → List ℕ → List ℕ → Bool
is_in_field place text line = is_text (slice_get (fields_of line) place)
  where
    is_text : Option (List ℕ) → Bool
    is_text None = false
    is_text (Some field) = bytes_eq field text

-- a line is of a socket that has these ends, its own and its peer's
abbrev pub is_socket_between : List ℕ → List ℕ → List ℕ → Bool
is_socket_between own peer line = is_in_field 1 own line && is_in_field 2 peer line

-- the lines of such sockets
unfoldable pub sockets_between : List ℕ → List ℕ → List ℕ → List (List ℕ)
sockets_between own peer table = filter (is_socket_between own peer) (lines_of table)

-- some process has the socket of a line, and that user owns it
pub record IsOwnedBy (line : List ℕ) (user : ℕ) : Type 0 where
  pub inode : List ℕ
  pub inode_is : slice_get (fields_of line) 9 ≡ Some inode
  pub held : inode ≢ codes "0"
  pub user_is : slice_get (fields_of line) 7 ≡ Some (decimal user)

-- the table has one line for the peer's end of a connection between `peer` and `ours`, and that user owns it
pub record IsOwner (table : List ℕ) (peer ours : SocketAddrV4) (user : ℕ) : Type 0 where
  pub line : List ℕ
  pub only : sockets_between (end_text peer) (end_text ours) table ≡ line ∷ []
  pub owned : IsOwnedBy line user

-- some process has the socket of a line
abbrev pub is_had : List ℕ → Bool
is_had line = is_inode (slice_get (fields_of line) 9)
  where
    is_inode : Option (List ℕ) → Bool
    is_inode None = false
    is_inode (Some inode) = not (bytes_eq inode (codes "0"))

-- a line is of a socket of that user which has this peer's end, and some process has it
abbrev pub is_socket_to : List ℕ → List ℕ → List ℕ → Bool
is_socket_to peer user line = is_in_field 2 peer line && is_in_field 7 user line && is_had line

-- one of the lines has that text as its socket's own end
abbrev pub is_end_among : List ℕ → List (List ℕ) → Bool
is_end_among own [] = false
is_end_among own (line ∷ lines) = is_in_field 1 own line || is_end_among own lines

-- the lines of such sockets
unfoldable pub held_lines : List ℕ → List ℕ → List ℕ → List (List ℕ)
held_lines peer user table = filter (is_socket_to peer user) (lines_of table)
