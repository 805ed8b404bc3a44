-- What a connection tells of its calls.
use Rattle.std.specs.Prelude.{◌≡◌, ◌≤◌, ℕ, Bool, true, false, ◌||◌, Option, None, Some, List, [], ◌∷◌, ◌++◌, length}
use Rattle.std.specs.Prelude.{take}
use Rattle.saned_serve.specs.declared.sockets.Got.{Got}
use Rattle.saned_serve.specs.declared.sockets.Got.TheVariants.{Moved, Nothing, Lost}

-- **connection trace (`ConnectionCall`, `ConnectionTrace`, `after_read`, `after_write`, `IsTrace`)**: all calls of a
-- connection, the newest first, each with what it came to: a read with the size of its buffer and the bytes that it
-- brought, a write with the bytes that it was given. So one sees all that was read and taken, and whether a call found
-- the connection lost.
pub data ConnectionCall : Type 0 where
  -- a read into a buffer of so many bytes, and the bytes that it brought
  Read : (got : Got) (room : ℕ) (bytes : List ℕ) → ConnectionCall
  -- a write of these bytes, of which as many as moved were taken, the first ones
  Write : (got : Got) (bytes : List ℕ) → ConnectionCall

-- all calls of a connection, the newest first
abbrev pub ConnectionTrace : Type 0
ConnectionTrace = List ConnectionCall

-- what moved is at least one byte, and at most so many
abbrev pub MovesWithin : Got → ℕ → Type 0
MovesWithin (Moved n) most = (1 ≤ n) × (n ≤ most)
MovesWithin Nothing most = Unit {0}
MovesWithin Lost most = Unit {0}

-- how many bytes moved
abbrev pub bytes_moved : Got → ℕ
bytes_moved (Moved n) = n
bytes_moved Nothing = 0
bytes_moved Lost = 0

abbrev pub is_lost : Got → Bool
is_lost (Moved n) = false
is_lost Nothing = false
is_lost Lost = true

-- bytes moved, or the connection was found lost
abbrev pub stirs : Got → Bool
stirs (Moved n) = true
stirs Nothing = false
stirs Lost = true

abbrev pub after_read : Got → List ℕ → Option ConnectionTrace → Option ConnectionTrace
after_read got buf None = None
after_read got buf (Some trace) = Some (Read got (length buf) (take (bytes_moved got) buf) ∷ trace)

abbrev pub after_write : Got → List ℕ → Option ConnectionTrace → Option ConnectionTrace
after_write got buf None = None
after_write got buf (Some trace) = Some (Write got buf ∷ trace)

-- all that reads brought
abbrev pub trace_bytes_read : ConnectionTrace → List ℕ
trace_bytes_read [] = []
trace_bytes_read (Read got room bytes ∷ trace) = trace_bytes_read trace ++ bytes
trace_bytes_read (Write got bytes ∷ trace) = trace_bytes_read trace

-- all that writes were rid of
abbrev pub trace_bytes_written : ConnectionTrace → List ℕ
trace_bytes_written [] = []
trace_bytes_written (Read got room bytes ∷ trace) = trace_bytes_written trace
trace_bytes_written (Write got bytes ∷ trace) = trace_bytes_written trace ++ take (bytes_moved got) bytes

-- a call found it lost
abbrev pub lost_in : ConnectionTrace → Bool
lost_in [] = false
lost_in (Read got room bytes ∷ trace) = lost_in trace || is_lost got
lost_in (Write got bytes ∷ trace) = lost_in trace || is_lost got

-- where a connection tells its calls, they are these
abbrev pub IsTrace : Option ConnectionTrace → ConnectionTrace → Type 0
IsTrace None calls = Unit {0}
IsTrace (Some trace) calls = trace ≡ calls
