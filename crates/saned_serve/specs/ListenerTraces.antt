-- What a set of listeners keeps of what it was asked.
use Rattle.std.specs.Prelude.{◌≡◌, ◌⊎◌, ℕ, Bool, Option, None, Some, List, ◌∷◌}
use Rattle.saned_serve.specs.ConnectionTraces.{ConnectionTrace}

-- **listener trace (`Notice`, `ListenerTrace`, `with_notice`)**: all that the listeners were asked, the newest first: a
-- control connection, which came or did not; a data port, and which; to forget connections of a data port that have
-- ended; a data connection at a port, which came or did not; a port closed; a connection handed back, with all its
-- calls.
pub data Notice : Type 0 where
  -- a control connection was asked for, and came or did not
  Asked : (came : Bool) → Notice
  -- a data port was asked for
  Port : (port : Option ℕ) → Notice
  -- connections at that port that had ended were to be forgotten
  Forgot : (port : ℕ) → Notice
  -- a data connection at that port was asked for, and came or did not
  Dialed : (port : ℕ) (came : Bool) → Notice
  -- that port was closed
  Shut : (port : ℕ) → Notice
  -- a connection was handed back, and had told this
  Back : (trace : Option ConnectionTrace) → Notice

-- all of it, the newest first
abbrev pub ListenerTrace : Type 0
ListenerTrace = List Notice

abbrev pub with_notice : Notice → Option ListenerTrace → Option ListenerTrace
with_notice notice None = None
with_notice notice (Some listeners) = Some (notice ∷ listeners)

-- asked to forget what has ended at a port: the listener trace tells so, or is as it was where nothing is
-- ever forgotten
abbrev pub IsForgotten : ℕ → Option ListenerTrace → Option ListenerTrace → Type 0
IsForgotten port before after = (after ≡ before) ⊎ (after ≡ with_notice (Forgot port) before)
