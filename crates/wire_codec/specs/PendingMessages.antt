-- What was wanted when a decoder's rest was last read.
use Rattle.std.specs.Prelude.{◌≡◌, ◌≤◌, ℕ, List, length, take, Option, Some, None, Err}
use Rattle.wire_format.specs.declared.fault.MissingBytes.{MissingBytes}
use Rattle.wire_format.specs.declared.fault.ReadStop.TheVariants.{More}
use Rattle.wire_format.specs.Limit.{limited_format}
use Rattle.wire_codec.specs.declared.decoder.Pending.{Pending}
use Rattle.wire_message.specs.declared.message.Procedure.{Procedure}
use Rattle.wire_message.specs.Message.{message_limit, request, reply}

-- reading the bytes, for a request or for the reply to a procedure, wants more
abbrev pub StopsForMore : Option Procedure → List ℕ → MissingBytes → Type 0
StopsForMore None bytes wanted = (limited_format message_limit request).read bytes ≡ Err (More wanted)
StopsForMore (Some procedure) bytes wanted =
    (limited_format message_limit (reply procedure)).read bytes ≡ Err (More wanted)

-- **pending (`IsPending`, `StopsForMore`)**: the front of the rest that was read last, for which message, and what was
-- wanted then.
pub record IsPending (rest : List ℕ) (p : Pending) : Type 0 where
  pub within : p.seen ≤ length rest
  pub stops : StopsForMore p.procedure (take p.seen rest) p.wanted
