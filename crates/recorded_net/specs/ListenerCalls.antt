-- What a record of listeners has of them.
use Rattle.std.specs.Prelude.{Option, Some, List, map}
use Rattle.saned_serve.specs.ConnectionTraces.{ConnectionTrace}
use Rattle.saned_serve.specs.ListenerTraces.{ListenerTrace, Notice}
use Rattle.saned_serve.specs.ListenerTraces.Notice.{Asked as AskedNotice, Port as PortNotice, Forgot as ForgotNotice}
use Rattle.saned_serve.specs.ListenerTraces.Notice.{Dialed as DialedNotice, Shut as ShutNotice, Back}
use Rattle.recorded_net.specs.declared.asked_calls.Occurrence.{Occurrence}
use Rattle.recorded_net.specs.declared.asked_calls.Occurrence.TheVariants.{Asked, Port, Forgot, Dialed, Shut}

-- **a call of recorded listeners (`ListenerCall`)**: they were asked for something, or they took back a connection of
-- which all calls are known.
pub data ListenerCall : Type 0 where
  AskedFor : (occurrence : Occurrence) → ListenerCall
  TookBack : (calls : ConnectionTrace) → ListenerCall

-- as the trace of listeners has it
abbrev pub notice_of : Occurrence → Notice
notice_of (Asked came) = AskedNotice came
notice_of (Port port) = PortNotice port
notice_of (Forgot port) = ForgotNotice port
notice_of (Dialed port came) = DialedNotice port came
notice_of (Shut port) = ShutNotice port

abbrev pub notice_of_call : ListenerCall → Notice
notice_of_call (AskedFor occurrence) = notice_of occurrence
notice_of_call (TookBack calls) = Back (Some calls)

-- the trace of listeners whose calls are these, the newest first
abbrev pub trace_of_calls : List ListenerCall → Option ListenerTrace
trace_of_calls calls = Some (map notice_of_call calls)
