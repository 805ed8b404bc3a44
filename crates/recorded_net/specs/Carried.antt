-- What the connections carried that recorded listeners took back.
use Rattle.std.specs.Prelude.{ℕ, ◌≡◌, true, false, Bool, Some, List, [], ◌∷◌, ◌++◌}
use Rattle.saned_serve.specs.ConnectionTraces.{ConnectionTrace, lost_in, trace_bytes_read, trace_bytes_written}
use Rattle.saned_serve.specs.Journal.{IsFront, LoopAction, SessionProjection, has_stopped, projection_of}
use Rattle.saned_serve.specs.Journal.LoopAction.{Of}
use Rattle.saned_serve.specs.JournalSummary.{IsInJournal}
use Rattle.saned_serve.specs.SessionActions.SessionAction.{HangsUp, Leaves, Opens}
use Rattle.saned_serve.specs.Serving.{DaemonAndListeners, HasServed, ServeLimits}
use Rattle.saned_serve.specs.declared.serving.ServeEnd.{ServeEnd}
use Rattle.recorded_net.specs.ListenerCalls.{ListenerCall, trace_of_calls}
use Rattle.recorded_net.specs.ListenerCalls.ListenerCall.{TookBack}
use Rattle.recorded_net.specs.NetsBack.{IsUnasked}

-- **what a control connection carried (`CarriesReplies`)**: all that was read of it was fed to its session, each byte
-- once and in order, and nothing else was. What it took is a front of the session's replies. It is all of them, unless
-- a call found the connection lost, or the server had stopped.
pub record CarriesReplies (session : SessionProjection) (stopped : Bool) (calls : ConnectionTrace) : Type 0 where
  pub fed : trace_bytes_read calls ≡ session.heard
  pub front : IsFront (trace_bytes_written calls) session.said
  pub whole : lost_in calls ≡ false → stopped ≡ false → trace_bytes_written calls ≡ session.said

-- **what a data connection carried (`CarriesFrame`)**: nothing was read of it, and it took a front of the records of
-- its frame. It took all of them, the end record among them, unless a call found it or the session's control connection
-- lost, the session was over, or the server had stopped.
pub record CarriesFrame (session : SessionProjection) (stopped : Bool) (calls : ConnectionTrace) : Type 0 where
  pub unread : trace_bytes_read calls ≡ []
  pub front : IsFront (trace_bytes_written calls) session.shown
  pub whole : lost_in calls ≡ false → lost_in session.control ≡ false → session.over ≡ false → stopped ≡ false
      → (session.last ≡ true) × (trace_bytes_written calls ≡ session.shown)

-- **one connection's own (`CarriesItsOwn`)**: a connection that was taken back was the control connection of a session
-- that was left, or a data connection of one, and carried what is that session's. Or it was refused, and carried
-- nothing.
pub data CarriesItsOwn (journal : List LoopAction) (calls : ConnectionTrace) : Type 0 where
  Control : (id port : ℕ) (since past : List LoopAction)
      → journal ≡ since ++ Of id (Leaves port (Some calls)) ∷ past
      → CarriesReplies (projection_of id past) (has_stopped past) calls → CarriesItsOwn journal calls
  Data : (id : ℕ) (since past : List LoopAction) → journal ≡ since ++ Of id (HangsUp (Some calls)) ∷ past
      → CarriesFrame (projection_of id past) (has_stopped past) calls → CarriesItsOwn journal calls
  Refused : calls ≡ [] → CarriesItsOwn journal calls

-- a connection with these calls is among those that were taken back
abbrev pub WasTakenBack : ConnectionTrace → List ListenerCall → Type 0
WasTakenBack calls listened = (later earlier : List ListenerCall) × (listened ≡ later ++ TookBack calls ∷ earlier)

-- a session was left, and its control connection, which was taken back, carried what is its own
pub record HasItsConnection (journal : List LoopAction) (listened : List ListenerCall) (id : ℕ) : Type 0 where
  pub port : ℕ
  pub since : List LoopAction
  pub past : List LoopAction
  pub calls : ConnectionTrace
  pub left : journal ≡ since ++ Of id (Leaves port (Some calls)) ∷ past
  pub back : WasTakenBack calls listened
  pub carries : CarriesReplies (projection_of id past) (has_stopped past) calls

-- **connections carry what is their sessions' own (`CarryTheirOwn`)**: each that was taken back does, and each session
-- that was opened has its one among them.
pub record CarryTheirOwn (journal : List LoopAction) (listened : List ListenerCall) : Type 0 where
  pub each : (calls : ConnectionTrace) → WasTakenBack calls listened → CarriesItsOwn journal calls
  pub all : (id port : ℕ) → IsInJournal (Of id (Opens port)) journal → HasItsConnection journal listened id

-- so do those of any run of a server over listeners that were recorded from its begin on
abbrev pub SocketsCarryTheirOwn : Type 0
SocketsCarryTheirOwn = (limits : ServeLimits) (was now : DaemonAndListeners) (end : ServeEnd)
    (served : HasServed limits was now end) (listened : List ListenerCall)
    → IsUnasked was.listeners → now.listeners ≡ trace_of_calls listened → CarryTheirOwn served.journal listened
