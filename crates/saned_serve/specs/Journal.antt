-- What a server does, as one list: each call of the daemon, of a connection and of the listeners,
-- in order.
use Rattle.std.specs.Prelude.{◌≡◌, ◌≢◌, ℕ, ◌+◌, ◌-◌, ◌≤◌, ◌<◌, Bool, true, false, not, ◌||◌, Option, None}
use Rattle.std.specs.Prelude.{if◌then◌else◌, ◌==◌, Some, List, [], ◌∷◌, ◌++◌, length, ◌⊎◌}
use Rattle.saned_core.specs.DaemonStates.{Core, is_closed, is_waiting}
use Rattle.saned_serve.specs.ConnectionTraces.{ConnectionTrace, trace_bytes_read, trace_bytes_written, lost_in, IsTrace}
use Rattle.saned_serve.specs.ConnectionTraces.ConnectionCall.{Read, Write}
use Rattle.saned_serve.specs.ListenerTraces.{ListenerTrace, with_notice}
use Rattle.saned_serve.specs.ListenerTraces.Notice.{Asked, Port, Forgot, Dialed, Shut, Back}
use Rattle.saned_serve.specs.SessionActions.{SessionAction, ActsOn, makes_progress, leaves, opens_session}
use Rattle.saned_serve.specs.SessionActions.{is_end_record, is_idle, ends_session}
use Rattle.saned_serve.specs.SessionActions.SessionAction.{Opens, Hears, Feed, Forgets, Take, Says, Looks, Misses}
use Rattle.saned_serve.specs.SessionActions.SessionAction.{Connect, Turn, Shows, Lose, HangsUp, Leaves}

-- **journal (`LoopAction`, `MayDo`, `IsEnabledAfter`, `IsJournal`)**: one list, newest first: acts, each with its
-- session's number; that eight sessions stand; an accept to which nobody came; a connection that is refused; the end of
-- a turn, and of all turns. Each action has its place. An accept is asked for once a turn, and only while fewer than
-- eight sessions stand (`MayAsk`, `open_sessions`). In a turn a control connection is read at most once, before it is
-- written, and written at most once. Behind that one data connection at most is awaited, and one record at most offered
-- (`IsDataDue`). A control connection is read only when all replies taken are written and the daemon had no more. What
-- it brought, 1 to 4,096 bytes, is fed at once. Only if a frame begins with that are the listeners asked to forget what
-- has ended at its port, before a reply is taken. Replies and records are taken only when what was taken before is
-- written, each write offers all that waits, and no record is taken behind the end record. A data connection is awaited
-- if a frame waits, at the session's own port. It is handed back only when its end record is written, when the daemon
-- was told its loss, or when its session may be left. A session is left only if its control connection was found lost,
-- or if it is over, the daemon has no more replies and all are written. Then its port is closed and its control
-- connection handed back. Both also come once all turns are over.
pub data LoopAction : Type 0 where
  -- an act for the session of that number
  Of : (number : ℕ) (act : SessionAction) → LoopAction
  -- eight sessions stand, and no control connection is asked for
  Full : LoopAction
  -- one was asked for, and none came
  Waits : LoopAction
  -- one came and is handed back: it got no data port, or no session, and then its port is closed
  Refuses : (port : Option ℕ) (trace : Option ConnectionTrace) → LoopAction
  -- a turn is over
  Turned : LoopAction
  -- all turns are over
  Stops : LoopAction

-- ---- the projection of a session

pub record SessionProjection : Type 0 where
  -- its control connection is not handed back, and its data port is this
  pub is_open : Bool
  pub port : ℕ
  -- its control connection was read or written in this turn, and it was written
  pub visited : Bool
  pub spoken : Bool
  -- the daemon told that it is over; and no replies were left when they were last asked for,
  -- behind the last feed
  pub over : Bool
  pub drained : Bool
  -- a frame began with the last piece that was fed, and the listeners were not told yet
  pub begun : Bool
  -- all that was fed, all replies taken, and the calls of its control connection
  pub heard : List ℕ
  pub said : List ℕ
  pub control : ConnectionTrace
  -- its data connection is not handed back
  pub imaging : Bool
  -- all records taken for that, the end record is among them, the calls of it, and the daemon was
  -- told its loss
  pub shown : List ℕ
  pub last : Bool
  pub image : ConnectionTrace
  pub dropped : Bool
  -- the data had their part of this turn, behind what was fed last in it: of a data connection, a record was offered or
  -- there was none; without one, none was awaited, or none came
  pub tended : Bool

abbrev pub empty_projection : SessionProjection
empty_projection = record {
  is_open = false;
  port = 0;
  visited = false;
  spoken = false;
  over = false;
  drained = false;
  begun = false;
  heard = [];
  said = [];
  control = [];
  imaging = false;
  shown = [];
  last = false;
  image = [];
  dropped = false;
  tended = false;
}

abbrev pub no_bytes : List ℕ → Bool
no_bytes [] = true
no_bytes (byte ∷ bytes) = false

abbrev pub projection_after : SessionAction → SessionProjection → SessionProjection
projection_after (Opens port) projection = record empty_projection { is_open = true; port = port }
projection_after (Hears got room bytes) projection = record projection {
  visited = true;
  control = Read got room bytes ∷ projection.control;
}
projection_after (Feed piece fed begins) projection = record projection {
  heard = projection.heard ++ piece;
  over = projection.over || ends_session fed;
  drained = false;
  begun = begins;
  tended = false;
}
projection_after (Forgets told port) projection = record projection { begun = false }
projection_after (Take room bytes) projection = record projection {
  said = projection.said ++ bytes;
  drained = no_bytes bytes;
}
projection_after (Says got bytes) projection = record projection {
  visited = true;
  spoken = true;
  control = Write got bytes ∷ projection.control;
}
projection_after (Looks frame) projection = record projection { tended = not (is_waiting frame) }
projection_after (Misses port) projection = record projection { tended = true }
projection_after (Connect port) projection = record projection {
  imaging = true;
  shown = [];
  last = false;
  image = [];
  dropped = false;
  tended = false;
}
projection_after (Turn room step bytes) projection = record projection {
  shown = projection.shown ++ bytes;
  last = projection.last || is_end_record step;
  tended = is_idle step;
}
projection_after (Shows got bytes) projection = record projection {
  image = Write got bytes ∷ projection.image;
  tended = true;
}
projection_after Lose projection = record projection { dropped = true }
projection_after (HangsUp trace) projection = record projection { imaging = false }
projection_after (Leaves port trace) projection = record projection { is_open = false }

abbrev pub concerns : LoopAction → ℕ → Bool
concerns (Of number act) id = number == id
concerns Full id = false
concerns Waits id = false
concerns (Refuses port trace) id = false
concerns Turned id = true
concerns Stops id = false

abbrev pub projection_after_action : LoopAction → SessionProjection → SessionProjection
projection_after_action (Of number act) projection = projection_after act projection
projection_after_action Full projection = projection
projection_after_action Waits projection = projection
projection_after_action (Refuses port trace) projection = projection
projection_after_action Turned projection = record projection { visited = false; spoken = false; tended = false }
projection_after_action Stops projection = projection

-- **projection (`projection_of`)**: of a session in a journal: its port, whether its connections are still held,
-- whether it is over, all that it was fed, all replies taken, all records of its last data connection, and all calls of
-- both connections.
--
-- the projection of a session in a journal, which has its newest action first
unfoldable pub projection_of : ℕ → List LoopAction → SessionProjection
projection_of id [] = empty_projection
projection_of id (action ∷ past) =
    if concerns action id then projection_after_action action (projection_of id past) else projection_of id past

-- ---- what may be done

-- why a session may be left: its control connection was found lost, or it is over and all its
-- replies are written
abbrev pub MayBeLeft : SessionProjection → Type 0
MayBeLeft projection =
    (lost_in projection.control ≡ true)
    ⊎ ((projection.over ≡ true) × (projection.drained ≡ true)
    × (trace_bytes_written projection.control ≡ projection.said))

-- why a data connection may be handed back: its end record is written, the daemon was told that it
-- is lost, or the session may be left
abbrev pub MayHandBackData : SessionProjection → Type 0
MayHandBackData projection =
    ((projection.last ≡ true) × (trace_bytes_written projection.image ≡ projection.shown))
    ⊎ ((projection.dropped ≡ true) ⊎ MayBeLeft projection)

-- the room for what is read at once, for replies, and for a record and its length
abbrev pub most_piece : ℕ
most_piece = 4096

abbrev pub most_reply : ℕ
most_reply = 4096

abbrev pub most_record : ℕ
most_record = 65483

-- the one text begins the other
abbrev pub IsFront : List ℕ → List ℕ → Type 0
IsFront front text = (rest : List ℕ) × (text ≡ front ++ rest)

-- in this turn its control connection had its part, and its data not yet theirs
abbrev pub IsDataDue : SessionProjection → Type 0
IsDataDue projection = (projection.visited ≡ true) × (projection.tended ≡ false)

-- Each act has its place. In a turn a control connection is read at most once and then written at most once, and then
-- at most one record is offered to the data connection, or one is awaited. A control connection is read only when every
-- reply that the daemon has for it is written. What it brought, 1 to 4,096 bytes, is fed at once. Only if a frame
-- begins with that are the listeners asked to forget what has ended at the session's data port, before any reply is
-- taken. What is taken of the daemon is written whole before more is taken. A data connection is awaited at the
-- session's own port. A connection that is handed back was written a front of the session's replies, or of its records.
abbrev pub MayDo : SessionAction → SessionProjection → Bool → Type 0
MayDo (Opens port) projection stopped = projection ≡ empty_projection
MayDo (Hears got room bytes) projection stopped =
    (projection.is_open ≡ true)
    × (projection.drained ≡ true)
    × (trace_bytes_written projection.control ≡ projection.said)
    × (trace_bytes_read projection.control ≡ projection.heard)
    × (projection.visited ≡ false)
    × (room ≡ most_piece)
MayDo (Feed piece fed begins) projection stopped =
    (projection.is_open ≡ true)
    × (projection.heard ++ piece ≡ trace_bytes_read projection.control)
    × (piece ≢ [])
    × (length piece ≤ most_piece)
MayDo (Forgets told port) projection stopped =
    (projection.is_open ≡ true)
    × (projection.begun ≡ true)
    × (port ≡ projection.port)
MayDo (Take room bytes) projection stopped =
    (projection.is_open ≡ true)
    × (projection.begun ≡ false)
    × (room ≡ most_reply)
    × (trace_bytes_written projection.control ≡ projection.said)
MayDo (Says got bytes) projection stopped =
    (projection.is_open ≡ true)
    × (bytes ≢ [])
    × (trace_bytes_written projection.control ++ bytes ≡ projection.said)
    × (projection.spoken ≡ false)
MayDo (Looks frame) projection stopped = (projection.is_open ≡ true) × (projection.imaging ≡ false)
    × IsDataDue projection
MayDo (Misses port) projection stopped =
    (projection.is_open ≡ true)
    × (projection.imaging ≡ false)
    × (port ≡ projection.port)
    × IsDataDue projection
MayDo (Connect port) projection stopped =
    (projection.is_open ≡ true)
    × (projection.imaging ≡ false)
    × (port ≡ projection.port)
    × IsDataDue projection
MayDo (Turn room step bytes) projection stopped =
    (projection.is_open ≡ true)
    × (projection.imaging ≡ true)
    × (room ≡ most_record)
    × (projection.last ≡ false)
    × (trace_bytes_written projection.image ≡ projection.shown)
    × IsDataDue projection
MayDo (Shows got bytes) projection stopped =
    (projection.is_open ≡ true)
    × (projection.imaging ≡ true)
    × (bytes ≢ [])
    × (trace_bytes_written projection.image ++ bytes ≡ projection.shown)
    × IsDataDue projection
MayDo Lose projection stopped =
    (projection.is_open ≡ true)
    × (projection.imaging ≡ true)
    × (lost_in projection.image ≡ true)
MayDo (HangsUp trace) projection stopped =
    (projection.is_open ≡ true)
    × (projection.imaging ≡ true)
    × IsTrace trace projection.image
    × IsFront (trace_bytes_written projection.image) projection.shown
    × (MayHandBackData projection ⊎ (stopped ≡ true))
MayDo (Leaves port trace) projection stopped =
    (projection.is_open ≡ true)
    × (projection.imaging ≡ false)
    × (port ≡ projection.port)
    × IsTrace trace projection.control
    × (trace_bytes_read projection.control ≡ projection.heard)
    × IsFront (trace_bytes_written projection.control) projection.said
    × (MayBeLeft projection ⊎ (stopped ≡ true))

-- **settled (`IsBehindItsTurn`)**: what the end of a turn asks of each session that stands. Its connection was read or
-- written in this turn and is not known to be lost. If it is over, the daemon gave replies when it was last asked.
-- Behind what it was fed its data had their part (`tended`): of a data connection a record was offered or there was
-- none; else no frame waited or nobody came to its port. Its data connection is not known to be lost, and the end
-- record is not wholly written. A turn ends only if an accept was asked for in it, or eight sessions stood
-- (`has_asked`).
pub record IsBehindItsTurn (projection : SessionProjection) : Type 0 where
  pub visited : projection.visited ≡ true
  pub held : lost_in projection.control ≡ false
  pub replies : projection.over ≡ true → projection.drained ≡ false
  pub tended : projection.tended ≡ true
  pub shows : projection.imaging ≡ true
      → (lost_in projection.image ≡ false)
      × (projection.last ≡ true → trace_bytes_written projection.image ≢ projection.shown)

-- all turns are over
abbrev pub has_stopped : List LoopAction → Bool
has_stopped [] = false
has_stopped (Of number act ∷ past) = has_stopped past
has_stopped (Full ∷ past) = has_stopped past
has_stopped (Waits ∷ past) = has_stopped past
has_stopped (Refuses port trace ∷ past) = has_stopped past
has_stopped (Turned ∷ past) = has_stopped past
has_stopped (Stops ∷ past) = true

-- as many sessions as are served at once
abbrev pub most_sessions : ℕ
most_sessions = 8

-- in the turn that is not over a control connection was asked for, or eight sessions stood
abbrev pub has_asked : List LoopAction → Bool
has_asked [] = false
has_asked (Of number act ∷ past) = has_asked past || opens_session act
has_asked (Full ∷ past) = true
has_asked (Waits ∷ past) = true
has_asked (Refuses port trace ∷ past) = true
has_asked (Turned ∷ past) = false
has_asked (Stops ∷ past) = has_asked past

-- **open sessions (`open_sessions`, `AreOpenSessions`)**: how many sessions stand, as a journal counts them: those that
-- were opened, less those that were left. There are that many numbers, and each session that stands has its own among
-- them.
abbrev pub open_sessions : List LoopAction → ℕ
open_sessions [] = 0
open_sessions (Of number act ∷ past) =
    (if opens_session act then open_sessions past + 1 else open_sessions past) - leaves act
open_sessions (Full ∷ past) = open_sessions past
open_sessions (Waits ∷ past) = open_sessions past
open_sessions (Refuses port trace ∷ past) = open_sessions past
open_sessions (Turned ∷ past) = open_sessions past
open_sessions (Stops ∷ past) = open_sessions past

-- a control connection is asked for once a turn, and only while fewer than eight sessions stand
abbrev pub MayAsk : List LoopAction → Type 0
MayAsk past = (has_asked past ≡ false) × (open_sessions past < most_sessions)

-- a turn ends only where one was asked for in it, or eight sessions stood, and where each session
-- that stands is settled
abbrev pub IsEnabledAfter : LoopAction → List LoopAction → Type 0
IsEnabledAfter (Of number act) past =
    MayDo act (projection_of number past) (has_stopped past)
    × (opens_session act ≡ true → MayAsk past)
IsEnabledAfter Full past = (has_asked past ≡ false) × (open_sessions past ≡ most_sessions)
IsEnabledAfter Waits past = MayAsk past
IsEnabledAfter (Refuses port trace) past = MayAsk past × IsTrace trace []
IsEnabledAfter Turned past =
    (has_asked past ≡ true)
    × ((id : ℕ) → (projection_of id past).is_open ≡ true → IsBehindItsTurn (projection_of id past))
IsEnabledAfter Stops past = Unit {0}

abbrev pub IsJournal : List LoopAction → Type 0
IsJournal [] = Unit {0}
IsJournal (action ∷ past) = IsJournal past × IsEnabledAfter action past

-- ---- what a journal does to the daemon, and how it shows with the listeners

abbrev pub IsRefusedConnection : Option ℕ → Core → Type 0
IsRefusedConnection None d = Unit {0}
IsRefusedConnection (Some port) d = is_closed d ≡ true

abbrev pub Steps : Core → LoopAction → Core → Type 0
Steps d (Of number act) e = ActsOn number d act e
Steps d Full e = e ≡ d
Steps d Waits e = e ≡ d
Steps d (Refuses port trace) e = IsRefusedConnection port d × (e ≡ d)
Steps d Turned e = e ≡ d
Steps d Stops e = e ≡ d

-- the daemon behind a journal is what its actions make of the one before it
abbrev pub DaemonRuns : Core → List LoopAction → Core → Type 0
DaemonRuns d [] e = e ≡ d
DaemonRuns d (action ∷ past) e = (mid : Core) × DaemonRuns d past mid × Steps mid action e

abbrev pub listener_trace_act : SessionAction → Option ListenerTrace → Option ListenerTrace
listener_trace_act (Opens port) listeners = with_notice (Port (Some port)) (with_notice (Asked true) listeners)
listener_trace_act (Hears got room bytes) listeners = listeners
listener_trace_act (Feed piece fed begins) listeners = listeners
listener_trace_act (Forgets told port) listeners = if told then with_notice (Forgot port) listeners else listeners
listener_trace_act (Take room bytes) listeners = listeners
listener_trace_act (Says got bytes) listeners = listeners
listener_trace_act (Looks frame) listeners = listeners
listener_trace_act (Misses port) listeners = with_notice (Dialed port false) listeners
listener_trace_act (Connect port) listeners = with_notice (Dialed port true) listeners
listener_trace_act (Turn room step bytes) listeners = listeners
listener_trace_act (Shows got bytes) listeners = listeners
listener_trace_act Lose listeners = listeners
listener_trace_act (HangsUp trace) listeners = with_notice (Back trace) listeners
listener_trace_act (Leaves port trace) listeners = with_notice (Back trace) (with_notice (Shut port) listeners)

abbrev pub listener_trace_port : Option ℕ → Option ListenerTrace → Option ListenerTrace
listener_trace_port None listeners = with_notice (Port None) listeners
listener_trace_port (Some port) listeners = with_notice (Shut port) (with_notice (Port (Some port)) listeners)

abbrev pub listener_trace_step : LoopAction → Option ListenerTrace → Option ListenerTrace
listener_trace_step (Of number act) listeners = listener_trace_act act listeners
listener_trace_step Full listeners = listeners
listener_trace_step Waits listeners = with_notice (Asked false) listeners
listener_trace_step (Refuses port trace) listeners =
    with_notice (Back trace) (listener_trace_port port (with_notice (Asked true) listeners))
listener_trace_step Turned listeners = listeners
listener_trace_step Stops listeners = listeners

abbrev pub listener_trace_after : List LoopAction → Option ListenerTrace → Option ListenerTrace
listener_trace_after [] listeners = listeners
listener_trace_after (action ∷ past) listeners = listener_trace_step action (listener_trace_after past listeners)

-- **leads (`JournalLeads`, `DaemonRuns`, `listener_trace_step`)**: a journal leads from one daemon and listener trace
-- to others. Its actions make the daemon behind it of the one before, and the listener trace shows each action that
-- asks the listeners.
pub record JournalLeads (d : Core) (before : Option ListenerTrace) (journal : List LoopAction) (e : Core)
    (after : Option ListenerTrace) : Type 0 where
  pub is_journal : IsJournal journal
  pub run : DaemonRuns d journal e
  pub net : after ≡ listener_trace_after journal before
  -- the numbers of sessions still to come are unused
  pub unused : (id : ℕ) → e.opened ≤ id → projection_of id journal ≡ empty_projection

-- ---- what is counted

pub record Tally : Type 0 where
  -- sessions that left
  pub left : ℕ
  -- turns, and how many of them, in a row to the last one, nothing moved in
  pub turns : ℕ
  pub idle : ℕ
  -- something moved in the turn that is not over
  pub stir : Bool

abbrev pub after_tally : LoopAction → Tally → Tally
after_tally (Of number act) t = record t { left = t.left + leaves act; stir = t.stir || makes_progress act }
after_tally Full t = t
after_tally Waits t = t
after_tally (Refuses port trace) t = record t { stir = t.stir || true }
after_tally Turned t = record {
  left = t.left;
  turns = t.turns + 1;
  idle = if t.stir then 0 else t.idle + 1;
  stir = false;
}
after_tally Stops t = t

-- **tally (`tally_of`)**: how many sessions left in a journal, how many turns it has, and how many turns in a row, up
-- to the last, moved nothing: no connection came, no byte moved and none was found lost.
abbrev pub tally_of : List LoopAction → Tally
tally_of [] = record { left = 0; turns = 0; idle = 0; stir = false }
tally_of (action ∷ past) = after_tally action (tally_of past)

-- ---- a journal that goes on

-- a session is left, or its data connection before
abbrev pub IsClosingAct : SessionAction → Type 0
IsClosingAct (HangsUp trace) = Unit {0}
IsClosingAct (Leaves port trace) = Unit {0}
IsClosingAct _ = ⊥

abbrev pub IsClosingAction : LoopAction → Type 0
IsClosingAction (Of number act) = IsClosingAct act
IsClosingAction _ = ⊥

abbrev pub AreEnds : List LoopAction → Type 0
AreEnds [] = Unit {0}
AreEnds (action ∷ past) = IsClosingAction action × AreEnds past

-- the journal went on by ends alone
abbrev pub Closing : List LoopAction → List LoopAction → Type 0
Closing past journal = (since : List LoopAction) × AreEnds since × (journal ≡ since ++ past)
