-- What private functions promise: how a session's turn, and all turns, go on with a journal.
use Rattle.std.specs.Prelude.{◌≡◌, ℕ, ◌+◌, Bool, ◌||◌, List, ◌++◌, ◌≢◌, true, false, ◌⊎◌, ◌-◌, Option, None, Some}
use Rattle.std.specs.Prelude.{is_some, [], drop, ◌≤◌, ◌<◌, zero, suc, IsSome, ◌∷◌}
use Rattle.saned_core.specs.declared.session_slot.Fed.{Fed}
use Rattle.saned_core.specs.DaemonStates.{Core}
use Rattle.saned_core.specs.declared.session_slot.SessionId.{SessionId}
use Rattle.saned_serve.specs.Journal.{LoopAction, Tally, SessionProjection, projection_of, Closing, JournalLeads}
use Rattle.saned_serve.specs.Journal.{tally_of, has_stopped, has_asked, open_sessions, MayBeLeft, empty_projection}
use Rattle.saned_serve.specs.Journal.{MayAsk, most_sessions}
use Rattle.saned_serve.specs.declared.sockets.Got.{Got}
use Rattle.saned_serve.specs.declared.sockets.Got.TheVariants.{Nothing}
use Rattle.saned_serve.specs.ConnectionTraces.{ConnectionTrace, trace_bytes_read, trace_bytes_written, lost_in, IsTrace}
use Rattle.saned_serve.specs.ConnectionTraces.{after_write, bytes_moved}
use Rattle.saned_serve.specs.ListenerTraces.{ListenerTrace, with_notice, IsForgotten}
use Rattle.saned_serve.specs.ListenerTraces.Notice.{Back}
use Rattle.saned_serve.specs.SessionActions.{ActsOn, ends_session}
use Rattle.saned_serve.specs.SessionActions.SessionAction.{Feed}
use Rattle.saned_serve.specs.declared.link.SessionLink.{SessionLink}
use Rattle.saned_serve.specs.Journal.LoopAction.{Turned}
use Rattle.saned_serve.specs.declared.link_slots.LinkSlot.{LinkSlot}
use Rattle.saned_serve.specs.declared.serving.ServeEnd.{ServeEnd}
use Rattle.saned_serve.specs.declared.link_slots.Visit.{Visit}
use Rattle.saned_serve.specs.declared.serving.TurnResult.{TurnResult}
use Rattle.saned_serve.specs.Serving.{DaemonAndListeners, LoopEndsBy, NothingIsOpen, ServeLimits}

-- so many sessions left more, and something moved or not
abbrev pub tally_with : ℕ → Bool → Tally → Tally
tally_with left stir t = record t { left = t.left + left; stir = t.stir || stir }

-- what was done before it still tells
abbrev pub Extends : List LoopAction → List LoopAction → Type 0
Extends past journal = (since : List LoopAction) × (journal ≡ since ++ past)

-- ---- a turn of one session's connections

-- **goes, parts (`TurnPhase`, `SessionTurn`, `LinkMatches`, `JournalGoesOn`, `Attends`, `SendsRecords`,
-- `LeavesSession`, `hung_up`)**: a session's connections tell its projection, by how far its turn is. A step of one
-- session leads from what its turn finds to what it leaves (daemon, listeners, connections). It keeps that, whatever
-- came before, and touches no other session. Its end hands back its data connection, if it has one, and leaves the
-- session.
pub data TurnPhase : Type 0 where
  -- it is over, or did not begin
  Fresh : TurnPhase
  -- it begins
  Due : TurnPhase
  -- replies were asked for, where none waited
  Filled : TurnPhase
  -- the control connection was read, or replies wait
  Heard : TurnPhase
  -- replies were asked for once more
  Ready : TurnPhase
  -- they were written once
  Spoken : TurnPhase
  -- its data connection was awaited, where there is none and a frame waits
  Dialed : TurnPhase
  -- a record was asked for, where there is one and none waited
  Loaded : TurnPhase
  -- it was written once
  Shown : TurnPhase

abbrev pub IsSpoken : {C : Type 0} → SessionProjection → SessionLink C → Type 0
IsSpoken projection l =
    (l.is_done ≡ true → MayBeLeft projection)
    × (projection.visited ≡ true)
    × (projection.over ≡ true → l.is_done ≡ true ⊎ (projection.drained ≡ false))

-- it had no part of the turn
abbrev pub IsDue : SessionProjection → Type 0
IsDue projection = (projection.visited ≡ false) × (projection.spoken ≡ false) × (projection.tended ≡ false)

abbrev pub IsAt : {C : Type 0} → TurnPhase → SessionProjection → SessionLink C → Type 0
IsAt Fresh projection l = l.is_done ≡ false
IsAt Due projection l = (l.is_done ≡ false) × IsDue projection
IsAt Filled projection l = (l.is_done ≡ false) × (l.replies ≡ [] → projection.drained ≡ true) × IsDue projection
IsAt Heard projection l =
    (l.is_done ≡ true → lost_in projection.control ≡ true)
    × ((projection.visited ≡ true) ⊎ (l.replies ≢ []))
    × (projection.spoken ≡ false)
    × (projection.tended ≡ false)
IsAt Ready projection l =
    (l.is_done ≡ true → lost_in projection.control ≡ true)
    × ((projection.visited ≡ true) ⊎ (l.replies ≢ []))
    × (l.replies ≡ [] → projection.drained ≡ true)
    × (projection.spoken ≡ false)
    × (projection.tended ≡ false)
IsAt Spoken projection l = IsSpoken projection l × (projection.tended ≡ false)
IsAt Dialed projection l =
    IsSpoken projection l
    × (l.image ≡ None → projection.tended ≡ true)
    × (is_some l.image ≡ true → projection.tended ≡ false)
IsAt Loaded projection l =
    IsSpoken projection l
    × (l.image ≡ None → projection.tended ≡ true)
    × (l.records ≡ [] → projection.tended ≡ true)
    × (is_some l.image ≡ true → l.records ≢ [] → projection.tended ≡ false)
IsAt Shown projection l = IsSpoken projection l × (projection.tended ≡ true)

-- a data connection was shown what its records had, but for those that wait, and is not lost
pub record ImageTraceMatches (trace : Option ConnectionTrace) (is_last : Bool) (records : List ℕ)
    (projection : SessionProjection) : Type 0 where
  pub imaging : projection.imaging ≡ true
  pub told : IsTrace trace projection.image
  pub shown : trace_bytes_written projection.image ++ records ≡ projection.shown
  pub last : is_last ≡ projection.last
  pub more : is_last ≡ true → records ≢ []
  pub held : lost_in projection.image ≡ false

abbrev pub ImageTraceMatchesIn : {C : Type 0} → (C → Option ConnectionTrace) → Option C → Bool → List ℕ
    → SessionProjection → Type 0
ImageTraceMatchesIn history None is_last records projection = projection.imaging ≡ false
ImageTraceMatchesIn history (Some conn) is_last records projection =
    ImageTraceMatches (history conn) is_last records projection

-- the connections of a session that stands tell its projection
pub record LinkMatches {C : Type 0} (history : C → Option ConnectionTrace) (phase : TurnPhase)
    (projection : SessionProjection) (l : SessionLink C) : Type 0 where
  pub is_open : projection.is_open ≡ true
  pub port : l.port ≡ projection.port
  pub over : l.is_over ≡ projection.over
  pub told : IsTrace (history l.conn) projection.control
  pub heard : trace_bytes_read projection.control ≡ projection.heard
  pub said : trace_bytes_written projection.control ++ l.replies ≡ projection.said
  pub waits : l.replies ≢ [] → projection.drained ≡ false
  pub quiet : projection.begun ≡ false
  pub held : l.is_done ≡ false → lost_in projection.control ≡ false
  pub carries : ImageTraceMatchesIn history l.image l.is_last l.records projection
  pub at : IsAt phase projection l

-- the journal went on, by actions of this session alone, and something moved or not
pub record HasGoneOn {C : Type 0} (history : C → Option ConnectionTrace) (phase : TurnPhase) (d0 : Core)
    (n0 : Option ListenerTrace) (past : List LoopAction) (id : ℕ) (stir : Bool) (e : Core) (m : Option ListenerTrace)
    (l : SessionLink C) : Type 0 where
  pub journal : List LoopAction
  pub more : Extends past journal
  pub leads : JournalLeads d0 n0 journal e m
  pub tells : LinkMatches history phase (projection_of id journal) l
  pub others : (j : ℕ) → j ≢ id → projection_of j journal ≡ projection_of j past
  pub tally : tally_of journal ≡ tally_with 0 stir (tally_of past)
  pub stopped : has_stopped journal ≡ has_stopped past
  pub asked : has_asked journal ≡ has_asked past
  pub crowd : open_sessions journal ≡ open_sessions past

-- how far a turn of a session is, and what it finds there: the daemon, the listeners and the session's connections
pub record SessionTurn (C : Type 0) : Type 0 where
  pub phase : TurnPhase
  pub daemon : Core
  pub listeners : Option ListenerTrace
  pub link : SessionLink C

abbrev pub session_turn : {C : Type 0} → TurnPhase → Core → Option ListenerTrace → SessionLink C → SessionTurn C
session_turn phase daemon listeners link = record { phase = phase; daemon = daemon; listeners = listeners; link = link }

-- whatever came before, the journal goes on from the one daemon, listener trace and link to the others
pub record JournalGoesOn {C : Type 0} (history : C → Option ConnectionTrace) (was : SessionTurn C) (stir : Bool)
    (now : SessionTurn C) : Type 0 where
  pub same : now.link.id ≡ was.link.id
  pub goes : (d0 : Core) (n0 : Option ListenerTrace) (past : List LoopAction)
      → JournalLeads d0 n0 past was.daemon was.listeners
      → LinkMatches history was.phase (projection_of was.link.id.number past) was.link
      → HasGoneOn history now.phase d0 n0 past was.link.id.number stir now.daemon now.listeners now.link

-- what feeding a session may change: the daemon, the listeners, and whether the session is over
pub record SessionFeed : Type 0 where
  pub daemon : Core
  pub listeners : Option ListenerTrace
  pub is_over : Bool

-- what the loop is lent, with whether the session is over
abbrev pub fed_to : DaemonAndListeners → Bool → SessionFeed
fed_to here is_over = record { daemon = here.daemon; listeners = here.listeners; is_over = is_over }

-- a session was fed, it is over now or not, and where a frame began with that, and only there, the
-- listeners were asked to forget what had ended at its port
pub record Attends (id port : ℕ) (piece : List ℕ) (was now : SessionFeed) : Type 0 where
  pub fed : Fed
  pub begins : Bool
  pub is : now.is_over ≡ (was.is_over || ends_session fed)
  pub does : ActsOn id was.daemon (Feed piece fed begins) now.daemon
  pub forgets : begins ≡ true → IsForgotten port was.listeners now.listeners
  pub keeps : begins ≡ false → now.listeners ≡ was.listeners

-- one write of the record that waits, where there is a data connection and a record waits
abbrev pub SendsTo : {C : Type 0} → (C → Option ConnectionTrace) → Got → C → List ℕ → Option C → List ℕ → Type 0
SendsTo {C} history got conn records image rest =
    ((records ≡ []) × (got ≡ Nothing) × (image ≡ Some conn) × (rest ≡ records))
    ⊎ ((records ≢ []) × (c : C) × (image ≡ Some c) × (history c ≡ after_write got records (history conn))
    × (rest ≡ drop (bytes_moved got) records))

abbrev pub SendsIn : {C : Type 0} → (C → Option ConnectionTrace) → Got → Option C → List ℕ → Option C → List ℕ → Type 0
SendsIn history got None records image rest = (got ≡ Nothing) × (image ≡ None) × (rest ≡ records)
SendsIn history got (Some conn) records image rest = SendsTo history got conn records image rest

pub record SendsRecords {C : Type 0} (history : C → Option ConnectionTrace) (got : Got)
    (l k : SessionLink C) : Type 0 where
  pub link : k ≡ record l { image = k.image; records = k.records }
  pub sends : SendsIn history got l.image l.records k.image k.records

-- what the listeners keep once a data connection, where there is one, is handed back
abbrev pub hung_up : {C : Type 0} → (C → Option ConnectionTrace) → Option C → Option ListenerTrace
    → Option ListenerTrace
hung_up history None n = n
hung_up history (Some conn) n = with_notice (Back (history conn)) n

-- the journal went on to the end of this session's connections
pub record SessionHasEnded (d0 : Core) (n0 : Option ListenerTrace) (past : List LoopAction) (id : ℕ) (stir : Bool)
    (e : Core) (m : Option ListenerTrace) : Type 0 where
  pub journal : List LoopAction
  pub more : Extends past journal
  pub leads : JournalLeads d0 n0 journal e m
  pub gone : (projection_of id journal).is_open ≡ false
  pub dark : (projection_of id journal).imaging ≡ false
  pub others : (j : ℕ) → j ≢ id → projection_of j journal ≡ projection_of j past
  pub tally : tally_of journal ≡ tally_with 1 stir (tally_of past)
  pub stopped : has_stopped journal ≡ has_stopped past
  pub asked : has_asked journal ≡ has_asked past
  pub crowd : open_sessions journal ≡ open_sessions past - 1

-- whatever came before, where the session may be left or all turns are over, all connections of
-- the link are handed back, and that alone is done
pub record LeavesSession {C : Type 0} (history : C → Option ConnectionTrace) (was : DaemonAndListeners)
    (l : SessionLink C) (now : DaemonAndListeners) : Type 0 where
  pub goes : (phase : TurnPhase) (d0 : Core) (n0 : Option ListenerTrace) (past : List LoopAction)
      → JournalLeads d0 n0 past was.daemon was.listeners → LinkMatches history phase (projection_of l.id.number past) l
      → MayBeLeft (projection_of l.id.number past) ⊎ (has_stopped past ≡ true)
      → (ended : SessionHasEnded d0 n0 past l.id.number false now.daemon now.listeners) × Closing past ended.journal

-- ---- the slots, while a server takes its turns

abbrev pub link_at : {C : Type 0} → List (LinkSlot C) → ℕ → Option (SessionLink C)
link_at [] i = None
link_at (slot ∷ slots) zero = slot.link
link_at (slot ∷ slots) (suc i) = link_at slots i

abbrev pub one_if : Bool → ℕ
one_if true = 1
one_if false = 0

-- an empty slot has the room for a session
abbrev pub HasRooms : {C : Type 0} → LinkSlot C → Type 0
HasRooms slot = slot.link ≡ None → IsSome slot.rooms

-- how many of the first slots have a session
abbrev pub one_link : {C : Type 0} → Option (SessionLink C) → ℕ
one_link None = 0
one_link (Some l) = 1

unfoldable pub links_below : {C : Type 0} → ℕ → List (LinkSlot C) → ℕ
links_below zero slots = 0
links_below (suc n) slots = one_link (link_at slots n) + links_below n slots

-- a session had its turn, and is not to be left
abbrev pub HadTurn : {C : Type 0} → List LoopAction → SessionLink C → Type 0
HadTurn journal l =
    ((projection_of l.id.number journal).visited ≡ true)
    × ((projection_of l.id.number journal).over ≡ true → (projection_of l.id.number journal).drained ≡ false)
    × ((projection_of l.id.number journal).tended ≡ true)

-- **stands, went on (`ServingState`, `LoopInvariant`, `WentOn`, `TookTurn`, `HasTakenTurns`)**: behind a journal, of
-- the daemon, the listeners and the slots: each slot has one session at most, each session has one slot, its
-- connections tell its projection, the sessions of the first slots had their turn, and as many slots are taken as
-- sessions stand. The journal goes on (`Extends`), and so many sessions left. Or it goes on by ends alone (`Shuts`;
-- `Closing`, `Journal.antt`).
pub record ServingState (C : Type 0) : Type 0 where
  pub daemon : Core
  pub listeners : Option ListenerTrace
  pub had : ℕ
  pub slots : List (LinkSlot C)

abbrev pub serving_state : {C : Type 0} → Core → Option ListenerTrace → ℕ → List (LinkSlot C) → ServingState C
serving_state daemon listeners had slots = record { daemon = daemon; listeners = listeners; had = had; slots = slots }

-- what a visit of one slot adds to a turn, and what an accept does
abbrev pub of_visit : Visit → TurnResult
of_visit visit = record { has_moved = visit.has_moved; left = one_if visit.has_left }

abbrev pub none_left : Bool → TurnResult
none_left has_moved = record { has_moved = has_moved; left = 0 }

-- what the loop is lent, with the first slots that had their turn
abbrev pub serving : {C : Type 0} → DaemonAndListeners → ℕ → List (LinkSlot C) → ServingState C
serving here had slots = serving_state here.daemon here.listeners had slots

-- at most one session a slot, each session in one, each one's connections tell its projection, and those
-- of the first slots had their turn, and the others not
pub record LoopInvariant {C : Type 0} (history : C → Option ConnectionTrace) (start : DaemonAndListeners)
    (journal : List LoopAction) (now : ServingState C) : Type 0 where
  pub leads : JournalLeads start.daemon start.listeners journal now.daemon now.listeners
  pub place : ℕ → ℕ
  pub each : (i : ℕ) (l : SessionLink C) → link_at now.slots i ≡ Some l
      → (place l.id.number ≡ i) × LinkMatches history Fresh (projection_of l.id.number journal) l
  pub all : (id : ℕ) → (projection_of id journal).is_open ≡ true
      → (l : SessionLink C) × (link_at now.slots (place id) ≡ Some l) × (l.id.number ≡ id)
  pub dark : (id : ℕ) → (projection_of id journal).is_open ≡ false → (projection_of id journal).imaging ≡ false
  pub turned : (i : ℕ) (l : SessionLink C) → link_at now.slots i ≡ Some l → i < now.had → HadTurn journal l
  pub due : (i : ℕ) (l : SessionLink C) → link_at now.slots i ≡ Some l → now.had ≤ i
      → IsDue (projection_of l.id.number journal)
  pub inside : (i : ℕ) (l : SessionLink C) → link_at now.slots i ≡ Some l → i < most_sessions
  pub count : open_sessions journal ≡ links_below most_sessions now.slots

-- the journal went on in a turn in which a control connection was asked for, or eight sessions
-- stood; so many left, and something moved or not
pub record WentOn {C : Type 0} (history : C → Option ConnectionTrace) (start : DaemonAndListeners)
    (past : List LoopAction) (turn : TurnResult) (now : ServingState C) : Type 0 where
  pub journal : List LoopAction
  pub more : Extends past journal
  pub stands : LoopInvariant history start journal now
  pub tally : tally_of journal ≡ tally_with turn.left turn.has_moved (tally_of past)
  pub asked : has_asked journal ≡ true

-- whatever journal led there, in a turn in which a connection was asked for yet or not, it goes on
abbrev pub LeadsOn : {C : Type 0} → (C → Option ConnectionTrace) → Bool → ServingState C → TurnResult → ServingState C
    → Type 0
LeadsOn history asked was turn now =
    (start : DaemonAndListeners) (past : List LoopAction) → has_asked past ≡ asked
    → LoopInvariant history start past was
    → WentOn history start past turn now

-- the journal went on by a whole turn
pub record TookTurn {C : Type 0} (history : C → Option ConnectionTrace) (start : DaemonAndListeners)
    (past : List LoopAction) (turn : TurnResult) (now : ServingState C) : Type 0 where
  pub journal : List LoopAction
  pub more : Extends past journal
  pub stands : LoopInvariant history start (Turned ∷ journal) now
  pub tally : tally_of journal ≡ tally_with turn.left turn.has_moved (tally_of past)

-- whatever journal led there, it goes on by a whole turn
abbrev pub GoesRound : {C : Type 0} → (C → Option ConnectionTrace) → ServingState C → TurnResult → ServingState C
    → Type 0
GoesRound history was turn now =
    (start : DaemonAndListeners) (past : List LoopAction) → has_asked past ≡ false
    → LoopInvariant history start past was
    → TookTurn history start past turn now

-- so many turns were taken, nothing moved in so many at last, and so many sessions left
pub record HasTakenTurns {C : Type 0} (history : C → Option ConnectionTrace) (d0 : Core) (n0 : Option ListenerTrace)
    (left turns idle : ℕ) (e : Core) (m : Option ListenerTrace) (slots : List (LinkSlot C)) : Type 0 where
  pub journal : List LoopAction
  pub stands : LoopInvariant history (record { daemon = d0; listeners = n0 }) journal (serving_state e m 0 slots)
  pub tally : tally_of journal ≡ record { left = left; turns = turns; idle = idle; stir = false }
  pub anew : has_asked journal ≡ false

-- the journal went on by ends alone, and these slots are left
pub record Shuts {C : Type 0} (history : C → Option ConnectionTrace) (d0 : Core) (n0 : Option ListenerTrace)
    (past : List LoopAction) (e : Core) (m : Option ListenerTrace) (slots : List (LinkSlot C)) : Type 0 where
  pub journal : List LoopAction
  pub closing : Closing past journal
  pub stands : LoopInvariant history (record { daemon = d0; listeners = n0 }) journal (serving_state e m 0 slots)
  pub stopped : has_stopped journal ≡ true

-- turns were taken, and so many of them
pub record HasTakenAllTurns {C : Type 0} (history : C → Option ConnectionTrace) (start : DaemonAndListeners)
    (limits : ServeLimits) (end : ServeEnd) (now : ServingState C) : Type 0 where
  pub journal : List LoopAction
  pub stands : LoopInvariant history start journal now
  pub ends : LoopEndsBy end limits.sessions limits.idle_turns journal

-- wherever it began, all turns were taken
abbrev pub TakesAllTurns : {C : Type 0} → (C → Option ConnectionTrace) → ServeLimits → ServingState C → ServeEnd
    → ServingState C → Type 0
TakesAllTurns history limits was end now =
    (start : DaemonAndListeners) → LoopInvariant history start [] was → HasTakenAllTurns history start limits end now

-- a slot's session, where it has one, with the daemon and the listeners
pub record SlotVisit (C : Type 0) : Type 0 where
  pub daemon : Core
  pub listeners : Option ListenerTrace
  pub link : Option (SessionLink C)

-- what the loop is lent, with the session of a slot
abbrev pub visited : {C : Type 0} → DaemonAndListeners → Option (SessionLink C) → SlotVisit C
visited here link = record { daemon = here.daemon; listeners = here.listeners; link = link }

-- a slot's session goes on, or the slot is empty and nothing is done
abbrev pub KeepsLink : {C : Type 0} → (C → Option ConnectionTrace) → Core → Option ListenerTrace
    → Option (SessionLink C) → Bool → Core → Option ListenerTrace → Option (SessionLink C) → Type 0
KeepsLink history d n None stir e m None = (e ≡ d) × (m ≡ n) × (stir ≡ false)
KeepsLink history d n None stir e m (Some k) = ⊥
KeepsLink history d n (Some l) stir e m None = ⊥
KeepsLink history d n (Some l) stir e m (Some k) =
    JournalGoesOn history (session_turn Due d n l) stir (session_turn Shown e m k)

abbrev pub KeepsSession : {C : Type 0} → (C → Option ConnectionTrace) → SlotVisit C → Bool → SlotVisit C → Type 0
KeepsSession history was stir now =
    KeepsLink history was.daemon was.listeners was.link stir now.daemon now.listeners now.link

-- a slot is empty afterwards
abbrev pub Empties : {C : Type 0} → (C → Option ConnectionTrace) → DaemonAndListeners → Option (SessionLink C)
    → DaemonAndListeners → Type 0
Empties history was None now = (now.daemon ≡ was.daemon) × (now.listeners ≡ was.listeners)
Empties history was (Some l) now = LeavesSession history was l now

-- the session of a slot is to be left just where it is done
abbrev pub IsToBeLeft : {C : Type 0} → Bool → Option (SessionLink C) → Type 0
IsToBeLeft has_left None = has_left ≡ false
IsToBeLeft has_left (Some l) = has_left ≡ l.is_done

-- a new session's link
abbrev pub IsNewLink : {C : Type 0} → C → SessionId → ℕ → Option (SessionLink C) → Type 0
IsNewLink conn id port None = ⊥
IsNewLink conn id port (Some l) =
    (l.conn ≡ conn)
    × (l.id ≡ id)
    × (l.port ≡ port)
    × (l.replies ≡ [])
    × (l.image ≡ None)
    × (l.is_over ≡ false)
    × (l.is_done ≡ false)

abbrev pub IsLinkOf : {C : Type 0} → (C → Option ConnectionTrace) → List LoopAction → List LoopAction → ℕ
    → Option (SessionLink C) → Type 0
IsLinkOf history past journal id None = projection_of id journal ≡ projection_of id past
IsLinkOf history past journal id (Some l) =
    (l.id.number ≡ id)
    × (projection_of id past ≡ empty_projection)
    × LinkMatches history Fresh (projection_of id journal) l
    × IsDue (projection_of id journal)

-- a new session's link, or none: a connection may have been refused
pub record HasGreeted {C : Type 0} (history : C → Option ConnectionTrace) (d0 : Core) (n0 : Option ListenerTrace)
    (past : List LoopAction) (stir : Bool) (e : Core) (m : Option ListenerTrace) (id : ℕ)
    (link : Option (SessionLink C)) : Type 0 where
  pub journal : List LoopAction
  pub more : Extends past journal
  pub leads : JournalLeads d0 n0 journal e m
  pub others : (j : ℕ) → j ≢ id → projection_of j journal ≡ projection_of j past
  pub met : IsLinkOf history past journal id link
  pub tally : tally_of journal ≡ tally_with 0 stir (tally_of past)
  pub asked : has_asked journal ≡ true
  pub crowd : open_sessions journal ≡ open_sessions past + one_link link

pub record Greets {C : Type 0} (history : C → Option ConnectionTrace) (was : DaemonAndListeners) (stir : Bool)
    (now : DaemonAndListeners) (link : Option (SessionLink C)) : Type 0 where
  pub greets : (d0 : Core) (n0 : Option ListenerTrace) (past : List LoopAction)
      → JournalLeads d0 n0 past was.daemon was.listeners → MayAsk past
      → HasGreeted history d0 n0 past stir now.daemon now.listeners was.daemon.opened link

-- what still stood was ended, and nothing else was done
pub record ClosesAll (start : DaemonAndListeners) (past : List LoopAction) (now : DaemonAndListeners) : Type 0 where
  pub journal : List LoopAction
  pub closing : Closing past journal
  pub leads : JournalLeads start.daemon start.listeners journal now.daemon now.listeners
  pub over : NothingIsOpen journal

-- whatever journal led to a stop, all is closed
abbrev pub ClosesBehind : {C : Type 0} → (C → Option ConnectionTrace) → ServingState C → DaemonAndListeners → Type 0
ClosesBehind history was now =
    (start : DaemonAndListeners) (past : List LoopAction) → has_stopped past ≡ true
    → LoopInvariant history start past was
    → ClosesAll start past now
