-- What a whole run of a server did.
use Rattle.std.specs.Prelude.{◌≡◌, ℕ, ◌+◌, ◌≤◌, ◌<◌, false, Option, List, [], ◌∷◌}
use Rattle.device_api.specs.State.{DeviceState}
use Rattle.saned_core.specs.DaemonStates.{Core, DaemonState, core}
use Rattle.saned_serve.specs.ListenerTraces.{ListenerTrace}
use Rattle.saned_serve.specs.Journal.{LoopAction, projection_of, Closing, JournalLeads, tally_of, most_sessions}
use Rattle.saned_serve.specs.Journal.LoopAction.{Stops}
use Rattle.saned_serve.specs.declared.serving.ServeEnd.{ServeEnd}
use Rattle.saned_serve.specs.declared.serving.ServeEnd.TheVariants.{Sessions, Idle, Turns, NoMem}

abbrev pub most_turns : ℕ
most_turns = 1099511627776

-- why the turns ended: as many sessions left as were to be served (0: no such end), and fewer than a turn's slots more;
-- or fewer sessions left, and nothing moved in as many turns in a row as were to be waited; or neither, and all turns
-- were taken; or there was no memory, and no turn
abbrev pub LoopEndsBy : ServeEnd → ℕ → ℕ → List LoopAction → Type 0
LoopEndsBy Sessions sessions waits turns =
    (0 < sessions)
    × (sessions ≤ (tally_of turns).left)
    × ((tally_of turns).left < sessions + most_sessions)
LoopEndsBy Idle sessions waits turns =
    (0 < sessions → (tally_of turns).left < sessions)
    × (waits ≤ (tally_of turns).idle)
LoopEndsBy Turns sessions waits turns =
    (0 < sessions → (tally_of turns).left < sessions)
    × ((tally_of turns).idle < waits)
    × ((tally_of turns).turns ≡ most_turns)
LoopEndsBy NoMem sessions waits turns = turns ≡ []

-- nothing stands at the end of a journal
pub record NothingIsOpen (journal : List LoopAction) : Type 0 where
  pub gone : (id : ℕ) → (projection_of id journal).is_open ≡ false
  pub dark : (id : ℕ) → (projection_of id journal).imaging ≡ false

-- a daemon, and all that its listeners were asked
pub record DaemonAndListeners : Type 0 where
  pub daemon : Core
  pub listeners : Option ListenerTrace

-- the daemon and the listeners that the loop is lent, as it is known what its devices are and what the listeners were
-- asked
abbrev pub lent : {D L : Type 0} → (D → DeviceState) → (L → Option ListenerTrace) → DaemonState D → L
    → DaemonAndListeners
lent state trace daemon net = record { daemon = core state daemon; listeners = trace net }

-- when a server is to end: after so many sessions (0: no such end), or after so many turns in a row in which
-- nothing moved
pub record ServeLimits : Type 0 where
  pub sessions : ℕ
  pub idle_turns : ℕ

-- **served (`HasServed`, `NothingIsOpen`, `LoopEndsBy`)**: what a whole run did: the journal of its turns, and behind
-- it only data connections handed back and sessions left, until none stands. The journal of the turns tells why they
-- ended: as many sessions left as were to be served, fewer than eight more; or fewer sessions left, and nothing moved
-- in so many turns in a row at last; or neither, and 2^40 turns were taken.
pub record HasServed (limits : ServeLimits) (was now : DaemonAndListeners) (end : ServeEnd) : Type 0 where
  pub turns : List LoopAction
  pub journal : List LoopAction
  pub closing : Closing (Stops ∷ turns) journal
  pub leads : JournalLeads was.daemon was.listeners journal now.daemon now.listeners
  pub over : NothingIsOpen journal
  pub ends : LoopEndsBy end limits.sessions limits.idle_turns turns
