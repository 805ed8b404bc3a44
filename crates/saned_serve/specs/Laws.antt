-- What laws of this crate say.
use Rattle.std.specs.Prelude.{◌≡◌, ℕ, List, Option, ◌∷◌, ◌++◌, false}
use Rattle.saned_core.specs.DaemonStates.{Core}
use Rattle.saned_serve.specs.ConnectionTraces.{ConnectionTrace, trace_bytes_read}
use Rattle.saned_serve.specs.SessionActions.{SessionAction}
use Rattle.saned_serve.specs.SessionActions.SessionAction.{Leaves}
use Rattle.saned_serve.specs.Journal.{LoopAction, IsJournal, DaemonRuns, projection_of}
use Rattle.saned_serve.specs.Journal.LoopAction.{Of}
use Rattle.saned_serve.specs.JournalSummary.{IsInJournal}

-- a session that was left was fed all that its control connection read
abbrev pub WasFedAll : Type 0
WasFedAll = (journal : List LoopAction) (id : ℕ) → IsJournal journal → (projection_of id journal).is_open ≡ false
    → trace_bytes_read (projection_of id journal).control ≡ (projection_of id journal).heard

-- behind the act that ends a session nothing is done for its number
abbrev pub NobodyActsAfterIt : Type 0
NobodyActsAfterIt =
    (since past : List LoopAction) (id port : ℕ) (trace : Option ConnectionTrace) (act : SessionAction) (d e : Core)
    → IsJournal (since ++ Of id (Leaves port trace) ∷ past) → DaemonRuns d (since ++ Of id (Leaves port trace) ∷ past) e
    → IsInJournal (Of id act) since → ⊥
