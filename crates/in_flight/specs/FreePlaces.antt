-- That a daemon of which fewer than eight sessions stand has a place for one more.
use Rattle.std.specs.Prelude.{ℕ, ◌≡◌, ◌≢◌, ◌<◌, false, None, List, length, Contains}
use Rattle.saned_core.specs.DaemonLimits.{HasDaemonLimits}
use Rattle.saned_core.specs.DaemonStates.{Core, all_slots_taken, session_slot_of}

-- **a place is left (`FewerThanEightLeaveAPlace`)**: where all that stand have their numbers among fewer than eight, a
-- slot is free.
abbrev pub FewerThanEightLeaveAPlace : Type 0
FewerThanEightLeaveAPlace = (d : Core) (numbers : List ℕ) → HasDaemonLimits d
    → ((n : ℕ) → session_slot_of d.slots n ≢ None → Contains numbers n) → length numbers < 8
    → all_slots_taken d.slots ≡ false
