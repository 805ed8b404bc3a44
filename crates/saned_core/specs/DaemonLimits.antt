-- The limits of a daemon's sessions: eight places, and in each a session with a number of its own, below the count of
-- those that were opened. (That a table has at most sixteen devices is the registry's invariant, and a session's four
-- words are an array of four.)
use Rattle.std.specs.Prelude.{ℕ, ◌<◌, ◌≡◌, ◌≢◌, Option, Some, None, List, [], ◌∷◌, length}
use Rattle.saned_core.specs.declared.session_slot.SessionSlot.{SessionSlot}
use Rattle.saned_core.specs.DaemonStates.{DaemonState}

abbrev pub IsOtherSlot : {S : Type 0} → ℕ → Option (SessionSlot S) → Type 0
IsOtherSlot n None = Unit {0}
IsOtherSlot n (Some slot) = slot.number ≢ n

-- no session of these places has that number
abbrev pub IsFree : {S : Type 0} → ℕ → List (Option (SessionSlot S)) → Type 0
IsFree n [] = Unit {0}
IsFree n (slot ∷ slots) = IsOtherSlot n slot × IsFree n slots

-- each session has a number below that one, and no other session has it
abbrev pub HaveOwnNumbers : {S : Type 0} → ℕ → List (Option (SessionSlot S)) → Type 0
HaveOwnNumbers opened [] = Unit {0}
HaveOwnNumbers opened (None ∷ slots) = HaveOwnNumbers opened slots
HaveOwnNumbers opened (Some slot ∷ slots) = (slot.number < opened) × IsFree slot.number slots
    × HaveOwnNumbers opened slots

-- **limits (`HasDaemonLimits`)**: there are eight slots, and each session's number is below the count of those that
-- were opened, and no other session's. (A table has at most sixteen devices by the registry's invariant, and a session
-- four words by its type).
abbrev pub HasDaemonLimits : {S : Type 0} → DaemonState S → Type 0
HasDaemonLimits d = (length d.slots ≡ 8) × HaveOwnNumbers d.opened d.slots
