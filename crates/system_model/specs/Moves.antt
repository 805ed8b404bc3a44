-- The next move of a job: what is to be done so that it goes on.
use Rattle.std.specs.Prelude.{ℕ, ◌≡◌, false, None}
use Rattle.system_model.specs.SystemStates.{JobState}
use Rattle.system_model.specs.Actions
use Rattle.system_model.specs.Actions.{Action}

-- **next move (`IsMove`, `turn_of`)**: an action that no user, no failure and no lack of memory does; a loss only when
-- the session is over. They are looked for in the order connect, to the daemon, to the client, connect for data, data
-- to the client, data turn, loss.
abbrev pub IsMove : JobState → Action → Type 0
IsMove p Actions.Connects = Unit {0}
IsMove p (Actions.Answers challenge fault) = fault ≡ None
IsMove p (Actions.Hears reply) = Unit {0}
IsMove p Actions.Dials = Unit {0}
IsMove p (Actions.Turns bytes) = Unit {0}
IsMove p Actions.TurnsLast = Unit {0}
IsMove p (Actions.TurnsNamed status) = Unit {0}
IsMove p Actions.TurnsShort = Unit {0}
IsMove p (Actions.TurnsFault fault) = ⊥
IsMove p Actions.TurnsOff = Unit {0}
IsMove p (Actions.Reads bytes) = Unit {0}
IsMove p (Actions.Finishes status) = Unit {0}
IsMove p (Actions.Loses memory) = (memory ≡ false) × (p.served ≡ false)
IsMove p (Actions.LosesImage memory) = ⊥
IsMove p (Actions.Breaks memory) = ⊥
IsMove p Actions.RunsOutOfMemory = ⊥
IsMove p Actions.Stops = ⊥

-- the order in which moves are looked for: connect, to the daemon, to the client, connect for data, data to the client,
-- data turn, and then the loss
abbrev pub turn_of : Action → ℕ
turn_of Actions.Connects = 0
turn_of (Actions.Answers challenge fault) = 1
turn_of (Actions.Hears reply) = 2
turn_of Actions.Dials = 3
turn_of (Actions.Reads bytes) = 4
turn_of (Actions.Finishes status) = 4
turn_of (Actions.Turns bytes) = 5
turn_of Actions.TurnsLast = 5
turn_of (Actions.TurnsNamed status) = 5
turn_of Actions.TurnsShort = 5
turn_of (Actions.TurnsFault fault) = 5
turn_of Actions.TurnsOff = 5
turn_of (Actions.Loses memory) = 6
turn_of (Actions.LosesImage memory) = 7
turn_of (Actions.Breaks memory) = 7
turn_of Actions.RunsOutOfMemory = 7
turn_of Actions.Stops = 7
