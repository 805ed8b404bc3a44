-- One order of all that a server and the loops of some jobs do: an interleaving of their journals. All have the newest
-- first.
use Rattle.std.specs.Prelude.{ℕ, ◌+◌, List, [], ◌∷◌, ◌++◌, if◌then◌else◌, ◌==◌}
use Rattle.saned_serve.specs.SessionActions.{SessionAction}
use Rattle.saned_serve.specs.SessionActions.SessionAction.{Connect}
use Rattle.saned_serve.specs.Journal.{LoopAction}
use Rattle.saned_serve.specs.Journal.LoopAction.{Of}

-- **traffic (`Traffic`, `bytes_sent`, `bytes_heard`, `bytes_taken`, `connections_made`, `connections_accepted`)**: what
-- a move does on its job's connections. It writes bytes to the control connection, or reads some of it, or makes a data
-- connection, or reads bytes of the newest one, or does none of that. Then what all moves of a journal do, and how many
-- data connections a session was given.
pub data Traffic : Type 0 where
  -- these bytes are written to the control connection
  Writes : (bytes : List ℕ) → Traffic
  -- these are read from it
  Reads : (bytes : List ℕ) → Traffic
  -- a data connection is made
  Dials : Traffic
  -- these bytes are read from the one that was made last
  Takes : (bytes : List ℕ) → Traffic
  -- nothing of that
  NoTraffic : Traffic

-- **interleaving (`JointAction`, `server_journal`, `job_journal`)**: a list, newest first, of a server's actions and of
-- moves of jobs, each with its job's number; the journal of each in it.
--
-- the moves of jobs are of some type M
pub data JointAction (M : Type 0) : Type 0 where
  OfServer : (action : LoopAction) → JointAction M
  OfJob : (job : ℕ) (move : M) → JointAction M

-- ---- each one's own journal

unfoldable pub server_journal : {M : Type 0} → List (JointAction M) → List LoopAction
server_journal [] = []
server_journal (OfServer action ∷ past) = action ∷ server_journal past
server_journal (OfJob job move ∷ past) = server_journal past

unfoldable pub job_journal : {M : Type 0} → ℕ → List (JointAction M) → List M
job_journal i [] = []
job_journal i (OfServer action ∷ past) = job_journal i past
job_journal i (OfJob job move ∷ past) = if job == i then move ∷ job_journal i past else job_journal i past

-- ---- what passed over the connections of a job, as its moves are seen

abbrev pub sent_with : Traffic → List ℕ → List ℕ
sent_with (Writes bytes) sent = sent ++ bytes
sent_with (Reads bytes) sent = sent
sent_with Dials sent = sent
sent_with (Takes bytes) sent = sent
sent_with NoTraffic sent = sent

abbrev pub heard_with : Traffic → List ℕ → List ℕ
heard_with (Writes bytes) heard = heard
heard_with (Reads bytes) heard = heard ++ bytes
heard_with Dials heard = heard
heard_with (Takes bytes) heard = heard
heard_with NoTraffic heard = heard

-- of the data connection that was made last
abbrev pub taken_with : Traffic → List ℕ → List ℕ
taken_with (Writes bytes) taken = taken
taken_with (Reads bytes) taken = taken
taken_with Dials taken = []
taken_with (Takes bytes) taken = taken ++ bytes
taken_with NoTraffic taken = taken

abbrev pub made_with : Traffic → ℕ → ℕ
made_with (Writes bytes) count = count
made_with (Reads bytes) count = count
made_with Dials count = count + 1
made_with (Takes bytes) count = count
made_with NoTraffic count = count

unfoldable pub bytes_sent : {M : Type 0} → (M → Traffic) → List M → List ℕ
bytes_sent seen [] = []
bytes_sent seen (move ∷ moves) = sent_with (seen move) (bytes_sent seen moves)

unfoldable pub bytes_heard : {M : Type 0} → (M → Traffic) → List M → List ℕ
bytes_heard seen [] = []
bytes_heard seen (move ∷ moves) = heard_with (seen move) (bytes_heard seen moves)

unfoldable pub bytes_taken : {M : Type 0} → (M → Traffic) → List M → List ℕ
bytes_taken seen [] = []
bytes_taken seen (move ∷ moves) = taken_with (seen move) (bytes_taken seen moves)

unfoldable pub connections_made : {M : Type 0} → (M → Traffic) → List M → ℕ
connections_made seen [] = 0
connections_made seen (move ∷ moves) = made_with (seen move) (connections_made seen moves)

-- ---- and how many data connections a session was given

abbrev pub accepted_with : SessionAction → ℕ → ℕ
accepted_with (Connect port) count = count + 1
accepted_with act count = count

abbrev pub accepted_after : LoopAction → ℕ → ℕ → ℕ
accepted_after (Of number act) k count = if number == k then accepted_with act count else count
accepted_after action k count = count

unfoldable pub connections_accepted : ℕ → List LoopAction → ℕ
connections_accepted k [] = 0
connections_accepted k (action ∷ past) = accepted_after action k (connections_accepted k past)
