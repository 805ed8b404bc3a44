-- What a job's streams gave and took, as far as their traits tell it.
use Rattle.std.specs.Prelude.{ℕ, ◌≡◌, ◌⊎◌, Option, Some, None, List, [], ◌∷◌, ◌++◌, option_map}
use Rattle.std.specs.Io.KnownBytes.{Appends, Consumes}
use Rattle.net_jobs.specs.JobJournal.{JobMove, Writes, Fails, Hears, Prepares, Dials, Loses}

-- ---- the control connection, and the ports of the data connections

-- **Calls**: what the moves of a journal make of the control connection and of the ports that were asked for, as far as
-- these are told. A dial **brings** the first of the connections to come, where these are known; each **begins with** a
-- frame's stream.
--
-- a job's control connection, and what makes its data connections
pub record JobLinks (C D : Type 0) : Type 0 where
  pub control : C
  pub dial : D

-- the ports that were asked for, and those that it was told of before, the newest first
pub record PortsTold : Type 0 where
  pub asked : Option (List ℕ)
  pub prepared : Option (List ℕ)

-- what such links tell: what reads of the control connection will give, what was written to it, and the ports
pub record LinkViews (L : Type 0) : Type 0 where
  pub remaining : L → Option (List ℕ)
  pub contents : L → Option (List ℕ)
  pub ports : L → PortsTold

abbrev pub views_of : {C D : Type 0} → (C → Option (List ℕ)) → (C → Option (List ℕ)) → (D → Option (List ℕ))
    → (D → Option (List ℕ)) → LinkViews (JobLinks C D)
views_of remaining contents ports prepared = record {
  remaining = λ l. remaining l.control;
  contents = λ l. contents l.control;
  ports = λ l. record { asked = ports l.dial; prepared = prepared l.dial };
}

-- a data connection at that port was asked for
abbrev pub with_port : ℕ → Option (List ℕ) → Option (List ℕ)
with_port port asked = option_map (λ ports. port ∷ ports) asked

-- what makes data connections was told of one at that port that is to come, or makes none before it is asked for
abbrev pub IsPrepared : ℕ → Option (List ℕ) → Option (List ℕ) → Type 0
IsPrepared port was now = (now ≡ was) ⊎ (now ≡ with_port port was)

-- it was told of that port, if there is one
abbrev pub IsTold : Option ℕ → Option (List ℕ) → Option (List ℕ) → Type 0
IsTold None was now = now ≡ was
IsTold (Some port) was now = IsPrepared port was now

-- What a move makes of the links. (That a read leaves what was written, or a write what is to be read, is in no clause
-- of a stream's traits, so this goes call by call.)
abbrev pub Called : {L : Type 0} → LinkViews L → L → JobMove → L → Type 0
Called views was (Writes bytes) now = Appends (views.contents was) (views.contents now) bytes
    × (views.ports now ≡ views.ports was)
Called views was (Fails bytes) now = Appends (views.contents was) (views.contents now) bytes
    × (views.ports now ≡ views.ports was)
Called views was (Hears piece) now = Consumes (views.remaining was) (views.remaining now) piece
    × (views.ports now ≡ views.ports was)
Called views was (Loses link reason) now = Consumes (views.remaining was) (views.remaining now) []
    × (views.ports now ≡ views.ports was)
Called views was (Prepares port) now =
    (views.remaining now ≡ views.remaining was) × (views.contents now ≡ views.contents was)
    × ((views.ports now).asked ≡ (views.ports was).asked)
    × IsPrepared port (views.ports was).prepared (views.ports now).prepared
Called views was (Dials port made) now =
    (views.remaining now ≡ views.remaining was) × (views.contents now ≡ views.contents was)
    × (views.ports now ≡ record (views.ports was) { asked = with_port port (views.ports was).asked })
Called views was move now = now ≡ was

-- what a journal makes of them
abbrev pub Calls : {L : Type 0} → LinkViews L → L → List JobMove → L → Type 0
Calls views first [] now = now ≡ first
Calls {L} views first (move ∷ moves) now = (was : L) × Calls views first moves was × Called views was move now

-- ---- the data connections

-- The bytes of the connections that are to come, one dial after another, where they are known: a dial brings the first.
abbrev pub DialBrings : Option (List (List ℕ)) → Option (List (List ℕ)) → Option (List ℕ) → Type 0
DialBrings None now remaining = Unit {0}
DialBrings (Some []) now remaining = ⊥
DialBrings (Some (whole ∷ others)) now remaining = (now ≡ Some others) × (remaining ≡ Some whole)

-- those that came are the first of what was to come
abbrev pub HasBrought : Option (List (List ℕ)) → Option (List (List ℕ)) → List (List ℕ) → Type 0
HasBrought None now wholes = Unit {0}
HasBrought (Some all) now wholes = (others : List (List ℕ)) × (now ≡ Some others) × (all ≡ wholes ++ others)

-- each connection's bytes begin with a stream's
abbrev pub BeginWith : List (List ℕ) → List (List ℕ) → Type 0
BeginWith [] [] = Unit {0}
BeginWith [] (stream ∷ streams) = ⊥
BeginWith (whole ∷ wholes) [] = ⊥
BeginWith (whole ∷ wholes) (stream ∷ streams) = ((more : List ℕ) × (whole ≡ stream ++ more)) × BeginWith wholes streams
