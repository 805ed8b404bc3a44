-- Streams before a call and behind it, each with what is seen of it.
use Rattle.std.specs.Prelude.{ℕ, Option, List}
use Rattle.scan_job.specs.Shelves.{Stock}

-- **streams of a call (`passed`, `dialled`, `held`)**: each as it was before a call and as it is behind it. Of a
-- control connection one sees what reads of it will give and what was written to it. Of the dialer one sees the ports
-- that were asked for, those that it was told of before, and the bytes of the connections to come. Of an output, or a
-- shelf, one sees what it holds.
--
-- a control connection
pub record PassedControl (C : Type 0) : Type 0 where
  pub remaining : C → Option (List ℕ)
  pub contents : C → Option (List ℕ)
  pub was : C
  pub now : C

abbrev pub passed : {C : Type 0} → (C → Option (List ℕ)) → (C → Option (List ℕ)) → C → C → PassedControl C
passed remaining contents was now =
    record { remaining = remaining; contents = contents; was = was; now = now }

-- what makes data connections
pub record DialledPorts (D : Type 0) : Type 0 where
  pub ports : D → Option (List ℕ)
  pub prepared : D → Option (List ℕ)
  pub coming : D → Option (List (List ℕ))
  pub was : D
  pub now : D

abbrev pub dialled : {D : Type 0} → (D → Option (List ℕ)) → (D → Option (List ℕ)) → (D → Option (List (List ℕ))) → D
    → D → DialledPorts D
dialled ports prepared coming was now =
    record { ports = ports; prepared = prepared; coming = coming; was = was; now = now }

-- an output or a shelf
pub record HeldOutput (W O : Type 0) : Type 0 where
  pub contents : W → O
  pub was : W
  pub now : W

abbrev pub held : {W O : Type 0} → (W → O) → W → W → HeldOutput W O
held contents was now = record { contents = contents; was = was; now = now }

-- what the outputs of a job's files hold, where it is told: the one whose file is named, and the shelf of a batch's
pub record FilesHeld : Type 0 where
  pub named : Option (List ℕ)
  pub stock : Option Stock

abbrev pub files_held : Option (List ℕ) → Option Stock → FilesHeld
files_held named stock = record { named = named; stock = stock }
