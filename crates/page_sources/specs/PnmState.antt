-- A page file that is read row by row.
use Rattle.std.specs.Prelude.{ℕ, ◌≡◌, Bool, true, false, Result, MatchResult}
use Rattle.page_picture.specs.Source.{SourceState}

-- **open page file (`PnmState`, `LosesRows`)**: the source that it shows, whether its rows are lost from a failure to
-- the next rewind, and how many calls of its reader failed.
pub record PnmState : Type 0 where
  pub shown : SourceState
  pub is_lost : Bool
  pub faults : ℕ

-- a call loses the rows just where it fails
abbrev pub LosesRows : {A E : Type 0} → Result A E → PnmState → Type 0
LosesRows result new = MatchResult result (λ _. new.is_lost ≡ false) (λ _. new.is_lost ≡ true)
