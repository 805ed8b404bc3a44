-- A page that fails once: its n-th call of `next_row` and `rewind` is refused.
use Rattle.std.specs.Prelude.{ℕ, ◌+◌, ◌-◌, ◌^◌, ◌≡◌, ◌↔◌, min, Result, IsErr}
use Rattle.page_picture.specs.Source.{SourceState}

-- the source, how many calls were counted, and the number of the call that is refused, from 1; 0 for none
pub record FailingState : Type 0 where
  pub shown : SourceState
  pub calls : ℕ
  pub refused : ℕ

-- a call counts, up to the greatest number, and is refused just where its number is the one
pub record CountsCall {A E : Type 0} (old : FailingState) (result : Result A E) (new : FailingState) : Type 0 where
  pub calls : new.calls ≡ min (old.calls + 1) (2 ^ 64 - 1)
  pub refused : new.refused ≡ old.refused
  pub fails : IsErr result ↔ (old.calls + 1 ≡ old.refused)
