-- The row of a page that a line shows.
use Rattle.std.specs.Prelude.{ℕ, ◌+◌, ◌*◌, ◌<◌, ◌≤◌, ◌≡◌, false, List, length, slice_index}
use Rattle.page_picture.specs.Source.{SourceState, CountsFailure}

-- **rows taken (`TakesRows`, `StopsFailing`, `IsSeen`)**: rows are taken only forward; a call that fails is counted;
-- the row at hand holds what is seen at a height, on the page or off it.
--
-- rows were taken from the source, and nothing else happened
pub record TakesRows (old new : SourceState) : Type 0 where
  pub further : old.given ≤ new.given
  pub after : new ≡ record old { given = new.given }

-- rows were taken, then a call failed, of a source that can fail: that was counted, and nothing else happened
pub record StopsFailing (old new : SourceState) : Type 0 where
  pub fallible : old.infallible ≡ false
  pub further : old.given ≤ new.given
  pub counted : CountsFailure old.failures new.failures
  pub after : new ≡ record old { given = new.given; failures = new.failures }

-- a row of places with a white one behind its last
pub record IsWhiteBehind (width : ℕ) (row : List ℕ) : Type 0 where
  pub size : length row ≡ 3 * width + 3
  pub white : (k : ℕ) → k < 3 → slice_index row (3 * width + k) ≡ 65535
