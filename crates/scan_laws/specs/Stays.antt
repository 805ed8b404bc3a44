-- What a call leaves as it was.
use Rattle.std.specs.Prelude.{ℕ, ◌≡◌, ◌⊎◌, true, List}
use Rattle.page_picture.specs.Page.{IsShaped, IsPageView}
use Rattle.page_picture.specs.Source.{SourceState}
use Rattle.device_api.specs.State.{DeviceState, HeldPage, with_failure_count, feeds, is_at_rest, left_behind}

-- the same pages; of the first another count of failures may stand
abbrev pub AreSamePages : List HeldPage → List HeldPage → Type 0
AreSamePages old new = (new ≡ old) ⊎ ((n : ℕ) × (new ≡ with_failure_count n old))

-- a feeder that is at rest let go of its first page
pub record LetsGo (s t : DeviceState) : Type 0 where
  pub is_feeder : feeds s ≡ true
  pub rests : is_at_rest t.phase ≡ true
  pub pages : t.pages ≡ left_behind true s.pages

-- **same scan (`IsSameScan`, `LetsGo`)**: the options and the pages are those of before, but for the count of failures;
-- a feeder that is at rest let go of its first page.
--
-- Only the phase and the count of failures may have changed, and a feeder may have let go of its first page. The
-- options, all other pages and the steadiness of their sources stay.
pub record IsSameScan (s t : DeviceState) : Type 0 where
  pub info : t.info ≡ s.info
  pub setup : t.setup ≡ s.setup
  pub pages : AreSamePages s.pages t.pages ⊎ LetsGo s t

-- the limits of a page source
pub record IsSourceShaped (source : SourceState) : Type 0 where
  pub page : IsShaped source.page
  pub view : source.steady ≡ true → IsPageView source.page
