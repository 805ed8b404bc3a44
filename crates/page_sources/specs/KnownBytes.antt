-- A reader that keeps its bytes.
use Rattle.std.specs.Prelude.{ℕ, ◌+◌, ◌^◌, ◌<◌, ◌≡◌, Bool, true, List, length, Result, MatchResult}

-- one more call failed just where this one did
abbrev pub CountsFault : {A E : Type 0} → ℕ → Result A E → ℕ → Type 0
CountsFault old result new = MatchResult result (λ _. new ≡ old) (λ _. new ≡ old + 1)

-- **the reader is to blame (`FailsByReader`, `FailsWithin`)**: where the reader keeps its bytes, and these are few
-- enough for 2^40 reads, a call of it failed meanwhile.
--
-- The reader is to blame: where it keeps its bytes and these are fewer than 2^39, so that 2^40 reads go through them
-- twice, a call of it failed meanwhile.
abbrev pub FailsByReader : Bool → List ℕ → ℕ → ℕ → Type 0
FailsByReader kept text old new = kept ≡ true → length text < 2 ^ 39 → old < new
