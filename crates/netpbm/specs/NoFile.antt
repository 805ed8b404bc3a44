-- Bytes among whose beginnings there is no file.
use Rattle.std.specs.Prelude.{ℕ, List, take}
use Rattle.netpbm.specs.Pnm.{IsWhole}

-- **holds no file (`HoldsNoFile`)**: no front of these bytes is a whole text, so a reader of the first picture finds
-- none.
abbrev pub HoldsNoFile : List ℕ → Type 0
HoldsNoFile text = (n : ℕ) → IsWhole (take n text) → ⊥
