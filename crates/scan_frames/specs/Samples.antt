-- Where the samples of a line stand among its bytes, and what each is.
use Rattle.std.specs.Prelude.{ℕ, ◌*◌, ◌≤◌, ◌≡◌, List, slice_index}
use Rattle.scan_frames.specs.declared.setup.Packing.{Packing}
use Rattle.scan_frames.specs.declared.setup.Packing.TheVariants.{Bits, Bytes, Words}

-- all bytes from there on are zero
abbrev pub IsZeroFrom : ℕ → List ℕ → Type 0
IsZeroFrom start line = (j : ℕ) → start ≤ j → slice_index line j ≡ 0

-- the bytes behind the first i samples are zero; a line of bits is written whole
abbrev pub HasZeros : Packing → ℕ → List ℕ → Type 0
HasZeros Bits i line = Unit {0}
HasZeros Bytes i line = IsZeroFrom i line
HasZeros Words i line = IsZeroFrom (2 * i) line
