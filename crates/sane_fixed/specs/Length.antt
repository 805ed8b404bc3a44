-- Lengths in millimetres as words of 1/65536 (SANE's fixed numbers), and the dots that they span at a resolution.
use Rattle.std.specs.Prelude.{ℕ, ◌*◌, ◌/◌, ℤ, pos, negsuc}

-- **dots of a length (`px_of`)**: at `r` dots per inch a length of `w / 65536` mm spans floor(w * r * 10 / (254 *
-- 65536)) whole dots, and a negative one none. An inch is 25.4 mm. It is on numbers without bounds.
abbrev pub px_of : ℤ → ℕ → ℕ
px_of (pos word) resolution = word * resolution * 10 / (254 * 65536)
px_of (negsuc _) resolution = 0
