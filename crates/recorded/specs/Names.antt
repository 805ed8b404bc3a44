-- What stands in a record of outputs.
use Rattle.std.specs.Prelude.{ℕ, ◌≡◌, ⊤, Option, Some, None, List, [], ◌∷◌, ◌++◌}
use Rattle.scan_job.specs.Shelves.{Stock, ReturnedOutput}

-- **the name of a file (`name_entry`, `named_behind`, `IsNamed`)**: an output to named files tells 256, the name, and
-- 257, behind all that was taken before. In front of all stands one mark more, 258, so there are as many marks as files
-- were named. None of the three is a byte.
abbrev pub name_entry : List ℕ → List ℕ
name_entry name = 256 ∷ (name ++ 257 ∷ [])

abbrev pub named_behind : List ℕ → List ℕ → List ℕ
named_behind taken name = 258 ∷ (taken ++ name_entry name)

-- where an output tells what it took, it was told this name
abbrev pub IsNamed : List ℕ → Option (List ℕ) → Option (List ℕ) → Type 0
IsNamed name None now = ⊤
IsNamed name (Some taken) None = ⊥
IsNamed name (Some taken) (Some now) = now ≡ named_behind taken name

-- what a shelf was given back, and the number that was asked for last
abbrev pub stock_of : ℕ → List ReturnedOutput → Stock
stock_of number outputs = record { taken = outputs; number = number }
