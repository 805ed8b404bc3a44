-- Why a feeder is not made.
use Rattle.std.specs.Prelude.{ℕ, ◌<◌, ◌≤◌}
use Rattle.flatbed_dev.specs.declared.feeder.FeederFault.{FeederFault}
use Rattle.flatbed_dev.specs.declared.feeder.FeederFault.TheVariants.{TooMany, NoMem}

-- **fault of a feeder (`HasFeederFault`)**: there are more than 16 pages; or, where memory ran out, there are not.
abbrev pub HasFeederFault : FeederFault → ℕ → Type 0
HasFeederFault TooMany pages = 16 < pages
HasFeederFault NoMem pages = pages ≤ 16
