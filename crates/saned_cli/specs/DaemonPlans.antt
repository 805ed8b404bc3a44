-- What the words of saned's command line have it do.
use Rattle.std.specs.Prelude.{ℕ, ◌≡◌, Option, Some, None, Ok, IsErr, List, option_map, replicate, string_bytes, ⊤}
use Rattle.hex.specs.Hex.{decode_sized}
use Rattle.saned_cli.specs.OptionsOfDaemon.{AreDaemonOptions}
use Rattle.saned_cli.specs.declared.daemon_ending.DaemonEnding.{DaemonEnding}
use Rattle.saned_cli.specs.declared.daemon_ending.DaemonEnding.TheVariants.{BadCommandLine, BadSeed, NoMemory}
use Rattle.saned_cli.specs.declared.daemon_options.DaemonOptions.{DaemonOptions}
use Rattle.saned_cli.specs.declared.daemon_plan.DaemonPlan.{DaemonPlan}

-- the seed that the option says, or 32 bytes 0
abbrev pub IsSeedOf : Option (List ℕ) → List ℕ → Type 0
IsSeedOf None seed = seed ≡ replicate 32 0
IsSeedOf (Some text) seed = decode_sized text 32 ≡ Ok seed

-- the option says no seed that is one
abbrev pub HasBadSeed : Option (List ℕ) → Type 0
HasBadSeed None = ⊥
HasBadSeed (Some text) = IsErr (decode_sized text 32)

-- **the plan of saned's command line (`IsDaemonPlanOf`)**: the options of the words, and the seed that they say, or 32
-- bytes 0.
pub record IsDaemonPlanOf (words : List (List ℕ)) (plan : DaemonPlan) : Type 0 where
  pub options : AreDaemonOptions words plan.options
  pub seed : IsSeedOf (option_map string_bytes plan.options.seed) plan.seed

-- why there is no plan: the command line is refused, or what stands for its seed is none, or there is no memory
abbrev pub IsDaemonPlanRefusal : List (List ℕ) → DaemonEnding → Type 0
IsDaemonPlanRefusal words BadCommandLine = ⊤
IsDaemonPlanRefusal words BadSeed = (options : DaemonOptions) × AreDaemonOptions words options
    × HasBadSeed (option_map string_bytes options.seed)
IsDaemonPlanRefusal words NoMemory = ⊤
IsDaemonPlanRefusal words _ = ⊥
