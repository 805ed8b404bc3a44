-- The port of a frame that is told before it is wanted.
use Rattle.std.specs.Prelude.{ℕ, Option, Some, None}
use Rattle.client_replies.specs.declared.progress.Progress.{Progress}
use Rattle.client_replies.specs.declared.progress.Progress.TheVariants as stages

-- the port of the frame whose parameters are awaited
abbrev pub port_told : Progress → Option ℕ
port_told (stages.Shaping port order) = Some port
port_told progress = None
