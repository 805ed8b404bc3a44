use Rattle.std.proofs.Common.{◌≡◌, drop}
use Rattle.std.specs.Prelude.{map, string_bytes}
use Rattle.saned_cli.specs.OptionWords.{option_value_of}
use Rattle.saned_cli.proofs.daemon_options.option_value_of.Given as goal

abbrev pub invariant-loop-option : goal.invariant-loop-option
invariant-loop-option l = option_value_of l.start (map string_bytes (drop l.option-index l.options)) ≡ option_value_of l.start (map string_bytes l.options)
